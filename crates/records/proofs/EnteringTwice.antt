-- Bytes entered one lot after another.
-- Assumes nothing.
use Prim.Native.Nat.{ℕ, ◌-◌}
use mathlib.Core.Path.{◌≡◌, refl}
use mathlib.Core.Bool.{true}
use mathlib.Core.List.{List, [], ◌∷◌, ◌++◌}
use Rattle.std.specs.Prelude.{Some}
use lib.ListN.{set}
use Rattle.commands.specs.declared.header.Window.{Window}
use Rattle.records.specs.Record.{Given}
use Rattle.records.specs.Read.{free, enter}
use Rattle.records.proofs.Inverse.{some_same, passed}

module _ (w : Window) where
  pub enter_both : (g h : List Given) (cs es ds : List ℕ) → enter w cs g ≡ Some es → enter w es h ≡ Some ds
      → enter w cs (g ++ h) ≡ Some ds
  unfolding enter
  enter_both [] h cs es ds e f = rw (some_same e) f
  enter_both (x ∷ g) h cs es ds e f =
      let p = passed (free w cs x.address) e in
      rw p.0 (enter_both g h (set cs (x.address - w.start) x.byte) es ds p.1 f)

  enter_more : (x : Given) (g : List Given) (cs es : List ℕ) → free w cs x.address ≡ true
      → enter w (set cs (x.address - w.start) x.byte) g ≡ Some es → enter w cs (x ∷ g) ≡ Some es
  unfolding enter
  enter_more x g cs es f e = rw f e

  pub enter_split : (g h : List Given) (cs ds : List ℕ) → enter w cs (g ++ h) ≡ Some ds
      → (es : List ℕ) × (enter w cs g ≡ Some es) × (enter w es h ≡ Some ds)
  unfolding enter
  enter_split [] h cs ds e = (cs, refl, e)
  enter_split (x ∷ g) h cs ds e =
      let p = passed (free w cs x.address) e in
      let r = enter_split g h (set cs (x.address - w.start) x.byte) ds p.1 in
      (r.0, enter_more x g cs r.0 p.0 r.1, r.2)
