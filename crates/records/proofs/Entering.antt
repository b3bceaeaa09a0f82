-- Bytes entered one after another: exactly those that lie in the window, where none is given twice, and each is then
-- found at its place.
-- Assumes nothing.
use Prim.Native.Nat.{ℕ, ◌+◌, ◌-◌, ◌≤◌, ◌<◌}
use mathlib.Core.Path.{◌≡◌, refl, ◌∙◌}
use mathlib.Core.Logic.{◌⊎◌, inl, inr}
use mathlib.Core.Bool.{true, and-eq-true_iff}
use mathlib.Core.List.{List, [], ◌∷◌}
use Rattle.std.specs.Prelude.{Some}
use native.Mathlib.Omega.{arith}
use native.Mathlib.Decide.{ℕ_discrete}
use borrow.Author.Tests.{le-leb, lt-ltb}
use lib.ListN.{length, get_or, set, length-set}
use lib.Seq.{get_or-set_same, get_or-set_other}
use Rattle.commands.specs.declared.header.Window.{Window}
use Rattle.commands.specs.Every.{Every, none, more}
use Rattle.ticket.specs.Rules.{In}
use Rattle.ticket.proofs.Says.{leb_says}
use Rattle.records.specs.Record.{Given, Once, Gives, here, there}
use Rattle.records.specs.Read.{free, enter}
use Rattle.records.proofs.Inverse.{passed, some_same}

given_is : (x : Given) (a b : ℕ) → a ≡ x.address → b ≡ x.byte → record { address = a; byte = b } ≡ x
given_is x a b e f = rw (e, f)

module _ (w : Window) where
  -- a free address lies in the window, and its cell is not given
  free_says : (cs : List ℕ) (a : ℕ) → free w cs a ≡ true → In w a × (256 ≤ get_or cs (a - w.start) 0)
  free_says cs a e = simp (and-eq-true_iff, leb_says) at e

  free_is : (cs : List ℕ) (a : ℕ) → In w a → 256 ≤ get_or cs (a - w.start) 0 → free w cs a ≡ true
  free_is cs a i h = simp (le-leb _ _ i.0, lt-ltb _ _ i.1, le-leb _ _ h)

  -- the cells after one byte more
  abbrev with : List ℕ → Given → List ℕ
  with cs x = set cs (x.address - w.start) x.byte

  -- the first of some bytes was free, and the others were entered after it
  entered_first : (cs ds : List ℕ) (x : Given) (g : List Given) → enter w cs (x ∷ g) ≡ Some ds
      → (In w x.address × (256 ≤ get_or cs (x.address - w.start) 0)) × (enter w (with cs x) g ≡ Some ds)
  unfolding enter
  entered_first cs ds x g e = let p = passed _ e in (free_says cs x.address p.0, p.1)

  pub none_entered : (cs ds : List ℕ) → enter w cs [] ≡ Some ds → cs ≡ ds
  unfolding enter
  none_entered cs ds e = some_same e

  -- another cell stays
  other : (cs : List ℕ) (x : Given) (j : ℕ) → 256 ≤ get_or cs (x.address - w.start) 0 → get_or cs j 0 < 256
      → get_or (with cs x) j 0 ≡ get_or cs j 0
  other cs x j free_there given = get_or-set_other cs _ j _ 0 (λ e. apart (rw e at given))
    where
      apart : get_or cs (x.address - w.start) 0 < 256 → ⊥
      apart h = omega arith

  -- what is given stays
  pub stays : (g : List Given) (cs ds : List ℕ) → enter w cs g ≡ Some ds → (j : ℕ) → get_or cs j 0 < 256
      → get_or ds j 0 ≡ get_or cs j 0
  stays [] cs ds e j h = rw (none_entered cs ds e)
  stays (x ∷ g) cs ds e j h =
      let f = entered_first cs ds x g e in
      let o = other cs x j f.0.1 h in
      stays g (with cs x) ds f.1 j (rw o h) ∙ o

  -- no byte is entered at an address that is given
  apart_from : (a : ℕ) (g : List Given) (cs ds : List ℕ) → enter w cs g ≡ Some ds → get_or cs (a - w.start) 0 < 256
      → Every (λ (y : Given). y.address ≡ a → ⊥) g
  apart_from a [] cs ds e h = none
  apart_from a (y ∷ g) cs ds e h =
      let f = entered_first cs ds y g e in
      more {a = y} (λ q. clash (rw q at f.0.1))
      (apart_from a g (with cs y) ds f.1 (rw (other cs y (a - w.start) f.0.1 h) h))
    where
      clash : 256 ≤ get_or cs (a - w.start) 0 → ⊥
      clash l = omega arith

  abbrev Bytes : List Given → Type 0
  Bytes g = Every (λ (x : Given). x.byte < 256) g

  -- the cells have a place for each address of the window
  module _ (fits : w.length ≤ 4096) where
    -- the cell of a byte that was just entered
    own : (cs : List ℕ) (x : Given) → length cs ≡ 4096 → In w x.address
        → get_or (with cs x) (x.address - w.start) 0 ≡ x.byte
    own cs x size i = get_or-set_same cs _ _ 0 (omega arith)

    sized : (cs : List ℕ) (x : Given) → length cs ≡ 4096 → length (with cs x) ≡ 4096
    sized cs x size = length-set cs _ _ ∙ size

    pub entered_once : (g : List Given) (cs ds : List ℕ) → length cs ≡ 4096 → Bytes g → enter w cs g ≡ Some ds → Once g
    entered_once [] cs ds size b e = Once.none
    entered_once (x ∷ g) cs ds size (more h b) e =
        let f = entered_first cs ds x g e in
        Once.more (apart_from x.address g (with cs x) ds f.1 (rw (own cs x size f.0.0) h))
        (entered_once g (with cs x) ds (sized cs x size) b f.1)

    pub entered_inside : (g : List Given) (cs ds : List ℕ) → enter w cs g ≡ Some ds
        → Every (λ (x : Given). In w x.address) g
    entered_inside [] cs ds e = none
    entered_inside (x ∷ g) cs ds e =
        let f = entered_first cs ds x g e in more f.0.0 (entered_inside g (with cs x) ds f.1)

    -- each byte is found at its place
    pub found : (g : List Given) (cs ds : List ℕ) → length cs ≡ 4096 → Bytes g → enter w cs g ≡ Some ds → (x : Given)
        → Gives x g → get_or ds (x.address - w.start) 0 ≡ x.byte
    found [] cs ds size b e y r = elim r [ ]
    found (x ∷ g) cs ds size (more h b) e y here =
        let f = entered_first cs ds x g e in
        let o = own cs x size f.0.0 in
        stays g (with cs x) ds f.1 (x.address - w.start) (rw o h) ∙ o
    found (x ∷ g) cs ds size (more h b) e y (there r) =
        let f = entered_first cs ds x g e in found g (with cs x) ds (sized cs x size) b f.1 y r

    pub entered_size : (g : List Given) (cs ds : List ℕ) → length cs ≡ 4096 → enter w cs g ≡ Some ds
        → length ds ≡ 4096
    entered_size [] cs ds size e = rw (← none_entered cs ds e) size
    entered_size (x ∷ g) cs ds size e =
        entered_size g (with cs x) ds (sized cs x size) (entered_first cs ds x g e).1

    -- a cell's byte and its address
    abbrev at : List ℕ → ℕ → Given
    at ds j = record { address = w.start + j; byte = get_or ds j 0 }

    -- a cell is as it was, or was given
    pub old_or_given : (g : List Given) (cs ds : List ℕ) → length cs ≡ 4096 → enter w cs g ≡ Some ds → (j : ℕ)
        → (get_or ds j 0 ≡ get_or cs j 0) ⊎ Gives (at ds j) g
    old_or_given [] cs ds size e j = inl (rw (none_entered cs ds e))
    old_or_given (x ∷ g) cs ds size e j = by_rest (old_or_given g (with cs x) ds (sized cs x size) f.1 j)
      where
        f : (In w x.address × (256 ≤ get_or cs (x.address - w.start) 0)) × (enter w (with cs x) g ≡ Some ds)
        f = entered_first cs ds x g e

        by_cell : get_or ds j 0 ≡ get_or (with cs x) j 0 → Dec (j ≡ x.address - w.start)
            → (get_or ds j 0 ≡ get_or cs j 0) ⊎ Gives (at ds j) (x ∷ g)
        by_cell q (no d) = inl (q ∙ get_or-set_other cs _ j _ 0 d)
        by_cell q (yes d) =
            let byte : get_or ds j 0 ≡ x.byte = q ∙ (rw d (own cs x size f.0.0)) in
            inr (rw (given_is x (w.start + j) (get_or ds j 0) (omega (arith, d, f.0.0)) byte) here)

        by_rest : (get_or ds j 0 ≡ get_or (with cs x) j 0) ⊎ Gives (at ds j) g
            → (get_or ds j 0 ≡ get_or cs j 0) ⊎ Gives (at ds j) (x ∷ g)
        by_rest (inr r) = inr (there r)
        by_rest (inl q) = by_cell q (ℕ_discrete j (x.address - w.start))

    -- bytes of the window, none twice and none at an address that is given, can be entered
    pub entered : (g : List Given) (cs : List ℕ) → length cs ≡ 4096 → Once g
        → Every (λ (x : Given). In w x.address × (256 ≤ get_or cs (x.address - w.start) 0)) g
        → (ds : List ℕ) × (enter w cs g ≡ Some ds)
    unfolding enter
    entered [] cs size o h = (cs, refl)
    entered (x ∷ g) cs size (Once.more apart o) (more free_x h) =
        let rest = entered g (with cs x) (sized cs x size) o (still_free apart h) in
        (rest.0, rw (free_is cs x.address free_x.0 free_x.1) rest.1)
      where
        still_free : {k : List Given} → Every (λ (y : Given). y.address ≡ x.address → ⊥) k
            → Every (λ (y : Given). In w y.address × (256 ≤ get_or cs (y.address - w.start) 0)) k
            → Every (λ (y : Given). In w y.address × (256 ≤ get_or (with cs x) (y.address - w.start) 0)) k
        still_free none none = none
        still_free (more {a = y} d ds) (more p ps) =
            more (
              p.0,
              rw (get_or-set_other cs (x.address - w.start) (y.address - w.start) x.byte 0
                  (λ e. d (omega (arith, e, p.0, free_x.0)))) p.1,
            )
            (still_free ds ps)
