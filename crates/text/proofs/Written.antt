-- A text put after what a line holds makes it longer by this text, and the room by as much shorter; the room stays
-- zero.
-- Assumes nothing.
use mathlib.Core.Path.{◌≡◌, ap, sym, ◌∙◌}
use mathlib.Core.List.{List, ◌++◌, append_assoc}
use Prim.Native.Nat.{ℕ, ◌+◌, ◌-◌, ◌≤◌}
use native.Mathlib.Omega.{arith}
use lib.ListN.{length, take, drop, replicate, length-append}
use lib.Seq.{take_at, length-take-le}
use Rattle.std.proofs.lemmas.List.{drop-replicate, drop-drop, drop_at}
use Rattle.lists.specs.Splice.{spliced}

pub grown : (old : List ℕ) {new : List ℕ} (at : ℕ) {n : ℕ} (t : List ℕ) → new ≡ spliced old at t → n ≡ at + length t →
    at ≤ length old → take n new ≡ take at old ++ t
unfolding spliced
grown old at {n} t e h k =
    let whole : length (take at old ++ t) ≡ n = simp (length-append, length-take-le at old k) (omega arith) in
    rw (
      e,
      ← append_assoc (take at old) t (drop (at + length t) old),
      take_at (take at old ++ t) (drop (at + length t) old) n whole,
    )

-- where a line's room is zero, what is left of it after a text is zero
pub room_left : (old : List ℕ) {new : List ℕ} (at : ℕ) {n : ℕ} (t : List ℕ) → new ≡ spliced old at t →
    n ≡ at + length t → at ≤ length old → n ≤ 256 → take at old ++ replicate (256 - at) 0 ≡ old →
    take n new ++ replicate (256 - n) 0 ≡ new
unfolding spliced
room_left old at {n} t e h k m z =
    let zeros : drop at old ≡ replicate (256 - at) 0 =
    ap (drop at) (sym z) ∙ drop_at (take at old) (replicate (256 - at) 0) at (length-take-le at old k) in
    let rest : drop (at + length t) old ≡ replicate (256 - n) 0 =
    sym (drop-drop (length t) at old) ∙ ap (drop (length t)) zeros
    ∙ drop-replicate {X = ℕ} (length t) (256 - at) 0 ∙ ap (λ j. replicate {A = ℕ} j 0) (omega (arith, h, m)) in
    ap (λ l. l ++ replicate {A = ℕ} (256 - n) 0) (grown old at t e h k)
    ∙ append_assoc (take at old) t (replicate (256 - n) 0)
    ∙ ap (λ l. take at old ++ (t ++ l)) (sym rest) ∙ sym e
