-- Steps through a text: a byte that the buffer takes or has no room for, and a byte before those that are left.
-- Assumes nothing.
use Rattle.std.proofs.Common.{◌≡◌, ℕ, ◌+◌, ◌<◌, List, [], ◌∷◌, ◌++◌, length, get_or, take, drop, set, add-one, arith}
use Rattle.std.proofs.Common.{length-take-le, drop-cons, take-suc-set}
use Rattle.vectors.specs.declared.count.Counts.{Counts}
use Rattle.vectors.specs.Text.{LineReading, reading, Next, longer, full, ReadsLines, then}

module _ (l : List ℕ) (n b : ℕ) (c : Counts) (size : length l ≡ 256) (other : b ≡ 10 → ⊥) where
  pub grown : n < 256 → Next b (reading (take n l) c) (reading (take (n + 1) (set l n b)) c)
  grown h =
      let k : n < length l = omega arith in
      let e : take (n + 1) (set l n b) ≡ take n l ++ (b ∷ []) = rw add-one (take-suc-set l n b k) in
      rw e (longer {l = take n l} other (omega (arith, length-take-le n l (omega arith))))

  pub no_room : n ≡ 256 → Next b (reading (take n l) c) (reading (take n l) c)
  no_room h = full {l = take n l} other (omega (arith, length-take-le n l (omega arith)))

pub further : (s : List ℕ) (i : ℕ) {p p' q : LineReading} → i < length s → Next (get_or s i 0) p p' →
    ReadsLines (drop (i + 1) s) p' q → ReadsLines (drop i s) p q
further s i h n r = rw (drop-cons s i 0) (then n (rw add-one at r))
