-- Five columns are the text of the first n of five bytes.
-- Assumes nothing.
use mathlib.Core.Path.{◌≡◌, refl}
use mathlib.Core.List.{List, [], ◌∷◌}
use Prim.Native.Nat.{ℕ, zero, suc}
use native.Mathlib.Omega.{arith}
use borrow.Author.Tests.{lt-ltb}
use lib.Dec.{ltb}
use lib.ListN.{get_or}
use lib.Seq.{take-nil}
use Rattle.text.specs.Listing.{column_of, bytes_text, five}

module _ (a b c d e : ℕ) where
  -- the columns of p, q, r, s and t, a space between
  abbrev pub columns : (p q r s t : List ℕ) → List ℕ
  columns p q r s t =
      get_or p 0 0 ∷ get_or p 1 0 ∷ 32 ∷ get_or q 0 0 ∷ get_or q 1 0 ∷ 32 ∷ get_or r 0 0 ∷ get_or r 1 0 ∷ 32
      ∷ get_or s 0 0 ∷
      get_or s 1 0 ∷ 32 ∷ get_or t 0 0 ∷ get_or t 1 0 ∷ []

  pub shown : (n : ℕ) → columns (column_of (ltb 0 n) a) (column_of (ltb 1 n) b) (column_of (ltb 2 n) c)
      (column_of (ltb 3 n) d) (column_of (ltb 4 n) e) ≡ bytes_text n (five a b c d e)
  unfolding bytes_text
  shown zero = refl
  shown (suc zero) = refl
  shown (suc (suc zero)) = refl
  shown (suc (suc (suc zero))) = refl
  shown (suc (suc (suc (suc zero)))) = refl
  shown (suc (suc (suc (suc (suc n))))) =
      let m = suc (suc (suc (suc (suc n)))) in
      simp (
        lt-ltb 0 m (omega arith),
        lt-ltb 1 m (omega arith),
        lt-ltb 2 m (omega arith),
        lt-ltb 3 m (omega arith),
        lt-ltb 4 m (omega arith),
        take-nil {A = ℕ} n,
      )
