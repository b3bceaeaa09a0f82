-- A rule over a table, at each of its places by one test that antt computes.
-- Assumes nothing.
use mathlib.Core.Path.{subst}
use mathlib.Core.Bool.{Bool, true, false, ◌&&◌}
use mathlib.Core.List.{List, [], ◌∷◌}
use Prim.Native.Nat.{ℕ, zero, suc, ◌+◌, ◌<◌}
use native.Mathlib.Nat.{le_of_suc-le-suc, not-suc-le-zero}
use native.Mathlib.Omega.{arith}
use lib.Dec.{T}
use lib.ListN.{length, get_or}

pub both_left : (a b : Bool) → T (a && b) → T a
both_left true b t = tt
both_left false b t = t

pub both_right : (a b : Bool) → T (a && b) → T b
both_right true b t = t
both_right false b t = absurd t

-- f at the place and the entry of each place, from s on
abbrev pub every : {A : Type 0} → (ℕ → A → Bool) → ℕ → List A → Bool
every f s [] = true
every f s (x ∷ xs) = f s x && every f (suc s) xs

module _ {A : Type 0} (f : ℕ → A → Bool) (d : A) where
  from : (s : ℕ) (xs : List A) → T (every f s xs) → (k : ℕ) → k < length xs → T (f (s + k) (get_or xs k d))
  from s [] t k h = absurd (not-suc-le-zero h)
  from s (x ∷ xs) t zero h =
      subst (λ (i : ℕ). T (f i x)) (omega arith) (both_left (f s x) (every f (suc s) xs) t)
  from s (x ∷ xs) t (suc k) h =
      subst (λ (i : ℕ). T (f i (get_or xs k d))) (omega arith)
      (from (suc s) xs (both_right (f s x) (every f (suc s) xs) t) k (le_of_suc-le-suc h))

  pub at : (xs : List A) → T (every f 0 xs) → (k : ℕ) → k < length xs → T (f k (get_or xs k d))
  at xs t k h = subst (λ (i : ℕ). T (f i (get_or xs k d))) (omega arith) (from 0 xs t k h)
