-- What holds of every number below a bound, by one test of all; and which number the last arm of a match is left with.
-- Assumes nothing.
use Prim.Native.Nat.{ℕ, zero, suc, ◌<◌}
use native.Mathlib.Omega.{arith}
use mathlib.Core.Logic.{◌⊎◌, inl, inr, ⊎_elim}
use mathlib.Core.Path.{◌≡◌, refl}
use mathlib.Core.Bool.{Bool, true, false, ◌||◌, false≢true}
use mathlib.Core.List.{List, [], ◌∷◌}
use lib.Dec.{eqb}
use borrow.Author.Tests.{eqb-true}

-- what holds of every number below n
abbrev pub AllBelow : (ℕ → Type 0) → ℕ → Type 0
AllBelow P zero = Unit
AllBelow P (suc n) = P zero × AllBelow (λ b. P (suc b)) n

pub below : (P : ℕ → Type 0) (n : ℕ) → AllBelow P n → (b : ℕ) → b < n → P b
below P zero a b h = absurd (omega arith)
below P (suc n) a zero h = a.0
below P (suc n) a (suc b) h = below (λ b. P (suc b)) n a.1 b (omega arith)

-- a number is none of some, as the last arm of a match has it: the latest first
abbrev pub NoneOf : List ℕ → ℕ → Type 0
NoneOf [] b = Unit
NoneOf (k ∷ ks) b = NoneOf ks b × (b ≡ k → ⊥)

abbrev pub among : List ℕ → ℕ → Bool
among [] b = false
among (k ∷ ks) b = eqb b k || among ks b

by_test : (x y : Bool) → (x || y) ≡ true → (x ≡ true) ⊎ (y ≡ true)
by_test true y e = inl refl
by_test false y e = inr e

none_among : (ks : List ℕ) (b : ℕ) → NoneOf ks b → among ks b ≡ true → ⊥
none_among [] b n e = false≢true e
none_among (k ∷ ks) b n e =
    ⊎_elim (λ (t : eqb b k ≡ true). n.1 (eqb-true b k t)) (none_among ks b n.0) (by_test (eqb b k) (among ks b) e)

-- below n there are only some numbers and v
pub only : (n v : ℕ) (ks : List ℕ) → AllBelow (λ b. among (v ∷ ks) b ≡ true) n → (b : ℕ) → b < n → NoneOf ks b → b ≡ v
only n v ks a b h r =
    ⊎_elim (eqb-true b v) (λ (t : among ks b ≡ true). absurd (none_among ks b r t)) (by_test (eqb b v) (among ks b)
    (below (λ b. among (v ∷ ks) b ≡ true) n a b h))
