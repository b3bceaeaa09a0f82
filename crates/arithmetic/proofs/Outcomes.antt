-- What holds of both outcomes of a test holds of the test.
-- Assumes nothing.
use mathlib.Core.Path.{◌≡◌, refl}
use mathlib.Core.Bool.{Bool, true, false}
use Prim.Native.Nat.{ℕ, ◌≤◌, ◌<◌}
use package.borrow.Author.Tests.{leb-true, leb-false, eqb-true, eqb-false}
use lib.Dec.{leb, eqb}

outcome : {A B : Type 0} (P : Bool → Type 0) (t : Bool) → (t ≡ true → A) → (t ≡ false → B) →
    (A → P true) → (B → P false) → P t
outcome P true on off a b = a (on refl)
outcome P false on off a b = b (off refl)

pub at_leb : (P : Bool → Type 0) (a b : ℕ) → (a ≤ b → P true) → (b < a → P false) → P (leb a b)
at_leb P a b = outcome P (leb a b) (leb-true a b) (leb-false a b)

pub at_eqb : (P : Bool → Type 0) (a b : ℕ) → (a ≡ b → P true) → ((a ≡ b → ⊥) → P false) → P (eqb a b)
at_eqb P a b = outcome P (eqb a b) (eqb-true a b) (eqb-false a b)
