-- What a computed answer says of the tests before it.
-- Assumes nothing.
use mathlib.Core.Path.{◌≡◌, refl}
use mathlib.Core.Bool.{Bool, true, false, cond}
use Rattle.std.specs.Prelude.{Option, None, Some}

pub some_same : {A : Type 0} {x y : A} → Some x ≡ Some y → x ≡ y
some_same e = cc

-- an answer that is there passed its test
pub passed : {A : Type 0} {o : Option A} {x : A} (b : Bool) → cond b o None ≡ Some x → (b ≡ true) × (o ≡ Some x)
passed true e = (refl, e)
passed false e = absurd cc
