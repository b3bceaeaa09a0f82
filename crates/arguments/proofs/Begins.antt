-- Whether a text begins with another, as the library's functions on slices say it.
-- Assumes nothing.
use Rattle.std.proofs.Common.{◌≡◌, ℕ, Bool, true, false, ◌&&◌, List, [], ◌∷◌, length, take, eqb, nat_eq, refl}
use Rattle.std.proofs.Math.Dec.{eqb-suc-suc, eqb-suc-zero}
use Rattle.std.specs.Cmp.Lexicographic.{pointwise}
use Rattle.arguments.specs.Argument.{starts_with}

pub begins : (p s : List ℕ) → starts_with p s ≡ pointwise nat_eq (take (length p) s) p
unfolding starts_with
begins [] s = refl
begins (c ∷ cs) [] = refl
begins (c ∷ cs) (d ∷ ds) = rw (begins cs ds)

-- a text that is another whole
pub equals : (p s : List ℕ) → pointwise nat_eq s p ≡ (starts_with p s && eqb (length s) (length p))
unfolding starts_with
equals [] [] = refl
equals [] (d ∷ ds) = rw (eqb-suc-zero (length ds))
equals (c ∷ cs) [] = refl
equals (c ∷ cs) (d ∷ ds) = rw (eqb-suc-suc (length ds) (length cs), equals cs ds) (apart (eqb d c))
  where
    apart : (b : Bool) → (b && (starts_with cs ds && eqb (length ds) (length cs)))
        ≡ ((b && starts_with cs ds) && eqb (length ds) (length cs))
    apart true = refl
    apart false = refl
