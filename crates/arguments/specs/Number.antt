-- The number that a text spells, in hexadecimal of either case or in decimal.
-- Assumes nothing.
use Rattle.std.specs.Prelude.{ℕ, ◌+◌, ◌*◌, cond, ◌&&◌, List, [], ◌∷◌, leb, ltb, Option, Some, None, option_and_then}
use Rattle.lists.specs.Digit.{digit_of}

-- a digit after those whose value is v: the value of all, where the base has the digit and the value is at most `most`
abbrev pub with_digit : (base most v : ℕ) → Option ℕ → Option ℕ
with_digit b most v None = None
with_digit b most v (Some d) = let w = v * b + d in cond (ltb d b && leb w most) (Some w) None

-- digits after those whose value is v
unfoldable pub spelled_from : (base most v : ℕ) → List ℕ → Option ℕ
spelled_from b most v [] = Some v
spelled_from b most v (c ∷ cs) =
    option_and_then (λ w. spelled_from b most w cs) (with_digit b most v (digit_of c))

-- a text without digits spells none
unfoldable pub number_of : (base most : ℕ) → List ℕ → Option ℕ
number_of b most [] = None
number_of b most (c ∷ cs) = spelled_from b most 0 (c ∷ cs)
