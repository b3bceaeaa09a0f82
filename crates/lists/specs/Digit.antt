-- The value of a hexadecimal digit.
-- Assumes nothing.
use Rattle.std.specs.Prelude.{ℕ, ◌-◌, cond, leb, ltb, Option, Some, None}

-- `0` to `9`, `A` to `F`, `a` to `f`; none for any other byte
unfoldable pub digit_of : ℕ → Option ℕ
digit_of c =
    cond (ltb c 48) None
    (cond (leb c 57) (Some (c - 48))
    (cond (ltb c 65) None
    (cond (leb c 70) (Some (c - 55))
    (cond (ltb c 97) None
    (cond (leb c 102) (Some (c - 87)) None)))))
