-- The verdict's lines are short.
-- Assumes nothing.
use Rattle.std.proofs.Common.{◌≡◌, ℕ, ◌≤◌, length, length-append, refl, arith}
use Rattle.text.specs.Number.{hex_of}
use Rattle.text.specs.Verdict.{accept_line, refuse_line}
use Rattle.text.proofs.Digits.{decimal_most}

length_hex : (n : ℕ) → length (hex_of n) ≡ 4
unfolding hex_of
length_hex n = refl

pub accept_most : (e c s : ℕ) → length (accept_line e c s) ≤ 64
unfolding accept_line
accept_most e c s = simp (length-append, length_hex) (omega (arith, decimal_most c, decimal_most s))

pub refuse_most : (n p : ℕ) → length (refuse_line n p) ≤ 64
unfolding refuse_line
refuse_most n p = simp length-append (omega (arith, decimal_most n, decimal_most p))
