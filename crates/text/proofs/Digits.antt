-- Decimal digits: at most ten of them, the last after those of a tenth. They are the library's own.
-- Assumes nothing.
use Rattle.std.proofs.Common.{◌≡◌, ℕ, zero, suc, ◌+◌, ◌/◌, ◌%◌, ◌≤◌, ◌<◌, Bool, true, false, cond, ltb, List, []}
use Rattle.std.proofs.Common.{◌∷◌}
use Rattle.std.proofs.Common.{◌++◌, length, decimal, ◌∙◌, length-append, append-nil, arith, rules}
use Rattle.std.proofs.lemmas.Fmt.{decimal_digit, decimal_step, length-decimal-le, decimal_from_prepends}
use Rattle.text.specs.Number.{decimal_before, decimal_of}

decimal_is : (n : ℕ) → n < 4294967296 → decimal_of n ≡ decimal n
unfolding decimal_of
decimal_is n h =
    let few = length-decimal-le 10 n (omega arith) (omega arith) (omega arith) in
    decimal_from_prepends decimal_before (search rules) 10 n [] (omega arith) few ∙ append-nil (decimal n)

pub one_digit : (n : ℕ) → n < 10 → decimal_of n ≡ (48 + n) ∷ []
one_digit n h = decimal_is n (omega arith) ∙ decimal_digit n h

module _ (n : ℕ) (more : 10 ≤ n) (h : n < 4294967296) where
  pub decimal_next : decimal_of n ≡ decimal_of (n / 10) ++ ((48 + n % 10) ∷ [])
  decimal_next =
      let tenth : n / 10 < 4294967296 = omega arith in
      rw (decimal_is (n / 10) tenth) (decimal_is n h ∙ decimal_step n more (omega arith))

  pub one_more : length (decimal_of n) ≡ length (decimal_of (n / 10)) + 1
  one_more = rw decimal_next (length-append (decimal_of (n / 10)) ((48 + n % 10) ∷ []))

length_before : (k n : ℕ) (l : List ℕ) → length (decimal_before k n l) ≤ k + length l
length_before zero n l = omega arith
length_before (suc k) n l = by (ltb n 10) (length_before k (n / 10) ((48 + n % 10) ∷ l))
  where
    rest : List ℕ
    rest = decimal_before k (n / 10) ((48 + n % 10) ∷ l)

    by : (b : Bool) → length rest ≤ k + suc (length l) → length (cond b ((48 + n) ∷ l) rest) ≤ suc k + length l
    by true h = omega arith
    by false h = omega arith

pub decimal_most : (n : ℕ) → length (decimal_of n) ≤ 10
unfolding decimal_of
decimal_most n = omega (arith, length_before 10 n [])
