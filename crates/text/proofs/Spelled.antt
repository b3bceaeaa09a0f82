-- Numbers found again from their text: what `hex_of` and `decimal_of` write determines the number.
-- Assumes nothing.
use mathlib.Core.Path.{◌≡◌, refl, ap, ◌∙◌}
use mathlib.Core.Bool.{Bool, true, false, cond}
use mathlib.Core.List.{List, [], ◌∷◌, ◌++◌}
use Prim.Native.Nat.{ℕ, zero, suc, ◌+◌, ◌-◌, ◌*◌, ◌/◌, ◌%◌, ◌^◌, ◌≤◌, ◌<◌}
use native.Mathlib.Nat.{pow-suc, div-lt_iff_lt-mul}
use native.Mathlib.Omega.{arith}
use borrow.Author.Tests.{ltb-true, ltb-false, lt-ltb, le-ltb}
use lib.Dec.{ltb}
use lib.ListN.{get_or, drop}
use Rattle.text.specs.Number.{glyph_of, hex_of, decimal_before, decimal_of}

-- ---- hexadecimal

abbrev digit_from : ℕ → ℕ
digit_from g = cond (ltb g 58) (g - 48) (g - 55)

digit_back : (d : ℕ) → digit_from (glyph_of d) ≡ d
digit_back d = by (ltb d 10) (ltb-true d 10) (ltb-false d 10)
  where
    by : (b : Bool) → (b ≡ true → d < 10) → (b ≡ false → 10 ≤ d) → digit_from (cond b (48 + d) (55 + d)) ≡ d
    by true small large = rw (lt-ltb (48 + d) 58 (omega (arith, small refl))) (omega arith)
    by false small large = rw (le-ltb (55 + d) 58 (omega (arith, large refl))) (omega arith)

abbrev pub hex_from : List ℕ → ℕ
hex_from s =
    let digit : ℕ → ℕ = λ i. digit_from (get_or s i 0) in
    digit 0 * 4096 + digit 1 * 256 + digit 2 * 16 + digit 3

pub hex_back : (n : ℕ) (s : List ℕ) → hex_from (hex_of n ++ s) ≡ n
unfolding hex_of
hex_back n s =
    rw (digit_back (n / 4096), digit_back (n / 256 % 16), digit_back (n / 16 % 16), digit_back (n % 16)) (omega arith)

pub hex_after : (n : ℕ) (s : List ℕ) → drop 4 (hex_of n ++ s) ≡ s
unfolding hex_of
hex_after n s = refl

-- ---- decimal

-- the number that the digits at the beginning of a text say, after those of v
abbrev pub number_from : ℕ → List ℕ → ℕ
number_from v [] = v
number_from v (c ∷ s) = cond (ltb c 48) v (number_from (v * 10 + (c - 48)) s)

-- what stands after these digits and the byte that ends them
abbrev pub after_number : List ℕ → List ℕ
after_number [] = []
after_number (c ∷ s) = cond (ltb c 48) s (after_number s)

number_digit : (v d n : ℕ) (l : List ℕ) → v * 10 + d ≡ n → number_from v ((48 + d) ∷ l) ≡ number_from n l
number_digit v d n l e = rw (le-ltb (48 + d) 48 (omega arith)) (ap (λ (x : ℕ). number_from x l) (omega arith))

number_before : (k n : ℕ) (l : List ℕ) → n < 10 ^ k → number_from 0 (decimal_before k n l) ≡ number_from n l
number_before zero n l h = ap (λ (x : ℕ). number_from x l) (omega arith)
number_before (suc k) n l h =
    let fewer : n / 10 < 10 ^ k = (div-lt_iff_lt-mul {k = 10} (omega arith)).1 (rw pow-suc at h) in
    by (ltb n 10) (number_before k (n / 10) ((48 + n % 10) ∷ l) fewer)
  where
    rest : List ℕ
    rest = decimal_before k (n / 10) ((48 + n % 10) ∷ l)

    by : (b : Bool) → number_from 0 rest ≡ number_from (n / 10) ((48 + n % 10) ∷ l)
        → number_from 0 (cond b ((48 + n) ∷ l) rest) ≡ number_from n l
    by true e = number_digit 0 n n l (omega arith)
    by false e = e ∙ number_digit (n / 10) (n % 10) n l (omega arith)

after_before : (k n : ℕ) (l : List ℕ) → after_number (decimal_before k n l) ≡ after_number l
after_before zero n l = refl
after_before (suc k) n l = by (ltb n 10) (after_before k (n / 10) ((48 + n % 10) ∷ l))
  where
    rest : List ℕ
    rest = decimal_before k (n / 10) ((48 + n % 10) ∷ l)

    by : (b : Bool) → after_number rest ≡ after_number ((48 + n % 10) ∷ l)
        → after_number (cond b ((48 + n) ∷ l) rest) ≡ after_number l
    by true e = rw (le-ltb (48 + n) 48 (omega arith))
    by false e = e ∙ rw (le-ltb (48 + n % 10) 48 (omega arith))

before_append : (k n : ℕ) (l s : List ℕ) → decimal_before k n l ++ s ≡ decimal_before k n (l ++ s)
before_append zero n l s = refl
before_append (suc k) n l s = by (ltb n 10) (before_append k (n / 10) ((48 + n % 10) ∷ l) s)
  where
    rest : List ℕ → List ℕ
    rest t = decimal_before k (n / 10) ((48 + n % 10) ∷ t)

    by : (b : Bool) → rest l ++ s ≡ rest (l ++ s)
        → cond b ((48 + n) ∷ l) (rest l) ++ s ≡ cond b ((48 + n) ∷ (l ++ s)) (rest (l ++ s))
    by true e = refl
    by false e = e

-- a byte below $30 ends the digits
module _ (n c : ℕ) (s : List ℕ) (ends : c < 48) where
  pub decimal_back : n < 10 ^ 10 → number_from 0 (decimal_of n ++ (c ∷ s)) ≡ n
  unfolding decimal_of
  decimal_back h = rw (before_append 10 n [] (c ∷ s), number_before 10 n (c ∷ s) h, lt-ltb c 48 ends)

  pub decimal_after : after_number (decimal_of n ++ (c ∷ s)) ≡ s
  unfolding decimal_of
  decimal_after = rw (before_append 10 n [] (c ∷ s), after_before 10 n (c ∷ s), lt-ltb c 48 ends)
