-- The manual's formulae for carries and borrows are tests on the sum and on the operands: one law for every bit k, so
-- for H, for bytes and for words.
-- Assumes nothing.
use mathlib.Core.Path.{◌≡◌, refl, sym, ap, ◌∙◌}
use mathlib.Core.Bool.{Bool, true, false, not, ◌&&◌, ◌||◌, or_assoc, or_comm}
use Prim.Native.Nat.{ℕ, suc, ◌+◌, ◌-◌, ◌*◌, ◌/◌, ◌%◌, ◌^◌, ◌≤◌, ◌<◌}
use native.Mathlib.Nat.{mod-lt, mod-eq_of_lt, mod-eq-sub-mod, mod-mod}
use native.Mathlib.Omega.{arith}
use lib.Arith.{mod-mul}
use lib.Dec.{leb, ltb}
use lib.Pow.{pow_pos}
use Rattle.registers.proofs.Bits.{one≤, digit}
use Rattle.registers.specs.Flags.{bit}
use Rattle.lists.specs.Bit.{one}
use Rattle.arithmetic.specs.Codes.{carry, borrow}
use Rattle.arithmetic.proofs.Bits.{bit_one}
use Rattle.arithmetic.proofs.Outcomes.{at_leb}

-- the numbers of the bits 0 to k are those below the span of k
abbrev span : ℕ → ℕ
span k = 2 * 2 ^ k

-- a number within the span is its bit k with what lies below
halves : (k n : ℕ) → n % span k ≡ one (bit k n) * 2 ^ k + n % 2 ^ k
halves k n =
    mod-mul n (omega arith) (pow_pos k) ∙ ap (λ (b : ℕ). b * 2 ^ k + n % 2 ^ k)
    (sym (digit (n / 2 ^ k % 2) (mod-lt (n / 2 ^ k) (omega arith))))

-- a sum of two numbers below 2 · h: the carry q, from the high bits a and b and the result's, s
full : (h : ℕ) (a b s q : Bool) {x m r c : ℕ} → x < h → m < h → r < h → c ≤ 1 →
    one a * h + x + (one b * h + m) + c ≡ one q * (2 * h) + (one s * h + r) →
    carry 0 (one a) (one b) (one s) ≡ q
full h true true true true i j k l e = refl
full h true true true false i j k l e = absurd (omega arith)
full h true true false true i j k l e = refl
full h true true false false i j k l e = absurd (omega arith)
full h true false true true i j k l e = absurd (omega arith)
full h true false true false i j k l e = refl
full h true false false true i j k l e = refl
full h true false false false i j k l e = absurd (omega arith)
full h false true true true i j k l e = absurd (omega arith)
full h false true true false i j k l e = refl
full h false true false true i j k l e = refl
full h false true false false i j k l e = absurd (omega arith)
full h false false true true i j k l e = absurd (omega arith)
full h false false true false i j k l e = refl
full h false false false true i j k l e = absurd (omega arith)
full h false false false false i j k l e = refl

-- a sum's carry out of bit k: the sum is q of the span, and the result
carry_is : (k x m r : ℕ) (c q : Bool) → x % span k + m % span k + one c ≡ one q * span k + r % span k →
    carry k x m r ≡ q
carry_is k x m r c q e =
    let below : (n : ℕ) → n % 2 ^ k < 2 ^ k = λ n. mod-lt n (pow_pos k) in
    simp bit_one at
    (full (2 ^ k) (bit k x) (bit k m) (bit k r) q (below x) (below m) (below r) (one≤ c)
    (rw (halves k x, halves k m, halves k r) at e))

-- a borrow's three products, as a carry has them
rotate : (a b c : Bool) → ((a || b) || c) ≡ ((b || c) || a)
rotate a b c = or_assoc a b c ∙ or_comm a (b || c)

in_span : (k n : ℕ) → n % span k < span k
in_span k n = mod-lt n (omega (arith, pow_pos k))

-- the carry of the sum n
pub carry_test : (k x m r n : ℕ) (c : Bool) → n ≡ x % span k + m % span k + one c → r % span k ≡ n % span k →
    carry k x m r ≡ leb (span k) n
carry_test k x m r n c s e =
    carry_is k x m r c (leb (span k) n)
    (at_leb (λ (q : Bool). x % span k + m % span k + one c ≡ one q * span k + r % span k) (span k) n
    (λ h. omega (arith, mod-eq-sub-mod h, mod-eq_of_lt (below h)))
    (λ h. omega (arith, mod-eq_of_lt h)))
  where
    below : span k ≤ n → n - span k < span k
    below h = omega (arith, one≤ c, in_span k x, in_span k m)

-- the borrow of x less t: x is the sum of m and the difference r
pub borrow_test : (k x m r t : ℕ) (c : Bool) → x < span k → m < span k → t ≡ m + one c → r ≡ (x + span k - t) % span k →
    borrow k x m r ≡ ltb x t
borrow_test k x m r t c a b s e =
    let own_x : x % span k ≡ x = mod-eq_of_lt a in
    let own_m : m % span k ≡ m = mod-eq_of_lt b in
    let own_r : r % span k ≡ r = ap (λ (y : ℕ). y % span k) e ∙ mod-mod (x + span k - t) (span k) ∙ sym e in
    rotate (not (bit k x) && bit k m) (bit k m && bit k r) (bit k r && not (bit k x)) ∙ carry_is k m r x c (ltb x t)
    (at_leb (λ (q : Bool). m % span k + r % span k + one c ≡ one q * span k + x % span k) (suc x) t
    (λ h. omega (arith, one≤ c, mod-eq_of_lt (less h)))
    (λ h. omega (arith, mod-eq-sub-mod (more h), mod-eq_of_lt (rest h))))
  where
    less : x < t → x + span k - t < span k
    less h = omega (arith, one≤ c)

    more : t < suc x → span k ≤ x + span k - t
    more h = omega arith

    rest : t < suc x → x + span k - t - span k < span k
    rest h = omega arith
