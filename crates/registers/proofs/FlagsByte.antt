-- The flags and their byte say the same, both ways.
-- Assumes nothing.
use Rattle.std.proofs.Common.{◌≡◌, ℕ, ◌+◌, ◌*◌, ◌/◌, ◌%◌, ◌<◌, Bool, true, false, eqb, arith}
use Rattle.registers.specs.declared.flags.Flags.{Flags}
use Rattle.registers.specs.Flags.{bit, low, flags_of, byte_of}
use Rattle.lists.specs.Bit.{one}
use Rattle.registers.proofs.Bits.{one≤, digit}

of_one : (b : Bool) (n : ℕ) → n ≡ one b → eqb n 1 ≡ b
of_one true n e = rw e
of_one false n e = rw e

module _ (f : Flags) where
  pub of_byte : flags_of (byte_of f) ≡ f
  of_byte =
      let s = one≤ f.s in
      let x = one≤ f.x in
      let h = one≤ f.h in
      let i = one≤ f.i in
      let n = one≤ f.n in
      let z = one≤ f.z in
      let v = one≤ f.v in
      let c = one≤ f.c in
      let s' : bit 7 (byte_of f) ≡ f.s = of_one f.s (byte_of f / 128 % 2) (omega arith) in
      let x' : bit 6 (byte_of f) ≡ f.x = of_one f.x (byte_of f / 64 % 2) (omega arith) in
      let h' : bit 5 (byte_of f) ≡ f.h = of_one f.h (byte_of f / 32 % 2) (omega arith) in
      let i' : bit 4 (byte_of f) ≡ f.i = of_one f.i (byte_of f / 16 % 2) (omega arith) in
      let n' : bit 3 (byte_of f) ≡ f.n = of_one f.n (byte_of f / 8 % 2) (omega arith) in
      let z' : bit 2 (byte_of f) ≡ f.z = of_one f.z (byte_of f / 4 % 2) (omega arith) in
      let v' : bit 1 (byte_of f) ≡ f.v = of_one f.v (byte_of f / 2 % 2) (omega arith) in
      let c' : low (byte_of f) ≡ f.c = of_one f.c (byte_of f % 2) (omega arith) in
      rw (s', x', h', i', n', z', v', c')

-- a number is made of its bits
joined : (n a b c d e f g s x h i m z v o : ℕ) → n ≡ 2 * a + o → a ≡ 2 * b + v → b ≡ 2 * c + z → c ≡ 2 * d + m →
    d ≡ 2 * e + i → e ≡ 2 * f + h
    → f ≡ 2 * g + x → g ≡ s → 128 * s + 64 * x + 32 * h + 16 * i + 8 * m + 4 * z + 2 * v + o ≡ n
joined n a b c d e f g s x h i m z v o p q r t u w y j = omega arith

pub to_byte : (n : ℕ) → n < 256 → byte_of (flags_of n) ≡ n
to_byte n l =
    rw (
      digit (n / 128 % 2) (omega arith),
      digit (n / 64 % 2) (omega arith),
      digit (n / 32 % 2) (omega arith),
      digit (n / 16 % 2) (omega arith),
      digit (n / 8 % 2) (omega arith),
      digit (n / 4 % 2) (omega arith),
      digit (n / 2 % 2) (omega arith),
      digit (n % 2) (omega arith),
    ) (joined n (n / 2) (n / 4) (n / 8) (n / 16) (n / 32) (n / 64) (n / 128) _ _ _ _ _ _ _ _ (omega arith) (omega arith)
    (omega arith) (omega arith) (omega arith) (omega arith) (omega arith) (omega arith))
