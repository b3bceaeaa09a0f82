-- Reading a truth word at the index of the flags gives what the test says of N, Z, V and C. One test over the sixteen.
-- Assumes nothing.
use mathlib.Core.Path.{◌≡◌, refl}
use mathlib.Core.Bool.{Bool, true, false, not, ◌&&◌}
use Prim.Native.Nat.{ℕ, ◌+◌, ◌*◌, ◌<◌, ◌%◌}
use lib.Dec.{T}
use lib.ListN.{get_or}
use Rattle.registers.specs.Flags.{bit}
use Rattle.lists.specs.Bit.{one}
use Rattle.registers.specs.declared.flags.Flags.{Flags}
use Rattle.opcodes.specs.Conditions.{Test, tests, truth_words, test_holds_of}
use Rattle.opcodes.proofs.Every.{both_left, both_right, every, at}

same : Bool → Bool → Bool
same true b = b
same false b = not b

said : (a b : Bool) → T (same a b) → a ≡ b
unfolding same
said true true t = refl
said true false t = absurd t
said false true t = absurd t
said false false t = refl

either : (Bool → Bool) → Bool
either f = f true && f false

of_either : (f : Bool → Bool) → T (either f) → (b : Bool) → T (f b)
unfolding either
of_either f t true = both_left (f true) (f false) t
of_either f t false = both_right (f true) (f false) t

agree : ℕ → Test → (n z v c : Bool) → Bool
agree k t n z v c = same (bit (8 * one n + 4 * one z + 2 * one v + one c) (get_or truth_words (k % 16) 0)) (t n z v c)

always : ℕ → Test → Bool
always k t = either (λ n. either (λ z. either (λ v. either (λ c. agree k t n z v c))))

tested : T (every always 0 tests)
unfolding always agree either same truth_words
tested = tt

module _ (k : ℕ) (t : Test) (h : T (always k t)) where
  agreed : (n z v c : Bool) → T (agree k t n z v c)
  unfolding always
  agreed n z v c =
      of_either (agree k t n z v)
      (of_either (λ v. either (agree k t n z v))
      (of_either (λ z. either (λ v. either (agree k t n z v)))
      (of_either (λ n. either (λ z. either (λ v. either (agree k t n z v)))) h n) z) v) c

pub truth : (k : ℕ) → k < 16 → (f : Flags)
    → test_holds_of k f ≡ get_or tests k (λ n z v c. false) f.n f.z f.v f.c
unfolding test_holds_of agree
truth k h f =
    let t = get_or tests k (λ n z v c. false) in
    said (test_holds_of k f) (t f.n f.z f.v f.c)
    (agreed k t (at always (λ n z v c. false) tests tested k h) f.n f.z f.v f.c)
