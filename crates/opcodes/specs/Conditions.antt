-- The sixteen tests of opcodes $20 to $2F, each as its truth over N, Z, V and C (document 01; the manual's branch
-- entries).
-- Assumes nothing.
use Rattle.std.specs.Prelude.{ℕ, zero, suc, ◌+◌, ◌*◌, ◌%◌, ◌^◌, Bool, true, false, not, ◌||◌, List, [], ◌∷◌, get_or}
use Rattle.registers.specs.Flags.{bit, low, xor}
use Rattle.lists.specs.Bit.{one}
use Rattle.registers.specs.declared.flags.Flags.{Flags}

abbrev pub Test : Type 0
Test = (n z v c : Bool) → Bool

-- the test of opcode $20 + k stands at k
abbrev pub tests : List Test
tests =
    (λ n z v c. true) ∷  -- BRA
    (λ n z v c. false) ∷  -- BRN
    (λ n z v c. not (c || z)) ∷  -- BHI
    (λ n z v c. c || z) ∷  -- BLS
    (λ n z v c. not c) ∷  -- BCC, BHS
    (λ n z v c. c) ∷  -- BCS, BLO
    (λ n z v c. not z) ∷  -- BNE
    (λ n z v c. z) ∷  -- BEQ
    (λ n z v c. not v) ∷  -- BVC
    (λ n z v c. v) ∷  -- BVS
    (λ n z v c. not n) ∷  -- BPL
    (λ n z v c. n) ∷  -- BMI
    (λ n z v c. not (xor n v)) ∷  -- BGE
    (λ n z v c. xor n v) ∷  -- BLT
    (λ n z v c. not (z || xor n v)) ∷  -- BGT
    (λ n z v c. z || xor n v) ∷  -- BLE
    []

-- bit i of a truth word is the test's truth at the index i = 8N + 4Z + 2V + C
abbrev pub truth_index : Flags → ℕ
truth_index f = 8 * one f.n + 4 * one f.z + 2 * one f.v + one f.c

abbrev pub test_at : Test → ℕ → Bool
test_at t i = t (bit 3 i) (bit 2 i) (bit 1 i) (low i)

-- the lowest k bits of the truth word
abbrev pub truth_word : Test → ℕ → ℕ
truth_word t zero = 0
truth_word t (suc k) = one (test_at t k) * 2 ^ k + truth_word t k

abbrev pub truth_words_of : List Test → List ℕ
truth_words_of [] = []
truth_words_of (t ∷ ts) = truth_word t 16 ∷ truth_words_of ts

unfoldable pub truth_words : List ℕ
truth_words = truth_words_of tests

-- whether a test holds: its number is the low half-byte of its opcode
unfoldable pub test_holds_of : ℕ → Flags → Bool
test_holds_of k f = bit (truth_index f) (get_or truth_words (k % 16) 0)
