-- What a line says, and when it holds: a step from its registers and its memory comes to exactly its registers, its
-- cycles and its memory (docs/SIMULATORS.md, "The file").
-- Assumes nothing.
use Rattle.std.specs.Prelude.{◌≡◌, ℕ, zero, suc, ◌+◌, ◌*◌, List, [], ◌∷◌, replicate}
use Rattle.registers.specs.Word.{wrapping_add}
use Rattle.memory.specs.Memory.{byte_at, Store, store, applied}
use Rattle.opcodes.specs.Decode.{opcode_place}
use Rattle.stepper.specs.Answer.{done}
use Rattle.stepper.specs.Step.{After, step_of}
use Rattle.vectors.specs.Hex.{hex_byte_in, hex_word_in, registers_in}
use Rattle.vectors.specs.Line.{Shaped, listed_in, written_in}
use Rattle.vectors.specs.declared.comparison.Comparison.{Comparison}
use Rattle.vectors.specs.declared.comparison.Comparison.TheVariants.{Malformed, Differs, Agrees}

-- n bytes with their addresses, each a group of six digits and a space
unfoldable pub stores_in : List ℕ → ℕ → ℕ → List Store
stores_in s i zero = []
stores_in s i (suc n) = store (hex_word_in s i) (hex_byte_in s (i + 4)) ∷ stores_in s (i + 7) n

unfoldable pub background : List ℕ
background = replicate 65536 0x3c

-- every byte is $3C but for those listed
unfoldable pub memory_in : List ℕ → List ℕ
memory_in s = applied (stores_in s 63 (listed_in s)) background

-- that, with the bytes written
unfoldable pub expected_in : List ℕ → List ℕ
expected_in s = applied (stores_in s (66 + 7 * listed_in s) (written_in s)) (memory_in s)

-- the place of the instruction at PC
unfoldable pub opcode_place_in : List ℕ → ℕ
opcode_place_in s =
    let pc = (registers_in s 6).pc in
    opcode_place (byte_at (memory_in s) pc) (byte_at (memory_in s) (wrapping_add pc 1))

-- the registers, the cycles and the memory that are expected
unfoldable pub after_in : List ℕ → After
after_in s = record { answer = done (registers_in s 33) (record { 0 = hex_byte_in s 3 }); memory = expected_in s }

abbrev pub StepAgrees : List ℕ → Type 0
StepAgrees s = step_of (registers_in s 6) (memory_in s) ≡ after_in s

abbrev pub Compared : List ℕ → Comparison → Type 0
Compared s Malformed = Shaped s → ⊥
Compared s Differs = Shaped s × (StepAgrees s → ⊥)
Compared s Agrees = Shaped s × StepAgrees s
