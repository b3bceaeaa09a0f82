-- `step_now` and `run_now` are `step_of` and `run_of`; to unfold them is to unfold all that a step or a run computes
-- with.
-- Assumes nothing.
use Rattle.std.specs.Prelude.{List, ℕ}
use Rattle.registers.specs.Word.{wrapping_add, wrapping_sub, target_of}
use Rattle.registers.specs.declared.Registers.{Registers}
use Rattle.memory.specs.Memory.{byte_at, word_at, with_byte}
use Rattle.opcodes.specs.Rows.{rows}
use Rattle.opcodes.specs.Tables.{costs, actions, modes, cost_at, action_at, mode_at}
use Rattle.opcodes.specs.Conditions.{truth_words, test_holds_of}
use Rattle.opcodes.specs.Decode.{page_of, opcode_place, opcode_size, operand_of, instruction_of, decode_at}
use Rattle.instructions.specs.Form.{address_in, target_in}
use Rattle.instructions.specs.Entry.{form_of, reads_of, outcome_of}
use Rattle.arithmetic.specs.Byte.{add8_of, sub8_of}
use Rattle.arithmetic.specs.Word.{add16_of, sub16_of, mul_of}
use Rattle.arithmetic.specs.Decimal.{daa_of}
use Rattle.arithmetic.specs.Divide.{idiv_of, fdiv_of}
use Rattle.instructions.specs.Operand.{address_of, operand_address, byte_operand, word_operand, mask_of, input_of}
use Rattle.instructions.specs.Inherent.{replaced, inherent_of}
use Rattle.instructions.specs.Named.{accumulator_of, with_accumulator, index_register_of, with_index, word_register_of}
use Rattle.instructions.specs.Named.{to_word}
use Rattle.instructions.specs.Interrupt.{stacked_of, interrupted_of, resumed_of}
use Rattle.instructions.specs.Effect.{effect_by, effect_of}
use Rattle.stepper.specs.declared.environment.Environment.{Environment}
use Rattle.stepper.specs.Step.{carried_out, did_of, step_of, After}
use Rattle.stepper.specs.Run.{run_from, run_of, AfterRun}

unfoldable pub step_now : Registers → List ℕ → After
unfolding wrapping_add wrapping_sub byte_at word_at with_byte rows costs actions modes cost_at action_at mode_at
    truth_words
    test_holds_of page_of opcode_place opcode_size operand_of instruction_of decode_at target_of address_in target_in
    form_of add8_of
    sub8_of add16_of sub16_of mul_of daa_of idiv_of fdiv_of address_of operand_address byte_operand word_operand mask_of
    reads_of input_of replaced inherent_of accumulator_of with_accumulator index_register_of with_index word_register_of
    to_word outcome_of stacked_of interrupted_of resumed_of effect_by effect_of carried_out did_of
step_now r m = step_of r m

unfoldable pub run_now : Environment → Registers → List ℕ → ℕ → AfterRun
unfolding step_of run_from step_now
run_now env r m b = run_of env r m b
