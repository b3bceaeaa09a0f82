-- An entry for each action: what it reads, its form and what it computes, under the manual's names (the manual's
-- "Operation" and "Condition Codes" of each).
-- Assumes nothing.
use Rattle.std.specs.Prelude.{ℕ, ◌%◌}
use Rattle.registers.specs.Flags.{byte_of}
use Rattle.registers.specs.Word.{wrapping_sub}
use Rattle.registers.specs.Registers.{data_of, accumulator_d, with_flags}
use Rattle.registers.specs.declared.Data.{Data}
use Rattle.registers.specs.declared.Registers.{Registers}
use Rattle.opcodes.specs.Conditions.{test_holds_of}
use Rattle.opcodes.specs.declared.instruction.Action.{Action}
use Rattle.opcodes.specs.declared.instruction.Action.TheVariants.{Inherent, Unary, TstAccumulator, Binary, TstMemory}
use Rattle.opcodes.specs.declared.instruction.Action.TheVariants.{LoadWord, Addd, Subd, CompareWord, StoreByte}
use Rattle.opcodes.specs.declared.instruction.Action.TheVariants.{StoreWord, Modify, Bset, Bclr, Brset, Brclr, Branch}
use Rattle.opcodes.specs.declared.instruction.Action.TheVariants.{Jmp, Call, Rts, PushByte, PushWord, PullByte}
use Rattle.opcodes.specs.declared.instruction.Action.TheVariants.{PullWord, Des, Ins, SetStack, Swi, Rti, Wai, Stop}
use Rattle.opcodes.specs.declared.instruction.Action.TheVariants.{Test}
use Rattle.opcodes.specs.declared.instruction.Operand.{Operand}
use Rattle.arithmetic.specs.Byte.{unary_of, binary_of, bset_of, bclr_of, tst_of}
use Rattle.arithmetic.specs.Word.{add16_of, sub16_of, logic16_of}
use Rattle.instructions.specs.declared.form.Form.{Form}
use Rattle.instructions.specs.declared.form.Form.TheVariants.{Computes, StoresByte, StoresWord, PushesByte}
use Rattle.instructions.specs.declared.form.Form.TheVariants.{PushesWord, PullsByte, PullsWord, Reserves}
use Rattle.instructions.specs.declared.form.Form.TheVariants.{Releases, Branches, Jumps, Calls, Returns, MovesSp}
use Rattle.instructions.specs.declared.form.Form.TheVariants.{Interrupts, Resumes, Waits}
use Rattle.instructions.specs.Form.{always, at_operand, to_target, branch_form, load_form}
use Rattle.instructions.specs.Operand.{Reads, nothing, operand_byte, operand_word, pulled_byte, pulled_word}
use Rattle.instructions.specs.Inherent.{codes, to_d, inherent_of}
use Rattle.instructions.specs.Named.{accumulator_of, with_accumulator, to_accumulator, index_register_of, with_index}
use Rattle.instructions.specs.Named.{word_register_of, to_word}
use Rattle.instructions.specs.Outcome.{Outcome, computes, gives, branches, stays, tested8, tested16, modifies}
use Rattle.instructions.specs.Outcome.{all_set, none_set}

-- what is read; the form, by the operand and the address after the instruction; and what is computed of the mask k of a
-- bit instruction, the value v that was read, SP and the other registers d
pub record Entry : Type 0 where
  pub reads : Reads
  pub form : Operand → ℕ → Form
  pub outcome : (k v sp : ℕ) (d : Data) → Outcome

abbrev pub entry : Reads → (Operand → ℕ → Form) → ((k v sp : ℕ) (d : Data) → Outcome) → Entry
entry reads form outcome = record { reads = reads; form = form; outcome = outcome }

unfoldable pub entry_of : Action → Entry
-- NOP IDIV FDIV LSRD ASLD LSLD TAP TPA INX DEX INY DEY CLV SEV CLC SEC CLI SEI SBA CBA TAB TBA DAA ABA TSX TSY ABX ABY
-- MUL XGDX XGDY: on the registers alone
entry_of (Inherent i) = entry nothing (always Computes) (λ k v sp d. computes (inherent_of i sp d))
-- NEGA COMA LSRA RORA ASRA ASLA LSLA ROLA DECA INCA CLRA, NEGB COMB LSRB RORB ASRB ASLB LSLB ROLB DECB INCB CLRB
entry_of (Unary u c) =
    entry nothing (always Computes)
    (λ k v sp d. computes (to_accumulator c d (unary_of u (accumulator_of c d) (codes d))))
-- TSTA TSTB
entry_of (TstAccumulator c) =
    entry nothing (always Computes)
    (λ k v sp d. computes (with_flags d (byte_of (tst_of (accumulator_of c d) (codes d)))))
-- SUBA CMPA SBCA ANDA BITA LDAA EORA ADCA ORAA ADDA, SUBB CMPB SBCB ANDB BITB LDAB EORB ADCB ORAB ADDB
entry_of (Binary b c) =
    entry operand_byte (always Computes)
    (λ k v sp d. computes (to_accumulator c d (binary_of b (accumulator_of c d) v (codes d))))
-- TST
entry_of TstMemory =
    entry operand_byte (always Computes) (λ k v sp d. computes (with_flags d (byte_of (tst_of v (codes d)))))
-- LDD LDX LDY LDS
entry_of (LoadWord w) =
    entry operand_word (always (load_form w)) (λ k v sp d. gives v (to_word w d v (byte_of (logic16_of v (codes d)))))
-- ADDD
entry_of Addd =
    entry operand_word (always Computes) (λ k v sp d. computes (to_d d (add16_of (accumulator_d d) v (codes d))))
-- SUBD
entry_of Subd =
    entry operand_word (always Computes) (λ k v sp d. computes (to_d d (sub16_of (accumulator_d d) v (codes d))))
-- CPD CPX CPY
entry_of (CompareWord w) =
    entry operand_word (always Computes)
    (λ k v sp d. computes (with_flags d (byte_of (sub16_of (word_register_of w sp d) v (codes d)).flags)))
-- STAA STAB
entry_of (StoreByte c) =
    entry nothing (at_operand StoresByte) (λ k v sp d. gives (accumulator_of c d) (tested8 (accumulator_of c d) d))
-- STD STX STY STS
entry_of (StoreWord w) =
    entry nothing (at_operand StoresWord)
    (λ k v sp d. gives (word_register_of w sp d) (tested16 (word_register_of w sp d) d))
-- NEG COM LSR ROR ASR ASL LSL ROL DEC INC CLR: CLR reads its byte before it writes, as every read-modify-write does
entry_of (Modify u) = entry operand_byte (at_operand StoresByte) (λ k v sp d. modifies d (unary_of u v (codes d)))
-- BSET
entry_of Bset = entry operand_byte (at_operand StoresByte) (λ k v sp d. modifies d (bset_of v k (codes d)))
-- BCLR
entry_of Bclr = entry operand_byte (at_operand StoresByte) (λ k v sp d. modifies d (bclr_of v k (codes d)))
-- BRSET
entry_of Brset = entry operand_byte (to_target Branches) (λ k v sp d. branches (all_set v k) d)
-- BRCLR
entry_of Brclr = entry operand_byte (to_target Branches) (λ k v sp d. branches (none_set v k) d)
-- BRA BRN BHI BLS BCC BHS BCS BLO BNE BEQ BVC BVS BPL BMI BGE BLT BGT BLE
entry_of (Branch t) =
    entry nothing (to_target (branch_form (t % 16))) (λ k v sp d. branches (test_holds_of t (codes d)) d)
-- JMP
entry_of Jmp = entry nothing (at_operand Jumps) stays
-- JSR BSR
entry_of Call = entry nothing (at_operand Calls) stays
-- RTS
entry_of Rts = entry nothing (always Returns) stays
-- PSHA PSHB
entry_of (PushByte c) = entry nothing (always PushesByte) (λ k v sp d. gives (accumulator_of c d) d)
-- PSHX PSHY
entry_of (PushWord i) = entry nothing (always PushesWord) (λ k v sp d. gives (index_register_of i d) d)
-- PULA PULB
entry_of (PullByte c) = entry pulled_byte (always PullsByte) (λ k v sp d. computes (with_accumulator c d v d.flags))
-- PULX PULY
entry_of (PullWord i) = entry pulled_word (always PullsWord) (λ k v sp d. computes (with_index i d v))
-- DES
entry_of Des = entry nothing (always Reserves) stays
-- INS
entry_of Ins = entry nothing (always Releases) stays
-- TXS TYS
entry_of (SetStack i) = entry nothing (always MovesSp) (λ k v sp d. gives (wrapping_sub (index_register_of i d) 1) d)
-- SWI: the registers are stacked by its form
entry_of Swi = entry nothing (always Interrupts) stays
-- RTI: and pulled by its form
entry_of Rti = entry nothing (always Resumes) stays
-- WAI
entry_of Wai = entry nothing (always Waits) stays
-- STOP
entry_of Stop = entry nothing (always Waits) stays
-- TEST
entry_of Test = entry nothing (always Waits) stays

-- ---- the fields of an action's entry

unfoldable pub reads_of : Action → Reads
unfolding entry_of
reads_of a = (entry_of a).reads

unfoldable pub form_of : Action → Operand → ℕ → Form
unfolding entry_of
form_of a o next = (entry_of a).form o next

unfoldable pub outcome_of : Action → ℕ → ℕ → Registers → Outcome
unfolding entry_of
outcome_of a k v r = (entry_of a).outcome k v r.sp (data_of r)
