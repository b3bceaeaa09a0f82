-- Whether an instruction calls, returns or does neither: what the return addresses in use go by (document 01, "The way
-- home").
-- Assumes nothing.
use Rattle.std.specs.Prelude.{ℕ, List, Option, Some, None}
use Rattle.registers.specs.Word.{wrapping_add}
use Rattle.opcodes.specs.Decode.{place_in, decode_of}
use Rattle.opcodes.specs.Tables.{length_at}
use Rattle.opcodes.specs.declared.instruction.Decoded.{Decoded}
use Rattle.instructions.specs.Entry.{form_of}
use Rattle.instructions.specs.declared.form.Form.{Form}
use Rattle.instructions.specs.declared.form.Form.TheVariants.{Computes, StoresByte, StoresWord, PushesByte, PushesWord}
use Rattle.instructions.specs.declared.form.Form.TheVariants.{PullsByte, PullsWord, Reserves, Releases, Branches}
use Rattle.instructions.specs.declared.form.Form.TheVariants.{Jumps}
use Rattle.instructions.specs.declared.form.Form.TheVariants.{Calls, Returns, MovesSp, Interrupts, Resumes, Waits}
use Rattle.stepper.specs.Step.{fetched}

-- JSR and BSR call, RTS returns
pub data Flow : Type 0 where
  calls returns plain : Flow

abbrev pub flow_by : Form → Flow
flow_by Computes = plain
flow_by (StoresByte p) = plain
flow_by (StoresWord p) = plain
flow_by PushesByte = plain
flow_by PushesWord = plain
flow_by PullsByte = plain
flow_by PullsWord = plain
flow_by Reserves = plain
flow_by Releases = plain
flow_by (Branches t) = plain
flow_by (Jumps p) = plain
flow_by (Calls p) = calls
flow_by Returns = returns
flow_by MovesSp = plain
flow_by Interrupts = plain
flow_by Resumes = plain
flow_by Waits = plain

abbrev pub flow_in : ℕ → Option Decoded → ℕ → Flow
flow_in p None pc = plain
flow_in p (Some d) pc = flow_by (form_of d.action d.operand (wrapping_add pc (length_at p)))

-- of the instruction that memory has at PC
unfoldable pub flow_of : List ℕ → ℕ → Flow
flow_of m pc = let f = fetched m pc in flow_in (place_in f) (decode_of f) pc
