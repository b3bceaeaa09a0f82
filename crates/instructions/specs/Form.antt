-- The form of an instruction, from its operand and the address after it: what it does to PC, SP and memory. An action
-- has its form in its entry (`Entry.antt`). The step takes PC, SP and the addresses that are written from it, and so do
-- the ticket rules (`rules/specs/Shape.antt`; document 01, "Rules at a mark").
-- Assumes nothing.
use Rattle.std.specs.Prelude.{ℕ, Bool, true, false, cond, eqb}
use Rattle.registers.specs.Word.{target_of}
use Rattle.opcodes.specs.declared.instruction.Word.{Word}
use Rattle.opcodes.specs.declared.instruction.Word.TheVariants as Wd
use Rattle.opcodes.specs.declared.instruction.Address.{Address}
use Rattle.opcodes.specs.declared.instruction.Address.TheVariants.{Fixed, IndexedX, IndexedY}
use Rattle.opcodes.specs.declared.instruction.Operand.{Operand}
use Rattle.instructions.specs.declared.form.Form.{Form}
use Rattle.instructions.specs.declared.form.Form.TheVariants.{Computes, StoresByte, StoresWord, PushesByte}
use Rattle.instructions.specs.declared.form.Form.TheVariants.{PushesWord, PullsByte, PullsWord, Reserves}
use Rattle.instructions.specs.declared.form.Form.TheVariants.{Releases, Branches, Jumps, Calls, Returns, MovesSp}
use Rattle.instructions.specs.declared.form.Form.TheVariants.{Interrupts, Resumes, Waits}

-- where the operand stands, or where a jump goes. An inherent or immediate operand names no address
unfoldable pub address_in : Operand → ℕ → Address
address_in Operand.Inherent next = Fixed 0
address_in (Operand.Immediate v) next = Fixed 0
address_in (Operand.Direct d) next = Fixed d
address_in (Operand.Extended a) next = Fixed a
address_in (Operand.IndexedX d) next = IndexedX d
address_in (Operand.IndexedY d) next = IndexedY d
address_in (Operand.Relative d) next = Fixed (target_of next d)
address_in (Operand.Mask a k) next = a
address_in (Operand.MaskBranch a k d) next = a

-- where a branch goes. An operand without an offset branches nowhere
unfoldable pub target_in : Operand → ℕ → ℕ
target_in Operand.Inherent next = next
target_in (Operand.Immediate v) next = next
target_in (Operand.Direct d) next = next
target_in (Operand.Extended a) next = next
target_in (Operand.IndexedX d) next = next
target_in (Operand.IndexedY d) next = next
target_in (Operand.Relative d) next = target_of next d
target_in (Operand.Mask a k) next = next
target_in (Operand.MaskBranch a k d) next = target_of next d

-- ---- how an entry says the form: whatever the operand is; by where the operand stands; by where a branch goes

abbrev pub always : Form → Operand → ℕ → Form
always g o next = g

abbrev pub at_operand : (Address → Form) → Operand → ℕ → Form
at_operand g o next = g (address_in o next)

abbrev pub to_target : (ℕ → Form) → Operand → ℕ → Form
to_target g o next = g (target_in o next)

-- BRA always branches and BRN never; the others go both ways
abbrev pub branch_form : ℕ → ℕ → Form
branch_form k target = cond (eqb k 0) (Jumps (Fixed target)) (cond (eqb k 1) Computes (Branches target))

abbrev pub load_form : Word → Form
load_form Wd.D = Computes
load_form Wd.X = Computes
load_form Wd.Y = Computes
load_form Wd.S = MovesSp

-- the instructions that a step refuses with 23
abbrev pub waits : Form → Bool
waits Computes = false
waits (StoresByte p) = false
waits (StoresWord p) = false
waits PushesByte = false
waits PushesWord = false
waits PullsByte = false
waits PullsWord = false
waits Reserves = false
waits Releases = false
waits (Branches t) = false
waits (Jumps p) = false
waits (Calls p) = false
waits Returns = false
waits MovesSp = false
waits Interrupts = false
waits Resumes = false
waits Waits = true
