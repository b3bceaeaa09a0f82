-- What the ticket rules ask of an instruction, by its form (document 01, "Rules at a mark").
-- Assumes nothing.
use Rattle.std.specs.Prelude.{ℕ, List, [], ◌∷◌, Option, Some, None}
use Rattle.registers.specs.Word.{wrapping_add}
use Rattle.opcodes.specs.Tables.{length_at, cycles_at}
use Rattle.opcodes.specs.Decode.{Bytes, place_in, decode_of}
use Rattle.instructions.specs.Entry.{form_of}
use Rattle.opcodes.specs.declared.instruction.Address.{Address}
use Rattle.opcodes.specs.declared.instruction.Address.TheVariants.{Fixed, IndexedX, IndexedY}
use Rattle.opcodes.specs.declared.instruction.Decoded.{Decoded}
use Rattle.instructions.specs.declared.form.Form.{Form}
use Rattle.instructions.specs.declared.form.Form.TheVariants.{Computes, StoresByte, StoresWord, PushesByte, PushesWord}
use Rattle.instructions.specs.declared.form.Form.TheVariants.{PullsByte, PullsWord, Reserves, Releases, Branches}
use Rattle.instructions.specs.declared.form.Form.TheVariants.{Jumps, Calls, Returns, MovesSp, Interrupts, Resumes}
use Rattle.instructions.specs.declared.form.Form.TheVariants.{Waits}

-- goes on inside its routine
pub record Ordinary : Type 0 where
  -- the addresses that may come next
  pub next : List ℕ
  -- bytes, on the stack
  pub pushed : ℕ
  pub pulled : ℕ
  -- the addresses that a direct or extended write stores to
  pub written : List ℕ
  pub cycles : ℕ

-- JSR and BSR
pub record Call : Type 0 where
  pub target : ℕ
  -- the following address
  pub after : ℕ
  pub cycles : ℕ

pub data Shape : Type 0 where
  ordinary : Ordinary → Shape
  call : Call → Shape
  -- RTS
  return : (cycles : ℕ) → Shape
  -- document 01's "kept out"
  forbidden : Shape
  nothing : Shape

-- only goes on, to one of these addresses
abbrev pub leads : List ℕ → ℕ → Shape
leads next k = ordinary (record { next = next; pushed = 0; pulled = 0; written = []; cycles = k })

abbrev pub pushes : ℕ → ℕ → ℕ → Shape
pushes n after k = ordinary (record { next = after ∷ []; pushed = n; pulled = 0; written = []; cycles = k })

abbrev pub pulls : ℕ → ℕ → ℕ → Shape
pulls n after k = ordinary (record { next = after ∷ []; pushed = 0; pulled = n; written = []; cycles = k })

abbrev pub stores : List ℕ → ℕ → ℕ → Shape
stores written after k =
    ordinary (record { next = after ∷ []; pushed = 0; pulled = 0; written = written; cycles = k })

-- indexed writes, jumps and calls are forbidden: where they lead is not known
abbrev pub writes : Address → (ℕ → List ℕ) → ℕ → ℕ → Shape
writes (Fixed a) bytes after k = stores (bytes a) after k
writes (IndexedX d) bytes after k = forbidden
writes (IndexedY d) bytes after k = forbidden

abbrev pub jumps : Address → ℕ → Shape
jumps (Fixed a) k = leads (a ∷ []) k
jumps (IndexedX d) k = forbidden
jumps (IndexedY d) k = forbidden

abbrev pub calls : Address → ℕ → ℕ → Shape
calls (Fixed a) after k = call (record { target = a; after = after; cycles = k })
calls (IndexedX d) after k = forbidden
calls (IndexedY d) after k = forbidden

-- by the form, the address after the instruction and its cycles. DES counts as one pushed, INS as one pulled. LDS, TXS,
-- TYS, SWI, RTI, WAI, STOP and TEST are forbidden
abbrev pub shape_by : Form → ℕ → ℕ → Shape
shape_by Computes after k = leads (after ∷ []) k
shape_by (StoresByte p) after k = writes p (λ a. a ∷ []) after k
shape_by (StoresWord p) after k = writes p (λ a. a ∷ wrapping_add a 1 ∷ []) after k
shape_by PushesByte after k = pushes 1 after k
shape_by PushesWord after k = pushes 2 after k
shape_by PullsByte after k = pulls 1 after k
shape_by PullsWord after k = pulls 2 after k
shape_by Reserves after k = pushes 1 after k
shape_by Releases after k = pulls 1 after k
shape_by (Branches t) after k = leads (t ∷ after ∷ []) k
shape_by (Jumps p) after k = jumps p k
shape_by (Calls p) after k = calls p after k
shape_by Returns after k = return k
shape_by MovesSp after k = forbidden
shape_by Interrupts after k = forbidden
shape_by Resumes after k = forbidden
shape_by Waits after k = forbidden

abbrev pub shape_in : ℕ → Option Decoded → ℕ → Shape
shape_in p None a = nothing
shape_in p (Some d) a =
    let after = wrapping_add a (length_at p) in shape_by (form_of d.action d.operand after) after (cycles_at p)

-- of the instruction at address a, whose bytes are f; the step decodes with the same definition
unfoldable pub shape_of : Bytes → ℕ → Shape
shape_of f a = shape_in (place_in f) (decode_of f) a

-- how many bytes it has
unfoldable pub instruction_size : Bytes → ℕ
instruction_size f = length_at (place_in f)
