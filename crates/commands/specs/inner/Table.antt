-- The table of commands as the code has it: rows of four operands, those that a command lacks without bytes.
-- Assumes nothing.
use Rattle.std.specs.Prelude.{ℕ, zero, suc, ◌^◌, ◌≤◌, ◌<◌, Bool, true, false, cond, ◌&&◌, List, [], ◌∷◌, get_or, take}
use Rattle.std.specs.Prelude.{drop, sum_by}
use Rattle.commands.specs.Every.{Every}
use Rattle.commands.specs.Number.{number, digits}
use Rattle.commands.specs.Rows.{CommandOperand, any, within, text, between, printable, CommandRow}
use Rattle.commands.specs.declared.row.TableOperand.{TableOperand as CodeOperand}
use Rattle.commands.specs.declared.row.TableRow.{TableRow as CodeRow}

abbrev pub code_operand : CommandOperand → CodeOperand
code_operand (any w) = record { width = w; least = 0; most = 0xffffffffffffffff; text = false }
code_operand (within w l m) = record { width = w; least = l; most = m; text = false }
code_operand (text w) = record { width = w; least = 0; most = 0xffffffffffffffff; text = true }

abbrev pub absent : CodeOperand
absent = record { width = 0; least = 0; most = 0; text = false }

-- n of them: those of a layout, and absent ones after its last
abbrev pub padded : ℕ → List CommandOperand → List CodeOperand
padded zero os = []
padded (suc n) [] = absent ∷ padded n []
padded (suc n) (o ∷ os) = code_operand o ∷ padded n os

abbrev pub code_row : CommandRow → CodeRow
code_row r = record { stage = r.stage; window = r.window; operands = padded 4 r.operands }

-- how many bytes some operands have
abbrev pub code_size : List CodeOperand → ℕ
code_size os = sum_by (λ o. o.width) os

-- some values as the code has them
abbrev pub code_values : List ℕ → List ℕ
code_values vs = get_or vs 0 0 ∷ get_or vs 1 0 ∷ get_or vs 2 0 ∷ get_or vs 3 0 ∷ []

-- each operand is a number of at most eight bytes
abbrev pub Narrow : List CodeOperand → Type 0
Narrow os = Every (λ o. o.width ≤ 8) os

abbrev pub width_at : CodeRow → ℕ → ℕ
width_at r i = (get_or r.operands i absent).width

-- each value fits its width
abbrev pub FitsCode : CodeRow → List ℕ → Type 0
FitsCode r v =
    (get_or v 0 0 < 256 ^ width_at r 0)
    × (get_or v 1 0 < 256 ^ width_at r 1)
    × (get_or v 2 0 < 256 ^ width_at r 2)
    × (get_or v 3 0 < 256 ^ width_at r 3)

-- the values that some bytes begin with
abbrev pub values_in : List CodeOperand → List ℕ → List ℕ
values_in [] s = []
values_in (o ∷ os) s = number (take o.width s) ∷ values_in os (drop o.width s)

-- a value is in the range of the code's operand
abbrev pub in_range_code : CodeOperand → ℕ → Bool
in_range_code o v = cond o.text (printable (digits o.width v)) (between o.least o.most v)

abbrev pub ranges_hold_code : List CodeOperand → List ℕ → Bool
ranges_hold_code [] vs = true
ranges_hold_code (o ∷ os) [] = true
ranges_hold_code (o ∷ os) (v ∷ vs) = in_range_code o v && ranges_hold_code os vs
