-- The table of commands: their order, which are windows, and their operands with widths and ranges (document 01, "The
-- ticket"; document 02, e, of $07).
-- Assumes nothing.
use Rattle.std.specs.Prelude.{ℕ, ◌+◌, Bool, true, ◌&&◌, List, [], ◌∷◌, ltb, leb, get_or, length, Option, Some, None}
use Rattle.std.specs.List.{list_all}
use Rattle.commands.specs.Number.{digits}

-- an operand: its width, and its range if it has one
pub data CommandOperand : Type 0 where
  any : (width : ℕ) → CommandOperand
  within : (width least most : ℕ) → CommandOperand
  text : (width : ℕ) → CommandOperand

abbrev pub width_in : CommandOperand → ℕ
width_in (any w) = w
width_in (within w l m) = w
width_in (text w) = w

-- how many bytes some operands have
abbrev pub size_of : List CommandOperand → ℕ
size_of [] = 0
size_of (o ∷ os) = width_in o + size_of os

abbrev pub between : ℕ → ℕ → ℕ → Bool
between l m v = leb l v && leb v m

-- each byte of a text is $20 to $7E
abbrev pub printable : List ℕ → Bool
printable s = list_all (λ b. between 0x20 0x7e b) s

abbrev pub in_range : CommandOperand → ℕ → Bool
in_range (any w) v = true
in_range (within w l m) v = between l m v
in_range (text w) v = printable (digits w v)

-- `stage`: its place in the sequence of the header's commands, after all of which the marks, their names and the end
-- stand; `window`: whether its first two operands are a window's start and length and, if so, the least address at
-- which that window may start
pub record CommandRow : Type 0 where
  pub stage : ℕ
  pub window : Option ℕ
  pub operands : List CommandOperand

-- by the command's byte
abbrev pub command_rows : List CommandRow
command_rows =
    -- $00 end
    record { stage = 5; window = None; operands = [] }
    -- $01 code window: start, length
    ∷ record { stage = 0; window = Some 1; operands = any 2 ∷ within 2 1 4096 ∷ [] }
    -- $02 data window: start, length
    ∷ record { stage = 1; window = Some 0; operands = any 2 ∷ within 2 0 8192 ∷ [] }
    -- $03 stack window: start, length
    ∷ record { stage = 2; window = Some 1; operands = any 2 ∷ within 2 2 1024 ∷ [] }
    -- $04 entry: address, cycle limit
    ∷ record { stage = 3; window = None; operands = any 2 ∷ within 4 1 2000000 ∷ [] }
    -- $05 mark: address, cost, depth, need
    ∷ record {
      stage = 5;
      window = None;
      operands = any 2 ∷ within 4 0 2000000 ∷ within 2 0 1022 ∷ within 2 0 1022 ∷ [];
    }
    -- $06 name: address, text
    ∷ record { stage = 5; window = None; operands = any 2 ∷ text 8 ∷ [] }
    -- $07 home: address
    ∷ record { stage = 4; window = None; operands = any 2 ∷ [] }
    ∷ []

abbrev pub row_of : ℕ → CommandRow
row_of b = get_or command_rows b (record { stage = 0; window = None; operands = [] })

-- the operands of the command with a byte
abbrev pub layout_of : ℕ → List CommandOperand
layout_of b = (row_of b).operands

-- how many commands a header has in full: all of them come before the end
abbrev pub header_length : ℕ
header_length = (row_of 0x00).stage

-- how many of them every header has, the entry being the last: those after it may be left out
abbrev pub required_length : ℕ
required_length = (row_of 0x04).stage + 1

abbrev pub known : ℕ → Bool
known b = ltb b (length command_rows)
