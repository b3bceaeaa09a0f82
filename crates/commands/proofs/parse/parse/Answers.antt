-- `parse::parse` meets its contract: the slice is its first byte and the part after it, which is lent to `operands_in`.
-- Assumes nothing.
use mathlib.Core.Path.{◌≡◌, sym, ap, ◌∙◌}
use Prim.Native.Nat.{ℕ, ◌-◌, ◌≤◌, ◌<◌}
use mathlib.Core.List.{List}
use borrow.Author.Tests.{lt-ltb, le-ltb, le-leb, lt-leb}
use native.Mathlib.Omega.{arith}
use lib.ListN.{length, get_or, take, drop, length-drop}
use lib.Seq.{take_all, drop-cons}
use Rattle.commands.specs.Bytes.{command_of, parse_of}
use Rattle.commands.specs.Command.{command_with}
use Rattle.commands.specs.inner.Table.{code_row, code_size, values_in}
use Rattle.commands.specs.Rows.{command_rows, row_of}
use Rattle.commands.specs.declared.command.Command.{Command}
use Rattle.std.specs.Prelude.{Ok, Err}
use Rattle.commands.specs.declared.parse.ParseError.TheVariants.{Unknown, Cut}
use Rattle.commands.specs.declared.row.TableRow.{TableRow as CodeRow}
use Rattle.commands.proofs.Table.{row_sizes, row_narrow, row_values}
use Rattle.commands.proofs.parse.parse.Goals as goal

nothing_left : (s : List ℕ) → length s ≡ 0 → Err Cut ≡ parse_of s
unfolding parse_of
nothing_left s e = ap parse_of (take_all 0 s (omega arith))

-- the part after the first byte
rest : (s : List ℕ) → take (length s - 1) (drop 1 s) ≡ drop 1 s
rest s = take_all (length s - 1) (drop 1 s) (omega (arith, length-drop 1 s))

-- a byte is left
module _ (s : List ℕ) (left : 0 < length s) where
  abbrev byte : ℕ
  byte = get_or s 0 0

  unknown : length command_rows ≤ byte → Err Unknown ≡ parse_of s
  unfolding parse_of
  unknown h = sym (ap parse_of (drop-cons s 0 0 left) ∙ simp (le-ltb byte (length command_rows) h))

  -- it has this row
  module _ (known : byte < length command_rows) (row : CodeRow) (is_row : row ≡ code_row (row_of byte)) where
    cut : length s - 1 < code_size row.operands → Err Cut ≡ parse_of s
    unfolding parse_of
    cut h =
        sym (
        ap parse_of (drop-cons s 0 0 left)
        ∙ simp (
          lt-ltb byte (length command_rows) known,
          ← row_sizes byte row is_row,
          length-drop,
          lt-leb _ _ h,
        ))

    -- and its operands are those that the part after it begins with
    found : code_size row.operands ≤ length s - 1 → (v : List ℕ) → v ≡ values_in row.operands (drop 1 s) → (c : Command)
        → c ≡ command_with byte v → Ok c ≡ parse_of s
    unfolding parse_of command_of
    found h v e c f =
        let made : c ≡ command_of byte (drop 1 s) =
        f ∙ ap (command_with byte) (e ∙ row_values byte row is_row (drop 1 s)) in
        sym (
        ap parse_of (drop-cons s 0 0 left)
        ∙ simp (
          lt-ltb byte (length command_rows) known,
          ← row_sizes byte row is_row,
          length-drop,
          le-leb _ _ h,
          made,
        ))

pub returns-in_default : goal.returns-in_default
returns-in_default c = nothing_left c.args.s.now (omega arith)

pub returns-then-b-ge-COMMANDS : goal.returns-then-b-ge-COMMANDS
returns-then-b-ge-COMMANDS c = unknown c.args.s.now (omega arith) (omega arith)

pub returns-then-left-size : goal.returns-then-left-size
returns-then-left-size c =
    let s = c.args.s.now in
    let part = rw (rest s) at c.if-left-size.true in
    cut s (omega arith) (omega arith) c.row_of-row.result c.row_of-row.ensures (omega (arith, length-drop 1 s))

pub operands_in-requires : goal.operands_in-requires
operands_in-requires c =
    let e = c.row_of-row.ensures in
    let part = rw (rest c.args.s.now) at c.if-left-size.false in
    (row_narrow _ _ e, rw (rest c.args.s.now) (omega arith))

pub returns : goal.returns
returns c =
    let s = c.args.s.now in
    let part = rw (rest s) at c.if-left-size.false in
    found s (omega arith) (omega arith) c.row_of-row.result c.row_of-row.ensures (omega (arith, length-drop 1 s))
    c.operands_in.result (rw (rest s) at c.operands_in.ensures.0) _ c.command_with.ensures
