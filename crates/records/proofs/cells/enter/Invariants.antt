-- `enter` meets its contract: what is left of the bytes leads to what all of them do.
-- Assumes nothing.
use Rattle.std.proofs.Common.{◌≡◌, ◌+◌, length, drop}
use Rattle.commands.specs.declared.header.Window.{Window}
use Rattle.records.specs.Record.{given_from}
use Rattle.records.specs.Read.{enter}
use Rattle.records.proofs.cells.enter.Given as goal

-- the loop has no window, but where it starts and where it is past
abbrev pub invariant-loop-i : goal.invariant-loop-i
invariant-loop-i l = (length l.cells ≡ 4096)
    × ((w : Window) → w.start ≡ l.start → w.start + w.length ≡ l.past
    → enter w l.cells (given_from (l.address + l.i) (drop l.i l.data))
    ≡ enter w l.initial.cells (given_from l.address l.data))
