-- `look_ahead` meets its contract: what is left of the look, from the state that each turn reaches, comes to the whole.
-- Assumes nothing.
use Rattle.std.proofs.Common.{◌≡◌, ◌-◌, ◌≤◌}
use Rattle.measure.specs.Look.{look_from}
use Rattle.measure.proofs.look.look_ahead.Given as goal

abbrev pub invariant-loop-i : goal.invariant-loop-i
invariant-loop-i l = (l.l.pending ≤ l._i) × (l.l.left ≤ l.budget)
    × (look_from (l.budget - l._i) l.l l.mem ≡ look_from l.budget l.initial.l l.initial.mem)
