-- The invariant of `run_until`'s loop: the run from here with the budget left, on the registers with the lowest SP that
-- is kept beside them, comes to what the run from the call does. The measure is the budget left, which each instruction
-- lessens.
-- Assumes nothing.
use Rattle.registers.specs.Registers.{with_lowest}
use Rattle.stepper.proofs.LoopInvariant.{CameTo}
use Rattle.stepper.proofs.until.run_until.Given as goal

abbrev pub invariant-loop-place : goal.invariant-loop-place
invariant-loop-place l = CameTo l.home l.budget l.initial.q l.initial.mem l.left (with_lowest l.q l.lowest) l.mem

abbrev pub decreases-loop-place : goal.decreases-loop-place
decreases-loop-place l = l.left
