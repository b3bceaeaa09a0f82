-- `monitor::jugrond_reset` meets its contract, by the length.
-- Assumes nothing.
use borrow.Author.Tests.{eq-eqb, ne_eqb}
use Rattle.monitor.specs.StepperCalls.{reset_bytes_of}
use Rattle.monitor.proofs.jugrond_reset.Goals as goal

pub returns-in_default : goal.returns-in_default
unfolding reset_bytes_of
returns-in_default c = let h = ne_eqb _ _ c.in_default.ensures.cases in (simp h, simp h)

pub returns : goal.returns
unfolding reset_bytes_of
returns c = let h = eq-eqb _ _ c.in-Some.ensures.cases.long in
    (simp h, simp (c.pack.ensures, c.reset.ensures, h))
