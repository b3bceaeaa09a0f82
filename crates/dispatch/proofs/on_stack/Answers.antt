-- `on_stack` meets its contract: what SWI and RTI ensure is the effect of their numbers.
-- Assumes nothing.
use mathlib.Core.Path.{refl}
use Rattle.instructions.proofs.Effects.{opened}
use Rattle.dispatch.proofs.on_stack.Goals as goal

pub returns-in-65 : goal.returns-in-65
unfolding opened
returns-in-65 c o = rw c.in-65.is c.interrupt.ensures

pub returns-in-66 : goal.returns-in-66
unfolding opened
returns-in-66 c o = rw c.in-66.is (c.resume.ensures, refl)
