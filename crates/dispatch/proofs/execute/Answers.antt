-- `execute` meets its contract: the operand is where the code looks for it.
-- Assumes nothing.
use Rattle.opcodes.specs.inner.Numbers.{action_of, mode_of}
use Rattle.dispatch.proofs.Sited.{sited}
use Rattle.dispatch.proofs.execute.Goals as goal

pub returns-then-n-lt30 : goal.returns-then-n-lt30
returns-then-n-lt30 c = c.on_registers.ensures _ _

pub returns-else-n-lt30 : goal.returns-else-n-lt30
returns-else-n-lt30 c = c.on_stack.ensures _

pub returns-then-n-lt97 : goal.returns-then-n-lt97
returns-then-n-lt97 c =
    let a = c.args in
    c.on_operand.ensures a.from _
    (rw c.address-at.ensures (sited a.from a.r a.mem.now (action_of a.n) (mode_of a.k) c.requires.k_value))

pub returns-else-n-lt97 : goal.returns-else-n-lt97
returns-else-n-lt97 c =
    let a = c.args in
    c.on_address.ensures _
    (rw c.address-at.ensures (sited a.from a.r a.mem.now (action_of a.n) (mode_of a.k) c.requires.k_value))
