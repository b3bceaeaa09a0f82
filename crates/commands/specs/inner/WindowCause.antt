-- The two causes of a window, as the code has them together. An inner matter of the code.
-- Assumes nothing.
use Rattle.std.specs.Prelude.{cond, Result, Ok, Err}
use Rattle.commands.specs.Cause.{edges_hold, separate}
use Rattle.commands.specs.declared.header.Header.{Header}
use Rattle.commands.specs.declared.command.Command.{Command}
use Rattle.answers.specs.declared.Cause.{Cause}
use Rattle.answers.specs.declared.Cause.TheVariants.{WindowEdge, WindowsShare}

-- 5 or 6
unfoldable pub window_cause_of : Header → Command → Result Unit Cause
window_cause_of h c = cond (edges_hold c) (cond (separate h c) (Ok tt) (Err WindowsShare)) (Err WindowEdge)
