-- What the code's flow says, in the words of the trace.
-- Assumes nothing.
use Rattle.stepper.specs.Flow.{Flow, calls, returns, plain}
use Rattle.measure.specs.declared.flow.Flow.{Flow as Said}
use Rattle.measure.specs.declared.flow.Flow.TheVariants as Said

abbrev pub flow_said : Said → Flow
flow_said Said.Calls = calls
flow_said Said.Returns = returns
flow_said Said.Plain = plain
