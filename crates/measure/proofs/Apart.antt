-- Two different flows have different readings: from what `flow_said` says of a flow the flow is found again.
-- Assumes nothing.
use mathlib.Core.Path.{◌≡◌, refl, sym, ap, ◌∙◌}
use Rattle.stepper.specs.Flow.{Flow, calls, returns, plain}
use Rattle.measure.specs.declared.flow.Flow.{Flow as Said}
use Rattle.measure.specs.declared.flow.Flow.TheVariants as Said
use Rattle.measure.specs.inner.Said.{flow_said}

abbrev flow_from : Flow → Said
flow_from calls = Said.Calls
flow_from returns = Said.Returns
flow_from plain = Said.Plain

flow_back : (k : Said) → flow_from (flow_said k) ≡ k
flow_back Said.Calls = refl
flow_back Said.Returns = refl
flow_back Said.Plain = refl

pub flows_apart : (a b : Said) → flow_said a ≡ flow_said b → a ≡ b
flows_apart a b e = sym (flow_back a) ∙ ap flow_from e ∙ flow_back b
