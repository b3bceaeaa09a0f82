-- A verdict: an acceptance or a refusal (document 01).
-- Assumes nothing.
use Rattle.std.specs.Prelude.{Result}
use Rattle.answers.specs.declared.Acceptance.{Acceptance}
use Rattle.answers.specs.declared.Refusal.{Refusal}

abbrev pub Verdict : Type 0
Verdict = Result Acceptance Refusal
