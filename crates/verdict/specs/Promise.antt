-- What the verdict promises besides its result (demands 2 and 3).
-- Assumes nothing.
use Rattle.std.specs.Prelude.{ℕ, ◌-◌, ◌≡◌, ◌↔◌, ◌⊎◌, List, Ok, Err}
use Rattle.answers.specs.declared.Acceptance.{Acceptance}
use Rattle.answers.specs.declared.Refusal.{Refusal}
use Rattle.ticket.specs.Rules.{Between}
use Rattle.rules.specs.Rules.{Certified}
use Rattle.rules.specs.Checks.{verdict_of}
use Rattle.rules.specs.Claim.{Demand3}
use Rattle.answers.specs.Cause.{number_of}

-- demand 2: it accepts if and only if every ticket rule holds
abbrev pub AcceptsExactly : List ℕ → List ℕ → Type 0
AcceptsExactly ticket image =
    (a : Acceptance) → (verdict_of ticket image ≡ Ok a) ↔ Certified ticket image a

-- demand 3: what it accepts comes home
abbrev pub AcceptedComesHome : List ℕ → List ℕ → Type 0
AcceptedComesHome ticket image =
    (a : Acceptance) → verdict_of ticket image ≡ Ok a
    → (C : Certified ticket image a) × Demand3 C.fields image a.cost.0 (a.stack.0 - 2)

-- the numbers of a verdict's refusals: document 01's 1 to 20 and document 02's 29
abbrev pub VerdictNumber : ℕ → Type 0
VerdictNumber n = Between 1 20 n ⊎ (n ≡ 29)

-- a refusal has one of them; so 0 can stand for acceptance
abbrev pub RefusalsNumbered : List ℕ → List ℕ → Type 0
RefusalsNumbered ticket image = (r : Refusal) → verdict_of ticket image ≡ Err r → VerdictNumber (number_of r.cause)

abbrev pub Promised : List ℕ → List ℕ → Type 0
Promised ticket image = AcceptsExactly ticket image × AcceptedComesHome ticket image × RefusalsNumbered ticket image
