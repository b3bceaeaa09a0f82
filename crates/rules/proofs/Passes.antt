-- A verdict accepts where every check passes, and only there.
-- Assumes nothing.
use mathlib.Core.Path.{◌≡◌, refl}
use mathlib.Core.Logic.{◌↔◌}
use mathlib.Core.Bool.{Bool, true, false, cond, false≢true}
use mathlib.Core.List.{List, [], ◌∷◌, ◌++◌}
use Rattle.answers.specs.declared.Refusal.{Refusal}
use Rattle.std.specs.Prelude.{Ok, Err}
use Rattle.answers.specs.declared.Acceptance.{Acceptance}
use Rattle.answers.specs.Verdict.{Verdict}
use Rattle.rules.specs.Checks.{Check, first_failing}

-- every check of a list
abbrev pub Passes : List Check → Type 0
Passes [] = Unit
Passes (c ∷ cs) = (c.passes ≡ true) × Passes cs

pub append_says : (cs ds : List Check) → Passes (cs ++ ds) ↔ (Passes cs × Passes ds)
append_says [] ds = (λ p. (tt, p), λ p. p.1)
append_says (c ∷ cs) ds = simp (append_says cs ds) (λ p. search, λ p. search)

module _ (a : Acceptance) where
  pub refuses : (r : Refusal) → ◌≡◌ {A = Verdict} (Err r) (Ok a) → ⊥
  refuses r h = cc

  cond_says : (b : Bool) (v : Verdict) (r : Refusal) → (cond b v (Err r) ≡ Ok a) ↔ ((b ≡ true) × (v ≡ Ok a))
  cond_says true v r = (λ h. (refl, h), λ h. h.1)
  cond_says false v r = (λ h. absurd (refuses r h), λ h. absurd (false≢true h.0))

  pub first_says : (cs : List Check) (v : Verdict) → (first_failing cs v ≡ Ok a) ↔ (Passes cs × (v ≡ Ok a))
  first_says [] v = (λ h. (tt, h), λ h. h.1)
  first_says (k ∷ cs) v = simp (cond_says, first_says cs v) (λ h. search, λ h. search)
