-- No cause applies to a command where all that must hold of it holds, and only there.
-- Assumes nothing.
use Prim.Native.Nat.{ℕ, ◌≤◌}
use native.Mathlib.Omega.{arith}
use mathlib.Core.Path.{◌≡◌, refl}
use mathlib.Core.Logic.{◌⊎◌, inl, inr}
use mathlib.Core.Bool.{Bool, true, false, cond, ◌&&◌, ◌||◌, and-eq-true_iff}
use lib.Dec.{eqb, ltb, leb}
use borrow.Author.Tests.{eqb-true, ltb-true, leb-true}
use Rattle.commands.specs.Rows.{required_length}
use Rattle.commands.specs.Command.{stage_of}
use Rattle.commands.specs.Cause.{may_come, follows, in_order, ranges_hold, edges_hold, separate, home_outside}
use Rattle.commands.specs.Cause.{inside, command_cause_of}
use Rattle.commands.specs.declared.command.Command.{Command}
use Rattle.commands.specs.declared.progress.Progress.{Progress}
use Rattle.answers.specs.declared.Cause.{Cause}
use Rattle.std.specs.Prelude.{Result, Ok, Err}

never : false ≡ true → ◌≡◌ {A = ℕ} 0 1
never e = cc

-- a test that does not stop at its cause
passed : (b : Bool) (v : Result Unit Cause) (x : Cause) → cond b v (Err x) ≡ Ok tt → (b ≡ true) × (v ≡ Ok tt)
passed true v x e = (refl, e)
passed false v x e = absurd (cc)

-- a command of stage n that may come at a stage is not before it, and no command that every header has is left out
pub record Comes (stage n : ℕ) : Type 0 where
  pub ahead : stage ≤ n
  pub own_or_past : (stage ≡ n) ⊎ (required_length ≤ stage)

module _ (stage n : ℕ) where
  by_tests : (a b c : Bool) → eqb stage n ≡ a → leb required_length stage ≡ b → ltb stage n ≡ c → (a || (b && c)) ≡ true
      → Comes stage n
  by_tests true b c e f g t = let own = eqb-true stage n e in record { ahead = omega arith; own_or_past = inl own }
  by_tests false true true e f g t =
      record { ahead = omega (arith, ltb-true stage n g); own_or_past = inr (leb-true required_length stage f) }
  by_tests false true false e f g t = absurd (omega (arith, never t))
  by_tests false false c e f g t = absurd (omega (arith, never t))

  comes : may_come stage n ≡ true → Comes stage n
  comes t = by_tests (eqb stage n) (leb required_length stage) (ltb stage n) refl refl refl t

pub in_order_parts : (p : Progress) (c : Command) → in_order p c ≡ true → Comes p.stage (stage_of c)
    × (follows p c ≡ true)
in_order_parts p c e =
    let o = (and-eq-true_iff (may_come p.stage (stage_of c)) _).0 e in (comes p.stage (stage_of c) o.0, o.1)

pub record Allowed (p : Progress) (c : Command) : Type 0 where
  pub ordered : in_order p c ≡ true
  pub ranged : ranges_hold c ≡ true
  pub edged : edges_hold c ≡ true
  pub separated : separate p.header c ≡ true
  pub homed : home_outside p.header c ≡ true
  pub placed : inside p.header c ≡ true

pub allowed : (p : Progress) (c : Command) → command_cause_of p c ≡ Ok tt → Allowed p c
unfolding command_cause_of
allowed p c e =
    let o = passed (in_order p c) _ _ e in
    let r = passed (ranges_hold c) _ _ o.1 in
    let g = passed (edges_hold c) _ _ r.1 in
    let s = passed (separate p.header c) _ _ g.1 in
    let h = passed (home_outside p.header c) _ _ s.1 in
    let i = passed (inside p.header c) _ _ h.1 in
    record { ordered = o.0; ranged = r.0; edged = g.0; separated = s.0; homed = h.0; placed = i.0 }

pub allow : (p : Progress) (c : Command) → Allowed p c → command_cause_of p c ≡ Ok tt
unfolding command_cause_of
allow p c a = rw (a.ordered, a.ranged, a.edged, a.separated, a.homed, a.placed)
