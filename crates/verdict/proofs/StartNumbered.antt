-- A routine that is not certified, or not started, is refused with a number that is not 0: no cause is numbered 0.
-- Assumes nothing.
use Prim.Native.Nat.{ℕ, ◌≤◌}
use mathlib.Core.Path.{◌≡◌}
use mathlib.Core.List.{List}
use Rattle.std.specs.Prelude.{Err}
use Rattle.registers.specs.declared.Data.{Data}
use Rattle.answers.specs.Cause.{number_of}
use Rattle.answers.specs.declared.Refusal.{Refusal}
use Rattle.answers.proofs.Causes as Causes
use Rattle.commands.specs.declared.header.Header.{Header}
use Rattle.verdict.specs.Certification.{certification_of}
use Rattle.verdict.specs.Start.{started_of}
use Rattle.verdict.specs.Routine.{start_routine_of}

pub certification_numbered : (ticket image : List ℕ) (r : Refusal)
    → certification_of ticket image ≡ Err r → 1 ≤ number_of r.cause
certification_numbered ticket image r h = Causes.number_positive r.cause

-- nor a start's, by any header
pub started_numbered : (image : List ℕ) (d : Data) (m : List ℕ) (h : Header) (r : Refusal)
    → started_of h d image m ≡ Err r → 1 ≤ number_of r.cause
started_numbered image d m h r e = Causes.number_positive r.cause

pub start_numbered : (ticket image : List ℕ) (d : Data) (m : List ℕ) (r : Refusal) →
    (start_routine_of ticket image d m).answer ≡ Err r → 1 ≤ number_of r.cause
start_numbered ticket image d m r h = Causes.number_positive r.cause
