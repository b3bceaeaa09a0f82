-- A bit as a number, and a number below 2 as a bit.
-- Assumes nothing.
use Rattle.std.proofs.Common.{◌≡◌, ℕ, zero, suc, ◌<◌, ◌≤◌, Bool, true, false, eqb, refl, arith}
use Rattle.lists.specs.Bit.{one}

pub one≤ : (b : Bool) → one b ≤ 1
one≤ true = omega arith
one≤ false = omega arith

pub digit : (n : ℕ) → n < 2 → one (eqb n 1) ≡ n
digit zero h = refl
digit (suc zero) h = refl
digit (suc (suc n)) h = absurd (omega arith)
