-- A start is ready, so the way home leads from it.
-- Assumes nothing.
use Prim.Native.Nat.{ℕ, ◌+◌, ◌-◌}
use mathlib.Core.Path.{◌≡◌}
use mathlib.Core.List.{List, [], ◌∷◌}
use native.Mathlib.Nat.{div-add-mod'}
use native.Mathlib.Omega.{arith}
use Rattle.registers.specs.Registers.{start_of}
use Rattle.registers.specs.Word.{wrapping_sub}
use Rattle.registers.specs.declared.Data.{Data}
use Rattle.ticket.specs.Fields.{Fields}
use Rattle.rules.specs.Rules.{Accepted}
use Rattle.rules.specs.Claim.{top_of, Loaded, WithinNeed, home_pair}
use Rattle.rules.proofs.Memory.{less_is}
use Rattle.rules.proofs.Ready.{Ready}
use Rattle.rules.proofs.Course.{Course, course}

-- SP is T - 2 without a wrap
start_sp : (f : Fields) (image : List ℕ) → Accepted f image → wrapping_sub (top_of f) 2 + 2 ≡ top_of f
start_sp f image A =
    let H = A.readable.header_rules in
    less_is (top_of f) 2 (omega (arith, H.stack_edge, H.stack_start))
    (omega (arith, H.stack_start, H.stack_length.0))

ready : (f : Fields) (image : List ℕ) (A : Accepted f image) (d : Data) (m : List ℕ) → Loaded f image m
    → Ready A (start_of d f.header.entry (top_of f)) m (home_pair f ∷ []) A.start.cost.0
ready f image A d m L =
    let b : ℕ = wrapping_sub (top_of f) 2 in
    let e : b + 2 ≡ top_of f = start_sp f image A in
    let e1 : b + 1 ≡ top_of f - 1 = omega arith in
    record {
      base = b;
      frames = [];
      claim = A.start;
      whole = L.whole;
      code = L.code;
      marked = A.start_marked;
      depth = omega (arith, A.start_depth);
      room = omega arith;
      stacked = (e, rw (e1, e, L.home_high, L.home_low) (div-add-mod' f.header.home 256));
      in_use = cc (e, e1);
      cost = omega arith;
    }

-- the lowest SP begins there
pub start_near : (f : Fields) (image : List ℕ) (A : Accepted f image) → WithinNeed f A.start.need.0
    (wrapping_sub (top_of f) 2)
start_near f image A = omega (arith, start_sp f image A)

pub start_course : (f : Fields) (image : List ℕ) (A : Accepted f image) (d : Data) (m : List ℕ) → Loaded f image m
    → Course f A.start.need.0 (start_of d f.header.entry (top_of f)) m (home_pair f ∷ []) A.start.cost.0
start_course f image A d m L =
    course A A.start.cost.0 (start_of d f.header.entry (top_of f)) m (home_pair f ∷ []) A.start.cost.0
    (omega arith) (ready f image A d m L) (start_near f image A)
