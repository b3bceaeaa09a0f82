-- The return addresses on the stack under the routine that runs, and where memory has them.
-- Assumes nothing.
use Prim.Native.Nat.{ℕ, ◌+◌, ◌≤◌, ◌<◌}
use mathlib.Core.Path.{◌≡◌}
use mathlib.Core.List.{List, [], ◌∷◌}
use Rattle.std.specs.Prelude.{Some}
use native.Mathlib.Omega.{arith}
use Rattle.memory.specs.Memory.{byte_at}
use Rattle.commands.specs.declared.command.Claim.{Claim}
use Rattle.ticket.specs.Fields.{Fields}
use Rattle.commands.specs.Every.{Every, none, more}
use Rattle.rules.specs.Marks.{claim_at}
use Rattle.rules.specs.Claim.{top_of}
use Rattle.rules.proofs.Memory.{HoldsWord}

-- a return address with its claim, and the base of the routine that it lies in. A routine's base is SP as the routine
-- begins
pub record Frame : Type 0 where
  pub address : ℕ
  pub claim : Claim
  pub base : ℕ

-- the return address over base b is a frame's; after the return SP is b + 2
pub record Over (f : Fields) (need : ℕ) (m : List ℕ) (b : ℕ) (u : Frame) : Type 0 where
  pub marked : claim_at f.marks u.address ≡ Some u.claim
  pub base : b + 2 + u.claim.depth.0 ≡ u.base
  pub room : top_of f + u.claim.need.0 ≤ b + 2 + 2 + need
  pub word : HoldsWord m b u.address

-- over the base of the routine that runs, the innermost first; home is the last
abbrev pub Stacked : Fields → ℕ → List ℕ → ℕ → List Frame → Type 0
Stacked f need m b [] = (b + 2 ≡ top_of f) × HoldsWord m b f.header.home
Stacked f need m b (u ∷ us) = Over f need m b u × Stacked f need m u.base us

-- the cycles that are to come after the return
abbrev pub owed : List Frame → ℕ
owed [] = 0
owed (u ∷ us) = u.claim.cost.0 + owed us

abbrev pub pairs : ℕ → List Frame → List (List ℕ)
pairs b [] = ((b + 2) ∷ (b + 1) ∷ []) ∷ []
pairs b (u ∷ us) = ((b + 2) ∷ (b + 1) ∷ []) ∷ pairs u.base us

module _ (f : Fields) (need : ℕ) (m : List ℕ) where
  pub base_top : (b : ℕ) (us : List Frame) → Stacked f need m b us → b + 2 ≤ top_of f
  base_top b [] h = omega (arith, h.0)
  base_top b (u ∷ us) h = omega (arith, base_top u.base us h.1, h.0.base)

  -- what is no address over the base is in no pair
  pub pairs_away : (b : ℕ) (us : List Frame) → Stacked f need m b us → (a : ℕ) →
      ((x : ℕ) → b < x → x ≤ top_of f → a ≡ x → ⊥)
      → Every (Every (λ x. a ≡ x → ⊥)) (pairs b us)
  pairs_away b [] h a away =
      let top : b + 2 ≡ top_of f = h.0 in
      more (more (away (b + 2) (omega arith) (omega arith)) (more (away (b + 1) (omega arith) (omega arith)) none)) none
  pairs_away b (u ∷ us) h a away =
      let top : u.base + 2 ≤ top_of f = base_top u.base us h.1 in
      let up : b + 2 + u.claim.depth.0 ≡ u.base = h.0.base in
      more (more (away (b + 2) (omega arith) (omega arith)) (more (away (b + 1) (omega arith) (omega arith)) none))
      (pairs_away u.base us h.1 a (λ x low high. away x (omega arith) high))

  -- a memory with the same bytes over the base
  pub stacked_keep : (n : List ℕ) (b : ℕ) (us : List Frame)
      → ((x : ℕ) → b < x → x ≤ top_of f → byte_at n x ≡ byte_at m x)
      → Stacked f need m b us → Stacked f need n b us
  stacked_keep n b [] same h =
      let top : b + 2 ≡ top_of f = h.0 in
      (top, rw (same (b + 1) (omega arith) (omega arith), same (b + 2) (omega arith) (omega arith)) h.1)
  stacked_keep n b (u ∷ us) same h =
      let top : u.base + 2 ≤ top_of f = base_top u.base us h.1 in
      let up : b + 2 + u.claim.depth.0 ≡ u.base = h.0.base in (
        record {
          marked = h.0.marked;
          base = up;
          room = h.0.room;
          word = rw (same (b + 1) (omega arith) (omega arith), same (b + 2) (omega arith) (omega arith)) h.0.word;
        },
        stacked_keep n u.base us (λ x low high. same x (omega arith) high) h.1,
      )
