-- What stores into the data window, and on the stack not over the routine's base, leave alone.
-- Assumes nothing.
use Prim.Native.Nat.{ℕ, ◌+◌, ◌≤◌, ◌<◌}
use mathlib.Core.Path.{◌≡◌, ◌∙◌}
use mathlib.Core.Logic.{◌⊎◌, inl, inr}
use mathlib.Core.List.{List}
use native.Mathlib.Omega.{arith}
use lib.ListN.{length, get_or}
use Rattle.memory.specs.Memory.{Store, byte_at, applied}
use Rattle.commands.proofs.Every.{every_map}
use Rattle.ticket.specs.Fields.{Fields}
use Rattle.commands.specs.Every.{Every}
use Rattle.ticket.specs.Rules.{In, HeaderRules}
use Rattle.rules.specs.Claim.{top_of, Spares}
use Rattle.rules.proofs.Memory.{byte_applied}
use Rattle.rules.proofs.Frames.{Frame, Stacked, pairs, base_top, pairs_away, stacked_keep}

-- a store of a routine with base b: on the stack at b or below, or to the data window
abbrev pub Placed : Fields → ℕ → Store → Type 0
Placed f b w = ((f.header.stack.start ≤ w.at) × (w.at ≤ b)) ⊎ In f.header.«data» w.at

-- the image's bytes in memory
abbrev pub Filled : Fields → List ℕ → List ℕ → Type 0
Filled f image m = (i : ℕ) → i < length image → byte_at m (f.header.code.start + i) ≡ get_or image i 0

module _
    (f : Fields)
    (H : HeaderRules f.header)
    (b : ℕ)
    (low : f.header.stack.start ≤ b + 1)
    (need : ℕ)
    (m : List ℕ)
    (us : List Frame)
    (S : Stacked f need m b us)
  where
    top : b + 2 ≤ top_of f
    top = base_top f need m b us S

    inside : (w : Store) → Placed f b w → In f.header.«data» w.at ⊎ In f.header.stack w.at
    inside w (inl p) = inr (p.0, omega (arith, p.1, top))
    inside w (inr d) = inl d

    off_code : (w : Store) → Placed f b w → In f.header.code w.at → ⊥
    off_code w (inl p) c = H.stack_apart_code w.at c (p.0, omega (arith, p.1, top))
    off_code w (inr d) c = H.data_apart w.at c d

    off_stack : (w : Store) → Placed f b w → (x : ℕ) → b < x → x ≤ top_of f → w.at ≡ x → ⊥
    off_stack w (inl p) x h t e = omega (arith, p.1)
    off_stack w (inr d) x h t e = H.stack_apart_data w.at d (omega arith, omega (arith, H.stack_length.0))

    module _ (ws : List Store) (P : Every (Placed f b) ws) where
      pub placed_spares : Every (Spares f (pairs b us)) ws
      placed_spares =
          every_map (λ w p. record {
            inside = inside w p;
            code = off_code w p;
            returns = pairs_away f need m b us S w.at (off_stack w p);
          }) P

      pub code_kept : (image : List ℕ) → length image ≡ f.header.code.length → Filled f image m →
          Filled f image (applied ws m)
      code_kept image size filled i h =
          byte_applied m (f.header.code.start + i) (every_map (λ w p e. off_code w p (omega arith, omega arith)) P) ∙
          filled i h

      pub stack_kept : Stacked f need (applied ws m) b us
      stack_kept =
          stacked_keep f need m (applied ws m) b us (λ x h t.
          byte_applied m x (every_map (λ w p. off_stack w p x h t) P)) S
