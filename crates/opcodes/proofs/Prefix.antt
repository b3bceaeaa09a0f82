-- The bytes that lead to another map have no instruction in the first one, so that the first map may be looked at
-- first.
-- Assumes nothing.
use Rattle.std.proofs.Common.{◌≡◌, ℕ, ◌+◌, ◌<◌, ◌≤◌, refl, ◌∙◌, arith}
use Rattle.std.proofs.lemmas.Bool.Decides.{nat_tests}
use Rattle.opcodes.specs.Tables.{costs, cost_at}
use Rattle.opcodes.specs.Decode.{page_of, opcode_place, opcode_size}
use Rattle.opcodes.specs.inner.Lookup.{entry_of, found_of}

pub prefixes_empty : (cost_at 0x18 ≡ 0) × (cost_at 0x1a ≡ 0) × (cost_at 0xcd ≡ 0)
unfolding costs cost_at
prefixes_empty = (refl, refl, refl)

-- a byte that has an instruction in the first map is no prefix
pub plain : (op : ℕ) → (cost_at op ≡ 0 → ⊥) → page_of op ≡ 0
unfolding page_of
plain op h = let e = prefixes_empty in grind (arith, nat_tests, e.0, e.1, e.2)

a_page : (op : ℕ) → (page_of op ≡ 0 → ⊥) → 256 ≤ page_of op
unfolding page_of
a_page op n = grind (arith, nat_tests)

pub size_some : (p : ℕ) → 1 ≤ opcode_size p
unfolding opcode_size
size_some p = grind (arith, nat_tests)

pub size_most : (p : ℕ) → opcode_size p ≤ 2
unfolding opcode_size
size_most p = grind (arith, nat_tests)

module _ (first second : ℕ) where
  pub in_first : page_of first ≡ 0 → opcode_place first second ≡ first
  unfolding opcode_place
  in_first z = grind (arith, nat_tests)

  -- after a prefix the opcode has two bytes
  pub paged : (g : ℕ) → g ≡ page_of first → (g ≡ 0 → ⊥) → (opcode_place first second ≡ g + second)
      × (opcode_size (g + second) ≡ 2)
  unfolding opcode_place opcode_size
  paged g e n = let far = a_page first (λ z. n (e ∙ z)) in (grind (arith, nat_tests), grind (arith, nat_tests))

  pub by_first : page_of first ≡ 0 → first < 256 → found_of first second ≡ entry_of first 1
  unfolding found_of opcode_place opcode_size
  by_first z h = grind (arith, nat_tests)

  pub by_second : (g : ℕ) → g ≡ page_of first → (g ≡ 0 → ⊥) → found_of first second ≡ entry_of (g + second) 2
  unfolding found_of
  by_second g e n = let h = paged g e n in simp (h.0, h.1)
