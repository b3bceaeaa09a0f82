-- What is found says the place, the size of the opcode and the entry; and where the table has 0 there is no
-- instruction.
-- Assumes nothing.
use Rattle.std.specs.Prelude.{Option, Some, None, IfSome}
use Rattle.std.proofs.lemmas.Bool.Decides.{nat_tests}
use native.Mathlib.Omega.{arith}
use mathlib.Core.Path.{◌≡◌, sym}
use Prim.Native.Nat.{ℕ, ◌≤◌, ◌<◌}
use borrow.Author.Tests.{eq-eqb}
use Rattle.opcodes.specs.Tables.{cost_at}
use Rattle.opcodes.specs.declared.lookup.Found.{Found}
use Rattle.opcodes.specs.Decode.{Bytes, opcode_place, opcode_size, decode_at}
use Rattle.opcodes.specs.inner.Lookup.{entry_of, found_of}
use Rattle.opcodes.proofs.Rule.{below, entry_word}
use Rattle.opcodes.proofs.Prefix.{size_most}

module _ (p s : ℕ) where
  pub entry_says : (o : Found) → entry_of p s ≡ Some o
      → (p ≡ o.place) × (s ≡ o.size) × (cost_at p ≡ o.cost) × (cost_at p ≡ 0 → ⊥)
  unfolding entry_of
  entry_says o h =
      (grind (arith, nat_tests), grind (arith, nat_tests), grind (arith, nat_tests), λ z. grind (arith, nat_tests))

  no_entry : entry_of p s ≡ None → cost_at p ≡ 0
  unfolding entry_of
  no_entry h = grind (arith, nat_tests)

module _ (first second : ℕ) where
  abbrev pub Said : Found → Type 0
  Said o = (opcode_place first second ≡ o.place) × (opcode_size o.place ≡ o.size) × (cost_at o.place ≡ o.cost)
      × (cost_at o.place ≡ 0 → ⊥)

  pub there_says : (o : Found) → found_of first second ≡ Some o → Said o
  unfolding found_of
  there_says o h =
      let p = opcode_place first second in
      let w = entry_says p (opcode_size p) o h in
      (w.0, cc, cc, λ z. w.3 cc)

  pub nowhere_says : found_of first second ≡ None → cost_at (opcode_place first second) ≡ 0
  unfolding found_of
  nowhere_says h = let p = opcode_place first second in no_entry p (opcode_size p) h

  -- what the code promises beside: a place of the tables, an opcode of one byte or two, an entry of 16 bits
  pub within : (r : Option Found) → r ≡ found_of first second →
      IfSome r (λ o. (o.place < 1024) × (o.size ≤ 2) × (o.cost < 65536) × (o.cost ≡ cost_at o.place))
  within None e = tt
  within (Some o) e =
      let s = there_says o (sym e) in
      (below o.place s.3, rw (← s.1) (size_most o.place), rw (← s.2) (entry_word o.place), sym s.2)

  pub entry : {o : Found} → found_of first second ≡ Some o → o.cost ≡ cost_at o.place
  entry {o} h = sym (there_says o h).2

pub none_there : (p : ℕ) (f : Bytes) → cost_at p ≡ 0 → decode_at p f ≡ None
unfolding decode_at
none_there p f z = simp (eq-eqb _ _ z)
