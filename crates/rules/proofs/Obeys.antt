-- What a step does, by the shape of the instruction that memory has at PC: PC, SP, stores and cycles, whatever the
-- values.
-- Assumes nothing.
use Prim.Native.Nat.{ℕ, ◌+◌, ◌-◌, ◌/◌, ◌%◌, ◌≤◌, ◌<◌}
use mathlib.Core.Path.{◌≡◌, refl, ap}
use mathlib.Core.Bool.{Bool, true, false, cond}
use mathlib.Core.Logic.{◌⊎◌, inl, inr}
use mathlib.Core.List.{List, [], ◌∷◌}
use native.Mathlib.Omega.{arith}
use lib.ListN.{length}
use borrow.Author.Tests.{eq-eqb}
use Rattle.registers.specs.Word.{wrapping_add, wrapping_sub}
use Rattle.registers.specs.Registers.{with_pc}
use Rattle.registers.specs.declared.Registers.{Registers}
use Rattle.memory.specs.Memory.{Store, store, word_at}
use Rattle.opcodes.specs.Decode.{place_in, decode_of}
use Rattle.instructions.specs.Form.{waits}
use Rattle.instructions.specs.Entry.{form_of, reads_of, outcome_of}
use Rattle.opcodes.specs.Tables.{length_at, cycles_at}
use Rattle.opcodes.specs.declared.instruction.Address.TheVariants.{Fixed, IndexedX, IndexedY}
use Rattle.instructions.specs.declared.form.Form.{Form}
use Rattle.instructions.specs.declared.form.Form.TheVariants.{Computes, StoresByte, StoresWord, PushesByte, PushesWord}
use Rattle.instructions.specs.declared.form.Form.TheVariants.{PullsByte, PullsWord, Reserves, Releases, Branches}
use Rattle.instructions.specs.declared.form.Form.TheVariants.{Jumps, Calls, Returns, MovesSp, Interrupts, Resumes}
use Rattle.instructions.specs.declared.form.Form.TheVariants.{Waits}
use Rattle.instructions.specs.Operand.{address_of, input_of, mask_of}
use Rattle.instructions.specs.Outcome.{Outcome}
use Rattle.instructions.specs.Effect.{effect_by, effect_with, effect_of}
use Rattle.stepper.specs.Step.{Did, did, fetched, executed, carried_out, did_if, did_of, after, step_of}
use Rattle.stepper.proofs.Costs.{step_cost}
use Rattle.commands.specs.Every.{Every, none, more}
use Rattle.rules.specs.Shape.{Ordinary, Shape, ordinary, call, return, forbidden, nothing, shape_by, shape_in}
use Rattle.rules.specs.Shape.{shape_of}
use Rattle.stepper.specs.Flow.{calls, returns, plain, flow_by, flow_in, flow_of}

-- some element of a list has a property
abbrev pub Some : (ℕ → Type 0) → List ℕ → Type 0
Some P [] = ⊥
Some P (a ∷ l) = P a ⊎ Some P l

pub every_some : {P Q : ℕ → Type 0} (l : List ℕ) → Every P l → Some Q l → (a : ℕ) × P a × Q a
every_some [] none s = absurd s
every_some (a ∷ l) (more p ps) (inl q) = (a, p, q)
every_some (a ∷ l) (more p ps) (inr s) = every_some l ps s

-- a store of an ordinary instruction: on the stack from SP down, above the SP that it leaves, or to one of the
-- addresses written
abbrev pub Stored : Registers → Ordinary → Store → Type 0
Stored r o w =
    ((i : ℕ) × (i + o.pulled < o.pushed) × (w.at ≡ wrapping_sub r.sp i)) ⊎ Some (λ a. w.at ≡ a) o.written

abbrev pub Obeys : Shape → Registers → List ℕ → Type 0
Obeys (ordinary o) r m =
    (q : Registers) × (ws : List Store) × (did_of r m ≡ did q ws o.cycles) × (flow_of m r.pc ≡ plain)
    × Some (λ a. q.pc ≡ a) o.next
    × (q.sp ≡ (r.sp + o.pulled + (65536 - o.pushed)) % 65536) × Every (Stored r o) ws
Obeys (call c) r m =
    (q : Registers) × (did_of r m ≡ did q (store r.sp (c.after % 256) ∷
    store (wrapping_sub r.sp 1) (c.after / 256) ∷ []) c.cycles)
    × (flow_of m r.pc ≡ calls) × (q.pc ≡ c.target) × (q.sp ≡ wrapping_sub r.sp 2)
Obeys (return k) r m =
    (q : Registers) × (did_of r m ≡ did q [] k) × (flow_of m r.pc ≡ returns)
    × (q.pc ≡ word_at m (wrapping_add r.sp 1)) × (q.sp ≡ wrapping_add r.sp 2)
Obeys forbidden r m = Unit
Obeys nothing r m = Unit

-- a branch goes one of its two ways
either : (b : Bool) (t next : ℕ) → Some (λ a. cond b t next ≡ a) (t ∷ next ∷ [])
either true t next = inl refl
either false t next = inr (inl refl)

module _ (r : Registers) (m : List ℕ) (low : r.sp < 65536) where
  -- an instruction that keeps SP
  kept : r.sp ≡ (r.sp + 0 + (65536 - 0)) % 65536
  kept = omega arith

  -- the first byte pushed goes to SP
  top : (n : ℕ) → 0 < n → (i : ℕ) × (i + 0 < n) × (r.sp ≡ wrapping_sub r.sp i)
  unfolding wrapping_sub
  top n h = (0, omega arith, omega arith)

  -- next is the address after the instruction; w is what it computed, which does not matter
  pub by_form : (g : Form) (next k : ℕ) (w : Outcome) → did_of r m
      ≡ executed (waits g) r (effect_with g (with_pc r next) w m) k
      → flow_of m r.pc ≡ flow_by g → Obeys (shape_by g next k) r m
  unfolding effect_by address_of wrapping_add wrapping_sub
  by_form Computes next k w e h = (_, _, e, h, inl refl, kept, none)
  by_form (StoresByte (Fixed a)) next k w e h = (_, _, e, h, inl refl, kept, more (inr (inl refl)) none)
  by_form (StoresByte (IndexedX d)) next k w e h = tt
  by_form (StoresByte (IndexedY d)) next k w e h = tt
  by_form (StoresWord (Fixed a)) next k w e h =
      (_, _, e, h, inl refl, kept, more (inr (inl refl)) (more (inr (inr (inl refl))) none))
  by_form (StoresWord (IndexedX d)) next k w e h = tt
  by_form (StoresWord (IndexedY d)) next k w e h = tt
  by_form PushesByte next k w e h = (_, _, e, h, inl refl, omega arith, more (inl (top 1 (omega arith))) none)
  by_form PushesWord next k w e h =
      (_, _, e, h, inl refl, omega arith, more (inl (top 2 (omega arith))) (more (inl (1, omega arith, refl)) none))
  by_form PullsByte next k w e h = (_, _, e, h, inl refl, omega arith, none)
  by_form PullsWord next k w e h = (_, _, e, h, inl refl, omega arith, none)
  by_form Reserves next k w e h = (_, _, e, h, inl refl, omega arith, none)
  by_form Releases next k w e h = (_, _, e, h, inl refl, omega arith, none)
  by_form (Branches t) next k w e h = (_, _, e, h, either w.taken t next, kept, none)
  by_form (Jumps (Fixed a)) next k w e h = (_, _, e, h, inl refl, kept, none)
  by_form (Jumps (IndexedX d)) next k w e h = tt
  by_form (Jumps (IndexedY d)) next k w e h = tt
  by_form (Calls (Fixed a)) next k w e h = (_, e, h, refl, refl)
  by_form (Calls (IndexedX d)) next k w e h = tt
  by_form (Calls (IndexedY d)) next k w e h = tt
  by_form Returns next k w e h = (_, e, h, refl, refl)
  by_form MovesSp next k w e h = tt
  by_form Interrupts next k w e h = tt
  by_form Resumes next k w e h = tt
  by_form Waits next k w e h = tt

pub busy : (r q : Registers) (m : List ℕ) (ws : List Store) (k : ℕ) → did_of r m ≡ did q ws k → 2 ≤ k
unfolding step_of
busy r q m ws k e = step_cost r m q (record { 0 = k }) (ap (λ (d : Did). (after d m).answer) e)
