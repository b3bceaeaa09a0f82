-- A branch goes to its target where its test holds, and on where not. BRA has the form of a jump, as its test always
-- holds, and BRN that of an instruction that only computes, as its test never does.
-- Assumes nothing.
use mathlib.Core.Path.{◌≡◌, refl, sym, subst, ◌∙◌, ap}
use mathlib.Core.Bool.{Bool, true, false, cond}
use mathlib.Core.List.{List, []}
use Prim.Native.Nat.{ℕ, zero, suc, ◌%◌}
use native.Mathlib.Omega.{arith}
use lib.Dec.{eqb-suc-zero, eqb-suc-suc}
use lib.ListN.{get_or}
use Rattle.registers.specs.Flags.{bit, flags_of}
use Rattle.registers.specs.Registers.{data_of, with_pc}
use Rattle.registers.specs.declared.Registers.{Registers}
use Rattle.opcodes.proofs.Truth.{truth}
use Rattle.opcodes.specs.Conditions.{truth_index, truth_words, test_holds_of}
use Rattle.instructions.specs.Form.{target_in, branch_form}
use Rattle.instructions.specs.Entry.{form_of, outcome_of}
use Rattle.opcodes.specs.declared.instruction.Action.TheVariants.{Branch}
use Rattle.opcodes.specs.declared.instruction.Operand.{Operand}
use Rattle.instructions.specs.Operand.{address_of}
use Rattle.instructions.specs.Outcome.{branches}
use Rattle.instructions.specs.Effect.{Effect, effect, effect_by, effect_of}
use Rattle.instructions.specs.inner.Sited.{GoesTo, Executed}

by_form : (j t : ℕ) (taken : Bool) (r : Registers) (m : List ℕ) → (j ≡ 0 → taken ≡ true) → (j ≡ 1 → taken ≡ false)
    → effect_by (branch_form j t) r r (branches taken (data_of r)) m ≡ effect (with_pc r (cond taken t r.pc)) []
unfolding effect_by address_of
by_form zero t taken r m always never = simp (always refl)
by_form (suc zero) t taken r m always never = simp (never refl)
by_form (suc (suc j)) t taken r m always never = simp (eqb-suc-zero, eqb-suc-suc (suc j) 0)

branched : (k : ℕ) (o : Operand) (r : Registers) (m : List ℕ)
    → effect_of (Branch k) o r m
    ≡ effect (with_pc r (cond (test_holds_of k (flags_of r.flags)) (target_in o r.pc) r.pc)) []
unfolding effect_of form_of outcome_of test_holds_of
branched k o r m =
    let f = flags_of r.flags in
    let held : ℕ → Bool = λ j. bit (truth_index f) (get_or truth_words j 0) in
    by_form (k % 16) (target_in o r.pc) (held (k % 16)) r m (λ e. ap held e ∙ truth 0 (omega arith) f)
    (λ e. ap held e ∙ truth 1 (omega arith) f)

pub goes : (k t : ℕ) (r q : Registers) → q ≡ with_pc r (cond (test_holds_of k (flags_of r.flags)) t r.pc) →
    GoesTo (Branch k) t r q
goes k t r q e o m s =
    subst (λ (z : Effect). Executed z q m m) (sym (branched k o r m))
    (e ∙ ap (λ (i : ℕ). with_pc r (cond (test_holds_of k (flags_of r.flags)) i r.pc)) (sym s), refl)
