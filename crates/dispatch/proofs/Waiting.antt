-- Which numbers stand for WAI, STOP and TEST: 135 and all after it. One test over the list of the actions.
-- Assumes nothing.
use mathlib.Core.Path.{◌≡◌, refl, sym, ap, ◌∙◌}
use mathlib.Core.Bool.{Bool, true, false, cond}
use mathlib.Core.List.{List, [], ◌∷◌, ◌++◌, map}
use Prim.Native.Nat.{ℕ, zero, suc, ◌<◌, ◌%◌}
use native.Mathlib.Omega.{arith}
use lib.Dec.{eqb, leb, ltb, leb-zero, leb-suc-zero, leb-suc-suc}
use lib.ListN.{get_or, replicate, get_or-map}
use borrow.Author.Tests.{ltb-false}
use Rattle.opcodes.specs.inner.Numbers.{all_actions, action_of}
use Rattle.instructions.specs.Form.{target_in, waits}
use Rattle.instructions.specs.Entry.{form_of}
use Rattle.opcodes.specs.declared.instruction.Action.{Action}
use Rattle.opcodes.specs.declared.instruction.Action.TheVariants.{Inherent, Unary, TstAccumulator, Binary, TstMemory}
use Rattle.opcodes.specs.declared.instruction.Action.TheVariants.{LoadWord, Addd, Subd, CompareWord, StoreByte}
use Rattle.opcodes.specs.declared.instruction.Action.TheVariants.{StoreWord, Modify, Bset, Bclr, Brset, Brclr, Branch}
use Rattle.opcodes.specs.declared.instruction.Action.TheVariants.{Jmp, Call, Rts, PushByte, PushWord, PullByte}
use Rattle.opcodes.specs.declared.instruction.Action.TheVariants.{PullWord, Des, Ins, SetStack, Swi, Rti, Wai, Stop}
use Rattle.opcodes.specs.declared.instruction.Action.TheVariants.{Test}
use Rattle.opcodes.specs.declared.instruction.Address.TheVariants.{Fixed}
use Rattle.opcodes.specs.declared.instruction.Operand.TheVariants as Operand
use Rattle.instructions.specs.declared.form.Form.TheVariants.{Computes, Branches, Jumps}
use Rattle.instructions.specs.inner.Sited.{Waiting}

abbrev waits_bare : Action → Bool
waits_bare a = waits (form_of a Operand.Inherent 0)

branch_on : (always never : Bool) (t : ℕ) → waits (cond always (Jumps (Fixed t)) (cond never Computes (Branches t)))
    ≡ false
branch_on true b t = refl
branch_on false true t = refl
branch_on false false t = refl

-- whatever its operand, an action waits or not
alike : (a : Action) → Waiting a (waits_bare a)
unfolding form_of
alike (Inherent i) o next = refl
alike (Unary u c) o next = refl
alike (TstAccumulator c) o next = refl
alike (Binary b c) o next = refl
alike TstMemory o next = refl
alike (LoadWord w) o next = refl
alike Addd o next = refl
alike Subd o next = refl
alike (CompareWord w) o next = refl
alike (StoreByte c) o next = refl
alike (StoreWord w) o next = refl
alike (Modify u) o next = refl
alike Bset o next = refl
alike Bclr o next = refl
alike Brset o next = refl
alike Brclr o next = refl
alike (Branch k) o next =
    let on =
    branch_on (eqb (k % 16) 0) (eqb (k % 16) 1) in on (target_in o next) ∙ sym (on (target_in Operand.Inherent 0))
alike Jmp o next = refl
alike Call o next = refl
alike Rts o next = refl
alike (PushByte c) o next = refl
alike (PushWord i) o next = refl
alike (PullByte c) o next = refl
alike (PullWord i) o next = refl
alike Des o next = refl
alike Ins o next = refl
alike (SetStack i) o next = refl
alike Swi o next = refl
alike Rti o next = refl
alike Wai o next = refl
alike Stop o next = refl
alike Test o next = refl

-- k times false, then true
abbrev true_from : ℕ → List Bool
true_from k = replicate k false ++ true ∷ true ∷ []

two : (n : ℕ) → get_or (true_from 0) n true ≡ true
two zero = refl
two (suc zero) = refl
two (suc (suc n)) = refl

from : (k n : ℕ) → get_or (true_from k) n true ≡ leb k n
from zero n = two n ∙ sym (leb-zero n)
from (suc k) zero = sym (leb-suc-zero k)
from (suc k) (suc n) = from k n ∙ sym (leb-suc-suc k n)

tested : map waits_bare all_actions ≡ true_from 135
unfolding form_of
tested = refl

test_waits : waits_bare Test ≡ true
unfolding form_of
test_waits = refl

-- Test is what action_of has past its list
bare : (n : ℕ) → waits_bare (action_of n) ≡ ltb 134 n
bare n =
    sym (get_or-map waits_bare all_actions n Test) ∙ ap (λ (l : List Bool). get_or l n (waits_bare Test)) tested
    ∙ ap (λ (d : Bool). get_or (true_from 135) n d) test_waits ∙ from 135 n

pub waits_from : (n : ℕ) → Waiting (action_of n) (ltb 134 n)
waits_from n o next = alike (action_of n) o next ∙ bare n

-- what does not wait is executed
pub executable : (n : ℕ) {b : Bool} → Waiting (action_of n) b → b ≡ false → n < 135
executable n w f = omega (arith, ltb-false 134 n (sym (waits_from n Operand.Inherent 0) ∙ w Operand.Inherent 0 ∙ f))
