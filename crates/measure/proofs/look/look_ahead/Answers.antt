-- `look_ahead` meets its contract: what is left of the look, from the state that each turn reaches, comes to the whole.
-- Assumes nothing.
use Rattle.std.proofs.Common.{◌≡◌, suc, ◌+◌, ◌-◌, sym, ◌∙◌, arith}
use Rattle.measure.proofs.Left.{look_none, look_over, look_next}
use Rattle.measure.proofs.look.look_ahead.Goals as goal

pub returns-then-l : goal.returns-then-l
returns-then-l c = let l = c.loop-i in
    (sym (look_over _ _ _ c.if-l.true) ∙ l.invariant.2 ∙ rw c.begin-l.ensures, l.invariant.1)

pub loop-i-preserved : goal.loop-i-preserved
loop-i-preserved c = let t = c.look_step-l in
    let n = c.args.budget - (c.loop-i._i + 1) in
    let one : c.args.budget - c.loop-i._i ≡ suc n = omega arith in (
      omega (arith, t.ensures.1),
      omega (arith, t.ensures.2),
      sym (look_next _ _ n c.if-l.false _ _ t.ensures.0) ∙ rw one at c.loop-i.invariant.2,
    )

pub returns : goal.returns
returns c = let l = c.loop-i in
    let none : c.args.budget - l._i ≡ 0 = omega arith in
    (sym (look_none _ _) ∙ rw none at l.invariant.2 ∙ rw c.begin-l.ensures, l.invariant.1)
