-- `verdict_by` meets its contract: each turn's cause decides between a refusal and the next turn.
-- Assumes nothing.
use Rattle.std.proofs.Common.{◌≡◌, length, sym, add-one, arith}
use Rattle.checks.proofs.EachMark.{every_at}
use Rattle.checks.proofs.VerdictByMarks.{verdict_short, verdict_start, verdict_mark, verdict_end}
use Rattle.checks.proofs.verdict.verdict_by.Goals as goal

pub returns-then-image-h : goal.returns-then-image-h
returns-then-image-h c = rw c.refuse.ensures (sym (verdict_short _ _ c.if-image-h.true))

pub loop-m-init : goal.loop-m-init
loop-m-init c = verdict_start _ _ c.if-image-h.false

pub cause_at-requires-clause-start_le_address : goal.cause_at-requires-clause-start_le_address
cause_at-requires-clause-start_le_address c =
    (every_at c.requires.mark_rules c.loop-m.m-index c.loop-m-test.true).inside.0

pub returns-in-Err : goal.returns-in-Err
returns-in-Err c =
    let next = verdict_mark _ _ _ c.loop-m-test.true _ c.cause_at.ensures in
    rw (c.refuse-in-Err.ensures, c.loop-m.invariant, next, c.in-Err.is)

pub loop-m-preserved : goal.loop-m-preserved
loop-m-preserved c =
    let next = verdict_mark _ _ _ c.loop-m-test.true _ c.cause_at.ensures in
    rw (add-one, c.loop-m.invariant, next, c.in_default.is)

pub returns : goal.returns
returns c =
    let all : c.loop-m.m-index ≡ length c.args.marks.now = omega arith in
    rw (c.whole.ensures, c.claim_at.ensures, c.loop-m.invariant, all) (sym (verdict_end _ _))
