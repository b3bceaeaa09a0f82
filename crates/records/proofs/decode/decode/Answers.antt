-- `decode` meets its contract: the bytes so far stand in the buffer, before those of the rest.
-- Assumes nothing.
use Rattle.std.proofs.Common.{sym, ◌∙◌, arith, refl, length-drop}
use Rattle.std.proofs.Math.Seq.{take_all}
use Rattle.std.proofs.lemmas.List.{take-set}
use Rattle.records.proofs.DecodeSoFar.{ended_here, so_far_next}
use Rattle.records.proofs.decode.decode.Goals as goal

pub returns-then-ends : goal.returns-then-ends
returns-then-ends c =
    let l = c.loop-n in (
      rw (take-set l.buffer l.n _) (ended_here l.invariant (omega arith) (sym c.ends.ensures ∙ c.if-ends.true)),
      omega arith,
    )

pub loop-n-preserved : goal.loop-n-preserved
loop-n-preserved c =
    let l = c.loop-n in
    let e = sym c.ends.ensures ∙ c.if-ends.false in
    let h = sym c.digit.ensures.value ∙ c.in_ok-digit.was in
    let k = sym c.digit-in-loop-n.ensures.value ∙ c.in_ok-byte.was in
    so_far_next l.invariant e c.in-len2-up.len_at_least h k (omega arith) refl
    (take_all _ _ (omega (arith, length-drop 2 l.rest.now)))
