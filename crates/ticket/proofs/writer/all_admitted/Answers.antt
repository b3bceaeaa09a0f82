-- `all_admitted` meets its contract: nothing comes after a refusal.
-- Assumes nothing.
use mathlib.Core.Path.{sym, ◌∙◌}
use Prim.Native.Nat.{◌+◌}
use lib.ListN.{drop}
use Rattle.std.proofs.lemmas.Result.{err_from_is_err_and}
use Rattle.commands.proofs.Sound.{sound_admit}
use Rattle.ticket.proofs.Checks.{then_one}
use Rattle.ticket.proofs.Parts.{next_of}
use Rattle.ticket.proofs.ReadWritten.{refused_stays}
use Rattle.ticket.proofs.writer.all_admitted.Goals as goal

pub returns-in_err-p-clause-admitted : goal.returns-in_err-p-clause-admitted
returns-in_err-p-clause-admitted c =
    let l = c.loop-c in
    let rest = drop (l.c-index + 1) c.args.cs.now in
    let p = err_from_is_err_and c.from_residual.result c.from_residual.ensures.1 in
    let e = c.in_err-p.ensures in
    let s = rw (next_of c.args.cs.now l.c-index c.loop-c-test.true) at l.invariant.same in
    rw (p.1, p.2) (sym (refused_stays _ rest) ∙ then_one l.p _ rest s e)

pub loop-c-preserved : goal.loop-c-preserved
loop-c-preserved c =
    let l = c.loop-c in
    let e = c.in_ok-p.ensures in
    let s = rw (next_of c.args.cs.now l.c-index c.loop-c-test.true) at l.invariant.same in
    record {
      same = then_one l.p _ (drop (l.c-index + 1) c.args.cs.now) s e;
      sound = sound_admit _ _ _ l.invariant.sound (sym e);
    }
