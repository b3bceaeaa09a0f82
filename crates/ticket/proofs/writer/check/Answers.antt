-- `check` meets its contract: the header's commands, the marks' one after another, and the end.
-- Assumes nothing.
use mathlib.Core.Path.{◌≡◌, sym}
use native.Mathlib.Omega.{arith}
use lib.ListN.{get_or}
use Rattle.std.proofs.lemmas.Result.{err_from_is_err_and}
use Rattle.commands.proofs.Sound.{sound_admit}
use Rattle.commands.specs.Fits.FitsLayout.{none}
use Rattle.ticket.specs.Fields.{blank_mark, mark_index}
use Rattle.ticket.specs.Write.{mark_command}
use Rattle.ticket.proofs.Left.{next_mark, no_mark}
use Rattle.ticket.proofs.Onward.{from_header, one_more, stopped, passed}
use Rattle.ticket.proofs.writer.check.Goals as goal

pub returns-in_err-p : goal.returns-in_err-p
returns-in_err-p c =
    let h = c.header_commands.ensures in
    let p = err_from_is_err_and c.from_residual.result c.from_residual.ensures.1 in
    let e = rw (c.initial.ensures, h.0) at c.in_err-p.ensures.admitted in
    rw (p.1, p.2) (stopped (from_header c.args.t.now e (rw h.0 at h.1)))

pub loop-i-init : goal.loop-i-init
loop-i-init c =
    let h = c.header_commands.ensures in
    let e = rw (c.initial.ensures, h.0) at c.in_ok-p.ensures.admitted in
    record { sound = c.in_ok-p.ensures.sound; onward = from_header c.args.t.now e (rw h.0 at h.1) }

pub returns-in_err-p-2 : goal.returns-in_err-p-2
returns-in_err-p-2 c =
    let l = c.loop-i in
    let t = c.args.t.now in
    let p = err_from_is_err_and c.from_residual-in_err-p-2.result c.from_residual-in_err-p-2.ensures.1 in
    let k = mark_command (get_or t.marks (mark_index l.i) blank_mark) in
    let command : c.mark_command.result ≡ k = simp (c.mark_command.ensures.0, c.mark_index.ensures) in
    let o = rw (next_mark t.marks t.count l.i (omega arith)) at l.invariant.onward in
    let e = rw command at c.in_err-p-2.ensures in
    rw (p.1, p.2) (stopped (one_more o (rw command at c.mark_command.ensures.1) e))

pub loop-i-preserved : goal.loop-i-preserved
loop-i-preserved c =
    let l = c.loop-i in
    let t = c.args.t.now in
    let k = mark_command (get_or t.marks (mark_index l.i) blank_mark) in
    let command : c.mark_command.result ≡ k = simp (c.mark_command.ensures.0, c.mark_index.ensures) in
    let o = rw (next_mark t.marks t.count l.i (omega arith)) at l.invariant.onward in
    let e = rw command at c.in_ok-p-2.ensures in
    record {
      sound = sound_admit _ _ _ l.invariant.sound (sym e);
      onward = one_more o (rw command at c.mark_command.ensures.1) e;
    }

pub returns : goal.returns
returns c =
    let l = c.loop-i in
    let t = c.args.t.now in
    let all : l.i ≡ t.count = omega arith in
    let o = rw (all, no_mark) at l.invariant.onward in
    passed (one_more o none c.admit-2.ensures)
