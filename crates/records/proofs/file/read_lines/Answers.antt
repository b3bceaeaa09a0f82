-- `read_lines` meets its contract: a line more is read, and fewer bytes are left.
-- Assumes nothing.
use Rattle.std.proofs.Common.{◌≡◌, ◌<◌, length, Ok, sym, rules, tests}
use Rattle.records.proofs.Lines.{shorter}
use Rattle.records.proofs.Course.{goes_on}
use Rattle.records.proofs.file.read_lines.Goals as goal

pub loop-rest-smaller : goal.loop-rest-smaller
loop-rest-smaller c =
    let some : 0 < length c.loop-rest.rest.now = search (rules, tests) in
    rw c.split_at.ensures.back (shorter c.loop-rest.rest.now some c.line_length.ensures.0)

pub loop-rest-preserved : goal.loop-rest-preserved
loop-rest-preserved c =
    let judged : c.judge.result ≡ Ok c.in_ok-p.p = search rules in
    let o = rw (judged, c.split_at.ensures.front) at (sym c.judge.ensures) in
    let some : 0 < length c.loop-rest.rest.now = search (rules, tests) in
    rw c.split_at.ensures.back (goes_on c.loop-rest.invariant some c.line_length.ensures.0 o c.judge.array_long)
