-- `put_all` puts the commands one after another.
-- Assumes nothing.
use native.Mathlib.Omega.{arith}
use mathlib.Core.Path.{◌≡◌, refl, ◌∙◌}
use Prim.Native.Nat.{◌+◌}
use lib.ListN.{length, get_or, drop}
use lib.Seq.{drop-length}
use Rattle.commands.specs.Bytes.{width_of}
use Rattle.ticket.proofs.Parts.{any, next_of, put_end, put_left, put_none}
use Rattle.ticket.proofs.writer.put_all.Goals as goal

pub put_command-next-requires : goal.put_command-next-requires
put_command-next-requires c =
    let l = c.loop-c in
    let cs = c.args.cs.now in
    let k = get_or cs l.c-index any in
    let e = rw (next_of cs l.c-index c.loop-c-test.true) at l.invariant.end in
    omega (arith, e, put_end l.next (l.next + width_of k) k (drop (l.c-index + 1) cs) refl)

pub loop-c-preserved : goal.loop-c-preserved
loop-c-preserved c =
    let l = c.loop-c in
    let cs = c.args.cs.now in
    let k = get_or cs l.c-index any in
    let put = c.put_command-next in
    let rest = drop (l.c-index + 1) cs in
    let n = next_of cs l.c-index c.loop-c-test.true in
    let e = rw n at l.invariant.end in
    let whole = put_left l.out put.new.out l.next put.result k rest (omega (arith, e)) put.ensures in
    record { whole = whole ∙ (rw n at l.invariant.whole); end = put_end l.next put.result k rest put.ensures.1 ∙ e }

pub returns : goal.returns
returns c =
    let l = c.loop-c in
    let end : l.c-index ≡ length c.args.cs.now = omega arith in
    let w = rw (end, drop-length) at l.invariant.whole in
    let e = rw (end, drop-length) at l.invariant.end in
    (put_none l.out l.next ∙ w, omega (arith, e))
