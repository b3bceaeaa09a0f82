-- The loop's invariant: with what is left to put all is put.
-- Assumes nothing.
use mathlib.Core.Path.{◌≡◌}
use Prim.Native.Nat.{◌+◌}
use lib.ListN.{length}
use Rattle.lists.specs.Splice.{spliced}
use Rattle.ticket.specs.Write.{encode_all}
use Rattle.ticket.proofs.Left.{marks_left}
use Rattle.ticket.proofs.writer.put.Given as goal

abbrev pub invariant-loop-i : goal.invariant-loop-i
invariant-loop-i l =
    let all = encode_all (marks_left l.t.marks l.t.count 0) in
    let left = encode_all (marks_left l.t.marks l.t.count l.i) in
    record {
      whole : spliced l.out l.at left ≡ spliced l.initial.out l.initial.at all;
      end : l.at + length left ≡ l.initial.at + length all;
    }
