-- The loop's invariant: with what is left to put all is put.
-- Assumes nothing.
use mathlib.Core.Path.{◌≡◌}
use Prim.Native.Nat.{◌+◌}
use lib.ListN.{length, drop}
use Rattle.lists.specs.Splice.{spliced}
use Rattle.ticket.specs.Write.{encode_all}
use Rattle.ticket.proofs.writer.put_all.Given as goal

abbrev pub invariant-loop-c : goal.invariant-loop-c
invariant-loop-c l =
    let left = encode_all (drop l.c-index l.cs) in
    record {
      whole : spliced l.out l.next left ≡ spliced l.initial.out l.initial.next (encode_all l.cs);
      end : l.next + length left ≡ l.initial.next + length (encode_all l.cs);
    }
