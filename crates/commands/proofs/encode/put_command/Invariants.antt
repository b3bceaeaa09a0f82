-- The loop's invariant: with what is left to put the output is whole, and it ends where the command does.
-- Assumes nothing.
use mathlib.Core.Path.{◌≡◌}
use Prim.Native.Nat.{◌+◌}
use lib.ListN.{length}
use Rattle.lists.specs.Splice.{spliced}
use Rattle.commands.specs.Bytes.{encode_of, width_of}
use Rattle.commands.specs.inner.Table.{code_size, Narrow}
use Rattle.commands.proofs.Table.{joined_code}
use Rattle.commands.proofs.encode.put_command.Given as goal

abbrev pub invariant-loop-v : goal.invariant-loop-v
invariant-loop-v l =
    let vs = l.v-iterator.a.rest.now in
    let os = l.v-iterator.b.rest.now in
    record {
      whole : spliced l.out l.next (joined_code os vs) ≡ spliced l.fn.out l.at (encode_of l.fn.c);
      end : l.next + code_size os ≡ l.at + width_of l.fn.c;
      paired : length vs ≡ length os;
      narrow : Narrow os;
    }
