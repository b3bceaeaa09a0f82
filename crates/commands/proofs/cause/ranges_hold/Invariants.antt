-- The loop's invariant: all are in their ranges if those that are left are.
-- Assumes nothing.
use mathlib.Core.Path.{◌≡◌}
use lib.ListN.{length}
use Rattle.commands.specs.Cause.{ranges_hold}
use Rattle.commands.specs.inner.Table.{ranges_hold_code, Narrow}
use Rattle.commands.proofs.cause.ranges_hold.Given as goal

abbrev pub invariant-loop-o : goal.invariant-loop-o
invariant-loop-o l =
    let os = l.o-iterator.a.rest.now in
    let vs = l.o-iterator.b.rest.now in
    record {
      same : ranges_hold_code os vs ≡ ranges_hold l.fn.c;
      paired : length vs ≡ length os;
      narrow : Narrow os;
    }
