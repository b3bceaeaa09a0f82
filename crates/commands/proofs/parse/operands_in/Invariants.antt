-- The loop's invariant: what is read so far, and then what the bytes left begin with, are the values.
-- Assumes nothing.
use mathlib.Core.Path.{◌≡◌}
use Prim.Native.Nat.{ℕ, ◌^◌, ◌≤◌, ◌<◌}
use mathlib.Core.List.{◌++◌}
use lib.ListN.{length, get_or, take, drop}
use Rattle.commands.specs.inner.Table.{code_size, values_in, width_at, Narrow}
use Rattle.commands.proofs.parse.operands_in.Given as goal

abbrev pub invariant-loop-i : goal.invariant-loop-i
invariant-loop-i l =
    let os = l.fn.row.operands in
    record {
      read : values_in os l.s ≡ take l.i l.values ++ values_in (drop l.i os) l.left;
      four : length l.values ≡ 4;
      narrow : Narrow (drop l.i os);
      enough : code_size (drop l.i os) ≤ length l.left;
      fits : (k : ℕ) → k < l.i → get_or l.values k 0 < 256 ^ width_at l.fn.row k;
    }
