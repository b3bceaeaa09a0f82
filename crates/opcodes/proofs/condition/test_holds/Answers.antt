-- `condition::test_holds` meets its contract: the index is the low half-byte of the flags.
-- Assumes nothing.
use borrow.Author.Rules.{rules}
use mathlib.Core.Path.{sym, ap}
use Prim.Native.Nat.{ℕ, ◌%◌}
use lib.ListN.{get_or}
use Rattle.registers.specs.Flags.{bit}
use Rattle.opcodes.specs.Conditions.{truth_words, test_holds_of}
use Rattle.opcodes.proofs.Index.{low_half}
use Rattle.opcodes.proofs.condition.test_holds.Goals as goal

pub returns : goal.returns
unfolding truth_words test_holds_of
returns c = ap (λ (i : ℕ). bit i (get_or truth_words (c.args.k % 16) 0)) (sym (low_half c.args.flags (search rules)))
