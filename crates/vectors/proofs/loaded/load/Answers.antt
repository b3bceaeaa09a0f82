-- `load` meets its contract: the byte at hand is the first of those that are left.
-- Assumes nothing.
use Rattle.std.proofs.Common.{sym, ◌∙◌, arith}
use Rattle.vectors.proofs.Stores.{first_store, no_store}
use Rattle.vectors.proofs.loaded.load.Goals as goal

pub loop-k-preserved : goal.loop-k-preserved
loop-k-preserved c =
    simp (c.put_byte.ensures, c.hex_byte_in.ensures, c.hex_word_in.ensures)
    (sym (first_store _ _ _ _ _ _ (omega arith) (omega arith)) ∙ c.loop-k.invariant)

pub returns : goal.returns
returns c = sym (no_store _ _ _ _ (omega arith)) ∙ c.loop-k.invariant
