-- `operand` meets its contract where three numbers stand in a pattern; the search finds the others.
-- Assumes nothing.
use Rattle.lists.specs.Splice.{spliced}
use Rattle.text.specs.Number.{hex_of}
use Rattle.text.specs.Operand.{operand_text}
use Rattle.text.proofs.operand.operand.Goals as goal

pub returns-in-MaskBranchDirect : goal.returns-in-MaskBranchDirect
unfolding spliced hex_of operand_text
returns-in-MaskBranchDirect c =
    simp (
      c.with-in-MaskBranchDirect-2.ensures,
      c.with-t.ensures,
      c.with-in-MaskBranchDirect.ensures,
      c.hex2-in-MaskBranchDirect.ensures,
      c.hex2-in-MaskBranchDirect-2.ensures,
      c.hex4-in-MaskBranchDirect.ensures,
      c.target-in-MaskBranchDirect.ensures,
      c.in-MaskBranchDirect.is,
    )

pub returns-in-MaskBranchX : goal.returns-in-MaskBranchX
unfolding spliced hex_of operand_text
returns-in-MaskBranchX c =
    simp (
      c.with-in-MaskBranchX-2.ensures,
      c.with-t-in-MaskBranchX.ensures,
      c.with-in-MaskBranchX.ensures,
      c.hex2-in-MaskBranchX.ensures,
      c.hex2-in-MaskBranchX-2.ensures,
      c.hex4-in-MaskBranchX.ensures,
      c.target-in-MaskBranchX.ensures,
      c.in-MaskBranchX.is,
    )

pub returns-in-MaskBranchY : goal.returns-in-MaskBranchY
unfolding spliced hex_of operand_text
returns-in-MaskBranchY c =
    simp (
      c.with-in-MaskBranchY-2.ensures,
      c.with-t-in-MaskBranchY.ensures,
      c.with-in-MaskBranchY.ensures,
      c.hex2-in-MaskBranchY.ensures,
      c.hex2-in-MaskBranchY-2.ensures,
      c.hex4-in-MaskBranchY.ensures,
      c.target-in-MaskBranchY.ensures,
      c.in-MaskBranchY.is,
    )
