-- `line_length` meets its contract: the place of the first LF.
-- Assumes nothing.
use Rattle.std.proofs.Common.{eqb, sym, ◌∙◌, rules, tests, arith}
use Rattle.std.proofs.lemmas.Iterator.{YieldsList-from_slice}
use Rattle.std.proofs.lemmas.Iterator.Search.{position_from_yields_List}
use Rattle.records.proofs.Lines.{found, missing}
use Rattle.records.proofs.file.line_length.Goals as goal

pub returns-in-Some : goal.returns-in-Some
returns-in-Some c =
    let s = c.args.s.now in
    let at = position_from_yields_List (λ b. eqb b 0x0a) _ _ c.position.result c.position.ensures.ran
    (YieldsList-from_slice s cc) (λ x b q k. search (rules, tests)) in
    found s c.in-Some.i (sym c.in-Some.is ∙ at)

pub returns-in-None : goal.returns-in-None
returns-in-None c =
    let s = c.args.s.now in
    let at = position_from_yields_List (λ b. eqb b 0x0a) _ _ c.position.result c.position.ensures.ran
    (YieldsList-from_slice s cc) (λ x b q k. search (rules, tests)) in
    (missing s (sym c.in-None.is ∙ at), omega arith)
