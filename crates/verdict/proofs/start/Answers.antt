-- `start` meets its contract.
-- Assumes nothing.
use borrow.Author.Tests.{eq-eqb, ne_eqb}
use Rattle.verdict.specs.Start.{started_of, loaded_of}
use Rattle.verdict.proofs.Claimed.{starts_as_claimed}
use Rattle.verdict.proofs.start.Goals as goal

pub returns-in_default : goal.returns-in_default
unfolding started_of loaded_of
returns-in_default c =
    let h = ne_eqb _ _ c.in_default.ensures.cases in
    (simp (h, c.refuse.ensures), simp h, starts_as_claimed _ _ _ c.args.memory.now)

pub returns-then-image-h : goal.returns-then-image-h
unfolding started_of loaded_of
returns-then-image-h c =
    let whole = c.in-Some.ensures.cases in
    let h = eq-eqb _ _ whole.long in
    let l = ne_eqb _ _ c.if-image-h.true in (
      simp (h, l, c.refuse-then-image-h.ensures),
      simp (h, l) whole.same,
      starts_as_claimed _ _ _ c.args.memory.now,
    )

pub returns : goal.returns
unfolding started_of loaded_of
returns c =
    let whole = c.in-Some.ensures.cases in
    let h = eq-eqb _ _ whole.long in
    let l = eq-eqb _ _ c.if-image-h.false in (
      simp (h, l, c.start.ensures, c.last_of-top.ensures),
      simp (h, l, c.store_home.ensures, c.fill.ensures, c.last_of-top.ensures, whole.same),
      starts_as_claimed _ _ _ c.args.memory.now,
    )
