-- `monitor::slot::start_from` meets its contract: by the lengths, and then by what the start answers.
-- Assumes nothing.
use borrow.Author.Tests.{eq-eqb, ne_eqb}
use Rattle.std.proofs.Common.{◌∙◌}
use Rattle.monitor.specs.RoutineCalls.{start_slot_of}
use Rattle.monitor.proofs.slot.start_from.Goals as goal

pub returns-in_default : goal.returns-in_default
unfolding start_slot_of
returns-in_default c h p = simp (ne_eqb _ _ c.in_default.ensures.cases, c.refuse.ensures)

pub returns-in_default-as_mut_array : goal.returns-in_default-as_mut_array
unfolding start_slot_of
returns-in_default-as_mut_array c h p = simp (
  eq-eqb _ _ c.in-Some.ensures.cases.long,
  ne_eqb _ _ c.in_default-as_mut_array.ensures.cases,
  c.refuse-in_default-as_mut_array.ensures,
)

pub returns : goal.returns
unfolding start_slot_of
returns c h p =
    let slot = c.in-Some.ensures.cases in
    let regs = c.in-Some-as_mut_array.ensures.cases in
    c.stored.ensures h p _
    ∙ simp (
      eq-eqb _ _ slot.long,
      eq-eqb _ _ regs.long,
      c.start.ensures.0,
      c.start.ensures.1,
      c.header_in.ensures,
      c.data_in-d.ensures,
      slot.same,
      regs.same,
    )
