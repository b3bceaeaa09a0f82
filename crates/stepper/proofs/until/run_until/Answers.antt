-- `run_until` meets its contract, turn by turn of its loop.
-- Assumes nothing.
use Rattle.std.specs.Prelude.{Option, Some}
use Rattle.std.proofs.Common.{◌≡◌, ℕ, ◌<◌, List, length, sym, ap, ◌∙◌, arith}
use Rattle.registers.specs.declared.Registers.{Registers}
use Rattle.opcodes.specs.declared.lookup.Found.{Found}
use Rattle.dispatch.proofs.Waiting.{executable}
use Rattle.stepper.proofs.ByFound.{Here, found_at, nowhere, waiting, done_here, executes, fit}
use Rattle.stepper.proofs.LoopTurn.{told}
use Rattle.stepper.proofs.LoopInvariant.{begun, stopped, uncovered, cost, finished, again}
use Rattle.stepper.proofs.until.run_until.Goals as goal

at : (r : Registers) (m : List ℕ) {o : Option Found} {x : Found} → length m ≡ 65536 → r.pc < 65536 → o ≡ found_at r m
    → o ≡ Some x → Here r m x
at r m h low f s = record { whole = h; low = low; found = sym f ∙ s }

pub loop-place-init : goal.loop-place-init
loop-place-init c = let z = c.args in begun z.home z.budget z.r z.mem.now c.told-mem

pub returns-in_default : goal.returns-in_default
returns-in_default c =
    let i = rw (← c.with_lowest-held.ensures) at c.loop-place.invariant in
    let none = nowhere c.with_lowest-held.result c.loop-place.mem i.whole (omega arith)
    (sym c.find.ensures.found ∙ c.in_default.is) in
    rw c.reached.ensures (told (stopped i none))

pub returns-then-waits : goal.returns-then-waits
returns-then-waits c =
    let i = rw (← c.with_lowest-held.ensures) at c.loop-place.invariant in
    let here = at c.with_lowest-held.result c.loop-place.mem i.whole (omega arith) c.find.ensures.found c.in-Some.is in
    let held = waiting here c.number_at-n.result c.number_at-n.ensures c.waits.ensures c.if-waits.true in
    rw c.reached-then-waits.ensures (told (stopped i held))

pub returns-then-left-k : goal.returns-then-left-k
returns-then-left-k c =
    let i = rw (← c.with_lowest-held.ensures) at c.loop-place.invariant in
    let here = at c.with_lowest-held.result c.loop-place.mem i.whole (omega arith) c.find.ensures.found c.in-Some.is in
    let d = done_here here c.number_at-n.result c.number_at-n.ensures c.waits.ensures c.if-waits.false in
    rw c.reached-then-left-k.ensures (told (uncovered i d c.if-left-k.true))

pub execute-q-requires-clause-n_bound : goal.execute-q-requires-clause-n_bound
execute-q-requires-clause-n_bound c = executable c.number_at-n.result c.waits.ensures c.if-waits.false

pub execute-q-requires-clause-k_value : goal.execute-q-requires-clause-k_value
execute-q-requires-clause-k_value c =
    fit c.in-Some.field-0.place c.number_at-n.result c.mode_number_at.result c.number_at-n.ensures
    c.mode_number_at.ensures

pub returns-then-ends : goal.returns-then-ends
returns-then-ends c =
    let i = rw (← c.with_lowest-held.ensures) at c.loop-place.invariant in
    let here = at c.with_lowest-held.result c.loop-place.mem i.whole (omega arith) c.find.ensures.found c.in-Some.is in
    let step = executes here c.number_at-n.result c.number_at-n.ensures c.waits.ensures c.if-waits.false
    c.mode_number_at.result c.mode_number_at.ensures c.wrapping_add.ensures c.wrapping_add-in-loop-place.ensures
    c.with_pc.ensures c.execute-q.ensures (ap (λ (r : Registers). r.lowest) c.with_lowest-held.ensures)
    c.smaller-lowest.ensures in
    rw (c.reached-then-ends.ensures, c.with_lowest.ensures)
    (told (finished i step c.if-left-k.false (sym c.ends.ensures ∙ c.if-ends.true)))

pub loop-place-smaller : goal.loop-place-smaller
loop-place-smaller c =
    let i = rw (← c.with_lowest-held.ensures) at c.loop-place.invariant in
    let here = at c.with_lowest-held.result c.loop-place.mem i.whole (omega arith) c.find.ensures.found c.in-Some.is in
    let d = done_here here c.number_at-n.result c.number_at-n.ensures c.waits.ensures c.if-waits.false in
    omega (arith, cost i d)

pub loop-place-preserved : goal.loop-place-preserved
loop-place-preserved c =
    let i = rw (← c.with_lowest-held.ensures) at c.loop-place.invariant in
    let here = at c.with_lowest-held.result c.loop-place.mem i.whole (omega arith) c.find.ensures.found c.in-Some.is in
    let step = executes here c.number_at-n.result c.number_at-n.ensures c.waits.ensures c.if-waits.false
    c.mode_number_at.result c.mode_number_at.ensures c.wrapping_add.ensures c.wrapping_add-in-loop-place.ensures
    c.with_pc.ensures c.execute-q.ensures (ap (λ (r : Registers). r.lowest) c.with_lowest-held.ensures)
    c.smaller-lowest.ensures in
    again i step c.if-left-k.false (sym c.ends.ensures ∙ c.if-ends.false) c.execute-q.array_long
