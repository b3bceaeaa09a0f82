-- `read` meets its contract: a turn of the loop is a command, and the input is a list of bytes, so the laws hold of it.
-- Assumes nothing.
use Prim.Native.Nat.{ℕ, ◌<◌}
use native.Mathlib.Omega.{arith}
use mathlib.Core.Path.{◌≡◌, sym, ap, ◌∙◌}
use mathlib.Core.Bool.{true, false}
use mathlib.Core.List.{List}
use lib.ListN.{get_or}
use Rattle.commands.specs.Progress.{ended}
use Rattle.commands.proofs.Digits.{all_bytes}
use Rattle.answers.specs.declared.Refusal.{Refusal}
use Rattle.ticket.specs.declared.fields.Ticket.{Ticket}
use Rattle.ticket.specs.Fields.{reading_of}
use Rattle.ticket.specs.Read.{read_of}
use Rattle.ticket.specs.Names.{NamesIgnored}
use Rattle.ticket.specs.Rules.{ReadByTheRules}
use Rattle.ticket.specs.RoundTrip.{SameBytes}
use Rattle.ticket.proofs.Accepts.{by_the_rules}
use Rattle.ticket.proofs.MarkArray.{no_mark_entered}
use Rattle.ticket.proofs.Names.{names_ignored, same_bytes}
use Rattle.ticket.proofs.ReadLoop.{reached_start, reached_next, next_bounds, mark_room}
use Rattle.ticket.proofs.ReadLoop.{reading_refused, reading_long, reading_done}
use Rattle.ticket.proofs.read.Goals as goal
use Rattle.std.specs.Prelude.{Result}

promised : (s : List ℕ) → ((i : ℕ) → get_or s i 0 < 256) → (r : Result Ticket Refusal) → r ≡ reading_of (read_of s) →
    (r ≡ reading_of (read_of s)) × ReadByTheRules s × SameBytes s r × NamesIgnored s
promised s small r e =
    let bytes = all_bytes s small in
    (e, by_the_rules _ bytes, same_bytes _ bytes r e, names_ignored _ bytes)

pub loop-next-init : goal.loop-next-init
loop-next-init c = rw (c.initial-p.ensures, c.blank-marks.ensures) (reached_start _)

pub returns-in-Err : goal.returns-in-Err
returns-in-Err c =
    let goes_on : ended c.loop-next.p ≡ false = cc in
    let e = sym c.next_command.ensures ∙ c.in-Err.is in
    promised _ (λ i. (c.type_inv.bytes i).fits) _
    (ap reading_of (sym (reading_refused _ _ _ c.loop-next.invariant goes_on _ e)))

pub bounds-marks-p : goal.bounds-marks-p
bounds-marks-p c =
    let goes_on : ended c.loop-next.p ≡ false = cc in
    let e = sym c.next_command.ensures ∙ c.in-Ok.is in
    mark_room _ _ _ c.loop-next.invariant goes_on _ _ e _ _ c.in-Mark.is

pub loop-next-smaller : goal.loop-next-smaller
loop-next-smaller c =
    let goes_on : ended c.loop-next.p ≡ false = cc in
    let e = sym c.next_command.ensures ∙ c.in-Ok.is in
    omega (arith, next_bounds _ _ _ c.loop-next.invariant goes_on _ _ e)

pub loop-next-preserved : goal.loop-next-preserved
loop-next-preserved c =
    let l = c.loop-next in
    let goes_on : ended l.p ≡ false = cc in
    let e = sym c.next_command.ensures ∙ c.in-Ok.is in
    let same = no_mark_entered l.marks l.p.count c.in-Ok.next.1 c.in_default.not-Mark in
    rw (← same) at (reached_next _ _ _ l.invariant goes_on _ _ e)

pub loop-next-smaller-in-Mark : goal.loop-next-smaller-in-Mark
loop-next-smaller-in-Mark c =
    let goes_on : ended c.loop-next.p ≡ false = cc in
    let e = sym c.next_command.ensures ∙ c.in-Ok.is in
    omega (arith, next_bounds _ _ _ c.loop-next.invariant goes_on _ _ e)

pub loop-next-preserved-in-Mark : goal.loop-next-preserved-in-Mark
loop-next-preserved-in-Mark c =
    let goes_on : ended c.loop-next.p ≡ false = cc in
    let e = sym c.next_command.ensures ∙ c.in-Ok.is in
    rw c.in-Mark.is at (reached_next _ _ _ c.loop-next.invariant goes_on _ _ e)

pub returns-then-p-bytes : goal.returns-then-p-bytes
returns-then-p-bytes c =
    let stops : ended c.loop-next.p ≡ true = cc in
    let long = reading_long _ _ _ c.loop-next.invariant stops c.if-p-bytes.true in
    promised _ (λ i. (c.type_inv.bytes i).fits) _ (rw c.refuse.ensures (ap reading_of (sym long)))

pub returns : goal.returns
returns c =
    let stops : ended c.loop-next.p ≡ true = cc in
    promised _ (λ i. (c.type_inv.bytes i).fits) _ (reading_done _ _ _ c.loop-next.invariant stops c.if-p-bytes.false)
