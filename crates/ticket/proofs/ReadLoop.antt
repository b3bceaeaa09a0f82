-- Where the reading of some bytes stands: the marks in the array, the commands that led there, and the turns that are
-- left.
-- Assumes nothing.
use Prim.Native.Nat.{ℕ, zero, suc, ◌+◌, ◌-◌, ◌≤◌, ◌<◌}
use native.Mathlib.Numerals.{unary_clauses}
use native.Mathlib.Omega.{arith}
use mathlib.Core.Path.{◌≡◌, refl, ◌∙◌}
use mathlib.Core.Bool.{true, false}
use mathlib.Core.List.{List, []}
use lib.ListN.{length, drop, replicate, length-drop, drop_of_length-le}
use lib.Seq.{drop-drop, drop-cons}
use Rattle.commands.specs.declared.command.Command.{Command}
use Rattle.answers.specs.declared.Cause.TheVariants.{AfterEnd}
use Rattle.answers.specs.declared.Refusal.{Refusal}
use Rattle.commands.specs.declared.progress.Progress.{Progress}
use Rattle.commands.specs.Bytes.{parse_of, width_of}
use Rattle.commands.specs.Cause.{command_cause_of}
use Rattle.commands.specs.Progress.{initial_progress, after_of, ended}
use Rattle.commands.proofs.Coding.{parse_room, width_positive, after_at}
use Rattle.commands.proofs.Sound.{bounds}
use Rattle.commands.specs.declared.command.Claim.{Claim}
use Rattle.ticket.specs.declared.fields.Mark.{Mark}
use Rattle.ticket.specs.Fields.{refused, blank_mark, marks_with, in_file_order, ticket_of, reading_of}
use Rattle.ticket.specs.Read.{refusal, next_command_of, end_of, read_onward, if_ended, read_from, read_of}
use Rattle.ticket.proofs.MarkArray.{filled, entered_in, entered}
use Rattle.ticket.proofs.SoFar.{Consistent, consistent_start, consistent_next, length_ordered}
use Rattle.ticket.proofs.Turned.{turned}
use Rattle.std.specs.Prelude.{Ok, Err}

pub record ReadState (s : List ℕ) (array : List Mark) (p : Progress) : Type 0 where
  pub marks : List Mark  -- the latest first
  pub left : ℕ
  pub kept : Consistent p marks
  pub inside : p.at ≤ length s
  pub enough : length s < p.at + left
  pub rest : read_of s ≡ read_from left p marks (drop p.at s)
  pub held : array ≡ filled 4096 (in_file_order marks)

pub reached_start : (s : List ℕ) → ReadState s (replicate 4096 blank_mark) initial_progress
unfolding read_of filled
reached_start s =
    record {
      marks = [];
      left = suc (length s);
      kept = consistent_start;
      inside = omega arith;
      enough = omega arith;
      rest = refl;
      held = refl;
    }

one_turn : (n : ℕ) (p : Progress) (ms : List Mark) (s : List ℕ) → 0 < n →
    read_from n p ms s ≡ if_ended (ended p) p ms s (read_from (n - 1))
unfolding read_from
one_turn zero p ms s l = absurd (omega arith)
one_turn (suc n) p ms s l = simp unary_clauses

module _ (s : List ℕ) (array : List Mark) (p : Progress) (h : ReadState s array p) where
  turn : read_of s ≡ if_ended (ended p) p h.marks (drop p.at s) (read_from (h.left - 1))
  turn = h.rest ∙ one_turn h.left p h.marks (drop p.at s) (omega arith)

  -- before the end: one turn more
  module _ (go : ended p ≡ false) where
    read_on : read_of s ≡ read_onward (next_command_of (drop p.at s) p) h.marks (drop p.at s)
        (read_from (h.left - 1))
    read_on = simp go at turn

    pub reading_refused : (r : Refusal) → next_command_of (drop p.at s) p ≡ Err r →
        read_of s ≡ refused r
    reading_refused r e = rw e at read_on

    module _ (c : Command) (found : parse_of (drop p.at s) ≡ Ok c) where
      moved : (p.at < (after_of p c).at) × ((after_of p c).at ≤ length s)
      moved =
          omega (
            arith,
            after_at p c,
            parse_room (drop p.at s) c found,
            length-drop p.at s,
            width_positive c,
          )

      reached_after : command_cause_of p c ≡ Ok tt → next_command_of (drop p.at s) p ≡ Ok (after_of p c, c)
          → ReadState s (entered_in array p.count c) (after_of p c)
      reached_after free e =
          let next = consistent_next p h.marks h.kept c free in
          let on : drop (width_of c) (drop p.at s) ≡ drop (after_of p c).at s =
          rw (after_at p c) (drop-drop (width_of c) p.at s) in
          record {
            marks = marks_with h.marks c;
            left = h.left - 1;
            kept = next;
            inside = moved.1;
            enough = omega (arith, moved);
            rest = rw (e, on) at read_on;
            held =
                rw h.held (entered 4096 p h.marks h.kept c (bounds next.sound).0);
          }

    module _ (q : Progress) (c : Command) (e : next_command_of (drop p.at s) p ≡ Ok (q, c)) where
      pub reached_next : ReadState s (entered_in array p.count c) q
      reached_next =
          let t = turned (drop p.at s) p q c e in
          rw t.next (reached_after c t.found t.free (rw t.next at e))

      pub next_bounds : (p.at < q.at) × (q.at ≤ length s) × (q.count ≤ 4096)
      next_bounds =
          let t = turned (drop p.at s) p q c e in
          let n = reached_next in
          (rw t.next (moved c t.found).0, n.inside, (bounds n.kept.sound).0)

      -- a mark has room in the array
      pub mark_room : (a : ℕ) (k : Claim) → c ≡ Command.Mark a k → p.count < 4096
      unfolding after_of
      mark_room a k m =
          let t = turned (drop p.at s) p q c e in
          let more : q.count ≡ p.count + 1 = rw (t.next, m) refl in
          omega (arith, next_bounds)

  -- after the end
  module _ (end : ended p ≡ true) where
    at_end : read_of s ≡ end_of p h.marks (drop p.at s)
    at_end = simp end at turn

    pub reading_long : p.at < length s → read_of s ≡ refused (refusal AfterEnd p.at)
    reading_long l = rw (drop-cons s p.at 0) at at_end

    pub reading_done : length s ≤ p.at → Ok (record { header = p.header; count = p.count; marks = array })
        ≡ reading_of (read_of s)
    unfolding ticket_of filled
    reading_done l = rw (rw (drop_of_length-le s l) at at_end, h.held, length_ordered, h.kept.counted)
