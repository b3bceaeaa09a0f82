-- Reading from some bytes later on: the same bytes give the same fields, or the same number so many bytes later.
-- Assumes nothing.
use Prim.Native.Nat.{ℕ, zero, suc, ◌+◌, ◌≤◌, ◌<◌}
use mathlib.Core.Path.{◌≡◌, refl}
use mathlib.Core.Bool.{Bool, true, false}
use mathlib.Core.List.{List, [], ◌∷◌}
use native.Mathlib.Omega.{arith}
use lib.Dec.{eqb}
use lib.ListN.{length, drop, length-drop}
use borrow.Author.Tests.{le-ltb}
use Rattle.answers.specs.declared.Cause.{Cause}
use Rattle.answers.specs.declared.Cause.TheVariants.{UnknownCommand, TicketCut, AfterEnd}
use Rattle.commands.specs.declared.command.Command.{Command}
use Rattle.commands.specs.declared.parse.ParseError.{ParseError}
use Rattle.commands.specs.declared.parse.ParseError.TheVariants.{Unknown, Cut}
use Rattle.commands.specs.declared.progress.Progress.{Progress}
use Rattle.commands.specs.Rows.{header_length}
use Rattle.commands.specs.Bytes.{parse_of, width_of}
use Rattle.commands.specs.Progress.{after_of, ended}
use Rattle.commands.specs.Cause.{in_order, command_cause_of}
use Rattle.commands.specs.Admit.{admit_by, admit_of}
use Rattle.commands.proofs.Coding.{after_at, parse_room, width_positive}
use Rattle.ticket.specs.declared.fields.Mark.{Mark}
use Rattle.ticket.specs.Fields.{marks_with}
use Rattle.ticket.specs.Read.{refusal, admitted_as, parsed_as, next_command_of, end_of, read_onward, if_ended}
use Rattle.ticket.specs.Read.{read_from}
use Rattle.ticket.specs.OldTicket.{moved_place, moved}
use Rattle.std.specs.Prelude.{Result, Ok, Err}

-- the same progress n bytes later, at another stage, and perhaps another latest command
abbrev pub later : Progress → (n stage : ℕ) (nameable : Bool) → Progress
later p n k b =
    record { at = p.at + n; stage = k; header = p.header; count = p.count; last = p.last; nameable = b }

-- of both the command that some bytes begin with is in order, or of none
abbrev pub Alike : Progress → Progress → List ℕ → Type 0
Alike p q s = (c : Command) → parse_of s ≡ Ok c → in_order q c ≡ in_order p c

module _ (p : Progress) (n k : ℕ) (b : Bool) (c : Command) where
  pub same_cause : in_order (later p n k b) c ≡ in_order p c → command_cause_of (later p n k b) c ≡ command_cause_of p c
  unfolding command_cause_of
  same_cause alike = rw alike

  plus : (w : ℕ) → p.at + n + w ≡ p.at + w + n
  plus w = omega arith

-- after a command both are at the same stage, and have the same latest command
pub later_after : (p : Progress) (n k : ℕ) (b : Bool) (c : Command) → after_of (later p n k b) c
    ≡ later (after_of p c) n (after_of p c).stage (after_of p c).nameable
unfolding after_of
later_after p n k b (Command.Header c) = rw (plus p n k b (Command.Header c) (width_of (Command.Header c)))
later_after p n k b (Command.Mark a d) = rw (plus p n k b (Command.Mark a d) (width_of (Command.Mark a d)))
later_after p n k b (Command.Name a t) = rw (plus p n k b (Command.Name a t) (width_of (Command.Name a t)))
later_after p n k b Command.End = rw (plus p n k b Command.End (width_of Command.End))

same_order : (p : Progress) (n : ℕ) (c : Command) → in_order (later p n p.stage p.nameable) c ≡ in_order p c
same_order p n (Command.Header c) = refl
same_order p n (Command.Mark a d) = refl
same_order p n (Command.Name a t) = refl
same_order p n Command.End = refl

module _ (from n : ℕ) where
  module _ (p : Progress) (k : ℕ) (b : Bool) (after : from ≤ p.at) where
    moved_at : (x : Cause) → moved_place from n (refusal x p.at) ≡ refusal x (p.at + n)
    moved_at x = rw (le-ltb p.at from after)

    at_end : (ms : List Mark) (s : List ℕ) → end_of (later p n k b) ms s ≡ moved from n (end_of p ms s)
    at_end ms [] = refl
    at_end ms (x ∷ s) = rw (moved_at AfterEnd)

    -- one turn, with what is known of the rest
    module _ (l m : ℕ) (ms : List Mark) (s : List ℕ) (alike : Alike p (later p n k b) s)
        (rest : (c : Command) → parse_of s ≡ Ok c → read_from m (after_of (later p n k b) c) (marks_with ms c)
        (drop (width_of c) s) ≡ moved from n (read_from l (after_of p c) (marks_with ms c) (drop (width_of c) s))) where
      by_cause : (c : Command) → parse_of s ≡ Ok c → (v : Result Unit Cause)
          → read_onward (admitted_as (admit_by v (later p n k b) c) c) ms s (read_from m)
          ≡ moved from n (read_onward (admitted_as (admit_by v p c) c) ms s (read_from l))
      by_cause c f (Ok u) = rest c f
      by_cause c f (Err x) = rw (moved_at x)

      by_parsed : (d : Result Command ParseError) → parse_of s ≡ d
          → read_onward (parsed_as d (later p n k b)) ms s (read_from m)
          ≡ moved from n (read_onward (parsed_as d p) ms s (read_from l))
      unfolding admit_of
      by_parsed (Err Unknown) f = rw (moved_at UnknownCommand)
      by_parsed (Err Cut) f = rw (moved_at TicketCut)
      by_parsed (Ok c) f = rw (same_cause p n k b c (alike c f)) (by_cause c f (command_cause_of p c))

      by_ended : (t : Bool) → if_ended t (later p n k b) ms s (read_from m)
          ≡ moved from n (if_ended t p ms s (read_from l))
      unfolding next_command_of
      by_ended true = at_end ms s
      by_ended false = by_parsed (parse_of s) refl

  pub read_later : (l m : ℕ) (p : Progress) (k : ℕ) (b : Bool) (ms : List Mark) (s : List ℕ) → length s < l
      → length s < m → from ≤ p.at → eqb k (header_length + 1) ≡ ended p → Alike p (later p n k b) s
      → read_from m (later p n k b) ms s ≡ moved from n (read_from l p ms s)
  unfolding read_from
  read_later zero m p k b ms s few o after e alike = absurd (omega arith)
  read_later (suc l) zero p k b ms s few o after e alike = absurd (omega arith)
  read_later (suc l) (suc m) p k b ms s few o after e alike =
      let rest : (c : Command) → parse_of s ≡ Ok c → read_from m (after_of (later p n k b) c) (marks_with ms c)
      (drop (width_of c) s) ≡ moved from n (read_from l (after_of p c) (marks_with ms c) (drop (width_of c) s)) =
      λ c f.
      let shorter : length (drop (width_of c) s) < length s =
      omega (arith, length-drop (width_of c) s, parse_room s c f, width_positive c) in
      rw (later_after p n k b c) (read_later l m (after_of p c) (after_of p c).stage (after_of p c).nameable
      (marks_with ms c) (drop (width_of c) s) (omega arith) (omega arith) (omega (arith, after_at p c)) refl
      (λ d g. same_order (after_of p c) n d)) in
      rw e (by_ended p k b after l m ms s alike rest (ended p))
