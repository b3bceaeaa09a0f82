-- The code's ticket of some fields holds these fields; the code's answer loses nothing of what reading comes to.
-- Assumes nothing.
use mathlib.Core.Path.{◌≡◌, refl, sym, ap, ◌∙◌}
use Prim.Native.Nat.{ℕ, zero, suc, ◌-◌, ◌≤◌}
use native.Mathlib.Omega.{arith}
use mathlib.Core.List.{List, ◌++◌}
use lib.ListN.{length, take, replicate, length-append}
use lib.Seq.{take-suc, take-append_seam}
use borrow.Author.Tests.{lt-ltb}
use Rattle.ticket.specs.declared.fields.Mark.{Mark}
use Rattle.ticket.specs.declared.fields.Ticket.{Ticket}
use Rattle.ticket.specs.Fields.{Fields, ReadOutcome, read, refused, blank_mark, listed, ticket_of}
use Rattle.ticket.specs.Fields.{fields_of, reading_of}
use Rattle.std.specs.Prelude.{Result, Ok, Err}
use Rattle.answers.specs.declared.Refusal.{Refusal}

pub listed_take : (ms : List Mark) (n : ℕ) → n ≤ 4096 → n ≤ length ms → listed ms n ≡ take n ms
listed_take ms zero few room = refl
listed_take ms (suc n) few room =
    rw (lt-ltb n 4096 few, listed_take ms n (omega arith) (omega arith), take-suc ms n blank_mark room)

pub fields_ticket : (f : Fields) → length f.marks ≤ 4096 → fields_of (ticket_of f) ≡ f
unfolding fields_of ticket_of
fields_ticket f few =
    let blank = replicate (4096 - length f.marks) blank_mark in
    let room : length f.marks ≤ length (f.marks ++ blank) = simp length-append (omega arith) in
    rw (listed_take (f.marks ++ blank) (length f.marks) few room, take-append_seam f.marks blank)

-- two different outcomes of reading are different answers of the code: from the answer the outcome is found again
abbrev fields_from : Ticket → Fields
fields_from t = record { header = t.header; marks = take t.count t.marks }

abbrev outcome_from : Result Ticket Refusal → ReadOutcome
outcome_from (Ok t) = read (fields_from t)
outcome_from (Err r) = refused r

outcome_back : (o : ReadOutcome) → outcome_from (reading_of o) ≡ o
unfolding ticket_of
outcome_back (read f) =
    rw (take-append_seam f.marks (replicate (4096 - length f.marks) blank_mark))
outcome_back (refused r) = refl

pub readings_apart : (a b : ReadOutcome) → reading_of a ≡ reading_of b → a ≡ b
readings_apart a b e =
    sym (outcome_back a) ∙ ap outcome_from e ∙ outcome_back b
