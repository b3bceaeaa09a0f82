-- What is left of a ticket's commands: after the header's those of its marks, and the end.
-- Assumes nothing.
use Prim.Native.Nat.{ℕ, zero, suc, ◌+◌, ◌<◌}
use native.Mathlib.Omega.{arith}
use mathlib.Core.Path.{◌≡◌, refl}
use mathlib.Core.Bool.{Bool, true, false}
use mathlib.Core.List.{List, [], ◌∷◌, ◌++◌, append_assoc}
use lib.Dec.{ltb}
use lib.ListN.{length, get_or, drop, length-append}
use lib.Seq.{drop_at}
use borrow.Author.Tests.{ltb-true, ltb-false}
use Rattle.commands.specs.declared.command.Command.{Command}
use Rattle.commands.specs.Header.{header_commands}
use Rattle.ticket.specs.declared.fields.Mark.{Mark}
use Rattle.ticket.specs.declared.fields.Ticket.{Ticket}
use Rattle.ticket.specs.Fields.{blank_mark, mark_index, listed, fields_of}
use Rattle.ticket.specs.Write.{mark_command, mark_commands, commands_of}
use Rattle.ticket.proofs.Snoc.{commands_snoc}

abbrev pub marks_left : List Mark → (count i : ℕ) → List Command
marks_left ms n i = drop i (mark_commands (listed ms n) ++ (Command.End ∷ []))

pub whole : (t : Ticket) → commands_of (fields_of t) ≡ header_commands t.header ++ marks_left t.marks t.count 0
unfolding commands_of fields_of
whole t = refl

how_many : (ms : List Mark) (n : ℕ) → length (mark_commands (listed ms n)) ≡ n
how_many ms zero = refl
how_many ms (suc n) = rw (commands_snoc, length-append) (omega (arith, how_many ms n))

module _ (ms : List Mark) where
  abbrev entry : ℕ → Command
  entry i = mark_command (get_or ms (mark_index i) blank_mark)

  -- the commands from one on, before any others
  abbrev Next : (n i : ℕ) → List Command → Type 0
  Next n i cs =
      let k = mark_commands (listed ms n) in
      drop i (k ++ cs) ≡ entry i ∷ drop (i + 1) (k ++ cs)

  last : (n : ℕ) (cs : List Command) → Next n n (entry n ∷ cs)
  last n cs =
      let k = mark_commands (listed ms n) in
      let longer : length (k ++ (entry n ∷ [])) ≡ n + 1 = simp length-append (omega (arith, how_many ms n)) in
      let rest : drop (n + 1) (k ++ (entry n ∷ cs)) ≡ cs =
      rw (← append_assoc k (entry n ∷ []) cs) (drop_at (k ++ (entry n ∷ [])) cs (n + 1) longer) in
      rw (drop_at k (entry n ∷ cs) n (how_many ms n), rest)

  by_test : (n i : ℕ) (cs : List Command) → i < n + 1 → (i < n → Next n i (entry n ∷ cs)) → (b : Bool) → ltb i n ≡ b
      → Next n i (entry n ∷ cs)
  by_test n i cs l before true e = before (ltb-true i n e)
  by_test n i cs l before false e =
      let same : i ≡ n = omega (arith, ltb-false i n e) in
      rw same (last n cs)

  next : (n i : ℕ) (cs : List Command) → i < n → Next n i cs
  next zero i cs l = absurd (omega arith)
  next (suc n) i cs l =
      rw (commands_snoc, append_assoc) (by_test n i cs (omega arith) (next n i (entry n ∷ cs)) _ refl)

  pub next_mark : (n i : ℕ) → i < n → marks_left ms n i ≡ entry i ∷ marks_left ms n (i + 1)
  next_mark n i l = next n i (Command.End ∷ []) l

  pub no_mark : (n : ℕ) → marks_left ms n n ≡ Command.End ∷ []
  no_mark n = drop_at (mark_commands (listed ms n)) (Command.End ∷ []) n (how_many ms n)
