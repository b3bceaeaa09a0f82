-- Old tickets, read or refused, beside the same as it would be written now: one without home's command, with $07 and
-- $0000 put in after its entry (document 02, e: tickets without it still mean $0000); and one with names, without them
-- (document 02, i: the reader checks and then drops them).
-- Assumes nothing.
use Rattle.std.specs.Prelude.{ℕ, ◌+◌, ◌*◌, ◌≡◌, false, cond, List, [], ◌∷◌, ◌++◌, eqb, ltb, length, get_or, Ok}
use Rattle.answers.specs.declared.Refusal.{Refusal}
use Rattle.commands.specs.declared.header.Header.{Header}
use Rattle.commands.specs.declared.command.Command.{Command}
use Rattle.commands.specs.declared.progress.Progress.{Progress}
use Rattle.commands.specs.Header.{required_commands}
use Rattle.commands.specs.Progress.{initial_progress}
use Rattle.ticket.specs.Fields.{ReadOutcome, read, refused}
use Rattle.ticket.specs.Read.{refusal, read_of}
use Rattle.ticket.specs.Write.{encode_all, all_then}
use Rattle.ticket.specs.Spells.{required_size, carries_home}
use Rattle.ticket.specs.Names.{is_name, names_dropped}
use Rattle.ticket.specs.RoundTrip.{AllFit}

-- what stands from an offset on stands some bytes later, and so does the place of a refusal there
abbrev pub moved_place : (from bytes : ℕ) → Refusal → Refusal
moved_place from n r = refusal r.cause (cond (ltb r.place from) r.place (r.place + n))

abbrev pub moved : (from bytes : ℕ) → ReadOutcome → ReadOutcome
moved from n (read f) = read f
moved from n (refused r) = refused (moved_place from n r)

-- ---- without home's command

-- a ticket that begins with the commands that every header has, whatever comes after them: every ticket whose first
-- four commands are $01 to $04, with all their bytes, is one
abbrev pub begun : Header → (rest : List ℕ) → List ℕ
begun h rest = encode_all (required_commands h) ++ rest

-- the same with home $0000 put in after its entry
abbrev pub begun_with_home : Header → (rest : List ℕ) → List ℕ
begun_with_home h rest = begun h (0x07 ∷ 0x00 ∷ 0x00 ∷ rest)

-- both give the same fields, or the same number at the same command
abbrev pub ReadAlike : Type 0
ReadAlike =
    (h : Header) (rest : List ℕ) → AllFit (required_commands h) → carries_home (begun h rest) ≡ false
    → read_of (begun_with_home h rest) ≡ moved required_size 3 (read_of (begun h rest))

-- ---- with names

abbrev pub names_among : List Command → ℕ
names_among [] = 0
names_among (c ∷ cs) = cond (is_name c) (1 + names_among cs) (names_among cs)

-- A ticket that begins with commands to which nothing is objected, whatever comes after them, so long as it is no name:
-- with the names among them and without, both give the same fields, or the same number at the same command, which
-- stands 11 bytes later for each name.
abbrev pub ReadWithNames : Type 0
ReadWithNames =
    (cs : List Command) (p : Progress) (rest : List ℕ) → AllFit cs → all_then (Ok initial_progress) cs ≡ Ok p
    → eqb (get_or rest 0 0) 0x06 ≡ false
    → let bare = encode_all (names_dropped cs) in
    read_of (encode_all cs ++ rest) ≡ moved (length bare) (11 * names_among cs) (read_of (bare ++ rest))
