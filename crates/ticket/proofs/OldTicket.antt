-- A ticket without home's command and the same with $07 and $0000 put in after its entry are read alike.
-- Assumes nothing.
use Prim.Native.Nat.{ℕ, suc, ◌+◌, ◌<◌}
use mathlib.Core.Path.{◌≡◌, refl, sym, ap, ◌∙◌}
use mathlib.Core.Bool.{false}
use mathlib.Core.List.{List, [], ◌∷◌, ◌++◌, append_assoc}
use native.Mathlib.Omega.{arith}
use lib.Dec.{eqb}
use lib.ListN.{length, get_or, length-append}
use borrow.Author.Tests.{lt-ltb, eqb-false}
use Rattle.commands.specs.declared.header.Header.{Header}
use Rattle.commands.specs.declared.command.HeaderCommand.{HeaderCommand}
use Rattle.commands.specs.declared.command.HeaderCommand.TheVariants.{Code, Data, Stack, Entry, Home}
use Rattle.commands.specs.declared.command.Command.{Command}
use Rattle.answers.specs.declared.Refusal.{Refusal}
use Rattle.commands.specs.declared.progress.Progress.{Progress}
use Rattle.commands.specs.Every.{none, more}
use Rattle.commands.specs.Rows.{header_length}
use Rattle.commands.specs.Header.{header_with, required_commands, header_commands}
use Rattle.commands.specs.Bytes.{encode_of, width_of}
use Rattle.commands.specs.Fits.FitsLayout.{none as no_operand, more as operand}
use Rattle.commands.specs.Progress.{initial_progress, after_of, ended}
use Rattle.commands.proofs.Coding.{byte_found, parse_room, width_positive, length_encode, after_at}
use Rattle.ticket.specs.Fields.{ReadOutcome, refused}
use Rattle.ticket.specs.Read.{read_from, read_of}
use Rattle.ticket.specs.Write.{encode_all, all_then}
use Rattle.ticket.specs.Spells.{required_size, carries_home}
use Rattle.ticket.specs.RoundTrip.{AllFit}
use Rattle.ticket.specs.OldTicket.{begun, begun_with_home, moved, ReadAlike}
use Rattle.ticket.proofs.Checks.{not_next}
use Rattle.ticket.proofs.Fitting.{fit_append}
use Rattle.ticket.proofs.Free.{free_admitted, admitted_free}
use Rattle.ticket.proofs.Later.{later, Alike, read_later}
use Rattle.ticket.proofs.Readable.{header_says, headed_without_home, required_says}
use Rattle.ticket.proofs.ReadWritten.{refused_stays}
use Rattle.ticket.proofs.Stage.{by_admission, stage_after}
use Rattle.ticket.proofs.Step.{step}
use Rattle.std.specs.Prelude.{Result, Ok, Err}

-- ---- commands of the header, and what comes after them

abbrev commands : List HeaderCommand → List Command
commands [] = []
commands (c ∷ cs) = Command.Header c ∷ commands cs

-- a turn for each of them, and n more
abbrev turns : List HeaderCommand → ℕ → ℕ
turns [] n = n
turns (c ∷ cs) n = suc (turns cs n)

-- by what their checks give
abbrev onward : ℕ → List ℕ → Result Progress Refusal → ReadOutcome
onward n rest (Err r) = refused r
onward n rest (Ok p) = read_from n p [] rest

read_on : (cs : List HeaderCommand) (n : ℕ) (p : Progress) (rest : List ℕ) → AllFit (commands cs) → ended p ≡ false
    → read_from (turns cs n) p [] (encode_all (commands cs) ++ rest) ≡ onward n rest (all_then (Ok p) (commands cs))
read_on [] n p rest none e = refl
read_on (c ∷ cs) n p rest (more fit fits) e =
    rw (append_assoc (encode_of (Command.Header c)) (encode_all (commands cs)) rest)
    (step (turns cs n) p [] (Command.Header c) (encode_all (commands cs) ++ rest) e fit
    (λ a. Unit {0}) (λ a. onward n rest (all_then a (commands cs))) (λ r. rw refused_stays)
    (λ x. read_on cs n (after_of p (Command.Header c)) rest fits (stage_after p (Command.Header c))) tt)

abbrev refused_place : Result Progress Refusal → ℕ
refused_place (Err x) = x.place
refused_place (Ok q) = 0

-- a refusal's place is before the end of the commands
refused_before : (cs : List Command) (p : Progress) (r : Refusal) → all_then (Ok p) cs ≡ Err r
    → r.place < p.at + length (encode_all cs)
refused_before [] p r e = absurd (not_next (sym e))
refused_before (c ∷ cs) p r e =
    by_admission p c (λ a. all_then a cs ≡ Err r → r.place < p.at + length (encode_all (c ∷ cs)))
    (λ x at n.
    let same : x.place ≡ r.place = ap refused_place (sym (refused_stays x cs) ∙ n) in
    simp length-append (omega (arith, length_encode c, width_positive c)))
    (λ n. simp length-append (omega (arith, refused_before cs _ r n, after_at p c, length_encode c))) e

-- ---- the two tickets

module _ (h : Header) (rest : List ℕ) (fits : AllFit (required_commands h)) where
  -- with home $0000
  abbrev homed : Header
  homed = header_with h (Home 0)

  abbrev required : List HeaderCommand
  required = Code h.code ∷ Data h.«data» ∷ Stack h.stack ∷ Entry h.entry h.limit ∷ []

  abbrev full : List HeaderCommand
  full = Code h.code ∷ Data h.«data» ∷ Stack h.stack ∷ Entry h.entry h.limit ∷ Home 0 ∷ []

  read_begun : read_of (begun h rest) ≡ onward (19 + length rest) rest (all_then (Ok initial_progress)
      (required_commands h))
  unfolding read_of encode_of
  read_begun =
      let enough : suc (length (begun h rest)) ≡ turns required (19 + length rest) = omega arith in
      rw enough (read_on required (19 + length rest) initial_progress rest fits refl)

  read_with_home : read_of (begun_with_home h rest) ≡ onward (21 + length rest) rest (all_then (Ok initial_progress)
      (header_commands homed))
  unfolding read_of encode_of
  read_with_home =
      let enough : suc (length (begun_with_home h rest)) ≡ turns full (21 + length rest) = omega arith in
      rw enough (read_on full (21 + length rest) initial_progress rest
      (fit_append fits (more (operand (omega arith) no_operand) none)) refl)

  module _ (away : carries_home (begun h rest) ≡ false) where
    first_byte : eqb (get_or rest 0 0) 0x07 ≡ false
    unfolding encode_of
    first_byte = away

    alike : (s : List ℕ) → eqb (get_or s 0 0) 0x07 ≡ false
        → Alike (headed_without_home h) (later (headed_without_home h) 3 header_length false) s
    unfolding after_of
    alike [] e c f = absurd (omega (arith, parse_room [] c f, width_positive c))
    alike (b ∷ s) e (Command.Header (Code w)) f = refl
    alike (b ∷ s) e (Command.Header (Data w)) f = refl
    alike (b ∷ s) e (Command.Header (Stack w)) f = refl
    alike (b ∷ s) e (Command.Header (Entry a l)) f = refl
    alike (b ∷ s) e (Command.Header (Home a)) f =
        absurd (eqb-false b 0x07 e (sym (byte_found b s (Command.Header (Home a)) f)))
    alike (b ∷ s) e (Command.Mark a k) f = refl
    alike (b ∷ s) e (Command.Name a t) f = refl
    alike (b ∷ s) e Command.End f = refl

    by_checks : (a : Result Progress Refusal) → all_then (Ok initial_progress) (required_commands h) ≡ a
        → read_of (begun_with_home h rest) ≡ moved required_size 3 (read_of (begun h rest))
    unfolding after_of width_of encode_of
    by_checks (Err r) e =
        let before : r.place < required_size = refused_before (required_commands h) initial_progress r e in
        rw (read_with_home, read_begun, e, lt-ltb r.place required_size before)
    by_checks (Ok q) e =
        let free = admitted_free initial_progress q (required_commands h) e in
        let rules = ((required_says homed [] refl).0 free).0 in
        let free_with_home = (header_says homed []).1 (rules, tt) in
        let old = read_begun ∙ ap (onward (19 + length rest) rest) (free_admitted _ (required_commands h) free) in
        read_with_home
        ∙ ap (onward (21 + length rest) rest) (free_admitted _ (header_commands homed) free_with_home)
        ∙ read_later required_size 3 (19 + length rest) (21 + length rest) (headed_without_home h) header_length false
        []
        rest (omega arith) (omega arith) (omega arith) refl (alike rest first_byte)
        ∙ sym (ap (moved required_size 3) old)

pub read_alike : ReadAlike
read_alike h rest fits away = by_checks h rest fits away _ refl
