-- A ticket that is read: without its names it is read alike; written again, it has the same bytes where it carries home
-- and no name, and only there.
-- Assumes nothing.
use Prim.Native.Nat.{ℕ, zero, suc, ◌≤◌}
use mathlib.Core.Path.{◌≡◌, refl, sym, ap, ◌∙◌}
use mathlib.Core.Bool.{Bool, true, false, cond, true≢false, false≢true, and-eq-true_iff}
use mathlib.Core.List.{List, [], ◌∷◌, ◌++◌, append-nil}
use native.Mathlib.Omega.{arith}
use lib.Dec.{eqb, leb}
use lib.ListN.{length, get_or, length-append, drop_of_length-le}
use lib.Seq.{drop_at}
use borrow.Author.Tests.{le-leb}
use Rattle.answers.specs.declared.Refusal.{Refusal}
use Rattle.commands.specs.declared.header.Header.{Header}
use Rattle.commands.specs.declared.command.Command.{Command}
use Rattle.commands.specs.Header.{required_commands}
use Rattle.commands.specs.Bytes.{encode_of, width_of, parse_of}
use Rattle.commands.specs.Every.{none, more}
use Rattle.commands.specs.Number.{AllBytes}
use Rattle.commands.proofs.Coding.{length_encode, width_positive, parse_encode}
use Rattle.ticket.specs.declared.fields.Mark.{Mark}
use Rattle.ticket.specs.declared.fields.Ticket.{Ticket}
use Rattle.ticket.specs.Fields.{Fields, ReadOutcome, read, refused, reading_of}
use Rattle.ticket.specs.Read.{read_of}
use Rattle.ticket.specs.Write.{mark_commands, commands_of, encode_all, bytes_of, check_of, write_of, output_of}
use Rattle.ticket.specs.Spells.{StatesMarks, States, stated, Spells, carries_home}
use Rattle.ticket.specs.Spells.StatesHeader.{whole, homeless}
use Rattle.ticket.specs.Spells.{StatesMarks as Marks}
use Rattle.ticket.specs.Names.{commands_from, commands_in, names_dropped, without_names, no_name, nameless}
use Rattle.ticket.specs.Names.{as_written, NamesIgnored}
use Rattle.ticket.specs.RoundTrip.{AllFit, FitsFields, WrittenAs, SameBytes}
use Rattle.ticket.specs.Rules.{Readable}
use Rattle.ticket.proofs.Accepts.{read_rules, rules_read}
use Rattle.ticket.proofs.Fitting.{fit_stated}
use Rattle.ticket.proofs.Listed.{fields_ticket}
use Rattle.ticket.proofs.Own.{own_marks}
use Rattle.ticket.proofs.Readable.{readable_checked}
use Rattle.ticket.proofs.WrittenRead.{few}
use Rattle.std.specs.Prelude.{Result, Ok, Err}

-- ---- the commands of their bytes are found again

commands_from_encoded : (n : ℕ) {cs : List Command} → AllFit cs → length (encode_all cs) ≤ n
    → commands_from n (encode_all cs)
    ≡ cs
unfolding parse_of
commands_from_encoded zero none l = refl
commands_from_encoded (suc n) none l = refl
commands_from_encoded zero (more {a} {l} fit fits) few =
    absurd (omega (arith, length-append (encode_of a) (encode_all l), length_encode a, width_positive a))
commands_from_encoded (suc n) (more {a} {l} fit fits) few =
    let shorter : length (encode_all l) ≤ n =
    omega (arith, length-append (encode_of a) (encode_all l), length_encode a, width_positive a) in
    rw (
      parse_encode a (encode_all l) fit,
      drop_at (encode_of a) (encode_all l) (width_of a) (length_encode a),
      commands_from_encoded n fits shorter,
    )

commands_in_encoded : {cs : List Command} → AllFit cs → commands_in (encode_all cs) ≡ cs
unfolding commands_in
commands_in_encoded {cs} fits = commands_from_encoded (length (encode_all cs)) fits (omega arith)

-- ---- without their names commands state the same fields

marks_dropped : {ms : List Mark} {cs : List Command} → StatesMarks ms cs → names_dropped (cs ++ (Command.End ∷ []))
    ≡ mark_commands ms ++ (Command.End ∷ [])
marks_dropped Marks.none = refl
marks_dropped (Marks.unnamed K) = rw (marks_dropped K)
marks_dropped (Marks.named t n K) = rw (marks_dropped K)

states_dropped : {f : Fields} {cs : List Command} → States f cs → States f (names_dropped cs)
states_dropped {f} (stated whole K) = rw (marks_dropped K) (stated whole (own_marks f.marks))
states_dropped {f} (stated (homeless z) K) = rw (marks_dropped K) (stated (homeless z) (own_marks f.marks))

none_left : (cs : List Command) → no_name (names_dropped cs) ≡ true
none_left [] = refl
none_left (Command.Header c ∷ cs) = none_left cs
none_left (Command.Mark a k ∷ cs) = none_left cs
none_left (Command.Name a t ∷ cs) = none_left cs
none_left (Command.End ∷ cs) = none_left cs

-- ---- commands with home's and without names are the fields' own

no_names : (ms : List Mark) → no_name (mark_commands ms ++ (Command.End ∷ [])) ≡ true
no_names [] = refl
no_names (m ∷ ms) = no_names ms

own_unnamed : {ms : List Mark} {cs : List Command} → StatesMarks ms cs → no_name (cs ++ (Command.End ∷ [])) ≡ true
    → cs ≡ mark_commands ms
own_unnamed Marks.none e = refl
own_unnamed (Marks.unnamed K) e = rw (own_unnamed K e)
own_unnamed (Marks.named t n K) e = absurd (false≢true e)

-- without home's command a mark or the end stands there
other_byte : {ms : List Mark} {cs : List Command} → StatesMarks ms cs
    → eqb (get_or (encode_all (cs ++ (Command.End ∷ []))) 0 0) 0x07 ≡ false
unfolding encode_of
other_byte Marks.none = refl
other_byte (Marks.unnamed K) = refl
other_byte (Marks.named t n K) = refl

not_carried : (h : Header) {ms : List Mark} {cs : List Command} → StatesMarks ms cs
    → carries_home (encode_all (required_commands h ++ (cs ++ (Command.End ∷ [])))) ≡ false
unfolding encode_of
not_carried h K = other_byte K

module _ (f : Fields) where
  own_stated : {cs : List Command} → States f cs → carries_home (encode_all cs) ≡ true → no_name cs ≡ true
      → cs ≡ commands_of f
  unfolding commands_of
  own_stated (stated whole K) c e = rw (own_unnamed K e)
  own_stated (stated (homeless z) K) c e = absurd (true≢false (sym c ∙ not_carried f.header K))

  pub same_as_written : (s : List ℕ) → Spells f s → FitsFields f → as_written s ≡ true → bytes_of f ≡ s
  unfolding as_written nameless bytes_of
  same_as_written s S fits w =
      let t = (and-eq-true_iff (carries_home s) _).0 w in
      let has_no_name = rw (← S.bytes, commands_in_encoded (fit_stated f S.states fits)) at t.1 in
      let carries = rw (← S.bytes) at t.0 in
      ap encode_all (sym (own_stated S.states carries has_no_name)) ∙ S.bytes

  pub own_as_written : FitsFields f → as_written (bytes_of f) ≡ true
  unfolding as_written nameless bytes_of commands_of encode_of
  own_as_written fits = rw (commands_in_encoded fits) (no_names f.marks)

-- ---- a ticket that is read, without its names

home_dropped : {f : Fields} {cs : List Command} → States f cs
    → carries_home (encode_all (names_dropped cs)) ≡ carries_home (encode_all cs)
unfolding encode_of
home_dropped (stated whole K) = refl
home_dropped {f} (stated (homeless z) K) =
    rw (marks_dropped K) (not_carried f.header (own_marks f.marks) ∙ sym (not_carried f.header K))

pub names_ignored : (s : List ℕ) → AllBytes s → NamesIgnored s
unfolding without_names nameless
names_ignored s a f r =
    let (S, fits, readable) = read_rules s f a r in
    let found : commands_in s ≡ S.commands =
    ap commands_in (sym S.bytes) ∙ commands_in_encoded (fit_stated f S.states fits) in
    let bare = states_dropped S.states in
    let spelled : Spells f (encode_all (names_dropped S.commands)) =
    record { commands = _; states = bare; bytes = refl } in
    record {
      same_fields = rw found (rules_read _ f spelled fits readable);
      no_name_left = rw (found, commands_in_encoded (fit_stated f bare fits)) (none_left S.commands);
      same_home = rw found (home_dropped S.states ∙ ap carries_home S.bytes);
    }

-- ---- what is written

-- an answer that is a length is how many bytes there are
as_many : (n m : ℕ) (r : Refusal) (b : Bool) → cond b (Ok n) (Err r) ≡ Ok m → n ≡ m
as_many n m r true e = cc
as_many n m r false e = cc

module _ (f : Fields) (readable : Readable f) where
  checks : check_of f ≡ Ok (readable_checked f readable).0
  checks = (readable_checked f readable).1

  written_own : (s : List ℕ) → bytes_of f ≡ s → WrittenAs f s
  unfolding output_of write_of
  written_own s e out room = simp (checks, e, le-leb _ _ room) (refl, refl)

  own_written : (s : List ℕ) → WrittenAs f s → bytes_of f ≡ s
  unfolding output_of write_of
  own_written s w =
      let answer = rw checks at (w s (omega arith)).0 in
      let same : length (bytes_of f) ≡ length s =
      as_many _ _ _ (leb (length (bytes_of f)) (length s)) answer in
      let all : length s ≤ length s = omega arith in
      simp (checks, same, le-leb _ _ all, drop_of_length-le s all, append-nil) at (w s (omega arith)).1

module _ (s : List ℕ) (a : AllBytes s) where
  same_read : (o : ReadOutcome) → read_of s ≡ o → SameBytes s (reading_of o)
  same_read (read f) e =
      let (S, fits, readable) = read_rules s f a e in
      rw (fields_ticket f (few s f e)) (
        λ w. written_own f readable s (same_as_written f s S fits w),
        λ w. rw (← own_written f readable s w) (own_as_written f fits),
      )
  same_read (refused x) e = tt

  pub same_bytes : (r : Result Ticket Refusal) → r ≡ reading_of (read_of s) → SameBytes s r
  same_bytes r e = rw e (same_read (read_of s) refl)
