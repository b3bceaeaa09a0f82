-- A ticket with names, read or refused, and the same without them: the same fields, or the same number at the same
-- command.
-- Assumes nothing.
use Prim.Native.Nat.{ℕ, zero, suc, ◌+◌, ◌*◌, ◌<◌}
use mathlib.Core.Path.{◌≡◌, refl, sym, ap, ◌∙◌}
use mathlib.Core.Bool.{Bool, true, false, false≢true, and-eq-true_iff}
use mathlib.Core.List.{List, [], ◌∷◌, ◌++◌, append_assoc}
use native.Mathlib.Nat.{zero-add, add-zero}
use native.Mathlib.Omega.{arith}
use lib.Dec.{eqb}
use lib.ListN.{length, get_or, length-append}
use borrow.Author.Tests.{eqb-false, ne_eqb}
use Rattle.commands.specs.declared.command.Command.{Command}
use Rattle.commands.specs.declared.progress.Progress.{Progress}
use Rattle.commands.specs.Every.{none, more}
use Rattle.commands.specs.Fits.{Fits}
use Rattle.commands.specs.Rows.{header_length}
use Rattle.commands.specs.Bytes.{encode_of, width_of}
use Rattle.commands.specs.Progress.{initial_progress, after_of, ended}
use Rattle.commands.specs.Cause.{in_order, command_cause_of}
use Rattle.commands.specs.Admit.{admit_of}
use Rattle.commands.proofs.Causes.{in_order_parts, allowed}
use Rattle.commands.proofs.Coding.{stage_most, byte_found, parse_room, width_positive, length_encode}
use Rattle.ticket.specs.declared.fields.Mark.{Mark}
use Rattle.ticket.specs.Fields.{ReadOutcome, refused, marks_with}
use Rattle.ticket.specs.Read.{read_from, read_of}
use Rattle.ticket.specs.Write.{encode_all}
use Rattle.ticket.specs.Names.{names_dropped}
use Rattle.ticket.specs.RoundTrip.{AllFit}
use Rattle.ticket.specs.OldTicket.{moved, names_among, ReadWithNames}
use Rattle.ticket.proofs.Checks.{all_at}
use Rattle.ticket.proofs.Free.{after_all, Free, free_admitted, admitted_free}
use Rattle.ticket.proofs.Later.{later, Alike, same_cause, later_after, read_later}
use Rattle.ticket.proofs.Step.{step}
use Rattle.std.specs.Prelude.{Result, Ok, Err}
use Rattle.answers.specs.declared.Refusal.{Refusal}

-- ---- commands to which nothing is objected are read, and then what comes after them

abbrev marks_after : List Mark → List Command → List Mark
marks_after ms [] = ms
marks_after ms (c ∷ cs) = marks_after (marks_with ms c) cs

module _ (p : Progress) (c : Command) (free : command_cause_of p c ≡ Ok tt) where
  not_ended : ended p ≡ false
  not_ended =
      ne_eqb p.stage (header_length + 1)
      (omega (arith, (in_order_parts p c (allowed p c free).ordered).0.ahead, stage_most c))

  -- by what the command's admission gives
  abbrev onward : ReadOutcome → Result Progress Refusal → ReadOutcome
  onward o (Err r) = refused r
  onward o (Ok q) = o

  read_one : (n : ℕ) (ms : List Mark) (s : List ℕ) → Fits c → read_from (suc n) p ms (encode_of c ++ s)
      ≡ read_from n (after_of p c) (marks_with ms c) s
  unfolding admit_of
  read_one n ms s fit =
      step n p ms c s not_ended fit (λ a. Unit {0}) (onward (read_from n (after_of p c) (marks_with ms c) s))
      (λ r. refl) (λ x. refl) tt
      ∙ rw free

-- the turns that are then left are enough
abbrev ReadOn : ℕ → Progress → List Mark → List Command → List ℕ → Type 0
ReadOn n p ms cs rest =
    (m : ℕ) × (length rest < m) × (read_from n p ms (encode_all cs ++ rest)
    ≡ read_from m (after_all p cs) (marks_after ms cs) rest)

read_on : (n : ℕ) (p : Progress) (ms : List Mark) (cs : List Command) (rest : List ℕ) → AllFit cs → Free p cs
    → length (encode_all cs ++ rest) < n → ReadOn n p ms cs rest
read_on n p ms [] rest none f few = (n, few, refl)
read_on zero p ms (c ∷ cs) rest (more fit fits) f few = absurd (omega arith)
read_on (suc n) p ms (c ∷ cs) rest (more fit fits) f few =
    let s = encode_all cs ++ rest in
    let shorter : length s < n =
    omega (
      arith,
      ap length (append_assoc (encode_of c) (encode_all cs) rest),
      length-append (encode_of c) s,
      length_encode c,
      width_positive c,
    ) in
    let (m, enough, same) = read_on n (after_of p c) (marks_with ms c) cs rest fits f.1 shorter in
    let split = ap (read_from (suc n) p ms) (append_assoc (encode_of c) (encode_all cs) rest) in
    (m, enough, split ∙ read_one p c f.0 n ms s fit ∙ same)

all_read : (cs : List Command) (rest : List ℕ) → AllFit cs → Free initial_progress cs
    → ReadOn (suc (length (encode_all cs ++ rest))) initial_progress [] cs rest
all_read cs rest fits f =
    read_on (suc (length (encode_all cs ++ rest))) initial_progress [] cs rest fits f (omega arith)

-- ---- nor is anything objected to them without their names, and their marks are the same

marks_dropped : (cs : List Command) (ms : List Mark) → marks_after ms (names_dropped cs) ≡ marks_after ms cs
marks_dropped [] ms = refl
marks_dropped (Command.Header c ∷ cs) ms = marks_dropped cs ms
marks_dropped (Command.Mark a k ∷ cs) ms = marks_dropped cs (marks_with ms (Command.Mark a k))
marks_dropped (Command.Name a t ∷ cs) ms = marks_dropped cs ms
marks_dropped (Command.End ∷ cs) ms = marks_dropped cs ms

fit_dropped : {cs : List Command} → AllFit cs → AllFit (names_dropped cs)
fit_dropped none = none
fit_dropped (more {a = Command.Header c} fit fits) = more fit (fit_dropped fits)
fit_dropped (more {a = Command.Mark a k} fit fits) = more fit (fit_dropped fits)
fit_dropped (more {a = Command.Name a t} fit fits) = fit_dropped fits
fit_dropped (more {a = Command.End} fit fits) = more fit (fit_dropped fits)

-- progress that names have put n bytes later, and perhaps the latest command was one
abbrev named : Progress → ℕ → Bool → Progress
named q n b = later q n q.stage b

-- where a name may come, the header is past
abbrev Past : Progress → Bool → Type 0
Past q b = b ≡ true → q.stage ≡ header_length

-- what some commands leave, with their names and without
abbrev Left : Progress → ℕ → Bool → List Command → Type 0
Left q n b cs =
    let r = after_all q (names_dropped cs) in
    Free q (names_dropped cs) × (d : Bool) × (after_all (named q n b) cs ≡ named r (n + 11 * names_among cs) d)

module _ (q : Progress) (n : ℕ) (b : Bool) (cs : List Command)
    (rest : (r : Progress) (m : ℕ) (d : Bool) → Past r d → Free (named r m d) cs → Left r m d cs) where
  -- a command that is no name
  other_left : (c : Command) → in_order (named q n b) c ≡ in_order q c → Past (after_of q c) (after_of q c).nameable
      → Free (named q n b) (c ∷ cs)
      → let r = after_all (after_of q c) (names_dropped cs) in
      ((command_cause_of q c ≡ Ok tt) × Free (after_of q c) (names_dropped cs))
      × (d : Bool) × (after_all (named q n b) (c ∷ cs) ≡ named r (n + 11 * names_among cs) d)
  other_left c alike past f =
      let same = later_after q n q.stage b c in
      let (free, d, left) = rest (after_of q c) n (after_of q c).nameable past (rw same at f.1) in
      ((sym (same_cause q n q.stage b c alike) ∙ f.0, free), d, rw same left)

  name_left : (a t : ℕ) → Past q b → Free (named q n b) (Command.Name a t ∷ cs) → Left q n b (Command.Name a t ∷ cs)
  unfolding after_of width_of
  name_left a t past f =
      let o =
      (in_order_parts (named q n b) (Command.Name a t) (allowed (named q n b) (Command.Name a t) f.0).ordered).1 in
      let late : q.stage ≡ header_length = past ((and-eq-true_iff b _).0 o).0 in
      let at : q.at + n + 11 ≡ q.at + (n + 11) = omega arith in
      let same : after_of (named q n b) (Command.Name a t) ≡ named q (n + 11) false = rw (at, late) in
      let (free, d, left) = rest q (n + 11) false (λ e. absurd (false≢true e)) (rw same at f.1) in
      let sum : n + 11 + 11 * names_among cs ≡ n + 11 * (1 + names_among cs) = omega arith in
      (free, d, rw (same, ← sum) left)

dropped_left : (cs : List Command) (q : Progress) (n : ℕ) (b : Bool) → Past q b → Free (named q n b) cs → Left q n b cs
unfolding after_of
dropped_left [] q n b past f = (tt, b, rw (add-zero n))
dropped_left (Command.Header c ∷ cs) q n b past f =
    other_left q n b cs (dropped_left cs) (Command.Header c) refl (λ e. absurd (false≢true e)) f
dropped_left (Command.Mark a k ∷ cs) q n b past f =
    other_left q n b cs (dropped_left cs) (Command.Mark a k) refl (λ e. refl) f
dropped_left (Command.Name a t ∷ cs) q n b past f = name_left q n b cs (dropped_left cs) a t past f
dropped_left (Command.End ∷ cs) q n b past f =
    other_left q n b cs (dropped_left cs) Command.End refl (λ e. absurd (false≢true e)) f

-- ---- what comes after them, and is no name

alike : (q : Progress) (n : ℕ) (b : Bool) (s : List ℕ) → eqb (get_or s 0 0) 0x06 ≡ false → Alike q (named q n b) s
alike q n b [] e c f = absurd (omega (arith, parse_room [] c f, width_positive c))
alike q n b (x ∷ s) e (Command.Header c) f = refl
alike q n b (x ∷ s) e (Command.Mark a k) f = refl
alike q n b (x ∷ s) e (Command.Name a t) f =
    absurd (eqb-false x 0x06 e (sym (byte_found x s (Command.Name a t) f)))
alike q n b (x ∷ s) e Command.End f = refl

pub read_with_names : ReadWithNames
unfolding read_of
read_with_names cs p rest fits admitted away =
    let bare = names_dropped cs in
    let f = admitted_free initial_progress p cs admitted in
    let (free, d, left) = dropped_left cs initial_progress 0 false (λ e. absurd (false≢true e)) f in
    let q = after_all initial_progress bare in
    let (l, few, old) = all_read cs rest fits f in
    let (m, some, new) = all_read bare rest (fit_dropped fits) free in
    let at : q.at ≡ 0 + length (encode_all bare) =
    all_at bare initial_progress q (free_admitted initial_progress bare free) in
    let from = length (encode_all bare) in
    let n = 11 * names_among cs in
    let after =
    read_later from n m l q q.stage d (marks_after [] bare) rest some few (omega arith) refl
    (alike q n d rest away) in
    old ∙ rw (left, zero-add, ← marks_dropped cs []) after ∙ sym (ap (moved from n) new)
