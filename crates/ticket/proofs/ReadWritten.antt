-- Reading the bytes of commands that state some fields gives these fields, or the refusal that the checks of the
-- commands give, with the same number and place.
-- Assumes nothing.
use Prim.Native.Nat.{ℕ, zero, suc, ◌<◌}
use mathlib.Core.Path.{◌≡◌, refl, ap, ◌∙◌}
use mathlib.Core.Bool.{Bool, true, false, not, ◌&&◌, and-eq-true_iff}
use mathlib.Core.List.{List, [], ◌∷◌, ◌++◌, append-nil}
use Rattle.commands.specs.Admit.{admit_of}
use native.Mathlib.Omega.{arith}
use lib.ListN.{length, length-append}
use borrow.Author.Tests.{not-true}
use Rattle.commands.specs.declared.command.Command.{Command}
use Rattle.answers.specs.declared.Refusal.{Refusal}
use Rattle.commands.specs.declared.header.Header.{Header}
use Rattle.commands.specs.declared.progress.Progress.{Progress}
use Rattle.commands.specs.Every.{none, more}
use Rattle.commands.specs.Bytes.{encode_of}
use Rattle.commands.specs.Progress.{initial_progress, ended}
use Rattle.commands.proofs.Coding.{length_encode, width_positive}
use Rattle.ticket.specs.declared.fields.Mark.{Mark}
use Rattle.ticket.specs.Fields.{Fields, marks_with}
use Rattle.ticket.specs.Read.{read_from, read_of}
use Rattle.ticket.specs.Write.{encode_all, bytes_of, commands_of, all_then, check_of}
use Rattle.ticket.specs.Spells.{StatesHeader, StatesMarks, States, stated}
use Rattle.ticket.specs.Spells.StatesHeader.{whole, homeless}
use Rattle.ticket.specs.Spells.{StatesMarks as Marks}
use Rattle.ticket.specs.RoundTrip.{AllFit, FitsFields, answered}
use Rattle.ticket.specs.inner.FitSoFar.{FitSoFar}
use Rattle.ticket.proofs.Stage.{ends, stage_after}
use Rattle.ticket.proofs.Step.{step}
use Rattle.ticket.proofs.Kept.{header_of_after, header_after, kept_of, kept}
use Rattle.ticket.proofs.Own.{own}
use Rattle.std.specs.Prelude.{Result, Ok, Err}

-- the commands left, none after the end (true), or before it (false): the last is the end, and no other is
data Closed : Bool → List Command → Type 0 where
  after : Closed true []
  before : {c : Command} {cs : List Command} → Closed (ends c) cs → Closed false (c ∷ cs)

closed_marks : {ms : List Mark} {cs : List Command} → StatesMarks ms cs → Closed false (cs ++ (Command.End ∷ []))
closed_marks Marks.none = before after
closed_marks (Marks.unnamed K) = before (closed_marks K)
closed_marks (Marks.named t n K) = before (before (closed_marks K))

-- none of some commands is the end
abbrev endless : List Command → Bool
endless [] = true
endless (c ∷ cs) = not (ends c) && endless cs

closed_after : (cs ds : List Command) → endless cs ≡ true → Closed false ds → Closed false (cs ++ ds)
closed_after [] ds e d = d
closed_after (c ∷ cs) ds e d =
    let t = (and-eq-true_iff (not (ends c)) _).0 e in
    before {c = c} {cs = cs ++ ds} (rw (not-true (ends c) t.0) (closed_after cs ds t.1 d))

endless_header : {h : Header} {hs : List Command} → StatesHeader h hs → endless hs ≡ true
endless_header whole = refl
endless_header (homeless z) = refl

closed : {f : Fields} {cs : List Command} → States f cs → Closed false cs
closed (stated {hs} H K) = closed_after hs _ (endless_header H) (closed_marks K)

-- what comes after a refused command changes nothing
pub refused_stays : (r : Refusal) (cs : List Command) → all_then (Err r) cs ≡ Err r
refused_stays r [] = refl
refused_stays r (c ∷ cs) = refused_stays r cs

shorter : (c : Command) (s : List ℕ) (n : ℕ) → length (encode_of c ++ s) < suc n → length s < n
shorter c s n l = omega (arith, length-append (encode_of c) s, length_encode c, width_positive c)

-- commands that all fit, before others that fit as far as they are admitted
pub fit_then : (a : Result Progress Refusal) {cs : List Command} (ds : List Command) → AllFit cs
    → FitSoFar (all_then a cs) ds → FitSoFar a (cs ++ ds)
fit_then a ds none fits = fits
fit_then (Err r) ds (more fit fits) rest = tt
fit_then (Ok p) ds (more {a = c} fit fits) rest = (fit, fit_then (admit_of p c) ds fits rest)

pub nothing_left : (a : Result Progress Refusal) → FitSoFar a []
nothing_left (Err r) = tt
nothing_left (Ok p) = tt

fit_so_far : (a : Result Progress Refusal) {cs : List Command} → AllFit cs → FitSoFar a cs
fit_so_far a {cs} fits = rw append-nil at (fit_then a [] fits (nothing_left (all_then a cs)))

-- every command has a byte or more, so more turns than bytes are enough
read_all : (n : ℕ) (p : Progress) (ms : List Mark) {b : Bool} {cs : List Command} → Closed b cs →
    FitSoFar (Ok p) cs →
    ended p ≡ b → length (encode_all cs) < n → read_from n p ms (encode_all cs)
    ≡ answered (all_then (Ok p) cs) (kept_of p.header ms cs)
unfolding read_from
read_all zero p ms d fits e l = absurd (omega arith)
read_all (suc n) p ms after fits e l = rw e
read_all (suc n) p ms (before {c} {cs} d) fits e l =
    step n p ms c (encode_all cs) e fits.0 (λ a. FitSoFar a cs) (λ a. answered (all_then a cs)
    (kept_of (header_after p.header c) (marks_with ms c) cs)) (λ r. rw refused_stays)
    (λ f. rw (← header_of_after p c) (read_all n _ _ d f (stage_after p c) (shorter c _ n l))) fits.1

-- of commands that fit as far as they are admitted
read_by_checks : (f : Fields) {cs : List Command} → States f cs → FitSoFar (Ok initial_progress) cs
    → read_of (encode_all cs) ≡ answered (all_then (Ok initial_progress) cs) f
unfolding read_of
read_by_checks f {cs} S fits =
    read_all _ initial_progress [] (closed S) fits refl (omega arith)
    ∙ ap (answered (all_then (Ok initial_progress) cs)) (kept f S)

pub read_checked : (f : Fields) → FitSoFar (Ok initial_progress) (commands_of f)
    → read_of (bytes_of f) ≡ answered (check_of f) f
unfolding bytes_of check_of
read_checked f fits = read_by_checks f (own f) fits

-- and of commands that all fit
pub read_stated : (f : Fields) {cs : List Command} → States f cs → AllFit cs → read_of (encode_all cs)
    ≡ answered (all_then (Ok initial_progress) cs) f
read_stated f S fits = read_by_checks f S (fit_so_far (Ok initial_progress) fits)

pub read_written : (f : Fields) → FitsFields f → read_of (bytes_of f) ≡ answered (check_of f) f
unfolding bytes_of check_of
read_written f fits = read_stated f (own f) fits
