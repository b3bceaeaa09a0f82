-- What is read is stated by the bytes that it was read from, and every rule holds of it.
-- Assumes nothing.
use mathlib.Core.Path.{◌≡◌, refl, subst}
use Prim.Native.Nat.{ℕ, ◌+◌, ◌≤◌}
use native.Mathlib.Omega.{arith}
use mathlib.Core.Bool.{true}
use mathlib.Core.List.{List, ◌++◌, append-nil}
use lib.ListN.{length}
use lib.Seq.{append_snoc}
use borrow.Author.Tests.{eqb-true}
use Rattle.commands.specs.declared.command.Command.{Command}
use Rattle.commands.specs.declared.progress.Progress.{Progress}
use Rattle.commands.specs.Rows.{header_length}
use Rattle.commands.specs.Progress.{ended}
use Rattle.commands.specs.Bytes.{width_of}
use Rattle.commands.specs.Every.{none, more}
use Rattle.commands.specs.Number.{AllBytes}
use Rattle.commands.proofs.Coding.{encode_parse, fits_parsed}
use Rattle.commands.proofs.Digits.{bytes_drop}
use Rattle.commands.proofs.Sound.{bounds}
use Rattle.ticket.specs.declared.fields.Mark.{Mark}
use Rattle.ticket.specs.Fields.{Fields, read, in_file_order}
use Rattle.ticket.specs.Read.{read_of}
use Rattle.ticket.specs.Write.{encode_all}
use Rattle.ticket.specs.Spells.{StatesHeader, States, stated, Spells}
use Rattle.ticket.specs.Spells.{StatesHeader as HeaderStated}
use Rattle.ticket.specs.RoundTrip.{AllFit, FitsFields}
use Rattle.ticket.specs.Rules.{Readable}
use Rattle.ticket.proofs.Fitting.{stated_fits}
use Rattle.ticket.proofs.SoFar.{Headed, whole, homeless, SoFar, none_so_far, states_marked, length_ordered}
use Rattle.ticket.proofs.SoFar.{Consistent, consistent_start, said_next, consistent_next}
use Rattle.ticket.proofs.Free.{Free}
use Rattle.ticket.proofs.Readable.{readable_says}
use Rattle.ticket.proofs.Course.{Course, course}
use Rattle.ticket.proofs.Course.Course.{done, goes}

encoded : {p : Progress} {ms : List Mark} {s : List ℕ} {cs : List Command} {f : Fields} → Course p ms s cs f →
    AllBytes s → encode_all cs ≡ s
encoded (done e) a = refl
encoded (goes {s} {c} d e r) a = rw (encoded r (bytes_drop (width_of c) a), encode_parse s c a d)

fit : {p : Progress} {ms : List Mark} {s : List ℕ} {cs : List Command} {f : Fields} → Course p ms s cs f → AllBytes s →
    AllFit cs
fit (done e) a = none
fit (goes {s} {c} d e r) a = more (fits_parsed s c a d) (fit r (bytes_drop (width_of c) a))

free : {p : Progress} {ms : List Mark} {s : List ℕ} {cs : List Command} {f : Fields} → Course p ms s cs f → Free p cs
free (done e) = tt
free (goes d e r) = (e, free r)

-- after the end the header's commands are all there, or all but home's
header_states : {hs : List Command} (p : Progress) → p.stage ≡ header_length + 1 → Headed p hs
    → StatesHeader p.header hs
header_states p e whole = rw e HeaderStated.whole
header_states p e (homeless l z) = HeaderStated.homeless z

ended_states : {ms : List Mark} {cs : List Command} (p : Progress) → ended p ≡ true → SoFar p ms cs
    → States (record { header = p.header; marks = in_file_order ms }) cs
ended_states {ms} p e S =
    let at_end : p.stage ≡ header_length + 1 = eqb-true p.stage (header_length + 1) e in
    rw (← S.all, e) (stated (header_states p at_end S.headed) (states_marked S.marked))

said : {p : Progress} {ms : List Mark} {s : List ℕ} {cs ds : List Command} {f : Fields} → Course p ms s cs f →
    AllFit cs → Consistent p ms → SoFar p ms ds → States f (ds ++ cs)
said (done {p} e) none k S = rw append-nil (ended_states p e S)
said {ds} (goes {p} {ms} {c} {cs} {f} d e r) (more fit fits) k S =
    subst (States f) (append_snoc ds c cs) (said r fits (consistent_next p ms k c e) (said_next p S k c e fit))

few_marks : {p : Progress} {ms : List Mark} {s : List ℕ} {cs : List Command} {f : Fields} → Course p ms s cs f →
    Consistent p ms → length f.marks ≤ 4096
few_marks (done e) k = rw length_ordered (omega (arith, k.counted, bounds k.sound))
few_marks (goes {p} {ms} {c} d e r) k = few_marks r (consistent_next p ms k c e)

module _ (s : List ℕ) (f : Fields) (r : read_of s ≡ read f) where
  pub few : length f.marks ≤ 4096
  few = few_marks (course s f r).1 consistent_start

  module _ (a : AllBytes s) where
    fit_read : AllFit (course s f r).0
    fit_read = fit (course s f r).1 a

    states_read : States f (course s f r).0
    states_read = said (course s f r).1 fit_read consistent_start none_so_far

    pub spells_read : Spells f s
    spells_read = record { commands = _; states = states_read; bytes = encoded (course s f r).1 a }

    pub fits_read : FitsFields f
    fits_read = stated_fits f states_read fit_read

    pub readable_read : Readable f
    readable_read = (readable_says f states_read).0 (free (course s f r).1)
