-- One turn of the reading at the bytes of a command.
-- Assumes nothing.
use Prim.Native.Nat.{ℕ, suc}
use mathlib.Core.Path.{◌≡◌}
use mathlib.Core.Bool.{false}
use mathlib.Core.List.{List, ◌++◌}
use lib.Seq.{drop_at}
use Rattle.commands.specs.declared.command.Command.{Command}
use Rattle.answers.specs.declared.Refusal.{Refusal}
use Rattle.commands.specs.declared.progress.Progress.{Progress}
use Rattle.commands.specs.Bytes.{encode_of, width_of}
use Rattle.commands.specs.Progress.{after_of, ended}
use Rattle.commands.specs.Admit.{admit_of}
use Rattle.commands.specs.Fits.{Fits}
use Rattle.commands.proofs.Coding.{length_encode, parse_encode}
use Rattle.ticket.specs.declared.fields.Mark.{Mark}
use Rattle.ticket.specs.Fields.{ReadOutcome, refused, marks_with}
use Rattle.ticket.specs.Read.{admitted_as, read_onward, next_command_of, read_from}
use Rattle.ticket.proofs.Stage.{by_admission}
use Rattle.std.specs.Prelude.{Result, Ok, Err}

module _ (n : ℕ) (p : Progress) (ms : List Mark) (c : Command) (s : List ℕ) where
  -- by what the command's admission gives
  turn : ended p ≡ false → Fits c → read_from (suc n) p ms (encode_of c ++ s)
      ≡ read_onward (admitted_as (admit_of p c) c) ms (encode_of c ++ s) (λ q ks t. read_from n q ks t)
  unfolding read_from next_command_of
  turn e fits = simp (e, parse_encode c s fits)

  -- to show that the reading answers k of the admission, of which K is known: k of a refusal is that refusal, and what
  -- is left is read as k says
  pub step : ended p ≡ false → Fits c → (K : Result Progress Refusal → Type 0)
      (k : Result Progress Refusal → ReadOutcome) → ((r : Refusal) → refused r ≡ k (Err r)) →
      (K (Ok (after_of p c)) → read_from n (after_of p c) (marks_with ms c) s ≡ k (Ok (after_of p c))) →
      K (admit_of p c) → read_from (suc n) p ms (encode_of c ++ s) ≡ k (admit_of p c)
  step e fits K k stops goes known =
      rw (turn e fits) (by_admission p c (λ a. K a → read_onward (admitted_as a c) ms (encode_of c ++ s)
      (λ q ks t. read_from n q ks t) ≡ k a) (λ r e x. stops r)
      (λ x. rw (drop_at (encode_of c) s (width_of c) (length_encode c)) (goes x)) known)
