-- Bytes that are read are the commands of a course, one after another, with no cause against any.
-- Assumes nothing.
use mathlib.Core.Path.{◌≡◌, refl}
use mathlib.Core.Bool.{Bool, true, false}
use Prim.Native.Nat.{ℕ, zero, suc}
use native.Mathlib.Omega.{arith}
use mathlib.Core.List.{List, [], ◌∷◌}
use lib.ListN.{length, drop}
use Rattle.commands.specs.declared.command.Command.{Command}
use Rattle.answers.specs.declared.Refusal.{Refusal}
use Rattle.commands.specs.declared.progress.Progress.{Progress}
use Rattle.commands.specs.Bytes.{parse_of, width_of}
use Rattle.commands.specs.Cause.{command_cause_of}
use Rattle.commands.specs.Progress.{initial_progress, after_of, ended}
use Rattle.ticket.specs.declared.fields.Mark.{Mark}
use Rattle.ticket.specs.Fields.{Fields, read, refused, marks_with, in_file_order}
use Rattle.ticket.specs.Read.{NextCommand, next_command_of, end_of, ReadRest, read_onward, if_ended, read_from, read_of}
use Rattle.ticket.proofs.Turned.{turned}
use Rattle.std.specs.Prelude.{Ok, Err}

-- from progress and its marks, over some bytes, by some commands, to the fields
pub data Course : Progress → List Mark → List ℕ → List Command → Fields → Type 0 where
  done : {p : Progress} {ms : List Mark} → ended p ≡ true → Course p ms [] []
      (record { header = p.header; marks = in_file_order ms })
  goes : {p : Progress} {ms : List Mark} {s : List ℕ} {c : Command} {cs : List Command} {f : Fields} →
      parse_of s ≡ Ok c → command_cause_of p c ≡ Ok tt
      → Course (after_of p c) (marks_with ms c) (drop (width_of c) s) cs f → Course p ms s (c ∷ cs) f

abbrev pub Commanded : Progress → List Mark → List ℕ → Fields → Type 0
Commanded p ms s f = (cs : List Command) × Course p ms s cs f

unread : {r : Refusal} {f : Fields} → refused r ≡ read f → ⊥
unread e = let z : ◌≡◌ {A = ℕ} 0 1 = cc in omega arith

-- one turn, with what is known of the rest
module _ (p : Progress) (ms : List Mark) (f : Fields) (rest : ReadRest)
    (known : (q : Progress) (ks : List Mark) (t : List ℕ) → rest q ks t ≡ read f → Commanded q ks t f) where
  at_end : ended p ≡ true → (s : List ℕ) → end_of p ms s ≡ read f → Commanded p ms s f
  at_end e [] r =
      let same : f ≡ record { header = p.header; marks = in_file_order ms } = cc in
      ([], rw same (done e))
  at_end e (b ∷ s) r = absurd (unread r)

  module _ (s : List ℕ) where
    at_command : (t : NextCommand) → next_command_of s p ≡ t → read_onward t ms s rest ≡ read f → Commanded p ms s f
    at_command (Err x) e r = absurd (unread r)
    at_command (Ok (q, c)) e r =
        let t = turned s p q c e in
        let k = known (after_of p c) (marks_with ms c) (drop (width_of c) s) (rw t.next at r) in
        (c ∷ k.0, goes t.found t.free k.1)

    at_turn : (b : Bool) → ended p ≡ b → if_ended b p ms s rest ≡ read f → Commanded p ms s f
    at_turn true e r = at_end e s r
    at_turn false e r = at_command _ refl r

commanded : (n : ℕ) (f : Fields) (p : Progress) (ms : List Mark) (s : List ℕ) → read_from n p ms s ≡ read f →
    Commanded p ms s f
unfolding read_from
commanded zero f p ms s r = absurd (unread r)
commanded (suc n) f p ms s r = at_turn p ms f (read_from n) (commanded n f) s _ refl r

pub course : (s : List ℕ) (f : Fields) → read_of s ≡ read f → Commanded initial_progress [] s f
unfolding read_of
course s f r = commanded (suc (length s)) f initial_progress [] s r
