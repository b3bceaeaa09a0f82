-- The writer's checks, of commands one after another: what one mark more does, where they leave the offset, and what
-- the writer answers.
-- Assumes nothing.
use Prim.Native.Nat.{ℕ, ◌+◌, ◌≤◌, ◌<◌}
use mathlib.Core.Path.{◌≡◌, refl, sym, ◌∙◌}
use mathlib.Core.List.{List, [], ◌∷◌, ◌++◌}
use native.Mathlib.Nat.{zero-add}
use native.Mathlib.Omega.{arith}
use lib.ListN.{length, length-append}
use borrow.Author.Tests.{le-leb, lt-leb}
use Rattle.commands.specs.declared.command.Command.{Command}
use Rattle.answers.specs.declared.Cause.TheVariants.{OutputTooSmall}
use Rattle.answers.specs.declared.Refusal.{Refusal}
use Rattle.commands.specs.declared.progress.Progress.{Progress}
use Rattle.commands.specs.Progress.{initial_progress}
use Rattle.commands.specs.Admit.{admit_of, then_of}
use Rattle.commands.proofs.Coding.{length_encode, after_at}
use Rattle.ticket.specs.Fields.{Fields}
use Rattle.ticket.specs.Write.{commands_of, encode_all, bytes_of, all_then}
use Rattle.ticket.specs.Write.{check_of, write_of, output_of}
use Rattle.lists.specs.Splice.{spliced}
use Rattle.ticket.proofs.Stage.{by_admission}
use Rattle.ticket.proofs.ReadWritten.{refused_stays}
use Rattle.std.specs.Prelude.{Result, Ok, Err}

pub all_append : (a : Result Progress Refusal) (cs ds : List Command) → all_then a (cs ++ ds)
    ≡ all_then (all_then a cs) ds
all_append a [] ds = refl
all_append a (c ∷ cs) ds = all_append (then_of a c) cs ds

-- one command more
pub then_one : (p : Progress) (c : Command) (cs : List Command) {a all : Result Progress Refusal}
    → all_then (Ok p) (c ∷ cs) ≡ all → a ≡ admit_of p c → all_then a cs ≡ all
then_one p c cs s e = rw e s

-- ---- the offset after commands that are admitted

pub not_next : {r : Refusal} {q : Progress} → Err r ≡ Ok q → ⊥
not_next e = let z : ◌≡◌ {A = ℕ} 0 1 = cc in omega arith

pub all_at : (cs : List Command) (p q : Progress) → all_then (Ok p) cs ≡ Ok q → q.at ≡ p.at + length (encode_all cs)
all_at [] p q e = let same : p.at ≡ q.at = cc in omega arith
all_at (c ∷ cs) p q e =
    by_admission p c (λ a. all_then a cs ≡ Ok q → q.at ≡ p.at + length (encode_all (c ∷ cs)))
    (λ r h n. absurd (not_next (sym (refused_stays r cs) ∙ n)))
    (λ n. simp length-append (omega (arith, all_at cs _ q n, after_at p c, length_encode c))) e

pub checked_at : (f : Fields) (p : Progress) → check_of f ≡ Ok p → p.at ≡ length (bytes_of f)
unfolding check_of bytes_of
checked_at f p e = omega (arith, all_at (commands_of f) initial_progress p e)

-- ---- what the writer answers, and the output afterwards

module _ (f : Fields) (out : List ℕ) where
  pub write_refused : (r : Refusal) → check_of f ≡ Err r →
      (Err r ≡ write_of f (length out)) × (out ≡ output_of f out)
  unfolding write_of output_of
  write_refused r e = simp e (refl, refl)

  module _ (p : Progress) (e : check_of f ≡ Ok p) where
    pub write_short : length out < p.at → (Err (record { cause = OutputTooSmall; place = p.at })
        ≡ write_of f (length out)) × (out ≡ output_of f out)
    unfolding write_of output_of
    write_short short = simp (e, ← checked_at f p e, lt-leb _ _ short) (refl, refl)

    pub write_whole : p.at ≤ length out → (Ok p.at ≡ write_of f (length out))
        × (spliced out 0 (bytes_of f) ≡ output_of f out)
    unfolding write_of output_of spliced
    write_whole room = simp (e, ← checked_at f p e, le-leb _ _ room, zero-add) (refl, refl)
