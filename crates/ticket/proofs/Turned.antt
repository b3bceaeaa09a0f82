-- A turn of the reading that is not refused: a command is found, no cause is against it, and what it leaves comes next.
-- Assumes nothing.
use Prim.Native.Nat.{ℕ}
use mathlib.Core.Path.{◌≡◌, refl, ap}
use mathlib.Core.List.{List}
use Rattle.commands.specs.declared.command.Command.{Command}
use Rattle.answers.specs.declared.Cause.{Cause}
use Rattle.commands.specs.declared.parse.ParseError.{ParseError}
use Rattle.commands.specs.declared.parse.ParseError.TheVariants.{Unknown, Cut}
use Rattle.commands.specs.declared.progress.Progress.{Progress}
use Rattle.commands.specs.Admit.{admit_by, admit_of}
use Rattle.commands.specs.Bytes.{parse_of}
use Rattle.commands.specs.Cause.{command_cause_of}
use Rattle.commands.specs.Progress.{after_of}
use Rattle.ticket.specs.Read.{admitted_as, parsed_as, next_command_of}
use Rattle.std.specs.Prelude.{Result, Ok, Err}

pub record Turned (s : List ℕ) (p q : Progress) (c : Command) : Type 0 where
  pub found : parse_of s ≡ Ok c
  pub free : command_cause_of p c ≡ Ok tt
  pub next : q ≡ after_of p c

module _ (s : List ℕ) (p q : Progress) (c : Command) where
  by_cause : (d : Command) → parse_of s ≡ Ok d → (v : Result Unit Cause) → command_cause_of p d ≡ v
      → admitted_as (admit_by v p d) d ≡ Ok (q, c) → Turned s p q c
  by_cause d f (Ok u) e t =
      let pair : ◌≡◌ {A = Progress × Command} (after_of p d, d) (q, c) = cc in
      let same : d ≡ c = ap (λ (x : Progress × Command). x.1) pair in
      let left : after_of p d ≡ q = ap (λ (x : Progress × Command). x.0) pair in
      record { found = cc; free = rw (← same) e; next = cc }
  by_cause d f (Err x) e t = record { found = cc; free = cc; next = cc }

  by_parsed : (d : Result Command ParseError) → parse_of s ≡ d → parsed_as d p ≡ Ok (q, c) → Turned s p q c
  unfolding admit_of
  by_parsed (Err Unknown) e t = record { found = cc; free = cc; next = cc }
  by_parsed (Err Cut) e t = record { found = cc; free = cc; next = cc }
  by_parsed (Ok d) e t = by_cause d e _ refl t

  pub turned : next_command_of s p ≡ Ok (q, c) → Turned s p q c
  unfolding next_command_of
  turned t = by_parsed _ refl t
