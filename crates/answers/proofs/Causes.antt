-- The numbers of the causes: none is 0, the highest is 29, and no two causes share one.
-- Assumes nothing.
use Prim.Native.Nat.{ℕ, ◌≤◌}
use mathlib.Core.Path.{◌≡◌}
use mathlib.Core.Bool.{false}
use mathlib.Core.List.{List, [], ◌∷◌}
use native.Mathlib.Omega.{arith}
use borrow.Author.Tests.{ne_eqb}
use lib.Dec.{eqb}
use lib.ListN.{get_or}
use Rattle.answers.specs.declared.Cause.{Cause}
use Rattle.answers.specs.declared.Cause.TheVariants.{UnknownCommand, TicketCut, OutOfOrder, OutOfRange, WindowEdge}
use Rattle.answers.specs.declared.Cause.TheVariants.{WindowsShare, MarkOutside, AfterEnd, BadImage, BadMark, KeptOut}
use Rattle.answers.specs.declared.Cause.TheVariants.{WritesOutside, BadPull, NotMarked, DepthsDisagree, CostTooLow}
use Rattle.answers.specs.declared.Cause.TheVariants.{NeedTooLow, BadEntry, OverLimit, StackTooSmall, BadLength}
use Rattle.answers.specs.declared.Cause.TheVariants.{NoInstruction, Waits, OutputTooSmall, BadRecord, BadChecksum}
use Rattle.answers.specs.declared.Cause.TheVariants.{BadAddress, BadHome}
use Rattle.answers.specs.Cause.{number_of}

pub number_positive : (c : Cause) → 1 ≤ number_of c
number_positive c = search arith

pub not_zero : (c : Cause) → eqb (number_of c) 0 ≡ false
not_zero c = ne_eqb _ 0 (λ z. omega (arith, z, number_positive c))

pub number_small : (c : Cause) → number_of c ≤ 29
number_small c = search arith

-- by their numbers; 0 and 28 are none's
abbrev causes : List Cause
causes =
    BadHome ∷ UnknownCommand ∷ TicketCut ∷ OutOfOrder ∷ OutOfRange ∷ WindowEdge ∷ WindowsShare ∷ MarkOutside ∷ AfterEnd
    ∷ BadImage ∷ BadMark ∷ KeptOut ∷ WritesOutside ∷ BadPull ∷ NotMarked ∷ DepthsDisagree ∷ CostTooLow ∷ NeedTooLow
    ∷ BadEntry ∷ OverLimit ∷ StackTooSmall ∷ BadLength ∷ NoInstruction ∷ Waits ∷ OutputTooSmall ∷ BadRecord
    ∷ BadChecksum ∷ BadAddress ∷ []

-- the cause of a number
abbrev pub cause_from : ℕ → Cause
cause_from n = get_or causes n BadHome

pub cause_back : (c : Cause) → cause_from (number_of c) ≡ c
cause_back c = grind arith
