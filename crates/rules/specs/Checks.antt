-- The verdict: document 01's causes in its order, each a test; the first that fails is the answer, with its number and
-- place.
-- Assumes nothing.
use Rattle.std.specs.Prelude.{ℕ, ◌+◌, Bool, true, false, cond, ◌&&◌, List, [], ◌∷◌, ◌++◌, eqb, leb, length}
use Rattle.std.specs.Prelude.{Option, Some, None, Ok, Err}
use Rattle.commands.specs.Header.{past_of, holds}
use Rattle.commands.specs.declared.command.Claim.{Claim}
use Rattle.ticket.specs.declared.fields.Mark.{Mark}
use Rattle.ticket.specs.Fields.{Fields, ReadOutcome, read, refused}
use Rattle.ticket.specs.Read.{refusal, read_of}
use Rattle.answers.specs.Verdict.{Verdict}
use Rattle.rules.specs.Shape.{Ordinary, Shape, ordinary, call, return, forbidden, nothing, shape_of}
use Rattle.rules.specs.Shape.{instruction_size}
use Rattle.rules.specs.Marks.{claim_at, image_from}
use Rattle.answers.specs.declared.Cause.{Cause}
use Rattle.answers.specs.declared.Cause.TheVariants.{BadImage, BadMark, KeptOut, WritesOutside, BadPull, NotMarked}
use Rattle.answers.specs.declared.Cause.TheVariants.{DepthsDisagree, CostTooLow, NeedTooLow, BadEntry, OverLimit}
use Rattle.answers.specs.declared.Cause.TheVariants.{StackTooSmall}

-- a test, with its cause and its place
pub record Check : Type 0 where
  pub cause : Cause
  pub place : ℕ
  pub passes : Bool

abbrev pub check : Cause → ℕ → Bool → Check
check c p b = record { cause = c; place = p; passes = b }

-- the first that fails, or what follows if none does
abbrev pub first_failing : List Check → Verdict → Verdict
first_failing [] v = v
first_failing (c ∷ cs) v = cond c.passes (first_failing cs v) (Err (refusal c.cause c.place))

abbrev pub all : (ℕ → Bool) → List ℕ → Bool
all p [] = true
all p (a ∷ l) = p a && all p l

abbrev pub is_marked : Option Claim → Bool
is_marked None = false
is_marked (Some c) = true

-- a test of the claim at an address; where there is none, cause 14 or 18 says so
abbrev pub on_mark : (Claim → Bool) → Option Claim → Bool
on_mark p None = true
on_mark p (Some c) = p c

-- the claim c at a successor of an ordinary instruction, against the mark's own claim k
abbrev pub depth_agrees : Claim → Ordinary → Claim → Bool
depth_agrees k o c = eqb (c.depth.0 + o.pulled) (k.depth.0 + o.pushed)

abbrev pub cost_covers : Claim → ℕ → Claim → Bool
cost_covers k cycles c = leb (cycles + c.cost.0) k.cost.0

abbrev pub need_covers : Claim → Ordinary → Claim → Bool
need_covers k o c = leb (o.pushed + c.need.0) (k.need.0 + o.pulled)

abbrev pub has_depth : ℕ → Claim → Bool
has_depth d c = eqb c.depth.0 d

-- the claims t at a call's target and b at the address after it, against k
abbrev pub cost_covers_call : Claim → ℕ → Claim → Claim → Bool
cost_covers_call k cycles t b = leb (cycles + t.cost.0 + b.cost.0) k.cost.0

-- a claim at a call's target, under the two bytes of the return address
abbrev pub need_covers_target : Claim → Claim → Bool
need_covers_target k c = leb (2 + c.need.0) k.need.0

abbrev pub need_covers_after : Claim → Claim → Bool
need_covers_after k c = leb c.need.0 k.need.0

abbrev pub exists : Shape → Bool
exists (ordinary o) = true
exists (call c) = true
exists (return cycles) = true
exists forbidden = true
exists nothing = false

abbrev pub allowed : Shape → Bool
allowed (ordinary o) = true
allowed (call c) = true
allowed (return cycles) = true
allowed forbidden = false
allowed nothing = true

module _ (f : Fields) (k : Claim) where
  abbrev pub writes_in_data : Shape → Bool
  writes_in_data (ordinary o) = all (holds f.header.«data») o.written
  writes_in_data (call c) = true
  writes_in_data (return cycles) = true
  writes_in_data forbidden = true
  writes_in_data nothing = true

  abbrev pub pulls_within_depth : Shape → Bool
  pulls_within_depth (ordinary o) = leb o.pulled k.depth.0
  pulls_within_depth (call c) = true
  pulls_within_depth (return cycles) = eqb k.depth.0 0
  pulls_within_depth forbidden = true
  pulls_within_depth nothing = true

  abbrev pub next_marked : Shape → Bool
  next_marked (ordinary o) = all (λ a. is_marked (claim_at f.marks a)) o.next
  next_marked (call c) = is_marked (claim_at f.marks c.target) && is_marked (claim_at f.marks c.after)
  next_marked (return cycles) = true
  next_marked forbidden = true
  next_marked nothing = true

  abbrev pub depths_agree : Shape → Bool
  depths_agree (ordinary o) =
      all (λ a. on_mark (depth_agrees k o) (claim_at f.marks a)) o.next
  depths_agree (call c) =
      on_mark (has_depth 0) (claim_at f.marks c.target) &&
      on_mark (has_depth k.depth.0) (claim_at f.marks c.after)
  depths_agree (return cycles) = true
  depths_agree forbidden = true
  depths_agree nothing = true

  abbrev pub costs_cover : Shape → Bool
  costs_cover (ordinary o) =
      all (λ a. on_mark (cost_covers k o.cycles) (claim_at f.marks a)) o.next
  costs_cover (call c) =
      on_mark (λ t. on_mark (λ b. cost_covers_call k c.cycles t b) (claim_at f.marks c.after))
      (claim_at f.marks c.target)
  costs_cover (return cycles) = leb cycles k.cost.0
  costs_cover forbidden = true
  costs_cover nothing = true

  abbrev pub needs_cover : Shape → Bool
  needs_cover (ordinary o) =
      all (λ a. on_mark (need_covers k o) (claim_at f.marks a)) o.next
  needs_cover (call c) =
      on_mark (need_covers_target k) (claim_at f.marks c.target) &&
      on_mark (need_covers_after k) (claim_at f.marks c.after)
  needs_cover (return cycles) = true
  needs_cover forbidden = true
  needs_cover nothing = true

-- causes 10 to 17, at a mark; `inside` says that the instruction does not leave the code window
abbrev pub checks_by : Fields → Mark → Shape → Bool → List Check
checks_by f m s inside =
    check BadMark m.address (exists s && inside)
    ∷ check KeptOut m.address (allowed s)
    ∷ check WritesOutside m.address (writes_in_data f m.claim s)
    ∷ check BadPull m.address (pulls_within_depth f m.claim s)
    ∷ check NotMarked m.address (next_marked f m.claim s)
    ∷ check DepthsDisagree m.address (depths_agree f m.claim s)
    ∷ check CostTooLow m.address (costs_cover f m.claim s)
    ∷ check NeedTooLow m.address (needs_cover f m.claim s)
    ∷ []

unfoldable pub checks_at : Fields → List ℕ → Mark → List Check
checks_at f image m =
    let bytes = image_from f.header.code image m.address in
    checks_by f m (shape_of bytes m.address) (leb (m.address + instruction_size bytes) (past_of f.header.code))

-- in rising address, as the marks are
abbrev pub checks_of_marks : Fields → List ℕ → List Mark → List Check
checks_of_marks f image [] = []
checks_of_marks f image (m ∷ ms) = checks_at f image m ++ checks_of_marks f image ms

abbrev pub whole_checks : Fields → List Check
whole_checks f =
    let entry = f.header.entry in
    let claim = claim_at f.marks entry in
    check BadEntry entry (is_marked claim && on_mark (has_depth 0) claim)
    ∷ check OverLimit entry (on_mark (λ c. leb c.cost.0 f.header.limit.0) claim)
    ∷ check StackTooSmall entry (on_mark (λ c. leb (c.need.0 + 2) f.header.stack.length) claim)
    ∷ []

abbrev pub checks_of : Fields → List ℕ → List Check
checks_of f image =
    check BadImage 0 (eqb (length image) f.header.code.length)
    ∷ (checks_of_marks f image f.marks ++ whole_checks f)

-- where no check fails there is a claim at the entry
abbrev pub accept_of : ℕ → Option Claim → Verdict
accept_of entry None = Err (refusal BadEntry entry)
accept_of entry (Some c) = Ok (record { entry = entry; cost = c.cost; stack = record { 0 = c.need.0 + 2 } })

unfoldable pub verdict_on : Fields → List ℕ → Verdict
verdict_on f image =
    first_failing (checks_of f image) (accept_of f.header.entry (claim_at f.marks f.header.entry))

abbrev pub verdict_by : ReadOutcome → List ℕ → Verdict
verdict_by (refused r) image = Err r
verdict_by (read f) image = verdict_on f image

-- of a ticket's bytes and an image's: 1 to 8 and 29 from reading, then 9, then 10 to 17 at each mark, then 18 to 20
unfoldable pub verdict_of : List ℕ → List ℕ → Verdict
verdict_of ticket image = verdict_by (read_of ticket) image
