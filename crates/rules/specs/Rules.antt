-- Every ticket rule, stated without order or computation (document 01, "Rules at a mark", and causes 9 to 20; those at
-- reading are `Readable`).
-- Assumes nothing.
use Rattle.std.specs.Prelude.{ℕ, ◌+◌, ◌≤◌, ◌≡◌, List, length, Some}
use Rattle.answers.specs.declared.Acceptance.{Acceptance}
use Rattle.commands.specs.declared.command.Claim.{Claim}
use Rattle.ticket.specs.declared.fields.Mark.{Mark}
use Rattle.ticket.specs.Fields.{Fields}
use Rattle.ticket.specs.Spells.{Spells}
use Rattle.ticket.specs.RoundTrip.{FitsFields}
use Rattle.commands.specs.Every.{Every}
use Rattle.ticket.specs.Rules.{In, Readable}
use Rattle.rules.specs.Shape.{Ordinary, Call, Shape, ordinary, call, return, forbidden, nothing, shape_of}
use Rattle.rules.specs.Shape.{instruction_size}
use Rattle.rules.specs.Marks.{claim_at, image_from}

-- at a successor of an ordinary instruction
pub record Follows (ms : List Mark) (k : Claim) (o : Ordinary) (a : ℕ) : Type 0 where
  pub there : Claim
  pub marked : claim_at ms a ≡ Some there
  pub depth : there.depth.0 + o.pulled ≡ k.depth.0 + o.pushed
  pub cost : o.cycles + there.cost.0 ≤ k.cost.0
  pub need : o.pushed + there.need.0 ≤ k.need.0 + o.pulled

pub record OrdinaryRules (f : Fields) (k : Claim) (o : Ordinary) : Type 0 where
  pub stores : Every (In f.header.«data») o.written
  pub pulls : o.pulled ≤ k.depth.0
  pub follows : Every (Follows f.marks k o) o.next

pub record CallRules (f : Fields) (k : Claim) (c : Call) : Type 0 where
  pub there : Claim
  pub back : Claim
  pub there_marked : claim_at f.marks c.target ≡ Some there
  pub back_marked : claim_at f.marks c.after ≡ Some back
  pub there_depth : there.depth.0 ≡ 0
  pub back_depth : back.depth.0 ≡ k.depth.0
  pub cost : c.cycles + there.cost.0 + back.cost.0 ≤ k.cost.0
  pub there_need : 2 + there.need.0 ≤ k.need.0
  pub back_need : back.need.0 ≤ k.need.0

-- the return address does not count as pulled
pub record ReturnRules (k : Claim) (cycles : ℕ) : Type 0 where
  pub depth : k.depth.0 ≡ 0
  pub cost : cycles ≤ k.cost.0

abbrev pub RulesBy : Fields → Claim → Shape → Type 0
RulesBy f k (ordinary o) = OrdinaryRules f k o
RulesBy f k (call c) = CallRules f k c
RulesBy f k (return cycles) = ReturnRules k cycles
RulesBy f k forbidden = ⊥
RulesBy f k nothing = ⊥

pub record RulesAt (f : Fields) (image : List ℕ) (m : Mark) : Type 0 where
  pub within : m.address + instruction_size (image_from f.header.code image m.address) ≤ f.header.code.start +
      f.header.code.length
  pub rules : RulesBy f m.claim (shape_of (image_from f.header.code image m.address) m.address)

pub record Accepted (f : Fields) (image : List ℕ) : Type 0 where
  pub readable : Readable f
  pub image_length : length image ≡ f.header.code.length
  pub each : Every (RulesAt f image) f.marks
  pub start : Claim
  pub start_marked : claim_at f.marks f.header.entry ≡ Some start
  pub start_depth : start.depth.0 ≡ 0
  pub start_cost : start.cost.0 ≤ f.header.limit.0
  pub start_need : start.need.0 + 2 ≤ f.header.stack.length

-- what an acceptance says: the ticket's bytes state fields of which every rule holds, and the answer is the entry, its
-- cost and its need + 2
pub record Certified (ticket image : List ℕ) (answer : Acceptance) : Type 0 where
  pub fields : Fields
  pub bytes : Spells fields ticket
  pub fits : FitsFields fields
  pub accepted : Accepted fields image
  pub entry_is : answer.entry ≡ fields.header.entry
  pub cost_is : answer.cost ≡ accepted.start.cost
  pub stack_is : answer.stack.0 ≡ accepted.start.need.0 + 2
