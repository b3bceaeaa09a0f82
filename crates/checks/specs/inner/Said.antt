-- What the code's shape says, in the words of the rules.
-- Assumes nothing.
use Rattle.std.specs.Prelude.{ℕ, List, [], ◌∷◌}
use Rattle.registers.specs.Word.{wrapping_add}
use Rattle.registers.specs.declared.Cycles.{Cycles}
use Rattle.rules.specs.Shape as Rules
use Rattle.checks.specs.declared.shape.Successors.{Successors}
use Rattle.checks.specs.declared.shape.Successors.TheVariants.{One, Two}
use Rattle.checks.specs.declared.shape.Writes.{Writes}
use Rattle.checks.specs.declared.shape.Writes.TheVariants.{Nowhere, Byte, Word}
use Rattle.checks.specs.declared.shape.Ordinary.{Ordinary}
use Rattle.checks.specs.declared.shape.Call.{Call}
use Rattle.checks.specs.declared.shape.Shape.{Shape}
use Rattle.checks.specs.declared.shape.Shape.TheVariants as Shape

abbrev pub successors_said : Successors → List ℕ
successors_said (One a) = a ∷ []
successors_said (Two a b) = a ∷ b ∷ []

-- the second byte of a word stands after the first, at a wrapped address
abbrev pub writes_said : Writes → List ℕ
writes_said Nowhere = []
writes_said (Byte a) = a ∷ []
writes_said (Word a) = a ∷ wrapping_add a 1 ∷ []

-- of an instruction that only goes on
abbrev pub onward_of : Successors → Cycles → Ordinary
onward_of next cycles =
    record { next = next; pushed = record { 0 = 0 }; pulled = record { 0 = 0 }; writes = Nowhere; cycles = cycles }

abbrev pub ordinary_said : Ordinary → Rules.Ordinary
ordinary_said o =
    record {
      next = successors_said o.next;
      pushed = o.pushed.0;
      pulled = o.pulled.0;
      written = writes_said o.writes;
      cycles = o.cycles.0;
    }

abbrev pub call_said : Call → Rules.Call
call_said c = record { target = c.target; after = c.after; cycles = c.cycles.0 }

abbrev pub shape_said : Shape → Rules.Shape
shape_said (Shape.Ordinary o) = Rules.ordinary (ordinary_said o)
shape_said (Shape.Call c) = Rules.call (call_said c)
shape_said (Shape.Return cycles) = Rules.return cycles.0
shape_said Shape.Forbidden = Rules.forbidden
shape_said Shape.Nothing = Rules.nothing
