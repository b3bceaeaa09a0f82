-- Two different shapes have different readings: from what `shape_said` says of a shape the shape is found again.
-- Assumes nothing.
use Prim.Native.Nat.{ℕ}
use mathlib.Core.Path.{◌≡◌, refl, sym, ap, ◌∙◌}
use mathlib.Core.List.{List, [], ◌∷◌}
use Rattle.rules.specs.Shape as Rules
use Rattle.checks.specs.declared.shape.Successors.{Successors}
use Rattle.checks.specs.declared.shape.Successors.TheVariants.{One, Two}
use Rattle.checks.specs.declared.shape.Writes.{Writes}
use Rattle.checks.specs.declared.shape.Writes.TheVariants.{Nowhere, Byte, Word}
use Rattle.checks.specs.declared.shape.Shape.{Shape}
use Rattle.checks.specs.declared.shape.Shape.TheVariants as Shape
use Rattle.checks.specs.inner.Said.{successors_said, writes_said, shape_said}

-- an empty list is no reading
abbrev successors_from : List ℕ → Successors
successors_from [] = One 0
successors_from (a ∷ []) = One a
successors_from (a ∷ b ∷ s) = Two a b

successors_back : (n : Successors) → successors_from (successors_said n) ≡ n
successors_back (One a) = refl
successors_back (Two a b) = refl

abbrev writes_from : List ℕ → Writes
writes_from [] = Nowhere
writes_from (a ∷ []) = Byte a
writes_from (a ∷ b ∷ s) = Word a

writes_back : (w : Writes) → writes_from (writes_said w) ≡ w
writes_back Nowhere = refl
writes_back (Byte a) = refl
writes_back (Word a) = refl

abbrev shape_from : Rules.Shape → Shape
shape_from (Rules.ordinary o) =
    Shape.Ordinary (record {
      next = successors_from o.next;
      pushed = record { 0 = o.pushed };
      pulled = record { 0 = o.pulled };
      writes = writes_from o.written;
      cycles = record { 0 = o.cycles };
    })
shape_from (Rules.call c) =
    Shape.Call (record { target = c.target; after = c.after; cycles = record { 0 = c.cycles } })
shape_from (Rules.return cycles) = Shape.Return (record { 0 = cycles })
shape_from Rules.forbidden = Shape.Forbidden
shape_from Rules.nothing = Shape.Nothing

shape_back : (s : Shape) → shape_from (shape_said s) ≡ s
shape_back (Shape.Ordinary o) = rw (successors_back o.next, writes_back o.writes)
shape_back (Shape.Call c) = refl
shape_back (Shape.Return cycles) = refl
shape_back Shape.Forbidden = refl
shape_back Shape.Nothing = refl

pub shapes_apart : (a b : Shape) → shape_said a ≡ shape_said b → a ≡ b
shapes_apart a b e = sym (shape_back a) ∙ ap shape_from e ∙ shape_back b
