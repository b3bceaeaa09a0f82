-- A property of every element of a list, taken apart and carried over to another.
-- Assumes nothing.
use mathlib.Core.List.{List, ◌∷◌}
use Rattle.commands.specs.Every.{Every, none, more}

pub first : {A : Type 0} {P : A → Type 0} {a : A} {l : List A} → Every P (a ∷ l) → P a × Every P l
first (more r s) = (r, s)

pub every_map : {A : Type 0} {P Q : A → Type 0} {l : List A} → ((a : A) → P a → Q a) → Every P l → Every Q l
every_map h none = none
every_map h (more p ps) = more (h _ p) (every_map h ps)
