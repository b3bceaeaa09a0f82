-- Every element of a list has a property: what "each" and "every" mean in document 01's rules.
-- Assumes nothing.
use Rattle.std.specs.Prelude.{List, [], ◌∷◌}

pub data Every {ℓ} {A : Type ℓ} (P : A → Type 0) : List A → Type ℓ where
  none : Every P []
  more : {a : A} {l : List A} → P a → Every P l → Every P (a ∷ l)
