-- An entry of a lent table whose numbers stand for the entries of a list.
-- Assumes nothing.
use mathlib.Core.Path.{◌≡◌, sym, ap, ◌∙◌}
use mathlib.Core.List.{List, map}
use Prim.Native.Nat.{ℕ}
use lib.ListN.{get_or, get_or-map}

pub lent : {A : Type 0} (f : ℕ → A) (t : List ℕ) (xs : List A) → map f t ≡ xs → (p : ℕ) →
    f (get_or t p 0) ≡ get_or xs p (f 0)
lent f t xs e p = sym (get_or-map f t p 0) ∙ ap (λ l. get_or l p (f 0)) e
