-- A list is its elements, one by one.
-- Assumes nothing.
use mathlib.Core.Path.{◌≡◌, ap, ◌∙◌}
use mathlib.Core.List.{List, [], ◌∷◌}
use Prim.Native.Nat.{ℕ, zero, suc, ◌+◌, ◌≤◌}
use native.Mathlib.Omega.{arith}
use lib.ListN.{length, get_or, drop, drop_of_length-le}
use lib.Seq.{drop-cons}

-- n elements from i on
abbrev pub elements : List ℕ → ℕ → ℕ → List ℕ
elements l i zero = []
elements l i (suc n) = get_or l i 0 ∷ elements l (suc i) n

from : (l : List ℕ) (n i : ℕ) → length l ≡ i + n → drop i l ≡ elements l i n
from l zero i h = let past : length l ≤ i = omega arith in drop_of_length-le l past
from l (suc n) i h =
    drop-cons l i 0 (omega arith) ∙ ap (λ (t : List ℕ). get_or l i 0 ∷ t) (from l n (suc i) (omega arith))

pub all_elements : (l : List ℕ) (n : ℕ) → length l ≡ n → l ≡ elements l 0 n
all_elements l n h = from l n 0 (omega arith)
