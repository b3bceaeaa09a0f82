-- A number's digits one by one.
-- Assumes nothing.
use Rattle.std.proofs.Common.{◌≡◌, ℕ, ◌+◌, ◌≤◌, ◌<◌, arith, List, [], ◌∷◌, length, drop, get_or, Some, None, refl}
use Rattle.std.proofs.Common.{add-one, drop-cons, drop_of_length-le}
use Rattle.std.specs.Prelude.{option_and_then}
use Rattle.lists.specs.Digit.{digit_of}
use Rattle.arguments.specs.Number.{with_digit, spelled_from, number_of}

module _ (b most : ℕ) where
  pub no_digits : (s : List ℕ) → length s ≡ 0 → number_of b most s ≡ None
  unfolding number_of
  no_digits [] h = refl
  no_digits (c ∷ cs) h = absurd (omega arith)

  -- a text with digits
  pub some_digits : (s : List ℕ) → (length s ≡ 0 → ⊥) → spelled_from b most 0 s ≡ number_of b most s
  unfolding number_of
  some_digits [] h = absurd (h refl)
  some_digits (c ∷ cs) h = refl

  -- the next digit
  pub next_digit : (s : List ℕ) (i v : ℕ) → i < length s → spelled_from b most v (drop i s)
      ≡ option_and_then (λ w. spelled_from b most w (drop (i + 1) s)) (with_digit b most v (digit_of (get_or s i 0)))
  unfolding spelled_from
  next_digit s i v h = rw (drop-cons s i 0 h, add-one)

  -- none left
  pub last_digit : (s : List ℕ) (i v : ℕ) → length s ≤ i → spelled_from b most v (drop i s) ≡ Some v
  unfolding spelled_from
  last_digit s i v h = rw (drop_of_length-le s {i = i} h)
