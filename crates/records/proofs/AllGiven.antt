-- Whether each cell is given, cell by cell; and the cells before any is.
-- Assumes nothing.
use Rattle.std.proofs.Common.{◌≡◌, ℕ, ◌<◌, true, ltb, List, length, get_or, refl}
use Rattle.std.proofs.Math.ListN.{length-replicate, get_or-replicate}
use Rattle.std.proofs.lemmas.List.Recursion.{and_at, and_from_places}
use borrow.Author.Tests.{lt-ltb, ltb-true}
use Rattle.records.specs.Read.{blank_cells, all_given}

-- a cell that is given is a byte
pub given_byte : (cs : List ℕ) (i : ℕ) → all_given cs ≡ true → i < length cs → get_or cs i 0 < 256
given_byte cs i e h = ltb-true _ _ (and_at all_given (λ c. ltb c 256) refl (λ _ _. refl) cs i 0 h e)

-- cells that are bytes are given
pub at_all_given : (xs : List ℕ) → ((i : ℕ) → i < length xs → get_or xs i 0 < 256) → all_given xs ≡ true
at_all_given xs h =
    and_from_places all_given (λ c. ltb c 256) refl (λ _ _. refl) xs 0 (λ i l. lt-ltb _ _ (h i l))

pub blank_size : length blank_cells ≡ 4096
blank_size = length-replicate {A = ℕ} 4096 256

pub blank_at : (j : ℕ) → j < 4096 → get_or blank_cells j 0 ≡ 256
blank_at j h = get_or-replicate {A = ℕ} 4096 j 256 0 h
