-- What a line's bytes are by what stands at a place: its end, two digits, or neither.
-- Assumes nothing.
use Rattle.std.proofs.Common.{◌≡◌, ℕ, ◌≤◌, ◌<◌, true, false, true≢false, sym, List, [], ◌∷◌, length, get_or, drop}
use Rattle.std.proofs.Common.{Some, None, refl, arith}
use Rattle.lists.specs.Digit.{digit_of}
use Rattle.records.specs.Read.{ends_of, pair_of, before, bytes_of}

pub bytes_ended : (s : List ℕ) → ends_of s ≡ true → bytes_of s ≡ Some []
unfolding bytes_of
bytes_ended [] e = absurd (true≢false (sym e))
bytes_ended (c ∷ []) e = rw e
bytes_ended (c ∷ d ∷ s) e = rw e

pub bytes_short : (s : List ℕ) → ends_of s ≡ false → length s < 2 → bytes_of s ≡ None
unfolding bytes_of
bytes_short [] e h = refl
bytes_short (c ∷ []) e h = rw e
bytes_short (c ∷ d ∷ s) e h = absurd (omega arith)

pub bytes_pair : (s : List ℕ) → ends_of s ≡ false → 2 ≤ length s → bytes_of s
    ≡ before (pair_of (digit_of (get_or s 0 0)) (digit_of (get_or s 1 0))) (bytes_of (drop 2 s))
unfolding bytes_of
bytes_pair [] e h = absurd (omega arith)
bytes_pair (c ∷ []) e h = absurd (omega arith)
bytes_pair (c ∷ d ∷ s) e h = rw e
