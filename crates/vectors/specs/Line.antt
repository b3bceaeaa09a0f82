-- The shape of a line, `K C BEFORE AFTER N MEMORY W WRITES`: which places hold a space, which a digit, and how long it
-- is (docs/SIMULATORS.md, "The file").
-- Assumes nothing.
use Rattle.std.specs.Prelude.{◌≡◌, ℕ, ◌+◌, ◌-◌, ◌*◌, ◌%◌, ◌<◌, ◌≤◌, Bool, true, cond, ◌||◌, List, length, ◌==◌, nat_lt}
use Rattle.std.specs.Prelude.{slice_index}
use Rattle.std.specs.Option.{is_some}
use Rattle.vectors.specs.Hex.{digit_of, hex_byte_in}

-- K, C, N and W; the bytes listed start at 63, and W stands after them
abbrev pub kind_in : List ℕ → ℕ
kind_in s = hex_byte_in s 0

abbrev pub listed_in : List ℕ → ℕ
listed_in s = hex_byte_in s 60

abbrev pub written_in : List ℕ → ℕ
written_in s = hex_byte_in s (63 + 7 * listed_in s)

-- whether a space is due at a place of a line that lists n bytes: after K, C, BEFORE, AFTER and N, after each byte
-- listed, and before each byte written
unfoldable pub space_due : ℕ → ℕ → Bool
space_due n i =
    cond (nat_lt i 63) (i == 2 || (i == 5 || (i == 32 || (i == 59 || i == 62))))
    (cond (nat_lt i (63 + 7 * n)) ((i - 63) % 7 == 6) ((i - (63 + 7 * n)) % 7 == 2))

-- whether a byte is the space or the digit that is due at its place
unfoldable pub is_due : ℕ → ℕ → ℕ → Bool
is_due n i c = cond (space_due n i) (c == 32) (is_some (digit_of c))

abbrev pub Due : ℕ → List ℕ → ℕ → Type 0
Due n s i = is_due n i (slice_index s i) ≡ true

abbrev pub AllDue : ℕ → List ℕ → Type 0
AllDue n s = (i : ℕ) → i < length s → Due n s i

-- a line of the format: a kind up to 3, 1 to 16 bytes listed, at most 9 written
pub record Shaped (s : List ℕ) : Type 0 where
  pub kind : kind_in s ≤ 3
  pub some : 1 ≤ listed_in s
  pub listed : listed_in s ≤ 16
  pub written : written_in s ≤ 9
  pub long : length s ≡ 65 + 7 * listed_in s + 7 * written_in s
  pub due : AllDue (listed_in s) s
