-- One byte put at an offset of an output.
-- Assumes nothing.
use mathlib.Core.Path.{◌≡◌}
use Prim.Native.Nat.{ℕ, ◌+◌, ◌<◌}
use native.Mathlib.Numerals.{add-one}
use native.Mathlib.Omega.{arith}
use mathlib.Core.List.{List, [], ◌∷◌}
use lib.ListN.{length, set}
use lib.Seq.{set_split}
use Rattle.lists.specs.Splice.{spliced}
use Rattle.lists.proofs.Splice.{Placed}

pub set_spliced : (out : List ℕ) (at x : ℕ) → at < length out → set out at x ≡ spliced out at (x ∷ [])
unfolding spliced
set_spliced out at x h = rw (set_split out at x h, add-one)

-- a byte
pub placed_byte : (out : List ℕ) (at x : ℕ) → at < length out → Placed out at (x ∷ []) (set out at x) (at + 1)
placed_byte out at x h = record { bytes = set_spliced out at x h; end = omega arith }
