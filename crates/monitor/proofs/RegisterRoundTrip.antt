-- The registers and their bytes say the same, both ways: no register is lost, and none stands in another's place.
-- Assumes nothing.
use mathlib.Core.Path.{◌≡◌, sym}
use mathlib.Core.List.{List}
use Prim.Native.Nat.{ℕ, ◌+◌, ◌*◌, ◌/◌, ◌%◌, ◌<◌}
use native.Mathlib.Omega.{arith}
use lib.ListN.{length, get_or}
use Rattle.registers.specs.declared.Registers.{Registers}
use Rattle.monitor.specs.RegisterBytes.{register_size, packed, unpacked}
use Rattle.monitor.proofs.Elements.{all_elements}
use Rattle.monitor.specs.BigEndian.{word_in}

-- a word is its two bytes
pub halves : (w : ℕ) → w / 256 * 256 + w % 256 ≡ w
halves w = omega arith

pub unpacked_packed : (r : Registers) → unpacked (packed r) ≡ r
unfolding packed unpacked
unpacked_packed r = simp halves

pub lowest_word : (r : Registers) → word_in (packed r) 11 ≡ r.lowest
unfolding packed
lowest_word r = halves r.lowest

module _ (bs : List ℕ) (bytes : (i : ℕ) → get_or bs i 0 < 256) where
  high : (i : ℕ) → word_in bs i / 256 ≡ get_or bs i 0
  high i = omega (arith, bytes (i + 1))

  low : (i : ℕ) → word_in bs i % 256 ≡ get_or bs (i + 1) 0
  low i = omega (arith, bytes (i + 1))

  pub packed_unpacked : length bs ≡ register_size → packed (unpacked bs) ≡ bs
  unfolding packed unpacked
  packed_unpacked h = simp (high, low) (sym (all_elements bs register_size h))
