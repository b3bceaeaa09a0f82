-- The register record as the monitor's 13 bytes: A, B, X, Y, SP, PC, flags and the lowest SP, high byte first (document
-- 01, "The machine"; document 02, b).
-- Assumes nothing.
use Rattle.std.specs.Prelude.{ℕ, ◌/◌, ◌%◌, List, [], ◌∷◌, get_or}
use Rattle.registers.specs.declared.Registers.{Registers}
use Rattle.monitor.specs.BigEndian.{word_in}

abbrev pub register_size : ℕ
register_size = 13

unfoldable pub packed : Registers → List ℕ
packed r =
    r.a ∷ r.b ∷ r.x / 256 ∷ r.x % 256 ∷ r.y / 256 ∷ r.y % 256
    ∷ r.sp / 256 ∷ r.sp % 256 ∷ r.pc / 256 ∷ r.pc % 256 ∷ r.flags
    ∷ r.lowest / 256 ∷ r.lowest % 256 ∷ []

unfoldable pub unpacked : List ℕ → Registers
unpacked bs =
    record {
      x = word_in bs 2;
      y = word_in bs 4;
      sp = word_in bs 6;
      pc = word_in bs 8;
      lowest = word_in bs 11;
      a = get_or bs 0 0;
      b = get_or bs 1 0;
      flags = get_or bs 10 0;
    }
