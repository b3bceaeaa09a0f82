-- The fixed columns of a line: an instruction, and the registers.
-- Assumes nothing.
use Rattle.std.specs.Prelude.{ℕ, Bool, cond, List, [], ◌∷◌, ◌++◌}
use Prim.Native.Char.{code}
use Prim.Native.String.{String}
use Rattle.registers.specs.Flags.{bit, low}
use Rattle.registers.specs.declared.Registers.{Registers}
use Rattle.text.specs.declared.listing.Listing.{Listing}
use Rattle.lists.specs.Ascii.{ascii}
use Rattle.text.specs.Number.{byte_hex, hex_of}

-- the address, the bytes, the mnemonic and the operand, a space between
unfoldable pub listing_text : ℕ → Listing → List ℕ
listing_text pc l = hex_of pc ++ (ascii " " ++ (l.bytes ++ (ascii " " ++ (l.mnemonic ++ (ascii " " ++ l.operand)))))

-- a flag's letter where its bit is set, else a dash
abbrev pub flag_of : Bool → ℕ → ℕ
flag_of on letter = cond on letter (code "-")

-- S X H I N Z V C, from bit 7 to bit 0
unfoldable pub flags_text : ℕ → List ℕ
flags_text n =
    flag_of (bit 7 n) (code "S") ∷ flag_of (bit 6 n) (code "X") ∷ flag_of (bit 5 n) (code "H") ∷
    flag_of (bit 4 n) (code "I")
    ∷ flag_of (bit 3 n) (code "N") ∷ flag_of (bit 2 n) (code "Z") ∷ flag_of (bit 1 n) (code "V") ∷
    flag_of (low n) (code "C") ∷ []

-- a register's name and its digits
abbrev pub byte_field : String → ℕ → List ℕ
byte_field name v = ascii name ++ byte_hex v

abbrev pub word_field : String → ℕ → List ℕ
word_field name v = ascii name ++ hex_of v

unfoldable pub registers_text : Registers → List ℕ
registers_text r =
    byte_field " A=" r.a ++ (byte_field " B=" r.b ++ (word_field " X=" r.x ++
    (word_field " Y=" r.y ++ (word_field " SP=" r.sp ++ (ascii " " ++ flags_text r.flags)))))
