-- An instruction as text, by the bytes from its address on. It is decoded by the definitions that the step decodes
-- with.
-- Assumes nothing.
use Rattle.std.specs.Prelude.{ℕ, ◌+◌, List, [], ◌∷◌, ◌++◌, Bool, cond, eqb, take, get_or}
use Rattle.registers.specs.Word.{wrapping_add}
use Rattle.opcodes.specs.Tables.{cost_at, length_at, action_at, mode_at}
use Rattle.opcodes.specs.Decode.{Bytes, opcode_size, place_in}
use Rattle.text.specs.declared.listing.Listing.{Listing}
use Rattle.lists.specs.Ascii.{ascii}
use Rattle.text.specs.Text.{padded}
use Rattle.text.specs.Number.{byte_hex}
use Rattle.text.specs.Mnemonic.{mnemonic_of}
use Rattle.text.specs.Operand.{operand_text}

-- bytes in hexadecimal, a space between
abbrev pub spaced : List ℕ → List ℕ
spaced [] = []
spaced (b ∷ []) = byte_hex b
spaced (b ∷ c ∷ l) = byte_hex b ++ (ascii " " ++ spaced (c ∷ l))

-- the first n of the five bytes that the decoder looks at
unfoldable pub bytes_text : ℕ → Bytes → List ℕ
bytes_text n f = padded 14 (spaced (take n (f 0 ∷ f 1 ∷ f 2 ∷ f 3 ∷ f 4 ∷ [])))

-- a byte's column in the code: its digits, or spaces where the instruction has ended
abbrev pub column_of : Bool → ℕ → List ℕ
column_of shown b = cond shown (byte_hex b) (ascii "  ")

-- no instruction: the first byte alone
abbrev pub no_listing : Bytes → Listing
no_listing f = record { bytes = bytes_text 1 f; mnemonic = padded 5 (ascii "-"); operand = padded 17 [] }

-- the instruction of a place in the opcode maps, at the address pc; its operand's bytes start at offset n
abbrev pub listing_at : (pc place n : ℕ) → Bytes → Listing
listing_at pc place n f =
    record {
      bytes = bytes_text (length_at place) f;
      mnemonic = mnemonic_of (action_at place) (mode_at place);
      operand = operand_text (mode_at place) (f n) (f (n + 1)) (f (n + 2)) (wrapping_add pc (length_at place));
    }

-- no instruction where the table has 0
unfoldable pub listing_of : ℕ → Bytes → Listing
listing_of pc f = let p = place_in f in cond (eqb (cost_at p) 0) (no_listing f) (listing_at pc p (opcode_size p) f)

-- five bytes
abbrev pub five : (a b c d e : ℕ) → Bytes
five a b c d e = λ i. get_or (a ∷ b ∷ c ∷ d ∷ e ∷ []) i 0
