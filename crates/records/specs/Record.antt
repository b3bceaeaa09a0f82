-- S-records, stated without causes and their order: what a line is, what a file is, and which image it names (document
-- 02, a).
-- Assumes nothing.
use Rattle.std.specs.Prelude.{ℕ, suc, ◌+◌, ◌-◌, ◌*◌, ◌%◌, ◌≤◌, ◌<◌, ◌≡◌, List, [], ◌∷◌, ◌++◌, length, get_or}
use Rattle.commands.specs.declared.header.Window.{Window}
use Rattle.commands.specs.Every.{Every}
use Rattle.ticket.specs.Rules.{In}

-- a hexadecimal digit of either case in ASCII, and its value
pub data Digit : ℕ → ℕ → Type 0 where
  decimal : {v : ℕ} → v ≤ 9 → Digit (0x30 + v) v
  upper : {v : ℕ} → v ≤ 5 → Digit (0x41 + v) (10 + v)
  lower : {v : ℕ} → v ≤ 5 → Digit (0x61 + v) (10 + v)

-- two digits are a byte, the higher first
pub data Hex : List ℕ → List ℕ → Type 0 where
  none : Hex [] []
  more : {c d h l : ℕ} {cs bs : List ℕ} → Digit c h → Digit d l → Hex cs bs → Hex (c ∷ d ∷ cs) ((16 * h + l) ∷ bs)

-- LF, with an optional CR before it
pub data LineEnd : List ℕ → Type 0 where
  lf : LineEnd (0x0a ∷ [])
  cr_lf : LineEnd (0x0d ∷ 0x0a ∷ [])

abbrev pub sum : List ℕ → ℕ
sum [] = 0
sum (b ∷ bs) = b + sum bs

-- a line of this type, with this address and these data bytes: `S`, the type, and in hexadecimal the count of the bytes
-- after it, the address, the data, and the checksum, which is the ones' complement of the sum's last eight bits
pub record Record (type address : ℕ) (bytes line : List ℕ) : Type 0 where
  pub high : ℕ
  pub low : ℕ
  pub checksum : ℕ
  pub digits : List ℕ
  pub ending : List ℕ
  pub spelled : Hex digits ((length bytes + 3) ∷ high ∷ low ∷ (bytes ++ (checksum ∷ [])))
  pub address_is : address ≡ 256 * high + low
  pub checksum_is : checksum ≡ 255 - (length bytes + 3 + high + low + sum bytes) % 256
  pub ended : LineEnd ending
  pub line_is : line ≡ 0x53 ∷ type ∷ (digits ++ ending)

-- a byte that a line gives, and its address
pub record Given : Type 0 where
  pub address : ℕ
  pub byte : ℕ

-- those of an S1 line
abbrev pub given_from : ℕ → List ℕ → List Given
given_from a [] = []
given_from a (b ∷ bs) = record { address = a; byte = b } ∷ given_from (suc a) bs

-- The lines of a file from one on that n S1 lines come before, and all that they give. The types are `0`, `1`, `5` and
-- `9`. S9 is the last, and there is no other; S5 has the number of S1 lines before it, in place of an address; S5 and
-- S9 have no data.
pub data Records : ℕ → List ℕ → List Given → Type 0 where
  s0 : {n a : ℕ} {bs l s : List ℕ} {g : List Given} → Record 0x30 a bs l → Records n s g → Records n (l ++ s) g
  s1 : {n a : ℕ} {bs l s : List ℕ} {g : List Given} → Record 0x31 a bs l → Records (suc n) s g
      → Records n (l ++ s) (given_from a bs ++ g)
  s5 : {n : ℕ} {l s : List ℕ} {g : List Given} → Record 0x35 n [] l → Records n s g → Records n (l ++ s) g
  s9 : {n a : ℕ} {l : List ℕ} → Record 0x39 a [] l → Records n l []

-- no address is given twice
pub data Once : List Given → Type 0 where
  none : Once []
  more : {x : Given} {g : List Given} → Every (λ y. y.address ≡ x.address → ⊥) g → Once g → Once (x ∷ g)

-- a byte is among those given
pub data Gives (x : Given) : List Given → Type 0 where
  here : {g : List Given} → Gives x (x ∷ g)
  there : {y : Given} {g : List Given} → Gives x g → Gives x (y ∷ g)

-- the file names the image of a code window: each address of the window is given once, with the image's byte, and no
-- other address is given
pub record Names (code : Window) (file image : List ℕ) : Type 0 where
  pub given : List Given
  pub records : Records 0 file given
  pub once : Once given
  pub inside : Every (λ x. In code x.address) given
  pub whole : length image ≡ code.length
  pub bytes : (i : ℕ) → i < code.length → Gives (record { address = code.start + i; byte = get_or image i 0 }) given
