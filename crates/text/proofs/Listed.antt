-- The listing by what is found at the first two bytes, and that it depends on five bytes alone.
-- Assumes nothing.
use mathlib.Core.Path.{◌≡◌, refl}
use mathlib.Core.Bool.{Bool, true, false, cond}
use mathlib.Core.Logic.{◌⊎◌, inl, inr}
use Prim.Native.Nat.{ℕ}
use lib.Dec.{eqb, ltb}
use borrow.Author.Tests.{eq-eqb, ne_eqb}
use Rattle.opcodes.proofs.Says.{Said, there_says, nowhere_says}
use Rattle.opcodes.specs.Tables.{cost_at}
use Rattle.opcodes.specs.Decode.{Bytes, place_in, opcode_size}
use Rattle.opcodes.specs.inner.Lookup.{found_of}
use Rattle.opcodes.specs.declared.lookup.Found.{Found}
use Rattle.std.specs.Prelude.{Some, None}
use Rattle.text.specs.declared.listing.Listing.{Listing}
use Rattle.text.specs.Listing.{bytes_text, no_listing, listing_at, listing_of, five}

-- an opcode has one byte or two
pub one_or_two : (p : ℕ) → (opcode_size p ≡ 1) ⊎ (opcode_size p ≡ 2)
unfolding opcode_size
one_or_two p = by (ltb p 256)
  where
    by : (b : Bool) → (◌≡◌ {A = ℕ} (cond b 1 2) 1) ⊎ (◌≡◌ {A = ℕ} (cond b 1 2) 2)
    by true = inl refl
    by false = inr refl

module _ (f : Bytes) where
  pub nowhere : found_of (f 0) (f 1) ≡ None → (pc : ℕ) → listing_of pc f ≡ no_listing f
  unfolding listing_of
  nowhere h pc = simp (eq-eqb _ _ (nowhere_says _ _ h))

  module _ {o : Found} (h : found_of (f 0) (f 1) ≡ Some o) where
    says : Said (f 0) (f 1) o
    says = there_says _ _ o h

    pub size : (o.size ≡ 1) ⊎ (o.size ≡ 2)
    size = rw (← says.1) (one_or_two o.place)

    pub there : (pc : ℕ) → listing_of pc f ≡ listing_at pc o.place o.size f
    unfolding listing_of
    there pc = simp (says.0, ne_eqb _ _ says.3, says.1)

-- by what the two tests of the definition say
abbrev by_tests : (none small : Bool) (pc place : ℕ) → Bytes → Listing
by_tests none small pc place f = cond none (no_listing f) (listing_at pc place (cond small 1 2) f)

-- so a memory or an image is listed by the five bytes from an address on
pub by_five : (pc : ℕ) (f : Bytes) → listing_of pc f ≡ listing_of pc (five (f 0) (f 1) (f 2) (f 3) (f 4))
unfolding listing_of bytes_text opcode_size
by_five pc f = by (eqb (cost_at (place_in f)) 0) (ltb (place_in f) 256)
  where
    by : (none small : Bool) → by_tests none small pc (place_in f) f
        ≡ by_tests none small pc (place_in f) (five (f 0) (f 1) (f 2) (f 3) (f 4))
    by true small = refl
    by false true = refl
    by false false = refl
