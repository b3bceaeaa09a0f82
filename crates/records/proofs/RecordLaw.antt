-- A line is a record exactly where it is read as one: its bytes, its address, its data and its checksum.
-- Assumes nothing.
use Prim.Native.Nat.{ℕ, ◌+◌, ◌-◌, ◌%◌, ◌≤◌, ◌<◌}
use mathlib.Core.Path.{◌≡◌, refl, sym, ap, ◌∙◌}
use mathlib.Core.Bool.{true, and-eq-true_iff}
use mathlib.Core.List.{List, [], ◌∷◌, ◌++◌}
use Rattle.std.specs.Prelude.{Some}
use native.Mathlib.Omega.{arith}
use native.Mathlib.Numerals.{add-one}
use lib.ListN.{length, get_or, take, drop, length-append}
use lib.Seq.{take-suc, take-length, take-append_seam, length-take-le}
use borrow.Author.Tests.{eq-eqb, le-leb}
use Rattle.commands.specs.Every.{none, more}
use Rattle.commands.specs.Number.{AllBytes}
use Rattle.commands.proofs.Every.{first}
use Rattle.ticket.proofs.Says.{leb_says, eqb_says}
use Rattle.records.specs.Record.{sum, Record}
use Rattle.records.specs.Read.{bytes_of, address_of, data_of, typed, formed}
use Rattle.records.proofs.Spelling.{spelled, Spelled, read_spelled, hex_bytes}

sum_append : (xs ys : List ℕ) → sum (xs ++ ys) ≡ sum xs + sum ys
sum_append [] ys = omega arith
sum_append (x ∷ xs) ys = omega (arith, sum_append xs ys)

-- the bytes of a record
abbrev pub encoded : ℕ → ℕ → ℕ → List ℕ → List ℕ
encoded high low checksum bytes = (length bytes + 3) ∷ high ∷ low ∷ (bytes ++ (checksum ∷ []))

module _ (high low checksum : ℕ) (bytes : List ℕ) where
  pub encoded_length : length (encoded high low checksum bytes) ≡ length bytes + 4
  encoded_length = simp length-append (omega arith)

  pub encoded_data : data_of (encoded high low checksum bytes) ≡ bytes
  encoded_data =
      let n : length (encoded high low checksum bytes) - 4 ≡ length bytes = omega (arith, encoded_length) in
      rw n (take-append_seam bytes (checksum ∷ []))

  pub encoded_sum : sum (encoded high low checksum bytes) ≡ length bytes + 3 + high + low + sum bytes + checksum
  encoded_sum = omega (arith, sum_append bytes (checksum ∷ []))

-- a record is read: its bytes, and what the tests ask of them
module _ {type address : ℕ} {bytes line : List ℕ} (r : Record type address bytes line) where
  abbrev pub inside : List ℕ
  inside = encoded r.high r.low r.checksum bytes

  pub record_read : bytes_of (drop 2 line) ≡ Some inside
  record_read = rw r.line_is (spelled r.spelled r.ended)

  pub record_begins : (get_or line 0 0 ≡ 0x53) × (get_or line 1 0 ≡ type)
  record_begins = rw r.line_is (refl, refl)

  pub record_address : address_of inside ≡ address
  record_address = sym r.address_is

  pub record_sum : sum inside % 256 ≡ 255
  record_sum = omega (arith, encoded_sum r.high r.low r.checksum bytes, r.checksum_is)

  pub record_formed : (n : ℕ) → typed type n inside ≡ true → formed type n inside ≡ true
  unfolding formed
  record_formed n t =
      let size = encoded_length r.high r.low r.checksum bytes in
      simp (
        le-leb 4 (length inside) (omega (arith, size)),
        eq-eqb (length bytes + 3 + 1) (length inside) (omega (arith, size)),
        t,
      )

-- bytes with a last one
last_apart : (s : List ℕ) (n : ℕ) → length s ≡ n + 1 → s ≡ take n s ++ (get_or s n 0 ∷ [])
last_apart s n e = sym (rw e at (take-length s)) ∙ rw (add-one n) (take-suc s n 0 (omega arith))

-- the bytes of a line that is read as a record
pub record Formed (bs : List ℕ) : Type 0 where
  pub high : ℕ
  pub low : ℕ
  pub checksum : ℕ
  pub is : bs ≡ encoded high low checksum (data_of bs)

-- of count, address and what follows
of_parts : (c h l : ℕ) (s : List ℕ) → 1 ≤ length s → c ≡ length s + 2 → Formed (c ∷ h ∷ l ∷ s)
of_parts c h l s some_left count =
    let m = length (c ∷ h ∷ l ∷ s) - 4 in
    let size : length s ≡ m + 1 = omega arith in
    let tail : s ≡ take m s ++ (get_or s m 0 ∷ []) = last_apart s m size in
    let first : c ≡ length (take m s) + 3 = omega (arith, length-take-le m s (omega arith)) in
    record { high = h; low = l; checksum = get_or s m 0; is = cc }

pub formed_encoded : (t n : ℕ) (bs : List ℕ) → formed t n bs ≡ true → Formed bs × (typed t n bs ≡ true)
unfolding formed
formed_encoded t n bs e =
    let h = simp (and-eq-true_iff, leb_says, eqb_says) at e in (by_bytes bs h.0 h.1.0, h.1.1)
  where
    by_bytes : (bs : List ℕ) → 4 ≤ length bs → get_or bs 0 0 + 1 ≡ length bs → Formed bs
    by_bytes [] l c = absurd (omega arith)
    by_bytes (a ∷ []) l c = absurd (omega arith)
    by_bytes (a ∷ b ∷ []) l c = absurd (omega arith)
    by_bytes (a ∷ h ∷ low ∷ s) l c = of_parts a h low s (omega arith) (omega arith)

complement : (all others checksum : ℕ) → all ≡ others + checksum → all % 256 ≡ 255 → checksum < 256
    → checksum ≡ 255 - others % 256
complement all others checksum e c b = omega arith

last_byte : (xs : List ℕ) (c : ℕ) → AllBytes (xs ++ (c ∷ [])) → c < 256
last_byte [] c (more b none) = b
last_byte (x ∷ xs) c (more b bs) = last_byte xs c bs

-- a line that is read as a record is one
pub is_record : (line bs : List ℕ) → get_or line 0 0 ≡ 0x53 → bytes_of (drop 2 line) ≡ Some bs → Formed bs
    → sum bs % 256 ≡ 255 → Record (get_or line 1 0) (address_of bs) (data_of bs) line
unfolding bytes_of
is_record [] bs s e f c = absurd cc
is_record (x ∷ []) bs s e f c = absurd cc
is_record (x ∷ t ∷ rest) bs s e f c = of_spelled (read_spelled rest bs e)
  where
    of_spelled : Spelled rest bs → Record t (address_of bs) (data_of bs) (x ∷ t ∷ rest)
    of_spelled p =
        record {
          high = f.high;
          low = f.low;
          checksum = f.checksum;
          digits = p.digits;
          ending = p.ending;
          spelled = rw f.is at p.hex;
          address_is = ap address_of f.is;
          checksum_is =
              let all = ap sum f.is ∙ encoded_sum f.high f.low f.checksum (data_of bs) in
              let bytes = rw f.is at (hex_bytes p.hex) in
              let last = last_byte (data_of bs) f.checksum (first (first (first bytes).1).1).1 in
              complement (sum bs) _ f.checksum all c last;
          ended = p.ended;
          line_is = rw (s, ← p.all);
        }
