-- A line of a file: what it leaves for the next, where it is a record, and only there.
-- Assumes nothing.
use Prim.Native.Nat.{ℕ, ◌+◌, ◌%◌, ◌≤◌}
use mathlib.Core.Path.{◌≡◌, refl}
use mathlib.Core.Bool.{Bool, true, false, cond, not, ◌&&◌, and-eq-true_iff, false≢true}
use mathlib.Core.List.{List, [], ◌∷◌, ◌++◌}
use Rattle.std.specs.Prelude.{Option, None, Some}
use native.Mathlib.Omega.{arith}
use lib.Dec.{eqb}
use lib.ListN.{length, get_or, drop}
use borrow.Author.Tests.{ne_eqb, eqb-true, not-true}
use Rattle.lists.specs.Bit.{one}
use Rattle.answers.specs.declared.Cause.TheVariants.{BadRecord, BadChecksum}
use Rattle.commands.specs.declared.header.Window.{Window}
use Rattle.ticket.proofs.Says.{eqb_says}
use Rattle.records.specs.declared.progress.FileProgress.{FileProgress}
use Rattle.records.specs.Record.{Hex, LineEnd, lf, cr_lf, sum, Record}
use Rattle.records.specs.Read.{lines_of, bytes_of, address_of, data_of, typed, formed, enter, given_by, after}
use Rattle.records.specs.Read.{entered_as}
use Rattle.records.specs.Read.{cause, next, line_by, line_of}
use Rattle.records.proofs.Spelling.{digit_above}
use Rattle.records.proofs.RecordLaw.{inside, record_read, record_begins, record_sum, record_formed}

-- what is known of a line that leaves something for the next
pub record Left (w : Window) (p : FileProgress) (cs l : List ℕ) (q : FileProgress) (ds : List ℕ) : Type 0 where
  pub bytes : List ℕ
  pub read : bytes_of (drop 2 l) ≡ Some bytes
  pub running : p.ended ≡ false
  pub begins : get_or l 0 0 ≡ 0x53
  pub formed_so : formed (get_or l 1 0) p.s1 bytes ≡ true
  pub summed : sum bytes % 256 ≡ 255
  pub entered : enter w cs (given_by (get_or l 1 0) bytes) ≡ Some ds
  pub after_is : q ≡ after p (get_or l 1 0)

module _ (w : Window) (p : FileProgress) (cs l : List ℕ) (q : FileProgress) (ds : List ℕ) where
  by_entering : (t : ℕ) (o : Option (List ℕ)) → entered_as p t o ≡ next q ds → (o ≡ Some ds) × (q ≡ after p t)
  by_entering t None e = absurd cc
  by_entering t (Some es) e = (cc, cc)

  by_tests : (bs : List ℕ) → bytes_of (drop 2 l) ≡ Some bs → (b c : Bool)
      → (not p.ended && (eqb (get_or l 0 0) 0x53 && formed (get_or l 1 0) p.s1 bs)) ≡ b
      → eqb (sum bs % 256) 255 ≡ c
      → let t = get_or l 1 0 in
      cond b (cond c (entered_as p t (enter w cs (given_by t bs))) (cause BadChecksum)) (cause BadRecord) ≡ next q ds
      → Left w p cs l q ds
  by_tests bs r false c f s e = absurd cc
  by_tests bs r true false f s e = absurd cc
  by_tests bs r true true f s e =
      let h = simp (and-eq-true_iff, eqb_says) at f in
      let i = by_entering (get_or l 1 0) _ e in
      record {
        bytes = bs;
        read = r;
        running = not-true _ h.0;
        begins = h.1.0;
        formed_so = h.1.1;
        summed = eqb-true _ _ s;
        entered = i.0;
        after_is = i.1;
      }

  by_bytes : (o : Option (List ℕ)) → bytes_of (drop 2 l) ≡ o → line_by w p cs (get_or l 0 0) (get_or l 1 0) o
      ≡ next q ds
      → Left w p cs l q ds
  by_bytes None r e = absurd cc
  by_bytes (Some bs) r e = by_tests bs r _ _ refl refl e

  pub line_left : line_of w p cs l ≡ next q ds → Left w p cs l q ds
  unfolding line_of
  line_left e = by_bytes (bytes_of (drop 2 l)) refl e

at_most_one : (n : ℕ) (b : Bool) → n + one b ≤ n + 1
at_most_one n true = omega arith
at_most_one n false = omega arith

-- it counts once, and at most once as S1
pub one_more : (w : Window) (p : FileProgress) (cs l : List ℕ) (q : FileProgress) (ds : List ℕ)
    → line_of w p cs l ≡ next q ds → (q.lines ≡ p.lines + 1) × (q.s1 ≤ p.s1 + 1)
one_more w p cs l q ds e =
    rw (line_left w p cs l q ds e).after_is (refl, at_most_one p.s1 (eqb (get_or l 1 0) 0x31))

-- what a type wants
pub data Typed (t n : ℕ) (bs : List ℕ) : Type 0 where
  s0 : t ≡ 0x30 → Typed t n bs
  s1 : t ≡ 0x31 → Typed t n bs
  s5 : t ≡ 0x35 → length bs ≡ 4 → address_of bs ≡ n → Typed t n bs
  s9 : t ≡ 0x39 → length bs ≡ 4 → Typed t n bs

pub typed_says : (t n : ℕ) (bs : List ℕ) → typed t n bs ≡ true → Typed t n bs
typed_says t n bs = by_type (eqb t 0x30) (eqb t 0x31) (eqb t 0x35) (eqb t 0x39) refl refl refl refl
  where
    by_type : (a b c d : Bool) → eqb t 0x30 ≡ a → eqb t 0x31 ≡ b → eqb t 0x35 ≡ c → eqb t 0x39 ≡ d
        → cond a true (cond b true (cond c (eqb (length bs) 4 && eqb (address_of bs) n)
        (cond d (eqb (length bs) 4) false))) ≡ true
        → Typed t n bs
    by_type true b c d ta tb tc td e = s0 (eqb-true _ _ ta)
    by_type false true c d ta tb tc td e = s1 (eqb-true _ _ tb)
    by_type false false true d ta tb tc td e =
        let h = simp (and-eq-true_iff, eqb_says) at e in s5 (eqb-true _ _ tc) h.0 h.1
    by_type false false false true ta tb tc td e = s9 (eqb-true _ _ td) (eqb-true _ _ e)
    by_type false false false false ta tb tc td e = absurd (false≢true e)

-- four bytes hold no data
pub no_data : (bs : List ℕ) → length bs ≡ 4 → data_of bs ≡ []
no_data bs e = rw e

-- a record is read as one
module _ {t a : ℕ} {bytes l : List ℕ} (r : Record t a bytes l) where
  pub record_line : (w : Window) (p : FileProgress) (cs : List ℕ) → p.ended ≡ false → typed t p.s1 (inside r) ≡ true
      → line_of w p cs l ≡ entered_as p t (enter w cs (given_by t (inside r)))
  unfolding line_of
  record_line w p cs running typed_so =
      rw (
        record_read r,
        (record_begins r).0,
        (record_begins r).1,
        running,
        record_formed r p.s1 typed_so,
        record_sum r,
      )

digits_apart : {cs bs ending : List ℕ} → Hex cs bs → LineEnd ending → (s : List ℕ)
    → lines_of ((cs ++ ending) ++ s) ≡ (cs ++ ending) ∷ lines_of s
unfolding lines_of
digits_apart Hex.none lf s = refl
digits_apart Hex.none cr_lf s = refl
digits_apart (Hex.more {c = c} {d = d} ch dl r) e s =
    rw (
      ne_eqb c 0x0a (omega (arith, digit_above ch)),
      ne_eqb d 0x0a (omega (arith, digit_above dl)),
      digits_apart r e s,
    )

-- a record before other lines is the first of them
pub record_apart : {t a : ℕ} {bytes l : List ℕ} → Record t a bytes l → (t ≡ 0x0a → ⊥) → (s : List ℕ)
    → lines_of (l ++ s) ≡ l ∷ lines_of s
unfolding lines_of
record_apart {t = t} r other s =
    rw (r.line_is, ne_eqb t 0x0a other, digits_apart r.spelled r.ended s)
