-- A line's bytes where they are more than a count can say: it is malformed all the same, since its first byte, the
-- count, is one byte.
-- Assumes nothing.
use mathlib.Core.Path.{◌≡◌, refl, sym}
use mathlib.Core.Bool.{Bool, true, false, cond, and-false}
use mathlib.Core.List.{List, [], ◌∷◌}
use Rattle.std.specs.Prelude.{Option, None, Some}
use Prim.Native.Nat.{ℕ, ◌+◌, ◌≤◌, ◌<◌}
use native.Mathlib.Omega.{arith}
use borrow.Author.Tests.{leb-false, le-leb, ne_eqb}
use lib.Dec.{leb}
use lib.ListN.{length, get_or, take, drop, drop_of_length-le}
use Rattle.commands.specs.Every.{more}
use Rattle.commands.specs.Number.{AllBytes}
use Rattle.answers.specs.declared.Cause.TheVariants.{BadRecord}
use Rattle.commands.specs.declared.header.Window.{Window}
use Rattle.records.specs.declared.progress.FileProgress.{FileProgress}
use Rattle.records.specs.Read.{bytes_of, formed, LineOutcome, cause, line_by, line_of}
use Rattle.records.specs.inner.Decoded.{decoded, countable}
use Rattle.records.proofs.Spelling.{read_spelled, hex_bytes}
use Rattle.records.proofs.Rest.{rest, rest_is}

-- a byte
first_small : (bs : List ℕ) → AllBytes bs → get_or bs 0 0 ≤ 255
first_small [] h = omega arith
first_small (b ∷ bs) (more h t) = omega arith

too_long : (t n : ℕ) (bs : List ℕ) → get_or bs 0 0 ≤ 255 → 256 < length bs → formed t n bs ≡ false
unfolding formed
too_long t n bs h k =
    rw (le-leb 4 (length bs) (omega arith), ne_eqb (get_or bs 0 0 + 1) (length bs) (λ e. omega arith))

module _ (w : Window) (p : FileProgress) (cs : List ℕ) where
  unformed_as : (s t : ℕ) (bs : List ℕ) → formed t p.s1 bs ≡ false → line_by w p cs s t (Some bs) ≡ cause BadRecord
  unformed_as s t bs e = simp (e, and-false)

  uncounted : (s t : ℕ) (o : Option (List ℕ)) → ((bs : List ℕ) → o ≡ Some bs → AllBytes bs) → None ≡ countable o
      → line_by w p cs s t o ≡ cause BadRecord
  uncounted s t None h e = refl
  uncounted s t (Some bs) h e = by (leb (length bs) 256) refl e
    where
      by : (b : Bool) → leb (length bs) 256 ≡ b → None ≡ cond b (Some bs) None
          → line_by w p cs s t (Some bs) ≡ cause BadRecord
      by true f g = absurd cc
      by false f g =
          unformed_as s t bs (too_long t p.s1 bs (first_small bs (h bs refl)) (leb-false (length bs) 256 f))

  pub short_line : (l : List ℕ) → length l < 2 → cause BadRecord ≡ line_of w p cs l
  unfolding line_of bytes_of
  short_line l h = let e : drop 2 l ≡ [] = drop_of_length-le l {i = 2} (omega arith) in rw e

  pub malformed_line : (l : List ℕ) → None ≡ countable (bytes_of (rest l 2)) → cause BadRecord ≡ line_of w p cs l
  unfolding line_of
  malformed_line l e =
      sym (uncounted (get_or l 0 0) (get_or l 1 0) (bytes_of (drop 2 l))
      (λ bs r. hex_bytes (read_spelled (drop 2 l) bs r).hex) (rw rest_is at e))

-- bytes that are counted are all
counted : (o : Option (List ℕ)) (bs : List ℕ) → Some bs ≡ countable o → o ≡ Some bs
counted None bs e = absurd cc
counted (Some ys) bs e = by (leb (length ys) 256) e
  where
    by : (b : Bool) → Some bs ≡ cond b (Some ys) None → Some ys ≡ Some bs
    by true e = sym e
    by false e = absurd cc

pub counted_line : (w : Window) (p : FileProgress) (cs l buffer : List ℕ) {r : Option ℕ} {n : ℕ} {o : LineOutcome}
    → r ≡ Some n → decoded r buffer ≡ countable (bytes_of (rest l 2))
    → o ≡ line_by w p cs (get_or l 0 0) (get_or l 1 0) (Some (take n buffer)) → o ≡ line_of w p cs l
unfolding line_of
counted_line w p cs l buffer {n = n} r_is e h =
    rw (counted (bytes_of (drop 2 l)) (take n buffer) (rw (rest_is, r_is) at e)) h
