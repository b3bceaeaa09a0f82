-- A line with its bytes by the code's tests, in their order.
-- Assumes nothing.
use mathlib.Core.Path.{◌≡◌, sym, ◌∙◌}
use mathlib.Core.Bool.{Bool, true, false, cond, and-eq-true_iff}
use mathlib.Core.List.{List}
use Rattle.std.specs.Prelude.{Some}
use Prim.Native.Nat.{ℕ, ◌+◌, ◌-◌, ◌%◌, ◌≤◌}
use native.Mathlib.Nat.{add-zero}
use native.Mathlib.Omega.{arith}
use borrow.Author.Tests.{eq-eqb, ne_eqb}
use lib.Dec.{eqb}
use lib.ListN.{length, take, drop}
use Rattle.ticket.proofs.Says.{leb_says}
use Rattle.answers.specs.declared.Cause.TheVariants.{BadChecksum, BadAddress}
use Rattle.commands.specs.declared.header.Window.{Window}
use Rattle.records.specs.declared.progress.FileProgress.{FileProgress}
use Rattle.records.specs.Record.{given_from, sum}
use Rattle.records.specs.Read.{address_of, data_of, formed, enter, given_by, cause, next, entered_as, line_by}
use Rattle.records.specs.inner.Decoded.{entered}

pub formed_long : (t n : ℕ) (bs : List ℕ) → formed t n bs ≡ true → 4 ≤ length bs
unfolding formed
formed_long t n bs e = (simp (and-eq-true_iff, leb_says) at e).0

-- the data as the code names them
abbrev part : List ℕ → List ℕ
part bs = take (length bs - 1 - 3) (drop 3 bs)

part_is : (bs : List ℕ) → part bs ≡ data_of bs
part_is bs = let e : length bs - 1 - 3 ≡ length bs - 4 = omega arith in rw e

-- after the tests of its form
pub record Shaped (p : FileProgress) (s t : ℕ) (bs : List ℕ) : Type 0 where
  pub going : p.ended ≡ false
  pub marked : s ≡ 0x53
  pub shaped : formed t p.s1 bs ≡ true

module _ (w : Window) {p : FileProgress} (cs : List ℕ) {s t : ℕ} {bs : List ℕ} (q : Shaped p s t bs) where
  by_sum : line_by w p cs s t (Some bs)
      ≡ cond (eqb (sum bs % 256) 255) (entered_as p t (enter w cs (given_by t bs))) (cause BadChecksum)
  by_sum = rw (q.going, q.marked, q.shaped)

  pub wrong_sum : (sum bs % 256 ≡ 255 → ⊥) → cause BadChecksum ≡ line_by w p cs s t (Some bs)
  wrong_sum h = sym (by_sum ∙ rw (ne_eqb (sum bs % 256) 255 h))

  module _ (right : sum bs % 256 ≡ 255) where
    by_given : line_by w p cs s t (Some bs) ≡ entered_as p t (enter w cs (given_by t bs))
    by_given = by_sum ∙ rw (eq-eqb (sum bs % 256) 255 right)

    -- only S1 gives bytes
    none_given : (t ≡ 0x31 → ⊥) → enter w cs (given_by t bs) ≡ Some cs
    unfolding enter
    none_given h = rw (ne_eqb t 0x31 h)

    pub gives_none : (t ≡ 0x31 → ⊥)
        → next (record { lines = p.lines + 1; s1 = p.s1; ended = eqb t 0x39 }) cs ≡ line_by w p cs s t (Some bs)
    gives_none h = sym (by_given ∙ rw (none_given h, ne_eqb t 0x31 h, add-zero))

    module _ (s1 : t ≡ 0x31) {a : ℕ} (a_is : a ≡ address_of bs) where
      by_data : line_by w p cs s t (Some bs)
          ≡ entered_as p 0x31 (enter w cs (given_from a (part bs)))
      by_data = by_given ∙ rw (s1, a_is, part_is bs)

      pub not_entered : {r : Bool} (ds : List ℕ) → r ≡ false
          → entered r ds ≡ enter w cs (given_from a (part bs))
          → cause BadAddress ≡ line_by w p cs s t (Some bs)
      not_entered ds e f = sym (by_data ∙ rw (← f, e))

      pub entered_as_given : {r : Bool} {ds : List ℕ} → r ≡ true
          → entered r ds ≡ enter w cs (given_from a (part bs))
          → next (record { lines = p.lines + 1; s1 = p.s1 + 1; ended = false }) ds ≡ line_by w p cs s t (Some bs)
      entered_as_given e f = sym (by_data ∙ rw (← f, e))
