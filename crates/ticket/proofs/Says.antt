-- What each test of a command says of its numbers, both ways.
-- Assumes nothing.
use Prim.Native.Nat.{ℕ, ◌≤◌, ◌<◌, max}
use mathlib.Core.Path.{◌≡◌, refl, sym}
use mathlib.Core.Logic.{◌↔◌}
use mathlib.Core.Bool.{Bool, true, false, not, ◌||◌, true≢false, false≢true, not-eq-not, and-eq-true_iff}
use mathlib.Core.List.{List, [], ◌∷◌}
use native.Mathlib.Omega.{arith}
use lib.Dec.{eqb, ltb, leb}
use borrow.Author.Tests.{ltb-true, ltb-false, leb-true, leb-false, eqb-true, eqb-false, lt-ltb, le-leb}
use borrow.Author.Tests.{lt-leb, eq-eqb, ne_eqb, not-false}
use Rattle.commands.specs.declared.header.Window.{Window}
use Rattle.commands.specs.Rows.{printable}
use Rattle.commands.specs.Cause.{apart}
use Rattle.commands.specs.Header.{past_of, holds}
use Rattle.commands.specs.Every.{Every}
use Rattle.ticket.specs.Rules.{Between, In, Apart}
use Rattle.commands.specs.Every.Every.{none, more}

pub true_says : ◌↔◌ {0, 0} (true ≡ true) Unit
true_says = (λ e. tt, λ u. refl)

pub leb_says : (a b : ℕ) → (leb a b ≡ true) ↔ (a ≤ b)
leb_says a b = (leb-true a b, le-leb a b)

pub ltb_says : (a b : ℕ) → (ltb a b ≡ true) ↔ (a < b)
ltb_says a b = (ltb-true a b, lt-ltb a b)

pub eqb_says : (a b : ℕ) → (eqb a b ≡ true) ↔ (a ≡ b)
eqb_says a b = (eqb-true a b, eq-eqb a b)

neither : (a b : Bool) → (a || b) ≡ false → (a ≡ false) × (b ≡ false)
neither false b e = (refl, e)
neither true b e = absurd (true≢false e)

-- a mark at a, after n others, the last at l
pub after_says : (n l a : ℕ) → ((eqb n 0 || ltb l a) ≡ true) ↔ (1 ≤ n → l < a)
after_says n l a = (
  λ e o. ltb-true l a (rw (ne_eqb n 0 (omega arith)) at e),
  λ h.
      not-eq-not.0
      (λ e.
      let t = neither (eqb n 0) (ltb l a) e in
      let o : 1 ≤ n = omega (arith, eqb-false n 0 t.0) in
      omega (arith, ltb-false, h o)),
)

printed : {s : List ℕ} → Every (Between 0x20 0x7e) s → printable s ≡ true
printed none = refl
printed (more h r) = rw (le-leb _ _ h.0, le-leb _ _ h.1) (printed r)

pub printable_says : (s : List ℕ) → (printable s ≡ true) ↔ Every (Between 0x20 0x7e) s
printable_says [] = (λ e. none, λ r. refl)
printable_says (b ∷ s) = (
  λ e. let h = simp (and-eq-true_iff, leb_says) at e in more h.0 ((printable_says s).0 h.1),
  printed,
)

-- an address outside a window
pub outside_says : (w : Window) (a : ℕ) → (not (holds w a) ≡ true) ↔ (In w a → ⊥)
outside_says w a = (
  λ e i. true≢false (sym (rw (le-leb _ _ i.0, lt-ltb _ _ i.1) at e)),
  λ h.
      not-eq-not.0
      (λ e.
      let t = (and-eq-true_iff (leb w.start a) _).0 (not-false (holds w a) e) in
      h (leb-true _ _ t.0, ltb-true _ _ t.1)),
)

-- two windows that are not apart share the later start
shared : (v w : Window) → apart v w ≡ false → In v (max v.start w.start) × In w (max v.start w.start)
shared v w e =
    let n = neither (eqb v.length 0 || eqb w.length 0) _ e in
    let l = neither (eqb v.length 0) _ n.0 in
    let s = neither (leb (past_of v) w.start) _ n.1 in
    omega (arith, leb-false, eqb-false v.length 0 l.0, eqb-false w.length 0 l.1)

pub apart_says : (v w : Window) → (apart v w ≡ true) ↔ Apart v w
apart_says v w = (
  λ e a i j. false≢true (rw (
    ne_eqb v.length 0 (omega arith),
    ne_eqb w.length 0 (omega arith),
    lt-leb (past_of v) w.start (omega arith),
    lt-leb (past_of w) v.start (omega arith),
  ) at e),
  λ h. not-eq-not.0 (λ e. h _ (shared v w e).0 (shared v w e).1),
)
