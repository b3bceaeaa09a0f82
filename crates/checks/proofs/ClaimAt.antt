-- The claim at an address, among marks that rise: that of the mark where a binary search ends, or none.
-- Assumes nothing.
use Rattle.std.proofs.Common.{ℕ, zero, suc, ◌<◌, ◌≤◌, ◌≡◌, List, [], ◌∷◌, length, get_or, refl, sym, arith, tests}
use Rattle.std.proofs.Common.{⊎_elim}
use borrow.Author.Tests.{eq-eqb, ne_eqb}
use Rattle.std.specs.Prelude.{Some, None, Err}
use Rattle.std.specs.Cmp.{ranks}
use Rattle.std.specs.Ordering.{nat_cmp, ordering_index, MatchOrdering}
use Rattle.std.specs.declared.cmp.Ordering.{Ordering}
use Rattle.std.specs.declared.cmp.Ordering.TheVariants.{Less, Equal, Greater}
use Rattle.std.specs.List.{HoldsAt}
use Rattle.std.specs.List.Sorted.{IsBinarySearchResult, IsPartitionPoint}
use Rattle.std.proofs.lemmas.List.Sorted.{IsNonDecreasingBy-from_default}
use Rattle.std.proofs.lemmas.Bool.{cases_lt}
use Rattle.ticket.specs.declared.fields.Mark.{Mark}
use Rattle.ticket.specs.Fields.{blank_mark}
use Rattle.ticket.specs.Rules.{Rising}
use Rattle.ticket.specs.Rules.Rising.{none, one, more}
use Rattle.rules.specs.Marks.{claim_at}

abbrev address_at : List Mark → ℕ → ℕ
address_at ms i = (get_or ms i blank_mark).address

above : {m : Mark} {ms : List Mark} → Rising (m ∷ ms) → (j : ℕ) → j < length ms → m.address < address_at ms j
above one j h = absurd (omega arith)
above (more l r) zero h = l
above (more l r) (suc j) h = omega (arith, above r j (omega arith))

rest : {m : Mark} {ms : List Mark} → Rising (m ∷ ms) → Rising ms
rest one = none
rest (more l r) = r

found : (ms : List Mark) → Rising ms → (i : ℕ) → i < length ms
    → claim_at ms (address_at ms i) ≡ Some (get_or ms i blank_mark).claim
found [] r i h = absurd (omega arith)
found (m ∷ ms) r zero h = rw (eq-eqb m.address m.address refl)
found (m ∷ ms) r (suc i) h =
    let differs : m.address ≡ address_at ms i → ⊥ = λ e. omega (arith, e, above r i (omega arith)) in
    rw (ne_eqb m.address (address_at ms i) differs) (found ms (rest r) i (omega arith))

missed : (ms : List Mark) (a : ℕ) → ((i : ℕ) → i < length ms → address_at ms i ≡ a → ⊥) → claim_at ms a ≡ None
missed [] a away = refl
missed (m ∷ ms) a away =
    rw (ne_eqb m.address a (away 0 (omega arith))) (missed ms a (λ i h. away (suc i) (omega arith)))

-- the marks rise, as the search asks: a later one is not lower
rising : (ms : List Mark) → Rising ms → (i j : ℕ) → i ≤ j → j < length ms → address_at ms i ≤ address_at ms j
rising [] r i j l h = absurd (omega arith)
rising (m ∷ ms) r zero zero l h = omega arith
rising (m ∷ ms) r (suc i) zero l h = absurd (omega arith)
rising (m ∷ ms) r zero (suc j) l h = omega (arith, above r j (omega arith))
rising (m ∷ ms) r (suc i) (suc j) l h = rising ms (rest r) i j (omega arith) (omega arith)

-- what a comparison answers
compared : (x a : ℕ) (o : Ordering) → nat_cmp x a ≡ o → MatchOrdering o (x < a) (x ≡ a) (a < x)
compared x a o e = rw e at (ranks x a)

higher : (x y a : ℕ) → x ≤ y → ordering_index (nat_cmp x a) ≤ ordering_index (nat_cmp y a)
higher x y a l = grind (arith, tests)

module _ (ms : List Mark) (r : Rising ms) (a : ℕ) where
  pub claim_there : (i : ℕ) → i < length ms → HoldsAt (λ m. nat_cmp m.address a ≡ Equal) ms i
      → Some (get_or ms i blank_mark).claim ≡ claim_at ms a
  claim_there i h at = rw (← compared (address_at ms i) a Equal (at blank_mark)) (sym (found ms r i h))

  pub claim_nowhere : (i : ℕ) → IsBinarySearchResult (λ m. nat_cmp m.address a) ms (Err i) → None ≡ claim_at ms a
  claim_nowhere i parted = sym (missed ms a away)
    where
      parts : IsPartitionPoint (λ m. nat_cmp m.address a ≡ Less) (λ m. nat_cmp m.address a ≡ Greater) ms i
      parts =
          parted
          (IsNonDecreasingBy-from_default (λ m. ordering_index (nat_cmp m.address a)) ms blank_mark
          (λ j k l h. higher _ _ a (rising ms r j k l h)))

      away : (k : ℕ) → k < length ms → address_at ms k ≡ a → ⊥
      away k h e =
          ⊎_elim (λ l. omega (arith, e, compared _ a Less (parts.0 k blank_mark (omega arith) l)))
          (λ l. omega (arith, e, compared _ a Greater (parts.1 k blank_mark l h))) (cases_lt k i)
