-- A rule over two tables that are made of the rows: it holds at every number if it holds of each row, and where no row
-- is.
-- Assumes nothing.
use mathlib.Core.Path.{◌≡◌, refl, subst}
use mathlib.Core.Bool.{Bool, true, false, ◌&&◌}
use mathlib.Core.List.{List, [], ◌∷◌}
use Prim.Native.Nat.{ℕ, zero, suc, ◌+◌}
use native.Mathlib.Omega.{arith}
use lib.Dec.{T, eqb}
use lib.ListN.{get_or}
use borrow.Author.Tests.{eqb-true}
use Rattle.opcodes.specs.Rows.{Row}
use Rattle.opcodes.specs.Tables.{expand}
use Rattle.opcodes.proofs.Every.{both_left, both_right}

module _ {A B : Type 0} (f : Row → A) (g : Row → B) (ok : ℕ → A → B → Bool) where
  -- of each row
  abbrev pub all : List Row → Bool
  all [] = true
  all (r ∷ rs) = ok r.place (f r) (g r) && all rs

  module _ (a : A) (b : B) (none : (p : ℕ) → T (ok p a b)) where
    -- k places after s
    abbrev Ok : ℕ → ℕ → List A → List B → Type 0
    Ok s k xs ys = T (ok (s + k) (get_or xs k a) (get_or ys k b))

    first : (s : ℕ) (x : A) (y : B) (xs : List A) (ys : List B)
        → T (ok s x y) → ((k : ℕ) → Ok (suc s) k xs ys) → (k : ℕ) → Ok s k (x ∷ xs) (y ∷ ys)
    first s x y xs ys t h zero = subst (λ (i : ℕ). T (ok i x y)) (omega arith) t
    first s x y xs ys t h (suc k) = subst (λ (i : ℕ). T (ok i (get_or xs k a) (get_or ys k b))) (omega arith) (h k)

    -- the next row stands at s, or later
    here_or_later : (s : ℕ) (c : Bool) (x : A) (y : B) (xs us : List A) (ys vs : List B)
        → (c ≡ true → T (ok s x y)) → ((k : ℕ) → Ok (suc s) k xs ys) → ((k : ℕ) → Ok (suc s) k us vs)
        → (k : ℕ) → Ok s k (elim c [ true ↦ x ∷ xs | false ↦ a ∷ us ]) (elim c [ true ↦ y ∷ ys | false ↦ b ∷ vs ])
    here_or_later s true x y xs us ys vs t h m k = first s x y xs ys (t refl) h k
    here_or_later s false x y xs us ys vs t h m k = first s a b us vs (none s) m k

    from : (s n : ℕ) (rs : List Row) → T (all rs) → (k : ℕ) → Ok s k (expand f a s n rs) (expand g b s n rs)
    from s zero rs t k = none (s + k)
    from s (suc n) [] t k =
        first s a b (expand f a (suc s) n []) (expand g b (suc s) n []) (none s) (from (suc s) n [] t) k
    from s (suc n) (r ∷ rs) t k =
        let u = both_left (ok r.place (f r) (g r)) (all rs) t in
        let us = both_right (ok r.place (f r) (g r)) (all rs) t in
        here_or_later s (eqb r.place s) (f r) (g r) (expand f a (suc s) n rs) (expand f a (suc s) n (r ∷ rs))
        (expand g b (suc s) n rs) (expand g b (suc s) n (r ∷ rs))
        (λ e. subst (λ (i : ℕ). T (ok i (f r) (g r))) (eqb-true r.place s e) u)
        (from (suc s) n rs us) (from (suc s) n (r ∷ rs) t) k

    pub by_row : (n : ℕ) (rs : List Row) → T (all rs) → (p : ℕ) →
        T (ok p (get_or (expand f a 0 n rs) p a) (get_or (expand g b 0 n rs) p b))
    by_row n rs t p =
        subst (λ (i : ℕ). T (ok i (get_or (expand f a 0 n rs) p a) (get_or (expand g b 0 n rs) p b))) (omega arith)
        (from 0 n rs t p)
