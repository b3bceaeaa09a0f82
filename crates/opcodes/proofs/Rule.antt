-- Document 01's rule of the table: an entry is 0, or has a length of 1 to 5 and 2 to 41 cycles. One test over the 1,024
-- places.
-- Assumes nothing.
use Rattle.std.proofs.lemmas.Bool.{cases_lt}
use mathlib.Core.Path.{◌≡◌, refl}
use mathlib.Core.Bool.{Bool, true, ◌&&◌}
use mathlib.Core.Logic.{◌⊎◌, inl, inr, ⊎_elim}
use Prim.Native.Nat.{ℕ, zero, suc, ◌≤◌, ◌<◌, ◌/◌, ◌%◌}
use native.Mathlib.Omega.{arith}
use lib.Dec.{T, leb, leb→le}
use lib.ListN.{get_or-eq_default}
use Rattle.opcodes.specs.Tables.{costs, cost_at}
use Rattle.opcodes.proofs.Every.{both_left, both_right, every, at}

abbrev pub Ruled : ℕ → Type 0
Ruled e = (e ≡ 0) ⊎ ((1 ≤ e / 256) × (e / 256 ≤ 5) × (2 ≤ e % 256) × (e % 256 ≤ 41))

between : ℕ → ℕ → ℕ → Bool
between a b n = leb a n && leb n b

within : (a b n : ℕ) → T (between a b n) → (a ≤ n) × (n ≤ b)
unfolding between
within a b n t = (leb→le a n (both_left (leb a n) (leb n b) t), leb→le n b (both_right (leb a n) (leb n b) t))

ok : ℕ → ℕ → Bool
ok k zero = true
ok k (suc e) = between 1 5 (suc e / 256) && between 2 41 (suc e % 256)

said : (k e : ℕ) → T (ok k e) → Ruled e
unfolding ok
said k zero t = inl refl
said k (suc e) t =
    let l = within 1 5 (suc e / 256) (both_left (between 1 5 (suc e / 256)) (between 2 41 (suc e % 256)) t) in
    let c = within 2 41 (suc e % 256) (both_right (between 1 5 (suc e / 256)) (between 2 41 (suc e % 256)) t) in
    inr (l.0, l.1, c.0, c.1)

tested : T (every ok 0 costs)
unfolding costs ok between
tested = tt

ruled : (n : ℕ) → n < 1024 → Ruled (cost_at n)
unfolding costs cost_at
ruled n h = said n (cost_at n) (at ok 0 costs tested n h)

-- past the places every entry is 0
past : (n : ℕ) → 1024 ≤ n → cost_at n ≡ 0
unfolding costs cost_at
past n p = get_or-eq_default costs 0 p

pub ruled_at_all : (n : ℕ) → Ruled (cost_at n)
ruled_at_all n = ⊎_elim (λ q. ruled n q) (λ p. inl (past n p)) (cases_lt n 1024)

narrow : (e : ℕ) → Ruled e → e < 65536
narrow e r = ⊎_elim (λ z. omega (arith, z)) (λ w. omega (arith, w.1)) r

-- an entry is a word, and so fits in more
pub entry_word : (n : ℕ) → cost_at n < 65536
entry_word n = narrow (cost_at n) (ruled_at_all n)

-- where an entry is not 0 there is a place
pub below : (n : ℕ) → (cost_at n ≡ 0 → ⊥) → n < 1024
below n h = ⊎_elim (λ q. q) (λ p. absurd (h (past n p))) (cases_lt n 1024)
