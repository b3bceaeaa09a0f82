-- What digits spell up to a line's end, both ways: by the definition of hexadecimal and as it is computed.
-- Assumes nothing.
use Prim.Native.Nat.{ℕ, ◌+◌, ◌-◌, ◌*◌, ◌≤◌, ◌<◌}
use mathlib.Core.Path.{◌≡◌, refl, ap}
use mathlib.Core.Bool.{Bool, true, false, cond, and-eq-true_iff, false≢true}
use mathlib.Core.List.{List, [], ◌∷◌, ◌++◌}
use Rattle.std.specs.Prelude.{Option, None, Some}
use native.Mathlib.Omega.{arith}
use lib.Dec.{leb, ltb}
use borrow.Author.Tests.{leb-true, ltb-false, le-leb, lt-leb, le-ltb, eqb-true, ne_eqb}
use Rattle.lists.specs.Digit.{digit_of}
use Rattle.commands.specs.Every.{Every}
use Rattle.commands.specs.Number.{AllBytes}
use Rattle.ticket.proofs.Says.{eqb_says}
use Rattle.records.specs.Record.{Digit, decimal, upper, lower, Hex, more, LineEnd, lf, cr_lf}
use Rattle.records.specs.Read.{ends_of, pair_of, before, bytes_of}
use Rattle.records.proofs.Inverse.{some_same}

-- a digit has its value
digit_is : {c v : ℕ} → Digit c v → (digit_of c ≡ Some v) × (v < 16)
unfolding digit_of
digit_is (decimal {v = v} h) = (
  simp (le-ltb (0x30 + v) 48 (omega arith), le-leb (0x30 + v) 57 (omega arith)) (ap Some (omega arith)),
  omega arith,
)
digit_is (upper {v = v} h) = (
  simp (
    le-ltb (0x41 + v) 48 (omega arith),
    lt-leb (0x41 + v) 57 (omega arith),
    le-ltb (0x41 + v) 65 (omega arith),
    le-leb (0x41 + v) 70 (omega arith),
  ) (ap Some (omega arith)),
  omega arith,
)
digit_is (lower {v = v} h) = (
  simp (
    le-ltb (0x61 + v) 48 (omega arith),
    lt-leb (0x61 + v) 57 (omega arith),
    le-ltb (0x61 + v) 65 (omega arith),
    lt-leb (0x61 + v) 70 (omega arith),
    le-ltb (0x61 + v) 97 (omega arith),
    le-leb (0x61 + v) 102 (omega arith),
  ) (ap Some (omega arith)),
  omega arith,
)

digit_at : {c v x y : ℕ} → Digit x y → x ≡ c → y ≡ v → Digit c v
digit_at d e f = rw (e, f) at d

-- by the two tests of a range of digits, the others at hand
by_range : (c v lo hi k : ℕ) (rest : Option ℕ) → (lo ≤ c → c ≤ hi → c - k ≡ v → Digit c v) → (rest ≡ Some v → Digit c v)
    → cond (ltb c lo) None (cond (leb c hi) (Some (c - k)) rest) ≡ Some v → Digit c v
by_range c v lo hi k rest inside other = by_tests (ltb c lo) refl (leb c hi) refl
  where
    by_tests : (s : Bool) → ltb c lo ≡ s → (t : Bool) → leb c hi ≡ t
        → cond s None (cond t (Some (c - k)) rest) ≡ Some v → Digit c v
    by_tests true e t f h = absurd cc
    by_tests false e true f h = inside (ltb-false _ _ e) (leb-true _ _ f) (some_same h)
    by_tests false e false f h = other h

-- what has a value is a digit
is_digit : (c v : ℕ) → digit_of c ≡ Some v → Digit c v
unfolding digit_of
is_digit c v =
    by_range c v 48 57 48 _ (λ l h e. digit_at (decimal {v = c - 48} (omega arith)) (omega arith) e)
    (by_range c v 65 70 55 _ (λ l h e. digit_at (upper {v = c - 65} (omega arith)) (omega arith) (omega arith))
    (by_range c v 97 102 87 None (λ l h e. digit_at (lower {v = c - 97} (omega arith)) (omega arith) (omega arith))
    (λ h. absurd cc)))

pub digit_above : {c v : ℕ} → Digit c v → 0x30 ≤ c
digit_above (decimal h) = omega arith
digit_above (upper h) = omega arith
digit_above (lower h) = omega arith

-- no digit begins a line's end
not_ending : {c v : ℕ} → Digit c v → (d : ℕ) (s : List ℕ) → ends_of (c ∷ d ∷ s) ≡ false
not_ending {c = c} h d [] = simp (ne_eqb c 0x0d (omega (arith, digit_above h)))
not_ending h d (e ∷ s) = refl

-- what is spelled is read
pub spelled : {cs bs ending : List ℕ} → Hex cs bs → LineEnd ending → bytes_of (cs ++ ending) ≡ Some bs
unfolding bytes_of
spelled Hex.none lf = refl
spelled Hex.none cr_lf = refl
spelled {ending = ending} (more {c = c} {d = d} {cs = cs} ch dl r) e =
    rw (not_ending ch d (cs ++ ending), (digit_is ch).0, (digit_is dl).0, spelled r e)

pub hex_bytes : {cs bs : List ℕ} → Hex cs bs → AllBytes bs
hex_bytes Hex.none = Every.none
hex_bytes (more {h = h} {l = l} ch dl r) =
    Every.more {a = 16 * h + l} (omega (arith, (digit_is ch).1, (digit_is dl).1)) (hex_bytes r)

-- a line's digits and its end
pub record Spelled (s bs : List ℕ) : Type 0 where
  pub digits : List ℕ
  pub ending : List ℕ
  pub hex : Hex digits bs
  pub ended : LineEnd ending
  pub all : s ≡ digits ++ ending

ended_so : (s : List ℕ) → ends_of s ≡ true → LineEnd s
ended_so [] e = absurd (false≢true e)
ended_so (c ∷ []) e = rw (eqb-true c 0x0a e) lf
ended_so (c ∷ d ∷ []) e =
    let h = simp (and-eq-true_iff, eqb_says) at e in rw (h.0, h.1) cr_lf
ended_so (c ∷ d ∷ f ∷ s) e = absurd (false≢true e)

-- no digits are left
at_end : {s bs : List ℕ} → ends_of s ≡ true → Some [] ≡ Some bs → Spelled s bs
at_end {s = s} t e =
    record { digits = []; ending = s; hex = rw (← some_same e) Hex.none; ended = ended_so s t; all = refl }

-- a byte before others
before_some : (x : ℕ) (o : Option (List ℕ)) (bs : List ℕ) → before (Some x) o ≡ Some bs
    → (ys : List ℕ) × (o ≡ Some ys) × (x ∷ ys ≡ bs)
before_some x None bs e = absurd cc
before_some x (Some ys) bs e = (ys, refl, some_same e)

-- two digits before others
pair_spelled : {s bs : List ℕ} (c d h l : ℕ) → digit_of c ≡ Some h → digit_of d ≡ Some l → Spelled s bs
    → Spelled (c ∷ d ∷ s) ((16 * h + l) ∷ bs)
pair_spelled c d h l high low rest =
    record {
      digits = c ∷ d ∷ rest.digits;
      ending = rest.ending;
      hex = more (is_digit c h high) (is_digit d l low) rest.hex;
      ended = rest.ended;
      all = rw (← rest.all);
    }

-- what is read is spelled
pub read_spelled : (s bs : List ℕ) → bytes_of s ≡ Some bs → Spelled s bs
unfolding bytes_of
read_spelled [] bs e = absurd cc
read_spelled (c ∷ []) bs e = by_end (ends_of (c ∷ [])) refl e
  where
    by_end : (t : Bool) → ends_of (c ∷ []) ≡ t → cond t (Some []) None ≡ Some bs → Spelled (c ∷ []) bs
    by_end true f e = at_end f e
    by_end false f e = absurd cc
read_spelled (c ∷ d ∷ s) bs e =
    by_tests (read_spelled s) (ends_of (c ∷ d ∷ s)) refl (digit_of c) refl (digit_of d) refl e
  where
    by_tests : ((ys : List ℕ) → bytes_of s ≡ Some ys → Spelled s ys) → (t : Bool) → ends_of (c ∷ d ∷ s) ≡ t
        → (h : Option ℕ) → digit_of c ≡ h → (l : Option ℕ) → digit_of d ≡ l
        → cond t (Some []) (before (pair_of h l) (bytes_of s)) ≡ Some bs → Spelled (c ∷ d ∷ s) bs
    by_tests onward true f h p l q e = at_end f e
    by_tests onward false f None p l q e = absurd cc
    by_tests onward false f (Some m) p None q e = absurd cc
    by_tests onward false f (Some m) p (Some n) q e =
        let b = before_some (16 * m + n) (bytes_of s) bs e in
        rw b.2 at (pair_spelled c d m n p q (onward b.0 b.1))
