-- The lines of a file, one by one.
-- Assumes nothing.
use Rattle.std.proofs.Common.{◌≡◌, ℕ, suc, ◌+◌, ◌≤◌, ◌<◌, min, Bool, true, false, cond, not, eqb, ltb, List, [], ◌∷◌}
use Rattle.std.proofs.Common.{length, take}
use Rattle.std.proofs.Common.{drop, length-drop, Option, Some, None, refl, arith}
use Rattle.std.specs.List.{position_or_len}
use borrow.Author.Tests.{ltb-true, ltb-false}
use Rattle.records.proofs.Inverse.{some_same}
use Rattle.records.specs.Read.{onto, lines_of}
use Rattle.records.specs.inner.Decoded.{line_length}

by_end : (t : Bool) (b : ℕ) (s : List ℕ) → let n = line_length s in
    onto b (lines_of s) ≡ (b ∷ take n s) ∷ lines_of (drop n s)
    → cond t ((b ∷ []) ∷ lines_of s) (onto b (lines_of s)) ≡ take (cond t 1 (suc n)) (b ∷ s)
    ∷ lines_of (drop (cond t 1 (suc n)) (b ∷ s))
by_end true b s e = refl
by_end false b s e = e

-- the first line, and the others
pub first_line : (s : List ℕ) → 0 < length s → let n = line_length s in lines_of s ≡ take n s ∷ lines_of (drop n s)
unfolding lines_of line_length
first_line [] h = absurd (omega arith)
first_line (b ∷ []) h = by_end (eqb b 0x0a) b [] refl
first_line (b ∷ c ∷ s) h = by_end (eqb b 0x0a) b (c ∷ s) (rw (first_line (c ∷ s) (omega arith)))

-- it has at least one byte
pub line_some : (s : List ℕ) → 0 < length s → 0 < line_length s
unfolding line_length
line_some [] h = absurd (omega arith)
line_some (b ∷ s) h = some (eqb b 0x0a)
  where
    some : (t : Bool) → 0 < cond t 1 (suc (line_length s))
    some true = omega arith
    some false = omega arith

-- so the others have fewer bytes
pub shorter : (s : List ℕ) {n : ℕ} → 0 < length s → n ≡ line_length s → length (drop n s) < length s
shorter s {n} some e = omega (arith, length-drop n s, line_some s some)

-- by the place of the first LF, or the length where there is none
abbrev pub place : List ℕ → ℕ
place = position_or_len (λ b. eqb b 0x0a)

line_is : (s : List ℕ) → line_length s ≡ min (place s + 1) (length s)
unfolding line_length
line_is [] = omega arith
line_is (b ∷ s) = by (eqb b 0x0a) (line_is s)
  where
    by : (t : Bool) → line_length s ≡ min (place s + 1) (length s)
        → cond t 1 (suc (line_length s)) ≡ min (cond (not t) (1 + place s) 0 + 1) (suc (length s))
    by true h = omega arith
    by false h = omega arith

pub found : (s : List ℕ) (i : ℕ) → Some i ≡ cond (ltb (place s) (length s)) (Some (place s)) None
    → (i + 1 ≡ line_length s) × (i + 1 ≤ length s)
found s i = by (ltb (place s) (length s)) refl
  where
    by : (t : Bool) → ltb (place s) (length s) ≡ t → Some i ≡ cond t (Some (place s)) None
        → (i + 1 ≡ line_length s) × (i + 1 ≤ length s)
    by true e h =
        let within = ltb-true (place s) (length s) e in
        let same : i ≡ place s = some_same h in
        (omega (arith, line_is s), omega arith)
    by false e h = absurd cc

pub missing : (s : List ℕ) → None ≡ cond (ltb (place s) (length s)) (Some (place s)) None → length s ≡ line_length s
missing s = by (ltb (place s) (length s)) refl
  where
    by : (t : Bool) → ltb (place s) (length s) ≡ t → ◌≡◌ {A = Option ℕ} None (cond t (Some (place s)) None)
        → length s ≡ line_length s
    by true e h = absurd cc
    by false e h = let past = ltb-false (place s) (length s) e in omega (arith, line_is s)
