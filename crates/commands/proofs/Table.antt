-- The code's rows are those of the table, with four operands each; what these come to is what those of the table's row
-- come to.
-- Assumes nothing.
use mathlib.Core.Path.{◌≡◌, refl, subst, ◌∙◌}
use mathlib.Core.Bool.{Bool, true, ◌&&◌, and-eq-true_iff}
use Prim.Native.Nat.{ℕ, zero, suc, ◌^◌, ◌≤◌, ◌<◌}
use native.Mathlib.Nat.{pow-le-pow_right}
use native.Mathlib.Omega.{arith}
use mathlib.Core.List.{List, [], ◌∷◌, ◌++◌}
use Rattle.std.specs.Prelude.{None}
use lib.Dec.{leb}
use lib.ListN.{get_or, length, drop, length-append}
use borrow.Author.Tests.{leb-true, le-leb}
use Rattle.std.proofs.lemmas.List.Sums.{sum_by-cons}
use Rattle.commands.specs.Every.{none, more}
use Rattle.commands.specs.Number.{digits}
use Rattle.commands.specs.Rows.{CommandOperand, any, within, text, width_in, size_of, in_range, CommandRow}
use Rattle.commands.specs.Rows.{command_rows, row_of, layout_of}
use Rattle.commands.specs.Bytes.{joined, operands_in}
use Rattle.commands.specs.Cause.{all_in_range}
use Rattle.commands.proofs.Digits.{length_digits}
use Rattle.commands.specs.declared.row.TableOperand.{TableOperand as CodeOperand}
use Rattle.commands.specs.declared.row.TableRow.{TableRow as CodeRow}
use Rattle.commands.specs.inner.Table.{code_operand, padded, code_row, code_size, code_values}
use Rattle.commands.specs.inner.Table.{values_in, in_range_code, ranges_hold_code, Narrow}
use Rattle.commands.specs.inner.Table.{absent, width_at, FitsCode}

-- ---- the rows

-- each operand has at most eight bytes
all_narrow : List CommandOperand → Bool
all_narrow [] = true
all_narrow (o ∷ os) = leb (width_in o) 8 && all_narrow os

-- what the code takes for granted of a row: at most four operands of such widths, of at most ten bytes
taken : CommandRow → Bool
taken r =
    let os = r.operands in
    leb (length os) 4 && (all_narrow os && leb (size_of os) 10)

all_taken : List CommandRow → Bool
all_taken [] = true
all_taken (r ∷ rs) = taken r && all_taken rs

abbrev blank_row : CommandRow
blank_row = record { stage = 0; window = None; operands = [] }

taken_at : (rs : List CommandRow) → all_taken rs ≡ true → (b : ℕ) → taken (get_or rs b blank_row) ≡ true
unfolding taken all_taken all_narrow
taken_at [] e b = refl
taken_at (r ∷ rs) e zero = ((and-eq-true_iff _ _).0 e).0
taken_at (r ∷ rs) e (suc b) = taken_at rs ((and-eq-true_iff (taken r) _).0 e).1 b

record Taken (b : ℕ) : Type 0 where
  short : length (layout_of b) ≤ 4
  narrow : all_narrow (layout_of b) ≡ true
  sized : size_of (layout_of b) ≤ 10

-- the test of the whole table
row_taken : (b : ℕ) → Taken b
unfolding taken all_taken all_narrow
row_taken b =
    let t = (and-eq-true_iff (leb (length (layout_of b)) 4) _).0 (taken_at command_rows refl b) in
    let u = (and-eq-true_iff (all_narrow (layout_of b)) _).0 t.1 in
    record { short = leb-true _ _ t.0; narrow = u.0; sized = leb-true _ _ u.1 }

pub row_short : (b : ℕ) → length (layout_of b) ≤ 4
row_short b = (row_taken b).short

pub row_size : (b : ℕ) → size_of (layout_of b) ≤ 10
row_size b = (row_taken b).sized

operand_width : (o : CommandOperand) → (code_operand o).width ≡ width_in o
operand_width (any w) = refl
operand_width (within w l m) = refl
operand_width (text w) = refl

padded_narrow : (n : ℕ) (os : List CommandOperand) → all_narrow os ≡ true → Narrow (padded n os)
unfolding all_narrow
padded_narrow zero os e = none
padded_narrow (suc n) [] e = more (omega arith) (padded_narrow n [] e)
padded_narrow (suc n) (o ∷ os) e =
    let a = (and-eq-true_iff (leb (width_in o) 8) _).0 e in
    more (rw (operand_width o) (leb-true _ _ a.0)) (padded_narrow n os a.1)

-- ---- n operands for those of a layout, which has no more

length_padded : (n : ℕ) (os : List CommandOperand) → length (padded n os) ≡ n
length_padded zero os = refl
length_padded (suc n) [] = omega (arith, length_padded n [])
length_padded (suc n) (o ∷ os) = omega (arith, length_padded n os)

size_padded : (n : ℕ) (os : List CommandOperand) → length os ≤ n → code_size (padded n os) ≡ size_of os
size_padded zero [] l = refl
size_padded zero (o ∷ os) l = absurd (omega arith)
size_padded (suc n) [] l = rw (sum_by-cons, size_padded n [] (omega arith))
size_padded (suc n) (o ∷ os) l = rw sum_by-cons (simp operand_width (omega (arith, size_padded n os (omega arith))))

-- n values: those of a command, and 0 after its last
abbrev padded_values : ℕ → List ℕ → List ℕ
padded_values zero vs = []
padded_values (suc n) [] = 0 ∷ padded_values n []
padded_values (suc n) (v ∷ vs) = v ∷ padded_values n vs

four : (vs : List ℕ) → code_values vs ≡ padded_values 4 vs
four [] = refl
four (v ∷ []) = refl
four (v ∷ w ∷ []) = refl
four (v ∷ w ∷ x ∷ []) = refl
four (v ∷ w ∷ x ∷ y ∷ vs) = refl

values_padded : (n : ℕ) (os : List CommandOperand) (s : List ℕ) → length os ≤ n →
    values_in (padded n os) s ≡ padded_values n (operands_in os s)
values_padded zero [] s l = refl
values_padded zero (o ∷ os) s l = absurd (omega arith)
values_padded (suc n) [] s l = simp (values_padded n [] s (omega arith))
values_padded (suc n) (o ∷ os) s l = simp (operand_width, values_padded n os (drop (width_in o) s) (omega arith))

-- as many values as operands
pub data Matched : List CommandOperand → List ℕ → Type 0 where
  nothing : Matched [] []
  one : {o : CommandOperand} {os : List CommandOperand} {v : ℕ} {vs : List ℕ} → Matched os vs →
      Matched (o ∷ os) (v ∷ vs)

pub matched : (os : List CommandOperand) (vs : List ℕ) → length vs ≡ length os → Matched os vs
matched [] [] e = nothing
matched [] (v ∷ vs) e = absurd (omega arith)
matched (o ∷ os) [] e = absurd (omega arith)
matched (o ∷ os) (v ∷ vs) e = one (matched os vs (omega arith))

-- the bytes of some values, by the widths of the code's operands
abbrev pub joined_code : List CodeOperand → List ℕ → List ℕ
joined_code [] vs = []
joined_code (o ∷ os) [] = []
joined_code (o ∷ os) (v ∷ vs) = digits o.width v ++ joined_code os vs

pub length_joined_code : (os : List CodeOperand) (vs : List ℕ) → length vs ≡ length os →
    length (joined_code os vs) ≡ code_size os
length_joined_code [] [] e = refl
length_joined_code [] (v ∷ vs) e = absurd (omega arith)
length_joined_code (o ∷ os) [] e = absurd (omega arith)
length_joined_code (o ∷ os) (v ∷ vs) e =
    rw (length-append, length_digits, sum_by-cons, length_joined_code os vs (omega arith))

joined_padded : (n : ℕ) {os : List CommandOperand} {vs : List ℕ} → Matched os vs → length os ≤ n →
    joined_code (padded n os) (padded_values n vs) ≡ joined os vs
joined_padded zero nothing l = refl
joined_padded zero (one m) l = absurd (omega arith)
joined_padded (suc n) nothing l = joined_padded n nothing (omega arith)
joined_padded (suc n) (one {o} m) l = simp (operand_width o, joined_padded n m (omega arith))

-- ---- ranges

in_range_by_code : (o : CommandOperand) (v : ℕ) → v ≤ 0xffffffffffffffff → in_range_code (code_operand o) v
    ≡ in_range o v
in_range_by_code (any w) v h = simp (le-leb 0 v (omega arith), le-leb _ _ h)
in_range_by_code (within w l m) v h = refl
in_range_by_code (text w) v h = refl

-- the first n values have at most eight bytes each
abbrev Bounded : ℕ → List ℕ → Type 0
Bounded n vs = (i : ℕ) → i < n → get_or vs i 0 ≤ 0xffffffffffffffff

narrow_at : {os : List CodeOperand} → Narrow os → (i : ℕ) → (get_or os i absent).width ≤ 8
narrow_at none i = omega arith
narrow_at (more n ns) zero = n
narrow_at (more n ns) (suc i) = narrow_at ns i

bounded_by : (w v : ℕ) → w ≤ 8 → v < 256 ^ w → v ≤ 0xffffffffffffffff
bounded_by w v h l =
    let m : 256 ^ w ≤ 256 ^ 8 = pow-le-pow_right {n = 256} (omega arith) {i = w} {j = 8} h in omega arith

bounded : (r : CodeRow) (v : List ℕ) → Narrow r.operands → FitsCode r v → Bounded 4 v
bounded r v n f zero h = bounded_by (width_at r 0) _ (narrow_at n 0) f.0
bounded r v n f (suc zero) h = bounded_by (width_at r 1) _ (narrow_at n 1) f.1
bounded r v n f (suc (suc zero)) h = bounded_by (width_at r 2) _ (narrow_at n 2) f.2
bounded r v n f (suc (suc (suc zero))) h = bounded_by (width_at r 3) _ (narrow_at n 3) f.3
bounded r v n f (suc (suc (suc (suc i)))) h = absurd (omega arith)

ranges_padded : (n : ℕ) {os : List CommandOperand} {vs : List ℕ} → Matched os vs → length os ≤ n →
    Bounded n (padded_values n vs) → ranges_hold_code (padded n os) (padded_values n vs) ≡ all_in_range os vs
ranges_padded zero nothing l h = refl
ranges_padded zero (one m) l h = absurd (omega arith)
ranges_padded (suc n) nothing l h = ranges_padded n nothing (omega arith) (λ i l. h (suc i) (omega arith))
ranges_padded (suc n) (one {o} m) l h =
    simp (in_range_by_code o _ (h 0 (omega arith)), ranges_padded n m (omega arith) (λ i l. h (suc i) (omega arith)))

-- ---- a row of the code, and values of the code

module _ (b : ℕ) (row : CodeRow) (e : row ≡ code_row (row_of b)) where
  pub row_sizes : code_size row.operands ≡ size_of (layout_of b)
  row_sizes = rw e (size_padded 4 (layout_of b) (row_short b))

  pub row_narrow : Narrow row.operands
  row_narrow = rw e (padded_narrow 4 (layout_of b) (row_taken b).narrow)

  pub row_four : length row.operands ≡ 4
  row_four = rw e (length_padded 4 (layout_of b))

  pub row_values : (s : List ℕ) → values_in row.operands s ≡ code_values (operands_in (layout_of b) s)
  row_values s = rw (e, four) (values_padded 4 (layout_of b) s (row_short b))

  module _ (vs : List ℕ) (same : length vs ≡ length (layout_of b)) (v : List ℕ) (f : v ≡ code_values vs) where
    pub row_joined : joined_code row.operands v ≡ joined (layout_of b) vs
    row_joined = rw (e, f, four) (joined_padded 4 (matched (layout_of b) vs same) (row_short b))

    pub row_ranges : FitsCode row v → ranges_hold_code row.operands v ≡ all_in_range (layout_of b) vs
    row_ranges h =
        rw (e, f, four) (ranges_padded 4 (matched (layout_of b) vs same) (row_short b)
        (subst (Bounded 4) (f ∙ four vs) (bounded row v row_narrow h)))
