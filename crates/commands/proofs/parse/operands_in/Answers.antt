-- `operands_in` meets its contract: each operand takes its bytes off what is left.
-- Assumes nothing.
use mathlib.Core.Path.{◌≡◌, ◌∙◌}
use Prim.Native.Nat.{ℕ, ◌+◌, ◌<◌}
use mathlib.Core.List.{List, ◌∷◌, ◌++◌, append_assoc}
use native.Mathlib.Omega.{arith}
use native.Mathlib.Numerals.{add-one}
use lib.ListN.{length, get_or, take, drop, set, length-set}
use lib.Seq.{drop-cons, take-suc-set}
use Rattle.std.proofs.Common.{◌≢◌, below_more, get_or-set_same, get_or-set_other}
use Rattle.std.proofs.lemmas.List.Sums.{sum_by-cons}
use Rattle.commands.specs.inner.Table.{absent, code_size}
use Rattle.commands.specs.declared.row.TableOperand.{TableOperand}
use Rattle.commands.proofs.Every.{first}
use Rattle.commands.proofs.parse.operands_in.Goals as goal

-- the next operand and those after it
next : (os : List TableOperand) (i : ℕ) → length os ≡ 4 → i < 4 → drop i os ≡ get_or os i absent ∷ drop (i + 1) os
next os i four here = let h : i < length os = omega arith in rw add-one (drop-cons os i absent h)

sum : (o : TableOperand) (os : List TableOperand) → code_size (o ∷ os) ≡ o.width + code_size os
sum o os = sum_by-cons (λ (x : TableOperand). x.width) o os

-- one value more
set_next : (vs : List ℕ) (i x : ℕ) (s : List ℕ) → i < length vs → take i vs ++ (x ∷ s) ≡ take (i + 1) (set vs i x) ++ s
set_next vs i x s h = rw (add-one, take-suc-set, append_assoc)

pub number-requires : goal.number-requires
number-requires c =
    let l = c.loop-i in
    let os = c.args.row.operands in
    let four : length os ≡ 4 = omega arith in
    let n = next os l.i four (omega arith) in
    omega (arith, (first (rw n at l.invariant.narrow)).0, c.split_at.ensures.front_len)

pub loop-i-preserved : goal.loop-i-preserved
loop-i-preserved c =
    let l = c.loop-i in
    let i = l.invariant in
    let os = c.args.row.operands in
    let s = c.split_at.ensures in
    let four : length os ≡ 4 = omega arith in
    let n = next os l.i four (omega arith) in
    let here : l.i < length l.values = omega (arith, i.four) in
    let e = rw n at i.enough in
    let r = rw n at i.read in
    record {
      read = rw (← s.front, ← s.back, ← c.number.ensures.0) at r ∙ set_next l.values l.i c.number.result _ here;
      four = simp length-set i.four;
      narrow = (first (rw n at i.narrow)).1;
      enough = omega (arith, e, s.back_len, sum (get_or os l.i absent) (drop (l.i + 1) os));
      fits = below_more _ _
          (λ k h. let ne : k ≢ l.i = omega arith in rw get_or-set_other (i.fits k h))
          (rw get_or-set_same (rw s.front_len at c.number.ensures.1));
    }
