-- Two different verdicts have different lines: from the line of a verdict the verdict is found again.
-- Assumes nothing.
use Prim.Native.Nat.{ℕ, ◌<◌}
use mathlib.Core.Path.{◌≡◌, sym, ap, ◌∙◌}
use mathlib.Core.Bool.{cond}
use mathlib.Core.List.{List, [], ◌++◌}
use native.Mathlib.Omega.{arith}
use lib.Dec.{eqb}
use lib.ListN.{get_or, drop}
use Rattle.std.specs.Prelude.{Ok, Err}
use Rattle.answers.specs.Cause.{number_of}
use Rattle.answers.specs.Verdict.{Verdict}
use Rattle.answers.proofs.Causes.{cause_from, cause_back, number_small}
use Rattle.text.specs.Number.{decimal_of}
use Rattle.text.proofs.Spelled.{hex_from, hex_back, hex_after, number_from, after_number, decimal_back}
use Rattle.text.proofs.Spelled.{decimal_after}
use Rattle.text.specs.Verdict.{end, accept_line, refuse_line, line_of}

-- the figures and the place of a verdict are of 32 bits at most, as in every value of the code's types
abbrev pub Narrow : Verdict → Type 0
Narrow (Ok a) = (a.cost.0 < 4294967296) × (a.stack.0 < 4294967296)
Narrow (Err r) = r.place < 4294967296

abbrev accept_from : List ℕ → Verdict
accept_from t =
    let d = drop 1 (drop 4 t) in
    Ok (record {
      entry = hex_from t;
      cost = record { 0 = number_from 0 d };
      stack = record { 0 = number_from 0 (after_number d) };
    })

abbrev refuse_from : List ℕ → Verdict
refuse_from t = Err (record { cause = cause_from (number_from 0 t); place = number_from 0 (after_number t) })

-- by the first letter
abbrev verdict_from : List ℕ → Verdict
verdict_from t = cond (eqb (get_or t 0 0) 65) (accept_from (drop 7 t)) (refuse_from (drop 7 t))

verdict_back : (v : Verdict) → Narrow v → verdict_from (line_of v) ≡ v
unfolding accept_line refuse_line
verdict_back (Ok a) h =
    let last = decimal_of a.stack.0 ++ end in
    let cost = decimal_back a.cost.0 32 last (omega arith) (omega (arith, h.0)) in
    let stack = decimal_back a.stack.0 10 [] (omega arith) (omega (arith, h.1)) in
    simp (hex_back a.entry, hex_after a.entry, cost, decimal_after a.cost.0 32 last (omega arith), stack)
verdict_back (Err r) h =
    let last = decimal_of r.place ++ end in
    let n = number_of r.cause in
    let number = decimal_back n 32 last (omega arith) (omega (arith, number_small r.cause)) in
    let place = decimal_back r.place 10 [] (omega arith) (omega (arith, h)) in
    simp (number, decimal_after n 32 last (omega arith), place, cause_back r.cause)

pub lines_apart : (v w : Verdict) → Narrow v → Narrow w → line_of v ≡ line_of w → v ≡ w
lines_apart v w n m e = sym (verdict_back v n) ∙ ap verdict_from e ∙ verdict_back w m
