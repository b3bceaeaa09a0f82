-- `lookup::found_of` meets its contract: a prefix has no instruction in the first map.
-- Assumes nothing.
use borrow.Author.Rules.{rules}
use mathlib.Core.Path.{◌≡◌, sym, ◌∙◌}
use Prim.Native.Nat.{ℕ, ◌<◌}
use native.Mathlib.Omega.{arith}
use Rattle.std.specs.Prelude.{Some}
use Rattle.opcodes.specs.declared.lookup.Found.{Found}
use Rattle.opcodes.specs.inner.Lookup.{entry_of, found_of}
use Rattle.opcodes.proofs.Prefix.{plain, by_first, by_second}
use Rattle.opcodes.proofs.Says.{entry_says, within}
use Rattle.opcodes.proofs.lookup.found_of.Goals as goal

in_first : (first second : ℕ) (o : Found) → first < 256 → Some o ≡ entry_of first 1 → Some o ≡ found_of first second
in_first first second o h e = e ∙ sym (by_first first second (plain first (entry_says first 1 o (sym e)).3) h)

pub returns-in-Some : goal.returns-in-Some
returns-in-Some c =
    let e = in_first c.args.first c.args.second c.in-Some.found (omega arith) c.in-Some.ensures in
    record { found = e; in_tables = within _ _ _ e }

pub returns-in-0-clause-found : goal.returns-in-0-clause-found
returns-in-0-clause-found c =
    let z = sym c.page_of.ensures.0 ∙ c.in-0.is in
    c.in_default.ensures ∙ sym (by_first c.args.first c.args.second z (omega arith))

pub returns-in_default-page_of : goal.returns-in_default-page_of
returns-in_default-page_of c =
    let g = c.page_of in
    let e = c.entry_at-in_default-page_of.ensures
    ∙ sym (by_second c.args.first c.args.second g.result g.ensures.0 (search rules)) in
    record { found = e; in_tables = within _ _ _ e }
