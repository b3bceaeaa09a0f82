-- `step_agrees` meets its contract: the answer is the one expected, and then the memory.
-- Assumes nothing.
use Rattle.std.proofs.Common.{◌≡◌, true, false, sym, ◌∙◌, rules}
use mathlib.Core.Bool.{false≢true}
use Rattle.vectors.proofs.Agreeing.{answers, remembers, agreeing}
use Rattle.vectors.proofs.compare.step_agrees.Goals as goal

pub returns-then-not-is_done : goal.returns-then-not-is_done
returns-then-not-is_done c =
    let before = c.registers_in.ensures in
    let loaded = c.memory_in-mem.ensures in
    let after = c.registers_in-2.ensures in
    let cycles = c.hex_byte_in.ensures in
    let answer = c.step-a.ensures.0 in
    let differs : c.is_done.result ≡ false = search rules in (
      λ e. absurd (false≢true e),
      λ h. absurd (false≢true (sym differs ∙ c.is_done.ensures.1 (answer ∙ answers _ before loaded after cycles h))),
    )

pub returns : goal.returns
returns c =
    let before = c.registers_in.ensures in
    let loaded = c.memory_in-mem.ensures in
    let after = c.registers_in-2.ensures in
    let cycles = c.hex_byte_in.ensures in
    let answer = c.step-a.ensures.0 in
    let memory = c.step-a.ensures.1 in
    let agrees : c.is_done.result ≡ true = search rules in
    let done = c.is_done.ensures.0 agrees in
    let expected = c.expected_in-expected.ensures in
    let same = c.same.ensures in (
      λ e. agreeing _ before loaded after cycles (sym answer ∙ done) (sym memory ∙ same.0 e ∙ expected),
      λ h. same.1 (memory ∙ remembers _ before loaded after cycles h ∙ sym expected),
    )
