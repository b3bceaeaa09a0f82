-- When a step agrees with a line: the step's answer and its memory are those expected.
-- Assumes nothing.
use Rattle.std.proofs.Common.{◌≡◌, ℕ, List, ap}
use Rattle.registers.specs.declared.Registers.{Registers}
use Rattle.stepper.specs.Answer.{Answer, done}
use Rattle.stepper.specs.Step.{After, step_of}
use Rattle.vectors.specs.Hex.{hex_byte_in, registers_in}
use Rattle.vectors.specs.Vector.{memory_in, expected_in, after_in, StepAgrees}

abbrev made : Answer → List ℕ → After
made a m = record { answer = a; memory = m }

-- r, m, q and k are what the line says: the registers and the memory before, the registers and the cycles after
module _
    (s : List ℕ)
    {r q : Registers}
    {m : List ℕ}
    {k : ℕ}
    (before : r ≡ registers_in s 6)
    (loaded : m ≡ memory_in s)
    (after : q ≡ registers_in s 33)
    (cycles : k ≡ hex_byte_in s 3)
  where
    pub answers : StepAgrees s → (step_of r m).answer ≡ done q (record { 0 = k })
    unfolding after_in
    answers h = rw (before, loaded, after, cycles) (ap (λ (w : After). w.answer) h)

    pub remembers : StepAgrees s → (step_of r m).memory ≡ expected_in s
    unfolding after_in
    remembers h = rw (before, loaded) (ap (λ (w : After). w.memory) h)

    pub agreeing : (step_of r m).answer ≡ done q (record { 0 = k }) → (step_of r m).memory ≡ expected_in s
        → StepAgrees s
    unfolding after_in
    agreeing a b =
        let w : made (step_of r m).answer (step_of r m).memory
        ≡ made (done q (record { 0 = k })) (expected_in s) = cc in
        rw (← before, ← loaded, ← after, ← cycles) w
