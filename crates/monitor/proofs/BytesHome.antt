-- What comes home from registers and a memory comes home from the registers' bytes by C's run; so what the start call
-- answers with 0 comes home.
-- Assumes nothing.
use Rattle.std.specs.Prelude.{Ok, Err}
use Prim.Native.Nat.{ℕ, ◌-◌, ◌≤◌}
use mathlib.Core.Path.{◌≡◌, refl, sym, ap}
use mathlib.Core.Bool.{Bool, true, false, cond}
use mathlib.Core.List.{List}
use native.Mathlib.Omega.{arith}
use borrow.Author.Tests.{eq-eqb, leb-true, leb-false}
use lib.Dec.{eqb, leb}
use lib.ListN.{length}
use Rattle.registers.specs.declared.Cycles.{Cycles}
use Rattle.registers.specs.declared.Registers.{Registers}
use Rattle.registers.specs.Registers.{data_of}
use Rattle.commands.specs.Number.{AllBytes}
use Rattle.stepper.specs.declared.environment.Environment.{Environment}
use Rattle.stepper.specs.Answer.{home, refused}
use Rattle.stepper.specs.Run.{AfterRun, run_of}
use Rattle.stepper.specs.Trace.{total}
use Rattle.rules.specs.Claim.{WithinNeed, Stops, ran_home}
use Rattle.verdict.specs.Start.{Started}
use Rattle.verdict.specs.Routine.{AfterStart, start_routine_of, StartCertified}
use Rattle.verdict.proofs.Home.{started_comes_home}
use Rattle.answers.proofs.Causes.{number_positive}
use Rattle.monitor.specs.BigEndian.{word_in}
use Rattle.monitor.specs.RegisterBytes.{register_size, packed, unpacked}
use Rattle.monitor.specs.StepperCalls.{stepper_call, run_bytes_of}
use Rattle.monitor.proofs.RegisterRoundTrip.{unpacked_packed, lowest_word}
use Rattle.monitor.specs.Home.{BytesComeHome, StartedBytesComeHome}
use Rattle.monitor.specs.RoutineCalls.{StartCall, start_call, of_started, start_bytes_of}

refused_not_home : (n p : ℕ) (r q : Registers) (j k : Cycles) → refused n p r j ≡ home q k → ⊥
refused_not_home n p r q j k h = let z : ◌≡◌ {A = ℕ} 0 1 = cc in omega arith

-- a run that comes home has a whole memory
whole_by : (env : Environment) (r : Registers) (m : List ℕ) (b : ℕ) (q : Registers) (n : List ℕ) (k : ℕ)
    → run_of env r m b ≡ ran_home q n k → (w : Bool) → eqb (length m) 65536 ≡ w → w ≡ true
unfolding run_of
whole_by env r m b q n k h true e = refl
whole_by env r m b q n k h false e =
    absurd (refused_not_home _ _ _ _ _ _ (ap (λ (a : AfterRun). a.answer) (rw e at h)))

module _ (ticket image rs : List ℕ) (at : ℕ) (m : List ℕ) (sized : length rs ≡ register_size)
    (C : StartCertified ticket image (unpacked rs) at m) where
  whole : eqb (length m) 65536 ≡ true
  whole =
      let H = C.comes_home in
      whole_by _ _ m _ _ _ _ (H.covered (total H.events) (omega arith)) (eqb (length m) 65536) refl

  covered : (b c p : ℕ) → let H = C.comes_home in
      total H.events ≤ b
      → run_bytes_of c p rs m at b ≡ stepper_call 0 (total H.events) p (packed H.last) H.memory
  unfolding run_bytes_of
  covered b c p l = rw (eq-eqb _ _ sized, whole, C.comes_home.covered b l)

  stopped : (b c p : ℕ) (S : Stops (record { home = at }) (unpacked rs) m C.comes_home.events b)
      → run_bytes_of c p rs m at b ≡ stepper_call 100 (total S.before) p (packed S.registers) S.memory
  unfolding run_bytes_of
  stopped b c p S = rw (eq-eqb _ _ sized, whole, S.answer)

  -- by whether the budget covers the way
  lowest_by : (b c p : ℕ) (w : Bool) → leb (total C.comes_home.events) b ≡ w
      → WithinNeed C.certified.fields (C.stack.0 - 2) (word_in (run_bytes_of c p rs m at b).registers 11)
  lowest_by b c p true e =
      let H = C.comes_home in
      let l = leb-true (total H.events) b e in
      rw (covered b c p l, lowest_word H.last) (rw (H.covered b l) at (H.run_lowest b))
  lowest_by b c p false e =
      let H = C.comes_home in
      let S = H.uncovered b (leb-false (total H.events) b e) in
      rw (stopped b c p S, lowest_word S.registers) (rw S.answer at (H.run_lowest b))

  abbrev bytes_come_home : BytesComeHome ticket image rs at m
  bytes_come_home =
      record {
        start = C;
        covered = covered;
        uncovered = λ b c p l. let S = C.comes_home.uncovered b l in (S, stopped b c p S);
        lowest = λ b c p. lowest_by b c p (leb (total C.comes_home.events) b) refl;
      }

-- of the registers that the bytes hold, within the same figures
from_unpacked : (ticket image rs : List ℕ) (at : ℕ) (m : List ℕ) → length rs ≡ register_size → (r : Registers)
    → r ≡ unpacked rs → (C : StartCertified ticket image r at m)
    → (H : BytesComeHome ticket image rs at m) × (H.start.cost ≡ C.cost) × (H.start.stack ≡ C.stack)
from_unpacked ticket image rs at m sized r e = rw e (λ C. (bytes_come_home ticket image rs at m sized C, refl, refl))

packed_length : (r : Registers) → length (packed r) ≡ register_size
unfolding packed
packed_length r = refl

pub packed_come_home : (ticket image : List ℕ) (r : Registers) (at : ℕ) (m : List ℕ)
    (C : StartCertified ticket image r at m)
    → (H : BytesComeHome ticket image (packed r) at m) × (H.start.cost ≡ C.cost) × (H.start.stack ≡ C.stack)
packed_come_home ticket image r at m =
    from_unpacked ticket image (packed r) at m (packed_length r) r (sym (unpacked_packed r))

module _ (h p : ℕ) (ticket image rs m : List ℕ) (bytes : AllBytes ticket) where
  abbrev b : AfterStart
  b = start_routine_of ticket image (data_of (unpacked rs)) m

  abbrev Home : StartCall → Type 0
  Home g = g.outcome ≡ 0 → BytesComeHome ticket image g.registers g.home g.memory

  -- by the answer: 0 is no refusal's number
  home_of : (s : Started) → b.answer ≡ s → Home (of_started s h p rs b.memory)
  home_of (Ok s) e z =
      (packed_come_home ticket image s.registers s.home _ (started_comes_home ticket image bytes _ m s e)).0
  home_of (Err r) e z = absurd (omega (arith, z, number_positive r.cause))

  -- by whether there are as many register bytes as are asked for
  home_sized : (sized : Bool) → Home (cond sized (of_started b.answer h p rs b.memory) (start_call 21 h 0 rs m))
  home_sized true z = home_of b.answer refl z
  home_sized false z = absurd (omega (arith, z))

pub started_bytes_come_home : (h p : ℕ) (ticket image rs m : List ℕ) → AllBytes ticket
    → StartedBytesComeHome h p ticket image rs m
unfolding start_bytes_of
started_bytes_come_home h p ticket image rs m bytes =
    home_sized h p ticket image rs m bytes (eqb (length rs) register_size)
