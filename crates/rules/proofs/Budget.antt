-- The run goes along a trace as far as the budget covers it.
-- Assumes nothing.
use Prim.Native.Nat.{ℕ, suc, ◌+◌, ◌≤◌, ◌<◌}
use mathlib.Core.Path.{◌≡◌, refl, ap, ◌∙◌}
use mathlib.Core.Logic.{⊎_elim}
use mathlib.Core.List.{List, [], ◌∷◌, ◌++◌, append_assoc}
use native.Mathlib.Omega.{arith}
use native.Mathlib.Nat.{zero-add, add-zero, add_assoc}
use lib.ListN.{length}
use borrow.Author.Tests.{eq-eqb}
use Rattle.registers.specs.declared.Registers.{Registers}
use Rattle.std.proofs.lemmas.Bool.{cases_lt}
use Rattle.memory.specs.Memory.{Store, applied}
use Rattle.stepper.specs.declared.environment.Environment.{Environment}
use Rattle.stepper.specs.Step.{did, did_of}
use Rattle.stepper.specs.Run.{AfterRun, run_from, run_of}
use Rattle.stepper.proofs.RunTurn.{at_home, covered, uncovered}
use Rattle.stepper.proofs.EnoughTurns.{enough}
use Rattle.stepper.proofs.Lowest.{trace_lowest}
use Rattle.stepper.specs.Trace.{Event, event_at, total, least_sp, Along, stay, then}
use Rattle.rules.specs.Claim.{ran_home, ran_spent, Stops}
use Rattle.rules.proofs.Obeys.{busy}

total-++ : (evs evs' : List Event) → total (evs ++ evs') ≡ total evs + total evs'
total-++ [] evs' = rw zero-add refl
total-++ (ev ∷ evs) evs' = rw (total-++ evs evs', add_assoc) refl

module _ (env : Environment) where
  -- the run that has spent s of b
  abbrev run_on : ℕ → ℕ → Registers → List ℕ → AfterRun
  run_on b s r m = run_from env (suc b) b s r m

  starts : (r : Registers) (m : List ℕ) (b : ℕ) → length m ≡ 65536 → run_of env r m b ≡ run_on b 0 r m
  unfolding run_of
  starts r m b whole = simp (eq-eqb _ _ whole)

  module _ (b s : ℕ) (r : Registers) (m : List ℕ) {q : Registers} {ws : List Store} {k : ℕ}
      (away : r.pc ≡ env.home → ⊥) (does : did_of r m ≡ did q ws k) where
    goes_on : s + k ≤ b → run_on b s r m ≡ run_on b (s + k) q (applied ws m)
    goes_on l =
        let two = busy r q m ws k does in
        covered env b b s r m away does l
        ∙ enough env b (suc b) b (s + k) q (applied ws m) l (omega (arith, two)) (omega arith)

    stands : b < s + k → run_on b s r m ≡ ran_spent r m s
    stands l = uncovered env b b s r m away does l

  -- a trace that is covered is gone along
  follows : {r e : Registers} {m n : List ℕ} {evs : List Event} (b s : ℕ) → Along env r m evs e n → s + total evs ≤ b →
      run_on b s r m ≡ run_on b (s + total evs) e n
  follows b s stay l = rw add-zero refl
  follows b s (then {r} {m} {k} away done rest) l =
      goes_on b s r m away done (omega arith) ∙ follows b (s + k) rest (omega arith) ∙ rw add_assoc refl

  from_start : {r e : Registers} {m n : List ℕ} {evs : List Event} (b : ℕ) → length m ≡ 65536 → Along env r m evs e n →
      total evs ≤ b → run_of env r m b ≡ run_on b (total evs) e n
  from_start {r} {m} {evs} b whole a l = starts r m b whole ∙ follows b 0 a (omega arith) ∙ rw zero-add refl

  pub run_home : {r e : Registers} {m n : List ℕ} {evs : List Event} → length m ≡ 65536 → Along env r m evs e n
      → e.pc ≡ env.home → (b : ℕ) → total evs ≤ b → run_of env r m b ≡ ran_home e n (total evs)
  run_home {e} {n} {evs} whole a h b l = from_start b whole a l ∙ at_home env b b (total evs) e n h

  -- two traces, one after the other
  joined : {r q e : Registers} {m n o : List ℕ} {evs evs' : List Event} → Along env r m evs q n
      → Along env q n evs' e o → Along env r m (evs ++ evs') e o
  joined stay a' = a'
  joined (then away done a) a' = then away done (joined a a')

  module _ (r₀ : Registers) (begins : r₀.lowest ≡ r₀.sp) (m₀ : List ℕ) (whole : length m₀ ≡ 65536) (b : ℕ) where
    -- where the next instruction is not covered
    stops_here : (before : List Event) {r q : Registers} {m : List ℕ} {ws : List Store} (ev : Event) (evs : List Event)
        → Along env r₀ m₀ before r m → total before ≤ b → (r.pc ≡ env.home → ⊥) → did_of r m ≡ did q ws ev.cycles
        → b < total before + ev.cycles → Stops env r₀ m₀ (before ++ (ev ∷ evs)) b
    stops_here before {r} {m} ev evs a l away done u = record {
      before = before;
      next = ev;
      rest = evs;
      parts = refl;
      registers = r;
      memory = m;
      along = a;
      covered = l;
      uncovered = u;
      lowest = trace_lowest a ∙ ap (λ (s : ℕ). least_sp s before) begins;
      answer = from_start b whole a l ∙ stands b (total before) r m away done u;
    }

    -- what is done is covered, and all that is left is not
    stops : (before : List Event) {r e : Registers} {m n : List ℕ} {evs : List Event} → Along env r₀ m₀ before r m →
        total before ≤ b → Along env r m evs e n
        → b < total before + total evs → Stops env r₀ m₀ (before ++ evs) b
    stops before a l stay u = absurd (omega arith)
    stops before a l (then {r} {q} {m} {ws} {k} {evs} away done rest) u =
        let ev : Event = event_at r m q ws k in
        let sum : total (before ++ (ev ∷ [])) ≡ total before + k = rw (total-++ before (ev ∷ []), add-zero) refl in
        ⊎_elim (λ c. stops_here before ev evs a l away done c) (λ c.
        let later = stops (before ++ (ev ∷ [])) (joined a (then away done stay)) (omega (arith, sum, c)) rest
        (omega (arith, sum)) in
        rw (append_assoc before (ev ∷ []) evs) at later)
        (cases_lt b (total before + k))

  -- from registers whose lowest SP is their SP
  pub run_stops : {r e : Registers} {m n : List ℕ} {evs : List Event} → r.lowest ≡ r.sp → length m ≡ 65536
      → Along env r m evs e n → (b : ℕ) → b < total evs → Stops env r m evs b
  run_stops {r} {m} begins whole a b u = stops r begins m whole b [] stay (omega arith) a (omega arith)
