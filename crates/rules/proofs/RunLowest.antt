-- The lowest SP that a run along a safe trace answers is within the need, whatever the budget.
-- Assumes nothing.
use Prim.Native.Nat.{ℕ}
use mathlib.Core.Path.{◌≡◌}
use mathlib.Core.Logic.{⊎_elim}
use mathlib.Core.List.{List, [], ◌∷◌, ◌++◌, append-nil}
use lib.ListN.{length}
use Rattle.registers.specs.declared.Registers.{Registers}
use Rattle.std.proofs.lemmas.Bool.{cases_lt}
use Rattle.stepper.specs.declared.environment.Environment.{Environment}
use Rattle.stepper.specs.Answer.{registers_reached}
use Rattle.stepper.specs.Run.{run_of}
use Rattle.stepper.specs.Trace.{Event, event_at, total, Along, stay, then}
use Rattle.ticket.specs.Fields.{Fields}
use Rattle.rules.specs.Claim.{WithinNeed, Safe}
use Rattle.rules.specs.InUse.{in_use_after}
use Rattle.rules.proofs.Budget.{run_home, run_stops}

module _ (f : Fields) (env : Environment) (need : ℕ) where
  -- after the first instructions of a safe trace
  reached_near : (used : List (List ℕ)) {r e : Registers} {m n : List ℕ} {evs : List Event} (rest : List Event)
      → Along env r m evs e n → Safe f need used (evs ++ rest) → WithinNeed f need r.lowest
      → WithinNeed f need e.lowest
  reached_near used rest stay S near = near
  reached_near used rest (then {r = r} {q = q} {m = m} {ws = ws} {k = k} away does a) S near =
      let ev = event_at r m q ws k in reached_near (in_use_after ev.flow ev.stores used) rest a S.1 S.0.lowest_need

  pub run_near : (used : List (List ℕ)) {r e : Registers} {m n : List ℕ} {evs : List Event} → r.lowest ≡ r.sp
      → length m ≡ 65536 → Along env r m evs e n → e.pc ≡ env.home → Safe f need used evs
      → WithinNeed f need r.lowest → (b : ℕ) → WithinNeed f need (registers_reached (run_of env r m b).answer).lowest
  run_near used {evs} begins whole a h S near b =
      ⊎_elim (λ l.
      let s = run_stops env begins whole a b l in
      rw s.answer (reached_near used (s.next ∷ s.rest) s.along (rw s.parts at S) near))
      (λ l. rw (run_home env whole a h b l) (reached_near used [] a (rw append-nil S) near))
      (cases_lt b (total evs))
