-- A trace: the instructions that the step does one after another, the sum of their cycles and the least SP (document
-- 01's "way home" is one that ends at the environment's home: document 02, e).
-- Assumes nothing.
use Rattle.std.specs.Prelude.{ℕ, ◌+◌, ◌≡◌, List, [], ◌∷◌}
use Rattle.registers.specs.Word.{smaller_of}
use Rattle.registers.specs.declared.Registers.{Registers}
use Rattle.memory.specs.Memory.{Store, applied}
use Rattle.stepper.specs.declared.environment.Environment.{Environment}
use Rattle.stepper.specs.Step.{did, did_of}
use Rattle.stepper.specs.Flow.{Flow, flow_of}

-- an instruction of a trace: its flow, its stores in order, its cycles; and after it SP, and the lowest SP that the
-- registers hold
pub record Event : Type 0 where
  pub flow : Flow
  pub stores : List Store
  pub cycles : ℕ
  pub sp : ℕ
  pub lowest : ℕ

-- the one that memory has at PC, which leads to the registers q
abbrev pub event_at : Registers → List ℕ → (q : Registers) (stores : List Store) (cycles : ℕ) → Event
event_at r m q ws k =
    record { flow = flow_of m r.pc; stores = ws; cycles = k; sp = q.sp; lowest = q.lowest }

abbrev pub total : List Event → ℕ
total [] = 0
total (ev ∷ evs) = ev.cycles + total evs

-- the least of s and SP after each instruction
abbrev pub least_sp : (s : ℕ) → List Event → ℕ
least_sp s [] = s
least_sp s (ev ∷ evs) = least_sp (smaller_of ev.sp s) evs

-- `Along env r m evs q n`: from the registers r and the memory m the step does the instructions evs, none of them at
-- home, and reaches q and n; from home there is the empty one alone
pub data Along (env : Environment) : Registers → List ℕ → List Event → Registers → List ℕ → Type 0 where
  stay : {r : Registers} {m : List ℕ} → Along env r m [] r m
  then : {r q e : Registers} {m n : List ℕ} {ws : List Store} {k : ℕ} {evs : List Event}
      → (r.pc ≡ env.home → ⊥) → did_of r m ≡ did q ws k → Along env q (applied ws m) evs e n
      → Along env r m (event_at r m q ws k ∷ evs) e n
