-- Demand 3 as a statement about `step_of`'s instructions and `run_of`: an accepted routine comes home (document 01,
-- "Start" and "The way home"; document 02, b, of the lowest SP, and e, of home).
-- Assumes nothing.
use Rattle.std.specs.Prelude.{ℕ, ◌+◌, ◌-◌, ◌/◌, ◌%◌, ◌≤◌, ◌<◌, ◌≡◌, ◌⊎◌, List, [], ◌∷◌, ◌++◌, length, get_or}
use Rattle.registers.specs.declared.Data.{Data}
use Rattle.registers.specs.declared.Registers.{Registers}
use Rattle.registers.specs.Registers.{start_of}
use Rattle.memory.specs.Memory.{Store, byte_at}
use Rattle.stepper.specs.declared.environment.Environment.{Environment}
use Rattle.stepper.specs.Answer.{home, spent, registers_reached}
use Rattle.stepper.specs.Run.{AfterRun, run_of}
use Rattle.ticket.specs.Fields.{Fields}
use Rattle.commands.specs.Every.{Every}
use Rattle.ticket.specs.Rules.{In}
use Rattle.stepper.specs.Trace.{Event, total, least_sp, Along}
use Rattle.rules.specs.InUse.{in_use_after}

-- T, the stack window's last address
abbrev pub top_of : Fields → ℕ
top_of f = f.header.stack.start + f.header.stack.length - 1

-- what a run of the routine is given: home as the ticket has it
abbrev pub environment_of : Fields → Environment
environment_of f = record { home = f.header.home }

-- the start: the image fills the code window, home goes in with its high byte at T - 1 and its low byte at T, and every
-- other byte is free
pub record Loaded (f : Fields) (image m : List ℕ) : Type 0 where
  pub whole : length m ≡ 65536
  pub code : (i : ℕ) → i < length image → byte_at m (f.header.code.start + i) ≡ get_or image i 0
  pub home_low : byte_at m (top_of f) ≡ f.header.home % 256
  pub home_high : byte_at m (top_of f - 1) ≡ f.header.home / 256

-- a byte that is written lies in the data or the stack window, is no code byte and no byte of a return address in use
pub record Spares (f : Fields) (used : List (List ℕ)) (w : Store) : Type 0 where
  pub inside : In f.header.«data» w.at ⊎ In f.header.stack w.at
  pub code : In f.header.code w.at → ⊥
  pub returns : Every (Every (λ a. w.at ≡ a → ⊥)) used

-- not below the start's SP, which is T - 2, less need: as numbers, so nothing wraps
abbrev pub WithinNeed : (f : Fields) (need sp : ℕ) → Type 0
WithinNeed f need sp = top_of f ≤ sp + 2 + need

-- after an instruction SP lies from one below the stack window to T; it, and the lowest SP in the registers, is never
-- more than need below the start's
pub record Keeps (f : Fields) (need : ℕ) (used : List (List ℕ)) (ev : Event) : Type 0 where
  pub spares : Every (Spares f used) ev.stores
  pub sp_low : f.header.stack.start ≤ ev.sp + 1
  pub sp_high : ev.sp ≤ top_of f
  pub sp_need : WithinNeed f need ev.sp
  pub lowest_need : WithinNeed f need ev.lowest

abbrev pub Safe : Fields → ℕ → List (List ℕ) → List Event → Type 0
Safe f need used [] = Unit
Safe f need used (ev ∷ evs) = Keeps f need used ev × Safe f need (in_use_after ev.flow ev.stores used) evs

-- home's two bytes are in use from the start
abbrev pub home_pair : Fields → List ℕ
home_pair f = top_of f ∷ (top_of f - 1) ∷ []

-- the answer of a run, with the memory
abbrev pub ran_home : Registers → List ℕ → ℕ → AfterRun
ran_home q n k = record { answer = home q (record { 0 = k }); memory = n }

abbrev pub ran_spent : Registers → List ℕ → ℕ → AfterRun
ran_spent q n k = record { answer = spent q (record { 0 = k }); memory = n }

-- where the budget b does not cover a trace: the run goes along it as far as the budget does, and the lowest SP is the
-- least so far, the start's among them
pub record Stops (env : Environment) (r : Registers) (m : List ℕ) (events : List Event) (b : ℕ) : Type 0 where
  pub before : List Event
  pub next : Event
  pub rest : List Event
  pub parts : events ≡ before ++ (next ∷ rest)
  pub registers : Registers
  pub memory : List ℕ
  pub along : Along env r m before registers memory
  pub covered : total before ≤ b
  pub uncovered : b < total before + next.cycles
  pub lowest : registers.lowest ≡ least_sp r.sp before
  pub answer : run_of env r m b ≡ ran_spent registers memory (total before)

-- from the registers r and the memory m, where cost and need are the entry's
pub record ComesHome (f : Fields) (env : Environment) (cost need : ℕ) (r : Registers) (m : List ℕ) : Type 0 where
  -- the way home: the instructions, and the registers and the memory reached
  pub events : List Event
  pub last : Registers
  pub memory : List ℕ
  pub along : Along env r m events last memory
  pub home : last.pc ≡ env.home
  -- it is the only one
  pub only : (evs : List Event) (e : Registers) (n : List ℕ) → Along env r m evs e n → e.pc ≡ env.home →
      (evs ≡ events) × (e ≡ last) × (n ≡ memory)
  -- it ends within the certified cycles, with an empty stack
  pub in_time : total events ≤ cost
  pub empty : last.sp ≡ top_of f
  pub safe : Safe f need (home_pair f ∷ []) events
  -- the run, for every budget
  pub covered : (b : ℕ) → total events ≤ b → run_of env r m b ≡ ran_home last memory (total events)
  pub uncovered : (b : ℕ) → b < total events → Stops env r m events b
  -- the lowest SP that the run answers: for every budget within the need, and at home the least SP of the whole way
  pub run_lowest : (b : ℕ) → WithinNeed f need (registers_reached (run_of env r m b).answer).lowest
  pub home_lowest : last.lowest ≡ least_sp r.sp events

-- of an accepted ticket and image, for all A, B, X, Y and flags and all memory outside the code and home bytes: the way
-- ends at the ticket's home
abbrev pub Demand3 : Fields → List ℕ → ℕ → ℕ → Type 0
Demand3 f image cost need =
    (d : Data) (m : List ℕ) → Loaded f image m
    → ComesHome f (environment_of f) cost need (start_of d f.header.entry (top_of f)) m
