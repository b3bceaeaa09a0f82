-- Demand 3 of C's bytes: what the C calls start, C's run brings home.
-- Assumes nothing.
use Rattle.std.specs.Prelude.{ℕ, ◌-◌, ◌≤◌, ◌<◌, ◌≡◌, List, length}
use Rattle.commands.specs.Number.{AllBytes}
use Rattle.stepper.specs.Trace.{total}
use Rattle.rules.specs.Claim.{WithinNeed, Stops}
use Rattle.verdict.specs.Routine.{StartCertified}
use Rattle.monitor.specs.BigEndian.{word_in}
use Rattle.monitor.specs.RegisterBytes.{register_size, packed, unpacked}
use Rattle.monitor.specs.StepperCalls.{stepper_call, run_bytes_of}
use Rattle.monitor.specs.Slot.{certificate_in}
use Rattle.monitor.specs.RoutineCalls.{start_bytes_of, certify_call, certify_bytes_of, start_slot_of}

-- from the register bytes rs and the memory m the routine comes home; and so does C's run on them, given this home,
-- whatever is lent as cycles c and place p: for every budget b that covers the way home it answers home, with the way's
-- cycles, and the registers and the memory at its end; for every other budget spent, as far along the way as the budget
-- goes. For every budget the lowest SP, in bytes 11 and 12 of the registers that it leaves, is not below the start's SP
-- less the need
pub record BytesComeHome (ticket image rs : List ℕ) (home : ℕ) (m : List ℕ) : Type 0 where
  pub start : StartCertified ticket image (unpacked rs) home m
  pub covered : (b c p : ℕ) → let H = start.comes_home in
      total H.events ≤ b
      → run_bytes_of c p rs m home b ≡ stepper_call 0 (total H.events) p (packed H.last) H.memory
  pub uncovered : (b c p : ℕ) → b < total start.comes_home.events
      → (S : Stops (record { home = home }) (unpacked rs) m start.comes_home.events b)
      × (run_bytes_of c p rs m home b ≡ stepper_call 100 (total S.before) p (packed S.registers) S.memory)
  pub lowest : (b c p : ℕ)
      → WithinNeed start.certified.fields (start.stack.0 - 2) (word_in (run_bytes_of c p rs m home b).registers 11)

-- what is judged and started comes home
abbrev pub StartedBytesComeHome : (home place : ℕ) (ticket image registers memory : List ℕ) → Type 0
StartedBytesComeHome h p ticket image rs m =
    let b = start_bytes_of h p ticket image rs m in
    b.outcome ≡ 0 → BytesComeHome ticket image b.registers b.home b.memory

-- every start from a slot comes home, whatever the registers, the memory, home and the place that are lent, within the
-- slot's certified figures
abbrev pub SlotComesHome : (ticket image slot : List ℕ) → Type 0
SlotComesHome ticket image slot =
    (h p : ℕ) (rs m : List ℕ) → length rs ≡ register_size → length m ≡ 65536
    → let b = start_slot_of h p slot image rs m in
    (b.outcome ≡ 0)
    × (H : BytesComeHome ticket image b.registers b.home b.memory)
    × (H.start.cost ≡ (certificate_in slot).cost)
    × (H.start.stack ≡ (certificate_in slot).stack)

-- a slot that was filled comes home
abbrev pub FilledSlotComesHome : (place : ℕ) (ticket image slot : List ℕ) → Type 0
FilledSlotComesHome p ticket image bs =
    let f = certify_bytes_of p ticket image bs in f.outcome ≡ 0 → SlotComesHome ticket image f.slot

-- the slot is what the call that fills one left there for this image, when it accepted some ticket
abbrev pub FilledFor : (ticket image slot : List ℕ) → Type 0
FilledFor ticket image slot = (p : ℕ) × (old : List ℕ) × (certify_bytes_of p ticket image old ≡ certify_call 0 p slot)

-- so every start from such a slot comes home
abbrev pub StartsFromFilledSlot : (slot image : List ℕ) → Type 0
StartsFromFilledSlot slot image =
    (ticket : List ℕ) → AllBytes ticket → FilledFor ticket image slot → SlotComesHome ticket image slot
