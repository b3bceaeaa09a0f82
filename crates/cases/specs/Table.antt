-- Document 01's twelve proved cases, and those of document 02's lowest SP, as tables. `proofs/Table.antt` has the
-- theorems that all of them hold.
-- Assumes nothing.
use Rattle.std.specs.Prelude.{◌≡◌, ℕ, ◌+◌, ◌-◌, List, [], ◌∷◌, ◌++◌, length, replicate, Ok, Err}
use Rattle.registers.specs.Registers.{start_of}
use Rattle.registers.specs.declared.Registers.{Registers}
use Rattle.stepper.specs.Answer.{Answer, done, RunAnswer, home, spent}
use Rattle.stepper.specs.declared.environment.Environment.{Environment}
use Rattle.stepper.specs.Step.{step_of}
use Rattle.stepper.specs.Run.{run_of}
use Rattle.ticket.specs.Read.{refusal}
use Rattle.answers.specs.Cause.{number_of}
use Rattle.answers.specs.Verdict.{Verdict}
use Rattle.answers.specs.declared.Cause.{Cause}
use Rattle.answers.specs.declared.Cause.TheVariants.{TicketCut, CostTooLow, OverLimit, StackTooSmall}
use Rattle.rules.specs.Checks.{verdict_of}

-- zeros, with some bytes from $8000 on
unfoldable pub memory_with : List ℕ → List ℕ
memory_with code = replicate 0x8000 0 ++ (code ++ replicate (0x8000 - length code) 0)

-- the start with some flags, and the stack window's last address at $01F4
abbrev pub start : ℕ → ℕ → ℕ → ℕ → Registers
start f a b x = start_of (record { x = x; y = 0; a = a; b = b; flags = f }) 0x8000 0x1f4

-- A, B, X, SP, PC and the flags, with the lowest SP; Y is 0
abbrev pub regs : (a b x sp pc flags lowest : ℕ) → Registers
regs a b x sp pc f low = record { x = x; y = 0; sp = sp; pc = pc; lowest = low; a = a; b = b; flags = f }

-- the entry, the certified cycles and the stack bytes
abbrev pub accept : (entry cost stack : ℕ) → Verdict
accept e k n = Ok (record { entry = e; cost = record { 0 = k }; stack = record { 0 = n } })

-- document 01's home
abbrev pub home_zero : Environment
home_zero = record { home = 0 }

pub data Case : Type 0 where
  -- a ticket, an image and the verdict
  verdict : List ℕ → List ℕ → Verdict → Case
  -- a ticket and an image that are refused: the cause, its number and its place
  refused : List ℕ → List ℕ → (c : Cause) (number place : ℕ) → Case
  -- bytes from $8000 on, the registers before, and the step's answer
  step : List ℕ → Registers → Answer → Case
  -- the budget and the run's answer besides
  run : List ℕ → Registers → ℕ → RunAnswer → Case

abbrev pub Holds : Case → Type 0
Holds (verdict ticket image v) = verdict_of ticket image ≡ v
Holds (refused ticket image c n p) = (verdict_of ticket image ≡ Err (refusal c p)) × (number_of c ≡ n)
Holds (step code r a) = (step_of r (memory_with code)).answer ≡ a
Holds (run code r b a) = (run_of home_zero r (memory_with code) b).answer ≡ a

abbrev pub AllHold : List Case → Type 0
AllHold [] = Unit {0}
AllHold (c ∷ cs) = Holds c × AllHold cs

unfoldable pub routine_p : List ℕ
routine_p = 0x36 ∷ 0xbd ∷ 0x80 ∷ 0x08 ∷ 0x32 ∷ 0x39 ∷ 0x01 ∷ 0x01 ∷ 0x97 ∷ 0x40 ∷ 0x39 ∷ []

-- P's ticket, but for the stack's length, the limit and the cost at $8001, of one byte each
unfoldable pub ticket_p : (stack limit cost : ℕ) → List ℕ
ticket_p stack limit cost =
    0x01 ∷ 0x80 ∷ 0x00 ∷ 0x00 ∷ 0x0b ∷  -- code $8000, 11 bytes
    0x02 ∷ 0x00 ∷ 0x40 ∷ 0x00 ∷ 0x01 ∷  -- data $0040, 1 byte
    0x03 ∷ 0x01 ∷ 0xf0 ∷ 0x00 ∷ stack ∷  -- stack $01F0
    0x04 ∷ 0x80 ∷ 0x00 ∷ 0x00 ∷ 0x00 ∷ 0x00 ∷ limit ∷  -- entry $8000
    0x05 ∷ 0x80 ∷ 0x00 ∷ 0x00 ∷ 0x00 ∷ 0x00 ∷ 26 ∷ 0x00 ∷ 0 ∷ 0x00 ∷ 3 ∷
    0x05 ∷ 0x80 ∷ 0x01 ∷ 0x00 ∷ 0x00 ∷ 0x00 ∷ cost ∷ 0x00 ∷ 1 ∷ 0x00 ∷ 2 ∷
    0x05 ∷ 0x80 ∷ 0x04 ∷ 0x00 ∷ 0x00 ∷ 0x00 ∷ 9 ∷ 0x00 ∷ 1 ∷ 0x00 ∷ 0 ∷
    0x05 ∷ 0x80 ∷ 0x05 ∷ 0x00 ∷ 0x00 ∷ 0x00 ∷ 5 ∷ 0x00 ∷ 0 ∷ 0x00 ∷ 0 ∷
    0x05 ∷ 0x80 ∷ 0x08 ∷ 0x00 ∷ 0x00 ∷ 0x00 ∷ 8 ∷ 0x00 ∷ 0 ∷ 0x00 ∷ 0 ∷
    0x05 ∷ 0x80 ∷ 0x0a ∷ 0x00 ∷ 0x00 ∷ 0x00 ∷ 5 ∷ 0x00 ∷ 0 ∷ 0x00 ∷ 0 ∷
    0x00 ∷ []

unfoldable pub cases : List Case
cases =
    -- 1: P is accepted
    verdict (ticket_p 5 26 23) routine_p (accept 0x8000 26 5) ∷
    -- 2: P runs home in 26 cycles; lowest SP $01EF, last $01F4
    run routine_p (start 0xd0 7 0 0) 26 (home (regs 7 0 0 0x1f4 0 0xd0 0x1ef) (record { 0 = 26 })) ∷
    -- 3: budget 25: spent at 21, PC $8005
    run routine_p (start 0xd0 7 0 0) 25 (spent (regs 7 0 0 0x1f2 0x8005 0xd0 0x1ef) (record { 0 = 21 })) ∷
    -- 4: limit 25: 19
    refused (ticket_p 5 25 23) routine_p OverLimit 19 0x8000 ∷
    -- 5: stack of 4: 20
    refused (ticket_p 4 26 23) routine_p StackTooSmall 20 0x8000 ∷
    -- 6: cost 22 at $8001: 16 there
    refused (ticket_p 5 26 22) routine_p CostTooLow 16 0x8001 ∷
    -- 7: empty ticket: 2 at 0
    refused [] routine_p TicketCut 2 0 ∷
    -- 8: ABA, A $7F, B $01: A $80; H N V set, Z C, which were set, clear; 2 cycles
    step (0x1b ∷ []) (start 0xd5 0x7f 0x01 0) (done (regs 0x80 0x01 0 0x1f2 0x8001 0xfa 0x1f2) (record { 0 = 2 })) ∷
    -- 9: ABX, X $FFFF, B 2: X $0001
    step (0x3a ∷ []) (start 0xd0 0 2 0xffff) (done (regs 0 2 1 0x1f2 0x8001 0xd0 0x1f2) (record { 0 = 3 })) ∷
    -- 10: ASLA, A $80: A 0; Z V C set, N, which was set, clear
    step (0x48 ∷ []) (start 0xd8 0x80 0 0) (done (regs 0 0 0 0x1f2 0x8001 0xd7 0x1f2) (record { 0 = 2 })) ∷
    -- 11: IDIV, D 7, X 2: X 3, D 1; 41 cycles
    step (0x02 ∷ []) (start 0xd0 0 7 2) (done (regs 0 1 3 0x1f2 0x8001 0xd0 0x1f2) (record { 0 = 41 })) ∷
    -- 12: BSR at $8000 with $FE: PC $8000, SP less 2
    step (0x8d ∷ 0xfe ∷ []) (start 0xd0 0 0 0) (done (regs 0 0 0 0x1f0 0x8000 0xd0 0x1f0) (record { 0 = 6 })) ∷
    []

-- an instruction at $8000, from an SP and a lowest SP handed in, with X $0080: SP and the lowest SP afterwards
abbrev pub lowest_case : (code : List ℕ) (sp low length sp' low' cycles : ℕ) → Case
lowest_case code sp low n sp' low' k =
    step code (regs 0 0 0x80 sp 0x8000 0xd0 low) (done (regs 0 0 0x80 sp' (0x8000 + n) 0xd0 low') (record { 0 = k }))

unfoldable pub lowest_cases : List Case
lowest_cases =
    -- INS: handed in above SP while SP rises: SP before is not looked at
    lowest_case (0x31 ∷ []) 0x1f0 0xffff 1 0x1f1 0x1f1 3 ∷
    -- DES from 0: a wrap to $FFFF lowers nothing
    lowest_case (0x34 ∷ []) 0 5 1 0xffff 5 3 ∷
    -- DES: 0 handed in stays
    lowest_case (0x34 ∷ []) 0x1f2 0 1 0x1f1 0 3 ∷
    -- TXS: SP is X - 1
    lowest_case (0x35 ∷ []) 0x1f2 0x1f2 1 0x7f 0x7f 3 ∷
    -- LDS #$0100, from above and from below it
    lowest_case (0x8e ∷ 0x01 ∷ 0x00 ∷ []) 0x1f2 0x1f2 3 0x100 0x100 3 ∷
    lowest_case (0x8e ∷ 0x01 ∷ 0x00 ∷ []) 0x7f 0x7f 3 0x100 0x7f 3 ∷
    []
