-- What the C calls of the verdict and of the start come to, by the verdict's own definitions (document 01, "The
-- machine": the press monitor is written in C). What a call does not answer stays as it was lent (demand 1: a refusal
-- alters no lent byte).
-- Assumes nothing.
use Rattle.std.specs.Prelude.{ℕ, cond, ◌&&◌, List, eqb, length, Ok, Err}
use Rattle.registers.specs.Registers.{data_of}
use Rattle.verdict.specs.Certification.{Certification, certification_of}
use Rattle.verdict.specs.Start.{Started, started_of, loaded_of}
use Rattle.verdict.specs.Routine.{start_routine_of}
use Rattle.monitor.specs.RegisterBytes.{register_size, packed, unpacked}
use Rattle.monitor.specs.Slot.{slot_size, slot_of, header_in}
use Rattle.answers.specs.Cause.{number_of}

-- the verdict's call: its outcome, and the numbers that it was lent, afterwards
pub record VerdictCall : Type 0 where
  pub outcome : ℕ
  pub entry : ℕ
  pub home : ℕ
  pub cost : ℕ
  pub stack : ℕ
  pub place : ℕ

abbrev pub verdict_call : (outcome entry home cost stack place : ℕ) → VerdictCall
verdict_call n e h c s p = record { outcome = n; entry = e; home = h; cost = c; stack = s; place = p }

-- 0 for acceptance, with the ticket's entry and home and the certified figures; or the refusal's number, which is never
-- 0. e, h, c, s and p are the numbers as they were lent
abbrev pub of_judged : Certification → (e h c s p : ℕ) → VerdictCall
of_judged (Ok k) e h c s p =
    verdict_call 0 k.header.entry k.header.home k.cost.0 k.stack.0 p
of_judged (Err r) e h c s p = verdict_call (number_of r.cause) e h c s r.place

-- a start's call: its outcome, and the numbers and the bytes that it was lent, afterwards
pub record StartCall : Type 0 where
  pub outcome : ℕ
  pub home : ℕ
  pub place : ℕ
  pub registers : List ℕ
  pub memory : List ℕ

abbrev pub start_call : (outcome home place : ℕ) (registers memory : List ℕ) → StartCall
start_call n h p rs m = record { outcome = n; home = h; place = p; registers = rs; memory = m }

-- h, p and rs are home, the place and the register bytes before it, m the memory after it
abbrev pub of_started : Started → (h p : ℕ) (rs m : List ℕ) → StartCall
of_started (Ok s) h p rs m = start_call 0 s.home p (packed s.registers) m
of_started (Err r) h p rs m = start_call (number_of r.cause) h r.place rs m

-- 21 at 0 is checked first, of the registers and of the memory; then what the verdict refuses is refused
unfoldable pub start_bytes_of : (home place : ℕ) (ticket image registers memory : List ℕ) → StartCall
start_bytes_of h p ticket image rs m =
    let b = start_routine_of ticket image (data_of (unpacked rs)) m in
    cond (eqb (length rs) register_size) (of_started b.answer h p rs b.memory) (start_call 21 h 0 rs m)

-- the call that fills a slot: its outcome, and the number and the bytes that it was lent, afterwards
pub record CertifyCall : Type 0 where
  pub outcome : ℕ
  pub place : ℕ
  pub slot : List ℕ

abbrev pub certify_call : (outcome place : ℕ) (slot : List ℕ) → CertifyCall
certify_call n p bs = record { outcome = n; place = p; slot = bs }

abbrev pub of_certification : Certification → (p : ℕ) (slot : List ℕ) → CertifyCall
of_certification (Ok c) p bs = certify_call 0 p (slot_of c)
of_certification (Err r) p bs = certify_call (number_of r.cause) r.place bs

-- 21 at 0 is checked first, of the slot; then what the verdict refuses is refused
unfoldable pub certify_bytes_of : (place : ℕ) (ticket image slot : List ℕ) → CertifyCall
certify_bytes_of p ticket image bs =
    cond (eqb (length bs) slot_size) (of_certification (certification_of ticket image) p bs) (certify_call 21 0 bs)

-- the start from a slot of any bytes. 21 at 0 is checked first, of the slot, the registers and the memory; then 9, of
-- the image
unfoldable pub start_slot_of : (home place : ℕ) (slot image registers memory : List ℕ) → StartCall
start_slot_of h p bs image rs m =
    let head = header_in bs in
    cond
    (eqb (length bs) slot_size && eqb (length rs) register_size)
    (of_started (started_of head (data_of (unpacked rs)) image m) h p rs (loaded_of head image m))
    (start_call 21 h 0 rs m)
