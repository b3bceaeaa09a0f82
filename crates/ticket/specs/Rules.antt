-- What must hold of a ticket's fields for it to be read, stated without order or computation (document 01, "The
-- ticket", and causes 3 to 7; document 02, e, and its 29). What must hold of names, which no field has, stands where
-- they may stand: `Spells`.
-- Assumes nothing.
use Rattle.std.specs.Prelude.{ℕ, ◌+◌, ◌≤◌, ◌<◌, ◌≡◌, ◌↔◌, List, [], ◌∷◌}
use Rattle.commands.specs.Every.{Every}
use Rattle.commands.specs.declared.header.Window.{Window}
use Rattle.commands.specs.declared.command.Claim.{Claim}
use Rattle.commands.specs.declared.header.Header.{Header}
use Rattle.ticket.specs.declared.fields.Mark.{Mark}
use Rattle.ticket.specs.Fields.{Fields, read}
use Rattle.ticket.specs.Read.{read_of}
use Rattle.ticket.specs.Spells.{Spells}
use Rattle.ticket.specs.RoundTrip.{FitsFields}

abbrev pub Between : ℕ → ℕ → ℕ → Type 0
Between least most v = (least ≤ v) × (v ≤ most)

-- an address lies in a window
abbrev pub In : Window → ℕ → Type 0
In w a = (w.start ≤ a) × (a < w.start + w.length)

abbrev pub Apart : Window → Window → Type 0
Apart v w = (a : ℕ) → In v a → In w a → ⊥

abbrev pub Inside64K : Window → Type 0
Inside64K w = w.start + w.length ≤ 65536

pub record HeaderRules (h : Header) : Type 0 where
  pub code_length : Between 1 4096 h.code.length
  pub data_length : Between 0 8192 h.«data».length
  pub stack_length : Between 2 1024 h.stack.length
  pub limit_range : Between 1 2000000 h.limit.0
  pub code_edge : Inside64K h.code
  pub data_edge : Inside64K h.«data»
  pub stack_edge : Inside64K h.stack
  pub code_start : 1 ≤ h.code.start
  pub stack_start : 1 ≤ h.stack.start
  pub data_apart : Apart h.code h.«data»
  pub stack_apart_code : Apart h.code h.stack
  pub stack_apart_data : Apart h.«data» h.stack
  pub home_outside : In h.code h.home → ⊥

pub record ClaimRules (k : Claim) : Type 0 where
  pub cost_range : k.cost.0 ≤ 2000000
  pub depth_range : k.depth.0 ≤ 1022
  pub need_range : k.need.0 ≤ 1022

pub record MarkRules (h : Header) (m : Mark) : Type 0 where
  pub claimed : ClaimRules m.claim
  pub inside : In h.code m.address

-- marks in rising address, none equal
pub data Rising : List Mark → Type 0 where
  none : Rising []
  one : {m : Mark} → Rising (m ∷ [])
  more : {m n : Mark} {ms : List Mark} → m.address < n.address → Rising (n ∷ ms) → Rising (m ∷ n ∷ ms)

pub record Readable (f : Fields) : Type 0 where
  pub header_rules : HeaderRules f.header
  pub mark_rules : Every (MarkRules f.header) f.marks
  pub rising : Rising f.marks

-- bytes are read as some fields exactly where they state the fields and every rule at reading holds
abbrev pub ReadByTheRules : List ℕ → Type 0
ReadByTheRules s = (f : Fields) → (read_of s ≡ read f) ↔ (Spells f s × FitsFields f × Readable f)
