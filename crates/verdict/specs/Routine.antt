-- A routine judged and, where it is accepted, started; and that what is started comes home (document 01, "Start", "The
-- way home": demand 3).
-- Assumes nothing.
use Rattle.std.specs.Prelude.{ℕ, ◌-◌, ◌≡◌, cond, List, eqb, length, Ok, Err}
use Rattle.registers.specs.declared.Cycles.{Cycles}
use Rattle.registers.specs.declared.Data.{Data}
use Rattle.registers.specs.declared.Registers.{Registers}
use Rattle.registers.specs.declared.StackBytes.{StackBytes}
use Rattle.ticket.specs.Read.{refusal}
use Rattle.rules.specs.Rules.{Certified}
use Rattle.rules.specs.Claim.{ComesHome}
use Rattle.verdict.specs.Start.{Started, started_of, loaded_of}
use Rattle.verdict.specs.Certification.{Certification, certification_of}
use Rattle.verdict.specs.declared.Certificate.{Certificate}
use Rattle.verdict.specs.declared.started.Start.{Start}
use Rattle.answers.specs.declared.Cause.TheVariants.{BadLength}

-- the answer and the memory afterwards
pub record AfterStart : Type 0 where
  pub answer : Started
  pub memory : List ℕ

abbrev pub after_start : Started → List ℕ → AfterStart
after_start a m = record { answer = a; memory = m }

abbrev pub start_routine_by : Certification → Data → List ℕ → List ℕ → AfterStart
start_routine_by (Err r) d image m = after_start (Err r) m
start_routine_by (Ok c) d image m =
    after_start (started_of c.header d image m) (loaded_of c.header image m)

-- 21 is checked first; then what the verdict refuses is refused, and alters nothing
unfoldable pub start_routine_of : List ℕ → List ℕ → Data → List ℕ → AfterStart
start_routine_of ticket image d m =
    cond (eqb (length m) 65536) (start_routine_by (certification_of ticket image) d image m)
    (after_start (Err (refusal BadLength 0)) m)

-- from the registers and the memory that are answered, the routine comes to the home that is answered, which is the
-- ticket's
pub record StartCertified (ticket image : List ℕ) (r : Registers) (home : ℕ) (m : List ℕ) : Type 0 where
  pub entry : ℕ
  pub cost : Cycles
  pub stack : StackBytes
  pub certified : Certified ticket image (record { entry = entry; cost = cost; stack = stack })
  pub home_is : home ≡ certified.fields.header.home
  pub comes_home : ComesHome certified.fields (record { home = home }) cost.0 (stack.0 - 2) r m

abbrev pub StartedComesHome : List ℕ → List ℕ → Data → List ℕ → Type 0
StartedComesHome ticket image d m =
    (s : Start) → (start_routine_of ticket image d m).answer ≡ Ok s →
    StartCertified ticket image s.registers s.home (start_routine_of ticket image d m).memory

-- a start by the certificate's header succeeds and comes home, within its figures
abbrev pub StartComesHome : List ℕ → List ℕ → Certificate → Data → List ℕ → Type 0
StartComesHome ticket image c d m =
    (r : Registers)
    × (started_of c.header d image m ≡ Ok (record { registers = r; home = c.header.home }))
    × (C : StartCertified ticket image r c.header.home (loaded_of c.header image m))
    × (C.cost ≡ c.cost)
    × (C.stack ≡ c.stack)

-- what is certified can be started again and again without being judged: every start by its header comes home
abbrev pub CertificateComesHome : List ℕ → List ℕ → Type 0
CertificateComesHome ticket image =
    (c : Certificate) → certification_of ticket image ≡ Ok c
    → (d : Data) (m : List ℕ) → length m ≡ 65536 → StartComesHome ticket image c d m
