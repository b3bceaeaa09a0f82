-- What is certified comes home from every start by its header; so what a judged routine starts from, it comes home
-- from.
-- Assumes nothing.
use Prim.Native.Nat.{ℕ, ◌-◌}
use mathlib.Core.Path.{◌≡◌, refl, sym, ap, subst}
use Rattle.verdict.specs.Start.{started_of, loaded_of}
use mathlib.Core.Bool.{Bool, true, false, cond}
use mathlib.Core.List.{List}
use native.Mathlib.Omega.{arith}
use borrow.Author.Tests.{eq-eqb, eqb-true}
use lib.Dec.{eqb}
use lib.ListN.{length}
use Rattle.std.specs.Prelude.{Ok, Err}
use Rattle.registers.specs.declared.Cycles.{Cycles}
use Rattle.registers.specs.declared.Data.{Data}
use Rattle.answers.specs.declared.Acceptance.{Acceptance}
use Rattle.answers.specs.declared.Cause.TheVariants.{BadLength}
use Rattle.answers.specs.declared.Refusal.{Refusal}
use Rattle.commands.specs.Number.{AllBytes}
use Rattle.ticket.specs.Fields.{Fields, ReadOutcome, read, refused}
use Rattle.ticket.specs.Read.{refusal, read_of}
use Rattle.ticket.proofs.Accepts.{read_rules}
use Rattle.answers.specs.Verdict.{Verdict}
use Rattle.rules.specs.Checks.{verdict_on, verdict_by, verdict_of}
use Rattle.rules.proofs.Sound.{accepted}
use Rattle.rules.proofs.Demand.{comes_home}
use Rattle.verdict.specs.declared.Certificate.{Certificate}
use Rattle.verdict.specs.declared.started.Start.{Start}
use Rattle.verdict.specs.Certification.{Certification, certification_if, certification_by, certification_of}
use Rattle.verdict.specs.Certification.{verdict_in}
use Rattle.verdict.specs.Routine.{AfterStart, after_start, start_routine_by, start_routine_of}
use Rattle.verdict.specs.Routine.{StartCertified, StartedComesHome, StartComesHome, CertificateComesHome}
use Rattle.verdict.proofs.Claimed.{starts_as_claimed}

module _ (ticket image : List ℕ) (bytes : AllBytes ticket) where
  -- of the fields that were read and accepted
  start_comes_home : (f : Fields) → read_of ticket ≡ read f → (a : Acceptance) → verdict_on f image ≡ Ok a
      → (d : Data) (m : List ℕ) → length m ≡ 65536 → StartComesHome ticket image
      (record { header = f.header; cost = a.cost; stack = a.stack }) d m
  start_comes_home f h a j d m size =
      let R = read_rules ticket f bytes h in
      let A = accepted f image R.2 a j in
      let L = starts_as_claimed f.header d image m f refl A.0 size in
      let cost : A.0.start.cost.0 ≡ a.cost.0 = ap (λ (x : Cycles). x.0) (sym A.2) in
      let need : A.0.start.need.0 ≡ a.stack.0 - 2 = omega (arith, A.3) in (
        _,
        L.0,
        record {
          entry = a.entry;
          cost = a.cost;
          stack = a.stack;
          certified =
              record {
                fields = f;
                bytes = R.0;
                fits = R.1;
                accepted = A.0;
                entry_is = A.1;
                cost_is = A.2;
                stack_is = A.3;
              };
          home_is = refl;
          comes_home = rw (cost, need) at (comes_home f image A.0 d _ L.1);
        },
        refl,
        refl,
      )

  -- what is to be shown of a certification
  abbrev Homeward : Certification → Type 0
  Homeward (Ok c) = (d : Data) (m : List ℕ) → length m ≡ 65536 → StartComesHome ticket image c d m
  Homeward (Err r) = Unit

  -- by the verdict on the fields that were read
  homeward_if : (f : Fields) → read_of ticket ≡ read f → (v : Verdict) → verdict_on f image ≡ v
      → Homeward (certification_if v f.header)
  homeward_if f h (Err x) j = tt
  homeward_if f h (Ok a) j = start_comes_home f h a j

  -- by what reading the ticket gives
  homeward_by : (o : ReadOutcome) → read_of ticket ≡ o → Homeward (certification_by o image)
  homeward_by (refused x) h = tt
  homeward_by (read f) h = homeward_if f h (verdict_on f image) refl

  homeward : Homeward (certification_of ticket image)
  unfolding certification_of
  homeward = homeward_by (read_of ticket) refl

  -- a certification is the verdict, by the same cases
  verdict_if : (f : Fields) → read_of ticket ≡ read f → (v : Verdict) → verdict_on f image ≡ v
      → v ≡ verdict_in (certification_if v f.header)
  verdict_if f h (Err x) j = refl
  verdict_if f h (Ok a) j =
      let A = accepted f image (read_rules ticket f bytes h).2 a j in
      ap (λ (x : ℕ). Ok (record { entry = x; cost = a.cost; stack = a.stack })) A.1

  verdict_by_read : (o : ReadOutcome) → read_of ticket ≡ o → verdict_by o image ≡ verdict_in (certification_by o image)
  verdict_by_read (refused x) h = refl
  verdict_by_read (read f) h = verdict_if f h (verdict_on f image) refl

pub certificate_comes_home : (ticket image : List ℕ) → AllBytes ticket → CertificateComesHome ticket image
certificate_comes_home ticket image bytes c e = rw e at (homeward ticket image bytes)

pub verdict_certified : (ticket image : List ℕ) → AllBytes ticket
    → verdict_of ticket image ≡ verdict_in (certification_of ticket image)
unfolding verdict_of certification_of
verdict_certified ticket image bytes = verdict_by_read ticket image bytes (read_of ticket) refl

module _ (ticket image : List ℕ) (d : Data) (m : List ℕ) where
  abbrev Home : AfterStart → Type 0
  Home b = (s : Start) → b.answer ≡ Ok s → StartCertified ticket image s.registers s.home b.memory

  -- by the certification
  home_by : (bytes : AllBytes ticket) → length m ≡ 65536 → (a : Certification) → Homeward ticket image bytes a
      → Home (start_routine_by a d image m)
  home_by bytes size (Err x) H s e = absurd cc
  home_by bytes size (Ok c) H s e =
      let S = H d m size in
      let same : record { registers = S.0; home = c.header.home } ≡ s = cc in
      subst (λ (x : Start). StartCertified ticket image x.registers x.home (loaded_of c.header image m)) same S.2

  -- by whether the memory has 65,536 bytes
  home_sized : (bytes : AllBytes ticket) (b : Bool) → eqb (length m) 65536 ≡ b
      → Home (cond b (start_routine_by (certification_of ticket image) d image m)
      (after_start (Err (refusal BadLength 0)) m))
  home_sized bytes true e s h =
      home_by bytes (eqb-true _ _ e) (certification_of ticket image) (homeward ticket image bytes) s h
  home_sized bytes false e s h = absurd cc

pub started_comes_home : (ticket image : List ℕ) → AllBytes ticket → (d : Data) (m : List ℕ) →
    StartedComesHome ticket image d m
unfolding start_routine_of
started_comes_home ticket image bytes d m = home_sized ticket image d m bytes (eqb (length m) 65536) refl

-- what the code answers, by the certification
module _ (ticket image : List ℕ) (d : Data) (m : List ℕ) (size : length m ≡ 65536) where
  pub not_certified : (x : Refusal) → Err x ≡ certification_of ticket image
      → start_routine_of ticket image d m ≡ after_start (Err x) m
  unfolding start_routine_of
  not_certified x e = rw (eq-eqb _ _ size, ← e)

  pub certified_start : (c : Certificate) → Ok c ≡ certification_of ticket image
      → start_routine_of ticket image d m
      ≡ after_start (started_of c.header d image m) (loaded_of c.header image m)
  unfolding start_routine_of
  certified_start c e = rw (eq-eqb _ _ size, ← e)
