-- Two different answers of the verdict leave something different in C, since no refusal is numbered 0: from what a call
-- leaves the answer is found again.
-- Assumes nothing.
use Rattle.std.specs.Prelude.{Ok, Err}
use Prim.Native.Nat.{ℕ}
use mathlib.Core.Path.{◌≡◌, refl, sym, ap, ◌∙◌}
use mathlib.Core.Bool.{cond}
use mathlib.Core.List.{List}
use lib.Dec.{eqb}
use Rattle.answers.specs.declared.Refusal.{Refusal}
use Rattle.answers.specs.Verdict.{Verdict}
use Rattle.answers.proofs.Causes.{cause_from, cause_back, not_zero}
use Rattle.verdict.specs.Certification.{Certification, verdict_in}
use Rattle.verdict.specs.Start.{Started}
use Rattle.monitor.specs.RegisterBytes.{unpacked}
use Rattle.monitor.proofs.RegisterRoundTrip.{unpacked_packed}
use Rattle.monitor.specs.Slot.{certificate_in}
use Rattle.monitor.specs.RoutineCalls.{VerdictCall, of_judged, StartCall, of_started, CertifyCall, of_certification}
use Rattle.monitor.proofs.SlotRoundTrip.{certificate_in_slot}

-- the home of a certification, or the one that was lent
abbrev pub home_in : ℕ → Certification → ℕ
home_in h (Ok k) = k.header.home
home_in h (Err r) = h

abbrev refusal_from : (number place : ℕ) → Refusal
refusal_from n p = record { cause = cause_from n; place = p }

abbrev verdict_from : VerdictCall → Verdict
verdict_from j =
    cond
    (eqb j.outcome 0)
    (Ok (record { entry = j.entry; cost = record { 0 = j.cost }; stack = record { 0 = j.stack } }))
    (Err (refusal_from j.outcome j.place))

abbrev start_from : StartCall → Started
start_from b =
    cond
    (eqb b.outcome 0)
    (Ok (record { registers = unpacked b.registers; home = b.home }))
    (Err (refusal_from b.outcome b.place))

abbrev certification_from : CertifyCall → Certification
certification_from f =
    cond
    (eqb f.outcome 0)
    (Ok (certificate_in f.slot))
    (Err (refusal_from f.outcome f.place))

module _ (e h c s p : ℕ) where
  verdict_back : (a : Certification) → verdict_from (of_judged a e h c s p) ≡ verdict_in a
  verdict_back (Ok k) = refl
  verdict_back (Err r) = simp (not_zero r.cause, cause_back r.cause)

  home_back : (a : Certification) → (of_judged a e h c s p).home ≡ home_in h a
  home_back (Ok k) = refl
  home_back (Err r) = refl

  -- the verdicts that two certifications stand for, and their homes
  pub verdicts_apart : (a b : Certification)
      → of_judged a e h c s p ≡ of_judged b e h c s p → (verdict_in a ≡ verdict_in b) × (home_in h a ≡ home_in h b)
  verdicts_apart a b g = (
    sym (verdict_back a) ∙ ap verdict_from g ∙ verdict_back b,
    sym (home_back a) ∙ ap (λ (j : VerdictCall). j.home) g ∙ home_back b,
  )

module _ (h p : ℕ) (rs m : List ℕ) where
  start_back : (a : Started) → start_from (of_started a h p rs m) ≡ a
  start_back (Ok s) = rw (unpacked_packed s.registers)
  start_back (Err r) = simp (not_zero r.cause, cause_back r.cause)

  pub starts_apart : (a b : Started) → of_started a h p rs m ≡ of_started b h p rs m → a ≡ b
  starts_apart a b g = sym (start_back a) ∙ ap start_from g ∙ start_back b

module _ (p : ℕ) (slot : List ℕ) where
  certification_back : (a : Certification) → certification_from (of_certification a p slot) ≡ a
  certification_back (Ok c) = rw (certificate_in_slot c)
  certification_back (Err r) = simp (not_zero r.cause, cause_back r.cause)

  pub certifications_apart : (a b : Certification) → of_certification a p slot ≡ of_certification b p slot → a ≡ b
  certifications_apart a b h = sym (certification_back a) ∙ ap certification_from h ∙ certification_back b
