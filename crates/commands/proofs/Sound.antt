-- The progress through every ticket is sound: at the beginning it is, and a command that is read keeps it so.
-- Assumes nothing.
use Prim.Native.Nat.{ℕ, zero, suc, ◌+◌, ◌-◌, ◌*◌, ◌≤◌, ◌<◌}
use native.Mathlib.Nat.{eq-zero-or-pos, add-zero, add-suc, add-sub_of_le}
use native.Mathlib.Numerals.{add-one}
use native.Mathlib.Omega.{arith}
use mathlib.Core.Logic.{⊎_elim}
use mathlib.Core.Path.{◌≡◌, refl, ap}
use mathlib.Core.Bool.{true, false, ◌||◌, and-eq-true_iff}
use lib.Dec.{eqb, ltb}
use borrow.Author.Tests.{ltb-true, leb-true, ne_eqb}
use Rattle.lists.specs.Bit.{one}
use Rattle.commands.specs.Rows.{header_length}
use Rattle.commands.specs.Bytes.{width_of}
use Rattle.commands.specs.Command.{stage_of}
use Rattle.commands.specs.Progress.{initial_progress, staged_of, marked_of, named_of, after_of}
use Rattle.commands.specs.inner.Sound.{header_bytes, Sound}
use Rattle.commands.specs.Cause.{command_cause_of}
use Rattle.commands.specs.Admit.{admit_by, admit_of}
use Rattle.commands.specs.declared.command.Command.{Command}
use Rattle.answers.specs.declared.Cause.{Cause}
use Rattle.commands.specs.declared.header.Header.{Header}
use Rattle.commands.specs.declared.progress.Progress.{Progress}
use Rattle.std.specs.Prelude.{Result, Ok, Err}
use Rattle.commands.proofs.Causes.{in_order_parts, Allowed, allowed}
use Rattle.commands.proofs.Coding.{width_most}
use Rattle.commands.proofs.HeaderLaw.{header_law}

impossible : false ≡ true → ◌≡◌ {A = ℕ} 0 1
impossible e = cc

pub sound_start : Sound initial_progress
sound_start = omega (arith, impossible)

few : {p : Progress} → Sound p → p.count ≤ 4096
few {p} s = ⊎_elim (λ z. omega arith) (λ o. omega (arith, s.rising o)) (eq-zero-or-pos p.count)

bytes_rise : (n k : ℕ) → header_bytes n ≤ header_bytes (n + k)
bytes_rise n zero = rw add-zero (omega arith)
bytes_rise n (suc k) = rw (add-suc n k) (omega (arith, bytes_rise n k))

bytes_up : (n m : ℕ) → n ≤ m → header_bytes n ≤ header_bytes m
bytes_up n m l = rw (add-sub_of_le l) at (bytes_rise n (m - n))

-- no more marks than the code window has bytes, and no more bytes than these marks and their names take
pub bounds : {p : Progress} → Sound p → (p.count ≤ 4096) × (p.at ≤ header_bytes (header_length + 1) + 22 * 4096)
bounds {p} s =
    let c = few s in
    let h = bytes_up p.stage (header_length + 1) s.stages in
    (c, omega (arith, s.short, h))

-- of a command of stage n that may come
module _ (p : Progress) (s : Sound p) (w n : ℕ) (narrow : w ≤ 11) (ahead : p.stage ≤ n) where
  to_header : (h : Header) → n < header_length → header_bytes n + w ≡ header_bytes (n + 1) → h.code.length ≤ 4096 →
      Sound (staged_of p w n h)
  to_header h early wide small =
      let e = s.unmarked (omega arith) in
      record {
        stages = omega arith;
        unmarked = omega arith;
        short = omega (arith, s.short, wide, bytes_up p.stage n ahead);
        small = small;
        rising = omega arith;
        named = omega (arith, impossible);
      }

  to_mark : (a : ℕ) → n ≡ header_length → p.header.code.start ≤ a
      → a < p.header.code.start + p.header.code.length → (1 ≤ p.count → p.last < a) → Sound (marked_of p w n a)
  to_mark a body from to rises =
      let r : p.header.code.start + p.count ≤ a =
      ⊎_elim (λ z. omega arith) (λ o. omega (arith, s.rising o, rises o)) (eq-zero-or-pos p.count) in
      omega (arith, bytes_up p.stage n ahead)

  to_name : n ≡ header_length → p.nameable ≡ true → Sound (named_of p w n)
  to_name body nameable =
      let b = ap one nameable in
      record {
        stages = omega arith;
        unmarked = omega arith;
        short = omega (arith, s.short, bytes_up p.stage n ahead);
        small = s.small;
        rising = s.rising;
        named = omega (arith, impossible);
      }

  to_end : n ≡ header_length → header_bytes n + w ≡ header_bytes (n + 1) → Sound (staged_of p w n p.header)
  to_end body wide =
      record {
        stages = omega arith;
        unmarked = omega arith;
        short = omega (arith, s.short, wide, bytes_up p.stage n ahead);
        small = s.small;
        rising = s.rising;
        named = omega (arith, impossible);
      }

-- the end has the bytes that the table gives its stage
end_wide : header_bytes header_length + width_of Command.End ≡ header_bytes (header_length + 1)
unfolding width_of
end_wide = refl

module _ (p : Progress) (s : Sound p) where
  -- what the test of order says of a mark after others
  rises : (a : ℕ) → (eqb p.count 0 || ltb p.last a) ≡ true → 1 ≤ p.count → p.last < a
  rises a e o = ltb-true p.last a (rw (ne_eqb p.count 0 (omega arith)) at e)

  -- a command that is allowed does not come too late
  not_late : (c : Command) → Allowed p c → p.stage ≤ stage_of c
  not_late c a = (in_order_parts p c a.ordered).0.ahead

  after : (c : Command) → Allowed p c → Sound (after_of p c)
  unfolding after_of
  after (Command.Header c) a =
      let l = header_law p.header c in
      to_header p s _ _ (width_most (Command.Header c)) (not_late (Command.Header c) a) _ l.early
      (rw add-one l.wide) (l.small a.ranged s.small)
  after (Command.Mark m k) a =
      let o = in_order_parts p (Command.Mark m k) a.ordered in
      let i = (and-eq-true_iff _ _).0 a.placed in
      to_mark p s _ _ (width_most (Command.Mark m k)) (not_late (Command.Mark m k) a) m refl (leb-true _ _ i.0)
      (ltb-true _ _ i.1) (rises m o.1)
  after (Command.Name m t) a =
      let o = in_order_parts p (Command.Name m t) a.ordered in
      to_name p s _ _ (width_most (Command.Name m t)) (not_late (Command.Name m t) a) refl
      ((and-eq-true_iff _ _).0 o.1).0
  after Command.End a = to_end p s _ _ (width_most Command.End) (not_late Command.End a) refl end_wide

pub sound_after : (p : Progress) (c : Command) → Sound p → command_cause_of p c ≡ Ok tt → Sound (after_of p c)
sound_after p c s e = after p s c (allowed p c e)

-- what an admitted command leaves is sound
module _ (p q : Progress) (c : Command) (s : Sound p) where
  picked : (v : Result Unit Cause) → command_cause_of p c ≡ v → admit_by v p c ≡ Ok q → Sound q
  picked (Ok u) e f = let same : after_of p c ≡ q = cc in rw (← same) (sound_after p c s e)
  picked (Err x) e f = absurd (cc)

  pub sound_admit : admit_of p c ≡ Ok q → Sound q
  unfolding admit_of
  sound_admit f = picked _ refl f
