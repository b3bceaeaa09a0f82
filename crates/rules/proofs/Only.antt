-- From the same registers and memory only one trace ends at home.
-- Assumes nothing.
use Prim.Native.Nat.{ℕ}
use mathlib.Core.Path.{◌≡◌, refl, sym, ◌∙◌}
use mathlib.Core.List.{List}
use Rattle.registers.specs.declared.Registers.{Registers}
use Rattle.memory.specs.Memory.{Store}
use Rattle.stepper.specs.declared.environment.Environment.{Environment}
use Rattle.stepper.specs.Step.{did}
use Rattle.stepper.specs.Trace.{Event, Along, stay, then}

-- what is done tells the registers, the stores and the cycles
parts : {q q' : Registers} {ws ws' : List Store} {k k' : ℕ} → did q ws k ≡ did q' ws' k' →
    (q ≡ q') × (ws ≡ ws') × (k ≡ k')
parts e = (cc, cc, cc)

pub only : {env : Environment} {r : Registers} {m : List ℕ} {evs evs' : List Event} {e e' : Registers} {n n' : List ℕ}
    → Along env r m evs e n → e.pc ≡ env.home → Along env r m evs' e' n' → e'.pc ≡ env.home
    → (evs' ≡ evs) × (e' ≡ e) × (n' ≡ n)
only stay h stay h' = (refl, refl, refl)
only stay h (then away d a) h' = absurd (away h)
only (then away d a) h stay h' = absurd (away h')
only (then away d a) h (then away' d' a') h' =
    let same = parts (sym d' ∙ d) in
    let later = only a h (rw (same.0, same.1) at a') h' in
    (simp (same.0, same.1, same.2, later.0), later.1, later.2)
