-- A run, by where it begins: refused for the memory's length, ended at home, or the loop that ends at home.
-- Assumes nothing.
use Rattle.std.specs.Prelude.{Some}
use mathlib.Core.Path.{◌≡◌, refl, sym, ◌∙◌}
use mathlib.Core.List.{List}
use Prim.Native.Nat.{ℕ, zero, suc}
use lib.Dec.{eqb}
use lib.ListN.{length}
use borrow.Author.Tests.{eq-eqb, ne_eqb}
use Rattle.registers.specs.declared.Registers.{Registers}
use Rattle.stepper.specs.declared.environment.Environment.{Environment}
use Rattle.stepper.specs.Answer.{home, refused}
use Rattle.stepper.specs.Run.{run_from, run_of}
use Rattle.stepper.specs.inner.Until.{until_from, until_of}
use Rattle.stepper.proofs.LoopTurn.{goes_on}
use Rattle.stepper.proofs.SameRest.{same_turn}

module _ (env : Environment) where
  until_home : (n b s : ℕ) (r : Registers) (m : List ℕ)
      → until_from (Some env.home) n b s r m ≡ run_from env n b s r m
  unfolding until_from run_from
  until_home zero b s r m = refl
  until_home (suc n) b s r m =
      same_turn b (λ t q m'. until_from (Some env.home) n b t q m') (λ t q m'. run_from env n b t q m') s r m
      (λ q k a w. until_home n b _ q _) (eqb r.pc env.home)

  pub unfit : (r : Registers) (m : List ℕ) (b : ℕ) → (length m ≡ 65536 → ⊥)
      → run_of env r m b ≡ record { answer = refused 21 0 r (record { 0 = 0 }); memory = m }
  unfolding run_of
  unfit r m b n = simp (ne_eqb _ _ n)

  pub at_home : (r : Registers) (m : List ℕ) (b : ℕ) → length m ≡ 65536 → r.pc ≡ env.home
      → run_of env r m b ≡ record { answer = home r (record { 0 = 0 }); memory = m }
  unfolding run_of run_from
  at_home r m b h z = simp (eq-eqb _ _ h, eq-eqb _ _ z)

  pub begins : (r : Registers) (m : List ℕ) (b : ℕ) → length m ≡ 65536 → (r.pc ≡ env.home → ⊥)
      → run_of env r m b ≡ until_of (Some env.home) r m b
  unfolding run_of
  begins r m b h n =
      simp (eq-eqb _ _ h)
      (sym (until_home (suc b) b 0 r m) ∙ goes_on (Some env.home) b b 0 r m (ne_eqb _ _ n))
