-- What is left of a look: nothing once it has ended, else a turn and the rest.
-- Assumes nothing.
use mathlib.Core.Path.{◌≡◌, refl, sym, ap, ◌∙◌}
use mathlib.Core.Bool.{Bool, true, false, cond}
use mathlib.Core.List.{List}
use Prim.Native.Nat.{ℕ, zero, suc}
use Rattle.measure.specs.declared.look.Look.{Look}
use Rattle.measure.specs.Look.{LookStep, look_step, look_step_of, look_from}

other : (b : Bool) (x y : Look) → b ≡ false → cond b x y ≡ y
other b x y h = rw h

module _ (l : Look) (m : List ℕ) where
  pub look_none : look_from zero l m ≡ l
  unfolding look_from
  look_none = refl

  pub look_over : (n : ℕ) → l.over ≡ true → look_from n l m ≡ l
  unfolding look_from
  look_over zero h = refl
  look_over (suc n) h = rw h

  pub look_next : (n : ℕ) → l.over ≡ false → (q : Look) (m' : List ℕ) → look_step q m' ≡ look_step_of l m →
      look_from (suc n) l m ≡ look_from n q m'
  unfolding look_from
  look_next n h q m' e = other l.over l _ h ∙ ap (λ (t : LookStep). look_from n t.look t.memory) (sym e)
