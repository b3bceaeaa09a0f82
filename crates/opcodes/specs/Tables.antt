-- The 1,024 places of the four opcode maps, made of the rows in one pass (document 01: "One table of 1,024 entries").
-- Assumes nothing.
use Rattle.std.specs.Prelude.{ℕ, zero, suc, ◌+◌, ◌*◌, ◌/◌, ◌%◌, true, false, List, [], ◌∷◌, eqb, get_or}
use Rattle.opcodes.specs.declared.instruction.Action.{Action}
use Rattle.opcodes.specs.declared.instruction.Inherent.TheVariants as Inherent
use Rattle.opcodes.specs.declared.instruction.Mode.{Mode}
use Rattle.opcodes.specs.Rows.{Row, rows}

-- what f has of the row of each of n places from `at` on, and d where no row is. The rows stand in rising order of
-- their places
abbrev pub expand : {A : Type 0} → (Row → A) → A → ℕ → ℕ → List Row → List A
expand f d at zero rs = []
expand f d at (suc n) [] = d ∷ expand f d (suc at) n []
expand f d at (suc n) (r ∷ rs) =
    elim (eqb r.place at) [ true ↦ f r ∷ expand f d (suc at) n rs | false ↦ d ∷ expand f d (suc at) n (r ∷ rs) ]

-- 256 times the length, and the cycles; 0 where no instruction is
unfoldable pub costs : List ℕ
unfolding rows
costs = expand (λ r. r.length * 256 + r.cycles) 0 0 1024 rows

-- where no instruction is, the action and the mode say nothing
unfoldable pub actions : List Action
unfolding rows
actions = expand (λ r. r.action) (Action.Inherent Inherent.Nop) 0 1024 rows

unfoldable pub modes : List Mode
unfolding rows
modes = expand (λ r. r.mode) Mode.Inherent 0 1024 rows

unfoldable pub cost_at : ℕ → ℕ
cost_at p = get_or costs p 0

abbrev pub length_at : ℕ → ℕ
length_at p = cost_at p / 256

abbrev pub cycles_at : ℕ → ℕ
cycles_at p = cost_at p % 256

unfoldable pub action_at : ℕ → Action
action_at p = get_or actions p (Action.Inherent Inherent.Nop)

unfoldable pub mode_at : ℕ → Mode
mode_at p = get_or modes p Mode.Inherent
