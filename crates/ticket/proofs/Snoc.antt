-- The commands of some marks and one more.
-- Assumes nothing.
use mathlib.Core.Path.{◌≡◌, refl}
use mathlib.Core.List.{List, [], ◌∷◌, ◌++◌}
use Rattle.ticket.specs.declared.fields.Mark.{Mark}
use Rattle.ticket.specs.Write.{mark_command, mark_commands}

pub commands_snoc : (ms : List Mark) (m : Mark) → mark_commands (ms ++ (m ∷ []))
    ≡ mark_commands ms ++ (mark_command m ∷ [])
commands_snoc [] m = refl
commands_snoc (k ∷ ms) m = rw (commands_snoc ms m)
