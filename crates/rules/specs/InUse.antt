-- The return addresses in use along a trace (document 01, "The way home").
-- Assumes nothing.
use Rattle.std.specs.Prelude.{ℕ}
use mathlib.Core.List.{List, [], ◌∷◌, tail}
use Rattle.memory.specs.Memory.{Store}
use Rattle.stepper.specs.Flow.{Flow, calls, returns, plain}

abbrev pub addresses : List Store → List ℕ
addresses [] = []
addresses (w ∷ ws) = w.at ∷ addresses ws

-- the two bytes that a call pushes are in use from the next instruction on; a return ends the use of the latest pair
abbrev pub in_use_after : Flow → List Store → List (List ℕ) → List (List ℕ)
in_use_after calls ws used = addresses ws ∷ used
in_use_after returns ws used = tail used
in_use_after plain ws used = used
