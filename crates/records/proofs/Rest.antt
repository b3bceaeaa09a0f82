-- What is left of a list from a place on, as the code's part of a slice names it.
-- Assumes nothing.
use Prim.Native.Nat.{ℕ, ◌-◌}
use mathlib.Core.Path.{◌≡◌}
use mathlib.Core.List.{List}
use native.Mathlib.Omega.{arith}
use lib.ListN.{length, take, drop, length-drop}
use lib.Seq.{take_all}

abbrev pub rest : List ℕ → ℕ → List ℕ
rest s at = take (length s - at) (drop at s)

pub rest_is : (s : List ℕ) (at : ℕ) → rest s at ≡ drop at s
rest_is s at = take_all (length s - at) (drop at s) (rw length-drop (omega arith))
