-- What an argument of the desk stepper says, or why it says nothing.
-- Assumes nothing.
use Rattle.std.specs.Prelude.{ℕ, Bool, true, false, cond, ◌&&◌, List, [], ◌∷◌, eqb, ltb, length, drop}
use Rattle.std.specs.Prelude.{Option, Some, None}
use Rattle.lists.specs.Ascii.{ascii}
use Rattle.arguments.specs.declared.argument.Setting.{Setting}
use Rattle.arguments.specs.declared.argument.Setting.TheVariants.{A, B, X, Y, Flags, Budget}
use Rattle.arguments.specs.declared.argument.Argument.{Argument}
use Rattle.arguments.specs.declared.argument.Argument.TheVariants.{Set, Memory, Summary, Empty, BadValue}
use Rattle.arguments.specs.declared.argument.Argument.TheVariants.{NoFile, Unknown}
use Rattle.arguments.specs.Number.{number_of}

unfoldable pub starts_with : List ℕ → List ℕ → Bool
starts_with [] s = true
starts_with (c ∷ cs) [] = false
starts_with (c ∷ cs) (d ∷ ds) = eqb d c && starts_with cs ds

abbrev pub setting_of : Setting → Option ℕ → Argument
setting_of n (Some v) = Set n v
setting_of n None = BadValue n

-- the setting of a name, where a text begins with it
unfoldable pub setting_in : (name : List ℕ) → Setting → (base most : ℕ) → List ℕ → Option Argument
setting_in name n base most s =
    cond (starts_with name s) (Some (setting_of n (number_of base most (drop (length name) s)))) None

-- the name of a file is not empty
unfoldable pub other_of : List ℕ → Argument
other_of s =
    cond (eqb (length s) 0) Empty
    (cond (starts_with (ascii "memory=") s) (cond (ltb 7 (length s)) Memory NoFile)
    (cond (starts_with (ascii "summary") s) (cond (eqb (length s) 7) Summary Unknown) Unknown))

unfoldable pub argument_of : List ℕ → Argument
argument_of s =
    cond (starts_with (ascii "a=") s) (setting_of A (number_of 16 255 (drop 2 s)))
    (cond (starts_with (ascii "b=") s) (setting_of B (number_of 16 255 (drop 2 s)))
    (cond (starts_with (ascii "x=") s) (setting_of X (number_of 16 65535 (drop 2 s)))
    (cond (starts_with (ascii "y=") s) (setting_of Y (number_of 16 65535 (drop 2 s)))
    (cond (starts_with (ascii "flags=") s) (setting_of Flags (number_of 16 255 (drop 6 s)))
    (cond (starts_with (ascii "budget=") s) (setting_of Budget (number_of 10 4294967295 (drop 7 s)))
    (other_of s))))))
