-- Commands of which every operand fits its width, as far as the first that is refused. An inner matter of the code: its
-- types say that all fit, but it looks at none that comes after a refused one.
-- Assumes nothing.
use Rattle.std.specs.Prelude.{List, [], ◌∷◌, Result, Ok, Err}
use Rattle.answers.specs.declared.Refusal.{Refusal}
use Rattle.commands.specs.declared.command.Command.{Command}
use Rattle.commands.specs.declared.progress.Progress.{Progress}
use Rattle.commands.specs.Admit.{admit_of}
use Rattle.commands.specs.Fits.{Fits}

abbrev pub FitSoFar : Result Progress Refusal → List Command → Type 0
FitSoFar (Err r) cs = Unit {0}
FitSoFar (Ok p) [] = Unit {0}
FitSoFar (Ok p) (c ∷ cs) = Fits c × FitSoFar (admit_of p c) cs
