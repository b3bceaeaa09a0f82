-- A file is refused with 25, 26 or 27.
-- Assumes nothing.
use Prim.Native.Nat.{ℕ, ◌%◌}
use mathlib.Core.Path.{◌≡◌}
use mathlib.Core.Bool.{Bool, true, false, cond, not, ◌&&◌}
use mathlib.Core.List.{List, [], ◌∷◌}
use Rattle.std.specs.Prelude.{Option, None, Some}
use native.Mathlib.Omega.{arith}
use lib.Dec.{eqb}
use lib.ListN.{get_or, take, drop}
use Rattle.answers.specs.Cause.{number_of}
use Rattle.answers.specs.declared.Cause.TheVariants.{BadRecord, BadChecksum, BadAddress}
use Rattle.answers.specs.declared.Refusal.{Refusal}
use Rattle.commands.specs.declared.header.Window.{Window}
use Rattle.ticket.specs.Read.{refusal}
use Rattle.ticket.specs.Rules.{Between}
use Rattle.records.specs.declared.progress.FileProgress.{FileProgress}
use Rattle.records.specs.Record.{sum}
use Rattle.records.specs.Read.{lines_of, bytes_of, formed, enter, given_by, LineOutcome, cause, next, entered_as}
use Rattle.records.specs.Read.{line_by}
use Rattle.records.specs.Read.{line_of, FileOutcome, named, refused, all_given, onward, file_from, initial}
use Rattle.records.specs.Read.{blank_cells, file_of}

abbrev OfLine : LineOutcome → Type 0
OfLine (cause c) = Between 25 27 (number_of c)
OfLine (next p cs) = Unit

abbrev OfFile : FileOutcome → Type 0
OfFile (named image) = Unit
OfFile (refused r) = Between 25 27 (number_of r.cause)

entered_numbered : (p : FileProgress) (t : ℕ) (o : Option (List ℕ)) → OfLine (entered_as p t o)
entered_numbered p t None = search arith
entered_numbered p t (Some cs) = tt

tests_numbered : (b c : Bool) (o : LineOutcome) → OfLine o
    → OfLine (cond b (cond c o (cause BadChecksum)) (cause BadRecord))
tests_numbered false c o h = search arith
tests_numbered true false o h = search arith
tests_numbered true true o h = h

line_numbered : (w : Window) (p : FileProgress) (cs : List ℕ) (s t : ℕ) (o : Option (List ℕ)) →
    OfLine (line_by w p cs s t o)
line_numbered w p cs s t None = search arith
line_numbered w p cs s t (Some bs) =
    tests_numbered (not p.ended && (eqb s 0x53 && formed t p.s1 bs)) (eqb (sum bs % 256) 255)
    (entered_as p t (enter w cs (given_by t bs))) (entered_numbered p t (enter w cs (given_by t bs)))

closed_numbered : (b c : Bool) (i : List ℕ) (place : ℕ)
    → OfFile (cond b (cond c (named i) (refused (refusal BadAddress 0))) (refused (refusal BadRecord place)))
closed_numbered true true i place = tt
closed_numbered true false i place = search arith
closed_numbered false c i place = search arith

from_numbered : (w : Window) (ls : List (List ℕ)) (p : FileProgress) (cs : List ℕ) → OfFile (file_from w p cs ls)
unfolding file_from line_of
from_numbered w [] p cs = closed_numbered p.ended (all_given (take w.length cs)) (take w.length cs) _
from_numbered w (l ∷ ls) p cs =
    by_line (from_numbered w ls) (line_of w p cs l)
    (line_numbered w p cs (get_or l 0 0) (get_or l 1 0) (bytes_of (drop 2 l)))
  where
    by_line : ((q : FileProgress) (ds : List ℕ) → OfFile (file_from w q ds ls)) → (o : LineOutcome) → OfLine o
        → OfFile (onward p o (λ q ds. file_from w q ds ls))
    by_line again (cause c) h = h
    by_line again (next q ds) h = again q ds

pub file_numbered : (w : Window) (file : List ℕ) (r : Refusal) → file_of w file ≡ refused r
    → Between 25 27 (number_of r.cause)
unfolding file_of
file_numbered w file r e = rw e at (from_numbered w (lines_of file) initial blank_cells)
