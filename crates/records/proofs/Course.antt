-- A file's reading, line by line.
-- Assumes nothing.
use mathlib.Core.Path.{◌≡◌, refl}
use mathlib.Core.Bool.{true, false}
use mathlib.Core.List.{List, []}
use Prim.Native.Nat.{ℕ, ◌+◌, ◌≤◌, ◌<◌}
use native.Mathlib.Omega.{arith}
use lib.ListN.{length, take, drop, length-drop, drop_of_length-le}
use Rattle.answers.specs.declared.Cause.{Cause}
use Rattle.answers.specs.declared.Cause.TheVariants.{BadRecord, BadAddress}
use Rattle.ticket.specs.Read.{refusal}
use Rattle.commands.specs.declared.header.Window.{Window}
use Rattle.records.specs.declared.progress.FileProgress.{FileProgress}
use Rattle.records.specs.Read.{lines_of, blank_cells, cause, next, line_of, refused, line_number, close_of, onward}
use Rattle.records.specs.Read.{file_from, initial, file_of, all_given, named}
use Rattle.records.specs.inner.Decoded.{line_length}
use Rattle.records.proofs.Lines.{first_line, line_some}
use Rattle.records.proofs.AllGiven.{blank_size}
use Rattle.records.proofs.LineLaw.{one_more}

-- where a file is read up to some rest: what is left leads to what the whole does
pub record Reached (w : Window) (file cs : List ℕ) (p : FileProgress) (rest : List ℕ) : Type 0 where
  pub lines : p.lines + length rest ≤ length file
  pub s1 : p.s1 ≤ p.lines
  pub size : length cs ≡ 4096
  pub course : file_from w p cs (lines_of rest) ≡ file_of w file

pub begins : (w : Window) (file : List ℕ) → Reached w file blank_cells initial file
unfolding file_of
begins w file = record { lines = omega arith; s1 = omega arith; size = blank_size; course = refl }

module _ {w : Window} {file cs : List ℕ} {p : FileProgress} {rest : List ℕ} (r : Reached w file cs p rest) where
  -- no line is left
  module _ (h : length rest ≡ 0) where
    ends : close_of w p cs ≡ file_of w file
    unfolding file_from lines_of
    ends = let none : rest ≡ [] = drop_of_length-le rest {i = 0} (omega arith) in rw none at r.course

    pub unended : p.ended ≡ false → refused (refusal BadRecord (line_number p)) ≡ file_of w file
    unended e = rw e at ends

    module _ (e : p.ended ≡ true) where
      pub ungiven : all_given (take w.length cs) ≡ false → refused (refusal BadAddress 0) ≡ file_of w file
      ungiven g = rw (e, g) at ends

      pub given : all_given (take w.length cs) ≡ true → named (take w.length cs) ≡ file_of w file
      given g = rw (e, g) at ends

  -- the first bytes of what is left are a line
  module _ (some_left : 0 < length rest) where
    by_line : {n : ℕ} → n ≡ line_length rest → onward p (line_of w p cs (take n rest))
        (λ q ds. file_from w q ds (lines_of (drop n rest))) ≡ file_of w file
    unfolding file_from
    by_line e = rw e (rw (first_line rest some_left) at r.course)

    -- it has a cause
    pub stops : {n : ℕ} {c : Cause} → n ≡ line_length rest → line_of w p cs (take n rest) ≡ cause c
        → refused (refusal c (line_number p)) ≡ file_of w file
    stops e o = rw o at (by_line e)

    -- it has none
    pub goes_on : {n : ℕ} → n ≡ line_length rest → {q : FileProgress} {ds : List ℕ}
        → line_of w p cs (take n rest) ≡ next q ds → length ds ≡ 4096 → Reached w file ds q (drop n rest)
    goes_on {n} e {q} {ds} o z =
        let m = one_more w p cs (take n rest) q ds o in
        let some = line_some rest some_left in
        record {
          lines = simp length-drop (omega (arith, r.lines));
          s1 = omega arith;
          size = z;
          course = rw o at (by_line e);
        }
