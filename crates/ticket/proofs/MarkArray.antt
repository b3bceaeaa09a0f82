-- The array of marks while a ticket is read: the marks so far in file order, blank ones after them.
-- Assumes nothing.
use Prim.Native.Nat.{ℕ, suc, ◌-◌, ◌≤◌, ◌<◌}
use native.Mathlib.Omega.{arith}
use mathlib.Core.Path.{◌≡◌, refl}
use mathlib.Core.List.{List, [], ◌∷◌, ◌++◌}
use lib.ListN.{length, set, replicate, length-append}
use lib.Seq.{append_snoc, set-append_seam}
use Rattle.commands.specs.declared.command.Command.{Command}
use Rattle.commands.specs.declared.progress.Progress.{Progress}
use Rattle.commands.specs.Progress.{after_of}
use Rattle.commands.specs.declared.command.Claim.{Claim}
use Rattle.ticket.specs.declared.fields.Mark.{Mark}
use Rattle.ticket.specs.Fields.{blank_mark, marks_with, in_file_order}
use Rattle.ticket.proofs.SoFar.{Consistent, length_ordered}

-- some marks, filled up to n
unfoldable pub filled : ℕ → List Mark → List Mark
filled n ms = ms ++ replicate (n - length ms) blank_mark

module _ (n : ℕ) (ms : List Mark) (m : Mark) where
  -- the next mark comes after the others
  set_next : length ms < n → set (filled n ms) (length ms) m ≡ filled n (ms ++ (m ∷ []))
  unfolding filled
  set_next l =
      let more : n - length ms ≡ suc (n - length (ms ++ (m ∷ []))) = omega (arith, length-append ms (m ∷ [])) in
      rw (more, append_snoc ms m) (set-append_seam ms blank_mark (replicate (n - length (ms ++ (m ∷ []))) blank_mark) m)

-- the array after a command: a mark's comes after the others, which are n
abbrev pub entered_in : List Mark → ℕ → Command → List Mark
entered_in ms n (Command.Header c) = ms
entered_in ms n (Command.Mark a k) = set ms n (record { address = a; claim = k })
entered_in ms n (Command.Name a t) = ms
entered_in ms n Command.End = ms

pub no_mark_entered : (ms : List Mark) (n : ℕ) (c : Command)
    → ((a : ℕ) (k : Claim) → c ≡ Command.Mark a k → ⊥) → ms ≡ entered_in ms n c
no_mark_entered ms n (Command.Header c) none = refl
no_mark_entered ms n (Command.Mark a k) none = absurd (none a k refl)
no_mark_entered ms n (Command.Name a t) none = refl
no_mark_entered ms n Command.End none = refl

pub entered : (n : ℕ) (p : Progress) (ms : List Mark) → Consistent p ms → (c : Command) → (after_of p c).count ≤ n
    → entered_in (filled n (in_file_order ms)) p.count c ≡ filled n (in_file_order (marks_with ms c))
unfolding after_of
entered n p ms k (Command.Header c) l = refl
entered n p ms k (Command.Mark a x) l =
    let i : p.count ≡ length (in_file_order ms) = omega (arith, length_ordered ms) in
    rw i (set_next n (in_file_order ms) _ (omega (arith, length_ordered ms)))
entered n p ms k (Command.Name a t) l = refl
entered n p ms k Command.End l = refl
