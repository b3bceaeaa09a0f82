-- Bytes in place of as many of the output from an offset on: one run after another is one run.
-- Assumes nothing.
use mathlib.Core.Path.{◌≡◌, ◌∙◌}
use Prim.Native.Nat.{ℕ, ◌+◌, ◌≤◌}
use native.Mathlib.Nat.{add-zero, add_assoc}
use native.Mathlib.Omega.{arith}
use mathlib.Core.List.{List, [], ◌++◌, append_assoc}
use lib.ListN.{length, take, drop, length-append, take-append-drop}
use lib.Seq.{take_at, drop_at, drop-drop, length-take-le}
use borrow.Rule.Slice.PartMut.{put_mid}
use Rattle.lists.specs.Splice.{spliced}

-- a part written over, of as many bytes
pub put_spliced : (old : List ℕ) (at k : ℕ) (s new : List ℕ) → new ≡ s → k ≡ length s →
    put_mid at k old new ≡ spliced old at s
unfolding spliced
put_spliced old at k s new e n = rw (e, n, drop-drop)

spliced_next : (old : List ℕ) (at : ℕ) (a b : List ℕ) (n : ℕ) → n ≡ at + length a → n + length b ≤ length old →
    spliced (spliced old at a) n b ≡ spliced old at (a ++ b)
unfolding spliced
spliced_next old at a b n s room =
    let p = take at old ++ a in
    let q = drop n old in
    let e : length p ≡ n = simp (length-append, length-take-le at old (omega arith)) (omega arith) in
    rw (
      ← s,
      ← append_assoc (take at old) a q,
      take_at p q n e,
      ← drop-drop (length b) n (p ++ q),
      drop_at p q n e,
      drop-drop,
    )
    (simp (append_assoc, length-append, ← add_assoc, ← s))

-- the output and the offset after some bytes are put at an offset of the old output
pub record Placed (old : List ℕ) (at : ℕ) (new now : List ℕ) (next : ℕ) : Type 0 where
  pub bytes : now ≡ spliced old at new
  pub end : next ≡ at + length new

pub placed_none : (old : List ℕ) (at : ℕ) → Placed old at [] old at
unfolding spliced
placed_none old at = record { bytes = rw (add-zero at, take-append-drop at old); end = omega arith }

module _ {old : List ℕ} {at : ℕ} {a x y : List ℕ} {n m : ℕ} (p : Placed old at a x n) (room : m ≤ length old) where
  pub placed_next : (b : List ℕ) → (y ≡ spliced x n b) × (m ≡ n + length b) → Placed old at (a ++ b) y m
  placed_next b e =
      record {
        bytes = e.0 ∙ (rw p.bytes (spliced_next old at a b n p.end (omega arith)));
        end = simp length-append (omega arith);
      }
