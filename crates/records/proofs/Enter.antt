-- The bytes of an S1 line, one by one.
-- Assumes nothing.
use mathlib.Core.Path.{◌≡◌}
use mathlib.Core.Bool.{cond}
use mathlib.Core.List.{List}
use Rattle.std.specs.Prelude.{None}
use Prim.Native.Nat.{ℕ, ◌+◌, ◌-◌, ◌≤◌, ◌<◌}
use native.Mathlib.Numerals.{add-one}
use native.Mathlib.Nat.{add-suc}
use native.Mathlib.Omega.{arith}
use borrow.Author.Tests.{lt-ltb, le-ltb, le-leb, lt-leb}
use lib.ListN.{length, drop, get_or, set}
use lib.Seq.{drop-cons}
use Rattle.commands.specs.declared.header.Window.{Window}
use Rattle.records.specs.Record.{given_from}
use Rattle.records.specs.Read.{enter, free}

module _ (w : Window) (cs : List ℕ) (a : ℕ) (bs : List ℕ) (i : ℕ) (h : i < length bs) where
  next_byte : enter w cs (given_from (a + i) (drop i bs)) ≡ cond (free w cs (a + i))
      (enter w (set cs (a + i - w.start) (get_or bs i 0)) (given_from (a + (i + 1)) (drop (i + 1) bs))) None
  unfolding enter
  next_byte = rw (drop-cons bs i 0 h, add-one i, add-suc)

  pub below : a + i < w.start → enter w cs (given_from (a + i) (drop i bs)) ≡ None
  below k = rw (next_byte, lt-leb w.start (a + i) k)

  pub above : w.start + w.length ≤ a + i → enter w cs (given_from (a + i) (drop i bs)) ≡ None
  above k = rw (next_byte, le-leb w.start (a + i) (omega arith), le-ltb (a + i) (w.start + w.length) k)

  pub twice : w.start ≤ a + i → a + i < w.start + w.length → get_or cs (a + i - w.start) 0 < 256
      → enter w cs (given_from (a + i) (drop i bs)) ≡ None
  twice k l g =
      rw (
        next_byte,
        le-leb w.start (a + i) k,
        lt-ltb (a + i) (w.start + w.length) l,
        lt-leb 256 (get_or cs (a + i - w.start) 0) g,
      )

  -- the window by where it starts and where it is past, as the code has it
  pub entered_byte : (from past : ℕ) → w.start ≡ from → w.start + w.length ≡ past
      → from ≤ a + i → a + i < past → 256 ≤ get_or cs (a + i - from) 0
      → enter w (set cs (a + i - from) (get_or bs i 0)) (given_from (a + (i + 1)) (drop (i + 1) bs))
      ≡ enter w cs (given_from (a + i) (drop i bs))
  entered_byte from past p q k l g =
      rw (
        next_byte,
        p,
        le-leb from (a + i) k,
        lt-ltb (a + i) (from + w.length) (omega arith),
        le-leb 256 (get_or cs (a + i - from) 0) g,
      )
