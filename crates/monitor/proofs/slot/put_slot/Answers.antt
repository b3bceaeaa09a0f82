-- `monitor::slot::put_slot` meets its contract: its stores leave nothing of what the bytes were.
-- Assumes nothing.
use native.Mathlib.Omega.{arith}
use mathlib.Core.Path.{◌≡◌}
use mathlib.Core.List.{List}
use Prim.Native.Nat.{ℕ}
use lib.ListN.{length}
use Rattle.verdict.specs.declared.Certificate.{Certificate}
use Rattle.monitor.proofs.Elements.{all_elements}
use Rattle.monitor.specs.Slot.{slot_size, slot_of}
use Rattle.monitor.specs.inner.Put.{put_long, put_window, put_word}
use Rattle.monitor.proofs.slot.put_slot.Goals as goal

stored : (bs : List ℕ) → length bs ≡ slot_size → (c : Certificate)
    → put_word
    (put_word
    (put_long
    (put_long
    (put_word (put_window (put_window (put_window bs 0 c.header.code) 4 c.header.«data») 8 c.header.stack) 12
    c.header.entry)
    14
    c.header.limit.0)
    18
    c.cost.0)
    22
    c.stack.0)
    24
    c.header.home
    ≡ slot_of c
unfolding slot_of
stored bs e c = rw (all_elements bs slot_size e)

pub returns : goal.returns
returns c =
    let sized : length c.args.slot.now ≡ slot_size = omega arith in
    rw (
      c.put_word-3.ensures.0,
      c.put_word-2.ensures.0,
      c.put_long-2.ensures.0,
      c.put_long.ensures.0,
      c.put_word.ensures.0,
      c.put_window-3.ensures.0,
      c.put_window-2.ensures.0,
      c.put_window.ensures.0,
    )
    (stored c.args.slot.now sized c.args.c)
