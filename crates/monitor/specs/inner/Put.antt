-- Bytes in which a number or a window was stored at an index, as the code stores them.
-- Assumes nothing.
use Rattle.std.specs.Prelude.{ℕ, ◌+◌, ◌/◌, ◌%◌, List, set}
use Rattle.commands.specs.declared.header.Window.{Window}

abbrev pub put_word : List ℕ → ℕ → ℕ → List ℕ
put_word bs i v = set (set bs i (v / 256)) (i + 1) (v % 256)

abbrev pub put_long : List ℕ → ℕ → ℕ → List ℕ
put_long bs i v = put_word (put_word bs i (v / 65536)) (i + 2) (v % 65536)

abbrev pub put_window : List ℕ → ℕ → Window → List ℕ
put_window bs i w = put_word (put_word bs i w.start) (i + 2) w.length
