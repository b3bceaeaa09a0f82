-- The slot: the certificate of a routine that was judged, as 26 bytes, high byte first.
-- Assumes nothing.
use Rattle.std.specs.Prelude.{ℕ, ◌+◌, List, ◌++◌}
use Rattle.commands.specs.declared.header.Window.{Window}
use Rattle.commands.specs.declared.header.Header.{Header}
use Rattle.verdict.specs.declared.Certificate.{Certificate}
use Rattle.monitor.specs.BigEndian.{word_bytes, long_bytes, word_in, long_in}

abbrev pub slot_size : ℕ
slot_size = 26

abbrev pub window_bytes : Window → List ℕ
window_bytes w = word_bytes w.start ++ word_bytes w.length

-- the windows of code, data and stack, the entry, the cycle limit; the certified cycles, the stack bytes; home
unfoldable pub slot_of : Certificate → List ℕ
slot_of c =
    let h = c.header in
    window_bytes h.code ++ window_bytes h.«data» ++ window_bytes h.stack
    ++ word_bytes h.entry ++ long_bytes h.limit.0 ++ long_bytes c.cost.0 ++ word_bytes c.stack.0
    ++ word_bytes h.home

-- what slot bytes say, whatever they are
abbrev pub window_in : List ℕ → ℕ → Window
window_in bs i = record { start = word_in bs i; length = word_in bs (i + 2) }

unfoldable pub header_in : List ℕ → Header
header_in bs =
    record {
      code = window_in bs 0;
      «data» = window_in bs 4;
      stack = window_in bs 8;
      entry = word_in bs 12;
      limit = record { 0 = long_in bs 14 };
      home = word_in bs 24;
    }

unfoldable pub certificate_in : List ℕ → Certificate
certificate_in bs =
    record { header = header_in bs; cost = record { 0 = long_in bs 18 }; stack = record { 0 = word_in bs 22 } }
