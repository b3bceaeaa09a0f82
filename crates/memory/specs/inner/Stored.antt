-- A memory after a 16-bit store and after a 16-bit push: what the code's two functions for them leave. An inner matter
-- of the code.
-- Assumes nothing.
use Rattle.std.specs.Prelude.{ℕ, List}
use Rattle.memory.specs.Memory.{word_stores, push_stores, applied}

unfoldable pub with_stored : List ℕ → ℕ → ℕ → List ℕ
with_stored m a v = applied (word_stores a v) m

unfoldable pub with_pushed : List ℕ → ℕ → ℕ → List ℕ
with_pushed m sp v = applied (push_stores sp v) m
