-- The sum of a record's bytes one by one.
-- Assumes nothing.
use mathlib.Core.Path.{◌≡◌}
use mathlib.Core.List.{List}
use Prim.Native.Nat.{ℕ, ◌+◌, ◌%◌, ◌≤◌, ◌<◌}
use native.Mathlib.Numerals.{add-one}
use native.Mathlib.Omega.{arith}
use lib.ListN.{length, drop, get_or, drop_of_length-le}
use lib.Seq.{drop-cons}
use Rattle.records.specs.Record.{sum}

-- the bytes from one on
sum_cons : (bs : List ℕ) (i : ℕ) → i < length bs → sum (drop i bs) ≡ get_or bs i 0 + sum (drop (i + 1) bs)
sum_cons bs i h = rw (drop-cons bs i 0 h, add-one)

pub sum_next : (bs : List ℕ) (i s : ℕ) → i < length bs → (s + sum (drop i bs)) % 256 ≡ sum bs % 256
    → ((s + get_or bs i 0) % 256 + sum (drop (i + 1) bs)) % 256 ≡ sum bs % 256
sum_next bs i s h e = omega (arith, sum_cons bs i h)

pub sum_all : (bs : List ℕ) (i s : ℕ) → length bs ≤ i → s < 256 → (s + sum (drop i bs)) % 256 ≡ sum bs % 256
    → s ≡ sum bs % 256
sum_all bs i s h k e = let f = rw (drop_of_length-le bs h) at e in omega arith
