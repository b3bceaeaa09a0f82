-- The condition codes of sums and differences, by the manual's Boolean formulae over bit k of the operands x and m and
-- of the result r. Bit 7 is a byte's sign and bit 15 a word's; H takes the carry out of bit 3.
-- Assumes nothing.
use Rattle.std.specs.Prelude.{ℕ, Bool, not, ◌&&◌, ◌||◌}
use Rattle.registers.specs.Flags.{bit}
use Rattle.registers.specs.declared.flags.Flags.{Flags}

-- x·m + m·NOT r + NOT r·x: the carry of a sum
abbrev pub carry : ℕ → ℕ → ℕ → ℕ → Bool
carry k x m r = ((bit k x && bit k m) || (bit k m && not (bit k r))) || (not (bit k r) && bit k x)

-- NOT x·m + m·r + r·NOT x: the borrow of a difference
abbrev pub borrow : ℕ → ℕ → ℕ → ℕ → Bool
borrow k x m r = ((not (bit k x) && bit k m) || (bit k m && bit k r)) || (bit k r && not (bit k x))

-- x·m·NOT r + NOT x·NOT m·r: the overflow of a sum, of the three bits themselves; a difference has NOT m for m
abbrev pub overflow_bits : Bool → Bool → Bool → Bool
overflow_bits x m r = ((x && m) && not r) || ((not x && not m) && r)

abbrev pub overflow_sum : ℕ → ℕ → ℕ → ℕ → Bool
overflow_sum k x m r = overflow_bits (bit k x) (bit k m) (bit k r)

-- x·NOT m·NOT r + NOT x·m·r: the overflow of a difference
abbrev pub overflow_difference : ℕ → ℕ → ℕ → ℕ → Bool
overflow_difference k x m r = ((bit k x && not (bit k m)) && not (bit k r)) || ((not (bit k x) && bit k m) && bit k r)

-- the condition codes with some of them changed
abbrev pub with_nzvc : Flags → Bool → Bool → Bool → Bool → Flags
with_nzvc f n z v c = record { s = f.s; x = f.x; h = f.h; i = f.i; n = n; z = z; v = v; c = c }

abbrev pub with_nzv : Flags → Bool → Bool → Bool → Flags
with_nzv f n z v = with_nzvc f n z v f.c

abbrev pub with_hnzvc : Flags → Bool → Bool → Bool → Bool → Bool → Flags
with_hnzvc f h n z v c = record { s = f.s; x = f.x; h = h; i = f.i; n = n; z = z; v = v; c = c }

-- Z alone, as INX has it
abbrev pub with_z : Flags → Bool → Flags
with_z f z = with_nzvc f f.n z f.v f.c

-- V alone, as CLV has it
abbrev pub with_v : Flags → Bool → Flags
with_v f v = with_nzvc f f.n f.z v f.c

-- C alone, as MUL has it
abbrev pub with_c : Flags → Bool → Flags
with_c f c = with_nzvc f f.n f.z f.v c

-- Z, V and C, as the divisions have it
abbrev pub with_zvc : Flags → Bool → Bool → Bool → Flags
with_zvc f z v c = with_nzvc f f.n z v c
