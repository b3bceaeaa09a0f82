-- The register record: the register set and the lowest SP so far; its start and its parts (document 01, "The machine"
-- and "Start"; document 02, b).
-- Assumes nothing.
use Rattle.std.specs.Prelude.{ℕ, ◌+◌, ◌*◌, ◌/◌, ◌%◌}
use Rattle.registers.specs.Word.{wrapping_sub}
use Rattle.registers.specs.declared.Registers.{Registers}
use Rattle.registers.specs.declared.Data.{Data}

-- all zero, flags $D0
abbrev pub reset_of : Registers
reset_of = record { x = 0; y = 0; sp = 0; pc = 0; lowest = 0; a = 0; b = 0; flags = 0xd0 }

-- PC at the entry; SP, and with it the lowest SP, is T - 2, where T is the stack window's last address
abbrev pub start_of : Data → ℕ → ℕ → Registers
start_of d entry last =
    let s = wrapping_sub last 2 in
    record { x = d.x; y = d.y; sp = s; pc = entry; lowest = s; a = d.a; b = d.b; flags = d.flags }

-- the registers but for PC, SP and the lowest SP
abbrev pub data_of : Registers → Data
data_of r = record { x = r.x; y = r.y; a = r.a; b = r.b; flags = r.flags }

-- D is A:B
abbrev pub accumulator_d : Data → ℕ
accumulator_d d = d.a * 256 + d.b

-- a register and the flags changed
abbrev pub with_a : Data → ℕ → ℕ → Data
with_a d v f = record { x = d.x; y = d.y; a = v; b = d.b; flags = f }

abbrev pub with_b : Data → ℕ → ℕ → Data
with_b d v f = record { x = d.x; y = d.y; a = d.a; b = v; flags = f }

abbrev pub with_d : Data → ℕ → ℕ → Data
with_d d v f = record { x = d.x; y = d.y; a = v / 256; b = v % 256; flags = f }

abbrev pub with_x : Data → ℕ → ℕ → Data
with_x d v f = record { x = v; y = d.y; a = d.a; b = d.b; flags = f }

abbrev pub with_y : Data → ℕ → ℕ → Data
with_y d v f = record { x = d.x; y = v; a = d.a; b = d.b; flags = f }

abbrev pub with_flags : Data → ℕ → Data
with_flags d f = record { x = d.x; y = d.y; a = d.a; b = d.b; flags = f }

abbrev pub with_data : Registers → Data → Registers
with_data r d =
    record { x = d.x; y = d.y; sp = r.sp; pc = r.pc; lowest = r.lowest; a = d.a; b = d.b; flags = d.flags }

abbrev pub with_pc_sp : Registers → ℕ → ℕ → Registers
with_pc_sp r p s =
    record { x = r.x; y = r.y; sp = s; pc = p; lowest = r.lowest; a = r.a; b = r.b; flags = r.flags }

abbrev pub with_pc : Registers → ℕ → Registers
with_pc r p = with_pc_sp r p r.sp

abbrev pub with_sp : Registers → ℕ → Registers
with_sp r s = with_pc_sp r r.pc s

abbrev pub with_lowest : Registers → ℕ → Registers
with_lowest r s =
    record { x = r.x; y = r.y; sp = r.sp; pc = r.pc; lowest = s; a = r.a; b = r.b; flags = r.flags }
