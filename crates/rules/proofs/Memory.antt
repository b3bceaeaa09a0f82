-- What a byte of memory is after an instruction's stores, and a word that was pushed.
-- Assumes nothing.
use Prim.Native.Nat.{ℕ, ◌+◌, ◌-◌, ◌*◌, ◌/◌, ◌%◌, ◌≤◌, ◌<◌}
use mathlib.Core.Path.{◌≡◌, refl, sym, ◌∙◌}
use mathlib.Core.List.{List, [], ◌∷◌}
use native.Mathlib.Omega.{arith}
use native.Mathlib.Nat.{div-add-mod'}
use lib.ListN.{length, get_or, set, length-set}
use lib.Seq.{get_or-set_same, get_or-set_other}
use Rattle.registers.specs.Word.{wrapping_add, wrapping_sub}
use Rattle.registers.proofs.Wrap.{plus_plus}
use Rattle.memory.specs.Memory.{Store, byte_at, word_at, with_byte, applied, push_stores}
use Rattle.commands.specs.Every.{Every, none, more}

-- ---- sums that do not wrap

pub less_is : (a n : ℕ) → a < 65536 → n ≤ a → wrapping_sub a n + n ≡ a
unfolding wrapping_sub
less_is a n h l = omega arith

pub plus_is : (a n : ℕ) → a + n < 65536 → wrapping_add a n ≡ a + n
unfolding wrapping_add
plus_is a n h = omega arith

pub moved_is : (a i o : ℕ) → o ≤ a + i → a + i < 65536 → (a + i + (65536 - o)) % 65536 + o ≡ a + i
moved_is a i o h l = omega arith

-- ---- stores

pub length_applied : (ws : List Store) (m : List ℕ) → length (applied ws m) ≡ length m
unfolding with_byte
length_applied [] m = refl
length_applied (w ∷ ws) m = length_applied ws (set m w.at w.value) ∙ length-set m w.at w.value

byte_applied_at : (a : ℕ) {ws : List Store} (m : List ℕ) → Every (λ w. w.at ≡ a → ⊥) ws →
    byte_at (applied ws m) a ≡ byte_at m a
unfolding byte_at with_byte
byte_applied_at a m none = refl
byte_applied_at a m (more {a = w} h hs) =
    byte_applied_at a (set m w.at w.value) hs ∙ get_or-set_other m w.at a w.value 0 (λ e. h (sym e))

pub byte_applied : {ws : List Store} (m : List ℕ) (a : ℕ) → Every (λ w. w.at ≡ a → ⊥) ws →
    byte_at (applied ws m) a ≡ byte_at m a
byte_applied m a h = byte_applied_at a m h

-- the two bytes over b, high byte below low byte, hold v
abbrev pub HoldsWord : List ℕ → ℕ → ℕ → Type 0
HoldsWord m b v = byte_at m (b + 1) * 256 + byte_at m (b + 2) ≡ v

pub pushed_holds : (m : List ℕ) (s b v : ℕ) → s ≡ b + 2 → s < length m → s < 65536 →
    HoldsWord (applied (push_stores s v) m) b v
unfolding byte_at with_byte
pushed_holds m s b v e h l =
    let under : wrapping_sub s 1 ≡ b + 1 = omega (arith, less_is s 1 l (omega arith)) in
    let low : List ℕ = set m (b + 2) (v % 256) in
    let room : b + 1 < length low = omega (arith, length-set m (b + 2) (v % 256)) in
    let high_is : get_or (set low (b + 1) (v / 256)) (b + 1) 0
    ≡ v / 256 = get_or-set_same low (b + 1) (v / 256) 0 room in
    let low_is : get_or (set low (b + 1) (v / 256)) (b + 2) 0 ≡ v % 256 =
    get_or-set_other low (b + 1) (b + 2) (v / 256) 0 (omega arith)
    ∙ get_or-set_same m (b + 2) (v % 256) 0 (omega arith) in
    rw (under, e, high_is, low_is) (div-add-mod' v 256)

-- RTS reads it back
pub word_holds : (m : List ℕ) (b v : ℕ) → b + 2 < 65536 → HoldsWord m b v → word_at m (wrapping_add b 1) ≡ v
unfolding word_at
word_holds m b v l h = rw (plus_plus, plus_is b 1 (omega arith), plus_is b 2 l) h
