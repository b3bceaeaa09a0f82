-- The w bytes of a number and the number of some bytes are each other's inverse.
-- Assumes nothing.
use mathlib.Core.Path.{◌≡◌, refl, ◌∙◌}
use Prim.Native.Nat.{ℕ, zero, suc, ◌+◌, ◌-◌, ◌*◌, ◌/◌, ◌%◌, ◌^◌, ◌≤◌, ◌<◌}
use native.Mathlib.Nat.{add-zero, zero-add, pow-succ', pow-le-pow_right, div-div-eq-div-mul}
use native.Mathlib.Numerals.{add-one}
use native.Mathlib.Omega.{arith}
use mathlib.Core.List.{List, [], ◌∷◌, ◌++◌, append_assoc, append-nil}
use lib.ListN.{length, get_or, take, drop, length-append, length-drop}
use lib.Seq.{take_all, drop-cons}
use Rattle.std.specs.Int.{byte_at, bytes_high_first}
use Rattle.commands.specs.Number.{number_from, number, digits, AllBytes}
use Rattle.commands.specs.Every.{none, more}

pub length_digits : (w v : ℕ) → length (digits w v) ≡ w
length_digits zero v = refl
length_digits (suc w) v = simp (length-append, length_digits w (v / 256)) (omega arith)

byte_higher : (i v : ℕ) → byte_at (suc i) v ≡ byte_at i (v / 256)
byte_higher zero v = refl
byte_higher (suc i) v = rw (pow-succ', ← div-div-eq-div-mul)

-- the bytes of a number are the last of the eight that the code has of it
high_first : (w v : ℕ) → bytes_high_first (suc w) v ≡ bytes_high_first w (v / 256) ++ (v % 256 ∷ [])
high_first zero v = refl
high_first (suc w) v = rw (byte_higher w v, high_first w v)

pub digits_high_first : (w v : ℕ) → bytes_high_first w v ≡ digits w v
digits_high_first zero v = refl
digits_high_first (suc w) v = high_first w v ∙ rw (digits_high_first w (v / 256))

suc-add : (n w : ℕ) → suc n + w ≡ suc (n + w)
suc-add n w = omega arith

last_high_first : (n w v : ℕ) → drop n (bytes_high_first (n + w) v) ≡ bytes_high_first w v
last_high_first zero w v = rw zero-add
last_high_first (suc n) w v = rw (suc-add n w) (last_high_first n w v)

pub last_digits : (w v : ℕ) → w ≤ 8 → take (8 - (8 - w)) (drop (8 - w) (bytes_high_first 8 v)) ≡ digits w v
last_digits w v h =
    let s = drop (8 - w) (bytes_high_first 8 v) in
    let e : 8 - w + w ≡ 8 = omega arith in
    take_all (8 - (8 - w)) s (simp length-drop (omega arith))
    ∙ (rw e at (last_high_first (8 - w) w v) ∙ digits_high_first w v)

-- reading goes on where it stopped
pub append : (v : ℕ) (s t : List ℕ) → number_from v (s ++ t) ≡ number_from (number_from v s) t
append v [] t = refl
append v (b ∷ s) t = append (v * 256 + b) s t

pub number_digits : (w v : ℕ) → v < 256 ^ w → number (digits w v) ≡ v
number_digits zero v h = omega arith
number_digits (suc w) v h =
    append 0 (digits w (v / 256)) (v % 256 ∷ []) ∙ rw (number_digits w (v / 256) (omega arith)) (omega arith)

-- k bytes, then those of s
next : (k : ℕ) (s : List ℕ) → k + suc (length s) ≡ suc k + length s
next k s = omega arith

below : {s : List ℕ} → AllBytes s → (k v : ℕ) → v < 256 ^ k → number_from v s < 256 ^ (k + length s)
below none k v h = rw add-zero h
below (more {a = b} {l = s} l a) k v h = rw (next k s) (below a (suc k) (v * 256 + b) (omega arith))

pub number_below : (s : List ℕ) → AllBytes s → number s < 256 ^ length s
number_below s a = rw zero-add at (below a 0 0 (omega arith))

digits_step : (k v b : ℕ) → b < 256 → digits (suc k) (v * 256 + b) ≡ digits k v ++ (b ∷ [])
digits_step k v b l =
    let q : (v * 256 + b) / 256 ≡ v = omega arith in
    let r : (v * 256 + b) % 256 ≡ b = omega arith in
    rw (q, r)

digits_from : {s : List ℕ} → AllBytes s → (k v : ℕ) → digits (k + length s) (number_from v s) ≡ digits k v ++ s
digits_from none k v = simp (add-zero, append-nil)
digits_from (more {a = b} {l = s} l a) k v =
    rw (next k s, digits_from a (suc k) (v * 256 + b), digits_step k v b l, append_assoc)

pub digits_number : (s : List ℕ) → AllBytes s → digits (length s) (number s) ≡ s
digits_number s a = rw zero-add at (digits_from a 0 0)

pub bytes_take : (n : ℕ) {s : List ℕ} → AllBytes s → AllBytes (take n s)
bytes_take zero a = none
bytes_take (suc n) none = none
bytes_take (suc n) (more l a) = more l (bytes_take n a)

pub bytes_drop : (n : ℕ) {s : List ℕ} → AllBytes s → AllBytes (drop n s)
bytes_drop zero a = a
bytes_drop (suc n) none = none
bytes_drop (suc n) (more l a) = bytes_drop n a

pub all_bytes : (s : List ℕ) → ((i : ℕ) → get_or s i 0 < 256) → AllBytes s
all_bytes [] h = none
all_bytes (b ∷ s) h = more (h 0) (all_bytes s (λ i. h (suc i)))

-- the number of the first i bytes is v
pub record ReadSoFar (s : List ℕ) (i v : ℕ) : Type 0 where
  pub read : number_from v (drop i s) ≡ number s
  pub small : v < 256 ^ i

-- one byte more, where eight at most fit the code's numbers
pub read_next : {s : List ℕ} {i v : ℕ} → ReadSoFar s i v → i < length s → length s ≤ 8 → get_or s i 0 < 256 →
    ReadSoFar s (i + 1) (v * 256 + get_or s i 0) × (v * 256 + get_or s i 0 < 18446744073709551616)
read_next {s} {i} {v} r here most byte =
    let small : v * 256 + get_or s i 0 < 256 ^ (i + 1) =
    let f = r.small in rw (add-one, pow-succ') (omega arith) in
    let high : 256 ^ (i + 1) ≤ 256 ^ 8 = pow-le-pow_right {n = 256} (omega arith) {i = i + 1} {j = 8} (omega arith) in
    (record { read = rw add-one (rw (drop-cons s i 0 here) at r.read); small = small }, omega arith)
