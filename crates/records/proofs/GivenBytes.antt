-- What records give are bytes.
-- Assumes nothing.
use Prim.Native.Nat.{ℕ, suc, ◌<◌}
use mathlib.Core.List.{List, [], ◌∷◌, ◌++◌}
use Rattle.commands.specs.Every.{Every}
use Rattle.commands.specs.Number.{AllBytes}
use Rattle.commands.proofs.Every.{first}
use Rattle.records.specs.Record.{Record, Given, given_from, Records, s0, s1, s5, s9, Gives, here, there}
use Rattle.records.proofs.Spelling.{hex_bytes}

-- the bytes that records give are bytes
front : (xs ys : List ℕ) → AllBytes (xs ++ ys) → AllBytes xs
front [] ys h = Every.none
front (x ∷ xs) ys (Every.more b h) = Every.more b (front xs ys h)

record_bytes : {t a : ℕ} {bytes l : List ℕ} → Record t a bytes l → AllBytes bytes
record_bytes {bytes = bytes} r = front bytes _ (first (first (first (hex_bytes r.spelled)).1).1).1

abbrev pub IsByte : Given → Type 0
IsByte x = x.byte < 256

from_bytes : (a : ℕ) (bs : List ℕ) (g : List Given) → AllBytes bs → Every IsByte g → Every IsByte (given_from a bs ++ g)
from_bytes a [] g h k = k
from_bytes a (b ∷ bs) g (Every.more x h) k = Every.more x (from_bytes (suc a) bs g h k)

pub given_bytes : {n : ℕ} {s : List ℕ} {g : List Given} → Records n s g → Every IsByte g
given_bytes (s0 r rest) = given_bytes rest
given_bytes (s1 {a = a} {bs = bs} {g = g} r rest) = from_bytes a bs g (record_bytes r) (given_bytes rest)
given_bytes (s5 r rest) = given_bytes rest
given_bytes (s9 r) = Every.none

pub gives_one : {P : Given → Type 0} {x : Given} {g : List Given} → Gives x g → Every P g → P x
gives_one here (Every.more p ps) = p
gives_one (there r) (Every.more p ps) = gives_one r ps
