-- A command's bytes say the command, and the bytes that a command is read from are its own.
-- Assumes nothing.
use mathlib.Core.Path.{◌≡◌, refl}
use mathlib.Core.Bool.{Bool, true, false, cond}
use Prim.Native.Nat.{ℕ, ◌+◌, ◌^◌, ◌≤◌, ◌<◌}
use native.Mathlib.Omega.{arith}
use native.Mathlib.Numerals.{one-add}
use mathlib.Core.List.{List, [], ◌∷◌, ◌++◌, append_assoc}
use lib.Dec.{leb}
use lib.ListN.{length, take, drop, length-append, length-drop, take-append-drop}
use lib.Seq.{take_at, drop_at, take-add, length-take-le}
use borrow.Author.Tests.{ltb-true, leb-true, le-leb}
use Rattle.commands.specs.Number.{number, digits, AllBytes}
use Rattle.commands.specs.Rows.{CommandOperand, width_in, size_of, command_rows, layout_of, header_length, known}
use Rattle.commands.specs.Bytes.{joined, encode_of, width_of, operands_in, command_of, parse_of}
use Rattle.commands.specs.Command.{command_byte_of, stage_of, operands_of}
use Rattle.commands.specs.Header.{blank_header}
use Rattle.commands.specs.Fits.{FitsLayout, Fits}
use Rattle.commands.specs.Fits.FitsLayout.{none, more}
use Rattle.commands.specs.Progress.{after_of}
use Rattle.commands.specs.declared.command.Command.{Command}
use Rattle.std.specs.Prelude.{Ok, Err}
use Rattle.commands.specs.declared.parse.ParseError.TheVariants.{Unknown, Cut}
use Rattle.commands.specs.declared.progress.Progress.{Progress}
use Rattle.commands.proofs.Below.{below}
use Rattle.commands.proofs.HeaderLaw.{Said, header_law, header_said}
use Rattle.commands.proofs.Table.{Matched, nothing, one, matched, row_size}
use Rattle.commands.proofs.Digits.{length_digits, number_digits, number_below, digits_number, bytes_take}
use Rattle.commands.proofs.Digits.{bytes_drop}

-- ---- a command, its byte and its operands

pub said : (c : Command) → Said c
said Command.End = record { known_byte = refl; as_many = refl; same = refl }
said (Command.Header c) = header_said c
said (Command.Mark a m) = record { known_byte = refl; as_many = refl; same = refl }
said (Command.Name a t) = record { known_byte = refl; as_many = refl; same = refl }

-- the command of a byte has that byte, and the operands that it was made with
abbrev Parts : List ℕ → ℕ → Type 0
Parts s b = (command_byte_of (command_of b s) ≡ b) × (operands_of (command_of b s) ≡ operands_in (layout_of b) s)

command_parts : (b : ℕ) (s : List ℕ) → b < length command_rows → Parts s b
unfolding command_of
command_parts b s h = below (Parts s) (length command_rows) (search) b h

length_joined : {os : List CommandOperand} {vs : List ℕ} → Matched os vs → length (joined os vs) ≡ size_of os
length_joined nothing = refl
length_joined (one m) = simp (length-append, length_digits, length_joined m)

pub length_encode : (c : Command) → length (encode_of c) ≡ width_of c
unfolding encode_of width_of
length_encode c =
    omega (arith, length_joined (matched (layout_of (command_byte_of c)) (operands_of c) (said c).as_many))

pub width_positive : (c : Command) → 1 ≤ width_of c
unfolding width_of
width_positive c = omega arith

-- no command has more than 11 bytes
pub width_most : (c : Command) → width_of c ≤ 11
unfolding width_of
width_most c = omega (arith, row_size (command_byte_of c))

-- none stands past the header and what comes after it
pub stage_most : (c : Command) → stage_of c ≤ header_length
stage_most Command.End = omega arith
stage_most (Command.Header c) = omega (arith, (header_law blank_header c).early)
stage_most (Command.Mark a m) = omega arith
stage_most (Command.Name a t) = omega arith

pub after_at : (p : Progress) (c : Command) → (after_of p c).at ≡ p.at + width_of c
unfolding after_of
after_at p Command.End = refl
after_at p (Command.Header c) = refl
after_at p (Command.Mark a m) = refl
after_at p (Command.Name a t) = refl

-- ---- the operands of a row

-- what is joined is found again, whatever comes after it
operands_joined : {row : List CommandOperand} {vs : List ℕ} → FitsLayout row vs → (s : List ℕ) →
    operands_in row (joined row vs ++ s) ≡ vs
operands_joined none s = refl
operands_joined (more {o} {os} {v} {vs} l f) s =
    let w = width_in o in
    let d = digits w v in
    let r = joined os vs ++ s in
    let e = length_digits w v in
    rw (append_assoc d (joined os vs) s, take_at d r w e, drop_at d r w e, number_digits w v l, operands_joined f s)

-- the first w of some bytes
module _ (w : ℕ) (s : List ℕ) (a : AllBytes s) (room : w ≤ length s) where
  digits_taken : digits w (number (take w s)) ≡ take w s
  digits_taken = rw length-take-le at (digits_number (take w s) (bytes_take w a))

  taken_below : number (take w s) < 256 ^ w
  taken_below = rw length-take-le at (number_below (take w s) (bytes_take w a))

joined_operands : (row : List CommandOperand) (s : List ℕ) → AllBytes s → size_of row ≤ length s →
    joined row (operands_in row s) ≡ take (size_of row) s
joined_operands [] s a room = refl
joined_operands (o ∷ os) s a room =
    let w = width_in o in
    rw (
      digits_taken w s a (omega arith),
      joined_operands os (drop w s) (bytes_drop w a)
          (simp length-drop (omega arith)),
      ← take-add,
    )

fits_operands : (row : List CommandOperand) (s : List ℕ) → AllBytes s → size_of row ≤ length s →
    FitsLayout row (operands_in row s)
fits_operands [] s a room = none
fits_operands (o ∷ os) s a room =
    let w = width_in o in
    more (taken_below w s a (omega arith)) (fits_operands os (drop w s) (bytes_drop w a)
    (simp length-drop (omega arith)))

-- ---- reading

pub parse_encode : (c : Command) (s : List ℕ) → Fits c → parse_of (encode_of c ++ s) ≡ Ok c
unfolding parse_of encode_of command_of width_of
parse_encode c s f =
    let row = layout_of (command_byte_of c) in
    let room : size_of row ≤ length (joined row (operands_of c) ++ s) =
    simp length-append (omega (arith, length_encode c)) in
    rw ((said c).known_byte, le-leb _ _ room, operands_joined f s, (said c).same)

module _ (b : ℕ) (s : List ℕ) (c : Command) where
  picked : (k r : Bool) → cond k (cond r (Ok (command_of b s)) (Err Cut)) (Err Unknown) ≡ Ok c →
      (k ≡ true) × (r ≡ true) × (command_of b s ≡ c)
  picked true true e = (refl, refl, cc)
  picked true false e = (refl, cc, cc)
  picked false true e = (cc, refl, cc)
  picked false false e = (cc, cc, cc)

  -- what is read from a byte and those after it has that byte and their operands
  parts : parse_of (b ∷ s) ≡ Ok c → (command_byte_of c ≡ b) × (operands_of c ≡ operands_in (layout_of b) s)
      × (size_of (layout_of b) ≤ length s)
  unfolding parse_of
  parts e =
      let p = picked (known b) (leb (size_of (layout_of b)) (length s)) e in
      let q = command_parts b s (ltb-true _ _ p.0) in
      (cc (p.2, q.0), cc (p.2, q.1), leb-true _ _ p.1)

-- so the byte of a command that is found is the first
pub byte_found : (b : ℕ) (s : List ℕ) (c : Command) → parse_of (b ∷ s) ≡ Ok c → command_byte_of c ≡ b
byte_found b s c e = (parts b s c e).0

-- nothing is read from no bytes
none_found : (c : Command) → parse_of [] ≡ Ok c → ⊥
unfolding parse_of
none_found c e = let z : ◌≡◌ {A = ℕ} 0 1 = cc in omega arith

pub parse_room : (s : List ℕ) (c : Command) → parse_of s ≡ Ok c → width_of c ≤ length s
unfolding width_of
parse_room [] c e = absurd (none_found c e)
parse_room (b ∷ s) c e = let p = parts b s c e in rw p.0 (omega (arith, p.2))

pub encode_parse : (s : List ℕ) (c : Command) → AllBytes s → parse_of s ≡ Ok c →
    encode_of c ++ drop (width_of c) s ≡ s
unfolding encode_of width_of
encode_parse [] c a e = absurd (none_found c e)
encode_parse (b ∷ s) c a e =
    let p = parts b s c e in
    let row = layout_of b in
    rw (p.1, p.0, joined_operands row s (bytes_drop 1 a) p.2, one-add, take-append-drop (size_of row) s)

pub fits_parsed : (s : List ℕ) (c : Command) → AllBytes s → parse_of s ≡ Ok c → Fits c
fits_parsed [] c a e = absurd (none_found c e)
fits_parsed (b ∷ s) c a e =
    let p = parts b s c e in
    rw (p.1, p.0) (fits_operands (layout_of b) s (bytes_drop 1 a) p.2)
