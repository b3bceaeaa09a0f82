-- The bytes of commands, one after another, and how they are put.
-- Assumes nothing.
use mathlib.Core.Path.{◌≡◌, refl}
use Prim.Native.Nat.{ℕ, ◌+◌, ◌≤◌, ◌<◌}
use native.Mathlib.Omega.{arith}
use mathlib.Core.List.{List, [], ◌∷◌, ◌++◌, append_assoc}
use native.Mathlib.Numerals.{add-one}
use lib.ListN.{length, get_or, drop, length-append}
use lib.Seq.{drop-cons}
use Rattle.commands.specs.declared.command.HeaderCommand.TheVariants.{Code}
use Rattle.commands.specs.declared.command.Command.{Command}
use Rattle.commands.specs.Bytes.{encode_of, width_of}
use Rattle.commands.proofs.Coding.{length_encode}
use Rattle.ticket.specs.Write.{encode_all}
use Rattle.lists.specs.Splice.{spliced}
use Rattle.lists.proofs.Splice.{Placed, placed_none, placed_next}

pub encode_append : (cs ds : List Command) → encode_all (cs ++ ds) ≡ encode_all cs ++ encode_all ds
encode_append [] ds = refl
encode_append (c ∷ cs) ds = rw (encode_append cs ds, append_assoc)

-- a command put, and those that are left after it
pub put_end : (at next : ℕ) (c : Command) (cs : List Command) → next ≡ at + width_of c
    → next + length (encode_all cs) ≡ at + length (encode_all (c ∷ cs))
put_end at next c cs e = simp length-append (omega (arith, length_encode c))

pub put_left : (out new : List ℕ) (at next : ℕ) (c : Command) (cs : List Command)
    → at + length (encode_all (c ∷ cs)) ≤ length out → (new ≡ spliced out at (encode_of c)) × (next ≡ at + width_of c)
    → spliced new next (encode_all cs) ≡ spliced out at (encode_all (c ∷ cs))
put_left out new at next c cs room p =
    let q : Placed out at (encode_of c) new next = record { bytes = p.0; end = rw length_encode p.1 } in
    let left = encode_all cs in
    (placed_next {m = next + length left} q (omega (arith, put_end at next c cs p.1)) left (refl, refl)).bytes

-- the commands from one on
abbrev pub any : Command
any = Command.Header (Code (record { start = 0; length = 0 }))

pub next_of : (cs : List Command) (i : ℕ) → i < length cs → drop i cs ≡ get_or cs i any ∷ drop (i + 1) cs
next_of cs i l = rw add-one (drop-cons cs i any l)

-- none is left
pub put_none : (out : List ℕ) (at : ℕ) → out ≡ spliced out at []
put_none out at = (placed_none out at).bytes
