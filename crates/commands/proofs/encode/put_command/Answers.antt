-- `put_command` puts the command's byte, and then the code's operands for those of its row.
-- Assumes nothing.
use mathlib.Core.Path.{◌≡◌, refl, ◌∙◌}
use mathlib.Core.Logic.{inl, inr}
use Prim.Native.Nat.{ℕ, ◌+◌, ◌-◌, ◌≤◌}
use mathlib.Core.List.{List, [], ◌∷◌}
use native.Mathlib.Omega.{arith}
use borrow.Rule.Slice.PartMut.{put_mid}
use lib.ListN.{length, take, drop, set, length-take, length-drop, length-set}
use lib.Seq.{drop-drop}
use Rattle.std.proofs.lemmas.List.Sums.{sum_by-cons}
use Rattle.lists.specs.Splice.{spliced}
use Rattle.lists.proofs.Splice.{Placed, placed_none, placed_next}
use Rattle.commands.specs.Number.{digits}
use Rattle.commands.specs.Rows.{row_of}
use Rattle.commands.specs.Bytes.{encode_of, width_of}
use Rattle.commands.specs.Command.{command_byte_of, operands_of}
use Rattle.commands.specs.declared.command.Command.{Command}
use Rattle.commands.specs.declared.row.TableOperand.{TableOperand}
use Rattle.commands.specs.declared.row.TableRow.{TableRow}
use Rattle.commands.specs.inner.Table.{code_row, code_size, code_values}
use Rattle.commands.proofs.Coding.{said}
use Rattle.commands.proofs.Digits.{length_digits}
use Rattle.commands.proofs.Every.{first}
use Rattle.commands.proofs.Put.{placed_byte}
use Rattle.commands.proofs.Table.{joined_code, length_joined_code, row_sizes, row_four, row_narrow, row_joined}
use Rattle.commands.proofs.encode.put_command.Goals as goal

-- the row that the code has of a command
module _ (c : Command) (b : ℕ) (is_byte : b ≡ command_byte_of c) (row : TableRow) (r : row ≡ code_row (row_of b)) where
  is_row : row ≡ code_row (row_of (command_byte_of c))
  is_row = rw is_byte at r

  -- the byte and the operands
  sized : 1 + code_size row.operands ≡ width_of c
  unfolding width_of
  sized = omega (arith, row_sizes (command_byte_of c) row is_row)

  -- the byte, and what is left to put after it
  begun : (out : List ℕ) (at : ℕ) (vs : List ℕ) → at + width_of c ≤ length out → vs ≡ code_values (operands_of c)
      → length vs ≡ length row.operands
      → spliced (set out at b) (at + 1) (joined_code row.operands vs) ≡ spliced out at (encode_of c)
  unfolding encode_of
  begun out at vs room e paired =
      let n = length_joined_code row.operands vs paired in
      let p = placed_byte out at b (omega (arith, sized)) in
      let left = joined_code row.operands vs in
      let q = placed_next {m = at + 1 + length left} p (omega (arith, sized)) left (refl, refl) in
      q.bytes ∙ rw (row_joined (command_byte_of c) row is_row (operands_of c) (said c).as_many vs e, is_byte) refl

-- a number in place of as many bytes, and then what is left
put : (out : List ℕ) (at w v k : ℕ) → k ≡ w → put_mid at k out (digits w v) ≡ spliced out at (digits w v)
unfolding spliced
put out at w v k e = simp (e, length_digits, drop-drop)

step : (out new : List ℕ) (at k : ℕ) (o : TableOperand) (v : ℕ) (os : List TableOperand) (vs : List ℕ) → k ≡ o.width
    → at + (o.width + code_size os) ≤ length out → length vs ≡ length os → new ≡ digits o.width v
    → spliced (put_mid at k out new) (at + o.width) (joined_code os vs) ≡ spliced out at (joined_code (o ∷ os) (v ∷ vs))
step out new at k o v os vs e room paired f =
    let n = length_joined_code os vs paired in
    let p : Placed out at (digits o.width v) (spliced out at (digits o.width v)) (at + o.width) =
    record { bytes = refl; end = rw length_digits refl } in
    let left = joined_code os vs in
    rw (f, put out at o.width v k e)
    (placed_next {m = at + o.width + length left} p (omega arith) left (refl, refl)).bytes

none_left : (os : List TableOperand) (vs : List ℕ) → length os ≡ 0 → (joined_code os vs ≡ []) × (code_size os ≡ 0)
none_left [] vs e = (refl, refl)
none_left (o ∷ os) vs e = absurd (omega arith)

pub bounds-out-at : goal.bounds-out-at
bounds-out-at c = omega (arith, sized _ _ c.byte_of-b.ensures _ c.row_of-row.ensures)

pub loop-v-init : goal.loop-v-init
loop-v-init c =
    let z = c.zip-v-items.ensures in
    let b = c.byte_of-b in
    let r = c.row_of-row in
    let v = c.operands_of-values in
    let is_row = rw b.ensures at r.ensures in
    let four = row_four (command_byte_of c.args.c) r.result is_row in
    let paired : length v.result ≡ length r.result.operands = rw (v.ensures.0, four) refl in
    rw (c.into_iter-v-iterator.ensures.into_iter_gives, z.first, c.iter.ensures.rest, z.second.0) record {
      whole =
          begun c.args.c b.result b.ensures r.result r.ensures c.args.out.now c.args.at v.result c.requires
          v.ensures.0 paired;
      end = omega (arith, sized _ _ b.ensures _ r.ensures);
      paired = paired;
      narrow = row_narrow (command_byte_of c.args.c) r.result is_row;
    }

pub loop-v-preserved : goal.loop-v-preserved
loop-v-preserved c =
    let l = c.loop-v in
    let s = c.in-Some.ensures.steps in
    let o = c.in-Some.o.now in
    let t = c.next.new.self in
    let i = l.invariant in
    let p = rw (s.0, s.1) at i.paired in
    let e = rw s.1 at i.end in
    let sum = sum_by-cons (λ (x : TableOperand). x.width) o t.b.rest.now in
    let room : l.next + (o.width + code_size t.b.rest.now) ≤ length l.out = omega (arith, length-set {A = ℕ}) in
    let n : length (take (l.next + o.width - l.next) (drop l.next l.out)) ≡ o.width =
    simp (length-take, length-drop) (omega arith) in
    let bytes = rw n at c.put_number.ensures in
    record {
      whole =
          step l.out c.put_number.new.out l.next _ o c.in-Some.v.now t.b.rest.now t.a.rest.now (omega arith) room
          (omega arith) bytes
          ∙ rw (s.0, s.1) at i.whole;
      end = omega arith;
      paired = omega arith;
      narrow = (first (rw s.1 at i.narrow)).1;
    }

pub returns : goal.returns
returns c =
    let l = c.loop-v in
    let i = l.invariant in
    let e : length l.v-iterator.b.rest.now ≡ 0 =
    elim c.in-None.ensures.steps [ inl x ↦ omega (arith, x.1.0, i.paired) | inr y ↦ y.1.0 ] in
    let n = none_left l.v-iterator.b.rest.now l.v-iterator.a.rest.now e in
    ((placed_none l.out l.next).bytes ∙ rw n.0 at i.whole, omega (arith, n.1, i.end))
