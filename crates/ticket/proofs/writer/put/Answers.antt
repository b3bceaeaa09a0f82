-- `put` puts the header, the marks one after another and the end.
-- Assumes nothing.
use mathlib.Core.Path.{◌≡◌, refl, sym, ap, ◌∙◌}
use native.Mathlib.Omega.{arith}
use Prim.Native.Nat.{◌+◌}
use mathlib.Core.List.{[], ◌++◌}
use lib.ListN.{length, get_or, length-append}
use Rattle.commands.specs.declared.command.Command.TheVariants as Command
use Rattle.commands.specs.Bytes.{width_of}
use Rattle.commands.specs.Header.{header_commands}
use Rattle.lists.specs.Splice.{spliced}
use Rattle.lists.proofs.Splice.{Placed, placed_next}
use Rattle.ticket.specs.declared.fields.Ticket.{Ticket}
use Rattle.ticket.specs.Fields.{blank_mark, mark_index, fields_of}
use Rattle.ticket.specs.Write.{mark_command, encode_all, bytes_of}
use Rattle.ticket.proofs.Left.{marks_left, whole, next_mark, no_mark}
use Rattle.ticket.proofs.Parts.{encode_append, put_end, put_left, put_none}
use Rattle.ticket.proofs.writer.put.Goals as goal

parts : (t : Ticket) → bytes_of (fields_of t)
    ≡ encode_all (header_commands t.header) ++ encode_all (marks_left t.marks t.count 0)
unfolding bytes_of
parts t = ap encode_all (whole t) ∙ encode_append (header_commands t.header) (marks_left t.marks t.count 0)

size : (t : Ticket) → length (bytes_of (fields_of t))
    ≡ length (encode_all (header_commands t.header)) + length (encode_all (marks_left t.marks t.count 0))
size t =
    ap length (parts t)
    ∙ length-append (encode_all (header_commands t.header)) (encode_all (marks_left t.marks t.count 0))

pub put_all-at-requires : goal.put_all-at-requires
put_all-at-requires c = rw c.header_commands.ensures.0 (omega (arith, size c.args.t.now))

pub put_command-at-requires : goal.put_command-at-requires
unfolding width_of
put_command-at-requires c =
    let l = c.loop-i in
    let t = c.args.t.now in
    let k = mark_command (get_or t.marks (mark_index l.i) blank_mark) in
    let head = rw c.header_commands.ensures.0 at c.put_all-at.ensures.1 in
    let e = rw (next_mark t.marks t.count l.i (omega arith)) at l.invariant.end in
    let room = put_end l.at (l.at + width_of k) k (marks_left t.marks t.count (l.i + 1)) refl in
    rw c.mark_command.ensures.0 (omega (arith, e, head, size t, room))

pub loop-i-preserved : goal.loop-i-preserved
loop-i-preserved c =
    let l = c.loop-i in
    let t = c.args.t.now in
    let k = mark_command (get_or t.marks (mark_index l.i) blank_mark) in
    let command : c.mark_command.result ≡ k = simp (c.mark_command.ensures.0, c.mark_index.ensures) in
    let rest = marks_left t.marks t.count (l.i + 1) in
    let n = next_mark t.marks t.count l.i (omega arith) in
    let put = rw command at c.put_command-at.ensures in
    let head = rw c.header_commands.ensures.0 at c.put_all-at.ensures.1 in
    let e = rw n at l.invariant.end in
    let out = c.put_command-at.new.out in
    let next = c.put_command-at.result in
    record {
      whole =
          put_left l.out out l.at next k rest (omega (arith, e, head, size t)) put ∙ (rw n at l.invariant.whole);
      end = put_end l.at next k rest put.1 ∙ e;
    }

pub put_command-requires : goal.put_command-requires
put_command-requires c =
    let l = c.loop-i in
    let t = c.args.t.now in
    let all : l.i ≡ t.count = omega arith in
    let head = rw c.header_commands.ensures.0 at c.put_all-at.ensures.1 in
    let e = rw (all, no_mark) at l.invariant.end in
    omega (arith, e, head, size t, put_end l.at (l.at + width_of Command.End) Command.End [] refl)

pub returns : goal.returns
returns c =
    let l = c.loop-i in
    let t = c.args.t.now in
    let all : l.i ≡ t.count = omega arith in
    let first = rw c.header_commands.ensures.0 at c.put_all-at.ensures in
    let e = rw (all, no_mark) at l.invariant.end in
    let w = rw (all, no_mark) at l.invariant.whole in
    let marks = encode_all (marks_left t.marks t.count 0) in
    let header = encode_all (header_commands t.header) in
    let last = c.put_command in
    let room = size t in
    let put =
    put_left l.out last.new.out l.at last.result Command.End [] (omega (arith, e, first.1, room)) last.ensures in
    let p : Placed c.args.out.now 0 header c.put_all-at.new.out c.put_all-at.result =
    record { bytes = first.0; end = first.1 } in
    let q = placed_next {m = c.put_all-at.result + length marks} p (omega (arith, first.1, room)) marks (refl, refl) in
    put_none last.new.out last.result ∙ put ∙ w ∙ q.bytes ∙ ap (spliced c.args.out.now 0) (sym (parts t))
