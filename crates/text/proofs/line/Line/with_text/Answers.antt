-- `with_text` leaves the room zero, and the line as long as the buffer at most.
-- Assumes nothing.
use Rattle.std.proofs.Common.{rules, ◌≡◌, ◌≤◌, length, length-take-le, arith, sym, ap, ◌∙◌}
use Rattle.text.proofs.Written.{room_left}
use Rattle.text.proofs.line.Line.with_text.Goals as goal

pub invariant_of-self : goal.invariant_of-self
invariant_of-self c =
    let l = c.self.inside in
    let inside : l.len ≤ length l.bytes = omega (arith, c.self.invariant.0, c.self.invariant.1) in
    let held : length c.args.self ≡ l.len = sym (ap length c.self.view_is) ∙ length-take-le l.len l.bytes inside in
    let most : c.put_text.result ≤ 256 = omega (arith, c.requires, c.put_text.ensures.1, held) in (
      most,
      search rules,
      room_left l.bytes l.len c.args.s.now c.put_text.ensures.0 c.put_text.ensures.1 inside most c.self.invariant.2,
    )
