-- `admit::after` meets its contract: no sum overflows, since sound progress is short.
-- Assumes nothing.
use Prim.Native.Nat.{ℕ, ◌+◌, ◌<◌}
use mathlib.Core.Path.{◌≡◌}
use native.Mathlib.Omega.{arith}
use Rattle.commands.specs.Bytes.{width_of}
use Rattle.commands.specs.Command.{stage_of}
use Rattle.commands.specs.Progress.{after_of}
use Rattle.commands.specs.inner.Sound.{Sound}
use Rattle.commands.specs.declared.command.Command.{Command}
use Rattle.commands.specs.declared.progress.Progress.{Progress}
use Rattle.commands.proofs.Coding.{width_most, stage_most}
use Rattle.commands.proofs.Sound.{bounds}
use Rattle.commands.proofs.admit.after.Goals as goal

-- there is room for one command more
room : {p : Progress} (c : Command) → Sound p → {w n : ℕ} → w ≡ width_of c → n ≡ stage_of c →
    (p.at + w < 4294967296) × (n < 255) × (p.count < 65535)
room c s e f = omega (arith, bounds s, width_most c, stage_most c)

pub staged-requires : goal.staged-requires
staged-requires c =
    let staged : c.row_of-stage.result.stage ≡ stage_of c.args.c = simp (c.row_of-stage.ensures, c.byte_of.ensures) in
    let r = room c.args.c c.requires.0 c.width_of-width.ensures staged in
    (r.0, r.1)

pub marked-requires : goal.marked-requires
marked-requires c =
    let staged : c.row_of-stage.result.stage ≡ stage_of c.args.c = simp (c.row_of-stage.ensures, c.byte_of.ensures) in
    let r = room c.args.c c.requires.0 c.width_of-width.ensures staged in
    (r.0, r.2)

pub named-requires : goal.named-requires
named-requires c =
    let staged : c.row_of-stage.result.stage ≡ stage_of c.args.c = simp (c.row_of-stage.ensures, c.byte_of.ensures) in
    (room c.args.c c.requires.0 c.width_of-width.ensures staged).0

pub staged-requires-in-End : goal.staged-requires-in-End
staged-requires-in-End c =
    let staged : c.row_of-stage.result.stage ≡ stage_of c.args.c = simp (c.row_of-stage.ensures, c.byte_of.ensures) in
    let r = room c.args.c c.requires.0 c.width_of-width.ensures staged in
    (r.0, r.1)

pub returns-in-Header : goal.returns-in-Header
unfolding after_of
returns-in-Header c =
    simp (
      c.in-Header.is,
      c.staged.ensures,
      c.header_with.ensures,
      c.row_of-stage.ensures,
      c.byte_of.ensures,
      c.width_of-width.ensures,
    )

pub returns-in-Mark : goal.returns-in-Mark
unfolding after_of
returns-in-Mark c =
    simp (c.in-Mark.is, c.marked.ensures, c.row_of-stage.ensures, c.byte_of.ensures, c.width_of-width.ensures)

pub returns-in-Name : goal.returns-in-Name
unfolding after_of
returns-in-Name c =
    simp (c.in-Name.is, c.named.ensures, c.row_of-stage.ensures, c.byte_of.ensures, c.width_of-width.ensures)

pub returns-in-End : goal.returns-in-End
unfolding after_of
returns-in-End c =
    simp (c.in-End.is, c.staged-in-End.ensures, c.row_of-stage.ensures, c.byte_of.ensures, c.width_of-width.ensures)
