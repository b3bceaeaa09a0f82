-- Commands whose operands fit: one by the ranges of its numbers, and some one after another.
-- Assumes nothing.
use Prim.Native.Nat.{ℕ, ◌<◌}
use native.Mathlib.Omega.{arith}
use mathlib.Core.List.{List, [], ◌∷◌, ◌++◌}
use Rattle.commands.specs.declared.header.Header.{Header}
use Rattle.commands.specs.declared.command.Command.{Command}
use Rattle.commands.specs.Every.{none, more}
use Rattle.commands.specs.Header.{required_commands, header_commands}
use Rattle.commands.specs.Fits.{Fits}
use Rattle.commands.specs.Fits.FitsLayout.{none as no_operand, more as operand}
use Rattle.ticket.specs.declared.fields.Mark.{Mark}
use Rattle.ticket.specs.Fields.{Fields}
use Rattle.ticket.specs.Write.{mark_command, mark_commands, commands_of}
use Rattle.ticket.specs.Spells.{StatesHeader, NameText, StatesMarks, States, stated}
use Rattle.ticket.specs.Spells.StatesHeader.{whole, homeless}
use Rattle.ticket.specs.Spells.{StatesMarks as Marks}
use Rattle.ticket.specs.RoundTrip.{AllFit, FitsFields}

pub fits_mark : (m : Mark) → m.address < 65536 → m.claim.cost.0 < 4294967296 → m.claim.depth.0 < 65536 →
    m.claim.need.0 < 65536 → Fits (mark_command m)
fits_mark m a c d n = operand a (operand c (operand d (operand n no_operand)))

pub fit_append : {cs ds : List Command} → AllFit cs → AllFit ds → AllFit (cs ++ ds)
fit_append none fits = fits
fit_append (more fit more_fit) fits = more fit (fit_append more_fit fits)

-- what fits one after another fits by itself
fit_parts : (cs ds : List Command) → AllFit (cs ++ ds) → AllFit cs × AllFit ds
fit_parts [] ds fits = (none, fits)
fit_parts (c ∷ cs) ds (more fit fits) = let p = fit_parts cs ds fits in (more fit p.0, p.1)

pub fit_ticket : (f : Fields) → AllFit (header_commands f.header) → AllFit (mark_commands f.marks) → FitsFields f
unfolding commands_of
fit_ticket f header marks = fit_append header (fit_append marks (more no_operand none))

-- ---- commands that state some fields fit where the fields do, and only there

module _ (h : Header) where
  fit_header : {hs : List Command} → StatesHeader h hs → AllFit (header_commands h) → AllFit hs
  fit_header whole fits = fits
  fit_header (homeless z) fits = (fit_parts (required_commands h) _ fits).0

  -- home's command is put in
  header_fits : {hs : List Command} → StatesHeader h hs → AllFit hs → AllFit (header_commands h)
  header_fits whole fits = fits
  header_fits (homeless z) fits = fit_append fits (more (operand (omega arith) no_operand) none)

-- a name's address is its mark's
fit_name : {m : Mark} {t : ℕ} → Fits (mark_command m) → NameText t → Fits (Command.Name m.address t)
fit_name (operand a fits) n = operand a (operand n.eight no_operand)

fit_marks : {ms : List Mark} {cs : List Command} → StatesMarks ms cs → AllFit (mark_commands ms) → AllFit cs
fit_marks Marks.none fits = none
fit_marks (Marks.unnamed K) (more fit fits) = more fit (fit_marks K fits)
fit_marks (Marks.named t n K) (more fit fits) = more fit (more (fit_name fit n) (fit_marks K fits))

marks_fit : {ms : List Mark} {cs : List Command} → StatesMarks ms cs → AllFit cs → AllFit (mark_commands ms)
marks_fit Marks.none fits = none
marks_fit (Marks.unnamed K) (more fit fits) = more fit (marks_fit K fits)
marks_fit (Marks.named t n K) (more fit (more fit_name fits)) = more fit (marks_fit K fits)

module _ (f : Fields) where
  pub fit_stated : {cs : List Command} → States f cs → FitsFields f → AllFit cs
  unfolding commands_of
  fit_stated (stated H K) fits =
      let p = fit_parts (header_commands f.header) _ fits in
      let q = fit_parts (mark_commands f.marks) _ p.1 in
      fit_append (fit_header f.header H p.0) (fit_append (fit_marks K q.0) q.1)

  pub stated_fits : {cs : List Command} → States f cs → AllFit cs → FitsFields f
  stated_fits (stated {hs} {cs} H K) fits =
      let p = fit_parts hs _ fits in
      fit_ticket f (header_fits f.header H p.0) (marks_fit K (fit_parts cs _ p.1).0)
