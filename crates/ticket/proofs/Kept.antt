-- What commands that state some fields leave, if each is admitted: these fields.
-- Assumes nothing.
use Prim.Native.Nat.{ℕ}
use mathlib.Core.Path.{◌≡◌, refl, sym, ap, ◌∙◌}
use mathlib.Core.List.{List, [], ◌∷◌, ◌++◌, append-nil, append_assoc}
use Rattle.commands.specs.declared.command.HeaderCommand.TheVariants.{Home}
use Rattle.commands.specs.declared.command.Command.{Command}
use Rattle.commands.specs.declared.header.Header.{Header}
use Rattle.commands.specs.declared.progress.Progress.{Progress}
use Rattle.commands.specs.Progress.{after_of}
use Rattle.commands.specs.Header.{blank_header, header_with}
use Rattle.ticket.specs.declared.fields.Mark.{Mark}
use Rattle.ticket.specs.Fields.{Fields, marks_with, in_file_order}
use Rattle.ticket.specs.Spells.{StatesMarks, States, stated}
use Rattle.ticket.specs.Spells.StatesHeader.{whole, homeless}
use Rattle.ticket.specs.Spells.StatesMarks.{none, unnamed, named}

abbrev pub header_after : Header → Command → Header
header_after h (Command.Header c) = header_with h c
header_after h (Command.Mark a k) = h
header_after h (Command.Name a t) = h
header_after h Command.End = h

pub header_of_after : (p : Progress) (c : Command) → (after_of p c).header ≡ header_after p.header c
unfolding after_of
header_of_after p (Command.Header c) = refl
header_of_after p (Command.Mark a k) = refl
header_of_after p (Command.Name a t) = refl
header_of_after p Command.End = refl

-- the fields after some commands, from the header and the marks, the latest first, before them
abbrev pub kept_of : Header → List Mark → List Command → Fields
kept_of h ms [] = record { header = h; marks = in_file_order ms }
kept_of h ms (c ∷ cs) = kept_of (header_after h c) (marks_with ms c) cs

kept_marks : {ms : List Mark} {cs : List Command} → StatesMarks ms cs → (h : Header) (ks : List Mark)
    → kept_of h ks (cs ++ (Command.End ∷ [])) ≡ record { header = h; marks = in_file_order ks ++ ms }
kept_marks none h ks = rw append-nil
kept_marks (unnamed {m} K) h ks = kept_marks K h (m ∷ ks) ∙ rw append_assoc
kept_marks (named {m} t n K) h ks = kept_marks K h (m ∷ ks) ∙ rw append_assoc

-- a header that no command says home of has home $0000
pub kept : (f : Fields) {cs : List Command} → States f cs → kept_of blank_header [] cs ≡ f
kept f (stated whole K) = kept_marks K f.header []
kept f (stated (homeless z) K) =
    kept_marks K _ []
    ∙ ap (λ (a : ℕ). record { header = header_with f.header (Home a); marks = f.marks }) (sym z)
