-- The numbers of the causes: document 01's ("Where a ticket stops"), and from 25 on document 02's. None has 0.
-- Assumes nothing.
use Rattle.std.specs.Prelude.{ℕ}
use Rattle.answers.specs.declared.Cause.{Cause}
use Rattle.answers.specs.declared.Cause.TheVariants.{UnknownCommand, TicketCut, OutOfOrder, OutOfRange, WindowEdge}
use Rattle.answers.specs.declared.Cause.TheVariants.{WindowsShare, MarkOutside, AfterEnd, BadImage, BadMark, KeptOut}
use Rattle.answers.specs.declared.Cause.TheVariants.{WritesOutside, BadPull, NotMarked, DepthsDisagree, CostTooLow}
use Rattle.answers.specs.declared.Cause.TheVariants.{NeedTooLow, BadEntry, OverLimit, StackTooSmall, BadLength}
use Rattle.answers.specs.declared.Cause.TheVariants.{NoInstruction, Waits, OutputTooSmall, BadRecord, BadChecksum}
use Rattle.answers.specs.declared.Cause.TheVariants.{BadAddress, BadHome}

abbrev pub number_of : Cause → ℕ
number_of UnknownCommand = 1
number_of TicketCut = 2
number_of OutOfOrder = 3
number_of OutOfRange = 4
number_of WindowEdge = 5
number_of WindowsShare = 6
number_of MarkOutside = 7
number_of AfterEnd = 8
number_of BadImage = 9
number_of BadMark = 10
number_of KeptOut = 11
number_of WritesOutside = 12
number_of BadPull = 13
number_of NotMarked = 14
number_of DepthsDisagree = 15
number_of CostTooLow = 16
number_of NeedTooLow = 17
number_of BadEntry = 18
number_of OverLimit = 19
number_of StackTooSmall = 20
number_of BadLength = 21
number_of NoInstruction = 22
number_of Waits = 23
number_of OutputTooSmall = 24
number_of BadRecord = 25
number_of BadChecksum = 26
number_of BadAddress = 27
number_of BadHome = 29
