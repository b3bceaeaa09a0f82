-- The modes that an action can have. The table gives an action no other, so the code that takes its operand looks for
-- these alone. An inner matter of the code.
-- Assumes nothing.
use Rattle.std.specs.Prelude.{Bool, true, false}
use Rattle.opcodes.specs.declared.instruction.Action.{Action}
use Rattle.opcodes.specs.declared.instruction.Action.TheVariants.{Inherent, Unary, TstAccumulator, Binary}
use Rattle.opcodes.specs.declared.instruction.Action.TheVariants.{TstMemory, LoadWord, Addd, Subd, CompareWord}
use Rattle.opcodes.specs.declared.instruction.Action.TheVariants.{StoreByte, StoreWord, Modify, Bset, Bclr}
use Rattle.opcodes.specs.declared.instruction.Action.TheVariants.{Brset, Brclr, Branch, Jmp, Call, Rts, PushByte}
use Rattle.opcodes.specs.declared.instruction.Action.TheVariants.{PushWord, PullByte, PullWord, Des, Ins}
use Rattle.opcodes.specs.declared.instruction.Action.TheVariants.{SetStack, Swi, Rti, Wai, Stop, Test}
use Rattle.opcodes.specs.declared.instruction.Mode.{Mode}

-- an answer for each kind of mode: without an operand, an immediate byte, an immediate word, a place in memory, an
-- offset, a mask, a mask and an offset
abbrev pub by_kind : Mode → (inherent byte word memory offset mask mask_branch : Bool) → Bool
by_kind Mode.Inherent inherent byte word memory offset mask mask_branch = inherent
by_kind Mode.Immediate8 inherent byte word memory offset mask mask_branch = byte
by_kind Mode.Immediate16 inherent byte word memory offset mask mask_branch = word
by_kind Mode.Direct inherent byte word memory offset mask mask_branch = memory
by_kind Mode.Extended inherent byte word memory offset mask mask_branch = memory
by_kind Mode.IndexedX inherent byte word memory offset mask mask_branch = memory
by_kind Mode.IndexedY inherent byte word memory offset mask mask_branch = memory
by_kind Mode.Relative inherent byte word memory offset mask mask_branch = offset
by_kind Mode.MaskDirect inherent byte word memory offset mask mask_branch = mask
by_kind Mode.MaskX inherent byte word memory offset mask mask_branch = mask
by_kind Mode.MaskY inherent byte word memory offset mask mask_branch = mask
by_kind Mode.MaskBranchDirect inherent byte word memory offset mask mask_branch = mask_branch
by_kind Mode.MaskBranchX inherent byte word memory offset mask mask_branch = mask_branch
by_kind Mode.MaskBranchY inherent byte word memory offset mask mask_branch = mask_branch

abbrev pub memory_mode : Mode → Bool
memory_mode m = by_kind m false false false true false false false

abbrev pub byte_mode : Mode → Bool
byte_mode m = by_kind m false true false true false false false

abbrev pub word_mode : Mode → Bool
word_mode m = by_kind m false false true true false false false

-- JSR; BSR
abbrev pub call_mode : Mode → Bool
call_mode m = by_kind m false false false true true false false

abbrev pub relative_mode : Mode → Bool
relative_mode m = by_kind m false false false false true false false

abbrev pub mask_mode : Mode → Bool
mask_mode m = by_kind m false false false false false true false

abbrev pub mask_branch_mode : Mode → Bool
mask_branch_mode m = by_kind m false false false false false false true

-- where the operand is not looked at, any mode will do
unfoldable pub fits : Action → Mode → Bool
fits (Inherent i) m = true
fits (Unary u c) m = true
fits (TstAccumulator c) m = true
fits (Binary b c) m = byte_mode m
fits TstMemory m = memory_mode m
fits (LoadWord w) m = word_mode m
fits Addd m = word_mode m
fits Subd m = word_mode m
fits (CompareWord w) m = word_mode m
fits (StoreByte c) m = memory_mode m
fits (StoreWord w) m = memory_mode m
fits (Modify u) m = memory_mode m
fits Bset m = mask_mode m
fits Bclr m = mask_mode m
fits Brset m = mask_branch_mode m
fits Brclr m = mask_branch_mode m
fits (Branch k) m = relative_mode m
fits Jmp m = memory_mode m
fits Call m = call_mode m
fits Rts m = true
fits (PushByte c) m = true
fits (PushWord i) m = true
fits (PullByte c) m = true
fits (PullWord i) m = true
fits Des m = true
fits Ins m = true
fits (SetStack i) m = true
fits Swi m = true
fits Rti m = true
fits Wai m = true
fits Stop m = true
fits Test m = true
