-- Reading an S-record file, line by line: the image that it names, or the first cause with its place (document 02, a:
-- 25 malformed line, 26 wrong checksum, 27 byte outside the code window, given twice, or never given).
-- Assumes nothing.
use Rattle.std.specs.Prelude.{ℕ, ◌+◌, ◌-◌, ◌*◌, ◌%◌, Bool, true, false, cond, not, ◌&&◌, List, [], ◌∷◌, eqb, leb}
use Rattle.std.specs.Prelude.{ltb, length, get_or, set, take, drop, replicate, Option, Some, None}
use Rattle.std.specs.List.{list_all}
use Rattle.lists.specs.Digit.{digit_of}
use Rattle.lists.specs.Bit.{one}
use Rattle.answers.specs.declared.Refusal.{Refusal}
use Rattle.ticket.specs.Read.{refusal}
use Rattle.commands.specs.declared.header.Window.{Window}
use Rattle.commands.specs.Header.{holds}
use Rattle.records.specs.declared.progress.FileProgress.{FileProgress}
use Rattle.records.specs.Record.{Given, given_from, sum}
use Rattle.answers.specs.declared.Cause.{Cause}
use Rattle.answers.specs.declared.Cause.TheVariants.{BadRecord, BadChecksum, BadAddress}

-- a byte before the first line of a file
abbrev pub onto : ℕ → List (List ℕ) → List (List ℕ)
onto b [] = (b ∷ []) ∷ []
onto b (l ∷ ls) = (b ∷ l) ∷ ls

-- the lines of a file, each with its LF; the last may have none
unfoldable pub lines_of : List ℕ → List (List ℕ)
lines_of [] = []
lines_of (b ∷ s) = cond (eqb b 0x0a) ((b ∷ []) ∷ lines_of s) (onto b (lines_of s))

-- a line's end: LF, or CR and LF
abbrev pub ends_of : List ℕ → Bool
ends_of [] = false
ends_of (c ∷ []) = eqb c 0x0a
ends_of (c ∷ d ∷ []) = eqb c 0x0d && eqb d 0x0a
ends_of (c ∷ d ∷ e ∷ s) = false

-- the byte of two digits, the higher first; none where one of them is no digit
abbrev pub pair_of : Option ℕ → Option ℕ → Option ℕ
pair_of None l = None
pair_of (Some h) None = None
pair_of (Some h) (Some l) = Some (16 * h + l)

-- a byte before others, where there are both
abbrev pub before : Option ℕ → Option (List ℕ) → Option (List ℕ)
before None o = None
before (Some b) None = None
before (Some b) (Some bs) = Some (b ∷ bs)

-- the bytes that digits spell up to a line's end; none where anything else stands there
unfoldable pub bytes_of : List ℕ → Option (List ℕ)
bytes_of [] = None
bytes_of (c ∷ []) = cond (ends_of (c ∷ [])) (Some []) None
bytes_of (c ∷ d ∷ s) =
    cond (ends_of (c ∷ d ∷ s)) (Some []) (before (pair_of (digit_of c) (digit_of d)) (bytes_of s))

-- of a record's bytes: count, address, data, checksum
abbrev pub address_of : List ℕ → ℕ
address_of bs = 256 * get_or bs 1 0 + get_or bs 2 0

abbrev pub data_of : List ℕ → List ℕ
data_of bs = take (length bs - 4) (drop 3 bs)

-- as its type wants it, `0`, `1`, `5` or `9`, where n S1 lines come before it
abbrev pub typed : ℕ → ℕ → List ℕ → Bool
typed t n bs =
    cond (eqb t 0x30) true
    (cond (eqb t 0x31) true
    (cond (eqb t 0x35) (eqb (length bs) 4 && eqb (address_of bs) n)
    (cond (eqb t 0x39) (eqb (length bs) 4) false)))

-- with exactly the bytes that the count says: address and checksum at least
unfoldable pub formed : ℕ → ℕ → List ℕ → Bool
formed t n bs = leb 4 (length bs) && (eqb (get_or bs 0 0 + 1) (length bs) && typed t n bs)

-- The image so far: a number for each byte of the code window, 256 where none is given. A code window has at most 4,096
-- bytes.
abbrev pub blank_cells : List ℕ
blank_cells = replicate 4096 256

-- an address of the code window that is not given yet
abbrev pub free : Window → List ℕ → ℕ → Bool
free w cs a = holds w a && leb 256 (get_or cs (a - w.start) 0)

-- bytes entered one after another; none where one of them is not free
unfoldable pub enter : Window → List ℕ → List Given → Option (List ℕ)
enter w cs [] = Some cs
enter w cs (x ∷ g) =
    cond (free w cs x.address) (enter w (set cs (x.address - w.start) x.byte) g) None

-- only S1 gives bytes
abbrev pub given_by : ℕ → List ℕ → List Given
given_by t bs = cond (eqb t 0x31) (given_from (address_of bs) (data_of bs)) []

-- of a line: its cause, or what it leaves for the next; two values, and so no Result
pub data LineOutcome : Type 0 where
  cause : Cause → LineOutcome
  next : FileProgress → List ℕ → LineOutcome

-- after a line of this type
abbrev pub after : FileProgress → ℕ → FileProgress
after p t = record { lines = p.lines + 1; s1 = p.s1 + one (eqb t 0x31); ended = eqb t 0x39 }

-- 27: a byte outside the code window, or given twice
abbrev pub entered_as : FileProgress → ℕ → Option (List ℕ) → LineOutcome
entered_as p t None = cause BadAddress
entered_as p t (Some cs) = next (after p t) cs

-- a line's first two characters, and its bytes. 25: malformed, or after S9; 26: wrong checksum; then 27
abbrev pub line_by : Window → FileProgress → List ℕ → ℕ → ℕ → Option (List ℕ) → LineOutcome
line_by w p cs s t None = cause BadRecord
line_by w p cs s t (Some bs) =
    cond (not p.ended && (eqb s 0x53 && formed t p.s1 bs))
    (cond (eqb (sum bs % 256) 255) (entered_as p t (enter w cs (given_by t bs))) (cause BadChecksum)) (cause BadRecord)

unfoldable pub line_of : Window → FileProgress → List ℕ → List ℕ → LineOutcome
line_of w p cs l = line_by w p cs (get_or l 0 0) (get_or l 1 0) (bytes_of (drop 2 l))

-- of the file: the image, or a refusal; no Result, as `good_exactly` and `file_numbered` are stated over this
pub data FileOutcome : Type 0 where
  named : List ℕ → FileOutcome
  refused : Refusal → FileOutcome

-- the number of the line after those so far, from 1; a place has 32 bits
abbrev pub line_number : FileProgress → ℕ
line_number p = (p.lines + 1) % 4294967296

abbrev pub all_given : List ℕ → Bool
all_given = list_all (λ c. ltb c 256)

-- after the last line. 25: S9 is absent; 27: a byte was never given
abbrev pub close_of : Window → FileProgress → List ℕ → FileOutcome
close_of w p cs =
    cond p.ended (cond (all_given (take w.length cs)) (named (take w.length cs)) (refused (refusal BadAddress 0)))
    (refused (refusal BadRecord (line_number p)))

abbrev pub onward : FileProgress → LineOutcome → (FileProgress → List ℕ → FileOutcome) → FileOutcome
onward p (cause n) f = refused (refusal n (line_number p))
onward p (next q cs) f = f q cs

-- the lines left
unfoldable pub file_from : Window → FileProgress → List ℕ → List (List ℕ) → FileOutcome
file_from w p cs [] = close_of w p cs
file_from w p cs (l ∷ ls) = onward p (line_of w p cs l) (λ q ds. file_from w q ds ls)

abbrev pub initial : FileProgress
initial = record { lines = 0; s1 = 0; ended = false }

unfoldable pub file_of : Window → List ℕ → FileOutcome
file_of w file = file_from w initial blank_cells (lines_of file)
