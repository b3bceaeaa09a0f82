-- The lines of a text, byte by byte: what is read of the last line, and what is counted of those before it
-- (docs/SIMULATORS.md, "The file").
-- Assumes nothing.
use Rattle.std.specs.Prelude.{◌≡◌, ℕ, ◌<◌, List, [], ◌∷◌, ◌++◌, length, take, ◌≢◌}
use Rattle.vectors.specs.Line.{kind_in}
use Rattle.vectors.specs.Vector.{Compared}
use Rattle.vectors.specs.Count.{counted_of}
use Rattle.vectors.specs.declared.count.Counts.{Counts}
use Rattle.vectors.specs.declared.reader.Reader.{Reader}
use Rattle.vectors.specs.declared.comparison.Comparison.{Comparison}

-- a line is counted by what comes of it
abbrev pub Counted : List ℕ → Counts → Counts → Type 0
Counted s c c' = (v : Comparison) × Compared s v × (c' ≡ counted_of c (kind_in s) v)

pub record LineReading : Type 0 where
  pub line : List ℕ
  pub counts : Counts

abbrev pub reading : List ℕ → Counts → LineReading
reading l c = record { line = l; counts = c }

-- what a reader holds
abbrev pub held : Reader → LineReading
held r = reading (take r.filled r.buffer) r.counts

-- one byte more. A line feed ends a line. 256 bytes of a line are kept: no vector is as long, so a longer line is
-- malformed
pub data Next : ℕ → LineReading → LineReading → Type 0 where
  ended : {l : List ℕ} {c c' : Counts} → Counted l c c' → Next 10 (reading l c) (reading [] c')
  longer : {b : ℕ} {l : List ℕ} {c : Counts} → (b ≢ 10) → length l < 256 →
      Next b (reading l c) (reading (l ++ (b ∷ [])) c)
  full : {b : ℕ} {l : List ℕ} {c : Counts} → (b ≢ 10) → length l ≡ 256 → Next b (reading l c) (reading l c)

-- a text, from its first byte on
pub data ReadsLines : List ℕ → LineReading → LineReading → Type 0 where
  none : {p : LineReading} → ReadsLines [] p p
  then : {b : ℕ} {t : List ℕ} {p p' q : LineReading} → Next b p p' → ReadsLines t p' q → ReadsLines (b ∷ t) p q
