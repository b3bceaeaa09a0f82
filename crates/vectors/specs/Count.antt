-- What is counted of lines (docs/SIMULATORS.md, "The file"). The counts wrap at 2^32.
-- Assumes nothing.
use Rattle.std.specs.Prelude.{ℕ, ◌+◌, ◌%◌, cond, ◌==◌}
use Rattle.vectors.specs.declared.count.Counts.{Counts}
use Rattle.vectors.specs.declared.comparison.Comparison.{Comparison}
use Rattle.vectors.specs.declared.comparison.Comparison.TheVariants.{Malformed, Differs, Agrees}

abbrev pub next : ℕ → ℕ
next n = (n + 1) % 4294967296

abbrev pub none : Counts
none = record { vectors = 0; neither = 0; gnu = 0; mame = 0; both = 0; malformed = 0; differences = 0 }

-- 0: neither simulator alone; 1: GNU's; 2: MAME's; else both
abbrev pub confirmed_of : Counts → ℕ → Counts
confirmed_of c kind =
    record {
      vectors = next c.vectors;
      neither = cond (kind == 0) (next c.neither) c.neither;
      gnu = cond (kind == 1) (next c.gnu) c.gnu;
      mame = cond (kind == 2) (next c.mame) c.mame;
      both = cond (kind == 0) c.both (cond (kind == 1) c.both (cond (kind == 2) c.both (next c.both)));
      malformed = c.malformed;
      differences = c.differences;
    }

abbrev pub counted_of : Counts → ℕ → Comparison → Counts
counted_of c kind Malformed =
    record {
      vectors = c.vectors;
      neither = c.neither;
      gnu = c.gnu;
      mame = c.mame;
      both = c.both;
      malformed = next c.malformed;
      differences = c.differences;
    }
counted_of c kind Differs =
    let n = confirmed_of c kind in
    record {
      vectors = n.vectors;
      neither = n.neither;
      gnu = n.gnu;
      mame = n.mame;
      both = n.both;
      malformed = n.malformed;
      differences = next n.differences;
    }
counted_of c kind Agrees = confirmed_of c kind
