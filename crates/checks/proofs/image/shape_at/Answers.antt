-- `shape_at` meets its contract: the bytes that it reads are those of the image from the address on.
-- Assumes nothing.
use Rattle.std.proofs.Common.{◌≡◌, sym, Some, None}
use native.Mathlib.Nat.{add-zero, add_assoc}
use Rattle.opcodes.specs.inner.Lookup.{found_of}
use Rattle.rules.specs.Marks.{image_from}
use Rattle.checks.proofs.ShapeFound.{nowhere_shape, nowhere_size, there_shape, there_size}
use Rattle.checks.proofs.image.shape_at.Goals as goal

pub returns-in_default : goal.returns-in_default
returns-in_default c =
    let bytes = image_from c.args.code c.args.image.now c.args.a in
    let h : found_of (bytes 0) (bytes 1) ≡ None =
    simp (add-zero, ← c.byte_in.ensures, ← c.byte_in-2.ensures, ← c.in_default.ensures.found) in
    (sym (nowhere_shape bytes h c.args.a), sym (nowhere_size bytes h))

pub returns : goal.returns
returns c =
    let bytes = image_from c.args.code c.args.image.now c.args.a in
    let h : found_of (bytes 0) (bytes 1) ≡ Some c.in-Some.found =
    simp (add-zero, ← c.byte_in.ensures, ← c.byte_in-2.ensures, ← c.in-Some.ensures.found) in
    simp (
      there_shape bytes c.in-Some.found h,
      there_size bytes c.in-Some.found h,
      ← add_assoc,
      ← c.byte_in-u.ensures,
      ← c.byte_in-v.ensures,
      ← c.byte_in-w.ensures,
    )
    c.shape_found.ensures
