-- A good file names its image.
-- Assumes nothing.
use Prim.Native.Nat.{ℕ, suc, ◌+◌, ◌≤◌, ◌<◌}
use mathlib.Core.Path.{◌≡◌, refl, sym, ◌∙◌}
use mathlib.Core.Logic.{◌⊎◌, inl, inr}
use mathlib.Core.Bool.{Bool, true, false, cond, false≢true}
use mathlib.Core.List.{List, [], ◌∷◌, ◌++◌, append-nil}
use Rattle.std.specs.Prelude.{Some}
use native.Mathlib.Omega.{arith}
use native.Mathlib.Nat.{add-zero}
use native.Mathlib.Numerals.{add-one}
use lib.Dec.{eqb}
use lib.ListN.{length, get_or, take}
use lib.Seq.{get_or-take, length-take-le}
use Rattle.lists.specs.Bit.{one}
use Rattle.commands.specs.declared.header.Window.{Window}
use Rattle.answers.specs.declared.Cause.TheVariants.{BadAddress}
use Rattle.answers.specs.declared.Refusal.{Refusal}
use Rattle.records.specs.declared.progress.FileProgress.{FileProgress}
use Rattle.records.specs.Record.{Record, Given, given_from, Records, s0, s1, s5, s9, Gives, Names}
use Rattle.records.specs.Read.{lines_of, address_of, data_of, enter, LineOutcome, cause, next}
use Rattle.records.specs.Read.{line_of, named, refused, all_given, close_of, onward, file_from, initial}
use Rattle.records.specs.Read.{blank_cells, file_of}
use Rattle.records.proofs.Entering.{entered_once, entered_inside, entered_size, old_or_given}
use Rattle.records.proofs.Entering.{none_entered}
use Rattle.records.proofs.RecordLaw.{is_record, formed_encoded}
use Rattle.records.proofs.LineLaw as Line
use Rattle.records.proofs.Joined.{joined, joined_lines}
use Rattle.records.proofs.EnteringTwice.{enter_both}
use Rattle.records.proofs.GivenBytes.{given_bytes}
use Rattle.records.proofs.AllGiven.{given_byte, blank_size, blank_at}

refused_named : (r : Refusal) (image : List ℕ) → refused r ≡ named image → ⊥
refused_named r image e = let z : ◌≡◌ {A = ℕ} 0 1 = cc in omega arith

-- what is known of lines that are read to an image
record ReadSo (w : Window) (n : ℕ) (cs : List ℕ) (ls : List (List ℕ)) (image : List ℕ) : Type 0 where
  given : List Given
  cells : List ℕ
  records : Records n (joined ls) given
  entered_so : enter w cs given ≡ Some cells
  image_is : image ≡ take w.length cells
  whole : all_given image ≡ true

module _ (w : Window) where
  -- after S9 no line is left
  at_close : (p : FileProgress) (cs image : List ℕ) → p.ended ≡ true → close_of w p cs ≡ named image
      → (image ≡ take w.length cs) × (all_given image ≡ true)
  at_close p cs image e h = by_given (all_given (take w.length cs)) refl (rw e at h)
    where
      by_given : (b : Bool) → all_given (take w.length cs) ≡ b
          → cond b (named (take w.length cs)) (refused (record { cause = BadAddress; place = 0 })) ≡ named image
          → (image ≡ take w.length cs) × (all_given image ≡ true)
      by_given false g h = absurd (refused_named _ _ h)
      by_given true g h = let same : take w.length cs ≡ image = cc in (sym same, rw same at g)

  none_after : (p : FileProgress) (cs : List ℕ) (ls : List (List ℕ)) (image : List ℕ) → p.ended ≡ true
      → file_from w p cs ls ≡ named image → (ls ≡ []) × (close_of w p cs ≡ named image)
  unfolding file_from
  none_after p cs [] image e h = (refl, h)
  none_after p cs (l ∷ ls) image e h = absurd (by_line (line_of w p cs l) refl h)
    where
      by_line : (o : LineOutcome) → line_of w p cs l ≡ o
          → onward p o (λ q ds. file_from w q ds ls) ≡ named image → ⊥
      by_line (cause c) f h = refused_named _ _ h
      by_line (next q ds) f h = false≢true (sym (Line.line_left w p cs l q ds f).running ∙ e)

  -- one line more, by its type
  module _ (p : FileProgress) (cs l : List ℕ) (q : FileProgress) (ds : List ℕ) (left : Line.Left w p cs l q ds)
      (ls : List (List ℕ)) (image : List ℕ) where
    abbrev bs : List ℕ
    bs = left.bytes

    abbrev is : Record (get_or l 1 0) (address_of bs) (data_of bs) l
    is =
        is_record l bs left.begins left.read
        (formed_encoded (get_or l 1 0) p.s1 bs left.formed_so).0 left.summed

    -- a line that gives nothing, and after which others come
    gives_nothing : (t : ℕ) → get_or l 1 0 ≡ t → eqb t 0x31 ≡ false → (cs ≡ ds) × (q.s1 ≡ p.s1)
    gives_nothing t e other =
        let count : q.s1 ≡ p.s1 + one (eqb t 0x31) = rw (left.after_is, e) in
        (none_entered w cs ds (rw (e, other) at left.entered), (rw other at count) ∙ add-zero p.s1)

    abbrev Onward : Type 0
    Onward = q.ended ≡ false → ReadSo w q.s1 ds ls image

    with_line : Line.Typed (get_or l 1 0) p.s1 bs → file_from w q ds ls ≡ named image → Onward
        → ReadSo w p.s1 cs (l ∷ ls) image
    with_line (Line.s0 t) h onward =
        let r = onward (rw (left.after_is, t)) in
        let same = gives_nothing 0x30 t refl in
        record {
          given = r.given;
          cells = r.cells;
          records = s0 (rw t at is) (rw same.1 at r.records);
          entered_so = rw same.0 r.entered_so;
          image_is = r.image_is;
          whole = r.whole;
        }
    with_line (Line.s1 t) h onward =
        let r = onward (rw (left.after_is, t)) in
        let more : q.s1 ≡ suc p.s1 = rw (left.after_is, t, add-one) in
        let entered_first : enter w cs (given_from (address_of bs) (data_of bs)) ≡ Some ds = rw t at left.entered in
        record {
          given = given_from (address_of bs) (data_of bs) ++ r.given;
          cells = r.cells;
          records = s1 (rw t at is) (rw more at r.records);
          entered_so = enter_both w _ r.given cs ds r.cells entered_first r.entered_so;
          image_is = r.image_is;
          whole = r.whole;
        }
    with_line (Line.s5 t four count) h onward =
        let r = onward (rw (left.after_is, t)) in
        let same = gives_nothing 0x35 t refl in
        record {
          given = r.given;
          cells = r.cells;
          records = s5 (rw (t, count, Line.no_data bs four) at is) (rw same.1 at r.records);
          entered_so = rw same.0 r.entered_so;
          image_is = r.image_is;
          whole = r.whole;
        }
    with_line (Line.s9 t four) h onward =
        let n = none_after q ds ls image (rw (left.after_is, t)) h in
        let c = at_close q ds image (rw (left.after_is, t)) n.1 in
        let same = gives_nothing 0x39 t refl in
        record {
          given = [];
          cells = ds;
          records = rw (n.0, append-nil) (s9 (rw (t, Line.no_data bs four) at is));
          entered_so = rw t at left.entered;
          image_is = c.0;
          whole = c.1;
        }

  -- lines that are read to an image are records, and what they give was entered
  read_so : (ls : List (List ℕ)) (p : FileProgress) (cs image : List ℕ) → p.ended ≡ false
      → file_from w p cs ls ≡ named image → ReadSo w p.s1 cs ls image
  unfolding file_from
  read_so [] p cs image e h = absurd (refused_named _ _ (rw e at h))
  read_so (l ∷ ls) p cs image e h = by_line (read_so ls) (line_of w p cs l) refl h
    where
      by_line : ((q : FileProgress) (ds i : List ℕ) → q.ended ≡ false → file_from w q ds ls ≡ named i
          → ReadSo w q.s1 ds ls i) → (o : LineOutcome) → line_of w p cs l ≡ o
          → onward p o (λ q ds. file_from w q ds ls) ≡ named image → ReadSo w p.s1 cs (l ∷ ls) image
      by_line again (cause c) f h = absurd (refused_named _ _ h)
      by_line again (next q ds) f h =
          let left = Line.line_left w p cs l q ds f in
          let typed = Line.typed_says (get_or l 1 0) p.s1 _ (formed_encoded _ _ _ left.formed_so).1 in
          with_line p cs l q ds left ls image typed h (λ running. again q ds image running h)

module _ (w : Window) (fits : w.length ≤ 4096) where
  -- of lines that are read to an image
  module _ (file image : List ℕ) (r : ReadSo w 0 blank_cells (lines_of file) image) where
    cell : (i : ℕ) → i < w.length → get_or image i 0 ≡ get_or r.cells i 0
    cell i h = rw r.image_is (get_or-take w.length r.cells i 0 h)

    size : length image ≡ w.length
    size =
        let all = entered_size w fits r.given blank_cells r.cells blank_size r.entered_so in
        rw r.image_is (length-take-le w.length r.cells (omega arith))

    byte_given : (i : ℕ) → i < w.length → Gives (record { address = w.start + i; byte = get_or image i 0 }) r.given
    byte_given i h = by_cell (old_or_given w fits r.given blank_cells r.cells blank_size r.entered_so i)
      where
        by_cell : (get_or r.cells i 0 ≡ get_or blank_cells i 0)
            ⊎ Gives (record { address = w.start + i; byte = get_or r.cells i 0 }) r.given
            → Gives (record { address = w.start + i; byte = get_or image i 0 }) r.given
        by_cell (inr g) = rw (cell i h) g
        by_cell (inl e) =
            let below = given_byte image i r.whole (omega (arith, size)) in
            absurd (omega (arith, cell i h, e, blank_at i (omega arith), below))

    names : Names w file image
    names =
        let records : Records 0 file r.given = rw (joined_lines file) at r.records in
        record {
          given = r.given;
          records = records;
          once = entered_once w fits r.given blank_cells r.cells blank_size (given_bytes records) r.entered_so;
          inside = entered_inside w fits r.given blank_cells r.cells r.entered_so;
          whole = size;
          bytes = byte_given;
        }

  -- each byte of the image is given
  pub good_given : (file image : List ℕ) → file_of w file ≡ named image → all_given image ≡ true
  unfolding file_of
  good_given file image h = (read_so w (lines_of file) initial blank_cells image refl h).whole

  pub good_names : (file image : List ℕ) → file_of w file ≡ named image → Names w file image
  unfolding file_of
  good_names file image h = names file image (read_so w (lines_of file) initial blank_cells image refl h)
