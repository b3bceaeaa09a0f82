-- A file that names an image is good, and is read to that image; with the converse.
-- Assumes nothing.
use Prim.Native.Nat.{ℕ, suc, ◌+◌, ◌-◌, ◌≤◌, ◌<◌}
use mathlib.Core.Path.{◌≡◌, refl, sym, ap, ◌∙◌}
use mathlib.Core.Logic.{◌↔◌}
use mathlib.Core.Bool.{true, false}
use mathlib.Core.List.{List, [], ◌++◌, append-nil}
use Rattle.std.specs.Prelude.{Some}
use native.Mathlib.Omega.{arith}
use native.Mathlib.Nat.{add-zero}
use native.Mathlib.Numerals.{add-one}
use lib.Dec.{eqb}
use lib.ListN.{get_or, take}
use lib.Seq.{get_or-take, length-take-le, ext_get_or}
use borrow.Author.Tests.{eq-eqb}
use Rattle.commands.specs.declared.header.Window.{Window}
use Rattle.commands.specs.Every.{Every}
use Rattle.commands.proofs.Every.{every_map}
use Rattle.ticket.specs.Rules.{In}
use Rattle.records.specs.declared.progress.FileProgress.{FileProgress}
use Rattle.records.specs.Record.{Record, Given, given_from, Records, s0, s1, s5, s9, Names}
use Rattle.records.specs.Read.{lines_of, address_of, typed, enter, given_by, after}
use Rattle.records.specs.Read.{named, all_given, close_of, file_from, initial}
use Rattle.records.specs.Read.{blank_cells, file_of}
use Rattle.records.proofs.Entering.{found, entered_size}
use Rattle.records.proofs.Entering.{entered, none_entered}
use Rattle.records.proofs.RecordLaw.{encoded_data, inside, record_address}
use Rattle.records.proofs.LineLaw as Line
use Rattle.records.proofs.EnteringTwice.{enter_split}
use Rattle.records.proofs.GivenBytes.{IsByte, given_bytes, gives_one}
use Rattle.records.proofs.AllGiven.{at_all_given, blank_size, blank_at}
use Rattle.records.proofs.GoodNames.{good_names}

module _ (w : Window) (fits : w.length ≤ 4096) where
  -- a record before other lines is read, and what it gives is entered
  record_step : {t a : ℕ} {bytes l : List ℕ} (r : Record t a bytes l) → (t ≡ 0x0a → ⊥) → (s : List ℕ) (p : FileProgress)
      (cs es : List ℕ) → p.ended ≡ false → typed t p.s1 (inside r) ≡ true
      → enter w cs (given_by t (inside r)) ≡ Some es
      → file_from w p cs (lines_of (l ++ s)) ≡ file_from w (after p t) es (lines_of s)
  unfolding file_from
  record_step r other s p cs es running typed_so e =
      rw (Line.record_apart r other s, Line.record_line r w p cs running typed_so, e)

  -- where records lead
  abbrev Closes : FileProgress → List ℕ → List (List ℕ) → List ℕ → Type 0
  Closes p cs ls ds = (q : FileProgress) × (q.ended ≡ true) × (file_from w p cs ls ≡ close_of w q ds)

  entered_none : (cs : List ℕ) → enter w cs [] ≡ Some cs
  unfolding enter
  entered_none cs = refl

  record_gives : {a : ℕ} {bytes l : List ℕ} (r : Record 0x31 a bytes l) → given_by 0x31 (inside r) ≡ given_from a bytes
  record_gives {bytes = bytes} r = rw (record_address r, encoded_data r.high r.low r.checksum bytes)

  no_line : (p : FileProgress) (cs : List ℕ) → file_from w p cs (lines_of []) ≡ close_of w p cs
  unfolding file_from lines_of
  no_line p cs = refl

  closes : {n : ℕ} {s : List ℕ} {g : List Given} → Records n s g → (p : FileProgress) → p.s1 ≡ n → p.ended ≡ false
      → (cs ds : List ℕ) → enter w cs g ≡ Some ds → Closes p cs (lines_of s) ds
  closes (s0 {s = s} r rest) p count running cs ds e =
      let c = closes rest (after p 0x30) (add-zero p.s1 ∙ count) refl cs ds e in
      (c.0, c.1, record_step r (λ x. omega arith) s p cs cs running refl (entered_none cs) ∙ c.2)
  closes (s1 {a = a} {bs = bs} {s = s} {g = g} r rest) p count running cs ds e =
      let both = enter_split w (given_from a bs) g cs ds e in
      let c = closes rest (after p 0x31) (add-one p.s1 ∙ ap suc count) refl both.0 ds both.2 in
      let gives = ap (enter w cs) (record_gives r) ∙ both.1 in
      (c.0, c.1, record_step r (λ x. omega arith) s p cs both.0 running refl gives ∙ c.2)
  closes (s5 {n = n} {s = s} r rest) p count running cs ds e =
      let c = closes rest (after p 0x35) (add-zero p.s1 ∙ count) refl cs ds e in
      let counted : eqb (address_of (inside r)) p.s1 ≡ true = eq-eqb _ _ (record_address r ∙ sym count) in
      (c.0, c.1, record_step r (λ x. omega arith) s p cs cs running counted (entered_none cs) ∙ c.2)
  closes (s9 {l = l} r) p count running cs ds e =
      let step = record_step r (λ x. omega arith) [] p cs cs running refl (entered_none cs) in
      let same = none_entered w cs ds e in
      (after p 0x39, refl, (rw append-nil at step) ∙ no_line (after p 0x39) cs ∙ (rw same))

  -- of a file that names an image
  module _ (file image : List ℕ) (n : Names w file image) where
    free_all : Every (λ (x : Given). In w x.address × (256 ≤ get_or blank_cells (x.address - w.start) 0)) n.given
    free_all = every_map (λ x i. (i, omega (arith, blank_at (x.address - w.start) (omega arith)))) n.inside

    cells : (ds : List ℕ) × (enter w blank_cells n.given ≡ Some ds)
    cells = entered w fits n.given blank_cells blank_size n.once free_all

    bytes_given : Every IsByte n.given
    bytes_given = given_bytes n.records

    cell_is : (i : ℕ) → i < w.length → get_or cells.0 i 0 ≡ get_or image i 0
    cell_is i h =
        let x : Given = record { address = w.start + i; byte = get_or image i 0 } in
        let there : w.start + i - w.start ≡ i = omega arith in
        rw there at (found w fits n.given blank_cells cells.0 blank_size bytes_given cells.1 x (n.bytes i h))

    image_is : take w.length cells.0 ≡ image
    image_is =
        let all = entered_size w fits n.given blank_cells cells.0 blank_size cells.1 in
        let size = length-take-le w.length cells.0 (omega arith) in
        ext_get_or 0 (take w.length cells.0) image (size ∙ sym n.whole)
        (λ i h. get_or-take w.length cells.0 i 0 (omega arith) ∙ cell_is i (omega arith))

    given_by_all : all_given image ≡ true
    given_by_all = at_all_given image (λ i h. gives_one (n.bytes i (omega (arith, n.whole))) bytes_given)

  pub names_good : (file image : List ℕ) → Names w file image → file_of w file ≡ named image
  unfolding file_of
  names_good file image n =
      let c = closes n.records initial refl refl blank_cells (cells file image n).0 (cells file image n).1 in
      c.2 ∙ (rw (c.1, image_is file image n, given_by_all file image n))

  -- the file is good if and only if it names an image, and then it is that image
  pub good_exactly : (file image : List ℕ) → (file_of w file ≡ named image) ↔ Names w file image
  good_exactly file image = (good_names w fits file image, names_good file image)
