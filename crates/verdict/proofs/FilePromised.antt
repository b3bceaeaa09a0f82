-- What the verdict on an S-record file promises: all of it is the verdict on the image that the file names.
-- Assumes nothing.
use Prim.Native.Nat.{ℕ, ◌-◌}
use mathlib.Core.Path.{◌≡◌, refl, sym, ◌∙◌}
use mathlib.Core.Logic.{◌⊎◌, inl, inr, ⊎_elim}
use mathlib.Core.Bool.{Bool, true, false}
use mathlib.Core.List.{List, []}
use native.Mathlib.Omega.{arith}
use lib.Dec.{eqb}
use lib.ListN.{length}
use borrow.Author.Tests.{eq-eqb, eqb-true}
use Rattle.std.specs.Prelude.{Ok, Err}
use Rattle.answers.specs.declared.Acceptance.{Acceptance}
use Rattle.answers.specs.Cause.{number_of}
use Rattle.answers.specs.declared.Cause.TheVariants.{BadImage}
use Rattle.answers.specs.declared.Refusal.{Refusal}
use Rattle.answers.specs.Verdict.{Verdict}
use Rattle.commands.specs.Number.{AllBytes}
use Rattle.ticket.specs.Fields.{Fields, ReadOutcome, read, refused}
use Rattle.ticket.specs.Read.{refusal, read_of}
use Rattle.ticket.specs.Rules.{Between}
use Rattle.ticket.proofs.Accepts.{read_rules, rules_read}
use Rattle.records.specs.Record.{Names}
use Rattle.records.specs.Read.{FileOutcome, named, refused as file_refused, file_of}
use Rattle.records.specs.Load.{load_of}
use Rattle.records.proofs.NamesGood.{good_exactly}
use Rattle.records.proofs.Numbered.{file_numbered}
use Rattle.rules.specs.Rules.{Certified}
use Rattle.rules.specs.Checks.{verdict_of}
use Rattle.rules.specs.Claim.{Demand3}
use Rattle.rules.proofs.Exact.{accepts_exactly}
use Rattle.rules.proofs.Demand.{demand_3}
use Rattle.verdict.specs.Records.{after_verdict, records_verdict_of}
use Rattle.verdict.specs.Records.{GoodExactly, NamedInto, JudgesWhatIsNamed, KeepsOtherwise}
use Rattle.verdict.specs.Records.{FileCertified, FileAcceptsExactly, FileRefusedExactly}
use Rattle.verdict.specs.Records.{FileComesHome, FileRefusalsNumbered, FilePromised}
use Rattle.verdict.specs.Promise.{VerdictNumber}
use Rattle.verdict.proofs.Numbered.{numbered}

refuse_accept : (r : Refusal) (a : Acceptance) → ◌≡◌ {A = Verdict} (Err r) (Ok a) → ⊥
refuse_accept r a h = cc

refuse_same : {x y : Refusal} → ◌≡◌ {A = Verdict} (Err x) (Err y) → x ≡ y
refuse_same e = cc

module _ (ticket file buffer : List ℕ) where
  -- a file that is good, and a buffer that has room for it
  pub record Good (f : Fields) (image : List ℕ) : Type 0 where
    pub ticket_read : read_of ticket ≡ read f
    pub file_read : file_of f.header.code file ≡ named image
    pub room : length buffer ≡ f.header.code.length

  -- then the image in the buffer is judged
  judged : (f : Fields) (image : List ℕ) → Good f image
      → records_verdict_of ticket file buffer ≡ after_verdict (verdict_of ticket image) image
  unfolding records_verdict_of load_of verdict_of
  judged f image g = rw (g.ticket_read, g.file_read, eq-eqb _ _ g.room)

  -- what is accepted is good
  accepted_good : (a : Acceptance) → (records_verdict_of ticket file buffer).answer ≡ Ok a
      → (f : Fields) × (image : List ℕ) × Good f image
  unfolding records_verdict_of load_of
  accepted_good a h = by_read (read_of ticket) refl h
    where
      by_room : (f : Fields) (image : List ℕ) → read_of ticket ≡ read f → file_of f.header.code file ≡ named image
          → (b : Bool) → eqb (length buffer) f.header.code.length ≡ b
          → (records_verdict_of ticket file buffer).answer ≡ Ok a → (f : Fields) × (image : List ℕ)
          × Good f image
      by_room f image t n true r h = (f, image, record { ticket_read = t; file_read = n; room = eqb-true _ _ r })
      by_room f image t n false r h = absurd (refuse_accept (refusal BadImage 0) a (rw (t, n, r) at h))

      by_file : (f : Fields) → read_of ticket ≡ read f → (o : FileOutcome) → file_of f.header.code file ≡ o
          → (records_verdict_of ticket file buffer).answer ≡ Ok a → (f : Fields) × (image : List ℕ)
          × Good f image
      by_file f t (file_refused r) n h = absurd (refuse_accept r a (rw (t, n) at h))
      by_file f t (named image) n h = by_room f image t n (eqb (length buffer) f.header.code.length) refl h

      by_read : (o : ReadOutcome) → read_of ticket ≡ o
          → (records_verdict_of ticket file buffer).answer ≡ Ok a → (f : Fields) × (image : List ℕ)
          × Good f image
      by_read (refused r) t h = absurd (refuse_accept r a (rw t at h))
      by_read (read f) t h = by_file f t (file_of f.header.code file) refl h

  module _ (bytes : AllBytes ticket) where
    file_good_exactly : GoodExactly ticket file
    file_good_exactly f t image =
        good_exactly f.header.code (read_rules ticket f bytes t).2.header_rules.code_length.1 file image

    named_good : (f : Fields) (image : List ℕ) → read_of ticket ≡ read f → Names f.header.code file image
        → length buffer ≡ length image → Good f image
    named_good f image t n room =
        record { ticket_read = t; file_read = (file_good_exactly f t image).1 n; room = room ∙ n.whole }

    judges_what_is_named : JudgesWhatIsNamed ticket file buffer
    judges_what_is_named image N =
        judged N.fields image (named_good N.fields image N.ticket_read N.names N.room)

    good_named : (f : Fields) (image : List ℕ) → Good f image → NamedInto ticket file buffer image
    good_named f image g =
        let n = (file_good_exactly f g.ticket_read image).0 g.file_read in
        record { fields = f; ticket_read = g.ticket_read; names = n; room = g.room ∙ sym n.whole }

    keeps_otherwise : KeepsOtherwise ticket file buffer
    unfolding records_verdict_of load_of
    keeps_otherwise no_image = by_read (read_of ticket) refl
      where
        by_room : (f : Fields) (image : List ℕ) → read_of ticket ≡ read f → file_of f.header.code file ≡ named image
            → (b : Bool) → eqb (length buffer) f.header.code.length ≡ b
            → (records_verdict_of ticket file buffer).image ≡ buffer
        by_room f image t n true r =
            let g : Good f image = record { ticket_read = t; file_read = n; room = eqb-true _ _ r } in
            absurd (no_image image (good_named f image g))
        by_room f image t n false r = rw (t, n, r)

        by_file : (f : Fields) → read_of ticket ≡ read f → (o : FileOutcome) → file_of f.header.code file ≡ o
            → (records_verdict_of ticket file buffer).image ≡ buffer
        by_file f t (file_refused r) n = rw (t, n)
        by_file f t (named image) n = by_room f image t n (eqb (length buffer) f.header.code.length) refl

        by_read : (o : ReadOutcome) → read_of ticket ≡ o → (records_verdict_of ticket file buffer).image ≡ buffer
        by_read (refused r) t = rw t
        by_read (read f) t = by_file f t (file_of f.header.code file) refl

    -- a file that is refused
    file_refused_so : (f : Fields) → read_of ticket ≡ read f → (x : Refusal)
        → file_of f.header.code file ≡ file_refused x → (records_verdict_of ticket file buffer).answer ≡ Err x
    unfolding records_verdict_of load_of
    file_refused_so f t x n = rw (t, n)

    -- the certified fields are those that are read
    certified_read : (image : List ℕ) (a : Acceptance) (C : Certified ticket image a)
        → read_of ticket ≡ read C.fields
    certified_read image a C = rules_read ticket C.fields C.bytes C.fits C.accepted.readable

    certified_names : (f : Fields) (image : List ℕ) → Good f image → (a : Acceptance)
        → (C : Certified ticket image a) → Names C.fields.header.code file image
    certified_names f image g a C =
        let t = certified_read image a C in
        let same : f ≡ C.fields = read_same (sym g.ticket_read ∙ t) in
        (file_good_exactly C.fields t image).0 (rw same at g.file_read)
      where
        read_same : {f h : Fields} → read f ≡ read h → f ≡ h
        read_same e = cc

    file_accepts_exactly : FileAcceptsExactly ticket file buffer
    file_accepts_exactly a = (only, if_certified)
      where
        only : (records_verdict_of ticket file buffer).answer ≡ Ok a → FileCertified ticket file buffer a
        only h =
            let known = accepted_good a h in
            let f = known.0 in
            let image = known.1 in
            let g = known.2 in
            let on_image : verdict_of ticket image ≡ Ok a = rw (judged f image g) at h in
            let C = (accepts_exactly ticket image bytes a).0 on_image in
            let n = certified_names f image g a C in
            record { image = image; certified = C; names = n; room = (good_named f image g).room }

        if_certified : FileCertified ticket file buffer a
            → (records_verdict_of ticket file buffer).answer ≡ Ok a
        if_certified F =
            let C = F.certified in
            let t = certified_read F.image a C in
            let g = named_good C.fields F.image t F.names F.room in
            rw (judged C.fields F.image g) ((accepts_exactly ticket F.image bytes a).1 C)

    file_comes_home : FileComesHome ticket file buffer
    file_comes_home a h =
        let known = accepted_good a h in
        let same = judged known.0 known.1 known.2 in
        rw same (at_home known.0 known.1 known.2 (rw same at h))
      where
        at_home : (f : Fields) (image : List ℕ) → Good f image → verdict_of ticket image ≡ Ok a
            → (C : Certified ticket image a) × Names C.fields.header.code file image
            × Demand3 C.fields image a.cost.0 (a.stack.0 - 2)
        at_home f image g h =
            let d = demand_3 ticket image bytes a h in (d.0, certified_names f image g a d.0, d.1)

    -- a refusal's answer, and its number
    abbrev Answers : Refusal → Type 0
    Answers r = (records_verdict_of ticket file buffer).answer ≡ Err r

    abbrev InTables : Refusal → Type 0
    InTables r = VerdictNumber (number_of r.cause) ⊎ Between 25 27 (number_of r.cause)

    -- by what is refused: the ticket, the file, the buffer, or the image
    refusals_numbered : FileRefusalsNumbered ticket file buffer
    unfolding records_verdict_of load_of verdict_of
    refusals_numbered r h = by_read (read_of ticket) refl h
      where
        by_room : (f : Fields) (image : List ℕ) → read_of ticket ≡ read f → file_of f.header.code file ≡ named image
            → (b : Bool) → eqb (length buffer) f.header.code.length ≡ b → Answers r → InTables r
        by_room f image t n true room h =
            let g : Good f image = record { ticket_read = t; file_read = n; room = eqb-true _ _ room } in
            inl (numbered ticket image r (rw (judged f image g) at h))
        by_room f image t n false room h =
            let same : refusal BadImage 0 ≡ r = refuse_same (rw (t, n, room) at h) in
            inl (rw (← same) (inl (search arith)))

        by_file : (f : Fields) → read_of ticket ≡ read f → (o : FileOutcome) → file_of f.header.code file ≡ o
            → Answers r → InTables r
        by_file f t (file_refused x) n h =
            let same : x ≡ r = refuse_same (rw (t, n) at h) in
            inr (rw same at (file_numbered f.header.code file x n))
        by_file f t (named image) n h = by_room f image t n (eqb (length buffer) f.header.code.length) refl h

        by_read : (o : ReadOutcome) → read_of ticket ≡ o → Answers r → InTables r
        by_read (refused x) t h = inl (numbered ticket [] r (rw t (rw t at h)))
        by_read (read f) t h = by_file f t (file_of f.header.code file) refl h

    -- a good file is not refused with 25 to 27
    good_numbered : (f : Fields) (image : List ℕ) → read_of ticket ≡ read f → file_of f.header.code file ≡ named image
        → (r : Refusal) → Answers r → VerdictNumber (number_of r.cause)
    unfolding records_verdict_of load_of
    good_numbered f image t n r h = by_room (eqb (length buffer) f.header.code.length) refl
      where
        by_room : (b : Bool) → eqb (length buffer) f.header.code.length ≡ b → VerdictNumber (number_of r.cause)
        by_room true room =
            let g : Good f image = record { ticket_read = t; file_read = n; room = eqb-true _ _ room } in
            numbered ticket image r (rw (judged f image g) at h)
        by_room false room =
            let same : refusal BadImage 0 ≡ r = refuse_same (rw (t, n, room) at h) in rw (← same) (inl (search arith))

    refused_exactly : FileRefusedExactly ticket file buffer
    refused_exactly f t = (only, if_none)
      where
        only : (r : Refusal) × Answers r × Between 25 27 (number_of r.cause)
            → (image : List ℕ) → Names f.header.code file image → ⊥
        only (r, h, b) image n =
            ⊎_elim (λ (low : Between 1 20 (number_of r.cause)). omega (arith, low.1, b.0)) (λ e. omega (arith, b.1))
            (good_numbered f image t ((file_good_exactly f t image).1 n) r h)

        if_none : ((image : List ℕ) → Names f.header.code file image → ⊥)
            → (r : Refusal) × Answers r × Between 25 27 (number_of r.cause)
        if_none none = by_file (file_of f.header.code file) refl
          where
            by_file : (o : FileOutcome) → file_of f.header.code file ≡ o
                → (r : Refusal) × Answers r × Between 25 27 (number_of r.cause)
            by_file (named image) n = absurd (none image ((file_good_exactly f t image).0 n))
            by_file (file_refused x) n = (x, file_refused_so f t x n, file_numbered f.header.code file x n)

    pub file_promised : FilePromised ticket file buffer
    file_promised = (
      file_good_exactly,
      judges_what_is_named,
      keeps_otherwise,
      refused_exactly,
      file_accepts_exactly,
      file_comes_home,
      refusals_numbered,
    )
