-- The commands that progress and its marks stand for, and what one command more makes of them.
-- Assumes nothing.
use mathlib.Core.Path.{◌≡◌, refl, subst, ◌∙◌}
use mathlib.Core.Logic.{⊎_elim}
use mathlib.Core.Bool.{Bool, true, false, cond, false≢true, and-eq-true_iff}
use Prim.Native.Nat.{ℕ, ◌+◌, ◌≤◌, ◌<◌}
use native.Mathlib.Nat.{eq-or-lt_of_le}
use native.Mathlib.Omega.{arith}
use native.Mathlib.Numerals.{add-one}
use mathlib.Core.List.{List, [], ◌∷◌, ◌++◌, append_assoc, append-nil}
use lib.ListN.{length, take, length-append}
use lib.Seq.{take_all}
use borrow.Author.Tests.{eqb-true, ne_eqb}
use Rattle.commands.specs.declared.command.Command.{Command}
use Rattle.commands.specs.declared.command.HeaderCommand.{HeaderCommand}
use Rattle.commands.specs.declared.header.Header.{Header}
use Rattle.commands.specs.declared.progress.Progress.{Progress}
use Rattle.commands.specs.Command.{stage_of}
use Rattle.commands.specs.Cause.{in_order, command_cause_of}
use Rattle.commands.specs.Fits.{Fits}
use Rattle.commands.specs.Progress.{initial_progress, after_of, ended}
use Rattle.commands.specs.inner.Sound.{Sound}
use Rattle.commands.specs.Header.{header_with, required_commands, header_commands}
use Rattle.commands.specs.Rows.{header_length, required_length}
use Rattle.commands.proofs.HeaderLaw.{header_law}
use Rattle.commands.proofs.Causes.{in_order_parts, allowed}
use Rattle.commands.proofs.Sound.{sound_start, sound_after}
use Rattle.ticket.specs.declared.fields.Mark.{Mark}
use Rattle.ticket.specs.Fields.{marks_with, in_file_order}
use Rattle.ticket.specs.Write.{mark_command}
use Rattle.ticket.specs.Spells.{NameText, StatesMarks}
use Rattle.ticket.specs.Spells.{StatesMarks as Marks}
use Rattle.ticket.proofs.Text.{name_text}
use Rattle.std.specs.Prelude.{Ok}

-- the header's commands so far: those before the stage, or, past them, all but home's, where home is $0000
pub data Headed (p : Progress) : List Command → Type 0 where
  whole : Headed p (take p.stage (header_commands p.header))
  homeless : header_length ≤ p.stage → p.header.home ≡ 0 → Headed p (required_commands p.header)

-- the marks so far, the latest first, and their commands; where a name may still come, the latest has none
pub data Marked : (nameable : Bool) → List Mark → List Command → Type 0 where
  none : Marked false [] []
  unnamed : {n b : Bool} {m : Mark} {ms : List Mark} {cs : List Command} → Marked b ms cs
      → Marked n (m ∷ ms) (cs ++ (mark_command m ∷ []))
  named : {b : Bool} {m : Mark} {ms : List Mark} {cs : List Command} (t : ℕ) → NameText t → Marked b ms cs
      → Marked false (m ∷ ms) (cs ++ (mark_command m ∷ Command.Name m.address t ∷ []))

-- all commands so far: the header's, the marks', and the end where it is read
pub record SoFar (p : Progress) (ms : List Mark) (cs : List Command) : Type 0 where
  pub header : List Command
  pub marks : List Command
  pub headed : Headed p header
  pub marked : Marked p.nameable ms marks
  pub all : header ++ (marks ++ cond (ended p) (Command.End ∷ []) []) ≡ cs

pub none_so_far : SoFar initial_progress [] []
none_so_far = record { header = _; marks = _; headed = whole; marked = none; all = refl }

-- ---- the marks in file order

states_append : {ms ks : List Mark} {cs ds : List Command} → StatesMarks ms cs → StatesMarks ks ds
    → StatesMarks (ms ++ ks) (cs ++ ds)
states_append Marks.none K = K
states_append (Marks.unnamed H) K = Marks.unnamed (states_append H K)
states_append (Marks.named t n H) K = Marks.named t n (states_append H K)

pub states_marked : {b : Bool} {ms : List Mark} {cs : List Command} → Marked b ms cs
    → StatesMarks (in_file_order ms) cs
states_marked none = Marks.none
states_marked (unnamed K) = states_append (states_marked K) (Marks.unnamed Marks.none)
states_marked (named t n K) = states_append (states_marked K) (Marks.named t n Marks.none)

pub length_ordered : (ms : List Mark) → length (in_file_order ms) ≡ length ms
length_ordered [] = refl
length_ordered (m ∷ ms) = simp (length-append, length_ordered ms) (omega arith)

-- ---- what progress says of its marks, the latest first

-- the latest mark has the last address
abbrev Latest : ℕ → List Mark → Type 0
Latest last [] = Unit
Latest last (m ∷ ms) = m.address ≡ last

pub record Consistent (p : Progress) (ms : List Mark) : Type 0 where
  pub sound : Sound p
  pub counted : length ms ≡ p.count
  pub latest : Latest p.last ms
  -- until home's command home is $0000
  pub homeless : p.stage ≤ required_length → p.header.home ≡ 0

pub consistent_start : Consistent initial_progress []
consistent_start = record { sound = sound_start; counted = refl; latest = tt; homeless = λ l. refl }

-- ---- one command more is the last

empty : (ms : List Mark) → length ms ≡ 0 → ms ≡ []
empty [] e = refl
empty (m ∷ ms) e = absurd (omega arith)

-- of no marks there are no commands
unmarked : {b : Bool} {ms : List Mark} {cs : List Command} → Marked b ms cs → length ms ≡ 0 → cs ≡ []
unmarked none e = refl
unmarked (unnamed K) e = absurd (omega arith)
unmarked (named t n K) e = absurd (omega arith)

-- whatever the latest is, no name need come
closed : {b : Bool} {ms : List Mark} {cs : List Command} → Marked b ms cs → Marked false ms cs
closed none = none
closed (unnamed K) = unnamed K
closed (named t n K) = named t n K

-- before the end
not_ended : (p : Progress) → p.stage ≤ header_length → ended p ≡ false
not_ended p l = ne_eqb p.stage (header_length + 1) (omega arith)

module _ (p : Progress) where
  -- before a command of the header none is left out
  own_stage : (c : HeaderCommand) → in_order p (Command.Header c) ≡ true → p.stage ≡ stage_of (Command.Header c)
  own_stage c o =
      let i = (in_order_parts p (Command.Header c) o).0 in
      let early = (header_law p.header c).early in
      ⊎_elim (λ own. own) (λ past. omega (arith, i.ahead)) i.own_or_past

  -- after the header: its commands stay, home's among them or, at its stage, left out
  module _ (q : Progress) (same : q.header ≡ p.header) (late : header_length ≤ q.stage) where
    without_home : p.header.home ≡ 0 → Headed q (required_commands p.header)
    without_home z =
        subst (λ (h : Header). Headed q (required_commands h)) same (homeless late (rw same z))

    headed_at : {hs : List Command} → Headed p hs → (p.stage ≤ required_length → p.header.home ≡ 0)
        → p.stage ≤ header_length → required_length ≤ p.stage → Headed q hs
    headed_at whole blank to from =
        ⊎_elim (λ (e : p.stage ≡ header_length).
        let all : take q.stage (header_commands q.header) ≡ take p.stage (header_commands p.header) =
        take_all q.stage (header_commands q.header) late ∙ rw (same, e) in
        subst (Headed q) all whole)
        (λ (l : p.stage < header_length).
        let e : p.stage ≡ required_length = omega arith in
        rw e (without_home (blank (omega arith)))) (eq-or-lt_of_le to)
    headed_at (homeless l z) blank to from = without_home z

  module _ (ms : List Mark) (k : Consistent p ms) where
    headed_header : {hs ks : List Command} → Headed p hs → Marked p.nameable ms ks → (c : HeaderCommand)
        → in_order p (Command.Header c) ≡ true
        → SoFar (after_of p (Command.Header c)) ms ((hs ++ (ks ++ cond (ended p) (Command.End ∷ []) []))
        ++ (Command.Header c ∷ []))
    unfolding after_of
    headed_header whole K c o =
        let e = own_stage c o in
        let l = header_law p.header c in
        let no_marks : length ms ≡ 0 = omega (arith, k.sound.unmarked (omega (arith, l.early)), k.counted) in
        record {
          header = _;
          marks = [];
          headed = whole;
          marked = rw (empty ms no_marks) none;
          all =
              rw (
                unmarked K no_marks,
                ne_eqb (stage_of (Command.Header c) + 1) (header_length + 1) (omega (arith, l.early)),
                not_ended p (omega (arith, l.early)),
                append-nil,
                append-nil,
                add-one (stage_of (Command.Header c)),
                e,
              ) l.stated;
        }
    headed_header (homeless late z) K c o =
        absurd (omega (arith, (in_order_parts p (Command.Header c) o).0.ahead, (header_law p.header c).early))

    -- a command after the header
    headed_on : {hs : List Command} → Headed p hs → (c : Command) → stage_of c ≡ header_length
        → (after_of p c).header ≡ p.header → header_length ≤ (after_of p c).stage → in_order p c ≡ true
        → Headed (after_of p c) hs × (ended p ≡ false)
    headed_on H c e same late o =
        let i = (in_order_parts p c o).0 in
        let to : p.stage ≤ header_length = omega (arith, i.ahead) in
        let from : required_length ≤ p.stage = ⊎_elim (λ own. omega arith) (λ past. past) i.own_or_past in
        (headed_at (after_of p c) same late H k.homeless to from, not_ended p to)

  -- the latest mark has no name yet, and the name's address is its own
  marked_name : {b : Bool} {ms : List Mark} {ks : List Command} → Marked b ms ks → b ≡ true → Latest p.last ms
      → (a t : ℕ) → a ≡ p.last → NameText t
      → (cs : List Command) × Marked false ms cs × (cs ≡ ks ++ (Command.Name a t ∷ []))
  marked_name none e l a t same n = absurd (false≢true e)
  marked_name (unnamed {m} {cs} K) e l a t same n =
      let own : a ≡ m.address = omega arith in
      (_, named t n K, rw (own, append_assoc))
  marked_name (named u v K) e l a t same n = absurd (false≢true e)

  said_step : {ms : List Mark} {ds : List Command} → SoFar p ms ds → Consistent p ms → (c : Command)
      → command_cause_of p c ≡ Ok tt → Fits c → in_order p c ≡ true
      → SoFar (after_of p c) (marks_with ms c) (ds ++ (c ∷ []))
  unfolding after_of
  said_step {ms} S k (Command.Header c) free fit o =
      rw (← S.all) (headed_header ms k S.headed S.marked c o)
  said_step {ms} S k (Command.Mark a l) free fit o =
      let h = headed_on ms k S.headed (Command.Mark a l) refl refl (omega arith) o in
      record {
        header = S.header;
        marks = _;
        headed = h.0;
        marked = unnamed S.marked;
        all = rw (← S.all) (simp (h.1, append_assoc, append-nil));
      }
  said_step {ms} S k (Command.Name a t) free fit o =
      let h = headed_on ms k S.headed (Command.Name a t) refl refl (omega arith) o in
      let n = (and-eq-true_iff p.nameable _).0 (in_order_parts p (Command.Name a t) o).1 in
      let name =
      marked_name S.marked n.0 k.latest a t (eqb-true _ _ n.1) (name_text p a t free fit) in
      record {
        header = S.header;
        marks = name.0;
        headed = h.0;
        marked = name.1;
        all = rw (← S.all, name.2) (simp (h.1, append_assoc, append-nil));
      }
  said_step {ms} S k Command.End free fit o =
      let h = headed_on ms k S.headed Command.End refl refl (omega arith) o in
      record {
        header = S.header;
        marks = S.marks;
        headed = h.0;
        marked = closed S.marked;
        all = rw (← S.all) (simp (h.1, append_assoc, append-nil));
      }

  pub said_next : {ms : List Mark} {ds : List Command} → SoFar p ms ds → Consistent p ms → (c : Command)
      → command_cause_of p c ≡ Ok tt → Fits c → SoFar (after_of p c) (marks_with ms c) (ds ++ (c ∷ []))
  said_next S k c e fit = said_step S k c e fit (allowed p c e).ordered

-- ---- one command more keeps it

module _ (p : Progress) where
  -- home, where the stage after a command of the header is still not past home's
  still_homeless : (ms : List Mark) → Consistent p ms → (c : HeaderCommand) → in_order p (Command.Header c) ≡ true
      → stage_of (Command.Header c) + 1 ≤ required_length → (header_with p.header c).home ≡ 0
  still_homeless ms k c o l =
      (header_law p.header c).homeless (omega arith)
      ∙ k.homeless (omega (arith, (in_order_parts p (Command.Header c) o).0.ahead))

  kept_step : (ms : List Mark) → Consistent p ms → (c : Command) → in_order p c ≡ true → Sound (after_of p c) →
      Consistent (after_of p c) (marks_with ms c)
  unfolding after_of
  kept_step ms k (Command.Header c) o s =
      record { sound = s; counted = k.counted; latest = k.latest; homeless = still_homeless ms k c o }
  kept_step ms k (Command.Mark a l) o s =
      record { sound = s; counted = omega (arith, k.counted); latest = refl; homeless = λ l. absurd (omega arith) }
  kept_step ms k (Command.Name a t) o s =
      record { sound = s; counted = k.counted; latest = k.latest; homeless = λ l. absurd (omega arith) }
  kept_step ms k Command.End o s =
      record { sound = s; counted = k.counted; latest = k.latest; homeless = λ l. absurd (omega arith) }

  pub consistent_next : (ms : List Mark) → Consistent p ms → (c : Command) → command_cause_of p c ≡ Ok tt →
      Consistent (after_of p c) (marks_with ms c)
  consistent_next ms k c e = kept_step ms k c (allowed p c e).ordered (sound_after p c k.sound e)
