-- Commands that state some fields have no cause against any where the fields are as the rules say, and only there.
-- Assumes nothing.
use Prim.Native.Nat.{ℕ, ◌+◌, ◌≤◌, ◌<◌}
use mathlib.Core.Path.{◌≡◌, refl, ap}
use mathlib.Core.Logic.{◌↔◌}
use mathlib.Core.Bool.{true, and-eq-true_iff}
use mathlib.Core.List.{List, [], ◌∷◌, ◌++◌}
use native.Mathlib.Omega.{arith}
use Rattle.commands.specs.declared.command.Claim.{Claim}
use Rattle.commands.specs.declared.command.HeaderCommand.TheVariants.{Home}
use Rattle.commands.specs.declared.command.Command.{Command}
use Rattle.commands.specs.declared.header.Header.{Header}
use Rattle.commands.specs.declared.progress.Progress.{Progress}
use Rattle.commands.specs.Header.{header_with, required_commands, header_commands}
use Rattle.commands.specs.Bytes.{width_of}
use Rattle.commands.specs.Rows.{header_length}
use Rattle.commands.specs.Progress.{initial_progress, after_of}
use Rattle.commands.specs.Cause.{may_come, in_order, ranges_hold, edges_hold, separate, home_outside, inside}
use Rattle.commands.specs.Cause.{command_cause_of}
use Rattle.commands.proofs.Causes.{allowed, allow}
use Rattle.commands.proofs.Every.{first}
use Rattle.ticket.specs.declared.fields.Mark.{Mark}
use Rattle.ticket.specs.Fields.{Fields}
use Rattle.ticket.specs.Write.{mark_command, commands_of, check_of}
use Rattle.ticket.specs.Spells.{StatesMarks, States, stated}
use Rattle.ticket.specs.Spells.StatesHeader.{whole, homeless}
use Rattle.ticket.specs.Spells.{StatesMarks as Marks}
use Rattle.commands.specs.Every.{Every}
use Rattle.ticket.specs.Rules.{In, HeaderRules, ClaimRules, MarkRules, Rising, Readable}
use Rattle.ticket.proofs.Says.{true_says, leb_says, ltb_says, eqb_says, after_says}
use Rattle.ticket.proofs.Says.{outside_says, apart_says}
use Rattle.ticket.proofs.Text.{name_free}
use Rattle.ticket.proofs.Free.{after_all, Free, free_admitted, admitted_free}
use Rattle.ticket.proofs.Own.{own}
use Rattle.std.specs.Prelude.{Ok}

ruleset tests = (true_says, and-eq-true_iff, leb_says, ltb_says, eqb_says, after_says, outside_says, apart_says)

cause_says : (p : Progress) (c : Command) → (command_cause_of p c ≡ Ok tt) ↔ ((in_order p c ≡ true)
    × (ranges_hold c ≡ true) × (edges_hold c ≡ true) × (separate p.header c ≡ true) × (home_outside p.header c ≡ true)
    × (inside p.header c ≡ true))
cause_says p c = (
  λ e. let a = allowed p c e in (a.ordered, a.ranged, a.edged, a.separated, a.homed, a.placed),
  λ t.
      allow p c (record {
        ordered = t.0;
        ranged = t.1;
        edged = t.2;
        separated = t.3;
        homed = t.4;
        placed = t.5;
      }),
)

-- ---- the header

abbrev pub headed : Header → Progress
headed h = after_all initial_progress (header_commands h)

pub header_says : (h : Header) (cs : List Command) → Free initial_progress (header_commands h ++ cs) ↔ (HeaderRules h
    × Free (headed h) cs)
unfolding after_of width_of ranges_hold
header_says h cs = simp (cause_says, tests) (λ f. search arith, λ r. search arith)

-- where home's command is left out, home is $0000, which no code window holds
abbrev pub headed_without_home : Header → Progress
headed_without_home h = after_all initial_progress (required_commands h)

pub required_says : (h : Header) (cs : List Command) → h.home ≡ 0 → Free initial_progress (required_commands h ++ cs)
    ↔ (HeaderRules h × Free (headed_without_home h) cs)
unfolding after_of width_of ranges_hold
required_says h cs z = simp (cause_says, tests) (λ f. search arith, λ r. search arith)

-- ---- one mark, after a header and perhaps other marks

module _ (p : Progress) (e : may_come p.stage header_length ≡ true) where
  mark_says : (a : ℕ) (k : Claim) → (command_cause_of p (Command.Mark a k) ≡ Ok tt) ↔ ((1 ≤ p.count → p.last < a)
      × ClaimRules k × In p.header.code a)
  unfolding ranges_hold
  mark_says a k = simp (cause_says, tests) (λ t. search arith, λ r. search arith)

  end_free : command_cause_of p Command.End ≡ Ok tt
  unfolding ranges_hold
  end_free = simp (cause_says, tests) (search)

-- ---- the marks

-- an address is under the first of some marks
abbrev Under : ℕ → List Mark → Type 0
Under l [] = Unit
Under l (m ∷ ms) = l < m.address

rising_more : {m n : Mark} {ms : List Mark} → Rising (m ∷ n ∷ ms) → (m.address < n.address) × Rising (n ∷ ms)
rising_more (Rising.more l r) = (l, r)

rising_says : (m : Mark) (ms : List Mark) → Rising (m ∷ ms) ↔ (Under m.address ms × Rising ms)
rising_says m [] = (λ r. (tt, Rising.none), λ r. Rising.one)
rising_says m (n ∷ ms) = (rising_more, λ r. Rising.more r.0 r.1)

-- of the marks that come after n others, the last at l
abbrev Marked : List Mark → Header → ℕ → ℕ → Type 0
Marked ms h n l = Every (MarkRules h) ms × (1 ≤ n → Under l ms) × Rising ms

-- after a mark, and after its name: what comes then depends on the header, how many marks there are and the last
-- address
module _ {m : Mark} {ms : List Mark} (p : Progress) (e : may_come p.stage header_length ≡ true) {Rest : Type 0}
    (rest : Rest ↔ Marked ms p.header (p.count + 1) m.address) where
  more_says : (command_cause_of p (mark_command m) ≡ Ok tt) × Rest ↔ Marked (m ∷ ms) p.header p.count p.last
  more_says =
      let mark = mark_says p e m.address m.claim in
      let rise = rising_says m ms in (
        λ f.
            let k = mark.0 f.0 in
            let r = rest.0 f.1 in (
              Every.more (record { claimed = k.1; inside = k.2 }) r.0,
              k.0,
              rise.1 (r.1 (omega arith), r.2),
            ),
        λ r.
            let k = first r.0 in
            let s = rise.0 r.2 in
            (mark.1 (r.1, k.0.claimed, k.0.inside), rest.1 (k.1, λ o. s.0, s.1)),
      )

marks_says : {ms : List Mark} {cs : List Command} → StatesMarks ms cs → (p : Progress)
    → may_come p.stage header_length ≡ true
    → Free p (cs ++ (Command.End ∷ [])) ↔ Marked ms p.header p.count p.last
unfolding after_of
marks_says Marks.none p e = (λ f. (Every.none, λ o. tt, Rising.none), λ r. (end_free p e, tt))
marks_says (Marks.unnamed K) p e = more_says p e (marks_says K _ refl)
marks_says (Marks.named t n K) p e =
    let after = marks_says K _ refl in
    more_says p e (λ f. after.0 f.1, λ r. (name_free p _ _ t n, after.1 r))

-- ---- the ticket

-- the header's rules, and those of the marks after it
module _ (f : Fields) where
  parts : HeaderRules f.header × Marked f.marks f.header 0 0 ↔ Readable f
  parts = (
    λ r. record { header_rules = r.0; mark_rules = r.1.0; rising = r.1.2 },
    λ r. (r.header_rules, (r.mark_rules, λ o. absurd (omega arith), r.rising)),
  )

  pub readable_says : {cs : List Command} → States f cs → Free initial_progress cs ↔ Readable f
  unfolding after_of
  readable_says (stated {cs} whole K) =
      let head = header_says f.header (cs ++ (Command.End ∷ [])) in
      let marks = marks_says K (headed f.header) refl in (
        λ c. let h = head.0 c in parts.0 (h.0, marks.0 h.1),
        λ r. let h = parts.1 r in head.1 (h.0, marks.1 h.1),
      )
  readable_says (stated {cs} (homeless z) K) =
      let head = required_says f.header (cs ++ (Command.End ∷ [])) z in
      let marks = marks_says K (headed_without_home f.header) refl in
      let same = ap (λ (a : ℕ). Marked f.marks (header_with f.header (Home a)) 0 0) z in (
        λ c. let h = head.0 c in parts.0 (h.0, rw same (marks.0 h.1)),
        λ r. let h = parts.1 r in head.1 (h.0, marks.1 (rw same at h.1)),
      )

pub readable_checked : (f : Fields) → Readable f → (q : Progress) × (check_of f ≡ Ok q)
unfolding check_of
readable_checked f r = (_, free_admitted initial_progress (commands_of f) ((readable_says f (own f)).1 r))

pub checked_readable : (f : Fields) (q : Progress) → check_of f ≡ Ok q → Readable f
unfolding check_of
checked_readable f q e = (readable_says f (own f)).0 (admitted_free initial_progress q (commands_of f) e)
