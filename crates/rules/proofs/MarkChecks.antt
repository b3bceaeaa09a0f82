-- The checks at a mark pass where its rules hold, and only there.
-- Assumes nothing.
use Prim.Native.Nat.{ℕ}
use mathlib.Core.Path.{◌≡◌, refl}
use mathlib.Core.Logic.{◌↔◌}
use mathlib.Core.Bool.{Bool, true, false≢true, and-eq-true_iff}
use mathlib.Core.List.{List, [], ◌∷◌}
use Rattle.std.specs.Prelude.{Option, Some, None}
use borrow.Author.Tests.{leb-true, eqb-true}
use Rattle.commands.specs.declared.command.Claim.{Claim}
use Rattle.commands.specs.declared.header.Window.{Window}
use Rattle.commands.specs.Header.{holds}
use Rattle.commands.proofs.Every.{first}
use Rattle.ticket.specs.declared.fields.Mark.{Mark}
use Rattle.ticket.specs.Fields.{Fields}
use Rattle.commands.specs.Every.{Every}
use Rattle.ticket.specs.Rules.{In}
use Rattle.ticket.proofs.Says.{leb_says, ltb_says, eqb_says}
use Rattle.rules.specs.Shape.{Ordinary, Call, Shape, ordinary, call, return, forbidden, nothing}
use Rattle.rules.specs.Marks.{claim_at}
use Rattle.rules.specs.Rules.{Follows, CallRules, RulesBy, RulesAt}
use Rattle.rules.specs.Checks.{all, is_marked, next_marked, depths_agree, costs_cover, needs_cover, checks_by}
use Rattle.rules.specs.Checks.{checks_at}
use Rattle.rules.specs.Checks.{checks_of_marks}
use Rattle.rules.proofs.Passes.{Passes, append_says}

pub ruleset tests = (and-eq-true_iff, leb_says, ltb_says, eqb_says)

pub marked : (o : Option Claim) → is_marked o ≡ true → (c : Claim) × (o ≡ Some c)
marked None e = absurd (false≢true e)
marked (Some c) e = (c, refl)

written_says : (w : Window) (l : List ℕ) → (all (holds w) l ≡ true) ↔ Every (In w) l
written_says w [] = (λ e. Every.none, λ r. refl)
written_says w (a ∷ l) = simp (tests, written_says w l) (λ e. Every.more e.0 e.1, first)

-- with other successors
abbrev at : Ordinary → List ℕ → Ordinary
at o l = record { next = l; pushed = o.pushed; pulled = o.pulled; written = o.written; cycles = o.cycles }

-- the checks of causes 14 to 17 pass
abbrev LeadsOn : Fields → Claim → Shape → Type 0
LeadsOn f k s =
    (next_marked f k s ≡ true) × (depths_agree f k s ≡ true) × (costs_cover f k s ≡ true) × (needs_cover f k s ≡ true)

module _ (f : Fields) (k : Claim) where
  -- at the addresses l
  next_says : (o : Ordinary) (l : List ℕ) → LeadsOn f k (ordinary (at o l)) ↔ Every (Follows f.marks k o) l
  next_says o [] = (λ e. Every.none, λ r. (refl, refl, refl, refl))
  next_says o (a ∷ l) =
      let rest = next_says o l in
      simp tests (
        λ e.
            let c = marked (claim_at f.marks a) e.0.0 in
            Every.more
            (record {
              there = c.0;
              marked = c.1;
              depth = eqb-true _ _ (rw c.1 at e.1.0);
              cost = leb-true _ _ (rw c.1 at e.2.0);
              need = leb-true _ _ (rw c.1 at e.3.0);
            })
            (rest.0 (search)),
        λ r.
            let h = (first r).0 in
            let t = rest.1 (first r).1 in
            rw h.marked (simp tests (search)),
      )

  call_says : (c : Call) → LeadsOn f k (call c) ↔ CallRules f k c
  call_says c = simp tests (
    λ e.
        let t = marked (claim_at f.marks c.target) e.0.0 in
        let b = marked (claim_at f.marks c.after) e.0.1 in
        record {
          there = t.0;
          back = b.0;
          there_marked = t.1;
          back_marked = b.1;
          there_depth = eqb-true _ _ (rw t.1 at e.1.0);
          back_depth = eqb-true _ _ (rw b.1 at e.1.1);
          cost = leb-true _ _ (rw (t.1, b.1) at e.2);
          there_need = leb-true _ _ (rw t.1 at e.3.0);
          back_need = leb-true _ _ (rw b.1 at e.3.1);
        },
    λ r. rw (r.there_marked, r.back_marked) (simp tests (search)),
  )

-- by the shape of the instruction; i: it does not leave the code window
shape_says : (f : Fields) (m : Mark) (s : Shape) (i : Bool) →
    Passes (checks_by f m s i) ↔ ((i ≡ true) × RulesBy f m.claim s)
shape_says f m (ordinary o) i =
    let n = next_says f m.claim o o.next in
    simp (tests, written_says) (λ e. search n.0, λ r. let t = n.1 r.1.follows in search)
shape_says f m (call c) i =
    let n = call_says f m.claim c in
    (λ e. search n.0, λ r. let t = n.1 r.1 in search)
shape_says f m (return cycles) i = simp tests (λ e. search, λ r. search)
shape_says f m forbidden i = (λ e. search false≢true, λ r. absurd r.1)
shape_says f m nothing i = (λ e. search false≢true, λ r. absurd r.1)

at_says : (f : Fields) (image : List ℕ) (m : Mark) → Passes (checks_at f image m) ↔ RulesAt f image m
unfolding checks_at
at_says f image m = simp (shape_says, leb_says) (λ e. search, λ r. search)

pub marks_says : (f : Fields) (image : List ℕ) (ms : List Mark) →
    Passes (checks_of_marks f image ms) ↔ Every (RulesAt f image) ms
marks_says f image [] = (λ e. Every.none, λ r. tt)
marks_says f image (m ∷ ms) = simp (append_says, at_says, marks_says f image ms) (λ e. Every.more e.0 e.1, first)
