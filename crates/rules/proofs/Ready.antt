-- The invariant of the way home, and that every step keeps it or comes home.
-- Assumes nothing.
use Prim.Native.Nat.{ℕ, ◌+◌, ◌/◌, ◌%◌, ◌≤◌, ◌<◌}
use mathlib.Core.Path.{◌≡◌, refl, sym, ap, subst, ◌∙◌}
use mathlib.Core.Logic.{◌⊎◌, inl, inr}
use mathlib.Core.List.{List, [], ◌∷◌, tail}
use Rattle.std.specs.Prelude.{Some}
use native.Mathlib.Omega.{arith}
use lib.ListN.{length}
use Rattle.registers.specs.Word.{wrapping_add, wrapping_sub}
use Rattle.registers.specs.declared.Registers.{Registers}
use Rattle.memory.specs.Memory.{Store, store, word_at, applied, push_stores}
use Rattle.stepper.specs.Step.{did, fetched, did_of}
use Rattle.commands.specs.declared.command.Claim.{Claim}
use Rattle.commands.proofs.Every.{every_map}
use Rattle.ticket.specs.Fields.{Fields}
use Rattle.commands.specs.Every.{Every, none, more}
use Rattle.ticket.specs.Rules.{In, HeaderRules, MarkRules}
use Rattle.rules.specs.Shape.{Ordinary, Call, Shape, ordinary, call, return, forbidden, nothing, shape_of}
use Rattle.rules.specs.Marks.{claim_at, image_from}
use Rattle.rules.specs.Rules.{Follows, OrdinaryRules, CallRules, ReturnRules, RulesBy, RulesAt, Accepted}
use Rattle.stepper.specs.Flow.{flow_of}
use Rattle.rules.specs.InUse.{in_use_after}
use Rattle.rules.specs.Claim.{top_of, Spares}
use Rattle.rules.proofs.Obeys.{every_some, Stored, Obeys}
use Rattle.rules.proofs.AnyStep.{obeys}
use Rattle.rules.proofs.SameShape.{same_shape}
use Rattle.rules.proofs.Memory.{less_is, plus_is, moved_is, length_applied, pushed_holds, word_holds}
use Rattle.rules.proofs.Marks.{holding}
use Rattle.rules.proofs.Frames.{Frame, Stacked, owed, pairs, base_top}
use Rattle.rules.proofs.Placed.{Placed, Filled, placed_spares, code_kept, stack_kept}

-- on the way: PC has a claim, and p cycles are enough for all that is to come
pub record Ready {f : Fields} {image : List ℕ} (A : Accepted f image) (r : Registers) (m : List ℕ)
    (used : List (List ℕ)) (p : ℕ) : Type 0 where
  pub base : ℕ
  pub frames : List Frame
  pub claim : Claim
  pub whole : length m ≡ 65536
  pub code : Filled f image m
  pub marked : claim_at f.marks r.pc ≡ Some claim
  pub depth : r.sp + claim.depth.0 ≡ base
  -- the lowest SP to come is not below the lowest that the start allows
  pub room : top_of f + claim.need.0 ≤ r.sp + 2 + A.start.need.0
  pub stacked : Stacked f A.start.need.0 m base frames
  pub in_use : used ≡ pairs base frames
  pub cost : claim.cost.0 + owed frames ≤ p

pub record Arrived (f : Fields) (r : Registers) : Type 0 where
  pub pc : r.pc ≡ f.header.home
  pub sp : r.sp ≡ top_of f

-- a step was done, and `left` cycles are enough for the rest
pub record Stepped {f : Fields} {image : List ℕ} (A : Accepted f image) (r : Registers) (m : List ℕ)
    (used : List (List ℕ)) (p : ℕ) : Type 0 where
  pub registers : Registers
  pub stores : List Store
  pub cycles : ℕ
  pub left : ℕ
  pub done : did_of r m ≡ did registers stores cycles
  pub spares : Every (Spares f used) stores
  pub cost : cycles + left ≤ p
  pub goes : Arrived f registers ⊎ Ready A registers (applied stores m) (in_use_after (flow_of m r.pc) stores used) left

module _ {f : Fields} {image : List ℕ} {A : Accepted f image} {r : Registers} {m : List ℕ} {used : List (List ℕ)}
    {p : ℕ} (R : Ready A r m used p) where
  rules : HeaderRules f.header
  rules = A.readable.header_rules

  pub under_top : R.base + 2 ≤ top_of f
  under_top = base_top f A.start.need.0 m R.base R.frames R.stacked

  -- no address on the stack wraps
  small : R.base + 2 < 65536
  small = omega (arith, under_top, rules.stack_edge, rules.stack_start)

  -- what the claim needs is free
  pub free : f.header.stack.start + R.claim.need.0 ≤ r.sp + 1
  free = omega (arith, R.room, A.start_need)

  low : f.header.stack.start ≤ R.base + 1
  low = omega (arith, free, R.depth)

  inside : In f.header.code r.pc
  inside =
      (holding (MarkRules f.header) f.marks A.readable.mark_rules r.pc R.claim R.marked).inside

  rules_here : RulesAt f image (record { address = r.pc; claim = R.claim })
  rules_here = holding (RulesAt f image) f.marks A.each r.pc R.claim R.marked

  -- stores of the routine that runs
  module _ (ws : List Store) (P : Every (Placed f R.base) ws) where
    spared : Every (Spares f used) ws
    spared = rw R.in_use (placed_spares f rules R.base low A.start.need.0 m R.frames R.stacked ws P)

    filled : Filled f image (applied ws m)
    filled =
        code_kept f rules R.base low A.start.need.0 m R.frames R.stacked ws P image A.image_length
        R.code

    framed : Stacked f A.start.need.0 (applied ws m) R.base R.frames
    framed = stack_kept f rules R.base low A.start.need.0 m R.frames R.stacked ws P

  module _ (o : Ordinary) (O : OrdinaryRules f R.claim o) where
    placed : (a : ℕ) → Follows f.marks R.claim o a
        → (w : Store) → Stored r o w → Placed f R.base w
    placed a F w (inl (i, h, e)) =
        let d : wrapping_sub r.sp i + i ≡ r.sp =
        less_is r.sp i (omega (arith, small, R.depth)) (omega (arith, free, F.need, rules.stack_start)) in
        inl (omega (arith, free, F.need), omega (arith, R.depth))
    placed a F w (inr h) =
        let s : (x : ℕ) × In f.header.«data» x × (w.at ≡ x) = every_some o.written O.stores h in
        inr (rw s.2 s.1)

    by_ordinary : Obeys (ordinary o) r m → Stepped A r m used p
    by_ordinary (q, ws, done, flow, goes, sp, stores) =
        let s : (x : ℕ) × Follows f.marks R.claim o x × (q.pc ≡ x) = every_some o.next O.follows goes in
        let F : Follows f.marks R.claim o s.0 = s.1 in
        let P : Every (Placed f R.base) ws = every_map (placed s.0 F) stores in
        let e : q.sp + o.pushed ≡ r.sp + o.pulled =
        rw sp (moved_is r.sp o.pulled o.pushed (omega (arith, free, F.need, rules.stack_start))
        (omega (arith, small, R.depth, O.pulls))) in
        record {
          registers = q;
          stores = ws;
          cycles = o.cycles;
          left = F.there.cost.0 + owed R.frames;
          done = done;
          spares = spared ws P;
          cost = omega (arith, F.cost, R.cost);
          goes = inr (record {
            base = R.base;
            frames = R.frames;
            claim = F.there;
            whole = length_applied ws m ∙ R.whole;
            code = filled ws P;
            marked = ap (claim_at f.marks) s.2 ∙ F.marked;
            depth = omega (arith, R.depth, F.depth);
            room = omega (arith, R.room, F.need);
            stacked = framed ws P;
            in_use = rw flow R.in_use;
            cost = omega arith;
          });
        }

  by_call : (c : Call) → CallRules f R.claim c → Obeys (call c) r m → Stepped A r m used p
  by_call c C (q, done, flow, pc, sp) =
      let one : wrapping_sub r.sp 1 + 1 ≡ r.sp =
      less_is r.sp 1 (omega (arith, small, R.depth)) (omega (arith, free, C.there_need, rules.stack_start)) in
      let e2 : r.sp ≡ q.sp + 2 =
      rw sp (sym (less_is r.sp 2 (omega (arith, small, R.depth))
      (omega (arith, free, C.there_need, rules.stack_start)))) in
      let e1 : wrapping_sub r.sp 1 ≡ q.sp + 1 = omega arith in
      let ws : List Store = push_stores r.sp c.after in
      let P : Every (Placed f R.base) ws =
      more {a = store r.sp (c.after % 256)} (inl (omega (arith, free, C.there_need), omega (arith, R.depth)))
      (more {a = store (wrapping_sub r.sp 1) (c.after / 256)}
      (inl (omega (arith, free, C.there_need), omega (arith, R.depth))) none) in
      record {
        registers = q;
        stores = ws;
        cycles = c.cycles;
        left = C.there.cost.0 + (C.back.cost.0 + owed R.frames);
        done = done;
        spares = spared ws P;
        cost = omega (arith, C.cost, R.cost);
        goes = inr (record {
          base = q.sp;
          frames = record { address = c.after; claim = C.back; base = R.base } ∷ R.frames;
          claim = C.there;
          whole = length_applied ws m ∙ R.whole;
          code = filled ws P;
          marked = rw pc C.there_marked;
          depth = omega (arith, C.there_depth);
          room = omega (arith, R.room, C.there_need);
          stacked = (
            record {
              marked = C.back_marked;
              base = omega (arith, C.back_depth, R.depth);
              room = omega (arith, C.back_need, R.room);
              word =
                  pushed_holds m r.sp q.sp c.after e2 (omega (arith, R.whole, small, R.depth))
                  (omega (arith, small, R.depth));
            },
            framed ws P,
          );
          in_use = rw flow (cc (e1, e2, R.in_use));
          cost = omega arith;
        });
      }

  -- home, or in the routine that called
  back : (us : List Frame) → Stacked f A.start.need.0 m R.base us → used ≡ pairs R.base us
      → (q : Registers) → q.pc ≡ word_at m (wrapping_add R.base 1) → q.sp ≡ R.base + 2 →
      Arrived f q ⊎ Ready A q m (tail used) (owed us)
  back [] S U q pc sp = inl (record { pc = pc ∙ word_holds m R.base f.header.home small S.1; sp = sp ∙ S.0 })
  back (u ∷ us) S U q pc sp = inr (record {
    base = u.base;
    frames = us;
    claim = u.claim;
    whole = R.whole;
    code = R.code;
    marked = rw (pc ∙ word_holds m R.base u.address small S.0.word) S.0.marked;
    depth = omega (arith, S.0.base);
    room = omega (arith, S.0.room);
    stacked = S.1;
    in_use = rw U refl;
    cost = omega arith;
  })

  by_return : (k : ℕ) → ReturnRules R.claim k → Obeys (return k) r m → Stepped A r m used p
  by_return k C (q, done, flow, pc, sp) =
      let e : r.sp ≡ R.base = omega (arith, R.depth, C.depth) in
      record {
        registers = q;
        stores = [];
        cycles = k;
        left = owed R.frames;
        done = done;
        spares = none;
        cost = omega (arith, C.cost, R.cost);
        goes =
            rw flow (back R.frames R.stacked R.in_use q (rw (← e) pc) (sp ∙ rw e (plus_is R.base 2 small)));
      }

  by_shape : (s : Shape) → RulesBy f R.claim s → Obeys s r m → Stepped A r m used p
  by_shape (ordinary o) C O = by_ordinary o C O
  by_shape (call c) C O = by_call c C O
  by_shape (return k) C O = by_return k C O
  by_shape forbidden C O = absurd C
  by_shape nothing C O = absurd C

  -- home lies outside the code window
  pub not_home : r.pc ≡ f.header.home → ⊥
  not_home e = rules.home_outside (rw e at inside)

  -- at a mark the memory's instruction is the image's
  memory_shape : shape_of (fetched m r.pc) r.pc ≡ shape_of (image_from f.header.code image r.pc) r.pc
  memory_shape =
      same_shape f.header.code image m r.pc (λ e. subst (λ s. RulesBy f R.claim s) e rules_here.rules)
      inside.0 rules_here.within
      rules.code_edge A.image_length R.code

  pub one_step : Stepped A r m used p
  one_step =
      let bytes = image_from f.header.code image r.pc in
      by_shape (shape_of bytes r.pc) rules_here.rules
      (subst (λ s. Obeys s r m) memory_shape (obeys r m R.whole (omega (arith, small, R.depth))))
