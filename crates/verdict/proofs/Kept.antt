-- The start leaves every byte outside the code window and home.
-- Assumes nothing.
use Prim.Native.Nat.{ℕ, ◌+◌, ◌-◌, ◌<◌}
use mathlib.Core.Bool.{Bool, true, false, cond}
use mathlib.Core.Path.{◌≡◌, refl, sym, ◌∙◌}
use mathlib.Core.List.{List}
use native.Mathlib.Omega.{arith}
use lib.Dec.{eqb}
use lib.ListN.{length}
use Rattle.memory.specs.Memory.{Store, byte_at, applied}
use Rattle.commands.specs.declared.header.Header.{Header}
use Rattle.commands.proofs.Every.{every_map}
use Rattle.ticket.specs.Fields.{Fields}
use Rattle.commands.specs.Every.{none, more}
use Rattle.ticket.specs.Rules.{In}
use Rattle.rules.specs.Rules.{Accepted}
use Rattle.rules.specs.Claim.{top_of}
use Rattle.rules.proofs.Memory.{byte_applied}
use Rattle.verdict.specs.Start.{image_stores, loaded_of}
use Rattle.verdict.proofs.Stores.{Among, image_among, home_of, last_is, under_is, code_is}

either : (b c : Bool) (m n : List ℕ) (a : ℕ) → byte_at n a ≡ byte_at m a → byte_at (cond b (cond c n m) m) a
    ≡ byte_at m a
either false c m n a e = refl
either true false m n a e = refl
either true true m n a e = e

module _ (f : Fields) (image m : List ℕ) (A : Accepted f image) (a : ℕ) where
  away : (In f.header.code a → ⊥) → (w : Store) → Among f.header.code.start (length image) w → w.at ≡ a → ⊥
  away off w p e =
      let H = A.readable.header_rules in
      let fits : p.0 < f.header.code.length = omega (arith, p.1, A.image_length) in
      let at : a ≡ f.header.code.start + p.0 = sym e ∙ p.2 ∙ code_is f H p.0 fits in
      off (omega arith, omega arith)

  off_image : (In f.header.code a → ⊥) → byte_at (applied (image_stores f.header.code.start image) m) a
      ≡ byte_at m a
  off_image off =
      let H = A.readable.header_rules in
      byte_applied m a (every_map (away off) (image_among f.header.code.start image
      (omega (arith, H.code_edge, H.code_length.0))))

  off_home : (n : List ℕ) → (a ≡ top_of f → ⊥) → (a ≡ top_of f - 1 → ⊥) → byte_at (applied (home_of f) n) a
      ≡ byte_at n a
  off_home n not_low not_high = byte_applied n a (more (λ e. not_low (sym e)) (more (λ e. not_high (sym e)) none))

  kept_at : (In f.header.code a → ⊥) → (a ≡ top_of f → ⊥) → (a ≡ top_of f - 1 → ⊥) →
      byte_at (loaded_of f.header image m) a ≡ byte_at m a
  unfolding loaded_of
  kept_at off not_low not_high =
      let H = A.readable.header_rules in
      rw (last_is f H, under_is f H)
      (either (eqb (length m) 65536) (eqb (length image) f.header.code.length) m _ a
      (off_home _ not_low not_high ∙ off_image off))

pub kept : (h : Header) (image m : List ℕ) (f : Fields) → f.header ≡ h → Accepted f image → (a : ℕ) →
    (In h.code a → ⊥) → (a ≡ top_of f → ⊥) → (a ≡ top_of f - 1 → ⊥)
    → byte_at (loaded_of h image m) a ≡ byte_at m a
kept h image m f e A = rw (← e) (kept_at f image m A)
