-- Where the start's stores go, and what a byte is after the image's.
-- Assumes nothing.
use Prim.Native.Nat.{ℕ, zero, suc, ◌+◌, ◌-◌, ◌≤◌, ◌<◌, ◌/◌, ◌%◌}
use mathlib.Core.Path.{◌≡◌, sym, ◌∙◌}
use mathlib.Core.List.{List, [], ◌∷◌}
use native.Mathlib.Omega.{arith}
use lib.ListN.{length, get_or, set, length-set}
use lib.Seq.{get_or-set_same}
use Rattle.registers.specs.Word.{wrapping_add, wrapping_sub}
use Rattle.registers.proofs.Wrap.{plus_zero}
use Rattle.memory.specs.Memory.{Store, store, byte_at, with_byte, applied}
use Rattle.commands.proofs.Every.{every_map}
use Rattle.ticket.specs.Fields.{Fields}
use Rattle.commands.specs.Every.{Every, none, more}
use Rattle.ticket.specs.Rules.{HeaderRules}
use Rattle.rules.specs.Claim.{top_of}
use Rattle.rules.proofs.Memory.{byte_applied}
use Rattle.verdict.specs.Start.{last_of, image_stores}

-- a store to one of n addresses from a on
abbrev pub Among : ℕ → ℕ → Store → Type 0
Among a n w = (i : ℕ) × (i < n) × (w.at ≡ wrapping_add a i)

wraps : (a : ℕ) → wrapping_add a 1 < 65536
unfolding wrapping_add
wraps a = omega arith

after : (a i : ℕ) → wrapping_add (wrapping_add a 1) i ≡ wrapping_add a (suc i)
unfolding wrapping_add
after a i = omega arith

apart : (a i : ℕ) → a < 65536 → i < 65535 → wrapping_add a (suc i) ≡ a → ⊥
unfolding wrapping_add
apart a i h l e = omega arith

pub image_among : (a : ℕ) (bs : List ℕ) → a < 65536 → Every (Among a (length bs)) (image_stores a bs)
image_among a [] h = none
image_among a (b ∷ bs) h =
    more
    (0, omega arith, sym (plus_zero a h))
    (every_map (λ w p. (suc p.0, omega (arith, p.1), p.2 ∙ after a p.0))
    (image_among (wrapping_add a 1) bs (wraps a)))

pub image_read : (a : ℕ) (bs m : List ℕ) (i : ℕ) → a < 65536 → length bs ≤ 65536 → length m ≡ 65536 → i < length bs
    → byte_at (applied (image_stores a bs) m) (wrapping_add a i) ≡ get_or bs i 0
unfolding byte_at with_byte
image_read a [] m i h l s o = absurd (omega arith)
image_read a (b ∷ bs) m zero h l s o =
    let away : Every (λ w. w.at ≡ a → ⊥) (image_stores (wrapping_add a 1) bs) =
    every_map (λ w p e. apart a p.0 h (omega (arith, p.1)) (sym (p.2 ∙ after a p.0) ∙ e))
    (image_among (wrapping_add a 1) bs (wraps a)) in
    rw (plus_zero a h) (byte_applied (set m a b) a away ∙ get_or-set_same m a b 0 (omega arith))
image_read a (b ∷ bs) m (suc i) h l s o =
    rw (← after a i) (image_read (wrapping_add a 1) bs (set m a b) i (wraps a) (omega arith) (length-set m a b ∙ s)
    (omega arith))

-- home's stores, where nothing wraps
abbrev pub home_of : Fields → List Store
home_of f = store (top_of f) (f.header.home % 256) ∷ store (top_of f - 1) (f.header.home / 256) ∷ []

module _ (f : Fields) (H : HeaderRules f.header) where
  pub last_is : last_of f.header.stack ≡ top_of f
  unfolding wrapping_add wrapping_sub
  last_is = omega (arith, H.stack_length.0, H.stack_edge)

  pub under_is : wrapping_sub (top_of f) 1 ≡ top_of f - 1
  unfolding wrapping_sub
  under_is = omega (arith, H.stack_length.0, H.stack_edge)

  pub code_is : (i : ℕ) → i < f.header.code.length → wrapping_add f.header.code.start i
      ≡ f.header.code.start + i
  unfolding wrapping_add
  code_is i h = omega (arith, H.code_edge)
