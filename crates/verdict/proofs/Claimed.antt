-- The start of an accepted routine is the one that the claim supposes.
-- Assumes nothing.
use Prim.Native.Nat.{ℕ, ◌+◌, ◌-◌, ◌≤◌, ◌<◌, ◌/◌, ◌%◌}
use mathlib.Core.Path.{◌≡◌, ◌∙◌}
use mathlib.Core.List.{List}
use native.Mathlib.Omega.{arith}
use borrow.Author.Tests.{eq-eqb}
use Rattle.std.specs.Prelude.{Ok}
use lib.ListN.{length, get_or, set, length-set}
use lib.Seq.{get_or-set_same, get_or-set_other}
use Rattle.registers.specs.declared.Data.{Data}
use Rattle.registers.specs.Registers.{start_of}
use Rattle.registers.specs.Word.{wrapping_add}
use Rattle.memory.specs.Memory.{byte_at, with_byte, applied}
use Rattle.commands.specs.declared.header.Header.{Header}
use Rattle.ticket.specs.Fields.{Fields}
use Rattle.commands.specs.Every.{none, more}
use Rattle.ticket.specs.Rules.{In, HeaderRules}
use Rattle.rules.specs.Rules.{Accepted}
use Rattle.rules.specs.Claim.{top_of, Loaded}
use Rattle.rules.proofs.Memory.{length_applied, byte_applied}
use Rattle.verdict.specs.Start.{image_stores, started_of, loaded_of, StartsAsClaimed}
use Rattle.verdict.proofs.Stores.{image_read, home_of, last_is, under_is, code_is}

module _ (f : Fields) (H : HeaderRules f.header) (m : List ℕ) where
  apart : (a : ℕ) → In f.header.code a → top_of f ≤ a + 1 → a ≤ top_of f → ⊥
  apart a c low high = H.stack_apart_code a c (omega (arith, H.stack_length.0), omega (arith, H.stack_length.0))

  off_home : (a : ℕ) → In f.header.code a → byte_at (applied (home_of f) m) a ≡ byte_at m a
  off_home a c =
      byte_applied m a (more (λ e. apart a c (omega arith) (omega arith))
      (more (λ e. apart a c (omega arith) (omega arith)) none))

  low : length m ≡ 65536 → byte_at (applied (home_of f) m) (top_of f) ≡ f.header.home % 256
  unfolding byte_at with_byte
  low s =
      get_or-set_other (set m (top_of f) (f.header.home % 256)) (top_of f - 1) (top_of f) (f.header.home / 256) 0
      (omega (arith, H.stack_length.0))
      ∙ get_or-set_same m (top_of f) (f.header.home % 256) 0 (omega (arith, H.stack_length.0, H.stack_edge))

  high : length m ≡ 65536 → byte_at (applied (home_of f) m) (top_of f - 1) ≡ f.header.home / 256
  unfolding byte_at with_byte
  high s =
      get_or-set_same (set m (top_of f) (f.header.home % 256)) (top_of f - 1) (f.header.home / 256) 0 (omega (
        arith,
        H.stack_length.0,
        H.stack_edge,
        length-set m (top_of f) (f.header.home % 256),
      ))

module _ (f : Fields) (image m : List ℕ) (A : Accepted f image) (size : length m ≡ 65536) where
  started : (d : Data) → started_of f.header d image m
      ≡ Ok (record { registers = start_of d f.header.entry (top_of f); home = f.header.home })
  unfolding started_of
  started d = simp (eq-eqb _ _ size, eq-eqb _ _ A.image_length, last_is f A.readable.header_rules)

  abbrev filled : List ℕ
  filled = applied (image_stores f.header.code.start image) m

  whole : length filled ≡ 65536
  whole = length_applied (image_stores f.header.code.start image) m ∙ size

  stored : (i : ℕ) → i < length image → byte_at filled (wrapping_add f.header.code.start i) ≡ get_or image i 0
  stored i h =
      let H = A.readable.header_rules in
      image_read f.header.code.start image m i (omega (arith, H.code_edge, A.image_length))
      (omega (arith, H.code_edge, A.image_length)) size h

  loaded : Loaded f image (loaded_of f.header image m)
  unfolding loaded_of
  loaded =
      let H = A.readable.header_rules in
      simp (eq-eqb _ _ size, eq-eqb _ _ A.image_length, last_is f H, under_is f H)
      (record {
        whole = length_applied (home_of f) filled ∙ whole;
        code = λ i h.
            let fits : i < f.header.code.length = omega (arith, A.image_length) in
            off_home f H filled (f.header.code.start + i) (omega arith, omega arith) ∙
            (rw (code_is f H i fits) at (stored i h));
        home_low = low f H filled whole;
        home_high = high f H filled whole;
      })

pub starts_as_claimed : (h : Header) (d : Data) (image m : List ℕ) → StartsAsClaimed h d image m
starts_as_claimed h d image m f e A size = rw (← e) (started f image m A size d, loaded f image m A size)
