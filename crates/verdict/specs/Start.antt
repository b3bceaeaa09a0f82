-- The start: the memory, the registers and home, and that they are what the claim about the whole way supposes
-- (document 01, "Start"; document 02, e).
-- Assumes nothing.
use Rattle.std.specs.Prelude.{ℕ, ◌/◌, ◌%◌, ◌≡◌, cond, List, [], ◌∷◌, eqb, length, Result, Ok, Err}
use Rattle.registers.specs.declared.Data.{Data}
use Rattle.registers.specs.Registers.{start_of}
use Rattle.registers.specs.Word.{wrapping_add, wrapping_sub}
use Rattle.memory.specs.Memory.{Store, store, applied}
use Rattle.commands.specs.declared.header.Window.{Window}
use Rattle.commands.specs.declared.header.Header.{Header}
use Rattle.ticket.specs.Fields.{Fields}
use Rattle.ticket.specs.Read.{refusal}
use Rattle.rules.specs.Rules.{Accepted}
use Rattle.rules.specs.Claim.{top_of, Loaded}
use Rattle.answers.specs.declared.Refusal.{Refusal}
use Rattle.verdict.specs.declared.started.Start.{Start}
use Rattle.answers.specs.declared.Cause.TheVariants.{BadImage, BadLength}

-- where a routine starts, or a refusal
abbrev pub Started : Type 0
Started = Result Start Refusal

-- a window's last address; of the stack window, T
abbrev pub last_of : Window → ℕ
last_of w = wrapping_sub (wrapping_add w.start w.length) 1

-- bytes to an address and those after it
abbrev pub image_stores : ℕ → List ℕ → List Store
image_stores a [] = []
image_stores a (b ∷ bs) = store a b ∷ image_stores (wrapping_add a 1) bs

-- home's low byte at T, its high byte at T - 1
abbrev pub home_stores : (top home : ℕ) → List Store
home_stores top home = store top (home % 256) ∷ store (wrapping_sub top 1) (home / 256) ∷ []

-- 21: memory not 65,536 bytes; then 9: the image's length is not the code window's
abbrev pub by_size : {A : Type 0} → Header → List ℕ → List ℕ → A → A → A → A
by_size h image m a_21 a_9 a = cond (eqb (length m) 65536) (cond (eqb (length image) h.code.length) a a_9) a_21

unfoldable pub started_of : Header → Data → List ℕ → List ℕ → Started
started_of h d image m =
    by_size h image m (Err (refusal BadLength 0)) (Err (refusal BadImage 0))
    (Ok (record { registers = start_of d h.entry (last_of h.stack); home = h.home }))

-- a refusal leaves every byte
unfoldable pub loaded_of : Header → List ℕ → List ℕ → List ℕ
loaded_of h image m =
    by_size h image m m m
    (applied (home_stores (last_of h.stack) h.home) (applied (image_stores h.code.start image) m))

-- for the header of an accepted ticket: these registers, this home and this memory are those of the claim
abbrev pub StartsAsClaimed : Header → Data → List ℕ → List ℕ → Type 0
StartsAsClaimed h d image m =
    (f : Fields) → f.header ≡ h → Accepted f image → length m ≡ 65536
    → (started_of h d image m
    ≡ Ok (record { registers = start_of d f.header.entry (top_of f); home = f.header.home }))
    × Loaded f image (loaded_of h image m)
