-- Every start from a slot that was filled comes home.
-- Assumes nothing.
use Rattle.std.specs.Prelude.{Ok, Err}
use Prim.Native.Nat.{ℕ}
use mathlib.Core.Path.{◌≡◌, refl, ◌∙◌}
use mathlib.Core.Bool.{Bool, true, false, cond}
use mathlib.Core.List.{List}
use native.Mathlib.Omega.{arith}
use borrow.Author.Tests.{eq-eqb}
use lib.Dec.{eqb}
use lib.ListN.{length}
use Rattle.registers.specs.Registers.{data_of}
use Rattle.answers.proofs.Causes.{number_positive}
use Rattle.commands.specs.Number.{AllBytes}
use Rattle.verdict.specs.declared.Certificate.{Certificate}
use Rattle.verdict.specs.Certification.{Certification, certification_of}
use Rattle.verdict.specs.Start.{loaded_of}
use Rattle.verdict.proofs.Home.{certificate_comes_home}
use Rattle.monitor.specs.RegisterBytes.{packed, unpacked}
use Rattle.monitor.specs.Slot.{slot_size, slot_of}
use Rattle.monitor.specs.RoutineCalls.{start_call, CertifyCall, certify_call, of_certification, certify_bytes_of}
use Rattle.monitor.specs.RoutineCalls.{start_slot_of}
use Rattle.monitor.specs.Home.{SlotComesHome, FilledSlotComesHome, StartsFromFilledSlot}
use Rattle.monitor.proofs.SlotRoundTrip.{slot_length, header_in_slot, certificate_in_slot}
use Rattle.monitor.proofs.BytesHome.{packed_come_home}

module _ (ticket image : List ℕ) (bytes : AllBytes ticket) where
  -- the slot's header is the certified one, and a start by it comes home
  slot_comes_home : (c : Certificate) → certification_of ticket image ≡ Ok c
      → SlotComesHome ticket image (slot_of c)
  unfolding start_slot_of
  slot_comes_home c e h p rs m sized whole =
      let S = certificate_comes_home ticket image bytes c e (data_of (unpacked rs)) m whole in
      let after = loaded_of c.header image m in
      let H = packed_come_home ticket image S.0 c.header.home after S.2 in
      let started : start_slot_of h p (slot_of c) image rs m ≡ start_call 0 c.header.home p (packed S.0) after =
      rw (header_in_slot c, eq-eqb _ _ (slot_length c), eq-eqb _ _ sized, S.1) in
      rw (started, certificate_in_slot c) (refl, H.0, H.1 ∙ S.3, H.2 ∙ S.4)

  module _ (p : ℕ) (slot : List ℕ) where
    abbrev Home : CertifyCall → Type 0
    Home f = f.outcome ≡ 0 → SlotComesHome ticket image f.slot

    -- by the certification: 0 is no refusal's number
    home_of : (a : Certification) → certification_of ticket image ≡ a → Home (of_certification a p slot)
    home_of (Ok c) e z = slot_comes_home c e
    home_of (Err r) e z = absurd (omega (arith, z, number_positive r.cause))

    -- by whether there are as many slot bytes as are asked for
    home_sized : (sized : Bool) → Home (cond sized (of_certification (certification_of ticket image) p slot)
        (certify_call 21 0 slot))
    home_sized true z = home_of (certification_of ticket image) refl z
    home_sized false z = absurd (omega (arith, z))

pub filled_slot_comes_home : (p : ℕ) (ticket image slot : List ℕ) → AllBytes ticket
    → FilledSlotComesHome p ticket image slot
unfolding certify_bytes_of
filled_slot_comes_home p ticket image slot bytes = home_sized ticket image bytes p slot (eqb (length slot) slot_size)

pub starts_from_filled_slot : (slot image : List ℕ) → StartsFromFilledSlot slot image
starts_from_filled_slot slot image ticket bytes F =
    (rw F.2 at (filled_slot_comes_home F.0 ticket image F.1 bytes)) refl
