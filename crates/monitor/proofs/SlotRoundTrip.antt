-- The slot and the certificate that it was filled with say the same.
-- Assumes nothing.
use mathlib.Core.Path.{◌≡◌, refl}
use Prim.Native.Nat.{ℕ, ◌+◌, ◌*◌, ◌/◌, ◌%◌}
use native.Mathlib.Omega.{arith}
use lib.ListN.{length}
use Rattle.verdict.specs.declared.Certificate.{Certificate}
use Rattle.monitor.proofs.RegisterRoundTrip.{halves}
use Rattle.monitor.specs.Slot.{slot_size, slot_of, header_in, certificate_in}

long_halves : (w : ℕ) → w / 65536 * 65536 + w % 65536 ≡ w
long_halves w = omega arith

module _ (c : Certificate) where
  pub slot_length : length (slot_of c) ≡ slot_size
  unfolding slot_of
  slot_length = refl

  pub header_in_slot : header_in (slot_of c) ≡ c.header
  unfolding slot_of header_in
  header_in_slot = simp (halves, long_halves)

  pub certificate_in_slot : certificate_in (slot_of c) ≡ c
  unfolding slot_of header_in certificate_in
  certificate_in_slot = simp (halves, long_halves)
