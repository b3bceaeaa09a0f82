-- The digits of a line two by two: the bytes so far stand in the buffer, before those of the rest.
-- Assumes nothing.
use Rattle.std.proofs.Common.{◌≡◌, ℕ, ◌+◌, ◌*◌, ◌≤◌, ◌<◌, true, false, List, [], ◌∷◌, ◌++◌, length, get_or, take, drop}
use Rattle.std.proofs.Common.{set}
use Rattle.std.proofs.Common.{Option, Some, None, refl, sym, ◌∙◌, append-nil, append_assoc, length-append, length-set}
use Rattle.std.proofs.Common.{add-one, arith}
use Rattle.std.proofs.Math.Seq.{take-suc-set, length-take-le}
use borrow.Author.Tests.{le-leb, lt-leb}
use Rattle.lists.specs.Digit.{digit_of}
use Rattle.records.specs.Read.{ends_of, pair_of, before, bytes_of}
use Rattle.records.specs.inner.Decoded.{countable}
use Rattle.records.proofs.DecodePairs.{bytes_ended, bytes_short, bytes_pair}

-- bytes before others, where there are any
abbrev pub onto : List ℕ → Option (List ℕ) → Option (List ℕ)
onto xs None = None
onto xs (Some ys) = Some (xs ++ ys)

onto_nothing : (o : Option (List ℕ)) → o ≡ onto [] o
onto_nothing None = refl
onto_nothing (Some bs) = refl

onto_before : (xs : List ℕ) (b : ℕ) (o : Option (List ℕ)) → onto xs (before (Some b) o) ≡ onto (xs ++ (b ∷ [])) o
onto_before xs b None = refl
onto_before xs b (Some ys) = rw append_assoc

-- after n pairs
pub record SoFar (s buffer : List ℕ) (n : ℕ) (rest : List ℕ) : Type 0 where
  pub sized : length buffer ≡ 256
  pub bytes_are : bytes_of s ≡ onto (take n buffer) (bytes_of rest)

pub so_far_none : (s buffer : List ℕ) → length buffer ≡ 256 → SoFar s buffer 0 s
so_far_none s buffer h = record { sized = h; bytes_are = onto_nothing (bytes_of s) }

-- where no line's end stands there is a byte more, or none at all
longer : (xs s : List ℕ) → 256 ≤ length xs → ends_of s ≡ false → countable (onto xs (bytes_of s)) ≡ None
unfolding bytes_of
longer xs [] h e = refl
longer xs (c ∷ []) h e = rw e
longer xs (c ∷ d ∷ s) h e = rw e (one_more (pair_of (digit_of c) (digit_of d)) (bytes_of s))
  where
    one_more : (b : Option ℕ) (o : Option (List ℕ)) → countable (onto xs (before b o)) ≡ None
    one_more None o = refl
    one_more (Some v) None = refl
    one_more (Some v) (Some ys) =
        rw (lt-leb (length (xs ++ v ∷ ys)) 256 (rw length-append (omega arith)))

module _ {s buffer : List ℕ} {n : ℕ} {rest : List ℕ} (p : SoFar s buffer n rest) where
  pub ended_here : n ≤ 256 → ends_of rest ≡ true → Some (take n buffer) ≡ countable (bytes_of s)
  ended_here few e =
      let all : bytes_of s ≡ Some (take n buffer) = p.bytes_are ∙ rw (bytes_ended rest e, append-nil) in
      let size = length-take-le n buffer (omega arith) in
      rw (all, le-leb (length (take n buffer)) 256 (omega arith))

  pub ended_full : n ≡ 256 → ends_of rest ≡ true → Some (take 256 buffer) ≡ countable (bytes_of s)
  ended_full all e = rw all at (ended_here (omega arith) e)

  pub too_many : n ≡ 256 → ends_of rest ≡ false → None ≡ countable (bytes_of s)
  too_many all e =
      let size = length-take-le n buffer (omega arith) in
      rw p.bytes_are (sym (longer (take n buffer) rest (omega arith) e))

  module _ (e : ends_of rest ≡ false) where
    pub cut_short : length rest < 2 → None ≡ countable (bytes_of s)
    cut_short h = rw (p.bytes_are, bytes_short rest e h)

    module _ (long : 2 ≤ length rest) where
      pub no_high : digit_of (get_or rest 0 0) ≡ None → None ≡ countable (bytes_of s)
      no_high h = rw (p.bytes_are, bytes_pair rest e long, h)

      module _ {high : ℕ} (h : digit_of (get_or rest 0 0) ≡ Some high) where
        pub no_low : digit_of (get_or rest 1 0) ≡ None → None ≡ countable (bytes_of s)
        no_low l = rw (p.bytes_are, bytes_pair rest e long, h, l)

        pub so_far_next : {low : ℕ} → digit_of (get_or rest 1 0) ≡ Some low → n < 256
            → {v : ℕ} → v ≡ high * 16 + low → {after : List ℕ} → after ≡ drop 2 rest
            → SoFar s (set buffer n v) (n + 1) after
        so_far_next {low} l more {v} v_is after_is =
            let room : n < length buffer = omega arith in
            let byte : v ≡ 16 * high + low = omega arith in
            record {
              sized = length-set buffer n v ∙ p.sized;
              bytes_are =
                  p.bytes_are
                  ∙ rw (
                    bytes_pair rest e long,
                    h,
                    l,
                    ← byte,
                    onto_before,
                    add-one,
                    take-suc-set buffer n v room,
                    after_is,
                  );
            }
