-- Fill marks never fall, stay even and in order, and have a closed form over the words: behind its pad a 24-bit word from an even mark lies at a multiple of 4,
-- so that a pad can come before the first only. What is stored lies between the mark and the mark after it.
use Prim.Native.Nat.{ℕ, zero, suc, ◌+◌, ◌*◌, ◌%◌, ◌≤◌, ◌<◌}
use mathlib.Core.Path.{◌≡◌, refl}
use mathlib.Core.Bool.{Bool, true, false}
use mathlib.Core.List.{List, ◌++◌}
use native.Mathlib.Omega.{arith}
use borrow.Author.Tests.{eqb-true, eqb-false}
use lib.Dec.{eqb}
use lib.ListN.{length, get_or, replicate, length-append, length-replicate}
use lib.Seq.{sets, length-sets}
use Rattle.base.specs.Bytes.{short_bytes, long_bytes}
use Rattle.std.specs.Prelude.{if◌then◌else◌}
use Rattle.base.proofs.Puts.{sets_other, zeros_left}
use Rattle.base.proofs.Tests.{on}
use Rattle.packing.specs.Packing.{pad_at, aligned_mark, width_of, mark_after, mark_after_words, bytes_of, stored}

pub mark_grows : (wide : Bool) (m : ℕ) → m ≤ mark_after wide m
unfolding mark_after aligned_mark
mark_grows wide m = omega arith

-- by the word size
module _ (m : ℕ) where
  pub mark_narrow : mark_after false m ≡ m + 2
  unfolding mark_after aligned_mark pad_at width_of
  mark_narrow = omega arith

  pub mark_wide : mark_after true m ≡ aligned_mark true m + 4
  unfolding mark_after width_of
  mark_wide = refl

-- The aligned mark -------------------------------------------------------------------------------------------------------

module _ (m : ℕ) (even : m % 2 ≡ 0) where
  -- for an even mark the sum is a multiple of 4, not below the mark, and not above any other such
  pub aligned_multiple : aligned_mark true m % 4 ≡ 0
  unfolding aligned_mark pad_at
  aligned_multiple = omega arith

  pub aligned_least : (n : ℕ) → n % 4 ≡ 0 → m ≤ n → aligned_mark true m ≤ n
  unfolding aligned_mark pad_at
  aligned_least n h g = omega arith

  -- and the pad by the sum is the pad by the test: "If the mark modulo 4 is 2, two zero bytes come first"
  pub pad_as_before : pad_at true m ≡ (if eqb (m % 4) 2 then 2 else 0)
  unfolding pad_at
  pad_as_before =
      on (eqb (m % 4) 2)
      (λ e. rw e (eqb-true (m % 4) 2 e))
      (λ e. let h : m % 4 ≡ 2 → ⊥ = eqb-false (m % 4) 2 e in rw e (omega arith))

  -- padding keeps the order of even marks
  pub mark_order : (wide : Bool) (n : ℕ) → m ≤ n → mark_after wide m ≤ mark_after wide n
  unfolding mark_after aligned_mark pad_at width_of
  mark_order false n h = omega arith
  mark_order true n h = omega arith

pub aligned_above : (m : ℕ) → m ≤ aligned_mark true m
unfolding aligned_mark
aligned_above m = omega arith

pub mark_even : (wide : Bool) (m : ℕ) → m % 2 ≡ 0 → mark_after wide m % 2 ≡ 0
unfolding mark_after aligned_mark pad_at width_of
mark_even false m h = omega arith
mark_even true m h = omega arith

pub words_even : (wide : Bool) (n m : ℕ) → m % 2 ≡ 0 → mark_after_words wide n m % 2 ≡ 0
unfolding mark_after_words
words_even wide zero m h = h
words_even wide (suc n) m h = mark_even wide (mark_after_words wide n m) (words_even wide n m h)

-- Words one after the other ----------------------------------------------------------------------------------------------

-- after the first word no pad comes
word_more : (wide : Bool) (n m : ℕ) → m % 2 ≡ 0
    → mark_after wide (aligned_mark wide m + suc n * width_of wide) ≡ aligned_mark wide m + suc (suc n) * width_of wide
unfolding mark_after aligned_mark pad_at width_of
word_more false n m h = omega arith
word_more true n m h = omega arith

pub words_closed : (wide : Bool) (n m : ℕ) → m % 2 ≡ 0 → 1 ≤ n → mark_after_words wide n m ≡ aligned_mark wide m + n * width_of wide
unfolding mark_after_words mark_after
words_closed wide zero m h some = absurd (omega arith)
words_closed wide (suc zero) m h some = omega arith
words_closed wide (suc (suc n)) m h some = rw (words_closed wide (suc n) m h (omega arith)) (word_more wide n m h)

pub no_words : (wide : Bool) (m : ℕ) → mark_after_words wide 0 m ≡ m
unfolding mark_after_words
no_words wide m = refl

pub wide_words : (n m : ℕ) → m % 2 ≡ 0 → 1 ≤ n → mark_after_words true n m ≡ m + m % 4 + n * 4
unfolding aligned_mark pad_at width_of
wide_words n m h some = words_closed true n m h some

-- 16-bit words have no pad, so that none of them needs no case of its own
pub narrow_words : (n m : ℕ) → m % 2 ≡ 0 → mark_after_words false n m ≡ m + n * 2
unfolding mark_after_words aligned_mark pad_at width_of
narrow_words zero m h = omega arith
narrow_words (suc n) m h = rw (words_closed false (suc n) m h (omega arith)) (omega arith)

-- What is stored ---------------------------------------------------------------------------------------------------------

bytes_length : (wide : Bool) (v : ℕ) → length (bytes_of wide v) ≡ width_of wide
unfolding width_of
bytes_length true v = refl
bytes_length false v = refl

pub stored_length : (wide : Bool) (v m : ℕ) (buffer : List ℕ) → length (stored wide v m buffer) ≡ length buffer
unfolding stored
stored_length wide v m buffer = length-sets buffer m (replicate (pad_at wide m) 0 ++ bytes_of wide v)

pub stored_beyond : (wide : Bool) (v m : ℕ) (buffer : List ℕ) (i : ℕ)
    → mark_after wide m ≤ i → get_or (stored wide v m buffer) i 0 ≡ get_or buffer i 0
unfolding stored mark_after aligned_mark
stored_beyond wide v m buffer i h =
    sets_other buffer m (replicate (pad_at wide m) 0 ++ bytes_of wide v) i
    (λ _. omega (
      arith,
      length-append (replicate (pad_at wide m) 0) (bytes_of wide v),
      length-replicate {A = ℕ} (pad_at wide m) 0,
      bytes_length wide v,
    ))

pub stored_narrow : (v m : ℕ) (buffer : List ℕ) → stored false v m buffer ≡ sets buffer m (short_bytes v)
unfolding stored pad_at
stored_narrow v m buffer = refl

-- a word of 24 bits over four zeros at the mark
pub stored_over : (v m : ℕ) (buffer : List ℕ) → sets (sets buffer m (long_bytes 0)) (aligned_mark true m) (long_bytes v) ≡ stored true v m buffer
unfolding stored aligned_mark pad_at
stored_over v m buffer = zeros_left buffer m 4 (m % 4) (long_bytes v) (omega arith) (omega arith)

pub stored_below : (wide : Bool) (v m : ℕ) (buffer : List ℕ) (i : ℕ)
    → i < m → get_or (stored wide v m buffer) i 0 ≡ get_or buffer i 0
unfolding stored
stored_below wide v m buffer i h = sets_other buffer m (replicate (pad_at wide m) 0 ++ bytes_of wide v) i (λ g. absurd (omega arith))
