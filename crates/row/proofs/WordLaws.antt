-- Words of a row: what a formed row says of each reply, and the words read in the incoming buffer. A pad can come before the first word only, so
-- the k-th word lies k widths behind the first, and the bytes of a word are those of its answer.
use Prim.Native.Nat.{ℕ, zero, suc, ◌+◌, ◌*◌, ◌/◌, ◌%◌, ◌^◌, ◌≤◌, ◌<◌}
use mathlib.Core.Path.{◌≡◌, refl, sym, ap, ◌∙◌, subst}
use mathlib.Core.Bool.{Bool, true, false, ◌&&◌}
use mathlib.Core.List.{List}
use mathlib.Core.Option.{some}
use native.Mathlib.Omega.{arith}
use native.Mathlib.Numerals.{add-one}
use native.Mathlib.Nat.{add-zero}
use borrow.Author.Count.{below_more}
use borrow.Author.Tests.{eq-eqb, eqb-true, ltb-true}
use lib.Bits.{bit_and, bit_xor}
use lib.Dec.{eqb, ltb}
use lib.ListN.{length, get_or, take, drop}
use lib.Seq.{sets}
use Rattle.std.specs.Prelude.{if◌then◌else◌}
use Rattle.base.specs.Bytes.{Bytes, byte_at, short_at, long_at, short_bytes, long_bytes}
use Rattle.base.proofs.Bools.{and_left, and_right}
use Rattle.base.proofs.Tests.{true_not_false}
use Rattle.packing.specs.Packing.{pad_at, aligned_mark, width_of, mark_after, mark_after_words, stored}
use Rattle.packing.proofs.MarkFacts.{aligned_multiple, words_closed, stored_length, stored_narrow, stored_over}
use Rattle.reply.specs.Replies.{has_form, reply_of, is_formed, replies_in, all_formed}
use Rattle.reply.specs.Effect.{longword_of}
use Rattle.reply.specs.declared.replies.Reply.TheVariants.{Answered}
use Rattle.reply.proofs.LongwordLaws.{longword_bits, narrow_same}
use Rattle.reply.proofs.ReplyFacts.{piece_byte, piece_first, answer_read, formed_has_form, reply_answer}
use Rattle.row.specs.model.Words.{FormedFrom, answer_by, data_in, longword_in, flags_at, WordsAt, WideTaken, words_stored}
use Rattle.row.proofs.Tried.{all_below, tried}
use Rattle.row.proofs.RowLaws.{formed_here, formed_start}

-- A formed row -----------------------------------------------------------------------------------------------------------

abbrev Form : List ℕ → Type 0
Form bytes = (ltb (byte_at bytes 1) 64 ≡ true) × (eqb (byte_at bytes 7) 0 ≡ true)

-- of the tests of the form, the second and the fifth
parts : (a b c d e f : Bool) → a && (b && (c && (d && (e && f)))) ≡ true → (b ≡ true) × (e ≡ true)
parts a b c d e f h =
    let rest = and_right a _ h in (and_left b _ rest, and_left e f (and_right d _ (and_right c _ (and_right b _ rest))))

module _ (row : List ℕ) (formed : all_formed (replies_in row) ≡ true) where
  -- it is formed from each of its replies on
  formed_from : (j : ℕ) → j * 8 ≤ length row → FormedFrom row (j * 8)
  formed_from zero h = formed_start row formed
  formed_from (suc j) h =
      subst (FormedFrom row) (omega arith) (formed_here row (j * 8) (formed_from j (omega arith)) (omega arith)).behind

  module _ (j : ℕ) (within : j * 8 < length row) where
    pub reply_formed : is_formed (take 8 (drop (j * 8) row)) ≡ true
    reply_formed = (formed_here row (j * 8) (formed_from j (omega arith)) within).formed

    pub reply_eight : j * 8 + 8 ≤ length row
    reply_eight = (formed_here row (j * 8) (formed_from j (omega arith)) within).eight

    byte : (i : ℕ) → i < 8 → byte_at (take 8 (drop (j * 8) row)) i ≡ get_or row (j * 8 + i) 0
    byte i h = piece_byte row (j * 8) i h

    form : Form (take 8 (drop (j * 8) row))
    unfolding has_form
    form =
        let bytes : List ℕ = take 8 (drop (j * 8) row) in
        parts (eqb (length bytes) 8) (ltb (byte_at bytes 1) 64) (eqb (byte_at bytes 2) 0) (eqb (byte_at bytes 3) 0) (eqb (byte_at bytes 7) 0) _
        (formed_has_form bytes reply_formed)

    pub reply_flags : flags_at row j < 64
    reply_flags = subst (λ (f : ℕ). f < 64) (byte 1 (omega arith)) (ltb-true _ 64 form.0)

    pub reply_top : get_or row (j * 8 + 7) 0 ≡ 0
    reply_top = sym (byte 7 (omega arith)) ∙ eqb-true _ 0 form.1

    -- a reply of kind 0 is the answer with its flags, and its longword is what it is stored as
    pub reply_answered : get_or row (j * 8) 0 ≡ 0 → reply_of (take 8 (drop (j * 8) row)) ≡ some (Answered (answer_by (flags_at row j) (data_in row (j * 8))))
    reply_answered e =
        reply_answer (take 8 (drop (j * 8) row)) reply_formed (piece_first row (j * 8) ∙ e) _
        (answer_read (take 8 (drop (j * 8) row)) _ _ _ _ (sym (byte 1 (omega arith))) (sym (byte 4 (omega arith))) (sym (byte 5 (omega arith)))
        (sym (byte 6 (omega arith))))

    pub reply_longword : longword_of (Answered (answer_by (flags_at row j) (data_in row (j * 8)))) ≡ longword_in row (j * 8)
    unfolding longword_in
    reply_longword = refl

-- Words by a mask --------------------------------------------------------------------------------------------------------

module _ (mask : ℕ) (row : List ℕ) (from : ℕ) where
  pub words_fewer : (j k : ℕ) → j ≤ k → WordsAt mask row from k → WordsAt mask row from j
  words_fewer j k h words i l = words i (omega arith)

  pub words_none : WordsAt mask row from 0
  words_none i l = absurd (omega arith)

  pub words_more : (k : ℕ) → WordsAt mask row from k → eqb (bit_and (flags_at row (from + k)) mask) (mask % 4) ≡ true → WordsAt mask row from (k + 1)
  words_more k words e = below_more (λ (j : ℕ). bit_and (flags_at row (from + j)) mask ≡ mask % 4) k words (eqb-true _ _ e)

  -- where the first is a word, the first that is none comes behind it
  pub first_passed : (k : ℕ) → eqb (bit_and (flags_at row (from + k)) mask) (mask % 4) ≡ false
      → eqb (bit_and (flags_at row from) mask) (mask % 4) ≡ true → 1 ≤ k
  first_passed zero n e = absurd (true_not_false (sym e ∙ subst (λ (i : ℕ). eqb (bit_and (flags_at row i) mask) (mask % 4) ≡ false) (add-zero from) n))
  first_passed (suc k) n e = omega arith

  pub first_word : WordsAt mask row from 1 → eqb (bit_and (flags_at row from) mask) (mask % 4) ≡ true
  first_word words = eq-eqb _ _ (subst (λ (i : ℕ). bit_and (flags_at row i) mask ≡ mask % 4) (add-zero from) (words 0 (omega arith)))

-- The longword of an answer ----------------------------------------------------------------------------------------------

all_below_lem : all_below 64 (λ (i : ℕ). ltb (bit_xor i 3) 64) ≡ true
unfolding all_below
all_below_lem = refl

-- flags with Q and X negated are a place of the table of top bits
pub raised_below : (f : ℕ) → f < 64 → bit_xor f 3 < 64
raised_below f h = ltb-true _ 64 (tried 64 (λ (i : ℕ). ltb (bit_xor i 3) 64) all_below_lem f h)

module _ (row : List ℕ) (byte : Bytes row) (at : ℕ) where
  -- its two low bytes are the answer's, whatever Q and X
  pub narrow_bytes : (longword_in row at % 256 ≡ get_or row (at + 4) 0) × (longword_in row at / 256 % 256 ≡ get_or row (at + 5) 0)
  unfolding longword_in
  narrow_bytes =
      let upper : data_in row at / 256 ≡ get_or row (at + 5) 0 + get_or row (at + 6) 0 * 256 = omega (arith, byte (at + 4)) in
      let same = narrow_same (answer_by (get_or row (at + 1) 0) (data_in row at)) in (
        ap (λ (l : List ℕ). get_or l 0 0) same ∙ omega (arith, byte (at + 4)),
        ap (λ (l : List ℕ). get_or l 1 0) same ∙ rw upper (omega (arith, byte (at + 5))),
      )

  -- it is the answer's last four bytes, of which byte 7 is zero, and the top bits of its flags
  data_whole : get_or row (at + 7) 0 ≡ 0 → long_at row (at + 4) ≡ data_in row at
  unfolding long_at short_at byte_at
  data_whole last =
      let five : at + 4 + 1 ≡ at + 5 = omega arith in
      let six : at + 4 + 2 ≡ at + 6 = omega arith in
      let seven : at + 6 + 1 ≡ at + 7 = omega arith in
      rw (five, six, seven, last) (omega arith)

  pub wide_longword : get_or row (at + 7) 0 ≡ 0
      → long_at row (at + 4)
      + ((if eqb (get_or row (at + 1) 0 / 2 % 2) 1 then 2 ^ 30 else 0) + (if eqb (get_or row (at + 1) 0 % 2) 1 then 2 ^ 31 else 0))
      ≡ longword_in row at
  unfolding longword_in
  wide_longword last =
      let same : data_in row at % 2 ^ 24 ≡ data_in row at = omega (arith, byte (at + 4), byte (at + 5), byte (at + 6)) in
      rw (data_whole last, same) (omega arith)

  pub longword_below : longword_in row at < 2 ^ 32
  unfolding longword_in
  longword_below = (longword_bits (answer_by (get_or row (at + 1) 0) (data_in row at))).below

-- Marks ------------------------------------------------------------------------------------------------------------------

pub narrow_mark : (k mark : ℕ) → mark_after_words false k mark ≡ mark + k * 2
unfolding mark_after_words mark_after aligned_mark pad_at width_of
narrow_mark zero mark = omega arith
narrow_mark (suc k) mark = omega (arith, narrow_mark k mark)

-- from an even mark on, the k-th word lies k words behind the first
pub aligned_words : (k mark : ℕ) → mark % 2 ≡ 0 → 1 ≤ k → mark_after_words true k mark ≡ aligned_mark true mark + k * 4
unfolding width_of
aligned_words k mark even h = words_closed true k mark even h

-- from a multiple of 4 on, without a pad
module _ (mark : ℕ) (four : mark % 4 ≡ 0) where
  aligned_same : aligned_mark true mark ≡ mark
  unfolding aligned_mark pad_at
  aligned_same = omega arith

  wide_mark : (k : ℕ) → mark_after_words true k mark ≡ mark + k * 4
  unfolding mark_after_words
  wide_mark zero = omega arith
  wide_mark (suc k) = omega (arith, aligned_same, aligned_words (suc k) mark (omega arith) (omega arith))

-- Words stored -----------------------------------------------------------------------------------------------------------

stored_bare : (v mark : ℕ) (buffer : List ℕ) → mark % 4 ≡ 0 → stored true v mark buffer ≡ sets buffer mark (long_bytes v)
unfolding stored pad_at
stored_bare v mark buffer h = rw h

module _ (row : List ℕ) (from mark : ℕ) where
  pub stored_none : (wide : Bool) (buffer : List ℕ) → buffer ≡ words_stored wide row from mark 0 buffer
  unfolding words_stored
  stored_none wide buffer = refl

  pub stored_more : (wide : Bool) (k : ℕ) (buffer : List ℕ)
      → words_stored wide row from mark (suc k) buffer
      ≡ stored wide (longword_in row ((from + k) * 8)) (mark_after_words wide k mark) (words_stored wide row from mark k buffer)
  unfolding words_stored
  stored_more wide k buffer = refl

  pub words_length : (wide : Bool) (k : ℕ) (buffer : List ℕ) → length (words_stored wide row from mark k buffer) ≡ length buffer
  unfolding words_stored
  words_length wide zero buffer = refl
  words_length wide (suc k) buffer = stored_length wide _ _ (words_stored wide row from mark k buffer) ∙ words_length wide k buffer

  -- one turn of the loops
  pub narrow_more : (k : ℕ) (before now : List ℕ) → now ≡ words_stored false row from mark k before
      → sets now (mark + k * 2) (short_bytes (longword_in row ((from + k) * 8))) ≡ words_stored false row from mark (k + 1) before
  narrow_more k before now e =
      rw (add-one k, stored_more false k before, ← e, narrow_mark k mark) (sym (stored_narrow _ (mark + k * 2) now))

  pub wide_more : mark % 4 ≡ 0 → (k : ℕ) (before now : List ℕ) → now ≡ words_stored true row from mark k before
      → sets now (mark + k * 4) (long_bytes (longword_in row ((from + k) * 8))) ≡ words_stored true row from mark (k + 1) before
  wide_more h k before now e =
      rw (add-one k, stored_more true k before, ← e, wide_mark mark h k) (sym (stored_bare _ (mark + k * 4) now (omega arith)))

-- words of 24 bits, one by one: the first k answers are words, and they lie in the buffer
pub record WideRead (mask : ℕ) (row : List ℕ) (from mark : ℕ) (before : List ℕ) (k : ℕ) (now : List ℕ) : Type 0 where
  pub words : WordsAt mask row from k
  pub bytes : now ≡ words_stored true row from mark k before

pub wide_none : (mask : ℕ) (row : List ℕ) (from mark : ℕ) (before : List ℕ) → WideRead mask row from mark before 0 before
wide_none mask row from mark before = record { words = words_none mask row from; bytes = stored_none row from mark true before }

module _ {mask : ℕ} {row : List ℕ} {from mark : ℕ} {before : List ℕ} {k : ℕ} {now after : List ℕ} {isWord : Bool}
    (r : WideRead mask row from mark before k now) (t : WideTaken mask row (from + k) (mark + k * 4) now isWord after) where
  pub wide_taken : mark % 4 ≡ 0 → isWord ≡ true → WideRead mask row from mark before (k + 1) after
  wide_taken h e = record {
    words = words_more mask row from k r.words (sym t.0 ∙ e);
    bytes = t.1 ∙ rw e (wide_more row from mark h k before now r.bytes);
  }

  pub wide_left : isWord ≡ false → WideRead mask row from mark before k after
  wide_left e = record { words = r.words; bytes = t.1 ∙ rw e r.bytes }

first_stored : (row : List ℕ) (from mark : ℕ) (buffer : List ℕ)
    → words_stored true row from mark 1 buffer ≡ stored true (longword_in row ((from + 0) * 8)) mark buffer
unfolding words_stored mark_after_words
first_stored row from mark buffer = refl

-- words over the zeros of a pad
pub padded_words : (row : List ℕ) (from mark k : ℕ) (buffer : List ℕ) → mark % 2 ≡ 0 → 1 ≤ k
    → words_stored true row from (aligned_mark true mark) k (sets buffer mark (long_bytes 0)) ≡ words_stored true row from mark k buffer
padded_words row from mark zero buffer even h = absurd (omega arith)
padded_words row from mark (suc zero) buffer even h =
    first_stored row from (aligned_mark true mark) _
    ∙ stored_bare _ (aligned_mark true mark) _ (aligned_multiple mark even)
    ∙ stored_over _ mark buffer
    ∙ sym (first_stored row from mark buffer)
padded_words row from mark (suc (suc k)) buffer even h =
    let same : mark_after_words true (suc k) (aligned_mark true mark) ≡ mark_after_words true (suc k) mark =
    wide_mark (aligned_mark true mark) (aligned_multiple mark even) (suc k) ∙ sym (aligned_words (suc k) mark even (omega arith)) in
    stored_more row from (aligned_mark true mark) true (suc k) _
    ∙ rw (same, padded_words row from mark (suc k) buffer even (omega arith)) (sym (stored_more row from mark true (suc k) buffer))
