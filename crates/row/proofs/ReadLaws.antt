-- Reading a row by the bits of its replies: a reply that lacks the bits that are zero in answers is a formed answer, a row whose replies are all formed
-- is formed, and one reply that is not makes it not formed.
use Prim.Native.Nat.{ℕ, zero, suc, ◌+◌, ◌*◌, ◌/◌, ◌%◌, ◌≤◌, ◌<◌}
use mathlib.Core.Path.{◌≡◌, sym, ap, ◌∙◌}
use borrow.Author.Count.{below_more}
use mathlib.Core.Bool.{true, false}
use mathlib.Core.List.{List}
use native.Mathlib.Omega.{arith}
use native.Mathlib.Nat.{mod-eq_of_lt}
use borrow.Author.Tests.{eq-eqb, lt-ltb, ltb-true, ltb-false}
use lib.Dec.{ltb}
use lib.Bits.{bit_and, bit_xor, xor_zero_r, and_block, and_mask, and_high}
use lib.ListN.{length, get_or, take, drop, length-take, length-drop}
use Rattle.base.specs.Bytes.{byte_at, quad_at, Bytes}
use Rattle.base.proofs.Tests.{on, true_not_false}
use Rattle.reply.specs.Replies.{has_form, is_formed, replies_in, all_formed}
use Rattle.reply.proofs.ReplyFacts.{piece_byte, piece_first, formed_is}
use Rattle.row.specs.model.Words.{FormedOver, bits_over}
use Rattle.row.proofs.BitLaws.{and_or, or_none}
use Rattle.row.proofs.RowLaws.{formed_cut, formed_end}
use Rattle.row.proofs.WordLaws.{reply_formed, reply_eight}

-- The bits of a reply ----------------------------------------------------------------------------------------------------

-- the lowest byte and the rest, by the lowest byte of a mask and its rest
byte_lacks : (q b m s : ℕ) → b < 256 → s < 256 → bit_and (q * 256 + b) (m * 256 + s) ≡ 0 → (bit_and q m ≡ 0) × (bit_and b s ≡ 0)
byte_lacks q b m s hb hs e = let x = and_block 8 q m b s hb hs in (omega arith, omega arith)

zero_byte : (b : ℕ) → b < 256 → bit_and b 255 ≡ 0 → b ≡ 0
zero_byte b h e = omega (arith, and_mask b 8)

six_flags : (b : ℕ) → b < 256 → bit_and b 192 ≡ 0 → b < 64
six_flags b h e = let same : b / 64 % 4 ≡ b / 64 = mod-eq_of_lt (omega arith) in omega (arith, and_high b 2 6)

record AnswerBytes (a b c d h : ℕ) : Type 0 where
  pub kind : a ≡ 0
  pub flags : b < 64
  pub second : c ≡ 0
  pub third : d ≡ 0
  pub top : h ≡ 0

answer_bytes : (a b c d e f g h : ℕ) → a < 256 → b < 256 → c < 256 → d < 256 → e < 256 → f < 256 → g < 256 → h < 256
    → bit_and (a + b * 256 + c * 65536 + d * 16777216 + e * 4294967296 + f * 1099511627776 + g * 281474976710656 + h * 72057594037927936)
    18374686483966574847
    ≡ 0
    → AnswerBytes a b c d h
answer_bytes a b c d e f g h ha hb hc hd he hf hg hh lacks =
    let q6 : ℕ = h * 256 + g in
    let q5 : ℕ = q6 * 256 + f in
    let q4 : ℕ = q5 * 256 + e in
    let q3 : ℕ = q4 * 256 + d in
    let q2 : ℕ = q3 * 256 + c in
    let q1 : ℕ = q2 * 256 + b in
    let sum : a + b * 256 + c * 65536 + d * 16777216 + e * 4294967296 + f * 1099511627776 + g * 281474976710656 + h * 72057594037927936
    ≡ q1 * 256 + a = omega arith in
    let p0 = byte_lacks q1 a 71776119077994432 255 ha (omega arith) (rw sum at lacks) in
    let p1 = byte_lacks q2 b 280375465148415 192 hb (omega arith) p0.0 in
    let p2 = byte_lacks q3 c 1095216660735 255 hc (omega arith) p1.0 in
    let p3 = byte_lacks q4 d 4278190080 255 hd (omega arith) p2.0 in
    let p4 = byte_lacks q5 e 16711680 0 he (omega arith) p3.0 in
    let p5 = byte_lacks q6 f 65280 0 hf (omega arith) p4.0 in
    let p6 = byte_lacks h g 255 0 hg (omega arith) p5.0 in
    record {
      kind = zero_byte a ha p0.1;
      flags = six_flags b hb p1.1;
      second = zero_byte c hc p2.1;
      third = zero_byte d hd p3.1;
      top = zero_byte h hh p6.0;
    }

module _ (row : List ℕ) (at : ℕ) (fits : at + 8 ≤ length row) (bytes : Bytes row) (lacks : bit_and (quad_at row at) 18374686483966574847 ≡ 0) where
  here : AnswerBytes (get_or row at 0) (get_or row (at + 1) 0) (get_or row (at + 2) 0) (get_or row (at + 3) 0) (get_or row (at + 7) 0)
  here =
      answer_bytes _ _ _ _ _ _ _ _ (bytes at) (bytes (at + 1)) (bytes (at + 2)) (bytes (at + 3)) (bytes (at + 4)) (bytes (at + 5)) (bytes (at + 6))
      (bytes (at + 7)) lacks

  pub answer_kind : get_or row at 0 ≡ 0
  answer_kind = here.kind

  pub answer_formed : is_formed (take 8 (drop at row)) ≡ true
  unfolding has_form
  answer_formed =
      let p : List ℕ = take 8 (drop at row) in
      let eight : length p ≡ 8 = omega (arith, length-take 8 (drop at row), length-drop at row) in
      formed_is p
      ∙ simp (
        eq-eqb (length p) 8 eight,
        lt-ltb (byte_at p 1) 64 (rw (piece_byte row at 1 (omega arith)) here.flags),
        piece_first row at,
        piece_byte row at 2 (omega arith),
        piece_byte row at 3 (omega arith),
        piece_byte row at 7 (omega arith),
        here.kind,
        here.second,
        here.third,
        here.top,
      )

-- bits that the bits gathered over some replies lack, each of them lacks
pub each_lacks : (row : List ℕ) (from k mask : ℕ) → bit_and (bits_over 0 row from k) mask ≡ 0
    → (j : ℕ) → j < from + k → from ≤ j → bit_and (quad_at row (j * 8)) mask ≡ 0
unfolding bits_over
each_lacks row from zero mask e j l f = absurd (omega arith)
each_lacks row from (suc k) mask e j l f =
    let one : ℕ = bit_xor (quad_at row ((from + k) * 8)) 0 in
    let none = or_none _ _ (sym (and_or (bits_over 0 row from k) one mask) ∙ e) in
    below_more (λ (i : ℕ). from ≤ i → bit_and (quad_at row (i * 8)) mask ≡ 0) (from + k) (each_lacks row from k mask none.0)
    (λ h. ap (λ (x : ℕ). bit_and x mask) (sym (xor_zero_r _)) ∙ none.1) j (omega arith) f

-- The form of a row ------------------------------------------------------------------------------------------------------

module _ (row : List ℕ) where
  pub all_formed_lem : (count : ℕ) → length row ≡ count * 8 → FormedOver row 0 count → all_formed (replies_in row) ≡ true
  all_formed_lem count e f = from count 0 (omega arith)
    where
      from : (left k : ℕ) → left + k ≡ count → all_formed (replies_in (drop (k * 8) row)) ≡ true
      from zero k h = sym (formed_end row (k * 8) (omega arith))
      from (suc left) k h =
          let next : k * 8 + 8 ≡ suc k * 8 = omega arith in
          formed_cut row (k * 8) (omega arith) (f k (omega arith) (omega arith))
          ∙ ap (λ (n : ℕ). all_formed (replies_in (drop n row))) next
          ∙ from left (suc k) (omega arith)

  pub one_unformed : (j : ℕ) → j * 8 < length row → is_formed (take 8 (drop (j * 8) row)) ≡ false → all_formed (replies_in row) ≡ false
  one_unformed j h e =
      on (all_formed (replies_in row)) (λ formed. absurd (true_not_false (sym (reply_formed row formed j h) ∙ e))) (λ n. n)

  pub cut_unformed : ¬ (length row % 8 ≡ 0) → all_formed (replies_in row) ≡ false
  cut_unformed h =
      on (all_formed (replies_in row))
      (λ formed. absurd (omega (arith, reply_eight row formed (length row / 8) (omega arith))))
      (λ n. n)

-- before a number, or from it on
pub on_side : {C : Type 0} (k j : ℕ) → (j < k → C) → (k ≤ j → C) → C
on_side k j below above = on (ltb j k) (λ e. below (ltb-true j k e)) (λ e. above (ltb-false j k e))
