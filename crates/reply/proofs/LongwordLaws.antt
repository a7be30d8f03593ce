-- The longword that a read's word is stored as, bit by bit. Data, X and Q lie in bits of their own, so that each is what a division and a
-- remainder take out of it, and its low half is the data's.
use Prim.Native.Nat.{ℕ, ◌+◌, ◌/◌, ◌%◌, ◌^◌, ◌<◌}
use mathlib.Core.Path.{◌≡◌}
use mathlib.Core.Bool.{Bool, true, false}
use native.Mathlib.Omega.{arith}
use Rattle.base.specs.Bytes.{short_bytes}
use Rattle.std.specs.Prelude.{if◌then◌else◌}
use Rattle.qmodes.specs.declared.modes.Answer.{Answer}
use Rattle.reply.specs.Effect.{longword_of}
use Rattle.reply.specs.declared.replies.Reply.TheVariants.{Answered}

abbrev with_flags : ℕ → Bool → Bool → ℕ
with_flags w x q = w % 2 ^ 24 + (if x then 2 ^ 30 else 0) + (if q then 2 ^ 31 else 0)

-- a longword with this data, X and Q
pub record Bits (w : ℕ) (x q : Bool) (v : ℕ) : Type 0 where
  pub below : v < 2 ^ 32
  pub bits_23_to_0 : v % 2 ^ 24 ≡ w % 2 ^ 24
  pub bits_29_to_24 : v / 2 ^ 24 % 2 ^ 6 ≡ 0
  pub bit_30 : v / 2 ^ 30 % 2 ≡ (if x then 1 else 0)
  pub bit_31 : v / 2 ^ 31 % 2 ≡ (if q then 1 else 0)

bits : (w : ℕ) (x q : Bool) → Bits w x q (with_flags w x q)
bits w true true =
    record { below = omega arith; bits_23_to_0 = omega arith; bits_29_to_24 = omega arith; bit_30 = omega arith; bit_31 = omega arith }
bits w true false =
    record { below = omega arith; bits_23_to_0 = omega arith; bits_29_to_24 = omega arith; bit_30 = omega arith; bit_31 = omega arith }
bits w false true =
    record { below = omega arith; bits_23_to_0 = omega arith; bits_29_to_24 = omega arith; bit_30 = omega arith; bit_31 = omega arith }
bits w false false =
    record { below = omega arith; bits_23_to_0 = omega arith; bits_29_to_24 = omega arith; bit_30 = omega arith; bit_31 = omega arith }

-- which bit is which
pub longword_bits : (a : Answer) → Bits a.word a.x a.q (longword_of (Answered a))
longword_bits a = bits a.word a.x a.q

second_byte : (v : ℕ) → v / 256 % 256 ≡ v % 65536 / 256
second_byte v = omega arith

low_bytes : (w v : ℕ) → v % 65536 ≡ w % 65536 → short_bytes v ≡ short_bytes w
low_bytes w v e =
    let first : v % 256 ≡ w % 256 = omega (arith, e) in
    rw (first, second_byte v, second_byte w, e)

-- the two bytes of a 16-bit word are the data's, whatever Q and X
pub narrow_same : (a : Answer) → short_bytes (longword_of (Answered a)) ≡ short_bytes a.word
narrow_same a = low_bytes a.word _ (omega (arith, (longword_bits a).bits_23_to_0))
