-- Flags gather: each status bit says that one of some flags is raised, so that the status bits of an OR are the OR of the status bits.
use Prim.Native.Nat.{ℕ, zero, suc, ◌+◌, ◌*◌, ◌/◌, ◌%◌, ◌^◌, ◌<◌}
use mathlib.Core.Path.{◌≡◌, refl, sym, ap, ap₂, ◌∙◌}
use mathlib.Core.List.{List}
use native.Mathlib.Omega.{arith}
use native.Mathlib.Nat.{add-zero, add-mul-mod_self_right}
use borrow.Author.Tests.{ne_eqb, eqb-true}
use lib.Bits.{bit_and, bit_or, bit_xor, or_shr, or_mod, or_block, xor_shr, xor_mod}
use lib.Dec.{eqb}
use lib.ListN.{get_or}
use lib.Pow.{pow_pos}
use Rattle.base.specs.Bytes.{quad_at, Bytes}
use Rattle.std.specs.Prelude.{if◌then◌else◌}
use Rattle.row.specs.model.Words.{flags_at, flag_bits, bits_over, gathered_bits, raised_bits}
use Rattle.row.proofs.Tried.{all_below, tried}
use Rattle.row.proofs.BitLaws.{and_or, or_swap, or_none}

-- One reply --------------------------------------------------------------------------------------------------------------

-- with Q and X negated, each of the six sets a status bit
abbrev raised : ℕ → ℕ
raised f = bit_xor (f % 64) 3

six_raised : (f : ℕ) → f < 64 → raised_bits (raised f) ≡ flag_bits f
unfolding raised_bits flag_bits all_below
six_raised f h =
    eqb-true (raised_bits (raised f)) (flag_bits f) (tried 64 (λ (k : ℕ). eqb (raised_bits (raised k)) (flag_bits k)) refl f h)

-- only six flags count
six_flags : (a r : ℕ) → flag_bits r ≡ flag_bits (r + a * 64)
unfolding flag_bits
six_flags a r =
    let one : (r + a * 64) % 2 ≡ r % 2 = low (a * 32) r (a * 64) (omega arith) in
    let two : (r + a * 64) / 2 % 2 ≡ r / 2 % 2 = rw_low (r + a * 64) 2 (a * 16) (r / 2) (omega arith) in
    let four : (r + a * 64) / 4 % 2 ≡ r / 4 % 2 = rw_low (r + a * 64) 4 (a * 8) (r / 4) (omega arith) in
    let eight : (r + a * 64) / 8 % 2 ≡ r / 8 % 2 = rw_low (r + a * 64) 8 (a * 4) (r / 8) (omega arith) in
    let sixteen : (r + a * 64) / 16 % 2 ≡ r / 16 % 2 = rw_low (r + a * 64) 16 (a * 2) (r / 16) (omega arith) in
    let last : (r + a * 64) / 32 % 2 ≡ r / 32 % 2 = rw_low (r + a * 64) 32 a (r / 32) (omega arith) in
    rw (one, two, four, eight, sixteen, last)
  where
    low : (x r y : ℕ) → y ≡ x * 2 → (r + y) % 2 ≡ r % 2
    low x r y e = rw e (add-mul-mod_self_right r x 2)

    rw_low : (f d x r : ℕ) → f / d ≡ r + x * 2 → f / d % 2 ≡ r % 2
    rw_low f d x r e = rw e (add-mul-mod_self_right r x 2)

flags_raised : (f : ℕ) → raised_bits (raised f) ≡ flag_bits f
flags_raised f =
    let same : f % 64 % 64 ≡ f % 64 = omega arith in
    let whole : f % 64 + f / 64 * 64 ≡ f = omega arith in
    ap (λ (x : ℕ). raised_bits (bit_xor x 3)) (sym same) ∙ six_raised (f % 64) (omega arith) ∙ six_flags (f / 64) (f % 64) ∙ ap flag_bits whole

-- Several ----------------------------------------------------------------------------------------------------------------

-- some flags, moved to their status bits
abbrev moved : ℕ → ℕ → ℕ → ℕ
moved m k g = bit_and g m * 2 ^ k

moved_or : (m k a b : ℕ) → moved m k (bit_or a b) ≡ bit_or (moved m k a) (moved m k b)
moved_or m k a b =
    ap (λ (x : ℕ). x * 2 ^ k) (and_or a b m)
    ∙ sym (ap₂ bit_or (sym (add-zero (bit_and a m * 2 ^ k))) (sym (add-zero (bit_and b m * 2 ^ k)))
    ∙ or_block k (bit_and a m) (bit_and b m) 0 0 (pow_pos k) (pow_pos k) ∙ add-zero _)

abbrev error_bit : ℕ → ℕ
error_bit x = if eqb x 0 then 0 else 262144

error_or : (x y : ℕ) → error_bit (bit_or x y) ≡ bit_or (error_bit x) (error_bit y)
error_or zero y = refl
error_or (suc x) zero =
    rw (ne_eqb (bit_or (suc x) 0) 0 (λ e. omega (arith, (or_none (suc x) 0 e).0)), ne_eqb (suc x) 0 (λ e. omega arith))
error_or (suc x) (suc y) =
    rw (
      ne_eqb (bit_or (suc x) (suc y)) 0 (λ e. omega (arith, (or_none (suc x) (suc y) e).0)),
      ne_eqb (suc x) 0 (λ e. omega arith),
      ne_eqb (suc y) 0 (λ e. omega arith),
    )

-- two functions that gather, gather together
both_or : (f g : ℕ → ℕ) (a b : ℕ) → f (bit_or a b) ≡ bit_or (f a) (f b) → g (bit_or a b) ≡ bit_or (g a) (g b)
    → bit_or (f (bit_or a b)) (g (bit_or a b)) ≡ bit_or (bit_or (f a) (g a)) (bit_or (f b) (g b))
both_or f g a b p q = ap₂ bit_or p q ∙ or_swap (f a) (f b) (g a) (g b)

abbrev error : ℕ → ℕ
error g = error_bit (bit_and g 52)

abbrev upper : ℕ → ℕ
upper g = bit_or (moved 8 23 g) (error g)

abbrev middle : ℕ → ℕ
middle g = bit_or (moved 4 21 g) (upper g)

bits_or : (a b : ℕ) → raised_bits (bit_or a b) ≡ bit_or (raised_bits a) (raised_bits b)
unfolding raised_bits
bits_or a b =
    both_or (moved 51 16) middle a b (moved_or 51 16 a b)
    (both_or (moved 4 21) upper a b (moved_or 4 21 a b)
    (both_or (moved 8 23) error a b (moved_or 8 23 a b) (ap error_bit (and_or a b 52) ∙ error_or (bit_and a 52) (bit_and b 52))))

-- the six flags among the bits of replies
abbrev six_of : ℕ → ℕ
six_of bits = bits / 256 % 64

module _ (row : List ℕ) (bytes : Bytes row) where
  flags_in : (k : ℕ) → six_of (quad_at row (k * 8)) ≡ flags_at row k % 64
  flags_in k =
      let at : ℕ = k * 8 in
      let rest : ℕ = get_or row (at + 2) 0 * 4 + get_or row (at + 3) 0 * 1024 + get_or row (at + 4) 0 * 262144 + get_or row (at + 5) 0 * 67108864
      + get_or row (at + 6) 0 * 17179869184 + get_or row (at + 7) 0 * 4398046511104 in
      let high : quad_at row at / 256 ≡ get_or row (at + 1) 0 + rest * 64 = omega (arith, bytes at) in
      rw high (add-mul-mod_self_right (get_or row (at + 1) 0) rest 64)

  raised_in : (k : ℕ) → six_of (bit_xor (quad_at row (k * 8)) 768) ≡ raised (flags_at row k)
  raised_in k =
      let q : ℕ = quad_at row (k * 8) in
      ap (λ (y : ℕ). y % 64) (xor_shr q 768 8) ∙ xor_mod (q / 256) 3 6 ∙ ap (λ (y : ℕ). bit_xor y 3) (flags_in k)

  six_or : (a b : ℕ) → six_of (bit_or a b) ≡ bit_or (six_of a) (six_of b)
  six_or a b = ap (λ (y : ℕ). y % 64) (or_shr a b 8) ∙ or_mod (a / 256) (b / 256) 6

  pub gathered_raised : (from k : ℕ) → raised_bits (six_of (bits_over 768 row from k)) ≡ gathered_bits row from k
  unfolding raised_bits bits_over gathered_bits
  gathered_raised from zero = refl
  gathered_raised from (suc k) =
      let bits : ℕ = bits_over 768 row from k in
      let next : ℕ = bit_xor (quad_at row ((from + k) * 8)) 768 in
      ap raised_bits (six_or bits next)
      ∙ bits_or (six_of bits) (six_of next)
      ∙ ap₂ bit_or (gathered_raised from k) (ap raised_bits (raised_in (from + k)) ∙ flags_raised (flags_at row (from + k)))
