-- The tests of a longword as code has them. Up to 999999h bits 29 to 24 are clear and the highest digit is at most 9, so that the carries of the others
-- say the rest; and a value is tested together with bits 29 to 24, each of which is worth more than 999,999.
use Prim.Native.Nat.{ℕ, ◌+◌, ◌*◌, ◌/◌, ◌%◌, ◌^◌, ◌≤◌, ◌<◌}
use mathlib.Core.Path.{◌≡◌, sym, ap, ◌∙◌, subst}
use mathlib.Core.Bool.{true, false, ◌||◌, not}
use mathlib.Core.List.{[], ◌∷◌}
use native.Mathlib.Omega.{arith}
use native.Mathlib.Nat.{div-div-eq-div-mul}
use borrow.Author.Tests.{eqb-true, eqb-false, eq-eqb, lt-ltb, le-ltb, ltb-true, ltb-false}
use lib.Bits.{bit_and, bit_xor}
use lib.Dec.{ltb, eqb}
use Rattle.base.specs.Checks.{bits}
use Rattle.base.proofs.Tests.{on}
use Rattle.scalers.specs.declared.longwords.Way.TheVariants.{ToBinary, ToDecimal}
use Rattle.scalers.specs.Scalers.{digits, number, any_above9, packed_in, kept_of, is_bad, converted_to}
use Rattle.scalers.proofs.DigitLaws.{Below, decimal, digits_above}
use Rattle.scalers.proofs.Carries.{carries}
use Rattle.scalers.proofs.LongwordLaws.{packed_number, passes_value}
use Rattle.scalers.proofs.Sums.{decimal_sum, decimal_sum_lem, decimal_below}

-- six decimal digits in base 16
decimal_most : (a b c d e f : ℕ) → Below 10 (a ∷ b ∷ c ∷ d ∷ e ∷ f ∷ []) → number 16 (a ∷ b ∷ c ∷ d ∷ e ∷ f ∷ []) ≤ 10066329
decimal_most a b c d e f h = omega arith

-- above 999999 in base 16
too_high : (w : ℕ) → 10066329 < w % 1073741824 → is_bad ToBinary w ≡ true
unfolding is_bad
too_high w h =
    on (eqb (bits 29 24 w) 0)
    (λ e. on (any_above9 (packed_in w)) (λ f. rw (e, f))
    (λ f. let clear : bits 29 24 w ≡ 0 = eqb-true _ _ e in
    let most : bits 23 0 w ≤ 10066329 = subst (λ (v : ℕ). v ≤ 10066329) (packed_number w) (decimal_most _ _ _ _ _ _ (decimal (packed_in w) f)) in
    absurd (omega arith)))
    (λ e. rw e)

-- not above it, the highest digit is at most 9, and the sixes say the rest
not_high : (w : ℕ) → w % 1073741824 ≤ 10066329
    → not (eqb (bit_and (bit_xor (w % 1073741824 + 6710886) (w % 1073741824)) 1118480) 0) ≡ is_bad ToBinary w
unfolding is_bad
not_high w h =
    let clear : bits 29 24 w ≡ 0 = omega arith in
    let top : w / 16 / 16 / 16 / 16 / 16 % 16 ≤ 9 = rw (div-div-eq-div-mul w 16 16, div-div-eq-div-mul w 256 16, div-div-eq-div-mul w 4096 16, div-div-eq-div-mul w 65536 16) (omega arith) in
    let low : digits 16 5 w ≡ digits 16 5 (w % 1073741824) =
    ap (digits 16 5) (split w) ∙ digits_above 16 (omega arith) 5 (w % 1073741824) (w / 1073741824 * 1024) in
    carries 5 (w % 1073741824) ∙ ap any_above9 (sym low) ∙ rw (eq-eqb (bits 29 24 w) 0 clear, le-ltb 9 (w / 16 / 16 / 16 / 16 / 16 % 16) top)
  where
    split : (w : ℕ) → w ≡ w % 1073741824 + w / 1073741824 * 1024 * 16 ^ 5
    split w = omega arith

pub bad_decimal : (w : ℕ)
    → ltb 10066329 (w % 1073741824) || not (eqb (bit_and (bit_xor (w % 1073741824 + 6710886) (w % 1073741824)) 1118480) 0) ≡ is_bad ToBinary w
bad_decimal w =
    on (ltb 10066329 (w % 1073741824))
    (λ e. rw e (sym (too_high w (ltb-true _ _ e))))
    (λ e. rw e (not_high w (ltb-false _ _ e)))

pub bad_value : (w : ℕ) → ltb 999999 (w % 1073741824) ≡ is_bad ToDecimal w
unfolding is_bad
bad_value w =
    on (eqb (bits 29 24 w) 0)
    (λ e. let clear : bits 29 24 w ≡ 0 = eqb-true _ _ e in
    let same : w % 1073741824 ≡ bits 23 0 w = omega arith in
    rw (e, same))
    (λ e. let set : ¬ (bits 29 24 w ≡ 0) = eqb-false _ _ e in
    rw e (lt-ltb 999999 (w % 1073741824) (omega arith)))

-- a value that passes, converted
module _ (w : ℕ) (h : w < 2 ^ 32) (e : is_bad ToDecimal w ≡ false) where
  value : w % 1073741824 ≡ bits 23 0 w
  value = omega (arith, passes_value w e)

  pub value_below : w % 1073741824 < 1000000
  value_below = omega (arith, value, passes_value w e)

  pub decimal_fits : w + decimal_sum (w % 1073741824) < 2 ^ 32
  decimal_fits = under w (decimal_sum (w % 1073741824)) h value_below (decimal_below (w % 1073741824) value_below)
    where
      under : (w s : ℕ) → w < 2 ^ 32 → w % 1073741824 < 1000000 → s < 2 ^ 24 → w + s < 2 ^ 32
      under w s a b c = omega arith

  pub decimal_converted : w + decimal_sum (w % 1073741824) ≡ converted_to ToDecimal w
  unfolding converted_to
  decimal_converted =
      apart w (kept_of w) (w % 1073741824) (decimal_sum (w % 1073741824)) (omega arith) ∙ ap (λ (n : ℕ). kept_of w + n) (decimal_sum_lem (w % 1073741824) value_below)
      ∙ ap (λ (v : ℕ). kept_of w + number 16 (digits 10 6 v)) value
    where
      apart : (w k v s : ℕ) → w ≡ k + v → w + s ≡ k + (v + s)
      apart w k v s e = omega arith
