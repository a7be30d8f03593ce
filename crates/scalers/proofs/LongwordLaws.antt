-- A longword that passes is converted into one that passes on the way back and comes back as it was: the digits are the same on both ways, and the
-- number that they are fits under the two top bits.
use Prim.Native.Nat.{ℕ, ◌+◌, ◌*◌, ◌/◌, ◌^◌, ◌≤◌, ◌<◌}
use mathlib.Core.Path.{◌≡◌, ap, ap₂, ◌∙◌}
use mathlib.Core.Bool.{false}
use mathlib.Core.List.{List}
use native.Mathlib.Omega.{arith}
use borrow.Author.Tests.{eqb-true, le-ltb, ltb-false, not-false}
use lib.Dec.{ltb}
use Rattle.base.specs.Checks.{bits}
use Rattle.base.proofs.Bools.{or_false_left, or_false_right}
use Rattle.scalers.specs.declared.longwords.Way.{Way}
use Rattle.scalers.specs.declared.longwords.Way.TheVariants.{ToBinary, ToDecimal}
use Rattle.scalers.specs.Scalers.{digits, number, any_above9, packed_in, decimals_in, kept_of, is_high_set, is_bad, converted_to}
use Rattle.scalers.specs.BothRoutes.{back}
use Rattle.scalers.proofs.DigitLaws.{Below, digits_below, digits_number, digits_above, number_digits, number_below, decimal, none_above, below_more}

-- Longwords that pass ----------------------------------------------------------------------------------------------------

-- the six lowest digits in base 16 are those of bits 23 to 0
low_digits : (w : ℕ) → packed_in w ≡ digits 16 6 (bits 23 0 w)
low_digits w =
    let parts : w ≡ bits 23 0 w + w / 2 ^ 24 * 2 ^ 24 = omega arith in
    ap (digits 16 6) parts ∙ digits_above 16 (omega arith) 6 (bits 23 0 w) (w / 2 ^ 24)

pub packed_number : (w : ℕ) → number 16 (packed_in w) ≡ bits 23 0 w
packed_number w = ap (number 16) (low_digits w) ∙ number_digits 16 (omega arith) 6 (bits 23 0 w) (omega arith)

clear : (w : ℕ) → is_high_set w ≡ false → bits 29 24 w ≡ 0
clear w e = eqb-true (bits 29 24 w) 0 (not-false _ e)

pub passes_value : (w : ℕ) → is_bad ToDecimal w ≡ false → (bits 29 24 w ≡ 0) × (bits 23 0 w < 1000000)
unfolding is_bad
passes_value w e =
    let value : bits 23 0 w ≤ 999999 = ltb-false 999999 (bits 23 0 w) (or_false_right (is_high_set w) (ltb 999999 (bits 23 0 w)) e) in
    (clear w (or_false_left (is_high_set w) (ltb 999999 (bits 23 0 w)) e), omega arith)

passes_packed : (w : ℕ) → is_bad ToBinary w ≡ false → (bits 29 24 w ≡ 0) × Below 10 (packed_in w)
unfolding is_bad
passes_packed w e =
    (clear w (or_false_left (is_high_set w) (any_above9 (packed_in w)) e), decimal (packed_in w) (or_false_right (is_high_set w) (any_above9 (packed_in w)) e))

-- a number under the two top bits
module _ (t n : ℕ) (ht : t < 4) (hn : n < 2 ^ 24) where
  under_kept : kept_of (t * 2 ^ 30 + n) ≡ t * 2 ^ 30
  under_kept = omega arith

  under_clear : bits 29 24 (t * 2 ^ 30 + n) ≡ 0
  under_clear = omega arith

  under_value : bits 23 0 (t * 2 ^ 30 + n) ≡ n
  under_value = omega arith

  under_below : t * 2 ^ 30 + n < 2 ^ 32
  under_below = omega arith

pub record Returns (way : Way) (w : ℕ) : Type 0 where
  pub below : converted_to way w < 2 ^ 32
  pub passes : is_bad (back way) (converted_to way w) ≡ false
  pub same : converted_to (back way) (converted_to way w) ≡ w

-- the parts of a longword of which bits 29 to 24 are clear
whole : (w : ℕ) → w < 2 ^ 32 → bits 29 24 w ≡ 0 → kept_of w + bits 23 0 w ≡ w
whole w h e = omega arith

-- To binary --------------------------------------------------------------------------------------------------------------

to_binary : (w : ℕ) → w < 2 ^ 32 → is_bad ToBinary w ≡ false → Returns ToBinary w
unfolding is_bad converted_to
to_binary w h e =
    let p = passes_packed w e in
    let ds = packed_in w in
    let t = bits 31 30 w in
    let ht : t < 4 = omega arith in
    let n = number 10 ds in
    let small : n < 1000000 = number_below 10 (omega arith) ds p.1 in
    let hn : n < 2 ^ 24 = omega arith in
    let again : digits 10 6 n ≡ ds = digits_number 10 (omega arith) ds p.1 n 0 (omega arith) in
    let value : number 16 ds ≡ bits 23 0 w = packed_number w in
    record {
      below = under_below t n ht hn;
      passes = rw (under_clear t n ht hn, under_value t n ht hn) (le-ltb 999999 n (omega arith));
      same =
          ap₂ (λ (k : ℕ) (v : ℕ). k + number 16 (digits 10 6 v)) (under_kept t n ht hn) (under_value t n ht hn)
          ∙ ap (λ (l : List ℕ). t * 2 ^ 30 + number 16 l) again
          ∙ ap (λ (v : ℕ). t * 2 ^ 30 + v) value
          ∙ whole w h p.0;
    }

-- To decimal -------------------------------------------------------------------------------------------------------------

to_decimal : (w : ℕ) → w < 2 ^ 32 → is_bad ToDecimal w ≡ false → Returns ToDecimal w
unfolding is_bad converted_to
to_decimal w h e =
    let p = passes_value w e in
    let v = bits 23 0 w in
    let ds = decimals_in w in
    let t = bits 31 30 w in
    let ht : t < 4 = omega arith in
    let n = number 16 ds in
    let tens : Below 10 ds = digits_below 10 (omega arith) 6 v in
    let hn : n < 2 ^ 24 = number_below 16 (omega arith) ds (below_more ds tens) in
    let again : digits 16 6 (t * 2 ^ 30 + n) ≡ ds =
    digits_number 16 (omega arith) ds (below_more ds tens) (t * 2 ^ 30 + n) (t * 64) (omega arith) in
    record {
      below = under_below t n ht hn;
      passes = rw (under_clear t n ht hn) (ap any_above9 again ∙ none_above ds tens);
      same =
          ap₂ (λ (k : ℕ) (l : List ℕ). k + number 10 l) (under_kept t n ht hn) again
          ∙ ap (λ (x : ℕ). t * 2 ^ 30 + x) (number_digits 10 (omega arith) 6 v p.1)
          ∙ whole w h p.0;
    }

pub returned : (way : Way) (w : ℕ) → w < 2 ^ 32 → is_bad way w ≡ false → Returns way w
returned ToBinary w h e = to_binary w h e
returned ToDecimal w h e = to_decimal w h e
