-- The sums by which code converts a longword. To binary: the digits in pairs, each pair less six times its higher digit. To decimal: a digit is a
-- quotient less ten times the next one, so that the packed digits are the value and six times the sum of its quotients, each at its place.
use Prim.Native.Nat.{ℕ, ◌+◌, ◌-◌, ◌*◌, ◌/◌, ◌%◌, ◌^◌, ◌≤◌, ◌<◌}
use mathlib.Core.Path.{◌≡◌, sym, ap, ap₂, ◌∙◌}
use mathlib.Core.List.{List, [], ◌∷◌}
use native.Mathlib.Omega.{arith}
use native.Mathlib.Nat.{div-div-eq-div-mul}
use Rattle.base.specs.Checks.{bits}
use Rattle.scalers.specs.Scalers.{digits, number, packed_in, kept_of}
use Rattle.scalers.proofs.DigitLaws.{digits_number}
use Rattle.scalers.proofs.LongwordLaws.{packed_number}

-- The six digits ---------------------------------------------------------------------------------------------------------

packed_digits : (w : ℕ) → packed_in w ≡ w % 16 ∷ w / 16 % 16 ∷ w / 256 % 16 ∷ w / 4096 % 16 ∷ w / 65536 % 16 ∷ w / 1048576 % 16 ∷ []
packed_digits w = simp div-div-eq-div-mul

-- To binary --------------------------------------------------------------------------------------------------------------

abbrev tens_in : ℕ → ℕ
tens_in w = w / 16 % 16 + w / 4096 % 16 * 256 + w / 1048576 % 16 * 65536

abbrev pairs_in : ℕ → ℕ
pairs_in w = w - tens_in w * 6

abbrev binary_sum : ℕ → ℕ
binary_sum w = w / 1073741824 * 1073741824 + pairs_in w % 256 + pairs_in w / 256 % 256 * 100 + pairs_in w / 65536 % 256 * 10000

-- a longword of six digits and what lies above them
module _ (w a b c d e f h : ℕ) (parts : w ≡ number 16 (a ∷ b ∷ c ∷ d ∷ e ∷ f ∷ []) + h * 2 ^ 24) where
  tens_within : (b + d * 256 + f * 65536) * 6 ≤ w
  tens_within = omega arith

  three_pairs : w - (b + d * 256 + f * 65536) * 6 ≡ number 256 ((a + 10 * b) ∷ (c + 10 * d) ∷ (e + 10 * f) ∷ []) + h * 256 ^ 3
  three_pairs = omega arith

-- the longword so taken apart
parts : (w : ℕ) → w ≡ number 16 (w % 16 ∷ w / 16 % 16 ∷ w / 256 % 16 ∷ w / 4096 % 16 ∷ w / 65536 % 16 ∷ w / 1048576 % 16 ∷ []) + w / 2 ^ 24 * 2 ^ 24
parts w =
    let value = ap (number 16) (sym (packed_digits w)) ∙ packed_number w in
    let split : w ≡ bits 23 0 w + w / 2 ^ 24 * 2 ^ 24 = omega arith in
    split ∙ ap (λ (v : ℕ). v + w / 2 ^ 24 * 2 ^ 24) (sym value)

pub tens_fit : (w : ℕ) → tens_in w * 6 ≤ w
tens_fit w = tens_within w (w % 16) (w / 16 % 16) (w / 256 % 16) (w / 4096 % 16) (w / 65536 % 16) (w / 1048576 % 16) (w / 2 ^ 24) (parts w)

pair_digits : (w : ℕ) → digits 256 3 (pairs_in w)
    ≡ (w % 16 + 10 * (w / 16 % 16)) ∷ (w / 256 % 16 + 10 * (w / 4096 % 16)) ∷ (w / 65536 % 16 + 10 * (w / 1048576 % 16)) ∷ []
pair_digits w =
    digits_number 256 (omega arith) _ (omega arith, (omega arith, (omega arith, tt))) (pairs_in w) (w / 2 ^ 24)
    (three_pairs w (w % 16) (w / 16 % 16) (w / 256 % 16) (w / 4096 % 16) (w / 65536 % 16) (w / 1048576 % 16) (w / 2 ^ 24) (parts w))

-- a pair is a digit in base 100
in_pairs : (k a b c d e f : ℕ)
    → k + number 100 ((a + 10 * b) ∷ (c + 10 * d) ∷ (e + 10 * f) ∷ []) ≡ k + number 10 (a ∷ b ∷ c ∷ d ∷ e ∷ f ∷ [])
in_pairs k a b c d e f = omega arith

pub binary_sum_lem : (w : ℕ) → w < 2 ^ 32 → binary_sum w ≡ kept_of w + number 10 (packed_in w)
binary_sum_lem w h =
    let x = pairs_in w in
    let top : w / 1073741824 * 1073741824 ≡ kept_of w = omega arith in
    let pairs : x % 256 ∷ x / 256 % 256 ∷ x / 65536 % 256 ∷ [] ≡ digits 256 3 x = simp div-div-eq-div-mul in
    sum (w / 1073741824 * 1073741824) (x % 256) (x / 256 % 256) (x / 65536 % 256)
    ∙ ap₂ (λ (k : ℕ) (ps : List ℕ). k + number 100 ps) top (pairs ∙ pair_digits w)
    ∙ in_pairs (kept_of w) (w % 16) (w / 16 % 16) (w / 256 % 16) (w / 4096 % 16) (w / 65536 % 16) (w / 1048576 % 16)
    ∙ ap (λ (ds : List ℕ). kept_of w + number 10 ds) (sym (packed_digits w))
  where
    sum : (k a b c : ℕ) → k + a + b * 100 + c * 10000 ≡ k + number 100 (a ∷ b ∷ c ∷ [])
    sum k a b c = omega arith

-- To decimal -------------------------------------------------------------------------------------------------------------

abbrev pub decimal_sum : ℕ → ℕ
decimal_sum v = ((((v / 100000 * 16 + v / 10000) * 16 + v / 1000) * 16 + v / 100) * 16 + v / 10) * 6

-- quotients q, remainders r
quotients : (v r q r₁ q₁ r₂ q₂ r₃ q₃ r₄ q₄ : ℕ) → v ≡ r + 10 * q → q ≡ r₁ + 10 * q₁ → q₁ ≡ r₂ + 10 * q₂ → q₂ ≡ r₃ + 10 * q₃ → q₃ ≡ r₄ + 10 * q₄
    → v + ((((q₄ * 16 + q₃) * 16 + q₂) * 16 + q₁) * 16 + q) * 6 ≡ number 16 (r ∷ r₁ ∷ r₂ ∷ r₃ ∷ r₄ ∷ q₄ ∷ [])
quotients v r q r₁ q₁ r₂ q₂ r₃ q₃ r₄ q₄ e e₁ e₂ e₃ e₄ = omega arith

divided : (n m : ℕ) → n / m ≡ n / m % 10 + 10 * (n / (m * 10))
divided n m = rw (← div-div-eq-div-mul n m 10) (omega arith)

pub decimal_sum_lem : (v : ℕ) → v < 1000000 → v + decimal_sum v ≡ number 16 (digits 10 6 v)
decimal_sum_lem v h =
    quotients v (v % 10) (v / 10) (v / 10 % 10) (v / 100) (v / 100 % 10) (v / 1000) (v / 1000 % 10) (v / 10000) (v / 10000 % 10) (v / 100000)
    (omega arith) (divided v 10) (divided v 100) (divided v 1000) (divided v 10000)
    ∙ sym (ap (number 16) (decimal_digits v h))
  where
    decimal_digits : (v : ℕ) → v < 1000000
        → digits 10 6 v ≡ v % 10 ∷ v / 10 % 10 ∷ v / 100 % 10 ∷ v / 1000 % 10 ∷ v / 10000 % 10 ∷ v / 100000 ∷ []
    decimal_digits v h =
        let top : v / 100000 % 10 ≡ v / 100000 = omega arith in
        simp (div-div-eq-div-mul, top)

pub decimal_below : (v : ℕ) → v < 1000000 → decimal_sum v < 2 ^ 24
decimal_below v h =
    at (v / 100000) (v / 10000) (v / 1000) (v / 100) (v / 10) (omega arith) (omega arith) (omega arith) (omega arith) (omega arith)
  where
    at : (f e d c b : ℕ) → f < 10 → e < 100 → d < 1000 → c < 10000 → b < 100000 → ((((f * 16 + e) * 16 + d) * 16 + c) * 16 + b) * 6 < 2 ^ 24
    at f e d c b hf he hd hc hb = omega arith
