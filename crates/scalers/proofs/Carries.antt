-- Six added to each digit in base 16: a digit above 9, and no other, carries into the next, whose lowest bit it changes, for six is even. So the bits
-- that change at the places of these lowest bits say whether a digit is above 9.
use Prim.Native.Nat.{ℕ, zero, suc, ◌+◌, ◌*◌, ◌/◌, ◌%◌, ◌^◌, ◌≤◌, ◌<◌}
use mathlib.Core.Path.{◌≡◌, refl, sym, ap, ap₂, ◌∙◌}
use mathlib.Core.Bool.{not}
use native.Mathlib.Omega.{arith}
use borrow.Author.Tests.{ltb-true, ltb-false, ne_eqb}
use lib.Bits.{bit_and, bit_xor, and_zero_r, and_step, and_block, xor_self, xor_shr, xor_mod}
use lib.Dec.{ltb, eqb}
use Rattle.base.proofs.Tests.{on}
use Rattle.scalers.specs.Scalers.{digits, any_above9}

-- a six in each of k digits
abbrev sixes : ℕ → ℕ
sixes zero = 0
sixes (suc k) = 6 + 16 * sixes k

-- the lowest bit of each of the k digits behind the lowest
abbrev lowest : ℕ → ℕ
lowest zero = 0
lowest (suc k) = 16 * (1 + lowest k)

lowest_even : (k : ℕ) → lowest k % 2 ≡ 0
lowest_even zero = refl
lowest_even (suc k) = omega arith

-- of these bits, those that the sixes change
abbrev changed : ℕ → ℕ → ℕ
changed k z = bit_and (bit_xor (z + sixes (suc k)) z) (lowest k)

-- Bits -------------------------------------------------------------------------------------------------------------------

and_shifted : (x m : ℕ) → bit_and x (16 * m) ≡ 16 * bit_and (x / 16) m
and_shifted x m =
    let parts : x ≡ x / 16 * 2 ^ 4 + x % 16 = omega arith in
    let shifted : 16 * m ≡ m * 2 ^ 4 + 0 = omega arith in
    ap₂ bit_and parts shifted ∙ and_block 4 (x / 16) m (x % 16) 0 (omega arith) (omega arith) ∙ omega (arith, and_zero_r (x % 16))

and_one : (y m : ℕ) → m % 2 ≡ 0 → bit_and y (1 + m) ≡ bit_and y m + y % 2
and_one y m e =
    let odd : (1 + m) % 2 ≡ 1 = omega arith in
    let half : (1 + m) / 2 ≡ m / 2 = omega arith in
    and_step y (1 + m)
    ∙ rw (odd, half) (omega (arith, and_step y m))

xor_same : (a b : ℕ) → a % 2 ≡ b % 2 → bit_xor a b % 2 ≡ 0
xor_same a b e = xor_mod a b 1 ∙ ap (λ (x : ℕ). bit_xor x (b % 2)) e ∙ xor_self (b % 2)

xor_other : (a b : ℕ) → (a % 2 ≡ b % 2 → ⊥) → bit_xor a b % 2 ≡ 1
xor_other a b n = xor_mod a b 1 ∙ go (a % 2) (b % 2) (omega arith) (omega arith) n
  where
    go : (x y : ℕ) → x < 2 → y < 2 → (x ≡ y → ⊥) → bit_xor x y ≡ 1
    go zero zero hx hy n = absurd (n refl)
    go zero (suc zero) hx hy n = refl
    go (suc zero) zero hx hy n = refl
    go (suc zero) (suc zero) hx hy n = absurd (n refl)
    go zero (suc (suc y)) hx hy n = absurd (omega arith)
    go (suc zero) (suc (suc y)) hx hy n = absurd (omega arith)
    go (suc (suc x)) y hx hy n = absurd (omega arith)

-- One digit --------------------------------------------------------------------------------------------------------------

module _ (k z : ℕ) where
  -- the digits behind the lowest, with their sixes and what it carries
  abbrev above : ℕ
  above = (z + sixes (suc (suc k))) / 16

  changed_more : changed (suc k) z ≡ 16 * (bit_and (bit_xor above (z / 16)) (lowest k) + bit_xor above (z / 16) % 2)
  changed_more =
      and_shifted (bit_xor (z + sixes (suc (suc k))) z) (1 + lowest k)
      ∙ ap (λ (y : ℕ). 16 * bit_and y (1 + lowest k)) (xor_shr (z + sixes (suc (suc k))) z 4)
      ∙ ap (λ (x : ℕ). 16 * x) (and_one (bit_xor above (z / 16)) (lowest k) (lowest_even k))

  -- no carry
  kept : z % 16 ≤ 9 → changed (suc k) z ≡ 16 * changed k (z / 16)
  kept h =
      let same : above ≡ z / 16 + sixes (suc k) = omega arith in
      let bit : bit_xor above (z / 16) % 2 ≡ 0 = xor_same above (z / 16) (omega arith) in
      changed_more ∙ ap₂ (λ (a : ℕ) (b : ℕ). 16 * (bit_and (bit_xor a (z / 16)) (lowest k) + b)) same bit ∙ omega arith

  -- a carry
  carried : 9 < z % 16 → changed (suc k) z ≡ 0 → ⊥
  carried h e =
      let bit : bit_xor above (z / 16) % 2 ≡ 1 = xor_other above (z / 16) (λ same. omega arith) in
      omega (arith, changed_more)

pub carries : (k z : ℕ) → not (eqb (changed k z) 0) ≡ any_above9 (digits 16 k z)
carries zero z = ap (λ (x : ℕ). not (eqb x 0)) (and_zero_r (bit_xor (z + sixes 1) z))
carries (suc k) z =
    on (ltb 9 (z % 16))
    (λ e. rw (e, ne_eqb (changed (suc k) z) 0 (carried k z (ltb-true 9 (z % 16) e))))
    (λ e. rw e (ap (λ (x : ℕ). not (eqb x 0)) (kept k z (ltb-false 9 (z % 16) e)) ∙ times (changed k (z / 16)) ∙ carries k (z / 16)))
  where
    times : (x : ℕ) → not (eqb (16 * x) 0) ≡ not (eqb x 0)
    times zero = refl
    times (suc x) = ap not (ne_eqb (16 * suc x) 0 (λ e. omega arith) ∙ sym (ne_eqb (suc x) 0 (λ e. omega arith)))
