-- Digits and numbers, in any base. Digits below the base are those of their number, and a number is that of its digits as far as they reach, because
-- the lowest digit is what a division by the base leaves.
use Prim.Native.Nat.{ℕ, zero, suc, ◌+◌, ◌*◌, ◌/◌, ◌%◌, ◌^◌, ◌≤◌, ◌<◌}
use mathlib.Core.Path.{◌≡◌, refl, sym, ap, ap₂, ◌∙◌, subst}
use mathlib.Core.Bool.{false}
use mathlib.Core.List.{List, [], ◌∷◌}
use native.Mathlib.Omega.{arith}
use native.Mathlib.Nat.{zero-add, mul-add, add_assoc, mul_comm, mul_assoc, mul_left_comm, mul-suc, mul-le-mul, le_refl, pow-zero, pow-suc, div-lt_iff_lt-mul, mod-lt, mod-add-div, mod-eq_of_lt, div-eq_of_lt, add-mul-mod_self_left, add-mul-mod_self_right, add-mul-div_left, add-mul-div_right}
use borrow.Author.Tests.{le-ltb, ltb-false}
use lib.Dec.{ltb}
use lib.ListN.{length}
use Rattle.base.proofs.Bools.{or_false_left, or_false_right}
use Rattle.scalers.specs.Scalers.{digits, number, any_above9}

abbrev pub Below : ℕ → List ℕ → Type 0
Below base [] = Unit {0}
Below base (d ∷ ds) = (d < base) × Below base ds

module _ (base : ℕ) (h : 0 < base) where
  pub digits_below : (k n : ℕ) → Below base (digits base k n)
  digits_below zero n = tt
  digits_below (suc k) n = (mod-lt n h, digits_below k (n / base))

  lower : (d x m p : ℕ) → d + base * x + m * (p * base) ≡ d + base * (x + m * p)
  lower d x m p = simp (mul-add, add_assoc, mul_comm, mul_left_comm)

  -- the digits of a number, with anything above them
  pub digits_number : (ds : List ℕ) → Below base ds → (n m : ℕ) → n ≡ number base ds + m * base ^ length ds → digits base (length ds) n ≡ ds
  digits_number [] b n m e = refl
  digits_number (d ∷ ds) b n m e =
      let more = number base ds + m * base ^ length ds in
      let parts : n ≡ d + base * more =
      e ∙ ap (λ (p : ℕ). d + base * number base ds + m * p) (pow-suc base (length ds)) ∙ lower d (number base ds) m (base ^ length ds) in
      let digit : n % base ≡ d = ap (λ (x : ℕ). x % base) parts ∙ add-mul-mod_self_left d base more ∙ mod-eq_of_lt b.0 in
      let rest : n / base ≡ more =
      ap (λ (x : ℕ). x / base) parts ∙ add-mul-div_left d more h ∙ ap (λ (x : ℕ). x + more) (div-eq_of_lt b.0) ∙ zero-add more in
      ap₂ (λ (x : ℕ) (l : List ℕ). x ∷ l) digit (digits_number ds b.1 (n / base) m rest)

  -- what lies above k digits is none of them
  pub digits_above : (k n m : ℕ) → digits base k (n + m * base ^ k) ≡ digits base k n
  digits_above zero n m = refl
  digits_above (suc k) n m =
      let parts : n + m * base ^ suc k ≡ n + m * base ^ k * base = ap (λ (p : ℕ). n + m * p) (pow-suc base k) ∙ ap (λ (x : ℕ). n + x) (sym (mul_assoc m (base ^ k) base)) in
      ap₂ (λ (d : ℕ) (rest : ℕ). d ∷ digits base k rest) (ap (λ (x : ℕ). x % base) parts ∙ add-mul-mod_self_right n (m * base ^ k) base)
      (ap (λ (x : ℕ). x / base) parts ∙ add-mul-div_right n (m * base ^ k) h)
      ∙ ap (λ (l : List ℕ). n % base ∷ l) (digits_above k (n / base) m)

  pub number_digits : (k n : ℕ) → n < base ^ k → number base (digits base k n) ≡ n
  number_digits zero n b = omega (arith, pow-zero base)
  number_digits (suc k) n b =
      ap (λ (x : ℕ). n % base + base * x) (number_digits k (n / base) ((div-lt_iff_lt-mul h).1 (subst (λ (p : ℕ). n < p) (pow-suc base k) b)))
      ∙ mod-add-div n base

  pub number_below : (ds : List ℕ) → Below base ds → number base ds < base ^ length ds
  number_below [] b = omega (arith, pow-zero base)
  number_below (d ∷ ds) b =
      let more : base * suc (number base ds) ≤ base * base ^ length ds = mul-le-mul (le_refl base) (number_below ds b.1) in
      omega (arith, more, mul-suc base (number base ds), pow-suc base (length ds), mul_comm (base ^ length ds) base, b.0)

-- decimal digits
pub decimal : (ds : List ℕ) → any_above9 ds ≡ false → Below 10 ds
decimal [] e = tt
decimal (d ∷ ds) e = (let z = ltb-false 9 d (or_false_left (ltb 9 d) (any_above9 ds) e) in omega arith, decimal ds (or_false_right (ltb 9 d) (any_above9 ds) e))

pub none_above : (ds : List ℕ) → Below 10 ds → any_above9 ds ≡ false
none_above [] b = refl
none_above (d ∷ ds) b = rw (le-ltb 9 d (omega arith)) (none_above ds b.1)

pub below_more : (ds : List ℕ) → Below 10 ds → Below 16 ds
below_more [] b = tt
below_more (d ∷ ds) b = (omega arith, below_more ds b.1)
