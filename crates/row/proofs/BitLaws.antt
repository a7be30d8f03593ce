-- Bits of several numbers, bit by bit: a number is its half and its lowest bit, and both laws hold of the halves and, by trying them, of lowest bits.
use Prim.Native.Nat.{ℕ, zero, suc, ◌+◌, ◌-◌, ◌*◌, ◌/◌, ◌%◌, ◌≤◌, ◌<◌}
use mathlib.Core.Path.{◌≡◌, refl, sym, ap, ap₂, ◌∙◌}
use mathlib.Core.List.{List}
use native.Mathlib.Omega.{arith}
use lib.Arith.{bin_ind}
use lib.Bits.{bit_and, bit_or, bit_xor, and_shr, or_shr, and_mod, or_mod, or_comm, or_add_and, and_le_l, and_le_r}
use Rattle.base.specs.Bytes.{quad_at}
use Rattle.row.specs.model.Words.{bits_over}

same_number : (u v : ℕ) → u / 2 ≡ v / 2 → u % 2 ≡ v % 2 → u ≡ v
same_number u v h o = omega arith

-- three lowest bits
try : (P : ℕ → ℕ → ℕ → Type 0) → ((y z : ℕ) → P 0 y z) → P 1 0 0 → P 1 0 1 → P 1 1 0 → P 1 1 1
    → (x y z : ℕ) → x < 2 → y < 2 → z < 2 → P x y z
try P a b c d e zero y z hx hy hz = a y z
try P a b c d e (suc zero) zero zero hx hy hz = b
try P a b c d e (suc zero) zero (suc zero) hx hy hz = c
try P a b c d e (suc zero) zero (suc (suc z)) hx hy hz = absurd (omega arith)
try P a b c d e (suc zero) (suc zero) zero hx hy hz = d
try P a b c d e (suc zero) (suc zero) (suc zero) hx hy hz = e
try P a b c d e (suc zero) (suc zero) (suc (suc z)) hx hy hz = absurd (omega arith)
try P a b c d e (suc zero) (suc (suc y)) z hx hy hz = absurd (omega arith)
try P a b c d e (suc (suc x)) y z hx hy hz = absurd (omega arith)

bit_and_or : (x y z : ℕ) → x < 2 → y < 2 → z < 2 → bit_and (bit_or x y) z ≡ bit_or (bit_and x z) (bit_and y z)
bit_and_or = try (λ (x y z : ℕ). bit_and (bit_or x y) z ≡ bit_or (bit_and x z) (bit_and y z)) (λ y z. refl) refl refl refl refl

bit_or_assoc : (x y z : ℕ) → x < 2 → y < 2 → z < 2 → bit_or (bit_or x y) z ≡ bit_or x (bit_or y z)
bit_or_assoc = try (λ (x y z : ℕ). bit_or (bit_or x y) z ≡ bit_or x (bit_or y z)) (λ y z. refl) refl refl refl refl

pub and_or : (a b m : ℕ) → bit_and (bit_or a b) m ≡ bit_or (bit_and a m) (bit_and b m)
and_or a =
    bin_ind (λ (n : ℕ). (b m : ℕ) → bit_and (bit_or n b) m ≡ bit_or (bit_and n m) (bit_and b m)) (λ b m. refl)
    (λ n ih b m. same_number _ _
    (and_shr (bit_or n b) m 1 ∙ ap (λ (x : ℕ). bit_and x (m / 2)) (or_shr n b 1) ∙ ih (b / 2) (m / 2)
    ∙ sym (or_shr (bit_and n m) (bit_and b m) 1 ∙ ap₂ bit_or (and_shr n m 1) (and_shr b m 1)))
    (and_mod (bit_or n b) m 1 ∙ ap (λ (x : ℕ). bit_and x (m % 2)) (or_mod n b 1) ∙ bit_and_or (n % 2) (b % 2) (m % 2) (omega arith) (omega arith) (omega arith)
    ∙ sym (or_mod (bit_and n m) (bit_and b m) 1 ∙ ap₂ bit_or (and_mod n m 1) (and_mod b m 1))))
    a

pub or_assoc : (a b c : ℕ) → bit_or (bit_or a b) c ≡ bit_or a (bit_or b c)
or_assoc a =
    bin_ind (λ (n : ℕ). (b c : ℕ) → bit_or (bit_or n b) c ≡ bit_or n (bit_or b c)) (λ b c. refl)
    (λ n ih b c. same_number _ _
    (or_shr (bit_or n b) c 1 ∙ ap (λ (x : ℕ). bit_or x (c / 2)) (or_shr n b 1) ∙ ih (b / 2) (c / 2)
    ∙ sym (or_shr n (bit_or b c) 1 ∙ ap (bit_or (n / 2)) (or_shr b c 1)))
    (or_mod (bit_or n b) c 1 ∙ ap (λ (x : ℕ). bit_or x (c % 2)) (or_mod n b 1) ∙ bit_or_assoc (n % 2) (b % 2) (c % 2) (omega arith) (omega arith) (omega arith)
    ∙ sym (or_mod n (bit_or b c) 1 ∙ ap (bit_or (n % 2)) (or_mod b c 1))))
    a

-- four numbers in another order
pub or_swap : (a b c d : ℕ) → bit_or (bit_or a b) (bit_or c d) ≡ bit_or (bit_or a c) (bit_or b d)
or_swap a b c d =
    or_assoc a b (bit_or c d)
    ∙ ap (bit_or a) (sym (or_assoc b c d) ∙ ap (λ (x : ℕ). bit_or x d) (or_comm b c) ∙ or_assoc c b d)
    ∙ sym (or_assoc a c (bit_or b d))

-- no bit of both: none of either
pub or_none : (a b : ℕ) → bit_or a b ≡ 0 → (a ≡ 0) × (b ≡ 0)
or_none a b e = (omega (arith, or_add_and a b, and_le_r a b), omega (arith, or_add_and a b, and_le_l a b))

-- bits of replies gathered one by one
pub over_none : (negated : ℕ) (row : List ℕ) (from : ℕ) → 0 ≡ bits_over negated row from (from - from)
unfolding bits_over
over_none negated row from = let none : from - from ≡ 0 = omega arith in rw none

pub over_more : (negated : ℕ) (row : List ℕ) (from k bits : ℕ) → from ≤ k → bits ≡ bits_over negated row from (k - from)
    → bit_or bits (bit_xor (quad_at row (k * 8)) negated) ≡ bits_over negated row from (k + 1 - from)
unfolding bits_over
over_more negated row from k bits h e =
    let next : k + 1 - from ≡ suc (k - from) = omega arith in
    let here : from + (k - from) ≡ k = omega arith in
    ap (λ (b : ℕ). bit_or b (bit_xor (quad_at row (k * 8)) negated)) e ∙ sym (rw (next, here))
