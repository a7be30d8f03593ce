-- A row of bytes stored from a place on, of any length: each byte of it is read there, and every other byte stays. So a number that was put
-- is the number that is read, and a row stored over another leaves of it what lies before.
use Prim.Native.Nat.{ℕ, zero, suc, ◌+◌, ◌*◌, ◌/◌, ◌%◌, ◌^◌, ◌≤◌, ◌<◌}
use mathlib.Core.Path.{◌≡◌, refl, ap, ◌∙◌}
use mathlib.Core.List.{List, [], ◌∷◌, ◌++◌}
use native.Mathlib.Omega.{arith}
use native.Mathlib.Nat.{add-zero, div-div-eq-div-mul}
use lib.ListN.{length, get_or, set, replicate, length-set, length-replicate}
use lib.Seq.{sets, set-set, set_comm, get_or-set_same, get_or-set_other}
use Rattle.base.specs.Bytes.{byte_at, short_at, long_at, quad_at, short_bytes, long_bytes, quad_bytes}

-- a byte before the row, or behind it
pub sets_other : (l : List ℕ) (i : ℕ) (vs : List ℕ) (j : ℕ) → (i ≤ j → i + length vs ≤ j) → get_or (sets l i vs) j 0 ≡ get_or l j 0
sets_other l i [] j h = refl
sets_other l i (v ∷ vs) j h =
    sets_other (set l i v) (suc i) vs j (λ g. omega (arith, h (omega arith)))
    ∙ get_or-set_other l i j v 0 (λ e. omega (arith, h (omega arith)))

-- two bytes before the row, or behind it
pub short_other : (l : List ℕ) (i : ℕ) (vs : List ℕ) (j : ℕ) → (i < j + 2 → i + length vs ≤ j) → short_at (sets l i vs) j ≡ short_at l j
unfolding short_at byte_at
short_other l i vs j h =
    omega (arith, sets_other l i vs j (λ g. h (omega arith)), sets_other l i vs (j + 1) (λ g. omega (arith, h (omega arith))))

-- byte k of the row, at its place j
pub sets_at : (l : List ℕ) (i : ℕ) (vs : List ℕ) → i + length vs ≤ length l → (j k : ℕ) → i + k ≡ j → k < length vs
    → get_or (sets l i vs) j 0 ≡ get_or vs k 0
sets_at l i [] h j k e b = absurd (omega arith)
sets_at l i (v ∷ vs) h j zero e b =
    let here : j ≡ i = omega arith in
    rw here (sets_other (set l i v) (suc i) vs i (λ g. absurd (omega arith)) ∙ get_or-set_same l i v 0 (omega arith))
sets_at l i (v ∷ vs) h j (suc k) e b = sets_at (set l i v) (suc i) vs (simp length-set (omega arith)) j k (omega arith) (omega arith)

-- One row over another ---------------------------------------------------------------------------------------------------

-- a byte before a row, stored behind it or before it
set_before : (l : List ℕ) (i : ℕ) (vs : List ℕ) (j a : ℕ) → j < i → set (sets l i vs) j a ≡ sets (set l j a) i vs
set_before l i [] j a h = refl
set_before l i (v ∷ vs) j a h =
    set_before (set l i v) (suc i) vs j a (omega arith)
    ∙ ap (λ (x : List ℕ). sets x (suc i) vs) (set_comm l i j v a (λ e. omega arith))

-- a row over one that is not longer
sets_over : (l : List ℕ) (i : ℕ) (us vs : List ℕ) → length us ≤ length vs → sets (sets l i us) i vs ≡ sets l i vs
sets_over l i [] vs h = refl
sets_over l i (u ∷ us) [] h = absurd (omega arith)
sets_over l i (u ∷ us) (v ∷ vs) h =
    ap (λ (x : List ℕ). sets x (suc i) vs)
    (set_before (set l i u) (suc i) us i v (omega arith) ∙ ap (λ (x : List ℕ). sets x (suc i) us) (set-set l i u v))
    ∙ sets_over (set l i v) (suc i) us vs (omega arith)

-- a row over n zeros, from k of them on: k zeros are left before it
pub zeros_left : (l : List ℕ) (i n k : ℕ) (vs : List ℕ) → k ≤ n → n ≤ k + length vs
    → sets (sets l i (replicate n 0)) (i + k) vs ≡ sets l i (replicate k 0 ++ vs)
zeros_left l i n zero vs h g = rw (add-zero i) (sets_over l i (replicate n 0) vs (omega (arith, length-replicate {A = ℕ} n 0)))
zeros_left l i zero (suc k) vs h g = absurd (omega arith)
zeros_left l i (suc n) (suc k) vs h g =
    let next : i + suc k ≡ suc i + k = omega arith in
    rw next (zeros_left (set l i 0) (suc i) n k vs (omega arith) (omega arith))

-- What is read is what was put -----------------------------------------------------------------------------------------------

short_sum : (v : ℕ) → v % 256 + v / 256 % 256 * 256 ≡ v % 65536
short_sum v = omega (arith, div-div-eq-div-mul v 256 256)

long_sum : (v : ℕ) → v < 4294967296 → v % 256 + v / 256 % 256 * 256 + (v / 65536 % 256 + v / 16777216 % 256 * 256) * 65536 ≡ v
long_sum v b = rw (← div-div-eq-div-mul v 65536 256, short_sum v, short_sum (v / 65536)) (omega arith)

module _ (l : List ℕ) (i v : ℕ) where
  pub short_put : i + 2 ≤ length l → v < 65536 → short_at (sets l i (short_bytes v)) i ≡ v
  unfolding short_at byte_at
  short_put h b =
      let at = sets_at l i (short_bytes v) h in
      omega (arith, at i 0 (omega arith) (omega arith), at (i + 1) 1 (omega arith) (omega arith))

  pub long_put : i + 4 ≤ length l → v < 4294967296 → long_at (sets l i (long_bytes v)) i ≡ v
  unfolding long_at short_at byte_at
  long_put h b =
      let at = sets_at l i (long_bytes v) h in
      rw (
        at i 0 (omega arith) (omega arith),
        at (i + 1) 1 (omega arith) (omega arith),
        at (i + 2) 2 (omega arith) (omega arith),
        at (i + 2 + 1) 3 (omega arith) (omega arith),
      )
      (long_sum v b)

  pub quad_put : i + 8 ≤ length l → v < 2 ^ 64 → quad_at (sets l i (quad_bytes v)) i ≡ v
  quad_put h b =
      let at = sets_at l i (quad_bytes v) h in
      rw (
        at i 0 (omega arith) (omega arith),
        at (i + 1) 1 (omega arith) (omega arith),
        at (i + 2) 2 (omega arith) (omega arith),
        at (i + 3) 3 (omega arith) (omega arith),
        at (i + 4) 4 (omega arith) (omega arith),
        at (i + 5) 5 (omega arith) (omega arith),
        at (i + 6) 6 (omega arith) (omega arith),
        at (i + 7) 7 (omega arith) (omega arith),
      )
      (omega (arith, long_sum (v % 4294967296) (omega arith), long_sum (v / 4294967296) (omega arith)))
