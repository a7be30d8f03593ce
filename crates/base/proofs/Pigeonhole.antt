-- Distinct numbers below n are at most n of them, because without n - 1 they are distinct and
-- below n - 1. A number is among some, or they are free of it.
use Prim.Native.Nat.{ℕ, zero, suc, ◌≤◌, ◌<◌}
use mathlib.Core.Path.{◌≡◌, refl, subst}
use mathlib.Core.Logic.{◌⊎◌, inl, inr}
use mathlib.Core.Bool.{Bool, true, false}
use mathlib.Core.List.{List, [], ◌∷◌}
use native.Mathlib.Omega.{arith}
use borrow.Author.Tests.{eqb-true, eqb-false}
use lib.Dec.{eqb}
use lib.ListN.{length}

abbrev pub Free : ℕ → List ℕ → Type 0
Free k [] = Unit {0}
Free k (x ∷ l) = (x ≡ k → ⊥) × Free k l

abbrev pub Apart : List ℕ → Type 0
Apart [] = Unit {0}
Apart (x ∷ l) = Free x l × Apart l

abbrev pub Below : ℕ → List ℕ → Type 0
Below n [] = Unit {0}
Below n (x ∷ l) = (x < n) × Below n l

-- below n + 1 and free of n: below n
below_free : (n : ℕ) (l : List ℕ) → Below (suc n) l → Free n l → Below n l
below_free n [] b f = tt
below_free n (x ∷ l) b f = (let other : ¬ (x ≡ n) = f.0 in omega (arith, b.0), below_free n l b.1 f.1)

-- numbers with n left out, once
record Without (n : ℕ) (l : List ℕ) : Type 0 where
  rest : List ℕ
  apart : Apart rest
  under : Below n rest
  size : length l ≤ suc (length rest)
  frees : (k : ℕ) → Free k l → Free k rest

without : (n : ℕ) (l : List ℕ) → Apart l → Below (suc n) l → Without n l
without n [] a b = record { rest = []; apart = tt; under = tt; size = omega arith; frees = λ k f. tt }
without n (x ∷ l) a b = go (eqb x n) refl (without n l a.1 b.1)
  where
    go : (t : Bool) → eqb x n ≡ t → Without n l → Without n (x ∷ l)
    go true e w = record {
      rest = l;
      apart = a.1;
      under = below_free n l b.1 (subst (λ (k : ℕ). Free k l) (eqb-true _ _ e) a.0);
      size = omega arith;
      frees = λ k f. f.1;
    }
    go false e w =
        let other : ¬ (x ≡ n) = eqb-false x n e in
        record {
          rest = x ∷ w.rest;
          apart = (w.frees x a.0, w.apart);
          under = (omega (arith, b.0), w.under);
          size = omega (arith, w.size);
          frees = λ k f. (f.0, w.frees k f.1);
        }

pub apart_most : (n : ℕ) (l : List ℕ) → Apart l → Below n l → length l ≤ n
apart_most zero [] a b = omega arith
apart_most zero (x ∷ l) a b = absurd (omega (arith, b.0))
apart_most (suc n) l a b = let w = without n l a b in omega (arith, w.size, apart_most n w.rest w.apart w.under)

pub data Among (k : ℕ) : List ℕ → Type 0 where
  first : {x : ℕ} {l : List ℕ} → x ≡ k → Among k (x ∷ l)
  later : {x : ℕ} {l : List ℕ} → Among k l → Among k (x ∷ l)

pub among_or_free : (k : ℕ) (l : List ℕ) → Among k l ⊎ Free k l
among_or_free k [] = inr tt
among_or_free k (x ∷ l) = go (eqb x k) refl (among_or_free k l)
  where
    go : (t : Bool) → eqb x k ≡ t → Among k l ⊎ Free k l → Among k (x ∷ l) ⊎ Free k (x ∷ l)
    go true e r = inl (first (eqb-true _ _ e))
    go false e (inl r) = inl (later r)
    go false e (inr f) = inr (eqb-false x k e, f)
