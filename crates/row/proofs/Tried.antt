-- A test tried on all numbers below one holds of each of them.
use Prim.Native.Nat.{ℕ, zero, suc, ◌<◌}
use mathlib.Core.Path.{◌≡◌, sym, subst}
use mathlib.Core.Bool.{Bool, true, ◌&&◌}
use native.Mathlib.Omega.{arith}
use borrow.Author.Tests.{eqb-true, eqb-false}
use lib.Dec.{eqb}
use Rattle.base.proofs.Bools.{and_left, and_right}
use Rattle.base.proofs.Tests.{on}

unfoldable pub all_below : ℕ → (ℕ → Bool) → Bool
all_below zero test = true
all_below (suc n) test = test n && all_below n test

pub tried : (n : ℕ) (test : ℕ → Bool) → all_below n test ≡ true → (k : ℕ) → k < n → test k ≡ true
unfolding all_below
tried zero test e k h = absurd (omega arith)
tried (suc n) test e k h =
    on (eqb k n)
    (λ same. subst (λ (i : ℕ). test i ≡ true) (sym (eqb-true k n same)) (and_left (test n) (all_below n test) e))
    (λ other. tried n test (and_right (test n) (all_below n test) e) k (let z : ¬ (k ≡ n) = eqb-false k n other in omega arith))
