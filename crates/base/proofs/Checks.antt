-- A row's number is that of the first check that holds: where the checks before place k fail, it is the number at place k. A row whose
-- number is 0 has passed: no test of it holds, because every check of it is numbered from 1 on.
use Prim.Native.Nat.{ℕ, zero, suc, ◌≤◌}
use mathlib.Core.Path.{◌≡◌, refl}
use mathlib.Core.Bool.{Bool, true, false}
use mathlib.Core.List.{List, [], ◌∷◌}
use native.Mathlib.Omega.{arith}
use Rattle.std.specs.Prelude.{if◌then◌else◌}
use Rattle.base.specs.Checks.{Check, first_of}

-- no test of the row holds
abbrev pub Passed : List Check → Type 0
Passed [] = Unit {0}
Passed (c ∷ cs) = (c.holds ≡ false) × Passed cs

-- every check of the row has a number from 1 on
abbrev pub Numbered : List Check → Type 0
Numbered [] = Unit {0}
Numbered (c ∷ cs) = (1 ≤ c.number) × Numbered cs

pub passed : (cs : List Check) → Numbered cs → first_of cs ≡ 0 → Passed cs
passed [] h e = tt
passed (c ∷ cs) h e = go c.holds refl e (passed cs h.1)
  where
    go : (t : Bool) → c.holds ≡ t → (if t then c.number else first_of cs) ≡ 0 → (first_of cs ≡ 0 → Passed cs) → (c.holds ≡ false) × Passed cs
    go true q e ih = absurd (omega arith)
    go false q e ih = (q, ih e)

-- the checks before place k fail, and the one there holds, or there is none
abbrev pub FirstAt : ℕ → List Check → Type 0
FirstAt k [] = Unit {0}
FirstAt zero (c ∷ cs) = c.holds ≡ true
FirstAt (suc k) (c ∷ cs) = (c.holds ≡ false) × FirstAt k cs

-- the number at place k, 0 where there is none
abbrev pub number_at : ℕ → List Check → ℕ
number_at k [] = 0
number_at zero (c ∷ cs) = c.number
number_at (suc k) (c ∷ cs) = number_at k cs

pub first_at_lem : (k : ℕ) (cs : List Check) → FirstAt k cs → first_of cs ≡ number_at k cs
first_at_lem k [] h = refl
first_at_lem zero (c ∷ cs) h = rw h
first_at_lem (suc k) (c ∷ cs) h = rw h.0 (first_at_lem k cs h.1)
