-- Rows of checks in the order in which document 01 lists them.
use Rattle.std.specs.Prelude.{Bool, true, ◌&&◌, List, [], ◌∷◌, ℕ, ◌+◌, ◌-◌, ◌/◌, ◌%◌, ◌^◌, eqb, if◌then◌else◌}

-- every test of a row holds
abbrev pub all_of : List Bool → Bool
all_of [] = true
all_of (t ∷ ts) = t && all_of ts

-- a test, with the number that it gives where it holds
infix 70 ◌gives◌
pub record Check : Type 0 where
  pub holds : Bool
  pub number : ℕ

abbrev pub ◌gives◌ : Bool → ℕ → Check
◌gives◌ test n = record { holds = test; number = n }

-- the number of the first check of a row that holds; 0 where none does
abbrev pub first_of : List Check → ℕ
first_of [] = 0
first_of (c ∷ cs) = if c.holds then c.number else first_of cs

-- bit k of a number, bit 0 the lowest
abbrev pub bit : ℕ → ℕ → Bool
bit k w = eqb (w / 2 ^ k % 2) 1

-- bits `high` to `low` of a number
abbrev pub bits : ℕ → ℕ → ℕ → ℕ
bits high low w = w / 2 ^ low % 2 ^ (high + 1 - low)
