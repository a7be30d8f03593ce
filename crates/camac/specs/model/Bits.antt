-- What code that reads the longwords bit by bit asks. Nothing here is a rule of document 01.
use Rattle.std.specs.Prelude.{ℕ, ◌≡◌}
use Rattle.camac.specs.Words.{camac_fault}

-- the first longword of a field that passed 6 to 9
pub record Passes (first : ℕ) : Type 0 where
  pub len : ℕ
  pub second : ℕ
  pub right : camac_fault len first second ≡ 0
