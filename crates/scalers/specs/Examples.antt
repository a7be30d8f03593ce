-- Worked examples of decimal scalers, as equations over the definition. A row is given as bytes; a call leaves its refusal's number and place, and
-- behind them the row.
use Rattle.std.specs.Prelude.{ℕ, ◌≡◌, List, [], ◌∷◌}
use Rattle.scalers.specs.declared.longwords.Way.TheVariants.{ToBinary, ToDecimal}
use Rattle.scalers.specs.Scalers.{Outcome, convert_of}

abbrev pub shown : Outcome → List ℕ
shown o = o.refusal.number ∷ o.refusal.place ∷ o.row

abbrev pub binary : List ℕ → List ℕ
binary row = shown (convert_of ToBinary row)

abbrev pub decimal : List ℕ → List ℕ
decimal row = shown (convert_of ToDecimal row)

pub record Examples : Type 0 where
  -- 123,456 with bits 31 and 30, there and back
  pub digits : binary (0x56 ∷ 0x34 ∷ 0x12 ∷ 0xC0 ∷ []) ≡ 0 ∷ 0 ∷ 0x40 ∷ 0xE2 ∷ 0x01 ∷ 0xC0 ∷ []
  pub value : decimal (0x40 ∷ 0xE2 ∷ 0x01 ∷ 0xC0 ∷ []) ≡ 0 ∷ 0 ∷ 0x56 ∷ 0x34 ∷ 0x12 ∷ 0xC0 ∷ []
  -- 999,999, the greatest, and 0
  pub greatest_digits :
      binary (0x99 ∷ 0x99 ∷ 0x99 ∷ 0x00 ∷ 0x00 ∷ 0x00 ∷ 0x00 ∷ 0x80 ∷ []) ≡ 0 ∷ 0 ∷ 0x3F ∷ 0x42 ∷ 0x0F ∷ 0x00 ∷ 0x00 ∷ 0x00 ∷ 0x00 ∷ 0x80 ∷ []
  pub greatest_value : decimal (0x3F ∷ 0x42 ∷ 0x0F ∷ 0x40 ∷ []) ≡ 0 ∷ 0 ∷ 0x99 ∷ 0x99 ∷ 0x99 ∷ 0x40 ∷ []
  -- a digit above 9, in the second longword
  pub digit_10 : binary (0x56 ∷ 0x34 ∷ 0x12 ∷ 0x00 ∷ 0xA0 ∷ 0x00 ∷ 0x00 ∷ 0x00 ∷ []) ≡ 32 ∷ 4 ∷ 0x56 ∷ 0x34 ∷ 0x12 ∷ 0x00 ∷ 0xA0 ∷ 0x00 ∷ 0x00 ∷ 0x00 ∷ []
  -- 1,000,000
  pub value_too_great : decimal (0x40 ∷ 0x42 ∷ 0x0F ∷ 0x00 ∷ []) ≡ 32 ∷ 0 ∷ 0x40 ∷ 0x42 ∷ 0x0F ∷ 0x00 ∷ []
  -- bit 24, before a digit above 9: the first counts
  pub bit_24 :
      binary (0x56 ∷ 0x34 ∷ 0x12 ∷ 0x00 ∷ 0x00 ∷ 0x00 ∷ 0x00 ∷ 0x01 ∷ 0x0A ∷ 0x00 ∷ 0x00 ∷ 0x00 ∷ [])
      ≡ 32 ∷ 4 ∷ 0x56 ∷ 0x34 ∷ 0x12 ∷ 0x00 ∷ 0x00 ∷ 0x00 ∷ 0x00 ∷ 0x01 ∷ 0x0A ∷ 0x00 ∷ 0x00 ∷ 0x00 ∷ []
  -- seven bytes: 31, whatever they are
  pub seven_bytes : binary (0x56 ∷ 0x34 ∷ 0x12 ∷ 0x0A ∷ 0x00 ∷ 0x00 ∷ 0x00 ∷ []) ≡ 31 ∷ 0 ∷ 0x56 ∷ 0x34 ∷ 0x12 ∷ 0x0A ∷ 0x00 ∷ 0x00 ∷ 0x00 ∷ []
  -- the empty row passes
  pub empty : binary [] ≡ 0 ∷ 0 ∷ []
