-- Decimal scalers (document 02, E10): a row of stored longwords converted from six packed decimal digits to binary, and back.
use Rattle.std.specs.Prelude.{ℕ, zero, suc, ◌+◌, ◌*◌, ◌/◌, ◌%◌, ◌^◌, Bool, false, ◌||◌, not, Option, Some, None, List, [], ◌∷◌, ◌++◌, map, ltb, eqb, length, if◌then◌else◌}
use Rattle.base.specs.Bytes.{long_at, long_bytes}
use Rattle.base.specs.Checks.{bits}
use Rattle.base.specs.Refusals.{not_refused, refusal}
use Rattle.base.specs.Refusals.{Refusal}
use Rattle.scalers.specs.declared.longwords.Way.{Way}
use Rattle.scalers.specs.declared.longwords.Way.TheVariants.{ToBinary, ToDecimal}

-- Digits -----------------------------------------------------------------------------------------------------------------

-- the k lowest digits of a number in a base, the lowest first
abbrev pub digits : ℕ → ℕ → ℕ → List ℕ
digits base zero n = []
digits base (suc k) n = n % base ∷ digits base k (n / base)

-- the number that digits are in a base
abbrev pub number : ℕ → List ℕ → ℕ
number base [] = 0
number base (d ∷ ds) = d + base * number base ds

-- "a digit above 9"
abbrev pub any_above9 : List ℕ → Bool
any_above9 [] = false
any_above9 (d ∷ ds) = ltb 9 d || any_above9 ds

-- One longword -----------------------------------------------------------------------------------------------------------

-- "six packed decimal digits in 24 bits, the highest in bits 23–20": the lowest six of base 16
abbrev pub packed_in : ℕ → List ℕ
packed_in w = digits 16 6 w

-- the six digits of a value in the same bits: "Values are 0 to 999,999"
abbrev pub decimals_in : ℕ → List ℕ
decimals_in w = digits 10 6 (bits 23 0 w)

-- "keeping bits 31 and 30"
abbrev pub kept_of : ℕ → ℕ
kept_of w = bits 31 30 w * 2 ^ 30

-- "to binary": the number of the digits; "and from binary back": the digits of the number, packed
unfoldable pub converted_to : Way → ℕ → ℕ
converted_to ToBinary w = kept_of w + number 10 (packed_in w)
converted_to ToDecimal w = kept_of w + number 16 (decimals_in w)

-- "bits 29–24 set"
abbrev pub is_high_set : ℕ → Bool
is_high_set w = not (eqb (bits 29 24 w) 0)

-- 32 "for bits 29–24 set, a digit above 9 on the way to binary, or a value above 999,999 on the way back"
unfoldable pub is_bad : Way → ℕ → Bool
is_bad ToBinary w = is_high_set w || any_above9 (packed_in w)
is_bad ToDecimal w = is_high_set w || ltb 999999 (bits 23 0 w)

-- A row ------------------------------------------------------------------------------------------------------------------

-- the longwords of a row; what is left at its end of less than four bytes is none
unfoldable pub longwords_in : List ℕ → List ℕ
longwords_in [] = []
longwords_in (a ∷ []) = []
longwords_in (a ∷ b ∷ []) = []
longwords_in (a ∷ b ∷ c ∷ []) = []
longwords_in (a ∷ b ∷ c ∷ d ∷ row) = long_at (a ∷ b ∷ c ∷ d ∷ []) 0 ∷ longwords_in row

-- the bytes of longwords
unfoldable pub row_of : List ℕ → List ℕ
row_of [] = []
row_of (w ∷ ws) = long_bytes w ++ row_of ws

-- "with the first such longword's byte offset in the row", from an offset on
unfoldable pub checked_from : Way → ℕ → List ℕ → Option ℕ
checked_from way at [] = None
checked_from way at (w ∷ ws) = if is_bad way w then Some at else checked_from way (at + 4) ws

-- "Convert a row of stored longwords, lent as a part of the buffer": each of them
unfoldable pub converted_row : Way → List ℕ → List ℕ
converted_row way row = row_of (map (converted_to way) (longwords_in row))

-- The calls --------------------------------------------------------------------------------------------------------------

-- what a call answers, and the row after it: "The rest of the buffer keeps its bytes", since the call is lent the row alone
pub record Outcome : Type 0 where
  pub refusal : Refusal
  pub row : List ℕ

abbrev pub leaving : Refusal → List ℕ → Outcome
leaving r row = record { refusal = r; row = row }

-- "in each case the row is unconverted"
abbrev pub judged : Way → List ℕ → Option ℕ → Outcome
judged way row None = leaving not_refused (converted_row way row)
judged way row (Some at) = leaving (record { number = 32; place = at }) row

-- "31 for a row that isn't whole longwords; then 32"
unfoldable pub convert_of : Way → List ℕ → Outcome
convert_of way row = if eqb (length row % 4) 0 then judged way row (checked_from way 0 (longwords_in row)) else leaving (refusal 31) row
