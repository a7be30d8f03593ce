-- The worked examples hold: both sides of each equation compute to the same.
use mathlib.Core.Path.{refl}
use Rattle.base.specs.Bytes.{byte_at, short_at, long_at}
use Rattle.scalers.specs.Scalers.{converted_to, is_bad, longwords_in, row_of, checked_from, converted_row, convert_of}
use Rattle.scalers.specs.Examples.{Examples}

pub examples : Examples
unfolding byte_at short_at long_at converted_to is_bad longwords_in row_of checked_from converted_row convert_of
examples = record {
  digits = refl;
  value = refl;
  greatest_digits = refl;
  greatest_value = refl;
  digit_10 = refl;
  value_too_great = refl;
  bit_24 = refl;
  seven_bytes = refl;
  empty = refl;
}
