-- `camac_fault` check by check: the number of the first that holds, where no earlier one does.
use Prim.Native.Nat.{ℕ}
use mathlib.Core.Path.{◌≡◌}
use mathlib.Core.Bool.{true, false, ◌&&◌}
use lib.Dec.{eqb}
use borrow.Author.Tests.{eq-eqb, ne_eqb}
use Rattle.std.specs.Prelude.{if◌then◌else◌}
use Rattle.camac.specs.Words.{mode_in, qmode_bits, zero_bit_set, bad_address, bad_mode, bad_second, above_p, command_in, camac_fault}
use Rattle.camac.proofs.BitLaws.{scan_clause, single_fault}

module _ (len first second : ℕ) where
  pub zero_bit : zero_bit_set first ≡ true → camac_fault len first second ≡ 6
  unfolding camac_fault
  zero_bit six = rw six

  pub no_such_address : zero_bit_set first ≡ false → bad_address first ≡ true → camac_fault len first second ≡ 7
  unfolding camac_fault
  no_such_address six seven = rw (six, seven)

  -- a single: its length is all that is left to refuse
  pub single_passes : zero_bit_set first ≡ false → bad_address first ≡ false → mode_in first ≡ 0 → len ≡ 4 → camac_fault len first second ≡ 0
  single_passes six seven m four = rw (single_fault len first second six seven m, eq-eqb len 4 four)

  pub single_length : zero_bit_set first ≡ false → bad_address first ≡ false → mode_in first ≡ 0 → ¬ (len ≡ 4) → camac_fault len first second ≡ 8
  single_length six seven m other = rw (single_fault len first second six seven m, ne_eqb len 4 other)

  pub wrong_mode : zero_bit_set first ≡ false → bad_address first ≡ false → bad_mode len first ≡ true → camac_fault len first second ≡ 8
  unfolding camac_fault
  wrong_mode six seven eight = rw (six, seven, eight)

  pub wrong_count : zero_bit_set first ≡ false → bad_address first ≡ false → bad_mode len first ≡ false → bad_second first second ≡ true
      → camac_fault len first second ≡ 9
  unfolding camac_fault
  wrong_count six seven eight nine = rw (six, seven, eight, nine)

  -- n above P is all that is left to refuse
  pub above_or_none : zero_bit_set first ≡ false → bad_address first ≡ false → bad_mode len first ≡ false → bad_second first second ≡ false
      → camac_fault len first second
      ≡ (if (eqb (mode_in first) 1 && eqb (qmode_bits first) 3) && above_p (command_in first second).transfer then 9 else 0)
  unfolding camac_fault
  above_or_none six seven eight nine = rw (six, seven, eight, nine, scan_clause first second)

pub ruleset faults = (zero_bit, no_such_address, single_passes, single_length, wrong_mode, wrong_count, above_or_none)
