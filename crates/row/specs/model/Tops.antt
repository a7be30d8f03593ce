-- The table of the top bits of longwords. Nothing here is a rule of document 01.
use Rattle.std.specs.Prelude.{ℕ, ◌+◌, ◌/◌, ◌%◌, ◌^◌, ◌<◌, ◌≡◌, List, eqb, get_or, if◌then◌else◌}
use Rattle.std.specs.Int.Bits.{bit_xor}

-- by flags in which Q and X are negated
pub record Tops (tops : List ℕ) : Type 0 where
  pub top : (f : ℕ) → f < 64 → get_or tops (bit_xor f 3) 0 ≡ (if eqb (f / 2 % 2) 1 then 2 ^ 30 else 0) + (if eqb (f % 2) 1 then 2 ^ 31 else 0)
