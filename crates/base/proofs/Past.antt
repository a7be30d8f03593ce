-- Numbers in a row of bytes near its end: the bytes past the end count as zero.
use Prim.Native.Nat.{ℕ, ◌+◌, ◌*◌, ◌≤◌}
use mathlib.Core.Path.{◌≡◌}
use mathlib.Core.List.{List}
use native.Mathlib.Omega.{arith}
use lib.ListN.{length, get_or-eq_default}
use Rattle.base.specs.Bytes.{byte_at, short_at, long_at}

pub byte_past : (l : List ℕ) (i : ℕ) → length l ≤ i → byte_at l i ≡ 0
unfolding byte_at
byte_past l i h = get_or-eq_default l 0 h

pub short_past : (l : List ℕ) (i : ℕ) → length l ≤ i → short_at l i ≡ 0
unfolding short_at
short_past l i h = omega (arith, byte_past l i h, byte_past l (i + 1) (omega arith))

pub long_past : (l : List ℕ) (i : ℕ) → length l ≤ i → long_at l i ≡ 0
unfolding long_at
long_past l i h = omega (arith, short_past l i h, short_past l (i + 2) (omega arith))

-- where at most two bytes are there, and where at most three are
pub long_two : (l : List ℕ) (i : ℕ) → length l ≤ i + 2 → long_at l i ≡ short_at l i
unfolding long_at
long_two l i h = omega (arith, short_past l (i + 2) h)

pub long_three : (l : List ℕ) (i : ℕ) → length l ≤ i + 3 → long_at l i ≡ short_at l i + byte_at l (i + 2) * 65536
unfolding long_at short_at
long_three l i h = omega (arith, byte_past l (i + 2 + 1) (omega arith))

-- where at most one is
pub short_one : (l : List ℕ) (i : ℕ) → length l ≤ i + 1 → short_at l i ≡ byte_at l i
unfolding short_at
short_one l i h = omega (arith, byte_past l (i + 1) h)

-- all four in one sum
pub long_whole : (l : List ℕ) (i : ℕ)
    → long_at l i ≡ byte_at l i + byte_at l (i + 1) * 256 + byte_at l (i + 2) * 65536 + byte_at l (i + 3) * 16777216
unfolding long_at short_at
long_whole l i = let last : i + 2 + 1 ≡ i + 3 = omega arith in rw last (omega arith)
