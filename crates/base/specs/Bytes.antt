-- Numbers in a row of bytes.
use Rattle.std.specs.Prelude.{ℕ, ◌+◌, ◌*◌, ◌/◌, ◌%◌, ◌<◌, List, [], ◌∷◌, ◌++◌, get_or}

-- the byte at a place; 0 past the end, where no rule looks
unfoldable pub byte_at : List ℕ → ℕ → ℕ
byte_at bytes i = get_or bytes i 0

-- "Multi-byte values are little-endian": the number of two, four, eight bytes from a place on
unfoldable pub short_at : List ℕ → ℕ → ℕ
short_at bytes i = byte_at bytes i + byte_at bytes (i + 1) * 256

unfoldable pub long_at : List ℕ → ℕ → ℕ
long_at bytes i = short_at bytes i + short_at bytes (i + 2) * 65536

abbrev pub quad_at : List ℕ → ℕ → ℕ
quad_at bytes i =
    get_or bytes i 0 + get_or bytes (i + 1) 0 * 256 + get_or bytes (i + 2) 0 * 65536 + get_or bytes (i + 3) 0 * 16777216
    + get_or bytes (i + 4) 0 * 4294967296 + get_or bytes (i + 5) 0 * 1099511627776 + get_or bytes (i + 6) 0 * 281474976710656
    + get_or bytes (i + 7) 0 * 72057594037927936

-- the two, four, eight low bytes of a number
abbrev pub short_bytes : ℕ → List ℕ
short_bytes v = v % 256 ∷ v / 256 % 256 ∷ []

abbrev pub long_bytes : ℕ → List ℕ
long_bytes v = v % 256 ∷ v / 256 % 256 ∷ v / 65536 % 256 ∷ v / 16777216 % 256 ∷ []

abbrev pub quad_bytes : ℕ → List ℕ
quad_bytes v = long_bytes (v % 4294967296) ++ long_bytes (v / 4294967296)

-- every byte is below 256: true of every &[u8]
abbrev pub Bytes : List ℕ → Type 0
Bytes l = (i : ℕ) → get_or l i 0 < 256
