-- A row of whole longwords as arrays of four bytes: its longwords are their numbers, and the first that does not pass is where the check says.
use Prim.Native.Nat.{ℕ, zero, suc, ◌+◌, ◌*◌, ◌<◌}
use mathlib.Core.Path.{◌≡◌, refl, sym, ap, ap₂, ◌∙◌}
use mathlib.Core.Bool.{Bool, true, false, ◌||◌}
use mathlib.Core.List.{List, [], ◌∷◌, map}
use native.Mathlib.Omega.{arith}
use lib.ListN.{length}
use Rattle.std.proofs.Math.Bool.{or-false, or_assoc}
use Rattle.std.specs.Prelude.{◌/◌, ◌%◌, Option, Some, None, MatchOption, option_map, fold}
use Rattle.std.specs.Int.{from_le_bytes, w32}
use Rattle.std.specs.List.{list_any, All, HoldsAt, AllWithin}
use Rattle.std.specs.Simd.{first_chunks}
use Rattle.base.specs.Bytes.{byte_at, short_at, long_at}
use Rattle.base.proofs.Bools.{or_false_left, or_false_right}
use Rattle.scalers.specs.declared.longwords.Way.{Way}
use Rattle.scalers.specs.Scalers.{is_bad, longwords_in, checked_from}

-- four bytes
pub long_of_four : (a b c d : ℕ) → long_at (a ∷ b ∷ c ∷ d ∷ []) 0 ≡ from_le_bytes w32 (a ∷ b ∷ c ∷ d ∷ [])
unfolding long_at short_at byte_at
long_of_four a b c d = omega arith

pub longwords_chunks : (row : List ℕ) (k : ℕ) → length row ≡ k * 4 → longwords_in row ≡ map (from_le_bytes w32) (first_chunks 4 k row)
unfolding longwords_in
longwords_chunks [] zero e = refl
longwords_chunks [] (suc k) e = absurd (omega arith)
longwords_chunks (a ∷ []) k e = absurd (omega arith)
longwords_chunks (a ∷ b ∷ []) k e = absurd (omega arith)
longwords_chunks (a ∷ b ∷ c ∷ []) k e = absurd (omega arith)
longwords_chunks (a ∷ b ∷ c ∷ d ∷ row) zero e = absurd (omega arith)
longwords_chunks (a ∷ b ∷ c ∷ d ∷ row) (suc k) e =
    ap₂ (λ (w : ℕ) (ws : List ℕ). w ∷ ws) (long_of_four a b c d) (longwords_chunks row k (omega arith))

abbrev pub bad_in : Way → List ℕ → Bool
bad_in way longword = is_bad way (from_le_bytes w32 longword)

-- found in all of them, as code gathers it
found_from : (p : List ℕ → Bool) (found : Bool) (cs : List (List ℕ)) → fold (λ (b : Bool) (c : List ℕ). b || p c) found cs ≡ found || list_any p cs
found_from p found [] = sym (or-false found)
found_from p found (c ∷ cs) = found_from p (found || p c) cs ∙ or_assoc found (p c) (list_any p cs)

pub found_any : (p : List ℕ → Bool) (cs : List (List ℕ)) → fold (λ (b : Bool) (c : List ℕ). b || p c) false cs ≡ list_any p cs
found_any p cs = found_from p false cs

-- none of them
checked_none : (way : Way) (at : ℕ) (cs : List (List ℕ)) → All (λ c. bad_in way c ≡ false) cs → checked_from way at (map (from_le_bytes w32) cs) ≡ None
unfolding checked_from
checked_none way at [] h = refl
checked_none way at (c ∷ cs) h = rw (h 0 [] (omega arith)) (checked_none way (at + 4) cs (λ k d b. h (suc k) d (omega arith)))

-- the first
checked_first : (way : Way) (at : ℕ) (cs : List (List ℕ)) (i : ℕ) → i < length cs → HoldsAt (λ c. bad_in way c ≡ true) cs i
    → AllWithin (λ c. bad_in way c ≡ false) cs 0 i → checked_from way at (map (from_le_bytes w32) cs) ≡ Some (at + 4 * i)
unfolding checked_from
checked_first way at [] i h bad before = absurd (omega arith)
checked_first way at (c ∷ cs) zero h bad before =
    let here : at ≡ at + 4 * zero = omega arith in
    rw (bad []) (ap Some here)
checked_first way at (c ∷ cs) (suc i) h bad before =
    let next : at + 4 + 4 * i ≡ at + 4 * suc i = omega arith in
    rw (before 0 [] (omega arith) (omega arith))
    (checked_first way (at + 4) cs i (omega arith) bad (λ k d l b. before (suc k) d (omega arith) (omega arith)) ∙ ap Some next)

-- as `position` answers it
pub checked_found : (way : Way) (cs : List (List ℕ)) (r : Option ℕ)
    → MatchOption r (AllWithin (λ c. bad_in way c ≡ false) cs 0 (length cs))
    (λ i. (i < length cs) × HoldsAt (λ c. bad_in way c ≡ true) cs i × AllWithin (λ c. bad_in way c ≡ false) cs 0 i)
    → option_map (λ i. 4 * i) r ≡ checked_from way 0 (map (from_le_bytes w32) cs)
checked_found way cs None h = sym (checked_none way 0 cs (λ k d l. h k d (omega arith) l))
checked_found way cs (Some i) h =
    let here : 0 + 4 * i ≡ 4 * i = omega arith in
    ap Some (sym here) ∙ sym (checked_first way 0 cs i h.0 h.1 h.2)

pub checked_row : (way : Way) (row : List ℕ) {cs : List (List ℕ)} → length row % 4 ≡ 0 → cs ≡ first_chunks 4 (length row / 4) row
    → checked_from way 0 (map (from_le_bytes w32) cs) ≡ checked_from way 0 (longwords_in row)
checked_row way row e f = ap (checked_from way 0) (ap (map (from_le_bytes w32)) f ∙ sym (longwords_chunks row (length row / 4) (omega arith)))

any_from : (way : Way) (at : ℕ) (cs : List (List ℕ)) → list_any (bad_in way) cs ≡ false → None ≡ checked_from way at (map (from_le_bytes w32) cs)
unfolding checked_from
any_from way at [] e = refl
any_from way at (c ∷ cs) e =
    rw (or_false_left (bad_in way c) (list_any (bad_in way) cs) e) (any_from way (at + 4) cs (or_false_right (bad_in way c) (list_any (bad_in way) cs) e))

pub checked_any : (way : Way) (cs : List (List ℕ)) → list_any (bad_in way) cs ≡ false → None ≡ checked_from way 0 (map (from_le_bytes w32) cs)
checked_any way cs e = any_from way 0 cs e
