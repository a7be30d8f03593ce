-- A row from a place on is the longword there and the row behind it; a call that passes its check converts the row.
use Prim.Native.Nat.{ℕ, suc, ◌+◌, ◌%◌, ◌≤◌}
use mathlib.Core.Path.{◌≡◌, refl, ap, ◌∙◌}
use mathlib.Core.Bool.{Bool, true, false}
use mathlib.Core.List.{List, [], ◌∷◌, ◌++◌, map}
use native.Mathlib.Omega.{arith}
use borrow.Author.Tests.{eq-eqb, ne_eqb}
use lib.ListN.{length, get_or, drop, drop_of_length-le}
use lib.Seq.{drop-cons}
use Rattle.base.specs.Bytes.{byte_at, short_at, long_at, long_bytes}
use Rattle.std.specs.Prelude.{if◌then◌else◌, Option, Some, None}
use Rattle.base.specs.Refusals.{refusal}
use Rattle.scalers.specs.declared.longwords.Way.{Way}
use Rattle.scalers.specs.Scalers.{is_bad, converted_to, longwords_in, row_of, checked_from, converted_row, leaving, judged, convert_of}

-- Longwords from a place on ----------------------------------------------------------------------------------------------

module _ (row : List ℕ) (at : ℕ) where
  four_bytes : at + 4 ≤ length row
      → drop at row ≡ get_or row at 0 ∷ get_or row (at + 1) 0 ∷ get_or row (at + 2) 0 ∷ get_or row (at + 2 + 1) 0 ∷ drop (at + 4) row
  four_bytes h =
      let one : at + 1 ≡ suc at = omega arith in
      let two : at + 2 ≡ suc (suc at) = omega arith in
      let three : at + 2 + 1 ≡ suc (suc (suc at)) = omega arith in
      let four : at + 4 ≡ suc (suc (suc (suc at))) = omega arith in
      rw (one, three, two, four)
      (drop-cons row at 0 (omega arith)
      ∙ ap (λ (l : List ℕ). get_or row at 0 ∷ l) (drop-cons row (suc at) 0 (omega arith)
      ∙ ap (λ (l : List ℕ). get_or row (suc at) 0 ∷ l) (drop-cons row (suc (suc at)) 0 (omega arith)
      ∙ ap (λ (l : List ℕ). get_or row (suc (suc at)) 0 ∷ l) (drop-cons row (suc (suc (suc at))) 0 (omega arith)))))

  pub longwords_more : at + 4 ≤ length row → longwords_in (drop at row) ≡ long_at row at ∷ longwords_in (drop (at + 4) row)
  unfolding longwords_in long_at short_at byte_at
  longwords_more h = ap longwords_in (four_bytes h)

  pub longwords_none : length row ≤ at → longwords_in (drop at row) ≡ []
  unfolding longwords_in
  longwords_none h = ap longwords_in (drop_of_length-le row h)

-- the row converted from there on
pub converted_more : (way : Way) (row : List ℕ) (at : ℕ) → at + 4 ≤ length row
    → converted_row way (drop at row) ≡ long_bytes (converted_to way (long_at row at)) ++ converted_row way (drop (at + 4) row)
unfolding converted_row row_of
converted_more way row at h = ap (λ (ws : List ℕ). row_of (map (converted_to way) ws)) (longwords_more row at h)

-- of longwords that pass, the first and those behind it pass
pub passes_both : (way : Way) (at w : ℕ) (ws : List ℕ) → checked_from way at (w ∷ ws) ≡ None → (is_bad way w ≡ false) × (checked_from way (at + 4) ws ≡ None)
unfolding checked_from
passes_both way at w ws e = go (is_bad way w) refl e
  where
    go : (b : Bool) → is_bad way w ≡ b → (if b then Some at else checked_from way (at + 4) ws) ≡ None
        → (is_bad way w ≡ false) × (checked_from way (at + 4) ws ≡ None)
    go true q e = cc
    go false q e = (q, e)

-- A call -----------------------------------------------------------------------------------------------------------------

pub no_longwords : (way : Way) (row : List ℕ) → ¬ (length row % 4 ≡ 0) → convert_of way row ≡ leaving (refusal 31) row
unfolding convert_of
no_longwords way row h = rw (ne_eqb (length row % 4) 0 h)

pub by_check : (way : Way) (row : List ℕ) → length row % 4 ≡ 0 → {r : Option ℕ} → r ≡ checked_from way 0 (longwords_in row) → convert_of way row ≡ judged way row r
unfolding convert_of
by_check way row h e = rw (eq-eqb (length row % 4) 0 h, e)
