-- Both routes return a row that passes: each longword comes back as it was, and a row is its longwords, as their bytes are. A call of one longword
-- converts it as a call of the row does.
use Prim.Native.Nat.{ℕ, suc, ◌+◌, ◌*◌, ◌/◌, ◌%◌, ◌^◌, ◌<◌}
use mathlib.Core.Path.{◌≡◌, refl, sym, ap, ap₂, ◌∙◌}
use mathlib.Core.Bool.{Bool, true, false}
use mathlib.Core.List.{List, [], ◌∷◌, ◌++◌, map}
use native.Mathlib.Omega.{arith}
use native.Mathlib.Nat.{div-div-eq-div-mul}
use borrow.Author.Tests.{eqb-true}
use lib.Dec.{eqb}
use lib.ListN.{length}
use Rattle.base.specs.Bytes.{byte_at, short_at, long_at, long_bytes, Bytes}
use Rattle.std.specs.Prelude.{if◌then◌else◌, Option, Some, None}
use Rattle.base.specs.Refusals.{not_refused, refusal}
use Rattle.base.proofs.Puts.{long_put}
use Rattle.scalers.specs.declared.longwords.Way.{Way}
use Rattle.scalers.specs.Scalers.{is_bad, digits, converted_to, longwords_in, row_of, checked_from, converted_row, Outcome, leaving, judged, convert_of}
use Rattle.scalers.specs.BothRoutes.{back, RowPasses, EachPasses, each_converted, BothRoutes}
use Rattle.scalers.proofs.DigitLaws.{digits_number}
use Rattle.scalers.proofs.RowLaws.{passes_both, by_check}
use Rattle.scalers.proofs.LongwordLaws.{returned}

-- Longwords and bytes ----------------------------------------------------------------------------------------------------

abbrev Longwords : List ℕ → Type 0
Longwords [] = Unit {0}
Longwords (w ∷ ws) = (w < 2 ^ 32) × Longwords ws

long_sum : (w : ℕ) → w < 2 ^ 32 → w % 256 + w / 256 % 256 * 256 + (w / 65536 % 256 + w / 16777216 % 256 * 256) * 65536 ≡ w
unfolding long_at short_at byte_at
long_sum w h = long_put (0 ∷ 0 ∷ 0 ∷ 0 ∷ []) 0 w (omega arith) h

longwords_row : (ws : List ℕ) → Longwords ws → longwords_in (row_of ws) ≡ ws
unfolding longwords_in row_of long_at short_at byte_at
longwords_row [] h = refl
longwords_row (w ∷ ws) h = ap₂ (λ (x : ℕ) (xs : List ℕ). x ∷ xs) (long_sum w h.0) (longwords_row ws h.1)

whole_row : (ws : List ℕ) → length (row_of ws) % 4 ≡ 0
unfolding row_of
whole_row [] = refl
whole_row (w ∷ ws) = omega (arith, whole_row ws)

-- of four bytes
module _ (a b c d : ℕ) (ha : a < 256) (hb : b < 256) (hc : c < 256) (hd : d < 256) where
  long_below : a + b * 256 + (c + d * 256) * 65536 < 2 ^ 32
  long_below = omega arith

  -- the bytes are digits in base 256
  long_again : long_bytes (a + b * 256 + (c + d * 256) * 65536) ≡ a ∷ b ∷ c ∷ d ∷ []
  long_again =
      let w = a + b * 256 + (c + d * 256) * 65536 in
      let bytes : digits 256 4 w ≡ long_bytes w = simp div-div-eq-div-mul in
      sym bytes ∙ digits_number 256 (omega arith) (a ∷ b ∷ c ∷ d ∷ []) (ha, (hb, (hc, (hd, tt)))) w 0 (omega arith)

-- the longwords of a row of bytes
longwords_of : (row : List ℕ) → Bytes row → Longwords (longwords_in row)
unfolding longwords_in long_at short_at byte_at
longwords_of [] h = tt
longwords_of (a ∷ []) h = tt
longwords_of (a ∷ b ∷ []) h = tt
longwords_of (a ∷ b ∷ c ∷ []) h = tt
longwords_of (a ∷ b ∷ c ∷ d ∷ row) h = (long_below a b c d (h 0) (h 1) (h 2) (h 3), longwords_of row (λ i. h (suc (suc (suc (suc i))))))

-- and their bytes again
row_longwords : (row : List ℕ) → Bytes row → length row % 4 ≡ 0 → row_of (longwords_in row) ≡ row
unfolding longwords_in row_of long_at short_at byte_at
row_longwords [] h e = refl
row_longwords (a ∷ []) h e = absurd (omega arith)
row_longwords (a ∷ b ∷ []) h e = absurd (omega arith)
row_longwords (a ∷ b ∷ c ∷ []) h e = absurd (omega arith)
row_longwords (a ∷ b ∷ c ∷ d ∷ row) h e =
    ap₂ (λ (l : List ℕ) (r : List ℕ). l ++ r) (long_again a b c d (h 0) (h 1) (h 2) (h 3))
    (row_longwords row (λ i. h (suc (suc (suc (suc i))))) (omega arith))

-- There and back ---------------------------------------------------------------------------------------------------------

record Back (way : Way) (at : ℕ) (ws : List ℕ) : Type 0 where
  longwords : Longwords (map (converted_to way) ws)
  passes : checked_from (back way) at (map (converted_to way) ws) ≡ None
  same : map (converted_to (back way)) (map (converted_to way) ws) ≡ ws

there_and_back : (way : Way) (at : ℕ) (ws : List ℕ) → Longwords ws → checked_from way at ws ≡ None → Back way at ws
unfolding checked_from
there_and_back way at [] h e = record { longwords = tt; passes = refl; same = refl }
there_and_back way at (w ∷ ws) h e =
    let p = passes_both way at w ws e in
    let r = returned way w h.0 p.0 in
    let rest = there_and_back way (at + 4) ws h.1 p.1 in
    record {
      longwords = (r.below, rest.longwords);
      passes = rw r.passes rest.passes;
      same = ap₂ (λ (x : ℕ) (xs : List ℕ). x ∷ xs) r.same rest.same;
    }

-- A call that is not refused ---------------------------------------------------------------------------------------------

record Passed (way : Way) (row : List ℕ) : Type 0 where
  whole : length row % 4 ≡ 0
  checked : checked_from way 0 (longwords_in row) ≡ None

outcome : (way : Way) (row : List ℕ) → Passed way row → convert_of way row ≡ leaving not_refused (converted_row way row)
outcome way row p = by_check way row p.whole (sym p.checked)

passed : (way : Way) (row : List ℕ) → RowPasses way row → Passed way row
unfolding convert_of
passed way row e = go (eqb (length row % 4) 0) refl (checked_from way 0 (longwords_in row)) refl e
  where
    go : (b : Bool) → eqb (length row % 4) 0 ≡ b → (r : Option ℕ) → checked_from way 0 (longwords_in row) ≡ r
        → (if b then judged way row r else leaving (refusal 31) row).refusal.number ≡ 0 → Passed way row
    go true t None q e = record { whole = eqb-true _ _ t; checked = q }
    go true t (Some at) q e = absurd (omega arith)
    go false t r q e = absurd (omega arith)

-- Each longword ----------------------------------------------------------------------------------------------------------

module _ (way : Way) (a b c d : ℕ) where
  one : is_bad way (a + b * 256 + (c + d * 256) * 65536) ≡ false → Passed way (a ∷ b ∷ c ∷ d ∷ [])
  unfolding checked_from longwords_in long_at short_at byte_at
  one e = record { whole = refl; checked = rw e }

  one_row : is_bad way (a + b * 256 + (c + d * 256) * 65536) ≡ false
      → long_bytes (converted_to way (a + b * 256 + (c + d * 256) * 65536)) ≡ (convert_of way (a ∷ b ∷ c ∷ d ∷ [])).row
  unfolding converted_row row_of longwords_in long_at short_at byte_at
  one_row e = ap (λ (o : Outcome). o.row) (sym (outcome way (a ∷ b ∷ c ∷ d ∷ []) (one e)))

each_one : (way : Way) (at : ℕ) (row : List ℕ) → checked_from way at (longwords_in row) ≡ None
    → EachPasses way row × (row_of (map (converted_to way) (longwords_in row)) ≡ each_converted way row)
unfolding longwords_in row_of long_at short_at byte_at
each_one way at [] e = (tt, refl)
each_one way at (a ∷ []) e = (tt, refl)
each_one way at (a ∷ b ∷ []) e = (tt, refl)
each_one way at (a ∷ b ∷ c ∷ []) e = (tt, refl)
each_one way at (a ∷ b ∷ c ∷ d ∷ row) e =
    let p = passes_both way at (a + b * 256 + (c + d * 256) * 65536) (longwords_in row) e in
    let rest = each_one way (at + 4) row p.1 in
    let call = outcome way (a ∷ b ∷ c ∷ d ∷ []) (one way a b c d p.0) in (
      (ap (λ (o : Outcome). o.refusal.number) call, rest.0),
      ap₂ (λ (l : List ℕ) (r : List ℕ). l ++ r) (one_row way a b c d p.0) rest.1,
    )

pub both_routes : BothRoutes
unfolding converted_row
both_routes way row bytes e =
    let p = passed way row e in
    let ws = longwords_in row in
    let there = there_and_back way 0 ws (longwords_of row bytes) p.checked in
    let converted : (convert_of way row).row ≡ converted_row way row = ap (λ (o : Outcome). o.row) (outcome way row p) in
    let again : longwords_in (converted_row way row) ≡ map (converted_to way) ws = longwords_row (map (converted_to way) ws) there.longwords in
    let q : Passed (back way) (converted_row way row) = record {
      whole = whole_row (map (converted_to way) ws);
      checked = ap (checked_from (back way) 0) again ∙ there.passes;
    } in
    let returns : convert_of (back way) (convert_of way row).row ≡ leaving not_refused row =
    ap (convert_of (back way)) converted ∙ outcome (back way) (converted_row way row) q
    ∙ ap (leaving not_refused) (ap (λ (xs : List ℕ). row_of (map (converted_to (back way)) xs)) again ∙ ap row_of there.same ∙ row_longwords row bytes p.whole) in
    let each = each_one way 0 row p.checked in
    record {
      back_passes = ap (λ (o : Outcome). o.refusal.number) returns;
      back_row = ap (λ (o : Outcome). o.row) returns;
      each_passes = each.0;
      each_row = converted ∙ each.1;
    }
