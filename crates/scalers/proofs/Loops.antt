-- The loop over a row: one of which the part before a place is converted comes, with the rest converted, to the row converted whole.
use Prim.Native.Nat.{ℕ, ◌+◌, ◌%◌, ◌≤◌}
use mathlib.Core.Path.{◌≡◌, sym, ap, ◌∙◌, subst}
use mathlib.Core.Bool.{false}
use mathlib.Core.List.{List, ◌++◌, append_assoc, append-nil}
use native.Mathlib.Omega.{arith}
use lib.ListN.{length, take, drop, length-append, drop_of_length-le}
use lib.Seq.{sets, length-take-le, take_all, take_at, drop_at, sets-eq, length-sets}
use Rattle.std.specs.Prelude.{None}
use Rattle.base.specs.Bytes.{long_at, long_bytes}
use Rattle.scalers.specs.declared.longwords.Way.{Way}
use Rattle.scalers.specs.Scalers.{is_bad, converted_to, longwords_in, row_of, checked_from, converted_row}
use Rattle.scalers.proofs.RowLaws.{longwords_more, converted_more, passes_both}

-- A row converted up to a place ------------------------------------------------------------------------------------------

pub record Converting (way : Way) (row₀ : List ℕ) (row : List ℕ) (at : ℕ) : Type 0 where
  pub whole : at % 4 ≡ 0
  pub as_long : length row ≡ length row₀
  pub passes : checked_from way at (longwords_in (drop at row)) ≡ None
  pub same : take at row ++ converted_row way (drop at row) ≡ converted_row way row₀

module _ {way : Way} {row₀ row : List ℕ} {at : ℕ} (k : Converting way row₀ row at) where
  passed : at + 4 ≤ length row → (is_bad way (long_at row at) ≡ false) × (checked_from way (at + 4) (longwords_in (drop (at + 4) row)) ≡ None)
  passed h = passes_both way at (long_at row at) (longwords_in (drop (at + 4) row)) (ap (checked_from way at) (sym (longwords_more row at h)) ∙ k.passes)

  pub converting_passes : at + 4 ≤ length row → is_bad way (long_at row at) ≡ false
  converting_passes h = (passed h).0

  next : at + 4 ≤ length row → Converting way row₀ (sets row at (long_bytes (converted_to way (long_at row at)))) (at + 4)
  next h =
      let bytes = long_bytes (converted_to way (long_at row at)) in
      let before = take at row ++ bytes in
      let behind = drop (at + 4) row in
      let size : length before ≡ at + 4 = omega (arith, length-append (take at row) bytes, length-take-le at row (omega arith)) in
      let put : sets row at bytes ≡ before ++ behind = sets-eq bytes row at h in
      let rest : drop (at + 4) (sets row at bytes) ≡ behind = ap (drop (at + 4)) put ∙ drop_at before behind (at + 4) size in
      record {
        whole = omega (arith, k.whole);
        as_long = length-sets row at bytes ∙ k.as_long;
        passes = ap (λ (l : List ℕ). checked_from way (at + 4) (longwords_in l)) rest ∙ (passed h).1;
        same =
            ap (λ (l : List ℕ). l ++ converted_row way (drop (at + 4) (sets row at bytes))) (ap (take (at + 4)) put ∙ take_at before behind (at + 4) size)
            ∙ ap (λ (l : List ℕ). before ++ converted_row way l) rest
            ∙ append_assoc (take at row) bytes (converted_row way behind)
            ∙ ap (λ (l : List ℕ). take at row ++ l) (sym (converted_more way row at h))
            ∙ k.same;
      }

  pub converting_next : at + 4 ≤ length row → {row' : List ℕ} {w v : ℕ} → w ≡ long_at row at → v ≡ converted_to way w
      → row' ≡ sets row at (long_bytes v) → Converting way row₀ row' (at + 4)
  converting_next h e f g =
      subst (λ (r : List ℕ). Converting way row₀ r (at + 4)) (sym (g ∙ ap (λ (v : ℕ). sets row at (long_bytes v)) (f ∙ ap (converted_to way) e))) (next h)

  pub converting_end : length row ≤ at → row ≡ converted_row way row₀
  unfolding converted_row row_of longwords_in
  converting_end h =
      sym (ap (λ (l : List ℕ). l ++ converted_row way (drop at row)) (take_all at row h)
      ∙ ap (λ (l : List ℕ). row ++ converted_row way l) (drop_of_length-le row h)
      ∙ append-nil row)
      ∙ k.same
