-- A row of whole demands as pairs of bytes: its demands are theirs, and what is judged or added pair by pair is the row judged or added.
use Prim.Native.Nat.{ℕ, zero, suc, ◌+◌, ◌*◌, ◌/◌, ◌%◌, ◌≤◌, ◌<◌}
use mathlib.Core.Path.{◌≡◌, refl, sym, ap, ◌∙◌}
use mathlib.Core.Bool.{Bool, true, false, ◌&&◌}
use mathlib.Core.List.{List, [], ◌∷◌, map}
use native.Mathlib.Omega.{arith}
use borrow.Author.Tests.{eqb-true, eq-eqb, ne_eqb}
use lib.Dec.{eqb}
use lib.ListN.{length, get_or, drop, drop_of_length-le}
use lib.Seq.{drop-cons}
use Rattle.std.proofs.Math.Bool.{and-true, and_assoc}
use Rattle.std.specs.Simd.{first_chunks}
use Rattle.base.proofs.Bools.{and_left}
use Rattle.demands.specs.declared.Demand.{Demand}
use Rattle.demands.specs.Demands.{demand_of, is_crate, are_crates, is_row, demands_in, added_to, added_all}

abbrev pub demand_in : List ℕ → Demand
demand_in pair = demand_of (get_or pair 0 0) (get_or pair 1 0)

pairs_from : (row : List ℕ) (k : ℕ) → length row ≡ k * 2 → demands_in row ≡ map demand_in (first_chunks 2 k row)
unfolding demands_in
pairs_from [] zero e = refl
pairs_from [] (suc k) e = absurd (omega arith)
pairs_from (c ∷ []) k e = absurd (omega arith)
pairs_from (c ∷ s ∷ row) zero e = absurd (omega arith)
pairs_from (c ∷ s ∷ row) (suc k) e = ap (λ (ds : List Demand). demand_of c s ∷ ds) (pairs_from row k (omega arith))

pub demands_pairs : (row : List ℕ) {pairs : List (List ℕ)} → length row % 2 ≡ 0 → pairs ≡ first_chunks 2 (length row / 2) row
    → demands_in row ≡ map demand_in pairs
demands_pairs row e f = pairs_from row (length row / 2) (omega arith) ∙ ap (map demand_in) (sym f)

-- A row judged -----------------------------------------------------------------------------------------------------------

pub judging_next : (pairs : List (List ℕ)) (i : ℕ) (are : Bool) → i < length pairs
    → are && are_crates (map demand_in (drop i pairs)) ≡ (are && is_crate (get_or (get_or pairs i []) 0 0)) && are_crates (map demand_in (drop (i + 1) pairs))
judging_next pairs i are h =
    let next : i + 1 ≡ suc i = omega arith in
    let p = get_or pairs i [] in
    rw next
    (ap (λ (ps : List (List ℕ)). are && are_crates (map demand_in ps)) (drop-cons pairs i [] h)
    ∙ sym (and_assoc are (is_crate (get_or p 0 0)) (are_crates (map demand_in (drop (suc i) pairs)))))

pub judging_end : (pairs : List (List ℕ)) (i : ℕ) (are : Bool) → length pairs ≤ i → are ≡ are && are_crates (map demand_in (drop i pairs))
judging_end pairs i are h = sym (ap (λ (ps : List (List ℕ)). are && are_crates (map demand_in ps)) (drop_of_length-le pairs h) ∙ and-true are)

pub judged_row : (row : List ℕ) {pairs : List (List ℕ)} → length row % 2 ≡ 0 → pairs ≡ first_chunks 2 (length row / 2) row
    → are_crates (map demand_in pairs) ≡ is_row row
unfolding is_row
judged_row row {pairs = pairs} e f = rw (eq-eqb (length row % 2) 0 e) (ap are_crates (sym (demands_pairs row e f)))

pub odd_row : (row : List ℕ) → ¬ (length row % 2 ≡ 0) → false ≡ is_row row
unfolding is_row
odd_row row h = rw (ne_eqb (length row % 2) 0 h)

pub even_row : (row : List ℕ) → is_row row ≡ true → length row % 2 ≡ 0
unfolding is_row
even_row row e = eqb-true _ _ (and_left (eqb (length row % 2) 0) (are_crates (demands_in row)) e)

-- A row added up to a pair -----------------------------------------------------------------------------------------------

module _ (q : List ℕ) (pairs : List (List ℕ)) (i : ℕ) where
  pub adding_next : i < length pairs
      → added_all (added_to q (demand_in (get_or pairs i []))) (map demand_in (drop (i + 1) pairs)) ≡ added_all q (map demand_in (drop i pairs))
  unfolding added_all
  adding_next h =
      let next : i + 1 ≡ suc i = omega arith in
      rw next (ap (λ (ps : List (List ℕ)). added_all q (map demand_in ps)) (sym (drop-cons pairs i [] h)))

  pub adding_end : length pairs ≤ i → q ≡ added_all q (map demand_in (drop i pairs))
  unfolding added_all
  adding_end h = ap (λ (ps : List (List ℕ)). added_all q (map demand_in ps)) (sym (drop_of_length-le pairs h))
