-- One field more of the pass, for a loop that counts by n + 1: the fields from the start are those passed, in front of those from here on.
-- Entry k of a right table is the place of field k of the fields passed.
use Prim.Native.Nat.{ℕ, zero, suc, ◌+◌, ◌-◌, ◌≤◌, ◌<◌}
use mathlib.Core.Path.{◌≡◌, refl, sym, ap, ◌∙◌, subst}
use mathlib.Core.Logic.{◌⊎◌, ⊎_elim}
use mathlib.Core.Bool.{Bool, true, false}
use mathlib.Core.List.{List, [], ◌∷◌, ◌++◌, append_assoc}
use mathlib.Core.Option.{none, some}
use native.Mathlib.Omega.{arith}
use native.Mathlib.Numerals.{add-one}
use native.Mathlib.Nat.{le_of_suc-le-suc, eq-or-lt_of_le}
use borrow.Author.Tests.{lt-leb}
use lib.ListN.{length, get_or, set, drop, length-append, get_or-append}
use lib.Seq.{get_or-set_same, get_or-set_other, drop-cons, drop-nil, get_or-append_seam}
use Rattle.std.specs.Prelude.{if◌then◌else◌}
use Rattle.listfile.specs.Fields.{next_field, field_of, Field, Fields, faulty, fields, ahead, fields_from, bad_target, first_bad_jump}
use Rattle.listfile.specs.model.Table.{instruction_at, place_of, first_fields, FieldPassed, TableRight, TargetBelow, Beyond}
use Rattle.listfile.specs.declared.field.Instruction.{Instruction}
use Rattle.listfile.specs.declared.field.Instruction.TheVariants.{Camac, Jump, Literal, Halt}
use Rattle.std.specs.Prelude.{Ok, Err}
use Rattle.listfile.proofs.FieldLaws.{read_again}
use Rattle.listfile.proofs.Unrolled.{fields_end, fields_on}

one_less : (k : ℕ) → k ≡ suc k - 1
one_less k = omega arith

-- the field at a place, read without its checks
abbrev pub here : List ℕ → ℕ → Field
here list at = record { place = at; instruction = instruction_at list at }

-- fields in front of others
abbrev pub prefixed : List Field → Fields → Fields
prefixed fs (faulty r) = faulty r
prefixed fs (fields gs) = fields (fs ++ gs)

prefixed_more : (fs : List Field) (f : Field) (rest : Fields)
    → prefixed fs (ahead f rest) ≡ prefixed (fs ++ f ∷ []) rest
prefixed_more fs f (faulty r) = refl
prefixed_more fs f (fields gs) = ap fields (sym (append_assoc fs (f ∷ []) gs))

prefixed_none : (x : Fields) → x ≡ prefixed [] x
prefixed_none (faulty r) = refl
prefixed_none (fields gs) = refl

pub pass_start : (list : List ℕ)
    → fields_from (length list) list 7 0 ≡ prefixed (first_fields list 0) (fields_from (length list - 0) list 7 0)
unfolding first_fields
pass_start list =
    let z : length list - 0 ≡ length list = omega arith in rw z (prefixed_none (fields_from (length list) list 7 0))

pub pass_refused : (list : List ℕ) (at n fuel : ℕ) (fs : List Field) (number : ℕ) → 0 < fuel → at < length list
    → field_of list at n ≡ Err number → prefixed fs (fields_from fuel list at n) ≡ faulty (record { number = number; place = at })
pass_refused list at n zero fs number u h e = absurd (omega arith)
pass_refused list at n (suc fuel) fs number u h e = rw (fields_on fuel list at n h, e)

fields_step : (list : List ℕ) (at n fuel : ℕ) (i : Instruction) → at < length list → field_of list at n ≡ Ok i
    → fields_from (suc fuel) list at n ≡ ahead (here list at) (fields_from fuel list (next_field list at) (n + 1))
fields_step list at n fuel i h e = rw (fields_on fuel list at n h, e, read_again list at n i e)

fields_more : (list : List ℕ) (at n : ℕ) → at ≡ place_of list n
    → first_fields list n ++ here list at ∷ [] ≡ first_fields list (n + 1)
unfolding first_fields
fields_more list at n e = rw (add-one n, e)

pub pass_more : (list : List ℕ) (at n fuel next : ℕ) (i : Instruction) → 0 < fuel → at < length list
    → field_of list at n ≡ Ok i → at ≡ place_of list n → next ≡ next_field list at
    → prefixed (first_fields list n) (fields_from fuel list at n) ≡ prefixed (first_fields list (n + 1))
    (fields_from (fuel - 1) list next (n + 1))
pass_more list at n zero next i u h e a l = absurd (omega arith)
pass_more list at n (suc fuel) next i u h e a l =
    rw (← one_less fuel, l, ← fields_more list at n a, fields_step list at n fuel i h e)
    (prefixed_more (first_fields list n) (here list at) (fields_from fuel list (next_field list at) (n + 1)))

pub pass_turn : (list : List ℕ) (at n next : ℕ) (i : Instruction) → n < length list → at < length list
    → field_of list at n ≡ Ok i → at ≡ place_of list n → next ≡ next_field list at
    → prefixed (first_fields list n) (fields_from (length list - n) list at n) ≡ prefixed (first_fields list (n + 1))
    (fields_from (length list - (n + 1)) list next (n + 1))
pass_turn list at n next i u h e a l =
    let z : length list - (n + 1) ≡ length list - n - 1 = omega arith in
    rw z (pass_more list at n (length list - n) next i (omega arith) h e a l)

pub pass_end : (list : List ℕ) (at n fuel : ℕ) → 0 < fuel → length list ≤ at
    → prefixed (first_fields list n) (fields_from fuel list at n) ≡ fields (first_fields list n)
pass_end list at n zero u h = absurd (omega arith)
pass_end list at n (suc fuel) u h = rw (fields_end fuel list at n h) (ap fields (append_none (first_fields list n)))
  where
    append_none : (fs : List Field) → fs ++ [] ≡ fs
    append_none [] = refl
    append_none (f ∷ fs) = ap (λ (x : List Field). f ∷ x) (append_none fs)

-- The table ----------------------------------------------------------------------------------------------------------------

pub place_more : (list : List ℕ) (at n next : ℕ) → at ≡ place_of list n → next ≡ next_field list at
    → next ≡ place_of list (n + 1)
unfolding place_of
place_more list at n next e l = rw (add-one n, l, e)

pub table_none : (list table : List ℕ) → TableRight list table 0
table_none list table = record { entry = λ k h. absurd (omega arith); passed = λ k h. absurd (omega arith) }

below_next : (k n : ℕ) → k < n + 1 → (k ≡ n) ⊎ (k < n)
below_next k n h = eq-or-lt_of_le (le_of_suc-le-suc (rw (add-one n) at h))

pub table_more : (list table : List ℕ) (at n : ℕ) (i : Instruction) → TableRight list table n → n < length table → at ≡ place_of list n
    → field_of list at n ≡ Ok i → TableRight list (set table n at) (n + 1)
table_more list table at n i t h e r = record {
  entry = λ k l.
      ⊎_elim
      (λ p. rw p (get_or-set_same table n at 0 h ∙ e))
      (λ b. get_or-set_other table n k at 0 (λ q. omega arith) ∙ t.entry k b)
      (below_next k n l);
  passed = λ k l. ⊎_elim (λ p. rw p (subst (FieldPassed list) e (record { count = n; read = r ∙ ap Ok (read_again list at n i r) }))) (λ b. t.passed k b) (below_next k n l);
}

-- Jumps --------------------------------------------------------------------------------------------------------------------

above_more : (x y : ℕ) (i : Instruction) → x ≤ y → TargetBelow x i → TargetBelow y i
above_more x y (Camac c) h t = tt
above_more x y (Jump target) h t = omega arith
above_more x y (Literal v) h t = tt
above_more x y Halt h t = tt

pub beyond_none : (list : List ℕ) (x : ℕ) → Beyond list 0 x
beyond_none list x = record { target = λ k h. absurd (omega arith) }

pub beyond_more : (list : List ℕ) (at n x y : ℕ) (i : Instruction) → Beyond list n x → at ≡ place_of list n → field_of list at n ≡ Ok i
    → x ≤ y → TargetBelow y i → Beyond list (n + 1) y
beyond_more list at n x y i b e r h t = record {
  target = λ k l.
      ⊎_elim
      (λ p. rw p (subst (λ (a : ℕ). TargetBelow y (instruction_at list a)) e (subst (TargetBelow y) (read_again list at n i r) t)))
      (λ l. above_more x y (instruction_at list (place_of list k)) h (b.target k l))
      (below_next k n l);
}

pub count_fields : (list : List ℕ) (n : ℕ) → length (first_fields list n) ≡ n
unfolding first_fields
count_fields list zero = refl
count_fields list (suc n) =
    length-append (first_fields list n) (here list (place_of list n) ∷ []) ∙ rw (count_fields list n) (omega arith)

pub entry_field : (list : List ℕ) (n k : ℕ) (d : Field) → k < n
    → get_or (first_fields list n) k d ≡ here list (place_of list k)
unfolding first_fields
entry_field list zero k d h = absurd (omega arith)
entry_field list (suc n) k d h =
    ⊎_elim
    (λ e. rw e
    (ap (λ (j : ℕ). get_or (first_fields list n ++ here list (place_of list n) ∷ []) j d) (sym (count_fields list n))
    ∙ get_or-append_seam (first_fields list n) (here list (place_of list n)) [] d))
    (λ b. get_or-append (first_fields list n) (here list (place_of list n) ∷ []) d k (rw (count_fields list n) b)
    ∙ entry_field list n k d b)
    (eq-or-lt_of_le (le_of_suc-le-suc h))

pub from_field : (list : List ℕ) (n k : ℕ) → k < n
    → drop k (first_fields list n) ≡ here list (place_of list k) ∷ drop (k + 1) (first_fields list n)
from_field list n k h =
    rw add-one
    (drop-cons (first_fields list n) k (here list 0) (rw (count_fields list n) h) ∙ rw
    (entry_field list n k (here list 0) h))

-- Refusal 10 ---------------------------------------------------------------------------------------------------------------

module _ (list table : List ℕ) (n k at : ℕ) (i : Instruction) (h : k < n) (right : TableRight list table n) (ea : at ≡ get_or table k 0)
    (ei : i ≡ instruction_at list at) where
  pub jumps_bad : true ≡ bad_target n i → first_bad_jump n (drop k (first_fields list n)) ≡ some at
  unfolding first_bad_jump
  jumps_bad b = rw (from_field list n k h, ← right.entry k h, ← ea, ← ei, ← b)

  pub jumps_more : false ≡ bad_target n i
      → first_bad_jump n (drop k (first_fields list n)) ≡ first_bad_jump n (drop (k + 1) (first_fields list n))
  unfolding first_bad_jump
  jumps_more b = rw (from_field list n k h, ← right.entry k h, ← ea, ← ei, ← b)

drop_past : (fs : List Field) (k : ℕ) → length fs ≤ k → drop k fs ≡ []
drop_past [] k h = drop-nil k
drop_past (f ∷ fs) zero h = absurd (omega arith)
drop_past (f ∷ fs) (suc k) h = drop_past fs k (omega arith)

-- a field more, whose jump leads to one of the instructions
right_more : (m : ℕ) (fs : List Field) (f : Field) → first_bad_jump m fs ≡ none → bad_target m f.instruction ≡ false
    → first_bad_jump m (fs ++ f ∷ []) ≡ none
unfolding first_bad_jump
right_more m [] f e h = rw h
right_more m (g ∷ fs) f e h = go (bad_target m g.instruction) e (λ e. right_more m fs f e h)
  where
    go : (b : Bool) → (if b then some g.place else first_bad_jump m fs) ≡ none → (first_bad_jump m fs ≡ none → first_bad_jump m (fs ++ f ∷ []) ≡ none)
        → (if b then some g.place else first_bad_jump m (fs ++ f ∷ [])) ≡ none
    go true e ih = e
    go false e ih = ih e

right_target : (m x : ℕ) (i : Instruction) → x ≤ m → TargetBelow x i → bad_target m i ≡ false
right_target m x (Camac c) h t = refl
right_target m x (Jump target) h t = lt-leb m target (omega arith)
right_target m x (Literal v) h t = refl
right_target m x Halt h t = refl

-- where no jump leads past the last instruction, none is bad
pub jumps_within : (list : List ℕ) (n m x : ℕ) → Beyond list n x → x ≤ m → first_bad_jump m (first_fields list n) ≡ none
unfolding first_fields first_bad_jump
jumps_within list zero m x b h = refl
jumps_within list (suc n) m x b h =
    right_more m (first_fields list n) (here list (place_of list n))
    (jumps_within list n m x (record { target = λ k l. b.target k (omega arith) }) h)
    (right_target m x (instruction_at list (place_of list n)) h (b.target n (omega arith)))

pub jumps_right : (list : List ℕ) (n k : ℕ) → n ≤ k → first_bad_jump n (drop k (first_fields list n)) ≡ none
unfolding first_bad_jump
jumps_right list n k h = rw (drop_past (first_fields list n) k (rw (count_fields list n) h))
