-- The slowest answer ends nothing, and lowers the most still possible by exactly one: by cases on the Q-mode. A scan that misses does so where
-- it has a position or a station to spare.
use Prim.Native.Nat.{ℕ, ◌+◌, ◌-◌, ◌≤◌, ◌<◌}
use mathlib.Core.Path.{◌≡◌, refl, sym, ◌∙◌}
use mathlib.Core.Logic.{◌⊎◌, inl, inr}
use mathlib.Core.Bool.{Bool, true, false, ◌&&◌, not, true≢false, and-true, and-false}
use native.Mathlib.Omega.{arith}
use borrow.Author.Tests.{eq-eqb, eqb-true, eqb-false, lt-ltb, ltb-true}
use lib.Dec.{eqb, ltb}
use Rattle.qmodes.specs.Scan.{positions, after_done, after_answer}
use Rattle.qmodes.specs.Modes.{done, leaves, scan_leaves, ran_off, left_after, spent, no_qin_stop, closes, tries_after, position_after, misses, slowest_q}
use Rattle.qmodes.specs.declared.modes.QMode.{QMode}
use Rattle.qmodes.specs.declared.modes.QMode.TheVariants.{Stop, Ignore, Repeat, Scan}
use Rattle.qmodes.specs.declared.modes.Answer.{Answer}
use Rattle.qmodes.specs.declared.scan.ScanPosition.{ScanPosition}
use Rattle.base.proofs.Bools.{both, and_left, and_right, or_cases, or_left, or_right}
use Rattle.qmodes.proofs.ScanFalls.{done_case, other_case, done_range, other_range, miss_exact, done_exact, last_exact}
use Rattle.qmodes.proofs.MostFalls.{TriesOk, PositionOk, Room, Progress, finished, going, stop_done, ignore_done, repeat_done, repeat_again}

abbrev pub slowest_answer : Bool → Answer
slowest_answer q = record { q = q; x = true; err = false; derr = false; tpe = false; lpe = false; word = 0 }

pub record Slowest (limit : ℕ) (q : QMode) (from p : ScanPosition) (left tries rest : ℕ) : Type 0 where
  pub unspent : spent limit q (slowest_answer (slowest_q limit q left tries p)) tries ≡ false
  pub stays : scan_leaves q (slowest_answer (slowest_q limit q left tries p)) p left ≡ false
  pub answers_q : (is_block : Bool) → no_qin_stop q is_block (slowest_answer (slowest_q limit q left tries p)) ≡ false
  pub closes_none : (is_block : Bool) → closes q is_block (slowest_answer (slowest_q limit q left tries p)) ≡ false
  pub progress : Progress true limit q from p left tries rest (done q (slowest_answer (slowest_q limit q left tries p)))

not_misses : (p : ScanPosition) (left : ℕ) → misses p left ≡ false → p.station < 23
    → (p.subaddress ≡ 15 → left < positions p → ⊥) × (left ≡ 1 → ⊥)
unfolding misses
not_misses p left e hn = (
  λ ha hp. true≢false (sym (both (lt-ltb _ _ hn) (or_left (eqb left 1) (both (eq-eqb _ _ ha) (lt-ltb _ _ hp)))) ∙ e),
  λ hl. true≢false (sym (both (lt-ltb _ _ hn) (or_right (eqb p.subaddress 15 && ltb left (positions p)) (eq-eqb _ _ hl))) ∙ e),
)

does_miss : (p : ScanPosition) (left : ℕ) → misses p left ≡ true
    → (p.station < 23) × (((p.subaddress ≡ 15) × (left < positions p)) ⊎ (left ≡ 1))
unfolding misses
does_miss p left e = (
  ltb-true _ _ (and_left _ _ e),
  why (or_cases (eqb p.subaddress 15 && ltb left (positions p)) (eqb left 1)
      (and_right (ltb p.station 23) _ e)),
)
  where
    why : ((eqb p.subaddress 15 && ltb left (positions p)) ≡ true) ⊎ (eqb left 1 ≡ true)
        → ((p.subaddress ≡ 15) × (left < positions p)) ⊎ (left ≡ 1)
    why (inl h) = inl (eqb-true _ _ (and_left _ _ h), ltb-true _ _ (and_right (eqb p.subaddress 15) _ h))
    why (inr h) = inr (eqb-true _ _ h)

module _ (limit : ℕ) (from p : ScanPosition) (left tries rest : ℕ) (some : 1 ≤ left) where
  slowest_scan : TriesOk limit Scan tries → PositionOk Scan from p → left ≤ positions p
      → (m : Bool) → misses p left ≡ m
      → (ran_off (after_answer (not m) p) && not
      (eqb (left_after Scan (not m) left) 0) ≡ false) × Progress true limit Scan from p left tries rest (not m)
  unfolding tries_after position_after
  slowest_scan ht hp room true e =
      let c = does_miss p left e in
      let x = miss_exact limit from p left rest hp some room c.0 c.1 (other_case p) in
      (rw x.0, going some refl (other_range from p hp (other_case p) x.0) x.1.room (rw ht x.1.exact))
  slowest_scan ht hp room false e = go (eqb left 1) refl
    where
      go : (b : Bool) → eqb left 1 ≡ b
          → (ran_off (after_done p) && not (eqb (left - 1) 0) ≡ false) × Progress true limit Scan from p left tries rest true
      go true f =
          let one : left ≡ 1 = eqb-true _ _ f in
          let far : ¬ (p.station < 23) = λ hn. (not_misses p left e hn).1 one in (
            rw (eq-eqb (left - 1) 0 (omega arith)) (and-false (ran_off (after_done p))),
            finished refl one (rw ht (last_exact limit from p left rest hp one (omega arith))),
          )
      go false f =
          let two : ¬ (left ≡ 1) = eqb-false left 1 f in
          let x = done_exact limit from p left rest hp (omega arith) room (λ hn. (not_misses p left e hn).0)
          (done_case p) in
          (rw x.0, going (omega arith) refl (done_range from p hp (done_case p) x.0) x.1.room (rw ht x.1.exact))

  slowest_repeat : TriesOk limit Repeat tries → PositionOk Repeat from p → (b : Bool) → eqb (tries + 1) limit ≡ b
      → (not b && eqb (tries + 1) limit ≡ false) × Progress true limit Repeat from p left tries rest b
  slowest_repeat ht hp true e = (refl, repeat_done limit from p left tries rest some true ht hp (eqb-true _ _ e))
  slowest_repeat ht hp false e =
      let other : tries + 1 ≡ limit → ⊥ = eqb-false (tries + 1) limit e in
      (e, repeat_again limit from p left tries rest some true (omega arith) hp)

  pub slowest_at_lem : (q : QMode) → TriesOk limit q tries → PositionOk q from p → Room true q p left
      → Slowest limit q from p left tries rest
  unfolding slowest_q leaves
  slowest_at_lem Stop ht hp room = record { unspent = refl; stays = refl; answers_q = λ b. refl; closes_none = λ b. refl; progress = stop_done limit from p left tries rest some true hp }
  slowest_at_lem Ignore ht hp room = record { unspent = refl; stays = refl; answers_q = λ b. refl; closes_none = λ b. refl; progress = ignore_done limit from p left tries rest some true hp }
  slowest_at_lem Repeat ht hp room =
      let x = slowest_repeat ht hp (eqb (tries + 1) limit) refl in
      record { unspent = x.0; stays = refl; answers_q = λ b. refl; closes_none = λ b. refl; progress = x.1 }
  slowest_at_lem Scan ht hp room =
      let x = slowest_scan ht hp room (misses p left) refl in
      record {
        unspent = refl;
        stays = rw (and-true (not (misses p left))) x.0;
        answers_q = λ b. refl;
        closes_none = λ b. refl;
        progress = rw (and-true (not (misses p left))) x.1;
      }
