-- Every answer without a cause brings the run on and lowers the most still possible by at least one: by cases on the Q-mode. In stop and
-- ignore, and in repeat on try R or before it, by exactly one.
use Prim.Native.Nat.{ℕ, zero, suc, ◌+◌, ◌-◌, ◌*◌, ◌≤◌, ◌<◌}
use mathlib.Core.Path.{◌≡◌, refl, ap}
use mathlib.Core.Bool.{Bool, true, false, ◌&&◌, not}
use native.Mathlib.Omega.{arith}
use native.Mathlib.Nat.{mul-le-mul_right}
use borrow.Author.Tests.{ne_eqb, eqb-true, eqb-false}
use lib.Dec.{eqb}
use Rattle.qmodes.specs.Scan.{positions, after_done, after_other, after_answer}
use Rattle.qmodes.specs.declared.modes.QMode.{QMode}
use Rattle.qmodes.specs.declared.modes.QMode.TheVariants.{Stop, Ignore, Repeat, Scan}
use Rattle.qmodes.specs.declared.scan.ScanPosition.{ScanPosition}
use Rattle.base.proofs.Bools.{and_not_left}
use Rattle.base.proofs.Tests.{on}
use Rattle.qmodes.specs.Modes.{done, left_after, ran_off, leaves, scan_leaves, spent, tries_after, position_after, most_left}
use Rattle.qmodes.specs.declared.modes.Answer.{Answer}
use Rattle.qmodes.proofs.ScanFalls.{InRange, scan_some, done_case, other_case, done_falls, other_falls, done_range, other_range, scan_last}

-- What a waiting record may have (`tries_fit`, `position_fits`), as facts
abbrev pub TriesOk : ℕ → QMode → ℕ → Type 0
TriesOk limit Stop tries = tries ≡ 0
TriesOk limit Ignore tries = tries ≡ 0
TriesOk limit Repeat tries = tries < limit
TriesOk limit Scan tries = tries ≡ 0

abbrev pub PositionOk : QMode → ScanPosition → ScanPosition → Type 0
PositionOk Stop from p = p ≡ from
PositionOk Ignore from p = p ≡ from
PositionOk Repeat from p = p ≡ from
PositionOk Scan from p = InRange from p

-- One law serves both halves of demand 3: after any answer a number is at most the count, after the slowest it is the count.
abbrev pub Near : Bool → ℕ → ℕ → Type 0
Near true a b = a ≡ b
Near false a b = a ≤ b

-- the slowest scan has a position for each word left
abbrev pub Room : Bool → QMode → ScanPosition → ℕ → Type 0
Room slow Stop p left = Unit {0}
Room slow Ignore p left = Unit {0}
Room slow Repeat p left = Unit {0}
Room true Scan p left = left ≤ positions p
Room false Scan p left = Unit {0}

-- at least one operation is still possible
pub most_some : (limit : ℕ) (q : QMode) (from p : ScanPosition) (left tries rest : ℕ) → 1 ≤ left → TriesOk limit q tries → PositionOk q from p
    → 1 ≤ most_left limit q p left tries rest
unfolding most_left
most_some limit Stop from p left tries rest hl ht hp = omega arith
most_some limit Ignore from p left tries rest hl ht hp = omega arith
most_some limit Repeat from p left tries rest hl ht hp = omega (arith, mul-le-mul_right limit hl)
most_some limit Scan from p left tries rest hl ht hp = scan_some limit p left rest hp.station hp.subaddress hl

-- how an answer without a cause brings a run on: to the next instruction, its last word done or, never in the slowest run, its block closed; or
-- to the next word or try of this one
pub data Progress (slow : Bool) (limit : ℕ) (q : QMode) (from p : ScanPosition) (left tries rest : ℕ) (is_done : Bool) : Type 0 where
  finished : is_done ≡ true → left ≡ 1 → Near slow (rest + 1) (most_left limit q p left tries rest)
      → Progress slow limit q from p left tries rest is_done
  closed : slow ≡ false → is_done ≡ false → q ≡ Stop → Near slow (rest + 1) (most_left limit q p left tries rest)
      → Progress slow limit q from p left tries rest is_done
  going : 1 ≤ left_after q is_done left → TriesOk limit q (tries_after q is_done tries)
      → PositionOk q from (position_after q is_done p)
      → Room slow q (position_after q is_done p) (left_after q is_done left)
      → Near slow (most_left limit q (position_after q is_done p) (left_after q is_done left) (tries_after q is_done tries) rest + 1)
      (most_left limit q p left tries rest)
      → Progress slow limit q from p left tries rest is_done

mul_pred : (left limit : ℕ) → 1 ≤ left → left * limit ≡ (left - 1) * limit + limit
mul_pred zero limit h = absurd (omega arith)
mul_pred (suc l) limit h = let e : suc l - 1 ≡ l = omega arith in rw e (omega arith)

near_eq : (slow : Bool) (a b : ℕ) → a ≡ b → Near slow a b
near_eq true a b e = e
near_eq false a b e = omega arith

module _ (limit : ℕ) (from p : ScanPosition) (left tries rest : ℕ) (some : 1 ≤ left) where
  -- stop and ignore: a word done, in any run
  pub stop_done : (slow : Bool) → PositionOk Stop from p → Progress slow limit Stop from p left tries rest true
  unfolding most_left tries_after position_after
  stop_done slow hp = go (eqb left 1) refl
    where
      go : (b : Bool) → eqb left 1 ≡ b → Progress slow limit Stop from p left tries rest true
      go true e = finished refl (eqb-true _ _ e) (near_eq slow _ _ (omega (arith, eqb-true left 1 e)))
      go false e =
          let two : left ≡ 1 → ⊥ = eqb-false left 1 e in
          going (omega arith) refl hp tt (near_eq slow _ _ (omega arith))

  -- stop: a block closed, which the slowest answer never does
  stop_closed : Progress false limit Stop from p left tries rest false
  unfolding most_left
  stop_closed = closed refl refl refl (omega arith)

  pub ignore_done : (slow : Bool) → PositionOk Ignore from p → Progress slow limit Ignore from p left tries rest true
  unfolding most_left tries_after position_after
  ignore_done slow hp = go (eqb left 1) refl
    where
      go : (b : Bool) → eqb left 1 ≡ b → Progress slow limit Ignore from p left tries rest true
      go true e = finished refl (eqb-true _ _ e) (near_eq slow _ _ (omega (arith, eqb-true left 1 e)))
      go false e =
          let two : left ≡ 1 → ⊥ = eqb-false left 1 e in
          going (omega arith) refl hp tt (near_eq slow _ _ (omega arith))

  -- repeat: an answer that does the word; in the slowest run it comes on try R
  pub repeat_done : (slow : Bool) → TriesOk limit Repeat tries → PositionOk Repeat from p
      → Near slow (tries + 1) limit
      → Progress slow limit Repeat from p left tries rest true
  unfolding most_left tries_after position_after
  repeat_done slow ht hp hn = go (eqb left 1) refl
    where
      near_one : (slow : Bool) → Near slow (tries + 1) limit → left ≡ 1 → Near slow (rest + 1) (left * limit - tries + rest)
      near_one true h e = omega (arith, ap (λ (x : ℕ). x * limit) e)
      near_one false h e = omega (arith, ap (λ (x : ℕ). x * limit) e)

      near_more : (slow : Bool) → Near slow (tries + 1) limit
          → Near slow ((left - 1) * limit - 0 + rest + 1) (left * limit - tries + rest)
      near_more true h = omega (arith, mul_pred left limit some)
      near_more false h = omega (arith, mul_pred left limit some)

      go : (b : Bool) → eqb left 1 ≡ b → Progress slow limit Repeat from p left tries rest true
      go true e = finished refl (eqb-true _ _ e) (near_one slow hn (eqb-true _ _ e))
      go false e =
          let two : left ≡ 1 → ⊥ = eqb-false left 1 e in
          going (omega arith) (omega arith) hp tt (near_more slow hn)

  -- repeat: an answer that does not, before try R
  pub repeat_again : (slow : Bool) → tries + 1 < limit → PositionOk Repeat from p → Progress slow limit Repeat from p left tries rest false
  unfolding most_left tries_after position_after
  repeat_again slow ht hp = going some (omega arith) hp tt (near_eq slow _ _ (omega (arith, mul-le-mul_right limit some)))

  -- scan: any answer at which the scan does not leave
  scan_any : (b : Bool) → TriesOk limit Scan tries → PositionOk Scan from p
      → ran_off (after_answer b p) && not (eqb (left_after Scan b left) 0) ≡ false → Progress false limit Scan from p left tries rest b
  unfolding tries_after position_after
  scan_any true ht hp stays = go (eqb left 1) refl
    where
      go : (b : Bool) → eqb left 1 ≡ b → Progress false limit Scan from p left tries rest true
      go true e = finished refl (eqb-true _ _ e) (rw ht (scan_last limit from p left rest hp (eqb-true _ _ e)))
      go false e =
          let two : left ≡ 1 → ⊥ = eqb-false left 1 e in
          let on : ran_off (after_done p) ≡ false =
          and_not_left (ran_off (after_done p)) (ne_eqb (left - 1) 0 (omega arith)) stays in
          going (omega arith) refl (done_range from p hp (done_case p) on) tt
          (rw ht (done_falls limit p left rest hp.station hp.subaddress (omega arith) (done_case p) on))
  scan_any false ht hp stays =
      let on : ran_off (after_other p) ≡ false =
      and_not_left (ran_off (after_other p)) (ne_eqb left 0 (omega arith)) stays in
      going some refl (other_range from p hp (other_case p) on) tt
      (rw ht (other_falls limit p left rest hp.station hp.subaddress some (other_case p) on))

-- any answer without a cause
pub answer_progress : (limit : ℕ) (q : QMode) (from p : ScanPosition) (left tries rest : ℕ) (a : Answer) → 1 ≤ left
    → TriesOk limit q tries → PositionOk q from p → spent limit q a tries ≡ false
    → scan_leaves q a p left ≡ false → Progress false limit q from p left tries rest (done q a)
unfolding leaves
answer_progress limit Stop from p left tries rest a some ht hp hs hv =
    on a.q
    (λ e. rw e (stop_done limit from p left tries rest some false hp))
    (λ e. rw e (stop_closed limit from p left tries rest some))
answer_progress limit Ignore from p left tries rest a some ht hp hs hv = ignore_done limit from p left tries rest some false hp
answer_progress limit Repeat from p left tries rest a some ht hp hs hv = go a.q hs
  where
    go : (b : Bool) → not b && eqb (tries + 1) limit ≡ false → Progress false limit Repeat from p left tries rest b
    go true e = repeat_done limit from p left tries rest some false ht hp (omega arith)
    go false e =
        let other : tries + 1 ≡ limit → ⊥ = eqb-false (tries + 1) limit e in
        repeat_again limit from p left tries rest some false (omega arith) hp
answer_progress limit Scan from p left tries rest a some ht hp hs hv = scan_any limit from p left tries rest some (done Scan a) ht hp hv
