-- The arithmetic of a scan: each answer lowers the most still possible by at least one, because it takes at least one position and at least
-- one from n - 1 + S; the slowest answer lowers the lesser of the two by exactly one.
use Prim.Native.Nat.{ℕ, ◌+◌, ◌-◌, ◌*◌, ◌≤◌, ◌<◌, min}
use mathlib.Core.Path.{◌≡◌, refl}
use mathlib.Core.Bool.{Bool, true, false, true≢false}
use mathlib.Core.Logic.{◌⊎◌, inl, inr}
use native.Mathlib.Omega.{arith}
use lib.Dec.{leb, ltb}
use borrow.Author.Tests.{ltb-true, ltb-false, leb-true, leb-false, le-leb, lt-leb}
use Rattle.std.specs.Prelude.{Option, Some, None, if◌then◌else◌}
use Rattle.qmodes.specs.Scan.{stations, positions, after_done, after_other}
use Rattle.qmodes.specs.declared.modes.QMode.TheVariants.{Scan}
use Rattle.qmodes.specs.declared.scan.ScanPosition.{ScanPosition}
use Rattle.qmodes.specs.Modes.{ran_off, reached, most_left}

-- the outcomes of a step to the next station, and of a step of the subaddress
pub data OtherCase (p : ScanPosition) : Option ScanPosition → Type 0 where
  next_station : p.station < 23 → OtherCase p (Some (record { station = p.station + 1; subaddress = 0 }))
  runs_off : 23 ≤ p.station → OtherCase p None

pub data DoneCase (p : ScanPosition) : Option ScanPosition → Type 0 where
  next_subaddress : p.subaddress < 15 → DoneCase p (Some (record { station = p.station; subaddress = p.subaddress + 1 }))
  as_other : 15 ≤ p.subaddress → {x : Option ScanPosition} → OtherCase p x → DoneCase p x

pub other_case : (p : ScanPosition) → OtherCase p (after_other p)
unfolding after_other
other_case p = go (ltb p.station 23) refl
  where
    go : (t : Bool) → ltb p.station 23 ≡ t → OtherCase p (if t then Some (record { station = p.station + 1; subaddress = 0 }) else None)
    go true e = next_station (ltb-true _ _ e)
    go false e = runs_off (ltb-false _ _ e)

pub done_case : (p : ScanPosition) → DoneCase p (after_done p)
unfolding after_done
done_case p = go (ltb p.subaddress 15) refl
  where
    go : (t : Bool) → ltb p.subaddress 15 ≡ t
        → DoneCase p (if t then Some (record { station = p.station; subaddress = p.subaddress + 1 }) else after_other p)
    go true e = next_subaddress (ltb-true _ _ e)
    go false e = as_other (ltb-false _ _ e) (other_case p)

-- the most still possible of a scan with no tries, by cases
pub scan_within : (limit : ℕ) (p : ScanPosition) (left rest : ℕ) → left ≤ positions p
    → most_left limit Scan p left 0 rest ≡ min (positions p) (left - 1 + stations p) + rest
unfolding most_left
scan_within limit p left rest h = simp (le-leb _ _ h) (omega arith)

pub scan_over : (limit : ℕ) (p : ScanPosition) (left rest : ℕ) → positions p < left → most_left limit Scan p left 0 rest ≡ positions p
unfolding most_left
scan_over limit p left rest h = simp (lt-leb _ _ h)

-- at least one position or one answer is left
pub scan_some : (limit : ℕ) (p : ScanPosition) (left rest : ℕ) → p.station ≤ 23 → p.subaddress ≤ 15 → 1 ≤ left
    → 1 ≤ most_left limit Scan p left 0 rest
unfolding positions stations
scan_some limit p left rest hn ha hl = go (leb left (positions p)) refl
  where
    go : (t : Bool) → leb left (positions p) ≡ t → 1 ≤ most_left limit Scan p left 0 rest
    go true e = omega (arith, scan_within limit p left rest (leb-true _ _ e))
    go false e = omega (arith, scan_over limit p left rest (leb-false _ _ e))

-- a step from (p, left) to (p', left'), where both fall as a scan's answer has them fall
module _ (limit : ℕ) (p p' : ScanPosition) (left left' rest : ℕ) (hn : p.station ≤ 23) (ha : p.subaddress ≤ 15) (hl : 1 ≤ left') where
  -- P drops by at least one, the words left by at most one and not more than P, and the bound n - 1 + S by at least one
  falls : positions p' + 1 ≤ positions p → left' ≤ left → left' - 1 + stations p' + 1 ≤ left - 1 + stations p
      → (positions p < left → positions p' < left')
      → most_left limit Scan p' left' 0 rest + 1 ≤ most_left limit Scan p left 0 rest
  falls hp hll hs over = go (leb left (positions p)) refl (leb left' (positions p')) refl
    where
      go : (t : Bool) → leb left (positions p) ≡ t → (u : Bool) → leb left' (positions p') ≡ u
          → most_left limit Scan p' left' 0 rest + 1 ≤ most_left limit Scan p left 0 rest
      go true e true e' = omega (arith, scan_within limit p left rest (leb-true _ _ e), scan_within limit p' left' rest (leb-true _ _ e'))
      go true e false e' = omega (
        arith,
        scan_within limit p left rest (leb-true _ _ e),
        scan_over limit p' left' rest
            (leb-false _ _ e'),
        leb-false left' (positions p') e',
      )
      go false e true e' = omega (arith, over (leb-false left (positions p) e), leb-true left' (positions p') e')
      go false e false e' = omega (arith, scan_over limit p left rest (leb-false _ _ e), scan_over limit p' left' rest (leb-false _ _ e'))

-- a done word with words left after it, and a miss, where the scan does not leave
pub done_falls : (limit : ℕ) (p : ScanPosition) (left rest : ℕ) → p.station ≤ 23 → p.subaddress ≤ 15 → 2 ≤ left → {x : Option ScanPosition} → DoneCase p x
    → ran_off x ≡ false
    → most_left limit Scan (reached p x) (left - 1) 0 rest + 1 ≤ most_left limit Scan p left 0 rest
unfolding positions stations
done_falls limit p left rest hn ha hl (next_subaddress h) e =
    falls limit p (record { station = p.station; subaddress = p.subaddress + 1 }) left (left - 1) rest hn ha (omega arith) (omega arith)
    (omega arith) (omega arith) (λ k. omega arith)
done_falls limit p left rest hn ha hl (as_other h (next_station g)) e =
    falls limit p (record { station = p.station + 1; subaddress = 0 }) left (left - 1) rest hn ha (omega arith) (omega arith) (omega arith)
    (omega arith) (λ k. omega arith)
done_falls limit p left rest hn ha hl (as_other h (runs_off g)) e = absurd (true≢false e)

pub other_falls : (limit : ℕ) (p : ScanPosition) (left rest : ℕ) → p.station ≤ 23 → p.subaddress ≤ 15 → 1 ≤ left → {x : Option ScanPosition} → OtherCase p x
    → ran_off x ≡ false
    → most_left limit Scan (reached p x) left 0 rest + 1 ≤ most_left limit Scan p left 0 rest
unfolding positions stations
other_falls limit p left rest hn ha hl (next_station g) e =
    falls limit p (record { station = p.station + 1; subaddress = 0 }) left left rest hn ha hl (omega arith) (omega arith) (omega arith)
    (λ k. omega arith)
other_falls limit p left rest hn ha hl (runs_off g) e = absurd (true≢false e)

-- the position stays in the range that the record's check allows
pub record InRange (from p : ScanPosition) : Type 0 where
  pub station : p.station ≤ 23
  pub subaddress : p.subaddress ≤ 15
  pub onward : from.station * 16 + from.subaddress ≤ p.station * 16 + p.subaddress

pub other_range : (from p : ScanPosition) → InRange from p → {x : Option ScanPosition} → OtherCase p x → ran_off x ≡ false → InRange from (reached p x)
other_range from p r (next_station g) e = record { station = omega arith; subaddress = omega arith; onward = omega arith }
other_range from p r (runs_off g) e = absurd (true≢false e)

pub done_range : (from p : ScanPosition) → InRange from p → {x : Option ScanPosition} → DoneCase p x → ran_off x ≡ false → InRange from (reached p x)
done_range from p r (next_subaddress h) e = record { station = r.station; subaddress = omega arith; onward = omega arith }
done_range from p r (as_other h s) e = other_range from p r s e

-- the last word of a scan: one operation and the rest at least; exactly that at station 23
pub scan_last : (limit : ℕ) (from p : ScanPosition) (left rest : ℕ) → InRange from p → left ≡ 1 → rest + 1 ≤ most_left limit Scan p left 0 rest
unfolding positions stations
scan_last limit from p left rest h e = omega
    (arith, scan_within limit p left rest (omega (arith, h.station, h.subaddress)), h.station, h.subaddress)

-- The slowest scan -------------------------------------------------------------------------------------------------------

pub record Exactly (limit : ℕ) (p p' : ScanPosition) (left left' rest : ℕ) : Type 0 where
  pub room : left' ≤ positions p'
  pub exact : most_left limit Scan p' left' 0 rest + 1 ≡ most_left limit Scan p left 0 rest

exactly : (limit : ℕ) (p p' : ScanPosition) (left left' rest : ℕ) → left ≤ positions p → left' ≤ positions p'
    → min (positions p') (left' - 1 + stations p') + 1 ≡ min (positions p) (left - 1 + stations p) → Exactly limit p p' left left' rest
exactly limit p p' left left' rest h h' e =
    record { room = h'; exact = omega (arith, scan_within limit p left rest h, scan_within limit p' left' rest h') }

-- P and S without differences: 16 N + A + P = 384, N + S = 24
sums : (p : ScanPosition) → p.station ≤ 23 → p.subaddress ≤ 15
    → (positions p + 16 * p.station + p.subaddress ≡ 384) × (stations p + p.station ≡ 24)
unfolding positions stations
sums p hn ha = omega arith

-- a miss before station 23, at subaddress 15 with a position to spare, or at the last word
pub miss_exact : (limit : ℕ) (from p : ScanPosition) (left rest : ℕ) → InRange from p → 1 ≤ left → left ≤ positions p
    → p.station < 23 → ((p.subaddress ≡ 15) × (left < positions p)) ⊎ (left ≡ 1) → {x : Option ScanPosition} → OtherCase p x
    → (ran_off x ≡ false) × Exactly limit p (reached p x) left left rest
miss_exact limit from p left rest r some room hn c (next_station g) =
    let p' : ScanPosition = record { station = p.station + 1; subaddress = 0 } in
    let σ = sums p r.station r.subaddress in
    let σ' = sums p' (omega arith) (omega arith) in
    (refl, exactly limit p p' left left rest room (fit c σ σ') (same c σ σ'))
  where
    fit : ((p.subaddress ≡ 15) × (left < positions p)) ⊎ (left ≡ 1)
        → (positions p + 16 * p.station + p.subaddress ≡ 384) × (stations p + p.station ≡ 24)
        → (positions (record { station = p.station + 1; subaddress = 0 }) + 16 * (p.station + 1) + 0 ≡ 384) ×
        (stations (record { station = p.station + 1; subaddress = 0 }) + (p.station + 1) ≡ 24)
        → left ≤ positions (record { station = p.station + 1; subaddress = 0 })
    fit (inl h) σ σ' = omega arith
    fit (inr h) σ σ' = omega arith

    same : ((p.subaddress ≡ 15) × (left < positions p)) ⊎ (left ≡ 1)
        → (positions p + 16 * p.station + p.subaddress ≡ 384) × (stations p + p.station ≡ 24)
        → (positions (record { station = p.station + 1; subaddress = 0 }) + 16 * (p.station + 1) + 0 ≡ 384) ×
        (stations (record { station = p.station + 1; subaddress = 0 }) + (p.station + 1) ≡ 24)
        → min (positions (record { station = p.station + 1; subaddress = 0 }))
        (left - 1 + stations (record { station = p.station + 1; subaddress = 0 })) + 1 ≡ min (positions p) (left - 1 + stations p)
    same (inl h) σ σ' = omega arith
    same (inr h) σ σ' = omega (arith, r.subaddress)
miss_exact limit from p left rest r some room hn d (runs_off g) = absurd (omega arith)

-- a done word elsewhere, with words left after it
pub done_exact : (limit : ℕ) (from p : ScanPosition) (left rest : ℕ) → InRange from p → 2 ≤ left → left ≤ positions p
    → (p.station < 23 → p.subaddress ≡ 15 → left < positions p → ⊥) → {x : Option ScanPosition} → DoneCase p x
    → (ran_off x ≡ false) × Exactly limit p (reached p x) left (left - 1) rest
done_exact limit from p left rest r two room not-miss (next_subaddress h) =
    let p' : ScanPosition = record { station = p.station; subaddress = p.subaddress + 1 } in
    let σ = sums p r.station r.subaddress in
    let σ' = sums p' r.station (omega arith) in
    (refl, exactly limit p p' left (left - 1) rest room (omega arith) (omega arith))
done_exact limit from p left rest r two room not-miss (as_other h (next_station g)) =
    let p' : ScanPosition = record { station = p.station + 1; subaddress = 0 } in
    let σ = sums p r.station r.subaddress in
    let σ' = sums p' (omega arith) (omega arith) in
    let full : ¬ (left < positions p) = not-miss g (omega (arith, r.subaddress)) in
    (refl, exactly limit p p' left (left - 1) rest room (omega (arith, r.subaddress)) (omega (arith, r.subaddress)))
done_exact limit from p left rest r two room not-miss (as_other h (runs_off g)) =
    absurd (omega (arith, sums p r.station r.subaddress, r.station))

-- the last word, done at station 23
pub last_exact : (limit : ℕ) (from p : ScanPosition) (left rest : ℕ) → InRange from p → left ≡ 1 → 23 ≤ p.station
    → rest + 1 ≡ most_left limit Scan p left 0 rest
unfolding positions stations
last_exact limit from p left rest r e hn =
    omega (arith, scan_within limit p left rest (omega (arith, r.station, r.subaddress)), r.station, r.subaddress)
