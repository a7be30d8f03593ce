-- A scan's position (document 01, "One operation, one reply" and "Worst count").
use Rattle.std.specs.Prelude.{ℕ, ◌+◌, ◌-◌, ◌*◌, Bool, Option, Some, None, ltb, if◌then◌else◌}
use Rattle.qmodes.specs.declared.scan.ScanPosition.{ScanPosition}

-- "S = 24 − N": the stations from N to 23. Only scans ask for S and P, and refusal 7 keeps their N at 23 or below.
unfoldable pub stations : ScanPosition → ℕ
stations p = 24 - p.station

-- "P = (23 − N) × 16 + 16 − A": the positions from N, A to 23, 15
unfoldable pub positions : ScanPosition → ℕ
positions p = (23 - p.station) * 16 + 16 - p.subaddress

-- "any other answer goes to subaddress 0 of the next station"
unfoldable pub after_other : ScanPosition → Option ScanPosition
after_other p = if ltb p.station 23 then Some (record { station = p.station + 1; subaddress = 0 }) else None

-- "a done word steps A by 1, from 15 to subaddress 0 of the next station"
unfoldable pub after_done : ScanPosition → Option ScanPosition
after_done p = if ltb p.subaddress 15 then Some (record { station = p.station; subaddress = p.subaddress + 1 }) else after_other p

-- where a scan goes after an answer
abbrev pub after_answer : Bool → ScanPosition → Option ScanPosition
after_answer is_done p = if is_done then after_done p else after_other p
