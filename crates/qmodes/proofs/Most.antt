-- Bounds: 24 stations, 384 positions, and the worst count of n words.
use Prim.Native.Nat.{ℕ, ◌^◌, ◌≤◌, ◌<◌}
use native.Mathlib.Omega.{arith}
use native.Mathlib.Nat.{mul-le-mul_right}
use Rattle.qmodes.specs.Modes.{worst_words}
use Rattle.qmodes.specs.declared.modes.QMode.{QMode}
use Rattle.qmodes.specs.declared.modes.QMode.TheVariants.{Stop, Ignore, Repeat, Scan}
use Rattle.qmodes.specs.Scan.{stations, positions}
use Rattle.qmodes.specs.declared.scan.ScanPosition.{ScanPosition}

pub stations_few : (p : ScanPosition) → stations p ≤ 24
unfolding stations
stations_few p = omega arith

pub positions_few : (p : ScanPosition) → positions p ≤ 384
unfolding positions
positions_few p = omega arith

-- what n words of a list can cost at most
pub worst_small : (limit : ℕ) (q : QMode) (p : ScanPosition) (n : ℕ) → limit < 2 ^ 16 → n ≤ 2 ^ 32
    → worst_words limit q p n ≤ 2 ^ 48
unfolding worst_words positions
worst_small limit Stop p n h k = omega arith
worst_small limit Ignore p n h k = omega arith
worst_small limit Repeat p n h k = omega (arith, mul-le-mul_right limit k)
worst_small limit Scan p n h k = omega arith
