-- Why a scan and a repeat end (document 01, "Worst count"): whatever is answered, they are over within as many answers as their share of
-- W. The rules are those of the pages Modes and Scan; other causes aside, which end a run sooner.
use Rattle.std.specs.Prelude.{ℕ, ◌+◌, ◌-◌, ◌*◌, ◌≤◌, min, ◌≡◌, Bool, true, false, ◌||◌, List, [], ◌∷◌, eqb, length}
use Rattle.qmodes.specs.Scan.{stations, positions}
use Rattle.qmodes.specs.Modes.{done, left_after, spent, scan_leaves, tries_after, position_after}
use Rattle.qmodes.specs.declared.modes.QMode.{QMode}
use Rattle.qmodes.specs.declared.modes.QMode.TheVariants.{Repeat, Scan}
use Rattle.qmodes.specs.declared.modes.Answer.{Answer}
use Rattle.qmodes.specs.declared.scan.ScanPosition.{ScanPosition}

-- Whether an instruction with `left` words left is over within a row of answers: one of them does the last word, spends the tries of a
-- word, or has a scan leave station 23.
unfoldable pub over : ℕ → QMode → List Answer → ScanPosition → ℕ → ℕ → Bool
over limit q [] p left tries = false
over limit q (a ∷ answers) p left tries =
    eqb (left_after q (done q a) left) 0 || (spent limit q a tries || (scan_leaves q a p left
    || over limit q answers (position_after q (done q a) p) (left_after q (done q a) left) (tries_after q (done q a) tries)))

-- "scan min(P, n − 1 + S)": n words from N, A, with N at most 23
abbrev pub ScanEnds : Type 0
ScanEnds = (limit : ℕ) (p : ScanPosition) (n : ℕ) (answers : List Answer) → p.station ≤ 23 → p.subaddress ≤ 15 → 1 ≤ n
    → min (positions p) (n - 1 + stations p) ≤ length answers → over limit Scan answers p n 0 ≡ true

-- "repeat n × R"
abbrev pub RepeatEnds : Type 0
RepeatEnds = (limit : ℕ) (p : ScanPosition) (n : ℕ) (answers : List Answer) → 1 ≤ limit → 1 ≤ n
    → n * limit ≤ length answers → over limit Repeat answers p n 0 ≡ true
