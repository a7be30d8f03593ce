-- What each Q-mode does (document 01, "One operation, one reply", "Worst count" and the paragraph on fit): each question a table over stop,
-- ignore, repeat and scan. "Q-mode 0 stop, 1 ignore, 2 repeat, 3 scan"; R is the try limit, `left` the words left of the instruction.
use Rattle.std.specs.Prelude.{ℕ, ◌+◌, ◌-◌, ◌*◌, min, Bool, true, false, ◌&&◌, ◌||◌, not, Option, Some, None, leb, ltb, eqb, if◌then◌else◌}
use Rattle.qmodes.specs.Scan.{stations, positions, after_answer}
use Rattle.qmodes.specs.declared.modes.QMode.{QMode}
use Rattle.qmodes.specs.declared.modes.QMode.TheVariants.{Stop, Ignore, Repeat, Scan}
use Rattle.qmodes.specs.declared.modes.Answer.{Answer}
use Rattle.qmodes.specs.declared.scan.ScanPosition.{ScanPosition}

-- "Q-mode 3"
abbrev pub is_scan : QMode → Bool
is_scan Stop = false
is_scan Ignore = false
is_scan Repeat = false
is_scan Scan = true

-- When a word is done ----------------------------------------------------------------------------------------------------

-- "a word is done in stop and ignore; in repeat if Q = 1; in scan if Q = X = 1". In stop Q = 0 ends the run or closes the block, so that a
-- word is done there if Q = 1.
abbrev pub done : QMode → Answer → Bool
done Stop a = a.q
done Ignore a = true
done Repeat a = a.q
done Scan a = a.q && a.x

-- "A word not done is tried again with the same data"; "A stop block, enhanced or standard, now finishes without moving that word, read or write" (E8),
-- so that none is left of it. A single or inline word not done in stop is a cause: nothing looks at the value for it.
abbrev pub left_undone : QMode → ℕ → ℕ
left_undone Stop left = 0
left_undone Ignore left = left
left_undone Repeat left = left
left_undone Scan left = left

abbrev pub left_after : QMode → Bool → ℕ → ℕ
left_after q is_done left = if is_done then left - 1 else left_undone q left

-- Which answers end the run ------------------------------------------------------------------------------------------------

-- "repeat, Q = 0 on try R of this word, Bh"
abbrev pub spent : ℕ → QMode → Answer → ℕ → Bool
spent limit Stop a tries = false
spent limit Ignore a tries = false
spent limit Repeat a tries = not a.q && eqb (tries + 1) limit
spent limit Scan a tries = false

abbrev pub ran_off : Option ScanPosition → Bool
ran_off (Some p) = false
ran_off None = true

-- "A scan's leaving is judged from Q, X and the words left, other causes aside"; "If n words are done, nothing was left, whatever the
-- next address"
unfoldable pub leaves : Answer → ScanPosition → ℕ → Bool
leaves a p left = ran_off (after_answer (done Scan a) p) && not (eqb (left_after Scan (done Scan a) left) 0)

-- "scan leaving station 23, 9"
abbrev pub scan_leaves : QMode → Answer → ScanPosition → ℕ → Bool
scan_leaves Stop a p left = false
scan_leaves Ignore a p left = false
scan_leaves Repeat a p left = false
scan_leaves Scan a p left = leaves a p left

-- "X = 0 with AD = 0, not in scan, 8"
abbrev pub no_x : QMode → Bool → Answer → Bool
no_x Stop ad a = not a.x && not ad
no_x Ignore ad a = not a.x && not ad
no_x Repeat ad a = not a.x && not ad
no_x Scan ad a = false

-- "Q = 0 in stop, 7", where "Singles and inline writes still end with 7" (E8)
abbrev pub no_qin_stop : QMode → Bool → Answer → Bool
no_qin_stop Stop is_block a = not a.q && not is_block
no_qin_stop Ignore is_block a = false
no_qin_stop Repeat is_block a = false
no_qin_stop Scan is_block a = false

-- "Q = 0 closes a block" (E8): in stop, where "the list goes on unless another cause ends it; bit 16 is set" (E8)
abbrev pub closes : QMode → Bool → Answer → Bool
closes Stop is_block a = not a.q && is_block
closes Ignore is_block a = false
closes Repeat is_block a = false
closes Scan is_block a = false

-- What changes after an answer ---------------------------------------------------------------------------------------------

-- "Tries are counted per word", in repeat
unfoldable pub tries_after : QMode → Bool → ℕ → ℕ
tries_after Stop is_done tries = 0
tries_after Ignore is_done tries = 0
tries_after Repeat is_done tries = if is_done then 0 else tries + 1
tries_after Scan is_done tries = 0

-- A scan that ran off has left, which is a cause, so that nothing looks at the value for it.
abbrev pub reached : ScanPosition → Option ScanPosition → ScanPosition
reached p (Some p') = p'
reached p None = p

unfoldable pub position_after : QMode → Bool → ScanPosition → ScanPosition
position_after Stop is_done p = p
position_after Ignore is_done p = p
position_after Repeat is_done p = p
position_after Scan is_done p = reached p (after_answer is_done p)

-- What a waiting record may have -------------------------------------------------------------------------------------------

-- "tries are below R in repeat and 0 elsewhere"
abbrev pub tries_fit : ℕ → QMode → ℕ → Bool
tries_fit limit Stop tries = eqb tries 0
tries_fit limit Ignore tries = eqb tries 0
tries_fit limit Repeat tries = ltb tries limit
tries_fit limit Scan tries = eqb tries 0

abbrev pub same_position : ScanPosition → ScanPosition → Bool
same_position p from = eqb p.station from.station && eqb p.subaddress from.subaddress

-- "N and A are the instruction's or, in scan, from there up to station 23"
abbrev pub position_fits : QMode → ScanPosition → ScanPosition → Bool
position_fits Stop from p = same_position p from
position_fits Ignore from p = same_position p from
position_fits Repeat from p = same_position p from
position_fits Scan from p =
    leb p.station 23
    && (leb p.subaddress 15 && leb (from.station * 16 + from.subaddress) (p.station * 16 + p.subaddress))

-- How many operations -----------------------------------------------------------------------------------------------------

-- "stop, ignore n; repeat n × R; scan min(P, n − 1 + S)", of n words from a position
unfoldable pub worst_words : ℕ → QMode → ScanPosition → ℕ → ℕ
worst_words limit Stop p n = n
worst_words limit Ignore p n = n
worst_words limit Repeat p n = n * limit
worst_words limit Scan p n = min (positions p) (n - 1 + stations p)

-- Most still possible: "the same sums over the words left and the walk after them, less the tries made", "with P and S of the current N and
-- A"; "where a scan has more words left than positions, its positions and nothing after it". `rest` is the sum over the walk after.
unfoldable pub most_left : ℕ → QMode → ScanPosition → ℕ → ℕ → ℕ → ℕ
most_left limit Stop p left tries rest = left + rest
most_left limit Ignore p left tries rest = left + rest
most_left limit Repeat p left tries rest = left * limit - tries + rest
most_left limit Scan p left tries rest =
    if leb left (positions p) then min (positions p) (left - 1 + stations p) + rest else positions p

-- The slowest answer: given at every operation, a run makes the worst count of operations. It is no cause and lowers the most still
-- possible by exactly one. A scan misses, Q = 0, before station 23: at subaddress 15 while it has a position to spare, or when one word is
-- left.
unfoldable pub misses : ScanPosition → ℕ → Bool
misses p left = ltb p.station 23 && ((eqb p.subaddress 15 && ltb left (positions p)) || eqb left 1)

-- whether the slowest answer has Q = 1, by the words left, the tries made and the position: in repeat on try R only
unfoldable pub slowest_q : ℕ → QMode → ℕ → ℕ → ScanPosition → Bool
slowest_q limit Stop left tries p = true
slowest_q limit Ignore left tries p = true
slowest_q limit Repeat left tries p = eqb (tries + 1) limit
slowest_q limit Scan left tries p = not (misses p left)
