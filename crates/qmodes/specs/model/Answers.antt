-- What each Q-mode makes of an answer by its flags, and of a position as one number, N × 16 + A: for code that passes many answers at once.
-- Nothing here is a rule of document 01: the laws of row/proofs/Flags hold it against specs/Modes over all flags.
use Rattle.std.specs.Prelude.{ℕ, ◌+◌, ◌-◌, ◌*◌, ◌/◌, Bool, false, ltb, if◌then◌else◌}
use Rattle.qmodes.specs.declared.modes.QMode.{QMode}
use Rattle.qmodes.specs.declared.modes.QMode.TheVariants.{Stop, Ignore, Repeat, Scan}

-- the flags that make an answer a word: of these just Q (01h) and X (02h) are set; ERR (04h), TPE (10h), LPE (20h) and X count where AD = 0
abbrev pub word_flags : QMode → Bool → ℕ
word_flags Stop ad = if ad then 0x01 else 0x37
word_flags Ignore ad = if ad then 0x00 else 0x36
word_flags Repeat ad = if ad then 0x01 else 0x37
word_flags Scan ad = if ad then 0x03 else 0x37

-- the flags by which an answer that is no word is no cause: of these just X is set. In stop and ignore each such answer is a cause. In a scan
-- ERR without X is none, and is left to the causes.
abbrev pub wait_flags : QMode → Bool → ℕ
wait_flags Stop ad = if ad then 0x00 else 0x36
wait_flags Ignore ad = if ad then 0x00 else 0x36
wait_flags Repeat ad = if ad then 0x00 else 0x36
wait_flags Scan ad = if ad then 0x00 else 0x34

-- whether there is a next try for it: in repeat before try R, in a scan before station 23, whose positions begin at 170h
abbrev pub can_wait : QMode → ℕ → ℕ → ℕ → Bool
can_wait Stop limit tries position = false
can_wait Ignore limit tries position = false
can_wait Repeat limit tries position = ltb (tries + 1) limit
can_wait Scan limit tries position = ltb position 0x170

-- how many of the words left can be done one after the other before a scan leaves; its last position is 17Fh
abbrev pub words_ahead : QMode → ℕ → ℕ → ℕ
words_ahead Stop position left = left
words_ahead Ignore position left = left
words_ahead Repeat position left = left
words_ahead Scan position left = if ltb (0x17F - position + 1) left then 0x17F - position else left

-- the position behind some words
abbrev pub place_after_words : QMode → ℕ → ℕ → ℕ
place_after_words Stop position words = position
place_after_words Ignore position words = position
place_after_words Repeat position words = position
place_after_words Scan position words = position + words

-- the position after an answer that is no word
abbrev pub place_after_wait : QMode → ℕ → ℕ
place_after_wait Stop position = position
place_after_wait Ignore position = position
place_after_wait Repeat position = position
place_after_wait Scan position = (position / 16 + 1) * 16
