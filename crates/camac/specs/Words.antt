-- CAMAC words: what the two longwords of a CAMAC instruction say, and refusals 6 to 9 (document 01, "CAMAC words" and
-- "Who can cause which refusal", as amended by document 02's E1; the driver manual's "Command Memory Instruction Formats").
use Rattle.std.specs.Prelude.{ℕ, zero, suc, ◌-◌, ◌/◌, ◌%◌, ◌^◌, Bool, true, false, ◌&&◌, ◌||◌, not, [], ◌∷◌, Result, Ok, Err, leb, ltb, eqb, if◌then◌else◌}
use Rattle.base.specs.Checks.{◌gives◌, first_of, bit, bits}
use Rattle.qmodes.specs.Scan.{positions}
use Rattle.qmodes.specs.Modes.{is_scan}
use Rattle.qmodes.specs.declared.modes.QMode.{QMode}
use Rattle.qmodes.specs.declared.modes.QMode.TheVariants.{Stop, Ignore, Repeat, Scan}
use Rattle.camac.specs.declared.words.Address.{Address}
use Rattle.camac.specs.declared.words.Transfer.{Transfer}
use Rattle.camac.specs.declared.words.Transfer.TheVariants.{Single, Block, Enhanced, Inline}
use Rattle.camac.specs.declared.words.Command.{Command}
use Rattle.camac.specs.declared.words.Direction.{Direction}
use Rattle.camac.specs.declared.words.Direction.TheVariants.{Incoming, Outgoing, Neither}
use Rattle.qmodes.specs.declared.scan.ScanPosition.{ScanPosition}

-- The first longword -----------------------------------------------------------------------------------------------------

-- "transfer mode 6–5"
abbrev pub mode_in : ℕ → ℕ
mode_in first = bits 6 5 first

-- "1 block (8), 2 enhanced"
abbrev pub is_block_in : ℕ → Bool
is_block_in first = eqb (mode_in first) 1 || eqb (mode_in first) 2

-- "Q-mode 4–3"
abbrev pub qmode_bits : ℕ → ℕ
qmode_bits first = bits 4 3 first

-- "Q-mode 0 stop, 1 ignore, 2 repeat, 3 scan"
abbrev pub qmode_numbered : ℕ → QMode
qmode_numbered zero = Stop
qmode_numbered (suc zero) = Ignore
qmode_numbered (suc (suc zero)) = Repeat
qmode_numbered (suc (suc (suc k))) = Scan

-- sequencer mode, in transfer mode 2: "Q-mode 3 there is the list sequencer" (E1)
abbrev pub is_sequencer_in : ℕ → Bool
is_sequencer_in first = eqb (mode_in first) 2 && eqb (qmode_bits first) 3

-- the list sequencer: "It goes by ignore mode's rules, X = 0 included, and takes one operation a word" (E1)
abbrev pub qmode_in : ℕ → QMode
qmode_in first = if is_sequencer_in first then Ignore else qmode_numbered (qmode_bits first)

-- "station N 29–25; subaddress A 24–21; function F 20–16; crate 13–8"
unfoldable pub address_in : ℕ → Address
address_in first = record {
  station = bits 29 25 first;
  subaddress = bits 24 21 first;
  function = bits 20 16 first;
  crate_number = bits 13 8 first;
}

-- "bit 1 set for 16-bit words, else 24-bit"
abbrev pub wide_in : ℕ → Bool
wide_in first = not (bit 1 first)

-- "bit 0 AD, abort disable"; "AD = 1 disables"
abbrev pub ad_in : ℕ → Bool
ad_in first = bit 0 first

-- "F with its 8-bit set is control (no data); otherwise read, or write if its 16-bit is set"
abbrev pub is_control : ℕ → Bool
is_control f = bit 3 f

abbrev pub is_write : ℕ → Bool
is_write f = not (is_control f) && bit 4 f

-- The second longword ----------------------------------------------------------------------------------------------------

-- "For a block the second longword is the two's complement of H, counted in halfwords"
abbrev pub halfwords : ℕ → ℕ
halfwords second = 2 ^ 32 - second

-- "n = H for 16-bit, H/2 for 24-bit words"
unfoldable pub block_words : Bool → ℕ → ℕ
block_words wide second = if wide then halfwords second / 2 else halfwords second

-- The instruction --------------------------------------------------------------------------------------------------------

-- "Transfer mode 0 single (length 4), 1 block (8), 2 enhanced .., 3 inline write (8)"; "Inline: the second longword is the data".
-- "Transfer mode 2 is carried with length 8: stop and ignore for reads and writes, repeat for reads" (E1), with its words counted as a block's.
unfoldable pub transfer_in : ℕ → QMode → Address → Bool → ℕ → Transfer
transfer_in zero q a wide second = Single q a
transfer_in (suc zero) q a wide second = Block q a (block_words wide second)
transfer_in (suc (suc zero)) q a wide second = Enhanced q a (block_words wide second)
transfer_in (suc (suc (suc k))) q a wide second = Inline q a second

unfoldable pub command_in : ℕ → ℕ → Command
command_in first second = record {
  transfer = transfer_in (mode_in first) (qmode_in first) (address_in first) (wide_in first) second;
  wide = wide_in first;
  ad = ad_in first;
}

-- "An instruction decodes to its transfer mode, which holds its Q-mode and its address"
unfoldable pub qmode_of : Transfer → QMode
qmode_of (Single q a) = q
qmode_of (Block q a n) = q
qmode_of (Enhanced q a n) = q
qmode_of (Inline q a word) = q

unfoldable pub address_of : Transfer → Address
address_of (Single q a) = a
address_of (Block q a n) = a
address_of (Enhanced q a n) = a
address_of (Inline q a word) = a

-- "Words wanted, n: 1 for single and inline"
unfoldable pub words_of : Transfer → ℕ
words_of (Single q a) = 1
words_of (Block q a n) = n
words_of (Enhanced q a n) = n
words_of (Inline q a word) = 1

-- "Read words .. go to the incoming buffer, write words come from the outgoing one"; "Inline and control move neither mark"
abbrev pub direction_by : ℕ → Direction
direction_by f = if is_control f then Neither else if is_write f then Outgoing else Incoming

-- of the list sequencer "A 0 or 1 reading and 2 or 3 writing" (E1); "A tells the direction there, although F 12 is a control function" (E1)
abbrev pub direction_by_a : ℕ → Direction
direction_by_a a = if ltb a 2 then Incoming else Outgoing

-- of an enhanced block: 8 leaves no control function there but the list sequencer's
abbrev pub enhanced_direction : Address → Direction
enhanced_direction a = if is_control a.function then direction_by_a a.subaddress else direction_by a.function

unfoldable pub direction_of : Transfer → Direction
direction_of (Single q a) = direction_by a.function
direction_of (Block q a n) = direction_by a.function
direction_of (Enhanced q a n) = enhanced_direction a
direction_of (Inline q a word) = Neither

-- "The operation wanted next gains a sixth number, 1 if enhanced, else 0" (E1)
unfoldable pub is_enhanced : Transfer → Bool
is_enhanced (Single q a) = false
is_enhanced (Block q a n) = false
is_enhanced (Enhanced q a n) = true
is_enhanced (Inline q a word) = false

-- a block, "enhanced or standard" (E8)
unfoldable pub is_block : Transfer → Bool
is_block (Single q a) = false
is_block (Block q a n) = true
is_block (Enhanced q a n) = true
is_block (Inline q a word) = false

-- the position at which a scan begins: the instruction's own N and A
abbrev pub position_of : Transfer → ScanPosition
position_of t = record { station = (address_of t).station; subaddress = (address_of t).subaddress }

-- Refusals ---------------------------------------------------------------------------------------------------------------

-- "the scan clause of 9 doesn't apply to it" (E1): the list sequencer's Q-mode is ignore
abbrev pub is_scan_in : ℕ → Bool
is_scan_in first = is_scan (qmode_in first)

-- "6: a zero bit is set"; "bits 31, 30, 15, 14, 7, 2 zero"
abbrev pub zero_bit_set : ℕ → Bool
zero_bit_set first = bit 31 first || (bit 30 first || (bit 15 first || (bit 14 first || (bit 7 first || bit 2 first))))

-- "7: crate not 1–62; N not 1–23 or 30; Q-mode 3 with N = 30"; it "spares N 30 in sequencer mode" (E1), whose Q-mode is ignore
abbrev pub bad_address : ℕ → Bool
bad_address first =
    let a : Address = address_in first in
    not (leb 1 a.crate_number && leb a.crate_number 62)
    || (not ((leb 1 a.station && leb a.station 23) || eqb a.station 30)
    || (is_scan_in first && eqb a.station 30))

-- the list sequencer's instructions: "N 30, F 12, A 0 or 1 reading and 2 or 3 writing" (E1)
abbrev pub is_sequencer_at : Address → Bool
is_sequencer_at a = eqb a.station 30 && (eqb a.function 12 && leb a.subaddress 3)

-- 8, of mode 2: "control outside sequencer mode, a repeat write, or a sequencer instruction other than those four" (E1)
abbrev pub bad_enhanced : ℕ → Bool
bad_enhanced first =
    if is_sequencer_in first then not (is_sequencer_at (address_in first))
    else is_control (address_in first).function || (eqb (qmode_bits first) 2 && is_write (address_in first).function)

-- "8: .. length not the mode's; block with control; inline not write"; "8 no longer takes mode 2 as such, but takes in it a length other than 8" (E1)
abbrev pub bad_mode : ℕ → ℕ → Bool
bad_mode len first =
    not (eqb len (if eqb (mode_in first) 0 then 4 else 8))
    || ((eqb (mode_in first) 1 && is_control (address_in first).function)
    || ((eqb (mode_in first) 2 && bad_enhanced first)
    || (eqb (mode_in first) 3 && not (is_write (address_in first).function))))

-- of a block, enhanced or not, "9: second longword zero in a block; H above 65,536; H odd for 24-bit"
abbrev pub bad_count : Bool → ℕ → Bool
bad_count wide second = eqb second 0 || (ltb 65536 (halfwords second) || (wide && eqb (halfwords second % 2) 1))

-- of an inline write, "9: .. inline bits above the word size"
abbrev pub above_word : Bool → ℕ → Bool
above_word wide second = leb (if wide then 2 ^ 24 else 2 ^ 16) second

abbrev pub bad_second : ℕ → ℕ → Bool
bad_second first second =
    (is_block_in first && bad_count (wide_in first) second) || (eqb (mode_in first) 3 && above_word (wide_in first) second)

-- "9: .. scan with n above P"
abbrev pub above_p : Transfer → Bool
above_p t = ltb (positions (position_of t)) (words_of t)

-- the checks of a CAMAC field's body: its length, its first and its second longword
unfoldable pub camac_fault : ℕ → ℕ → ℕ → ℕ
camac_fault len first second = first_of (
    zero_bit_set first gives 6
    ∷ bad_address first gives 7
    ∷ bad_mode len first gives 8
    ∷ (bad_second first second || (is_scan_in first && above_p (command_in first second).transfer)) gives 9
    ∷ [])

abbrev pub decoded_by : ℕ → Command → Result Command ℕ
decoded_by zero c = Ok c
decoded_by (suc number) c = Err (suc number)

-- a CAMAC field's body decoded, or the number of its refusal
unfoldable pub decode_of : ℕ → ℕ → ℕ → Result Command ℕ
decode_of len first second = decoded_by (camac_fault len first second) (command_in first second)
