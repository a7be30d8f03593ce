-- The status word (document 01, "Status"; the driver manual's "Control/Status Register").
use Rattle.std.specs.Prelude.{ℕ, ◌/◌, ◌^◌, Bool, true, ◌||◌, not, List, [], ◌∷◌, if◌then◌else◌}
use Rattle.std.specs.Int.Bits.{bit_or}
use Rattle.camac.specs.Words.{qmode_of}
use Rattle.camac.specs.declared.words.Command.{Command}
use Rattle.qmodes.specs.Modes.{spent, scan_leaves}
use Rattle.reply.specs.declared.replies.Reply.{Reply}
use Rattle.reply.specs.declared.replies.Reply.TheVariants.{Answered, Timeout, NotRecognised, NoSync}
use Rattle.reply.specs.declared.records.Record.{Record}

-- a test, with the status bit that it sets
infix 70 ◌sets◌
pub record StatusBit : Type 0 where
  pub is_set : Bool
  pub value : ℕ

abbrev pub ◌sets◌ : Bool → ℕ → StatusBit
◌sets◌ test k = record { is_set = test; value = 2 ^ k }

abbrev pub bits_of : List StatusBit → ℕ
bits_of [] = 0
bits_of (b ∷ bs) = bit_or (if b.is_set then b.value else 0) (bits_of bs)

-- "26 DERR; 25 timeout or tries spent; 24 no sync; 23 ERR; 22 scan left station 23, even under a greater code"; "21 LPE; 20 TPE;
-- 19 not recognised; 18 TPE, LPE or ERR; 17 X = 0; 16 Q = 0"
unfoldable pub flags_of : ℕ → Command → Record → Reply → ℕ
flags_of limit c r NoSync = 2 ^ 24
flags_of limit c r NotRecognised = 2 ^ 19
flags_of limit c r Timeout = 2 ^ 25
flags_of limit c r (Answered a) = bits_of (
    a.derr sets 26
    ∷ spent limit (qmode_of c.transfer) a r.tries sets 25
    ∷ a.err sets 23
    ∷ scan_leaves (qmode_of c.transfer) a r.position r.left sets 22
    ∷ a.lpe sets 21
    ∷ a.tpe sets 20
    ∷ (a.tpe || (a.lpe || a.err)) sets 18
    ∷ not a.x sets 17
    ∷ not a.q sets 16
    ∷ [])

-- "bits 31–28 code"
abbrev pub code_in : ℕ → ℕ
code_in status = status / 2 ^ 28

-- the bits that a waiting record's status may have: "status has only bits 16–18, 20, 21, 23, 26"
abbrev pub waiting_bits : ℕ
waiting_bits = bits_of (true sets 16 ∷ true sets 17 ∷ true sets 18 ∷ true sets 20 ∷ true sets 21 ∷ true sets 23 ∷ true sets 26 ∷ [])
