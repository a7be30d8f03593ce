-- When a word is done, and what ends a run (document 01, "One operation, one reply").
use Rattle.std.specs.Prelude.{ℕ, max, Bool, false, ◌&&◌, ◌||◌, not, List, [], ◌∷◌, eqb, if◌then◌else◌}
use Rattle.base.specs.Checks.{Check, ◌gives◌}
use Rattle.camac.specs.Words.{qmode_of, is_block}
use Rattle.camac.specs.declared.words.Transfer.{Transfer}
use Rattle.qmodes.specs.declared.modes.QMode.{QMode}
use Rattle.camac.specs.declared.words.Command.{Command}
use Rattle.qmodes.specs.declared.modes.Answer.{Answer}
use Rattle.reply.specs.declared.replies.Reply.{Reply}
use Rattle.reply.specs.declared.replies.Reply.TheVariants.{Answered, Timeout, NotRecognised, NoSync}
use Rattle.reply.specs.declared.records.Record.{Record}
use Rattle.qmodes.specs.Modes.{done, closes, spent, scan_leaves, no_x, no_qin_stop}

-- "Kinds 1 to 3 bring their own cause only": no word
abbrev pub done_by : QMode → Reply → Bool
done_by q (Answered a) = done q a
done_by q Timeout = false
done_by q NotRecognised = false
done_by q NoSync = false

-- whether a reply that is no cause closes its block, "enhanced or standard" (E8)
abbrev pub closed_by : Transfer → Reply → Bool
closed_by t (Answered a) = closes (qmode_of t) (is_block t) a
closed_by t Timeout = false
closed_by t NotRecognised = false
closed_by t NoSync = false

-- "TPE or LPE with AD = 0, Ah"
abbrev pub parity_error : Bool → Answer → Bool
parity_error ad a = (a.tpe || a.lpe) && not ad

-- "ERR with X = 1 and AD = 0 ends the run with code 4, in scan as well, and moves no word" (E4); with X = 0 or AD = 1 still "ERR alone ends nothing"
abbrev pub damaged : Bool → Answer → Bool
damaged ad a = (a.err && a.x) && not ad

-- the causes of an answer with their codes, by Q-mode, whether it is a block's, and AD
unfoldable pub cause_checks : ℕ → QMode → Bool → Bool → Record → Answer → List Check
cause_checks limit q block ad r a =
    spent limit q a r.tries gives 11
    ∷ parity_error ad a gives 10
    ∷ scan_leaves q a r.position r.left gives 9
    ∷ no_x q ad a gives 8
    ∷ no_qin_stop q block a gives 7
    ∷ damaged ad a gives 4
    ∷ []

-- the numbers of all checks of a row that hold
abbrev pub all_that_hold : List Check → List ℕ
all_that_hold [] = []
all_that_hold (c ∷ cs) = if c.holds then c.number ∷ all_that_hold cs else all_that_hold cs

-- "kind 3 Dh; kind 2 Ch; kind 1 Bh"; "Kinds 1 to 3 bring their own cause only"
unfoldable pub causes_of : ℕ → Command → Record → Reply → List ℕ
causes_of limit c r NoSync = 13 ∷ []
causes_of limit c r NotRecognised = 12 ∷ []
causes_of limit c r Timeout = 11 ∷ []
causes_of limit c r (Answered a) = all_that_hold (cause_checks limit (qmode_of c.transfer) (is_block c.transfer) c.ad r a)

-- "The greatest code wins"; 0 where there is no cause
abbrev pub greatest : List ℕ → ℕ
greatest [] = 0
greatest (code ∷ codes) = max code (greatest codes)

unfoldable pub code_of : ℕ → Command → Record → Reply → ℕ
code_of limit c r reply = greatest (causes_of limit c r reply)

-- "with 9 as the only cause"
abbrev pub only_nine : List ℕ → Bool
only_nine [] = false
only_nine (code ∷ []) = eqb code 9
only_nine (code ∷ d ∷ codes) = false
