-- The worst count W (document 01, "Worst count").
use Rattle.std.specs.Prelude.{ℕ, ◌+◌, List, [], ◌∷◌}
use Rattle.camac.specs.Words.{qmode_of, words_of, position_of}
use Rattle.listfile.specs.declared.field.Instruction.{Instruction}
use Rattle.listfile.specs.declared.field.Instruction.TheVariants.{Camac, Jump, Literal, Halt}
use Rattle.walk.specs.Walk.{Visit}
use Rattle.qmodes.specs.Modes.{worst_words}

unfoldable pub worst_of : ℕ → Instruction → ℕ
worst_of limit (Camac c) = worst_words limit (qmode_of c.transfer) (position_of c.transfer) (words_of c.transfer)
worst_of limit (Jump target) = 0
worst_of limit (Literal v) = 0
worst_of limit Halt = 0

-- "W is the sum over the walk"
unfoldable pub worst_over : ℕ → List Visit → ℕ
worst_over limit [] = 0
worst_over limit (v ∷ vs) = worst_of limit v.instruction + worst_over limit vs
