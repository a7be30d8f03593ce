-- The names of the sixteen error codes (the driver manual's "Control/Status Register").
use Rattle.std.specs.Prelude.{ℕ, zero, suc, List, [], ◌∷◌, get_or}
use Prim.Native.Char.{code}
use Prim.Native.String.{String, [] as empty, ◌∷◌ as ◌then◌}

unfoldable pub names : List String
names =
    "NO ERROR"
    ∷ "ILLEGAL COMMAND"
    ∷ "RESERVED"
    ∷ "RESERVED"
    ∷ "SERIAL ERROR"
    ∷ "RESERVED"
    ∷ "RESERVED"
    ∷ "NO-Q"
    ∷ "NO-X"
    ∷ "N>23"
    ∷ "STE"
    ∷ "TIMEOUT"
    ∷ "ADNR"
    ∷ "NO SYNC"
    ∷ "RESERVED"
    ∷ "RESERVED"
    ∷ []

-- a text in a number of bytes, filled with blanks
unfoldable pub filled : ℕ → String → List ℕ
filled zero text = []
filled (suc n) empty = code " " ∷ filled n empty
filled (suc n) (letter then text) = code letter ∷ filled n text

-- "Sixteen codes have a name table, 001's, for printing": a code's name in sixteen bytes; blanks for a code above 15, which has none
unfoldable pub name_of : ℕ → List ℕ
name_of errorCode = filled 16 (get_or names errorCode "")
