-- What refusals 1 to 10 leave of an instruction (proofs/DecodeFacts shows it of every list that they don't refuse).
use Prim.Native.Nat.{◌≤◌}
use mathlib.Core.Path.{◌≡◌}
use mathlib.Core.List.{List, [], ◌∷◌}
use Rattle.qmodes.specs.Scan.{positions}
use Rattle.camac.specs.Words.{qmode_of, address_of, words_of, position_of}
use Rattle.qmodes.specs.declared.modes.QMode.TheVariants.{Scan}
use Rattle.camac.specs.declared.words.Transfer.{Transfer}
use Rattle.camac.specs.declared.words.Command.{Command}
use Rattle.listfile.specs.Fields.{Field}
use Rattle.listfile.specs.declared.field.Instruction.{Instruction}
use Rattle.listfile.specs.declared.field.Instruction.TheVariants.{Camac, Jump, Literal, Halt}

-- a scan begins at a station from 1 to 23 and has a position for each word
pub record SoundScan (t : Transfer) : Type 0 where
  pub station_least : 1 ≤ (address_of t).station
  pub station_most : (address_of t).station ≤ 23
  pub subaddress_most : (address_of t).subaddress ≤ 15
  pub room : words_of t ≤ positions (position_of t)

-- a CAMAC instruction wants 1 to 65,536 words
pub record SoundCommand (c : Command) : Type 0 where
  pub words_least : 1 ≤ words_of c.transfer
  pub words_most : words_of c.transfer ≤ 65536
  pub scan : qmode_of c.transfer ≡ Scan → SoundScan c.transfer

abbrev pub SoundInstruction : Instruction → Type 0
SoundInstruction (Camac c) = SoundCommand c
SoundInstruction (Jump target) = Unit {0}
SoundInstruction (Literal v) = Unit {0}
SoundInstruction Halt = Unit {0}

abbrev pub SoundFields : List Field → Type 0
SoundFields [] = Unit {0}
SoundFields (f ∷ fs) = SoundInstruction f.instruction × SoundFields fs
