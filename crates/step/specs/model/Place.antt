-- The place of an instruction on the walk, as code finds it: its command, the sums before it and the worst count after it. Nothing here is
-- a rule of document 01.
use Rattle.std.specs.Prelude.{ℕ, ◌-◌, Option, Some, None, Bool, true, false, List, [], ◌∷◌, ◌≡◌, if◌then◌else◌}
use Rattle.camac.specs.declared.words.Command.{Command}
use Rattle.packing.specs.declared.Marks.{Marks}
use Rattle.listfile.specs.declared.field.Instruction.{Instruction}
use Rattle.listfile.specs.declared.field.Instruction.TheVariants.{Camac, Jump, Literal, Halt}
use Rattle.walk.specs.Walk.{same_spot, Visit}
use Rattle.walk.specs.model.Sums.{turn_of}
use Rattle.walk.specs.declared.worst.Counts.{Counts}
use Rattle.walk.specs.declared.visits.Turn.{Turn}
use Rattle.calls.specs.Fit.{fits_at, fits}
use Rattle.reply.specs.declared.records.Record.{Record}
use Rattle.step.specs.declared.place.Met.{Met}
use Rattle.walk.specs.declared.visits.Spot.{Spot}
use Rattle.walk.specs.Admission.{Plan}
use Rattle.worst_count.specs.WorstCount.{WaitsAt}

-- the sums at the start of the walk
abbrev pub no_sums : Counts
no_sums = record { worst = 0; incoming = 0; outgoing = 0 }

abbrev pub sums_in : Option Turn → Counts → Counts
sums_in (Some t) before = t.sums
sums_in None before = before

abbrev pub found_at : Instruction → Counts → ℕ → Option Met
found_at (Camac c) s after = Some (record { command = c; before = s; after = after })
found_at (Jump target) s after = None
found_at (Literal v) s after = None
found_at Halt s after = None

-- the visit of a spot among visits, with the sums before them
unfoldable pub find_in : ℕ → Spot → List Visit → Counts → Option Met
find_in limit k [] s = None
find_in limit k (v ∷ vs) s =
    if same_spot v.spot k then found_at v.instruction s (sums_in (turn_of limit v.instruction v.spot s) s).worst
    else find_in limit k vs (sums_in (turn_of limit v.instruction v.spot s) s)

-- the marks among the sums
abbrev pub marks_in : Counts → Marks
marks_in s = record { incoming = s.incoming; outgoing = s.outgoing }

-- whether a record fits at what was found
abbrev pub fits_by : ℕ → ℕ → Option Met → Record → Bool
fits_by limit worst (Some m) r = fits_at limit worst m.command (marks_in m.before) (worst - m.after) r
fits_by limit worst None r = false

-- a record that fits, at its CAMAC instruction of the walk
pub record Alive (p : Plan) (c : Command) (r : Record) : Type 0 where
  pub fit : fits p r ≡ true
  pub rest : List Visit
  pub waits : WaitsAt p r c rest

-- what an answer about a record's fit says
abbrev pub FitsBy : Plan → Record → Option Command → Type 0
FitsBy p r (Some c) = Alive p c r
FitsBy p r None = fits p r ≡ false
