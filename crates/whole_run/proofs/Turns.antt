-- One reply taken at a record that waits at its instruction: the reply taken is that of the definition, with the walk behind the instruction, and
-- leaves a record that has ended or fits. A record that waits has its instruction in the table.
use Prim.Native.Nat.{ℕ, ◌+◌, ◌≤◌, ◌<◌}
use mathlib.Core.Path.{◌≡◌, refl, sym, ap, ◌∙◌, subst}
use mathlib.Core.Logic.{◌⊎◌, inl, inr}
use mathlib.Core.Bool.{true, false, true≢false}
use mathlib.Core.List.{List, []}
use mathlib.Core.Option.{some}
use lib.ListN.{length, get_or, take, drop}
use Rattle.camac.specs.declared.words.Command.{Command}
use Rattle.listfile.specs.model.Table.{instruction_at}
use Rattle.listfile.specs.declared.check.Sizes.{Sizes}
use Rattle.listfile.specs.declared.field.Instruction.{Instruction}
use Rattle.listfile.specs.declared.field.Instruction.TheVariants.{Camac}
use Rattle.walk.specs.Walk.{spot_after, moved}
use Rattle.walk.specs.Admission.{Plan}
use Rattle.walk.specs.model.Sums.{rest_from, plan_by}
use Rattle.walk.proofs.Rest.{OnWalk}
use Rattle.reply.specs.Replies.{reply_of}
use Rattle.reply.specs.Effect.{State, take_reply, state_of}
use Rattle.calls.specs.Calls.{take_at}
use Rattle.reply.specs.declared.replies.Reply.{Reply}
use Rattle.reply.specs.declared.records.Record.{Record}
use Rattle.take.specs.model.Here.{Ready, here_run, here_buffer, resumed}
use Rattle.take.specs.declared.Taken.{Taken}
use Rattle.row.specs.model.Words.{FormedFrom}
use Rattle.row.proofs.RowLaws.{formed_here}
use Rattle.worst_count.proofs.Live.{fits_live, live_waits}
use Rattle.worst_count.proofs.FitKept.{FitNumbers, fits_numbers, fit_kept}
use Rattle.step.specs.model.Onward.{Going, record_in, GoingBy}
use Rattle.step.specs.model.Place.{Alive}
use Rattle.step.proofs.PlanLaws.{taken_at, ready_here, going_next, on_next, command_at}
use Rattle.step.proofs.StepLaws.{taken_going, taken_resumed}
use Rattle.whole_run.specs.model.Row.{row_from, stopped_at, Grounds, Stage, Moves}
use Rattle.whole_run.proofs.StepsAreTakes.{row_turn, row_over, row_used}
use Rattle.whole_run.proofs.WordsAhead.{grounds_sound}

-- Along a row ------------------------------------------------------------------------------------------------------------

module _ (p : Plan) (row : List ℕ) where
  pub moves_none : (r : Record) (at : ℕ) (b : List ℕ) → Stage p r → FormedFrom row at → Moves p row r at b r at b
  moves_none r at b st f = record { stage = st; formed = f; goes = λ outgoing. refl }

  pub moves_on : {r r₁ r₂ : Record} {from at₁ at₂ : ℕ} {b b₁ b₂ : List ℕ} → Moves p row r from b r₁ at₁ b₁
      → Moves p row r₁ at₁ b₁ r₂ at₂ b₂ → Moves p row r from b r₂ at₂ b₂
  moves_on x y = record { stage = y.stage; formed = y.formed; goes = λ outgoing. x.goes outgoing ∙ y.goes outgoing }

  -- by other names
  pub moves_as : {r r' r'' : Record} {from at at' : ℕ} {b b' : List ℕ} → r'' ≡ r' → at' ≡ at → Moves p row r from b r' at b'
      → Moves p row r from b r'' at' b'
  moves_as e f x = rw (e, f) x

  -- at the end of the run or of the row
  pub moves_last : {r r' : Record} {from at : ℕ} {b b' : List ℕ} → Moves p row r from b r' at b' → (r'.ended ≡ true) ⊎ (length row ≤ at)
      → (outgoing : List ℕ)
      → row_from p row from (state_of r b outgoing) ≡ stopped_at at (state_of r' b' outgoing)
  moves_last x (inl e) outgoing = x.goes outgoing ∙ row_over row _ p _ e
  moves_last x (inr h) outgoing = x.goes outgoing ∙ row_used row _ p _ h

pub grounds_at : {list table : List ℕ} {s : Sizes} {m n : ℕ} → m ≡ n → Grounds list table s n → Grounds list table s m
grounds_at e g = rw e g

-- A reply ----------------------------------------------------------------------------------------------------------------

module _ {list table : List ℕ} {s : Sizes} {room : ℕ} (g : Grounds list table s room) {c : Command} {r : Record} (al : Alive (plan_by list s) c r) where
  pub numbers : FitNumbers (plan_by list s) r c
  numbers = fits_numbers (plan_by list s) (grounds_sound list table s room g) r al.fit al.waits

  -- the walk behind its instruction, with room behind the last word
  pub walk_behind : OnWalk list s.count (spot_after r.spot)
  walk_behind = (on_next list table s g.counts room g.outgoing g.prepared r c al.rest al.waits).0

  pub last_going : (r' : Record) (b : List ℕ) → r'.marks ≡ moved c r.marks → length b ≡ room
      → Going list s.count (spot_after r.spot) r' b
  last_going r' b e = going_next list table s g.counts room g.outgoing g.prepared r c al.rest al.waits al.fit r' b (inl e)

  pub reply_taken : (reply : Reply) (b out : List ℕ)
      → take_at (plan_by list s) reply (state_of r b out) ≡ take_reply s.limit (rest_from list s.count (spot_after r.spot)) c reply (state_of r b out)
  reply_taken = taken_at list table s g.counts room g.outgoing g.prepared r c al.rest al.waits

  -- what a reply leaves is on its way
  module _ (reply : Reply) (b : List ℕ) (t : List ℕ → State) (e : (out : List ℕ) → take_at (plan_by list s) reply (state_of r b out) ≡ t out) where
    pub took_stage : Stage (plan_by list s) (t []).run
    took_stage =
        subst (λ (x : State). Stage (plan_by list s) x.run) (e [])
        (fit_kept (plan_by list s) (grounds_sound list table s room g) (state_of r b []) al.fit reply).ended_or_fits

    pub took_goes : (row : List ℕ) (at : ℕ) → at < length row → reply_of (take 8 (drop at row)) ≡ some reply → (out : List ℕ)
        → row_from (plan_by list s) row at (state_of r b out) ≡ row_from (plan_by list s) row (at + 8) (t out)
    took_goes row at h er out =
        row_turn row at (plan_by list s) (state_of r b out) reply h numbers.waits er ∙ ap (row_from (plan_by list s) row (at + 8)) (e out)

-- as code takes it
module _ (list table : List ℕ) (s : Sizes) (room : ℕ) (g : Grounds list table s room) (c : Command) (r : Record)
    (al : Alive (plan_by list s) c r) where
  pub ready : (b : List ℕ) → length b ≡ room → Ready c r b
  ready = ready_here list table s g.counts room g.outgoing g.prepared r c al.rest al.waits al.fit

  module _ (reply : Reply) (b b' : List ℕ) (eb : b' ≡ here_buffer s.limit c reply r b) (taken : Taken)
      (et : taken ≡ here_run s.limit c reply r) where
    pub going : length b' ≡ room → GoingBy list s.count taken b'
    going = taken_going list table s g.counts room g.outgoing g.prepared r c al reply taken b' et

    pub moves : (row : List ℕ) (at : ℕ) → FormedFrom row at → at < length row → reply_of (take 8 (drop at row)) ≡ some reply → (next : Record) (b'' : List ℕ)
        → ((out : List ℕ) → state_of next b'' out ≡ resumed (rest_from list s.count (spot_after (record_in taken).spot)) taken b' out)
        → Moves (plan_by list s) row r at b next (at + 8) b''
    moves row at f h er next b'' en =
        let e : (out : List ℕ) → take_at (plan_by list s) reply (state_of r b out) ≡ state_of next b'' out =
        λ out. taken_resumed list table s g.counts room g.outgoing g.prepared r c al reply b taken b' out et eb ∙ sym (en out) in
        record {
          stage = took_stage g al reply b (state_of next b'') e;
          formed = (formed_here row at f h).behind;
          goes = took_goes g al reply b (state_of next b'') e row at h er;
        }

-- An instruction ---------------------------------------------------------------------------------------------------------

module _ (list table : List ℕ) (s : Sizes) (room : ℕ) (g : Grounds list table s room) (r : Record) (st : Stage (plan_by list s) r)
    (waits : r.ended ≡ false) where
  pub alive_here : (c : Command) × Alive (plan_by list s) c r
  alive_here = by st
    where
      by : Stage (plan_by list s) r → (c : Command) × Alive (plan_by list s) c r
      by (inl e) = absurd (true≢false (sym e ∙ waits))
      by (inr h) =
          let l = fits_live (plan_by list s) r h in
          (l.command, record { fit = h; rest = l.post; waits = live_waits false (plan_by list s) r (grounds_sound list table s room g).distinct l })

  -- what the table has is the instruction at which the record waits
  pub decoded : (i : Instruction) → i ≡ instruction_at list (get_or table r.spot.instruction 0)
      → (c : Command) × ((i ≡ Camac c) × Alive (plan_by list s) c r)
  decoded i e = (
    alive_here.0,
    (e ∙ command_at list table s g.counts room g.outgoing g.prepared r alive_here.0 alive_here.1.rest alive_here.1.waits, alive_here.1),
  )

  pub decoded_as : (i : Instruction) → i ≡ instruction_at list (get_or table r.spot.instruction 0) → (c : Command) → i ≡ Camac c
      → Alive (plan_by list s) c r
  decoded_as i e c q =
      let d = decoded i e in
      let same : Camac d.0 ≡ Camac c = sym d.1.0 ∙ q in
      let command : d.0 ≡ c = cc in
      subst (λ (x : Command). Alive (plan_by list s) x r) command d.1.1

  -- nothing else stands there
  pub no_other : {A : Type 0} (i : Instruction) → i ≡ instruction_at list (get_or table r.spot.instruction 0)
      → ((x : Command) → i ≡ Camac x → ⊥) → A
  no_other i e k = let d = decoded i e in absurd (k d.0 d.1.0)
