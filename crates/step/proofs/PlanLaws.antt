-- What the preparation of an admitted list gives a run: a sound plan, the walk from its first instruction, room for B and O, and numbers
-- small enough for the code's arithmetic at a record that fits.
use Prim.Native.Nat.{ℕ, ◌^◌, ◌≤◌, ◌<◌}
use mathlib.Core.Path.{◌≡◌, refl, sym, ap, ◌∙◌, subst}
use mathlib.Core.Logic.{◌⊎◌, inl, inr}
use mathlib.Core.Bool.{true, false, true≢false}
use mathlib.Core.List.{List, [], ◌∷◌}
use native.Mathlib.Omega.{arith}
use lib.ListN.{length, get_or}
use Rattle.camac.specs.declared.words.Command.{Command}
use Rattle.packing.specs.declared.Marks.{Marks}
use Rattle.listfile.specs.model.Table.{instruction_at}
use Rattle.listfile.specs.declared.check.Sizes.{Sizes}
use Rattle.listfile.specs.declared.field.Instruction.{Instruction}
use Rattle.listfile.specs.declared.field.Instruction.TheVariants.{Camac}
use Rattle.walk.specs.Walk.{first_spot, spot_after, Visit, moved, marks_over}
use Rattle.walk.specs.Admission.{Plan, counts_of}
use Rattle.walk.specs.model.Sums.{rest_from, plan_by}
use Rattle.walk.specs.declared.worst.Counts.{Counts}
use Rattle.walk.proofs.MarksGrow.{BelowMarks, moved_grows}
use Rattle.walk.proofs.Rest.{OnWalk, on_walk, rest_from_lem, rest_next}
use Rattle.calls.specs.Fit.{fits}
use Rattle.calls.specs.Calls.{take_from, take_at, wanted_at, wanted_of}
use Rattle.reply.specs.Effect.{zero_record, take_reply, state_of}
use Rattle.take.specs.model.Here.{Ready}
use Rattle.reply.specs.declared.records.Record.{Record}
use Rattle.reply.specs.declared.replies.Reply.{Reply}
use Rattle.worst_count.specs.WorstCount.{WaitsAt}
use Rattle.worst_count.proofs.Live.{Live, waits_once, fits_live, live_waits}
use Rattle.worst_count.proofs.Move.{rest_room}
use Rattle.worst_count.proofs.RunOn.{last_marks}
use Rattle.worst_count.proofs.Admitted.{SoundPlan, prepared_plan, prepared_sound, prepared_room}
use Rattle.worst_count.proofs.FitKept.{FitNumbers, fits_numbers}
use Rattle.step.specs.model.Onward.{PlannedFor, PreparedFor, Going, Askable, Waiting, wanted_by}
use Rattle.step.proofs.Onward.{within, Begins, begins}

module _ (list table : List ℕ) (s : Sizes) (counts : Counts) (i o : ℕ) (x : PreparedFor list table s counts i o) where
  abbrev plan : Plan
  plan = plan_by list s

  pub prepared_planned : PlannedFor list table s counts
  prepared_planned = record { bytes = x.bytes; entries = x.entries; planned = x.planned; plan = prepared_plan list i o plan x.prepared }

  pub sound : SoundPlan (plan_by list s)
  sound = prepared_sound list i o plan x.bytes x.prepared

  pub on_start : OnWalk list s.count first_spot
  on_start = on_walk list s.count first_spot x.planned.walk

  -- B and O
  marks_most : ((last_marks plan).incoming ≤ i) × ((last_marks plan).outgoing ≤ 2 ^ 60)
  unfolding counts_of
  marks_most = (
    (prepared_room list i o plan x.prepared).incoming_room,
    omega (arith, ap (λ (c : Counts). c.outgoing) x.planned.sums, x.planned.below.outgoing),
  )

  worst_most : (counts_of plan).worst ≤ 2 ^ 60
  worst_most = omega (arith, ap (λ (c : Counts). c.worst) x.planned.sums, x.planned.below.worst)

  pub going_start : (r : Record) (b : List ℕ) → r ≡ zero_record false → length b ≡ i → Going list s.count first_spot r b
  going_start r b er e =
      subst (λ (x : Record). Going list s.count first_spot x b) (sym er) (record { on = on_start; room = omega (arith, marks_most.0, e) })

  -- A record that waits at a CAMAC instruction of the walk ---------------------------------------------------------------

  module _ (r : Record) (c : Command) (rest : List Visit) (w : WaitsAt plan r c rest) where
    on_here : (OnWalk list s.count r.spot) × (rest_from list s.count r.spot ≡ w.visit ∷ rest)
    on_here = rest_from_lem list s.count r.spot w.visit rest on_start w.found

    at_table : Begins list s.count r.spot (get_or table r.spot.instruction 0) (instruction_at list (get_or table r.spot.instruction 0))
    at_table = begins list table s.count r.spot _ _ x.planned.right refl refl on_here.0

    -- the table has its command
    pub command_at : instruction_at list (get_or table r.spot.instruction 0) ≡ Camac c
    command_at =
        let e = sym at_table.same ∙ on_here.1 in
        ap head_of e ∙ w.camac
      where
        head_of : List Visit → Instruction
        head_of [] = Camac c
        head_of (v ∷ vs) = v.instruction

    pub in_table : r.spot.instruction < length table
    in_table = omega (arith, within list s.count r.spot on_here.0, x.planned.few, x.entries)

    -- the walk after it
    pub on_next : (OnWalk list s.count (spot_after r.spot)) × (rest_from list s.count (spot_after r.spot) ≡ rest)
    on_next =
        let n = rest_next list s.count r.spot (spot_after r.spot) on_here.0 at_table.known (rw command_at refl) in
        (n.0, ap tail_of (sym n.1 ∙ on_here.1))
      where
        tail_of : List Visit → List Visit
        tail_of [] = []
        tail_of (v ∷ vs) = vs

    -- a reply taken there goes on with it
    pub taken_at : (reply : Reply) (b out : List ℕ)
        → take_at plan reply (state_of r b out) ≡ take_reply s.limit (rest_from list s.count (spot_after r.spot)) c reply (state_of r b out)
    unfolding take_at take_from
    taken_at reply b out = rw (w.found, take_from, w.camac) (ap (λ (vs : List Visit). take_reply s.limit vs c reply (state_of r b out)) (sym on_next.1))

    wanted_here : (incoming outgoing : List ℕ) → r.ended ≡ false
        → wanted_by list table r outgoing ≡ wanted_of plan (state_of r incoming outgoing)
    unfolding wanted_by wanted_of wanted_at
    wanted_here incoming outgoing e = rw (command_at, w.found, wanted_at, w.camac, e)

    module _ (h : fits plan r ≡ true) where
      numbers : FitNumbers plan r c
      numbers = fits_numbers plan sound r h w

      outgoing_most : r.marks.outgoing ≤ 2 ^ 60
      outgoing_most = omega (arith, (moved_grows c r.marks).outgoing, numbers.next_marks.outgoing, marks_most.1)

      pub ready_here : (b : List ℕ) → length b ≡ i → Ready c r b
      unfolding counts_of
      ready_here b e = record {
        some = numbers.left_least;
        tried = omega (arith, numbers.tries_most, x.planned.small);
        operations = omega (arith, numbers.operations_most, worst_most);
        room = omega (arith, numbers.next_marks.incoming, marks_most.0, e);
        outgoing = omega (arith, outgoing_most);
      }

      -- behind it, its last word moved or its block closed, it has room for the rest of the walk
      pub going_next : (r' : Record) (b : List ℕ) → (r'.marks ≡ moved c r.marks) ⊎ (r'.marks ≡ r.marks) → length b ≡ i
          → Going list s.count (spot_after r.spot) r' b
      going_next r' b em e = record { on = on_next.0; room = omega (arith, ap (λ (m : Marks). m.incoming) whole, below_last.incoming, marks_most.0, e) }
        where
          l : Live false plan r
          l = fits_live plan r h

          same : (l.command ≡ c) × (l.post ≡ rest)
          same = waits_once (live_waits false plan r sound.distinct l) w

          below_last : BelowMarks (marks_over l.post r'.marks) (last_marks plan)
          below_last =
              rest_room false plan r l r'.marks
              (subst (λ (d : Command). (r'.marks ≡ moved d r.marks) ⊎ (r'.marks ≡ r.marks)) (sym same.0) em)

          whole : marks_over (rest_from list s.count (spot_after r.spot)) r'.marks ≡ marks_over l.post r'.marks
          whole = ap (λ (vs : List Visit). marks_over vs r'.marks) (on_next.1 ∙ sym same.1)

  -- The operation wanted -------------------------------------------------------------------------------------------------

  fits_waits : (r : Record) → (h : fits plan r ≡ true) → (c : Command) × (rest : List Visit) × WaitsAt plan r c rest
  fits_waits r h = let l = fits_live plan r h in (l.command, l.post, live_waits false plan r sound.distinct l)

  pub askable : (r : Record) → (r.ended ≡ true) ⊎ (fits plan r ≡ true) → Askable table r
  askable r (inl e) f = absurd (true≢false (sym e ∙ f))
  askable r (inr h) f =
      let (c, rest, w) = fits_waits r h in (in_table r c rest w, omega (arith, outgoing_most r c rest w h))

  pub at_command : (r : Record) → (r.ended ≡ true) ⊎ (fits plan r ≡ true) → Waiting list table r
  at_command r (inl e) f = absurd (true≢false (sym e ∙ f))
  at_command r (inr h) f =
      let (c, rest, w) = fits_waits r h in record { command = c; camac = command_at r c rest w }

  pub wanted_by_lem : (r : Record) (incoming outgoing : List ℕ) → (r.ended ≡ true) ⊎ (fits plan r ≡ true)
      → wanted_by list table r outgoing ≡ wanted_of plan (state_of r incoming outgoing)
  unfolding wanted_by wanted_of
  wanted_by_lem r incoming outgoing (inl e) = rw e
  wanted_by_lem r incoming outgoing (inr h) =
      let (c, rest, w) = fits_waits r h in wanted_here r c rest w incoming outgoing (fits_numbers plan sound r h w).waits
