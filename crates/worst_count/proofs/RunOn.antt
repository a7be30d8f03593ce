-- A run that goes on along the walk comes to wait at an operation, or ends at the halt: by induction on the visits ahead, each of which
-- takes off the worst count what it adds to it.
use Prim.Native.Nat.{ℕ, ◌+◌, ◌≤◌}
use mathlib.Core.Path.{◌≡◌, refl, sym, ap, ◌∙◌, subst}
use mathlib.Core.Logic.{◌⊎◌, inl, inr}
use mathlib.Core.Bool.{Bool, true, false}
use mathlib.Core.List.{List, [], ◌∷◌, ◌++◌}
use native.Mathlib.Omega.{arith}
use native.Mathlib.Nat.{le_refl, le_trans, sub_self}
use lib.ListN.{length, get_or}
use lib.Seq.{append_snoc}
use Rattle.camac.specs.Words.{qmode_of, words_of, position_of}
use Rattle.qmodes.specs.declared.modes.QMode.{QMode}
use Rattle.qmodes.specs.declared.modes.QMode.TheVariants.{Stop, Ignore, Repeat, Scan}
use Rattle.camac.specs.declared.words.Command.{Command}
use Rattle.camac.specs.declared.words.Direction.TheVariants.{Incoming}
use Rattle.packing.specs.Packing.{mark_after}
use Rattle.packing.specs.declared.Marks.{Marks}
use Rattle.packing.proofs.MarkFacts.{mark_grows, stored_length, stored_beyond}
use Rattle.listfile.specs.declared.field.Instruction.{Instruction}
use Rattle.listfile.specs.declared.field.Instruction.TheVariants.{Camac, Jump, Literal, Halt}
use Rattle.listfile.proofs.Sound.{SoundCommand}
use Rattle.walk.specs.Walk.{Visit, no_marks, moved_by, moved_words, marks_after, marks_over}
use Rattle.qmodes.specs.Modes.{worst_words, most_left}
use Rattle.walk.specs.Worst.{worst_of, worst_over}
use Rattle.walk.specs.Admission.{Plan}
use Rattle.walk.proofs.Halting.{Halts, Well}
use Rattle.walk.proofs.MarksGrow.{BelowMarks, over_snoc, below, by_even, marks_even}
use Rattle.reply.specs.Status.{code_in, waiting_bits}
use Rattle.reply.specs.Effect.{State, ended_at, waits_for, put_literal, run_on}
use Rattle.reply.specs.declared.records.Note.{Note}
use Rattle.reply.specs.declared.records.Record.{Record}
use Rattle.qmodes.proofs.ScanFalls.{scan_within}
use Rattle.qmodes.proofs.MostFalls.{TriesOk, PositionOk, Near, Room}
use Rattle.worst_count.proofs.StatusBits.{Only, only_clear, ended_code}
use Rattle.worst_count.proofs.Live.{MarksOk, marks_ok_same, marks_ok_by, marks_ok_under, NoteOk, unmoved, read, wrote, Live}
use Rattle.walk.specs.declared.visits.Spot.{Spot}

-- B and O
abbrev pub last_marks : Plan → Marks
last_marks p = marks_over p.visits no_marks

-- the buffers as they were, but for incoming bytes below b
pub record Kept (incoming outgoing : List ℕ) (b : ℕ) (s : State) : Type 0 where
  pub same_length : length s.incoming ≡ length incoming
  pub beyond : (i : ℕ) → b ≤ i → get_or s.incoming i 0 ≡ get_or incoming i 0
  pub same_outgoing : s.outgoing ≡ outgoing

-- a run that has ended, its marks at most B and O; the slowest ends with code 0 and the marks at B and O
pub record Over (slow : Bool) (p : Plan) (r : Record) : Type 0 where
  pub over : r.ended ≡ true
  pub within : Near slow r.operations (worst_over p.limit p.visits)
  pub below : BelowMarks r.marks (last_marks p)
  pub clean : slow ≡ true → (code_in r.status ≡ 0) × (r.marks ≡ last_marks p)

-- the invariant: t operations made, the run waits or is over, bytes at or beyond B are kept
pub record Reached (slow : Bool) (p : Plan) (incoming outgoing : List ℕ) (s : State) (t : ℕ) : Type 0 where
  pub count : s.run.operations ≡ t
  pub kept : Kept incoming outgoing (last_marks p).incoming s
  pub stage : Live slow p s.run ⊎ Over slow p s.run

-- a run between instructions, with `pre` behind it and `vs` ahead
pub record Between (slow : Bool) (p : Plan) (pre vs : List Visit) (incoming outgoing : List ℕ) (s : State) (t : ℕ) : Type 0 where
  pub split : p.visits ≡ pre ++ vs
  pub halts : Halts vs
  pub well : Well vs
  pub marks : MarksOk slow s.run.marks (marks_over pre no_marks)
  pub bound : Near slow (s.run.operations + worst_over p.limit vs) (worst_over p.limit p.visits)
  pub status : Only waiting_bits s.run.status
  pub noted : NoteOk s.run.note s.run.marks
  pub count : s.run.operations ≡ t
  pub kept : Kept incoming outgoing (last_marks p).incoming s

note_grows : {n : Note} {m : Marks} (m' : Marks) → m.incoming ≤ m'.incoming → m.outgoing ≤ m'.outgoing → NoteOk n m → NoteOk n m'
note_grows m' i o (unmoved b a s) = unmoved b a s
note_grows m' i o (read b s h) = read b s (le_trans h i)
note_grows m' i o (wrote b s h) = wrote b s (le_trans h o)

near_same : (slow : Bool) (a a' b : ℕ) → a ≡ a' → Near slow a b → Near slow a' b
near_same slow a a' b e h = subst (λ (x : ℕ). Near slow x b) e h

-- an operation at its start: the tries, the position and the most still possible
start_tries : (limit : ℕ) (q : QMode) → 1 ≤ limit → TriesOk limit q 0
start_tries limit Stop h = refl
start_tries limit Ignore h = refl
start_tries limit Repeat h = h
start_tries limit Scan h = refl

module _ (c : Command) (sound : SoundCommand c) where
  start_position : (q : QMode) → qmode_of c.transfer ≡ q → PositionOk q (position_of c.transfer) (position_of c.transfer)
  start_position Stop e = refl
  start_position Ignore e = refl
  start_position Repeat e = refl
  start_position Scan e = let s = sound.scan e in record { station = s.station_most; subaddress = s.subaddress_most; onward = le_refl _ }

  start_most : (limit : ℕ) (q : QMode) (rest : ℕ) → qmode_of c.transfer ≡ q
      → most_left limit q (position_of c.transfer) (words_of c.transfer) 0 rest
      ≡ worst_words limit q (position_of c.transfer) (words_of c.transfer) + rest
  unfolding most_left worst_words
  start_most limit Stop rest e = refl
  start_most limit Ignore rest e = refl
  start_most limit Repeat rest e = omega arith
  start_most limit Scan rest e = scan_within limit (position_of c.transfer) (words_of c.transfer) rest (sound.scan e).room

  start_room : (slow : Bool) (q : QMode) → qmode_of c.transfer ≡ q → Room slow q (position_of c.transfer) (words_of c.transfer)
  start_room slow Stop e = tt
  start_room slow Ignore e = tt
  start_room slow Repeat e = tt
  start_room true Scan e = (sound.scan e).room
  start_room false Scan e = tt

-- a literal of the walk lies below B
pub literal_below : (p : Plan) (pre : List Visit) (k : Spot) (place x : ℕ) (vs : List Visit)
    → p.visits ≡ pre ++ record { spot = k; place = place; instruction = Literal x } ∷ vs
    → mark_after true (marks_over pre no_marks).incoming ≤ (last_marks p).incoming
unfolding marks_after
literal_below p pre k place x vs e =
    let v : Visit = record { spot = k; place = place; instruction = Literal x } in
    omega (
      arith,
      ap (λ (m : Marks). m.incoming) (over_snoc pre v no_marks),
      (below p.visits (pre ++ v ∷ []) vs no_marks (e ∙ sym (append_snoc pre v vs))).incoming,
    )

module _ (slow : Bool) (p : Plan) (incoming outgoing : List ℕ) (hl : 1 ≤ p.limit) where
  -- one visit, given what holds of the visits after it
  at_visit : (k : Spot) (place : ℕ) (i : Instruction) (vs pre : List Visit) (s : State) (t : ℕ)
      → ((pre' : List Visit) (s' : State) → Between slow p pre' vs incoming outgoing s' t → Reached slow p incoming outgoing (run_on vs s') t)
      → Between slow p pre (record { spot = k; place = place; instruction = i } ∷ vs) incoming outgoing s t
      → Reached slow p incoming outgoing (run_on (record { spot = k; place = place; instruction = i } ∷ vs) s) t
  unfolding run_on waits_for ended_at put_literal worst_over worst_of moved_words marks_after
  at_visit k place (Camac c) vs pre s t ih b =
      let ok = b.well.0 in
      record {
        count = b.count;
        kept = record { same_length = b.kept.same_length; beyond = b.kept.beyond; same_outgoing = b.kept.same_outgoing };
        stage = inl (record {
          pre = pre;
          place = place;
          command = c;
          post = vs;
          split = b.split;
          waits = refl;
          some = ok.words_least;
          most = le_refl _;
          tried = start_tries p.limit (qmode_of c.transfer) hl;
          position = start_position c ok (qmode_of c.transfer) refl;
          marks = marks_ok_same slow _ _ _ b.marks (rw sub_self);
          bound = near_same slow _ _ _
              (ap (λ (x : ℕ). s.run.operations + x) (sym (start_most c ok p.limit (qmode_of c.transfer) (worst_over p.limit vs) refl)))
              b.bound;
          room = start_room c ok slow (qmode_of c.transfer) refl;
          status = b.status;
          noted = b.noted;
        });
      }
  at_visit k place (Jump target) vs pre s t ih b =
      let v : Visit = record { spot = k; place = place; instruction = Jump target } in
      ih (pre ++ v ∷ []) s (record {
        split = b.split ∙ sym (append_snoc pre v vs);
        halts = b.halts;
        well = b.well.1;
        marks = marks_ok_same slow _ _ _ b.marks (sym (over_snoc pre v no_marks));
        bound = near_same slow _ _ _ (omega arith) b.bound;
        status = b.status;
        noted = b.noted;
        count = b.count;
        kept = b.kept;
      })
  at_visit k place (Literal x) vs pre s t ih b =
      let v : Visit = record { spot = k; place = place; instruction = Literal x } in
      let split : p.visits ≡ (pre ++ v ∷ []) ++ vs = b.split ∙ sym (append_snoc pre v vs) in
      let moved = marks_ok_by slow Incoming true _ _ b.marks in
      let under : mark_after true s.run.marks.incoming ≤ (last_marks p).incoming =
      le_trans (marks_ok_under slow _ _ (by_even Incoming true _ (marks_even pre)) moved).below.incoming (literal_below p pre k place x vs b.split) in
      ih (pre ++ v ∷ []) (put_literal x s) (record {
        split = split;
        halts = b.halts;
        well = b.well.1;
        marks = marks_ok_same slow _ _ _ moved (sym (over_snoc pre v no_marks));
        bound = near_same slow _ _ _ (omega arith) b.bound;
        status = b.status;
        noted = note_grows (moved_by Incoming true s.run.marks) (mark_grows true s.run.marks.incoming) (le_refl _) b.noted;
        count = b.count;
        kept = record {
          same_length = stored_length true x s.run.marks.incoming s.incoming ∙ b.kept.same_length;
          beyond = λ i h. stored_beyond true x s.run.marks.incoming s.incoming i (le_trans under h) ∙ b.kept.beyond i h;
          same_outgoing = b.kept.same_outgoing;
        };
      })
  at_visit k place Halt vs pre s t ih b =
      let v : Visit = record { spot = k; place = place; instruction = Halt } in
      let none_after : worst_over p.limit vs ≡ 0 = ap (worst_over p.limit) b.halts in
      let all : MarksOk slow s.run.marks (last_marks p) = marks_ok_same slow _ _ _ b.marks
      (sym (over_snoc pre v no_marks)
      ∙ ap (λ (l : List Visit). marks_over l no_marks) (sym (b.split ∙ ap (λ (l : List Visit). pre ++ v ∷ l) b.halts))) in
      record {
        count = b.count;
        kept = record { same_length = b.kept.same_length; beyond = b.kept.beyond; same_outgoing = b.kept.same_outgoing };
        stage = inr (record {
          over = refl;
          within = near_same slow _ _ _ (omega arith) b.bound;
          below = (marks_ok_under slow _ _ (marks_even p.visits) all).below;
          clean = λ e. (
            ended_code s.run.status (only_clear _ b.status) 0,
            subst (λ (x : Bool). MarksOk x s.run.marks (last_marks p)) e all,
          );
        });
      }

  pub runs_on : (vs pre : List Visit) (s : State) (t : ℕ) → Between slow p pre vs incoming outgoing s t
      → Reached slow p incoming outgoing (run_on vs s) t
  runs_on [] pre s t b = absurd b.halts
  runs_on (v ∷ vs) pre s t b = at_visit v.spot v.place v.instruction vs pre s t (λ pre' s'. runs_on vs pre' s' t) b
