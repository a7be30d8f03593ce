-- One turn of the loop over instructions: from a stay at an instruction over its answers and on along the walk to the next one, or to the halt. A stay
-- stands for the record that a run has there, or with no word left for the walk behind it; each answer leads from one to the next.
use Prim.Native.Nat.{ℕ, ◌+◌, ◌-◌, ◌*◌, ◌/◌, ◌%◌, ◌^◌, ◌≤◌, ◌<◌}
use mathlib.Core.Path.{◌≡◌, refl, sym, ap, ◌∙◌, subst}
use mathlib.Core.Bool.{false}
use Rattle.std.specs.Prelude.{Some, None}
use mathlib.Core.List.{List, [], ◌∷◌}
use native.Mathlib.Omega.{arith}
use lib.Bits.{or_zero_r}
use lib.ListN.{length, get_or}
use Rattle.camac.specs.Words.{qmode_of, address_in, words_of, position_of, direction_of, command_in}
use Rattle.camac.specs.model.Bits.{Passes}
use Rattle.qmodes.specs.declared.modes.QMode.{QMode}
use Rattle.qmodes.specs.declared.modes.QMode.TheVariants.{Stop, Ignore, Repeat, Scan}
use Rattle.qmodes.specs.declared.scan.ScanPosition.{ScanPosition}
use Rattle.camac.specs.declared.words.Command.{Command}
use Rattle.camac.specs.declared.words.Direction.{Direction}
use Rattle.camac.specs.declared.words.Direction.TheVariants.{Incoming, Outgoing, Neither}
use Rattle.camac.proofs.BitLaws.{command_address}
use Rattle.qmodes.proofs.MostFalls.{PositionOk}
use Rattle.packing.specs.declared.Marks.{Marks}
use Rattle.listfile.specs.Fields.{tag_at, first_at, second_at}
use Rattle.listfile.specs.model.Table.{instruction_by, instruction_at, FieldPassed}
use Rattle.listfile.specs.declared.check.Sizes.{Sizes}
use Rattle.listfile.specs.declared.field.Instruction.{Instruction}
use Rattle.listfile.specs.declared.field.Instruction.TheVariants.{Camac, Halt}
use Rattle.listfile.specs.declared.field.Tag.{Tag}
use Rattle.listfile.specs.declared.field.Tag.TheVariants.{CamacTag, JumpTag, LiteralTag, HaltTag, UnknownTag}
use Rattle.walk.specs.Walk.{spot_after, Visit, moved_words}
use Rattle.walk.specs.Admission.{Plan}
use Rattle.walk.specs.model.Sums.{rest_from, plan_by}
use Rattle.walk.specs.declared.visits.Spot.{Spot}
use Rattle.walk.proofs.Halting.{halts}
use Rattle.reply.specs.Effect.{State, ended_at, waits_for, with_marks, run_on, state_of}
use Rattle.reply.specs.declared.records.Record.{Record}
use Rattle.calls.specs.Calls.{take_at}
use Rattle.calls.proofs.FitCases.{words_incoming, words_outgoing, words_neither}
use Rattle.step.specs.model.Place.{Alive}
use Rattle.step.proofs.PlanLaws.{in_table}
use Rattle.step.proofs.Onward.{within, Begins, begins}
use Rattle.row.specs.model.Words.{FormedFrom, Answered, gathered_bits}
use Rattle.row.proofs.RowLaws.{formed_here}
use Rattle.answers.specs.model.Visit.{rules_of, rules_in, place_of, position_at, record_at, marks_behind, Passed, Roomy}
use Rattle.answers.specs.declared.Stay.{Stay}
use Rattle.answers.proofs.AnswerTurn.{standing, standing_waits, standing_through, Leads}
use Rattle.answers.proofs.VisitRoom.{rules_in_lem, passed_as}
use Rattle.answers.proofs.AnswersKeep.{passed_kept}
use Rattle.whole_run.specs.model.Row.{row_from, Grounds, Stage, Moves}
use Rattle.whole_run.specs.model.Along.{Ahead, Tabled, AtCommand, Reaches, arrived, stay_of}
use Rattle.whole_run.specs.declared.along.Reached.{Reached}
use Rattle.whole_run.specs.declared.along.Opening.{Opening}
use Rattle.whole_run.proofs.WordsAhead.{ahead}
use Rattle.whole_run.proofs.Turns.{moves_none, moves_as, numbers, walk_behind, last_going, reply_taken, took_stage, took_goes, alive_here, decoded, decoded_as}
use Rattle.whole_run.proofs.Reach.{field_passed, by_tag}

-- Positions --------------------------------------------------------------------------------------------------------------

-- N and A of a CAMAC word
record Placed (p : ScanPosition) : Type 0 where
  station : p.station < 32
  subaddress : p.subaddress < 16

command_placed : (first second : ℕ) → Placed (position_of (command_in first second).transfer)
unfolding address_in
command_placed first second = rw (command_address first second) (record { station = omega arith; subaddress = omega arith })

-- a position is its number again
placed_again : (p : ScanPosition) → p.subaddress < 16 → position_at (place_of p) ≡ p
placed_again p h =
    let station : (p.station * 16 + p.subaddress) / 16 ≡ p.station = omega arith in
    let subaddress : (p.station * 16 + p.subaddress) % 16 ≡ p.subaddress = omega arith in
    λ i. record { station = station i; subaddress = subaddress i }

ok_placed : (q : QMode) (from p : ScanPosition) → Placed from → PositionOk q from p → Placed p
ok_placed Stop from p h e = subst Placed (sym e) h
ok_placed Ignore from p h e = subst Placed (sym e) h
ok_placed Repeat from p h e = subst Placed (sym e) h
ok_placed Scan from p h e = record { station = omega (arith, e.station); subaddress = omega (arith, e.subaddress) }

ok_scan : (q : QMode) (from p : ScanPosition) → PositionOk q from p → q ≡ Scan → p.station ≤ 23
ok_scan Stop from p o e = let z : ◌≡◌ {A = ℕ} 0 1 = cc in absurd (omega arith)
ok_scan Ignore from p o e = let z : ◌≡◌ {A = ℕ} 0 1 = cc in absurd (omega arith)
ok_scan Repeat from p o e = let z : ◌≡◌ {A = ℕ} 0 1 = cc in absurd (omega arith)
ok_scan Scan from p o e = o.station

marks_words : (c : Command) (k : ℕ) (m : Marks) → marks_behind (direction_of c.transfer) c.wide k m ≡ moved_words k c m
marks_words c k m = go (direction_of c.transfer) refl
  where
    go : (d : Direction) → direction_of c.transfer ≡ d → marks_behind d c.wide k m ≡ moved_words k c m
    go Incoming e = words_incoming c Incoming (sym e) m refl k
    go Outgoing e = words_outgoing c Outgoing (sym e) m refl k
    go Neither e = words_neither c Neither (sym e) m refl k

pub grounds_table : {list table : List ℕ} {s : Sizes} {room : ℕ} → Grounds list table s room → Tabled list table s.count
grounds_table g = record {
  entries = omega (arith, g.prepared.entries, g.prepared.planned.few);
  few = g.prepared.planned.few;
  right = g.prepared.planned.right;
}

-- The instruction at which a record waits ------------------------------------------------------------------------------------

-- the instruction at which a record waits, by the field at a place
pub record Waiting (list table : List ℕ) (r : Record) (place : ℕ) : Type 0 where
  pub passed : FieldPassed list place
  pub tag : tag_at list place ≡ CamacTag
  pub is : instruction_at list (get_or table r.spot.instruction 0) ≡ Camac (command_in (first_at list place) (second_at list place))

module _ {list table : List ℕ} {s : Sizes} {room : ℕ} {r : Record} {place : ℕ} (g : Grounds list table s room) (st : Stage (plan_by list s) r)
    (waits : r.ended ≡ false) (ep : place ≡ get_or table r.spot.instruction 0) where
  found : (c : Command) × ((instruction_at list place ≡ Camac c) × Alive (plan_by list s) c r)
  found = decoded list table s room g r st waits (instruction_at list place) (ap (instruction_at list) ep)

  pub waiting : Waiting list table r place
  unfolding instruction_by
  waiting = by (tag_at list place) refl
    where
      by : (t : Tag) → tag_at list place ≡ t → Waiting list table r place
      by CamacTag e = record {
        passed = field_passed list table s.count r.spot.instruction place g.prepared.planned.right
            (omega (arith, within list s.count (spot_after r.spot) (walk_behind g found.1.1))) ep;
        tag = e;
        is = ap (instruction_at list) (sym ep) ∙ by_tag list place e;
      }
      by JumpTag e = let q = sym (by_tag list place e) ∙ found.1.0 in let z : ◌≡◌ {A = ℕ} 0 1 = cc in absurd (omega arith)
      by LiteralTag e = let q = sym (by_tag list place e) ∙ found.1.0 in let z : ◌≡◌ {A = ℕ} 0 1 = cc in absurd (omega arith)
      by HaltTag e = let q = sym (by_tag list place e) ∙ found.1.0 in let z : ◌≡◌ {A = ℕ} 0 1 = cc in absurd (omega arith)
      by UnknownTag e = let q = sym (by_tag list place e) ∙ found.1.0 in let z : ◌≡◌ {A = ℕ} 0 1 = cc in absurd (omega arith)

-- W and the operations of a record that waits are small
pub operations_few : {list table : List ℕ} {s : Sizes} (b : List ℕ) (r : Record) → Grounds list table s (length b) → Stage (plan_by list s) r
    → r.ended ≡ false → r.operations ≤ 2 ^ 60
operations_few {list} {table} {s} b r g st waits =
    let al = alive_here list table s (length b) g r st waits in (ahead list table s (length b) g al.0 r al.1 b refl).operations

module _ {list table : List ℕ} {s : Sizes} {room : ℕ} (g : Grounds list table s room) (first second : ℕ) {r : Record}
    (al : Alive (plan_by list s) (command_in first second) r) where
  alive_placed : Placed r.position
  alive_placed =
      ok_placed (qmode_of (command_in first second).transfer) (position_of (command_in first second).transfer) r.position (command_placed first second)
      (numbers g al).position

  -- the record of its own stay
  stay_again : (row : List ℕ) (from : ℕ) → record_at r row from r.spot (stay_of r from) ≡ r
  unfolding record_at stay_of gathered_bits
  stay_again row from =
      let none : from - from ≡ 0 = omega arith in
      let same : r.operations + 0 ≡ r.operations = omega arith in
      rw (← (numbers g al).waits, placed_again r.position alive_placed.subaddress, none, same, or_zero_r r.status)

-- Where a run stands -------------------------------------------------------------------------------------------------------

-- a run over a row on an admitted list, with its record and its incoming buffer before reply number `from`
pub record Run : Type 0 where
  pub list : List ℕ
  pub table : List ℕ
  pub sizes : Sizes
  pub row : List ℕ
  pub before : Record
  pub from : ℕ
  pub buffer : List ℕ

module _ (z : Run) where
  abbrev plan : Plan
  plan = plan_by z.list z.sizes

  abbrev Admitted : Type 0
  Admitted = Grounds z.list z.table z.sizes (length z.buffer)

  abbrev at : Spot → Stay → Record
  at k u = record_at z.before z.row z.from k u

  -- the state that a stay stands for
  abbrev stood : Spot → Stay → List ℕ → List ℕ → State
  stood k u b out = standing (rest_from z.list z.sizes.count (spot_after k)) (state_of (at k u) b out)

  abbrev instruction : Spot → Instruction
  instruction k = instruction_at z.list (get_or z.table k.instruction 0)

  -- the run moved to a record before a reply
  abbrev MovedTo : Record → ℕ → List ℕ → Type 0
  MovedTo r taken b = Moves plan z.row z.before (z.from * 8) z.buffer r (taken * 8) b

-- it stands at a stay
pub record Standing (z : Run) (k : Spot) (u : Stay) (b : List ℕ) : Type 0 where
  pub onward : z.from ≤ u.taken
  pub formed : FormedFrom z.row (u.taken * 8)
  pub kept : length b ≡ length z.buffer
  pub behind : u.left ≡ 0 → Ahead z.list z.sizes.count (spot_after k) u.marks b
  pub stage : Stage (plan z) (stood z k u b []).run
  pub goes : (out : List ℕ) → row_from (plan z) z.row (z.from * 8) (state_of z.before z.buffer out)
      ≡ row_from (plan z) z.row (u.taken * 8) (stood z k u b out)

-- before a word of the instruction with a first longword
pub record BeforeWord (z : Run) (first : ℕ) (k : Spot) (u : Stay) (b : List ℕ) : Type 0 where
  pub words : ℕ
  pub command : AtCommand (instruction z k) first words
  pub some : 1 ≤ u.left
  pub stands : Standing z k u b

-- or again before one
pub word_again : {z : Run} {first : ℕ} {k : Spot} {u v : Stay} {b y : List ℕ} → BeforeWord z first k u b → Standing z k v y → ¬ (v.left ≡ 0)
    → BeforeWord z first k v y
word_again x h more = record { words = x.words; command = x.command; some = omega arith; stands = h }

-- the state that a stay stands for is moved to
standing_moves : {z : Run} {k : Spot} {u : Stay} {b y : List ℕ} {m : Record} → Standing z k u b → ((out : List ℕ) → stood z k u b out ≡ state_of m y out)
    → MovedTo z m u.taken y
standing_moves {z} {u = u} x e = record {
  stage = subst (λ (t : State). Stage (plan z) t.run) (e []) x.stage;
  formed = x.formed;
  goes = λ out. x.goes out ∙ ap (row_from (plan z) z.row (u.taken * 8)) (e out);
}

module _ (z : Run) (k : Spot) (u : Stay) (b : List ℕ) where
  stay_waits : 1 ≤ u.left → (out : List ℕ) → stood z k u b out ≡ state_of (at z k u) b out
  unfolding record_at
  stay_waits some out = standing_waits _ (state_of (at z k u) b out) some

  moved_alive : Admitted z → (c : Command) → instruction z k ≡ Camac c → MovedTo z (at z k u) u.taken b → Alive (plan z) c (at z k u)
  unfolding record_at
  moved_alive g c is m = decoded_as z.list z.table z.sizes _ g (at z k u) m.stage refl (instruction z k) refl c is

  -- moved to the record of a stay, it stands before its word
  moved_stands : {first words : ℕ} → Admitted z → AtCommand (instruction z k) first words → MovedTo z (at z k u) u.taken b → z.from ≤ u.taken
      → length b ≡ length z.buffer → BeforeWord z first k u b
  unfolding record_at
  moved_stands {first} {words} g a m onward kept =
      let some : 1 ≤ u.left = (numbers g (moved_alive g (command_in first a.second) a.is m)).left_least in
      record {
        words = words;
        command = a;
        some = some;
        stands = record {
          onward = onward;
          formed = m.formed;
          kept = kept;
          behind = λ e. absurd (omega arith);
          stage = rw (stay_waits some []) m.stage;
          goes = λ out. m.goes out ∙ ap (row_from (plan z) z.row (u.taken * 8)) (sym (stay_waits some out));
        };
      }

  -- one answer
  module _ (g : Admitted z) (c : Command) (is : instruction z k ≡ Camac c) (x : Standing z k u b) {v : Stay} {y : List ℕ}
      (l : Leads z.sizes.limit c z.before z.row z.from k u b v y) where
    al : Alive (plan z) c (at z k u)
    al = moved_alive g c is (standing_moves x (stay_waits l.some))

    takes : (out : List ℕ) → take_at (plan z) l.reply (state_of (at z k u) b out) ≡ stood z k v y out
    unfolding record_at
    takes out = reply_taken g al l.reply b out ∙ l.takes _ (halts (walk_behind g al).walk) out

    standing_answer : Standing z k v y
    unfolding record_at
    standing_answer =
        let next : u.taken * 8 + 8 ≡ v.taken * 8 = omega (arith, l.taken) in
        let kept = l.kept ∙ x.kept in
        record {
          onward = omega (arith, l.taken, x.onward);
          formed = subst (FormedFrom z.row) next (formed_here z.row (u.taken * 8) x.formed l.inside).behind;
          kept = kept;
          behind = λ e.
              let w = last_going g al (at z k v) y (l.last e) kept in
              record { on = w.on; room = w.room };
          stage = took_stage g al l.reply b (stood z k v y) takes;
          goes = λ out. (standing_moves x (stay_waits l.some)).goes out
              ∙ took_goes g al l.reply b (stood z k v y) takes z.row (u.taken * 8) l.inside l.is out
              ∙ ap (λ (n : ℕ). row_from (plan z) z.row n (stood z k v y out)) next;
        }

-- Before a word --------------------------------------------------------------------------------------------------------------

module _ {z : Run} {answers : ℕ} (g : Admitted z) (answered : Answered z.row answers) where
  module _ {first : ℕ} {k : Spot} {u : Stay} {b : List ℕ} (x : BeforeWord z first k u b) where
    abbrev c : Command
    c = command_in first x.command.second

    waits : MovedTo z (at z k u) u.taken b
    waits = standing_moves x.stands (stay_waits z k u b x.some)

    alive : Alive (plan z) c (at z k u)
    alive = moved_alive z k u b g c x.command.is waits

    -- it stops here
    pub word_stop : MovedTo z (at z k u) u.taken b
    word_stop = waits

    -- its numbers have room
    pub word_position : u.position < 512
    unfolding record_at
    word_position = omega (arith, (alive_placed g first x.command.second alive).station)

    pub word_spot : k.instruction < 65536
    unfolding record_at
    word_spot = omega (
      arith,
      in_table z.list z.table z.sizes g.counts _ g.outgoing g.prepared (at z k u) c alive.rest alive.waits,
      g.prepared.entries,
    )

    pub word_roomy : Roomy (rules_in first) z.row answers u b
    unfolding record_at rules_of
    word_roomy =
        let n = ahead z.list z.table z.sizes _ g c (at z k u) alive b x.stands.kept in
        let f = numbers g alive in
        let m = marks_words c u.left u.marks in
        rw (← rules_in_lem first x.command.second) (record {
          row_formed = answered.formed;
          within = answered.within;
          taken = x.stands.formed.within;
          left = n.most;
          tries = omega (arith, f.tries_most, g.prepared.planned.small);
          position = omega (arith, word_position);
          scan = λ some q. omega (arith, ok_scan _ _ _ f.position q);
          incoming = omega (arith, n.room, ap (λ (y : Marks). y.incoming) m);
          small = omega (arith, n.incoming_behind, ap (λ (y : Marks). y.incoming) m);
          outgoing = omega (arith, n.outgoing_behind, ap (λ (y : Marks). y.outgoing) m);
          even = n.even;
        })

    -- its answers passed: each word left takes one at least
    module _ {v : Stay} {y : List ℕ} (p : Passed (rules_in first) z.sizes.limit z.row answers u b v y) where
      pub words_passed : Standing z k v y × (u.taken + u.left ≤ v.taken + v.left)
      words_passed =
          passed_kept {P = λ (t : Stay) (d : List ℕ). Standing z k t d × (u.taken + u.left ≤ t.taken + t.left)} answered
          (record {
            onward = λ h. h.0.onward;
            next = λ h l. (standing_answer z k _ _ g c x.command.is h.0 l, omega (arith, h.1, l.taken, l.left));
          })
          (x.stands, omega arith) (passed_as (sym (rules_in_lem first x.command.second)) p)

  -- where the loop begins
  pub word_start : {place first : ℕ} {u : Stay} → FormedFrom z.row (z.from * 8) → Stage (plan z) z.before
      → z.before.ended ≡ false → Waiting z.list z.table z.before place
      → (first ≡ first_at z.list place) × Passes first → u ≡ stay_of z.before z.from → BeforeWord z first z.before.spot u z.buffer
  unfolding stay_of
  word_start {place} {first} f st ended w p eu =
      let second = second_at z.list place in
      let is = w.is ∙ ap (λ (n : ℕ). Camac (command_in n second)) (sym p.0) in
      let al = decoded_as z.list z.table z.sizes _ g z.before st ended _ refl (command_in first second) is in
      rw eu (moved_stands z z.before.spot (stay_of z.before z.from) z.buffer g (record { second = second; passes = p.1; is = is; wanted = refl })
      (moves_as (plan z) z.row (stay_again g first second al z.row z.from) refl
      (moves_none (plan z) z.row z.before (z.from * 8) z.buffer st f)) (omega arith) refl)

  -- Behind the last word -------------------------------------------------------------------------------------------------------

  module _ {k : Spot} {u : Stay} {b y : List ℕ} {x : Reached} (h : Standing z k u b) (none : u.left ≡ 0)
      (t : Reaches z.list z.table z.sizes.count (spot_after k) u.marks b x y) where
    abbrev carried : Record
    carried = with_marks x.marks (at z k u)

    abbrev visit : Instruction → Visit
    visit i = record { spot = x.spot; place = get_or z.table x.spot.instruction 0; instruction = i }

    begun : Begins z.list z.sizes.count x.spot (get_or z.table x.spot.instruction 0) (instruction z x.spot)
    begun = begins z.list z.table z.sizes.count x.spot _ _ g.prepared.planned.right refl refl t.ahead.on

    -- the walk goes on with the instruction that the run came to
    comes : (i : Instruction) → instruction z x.spot ≡ i → (out : List ℕ) → stood z k u b out ≡ run_on (visit i ∷ begun.rest) (state_of carried y out)
    unfolding record_at
    comes i e out =
        standing_through _ (state_of (at z k u) b out) none ∙ t.goes (at z k u) refl out
        ∙ ap (λ (vs : List Visit). run_on vs (state_of carried y out)) begun.same
        ∙ ap (λ (i : Instruction). run_on (visit i ∷ begun.rest) (state_of carried y out)) e

    -- the next instruction
    module _ {o : Opening} (q : x.command ≡ Some o) where
      abbrev arriving : Command
      arriving = command_in o.first (t.command o q).second

      arrived_moves : MovedTo z (at z x.spot (arrived arriving x.marks u)) u.taken y
      unfolding run_on record_at waits_for arrived
      arrived_moves =
          standing_moves h (λ out. comes (Camac arriving) (t.command o q).is out
          ∙ rw (placed_again (position_of arriving.transfer) (command_placed o.first (t.command o q).second).subaddress))

      module _ {v : Stay}
          (f : (second : ℕ) → o.words ≡ words_of (command_in o.first second).transfer → v ≡ arrived (command_in o.first second) x.marks u) where
        is : v ≡ arrived arriving x.marks u
        is = f (t.command o q).second (t.command o q).wanted

        pub next_taken : v.taken ≡ u.taken
        unfolding arrived
        next_taken = ap (λ (w : Stay). w.taken) is

        pub word_next : length y ≡ length b → BeforeWord z o.first x.spot v y
        unfolding arrived
        word_next kept =
            rw is (moved_stands z x.spot (arrived arriving x.marks u) y g (t.command o q) arrived_moves h.onward (kept ∙ h.kept))

    -- the halt
    pub standing_halt : x.command ≡ None
        → MovedTo z (ended_at x.spot 0 (at z x.spot (record u { position = 0; marks = x.marks }))) u.taken y
    unfolding run_on record_at ended_at
    standing_halt q = standing_moves h (comes Halt (t.halt q))
