-- The sums of one visit: they are the worst count and the marks of its instruction, because marks go on word by word in both; and they grow
-- by at most 2^48, so that 4,096 visits stay below 2^60.
use Prim.Native.Nat.{ℕ, zero, suc, ◌+◌, ◌%◌, ◌^◌, ◌≤◌, ◌<◌}
use mathlib.Core.Path.{◌≡◌, refl, sym, ap, ◌∙◌, subst}
use mathlib.Core.Bool.{Bool, true, false}
use mathlib.Core.List.{List}
use mathlib.Core.Option.{some}
use native.Mathlib.Omega.{arith}
use Rattle.camac.specs.Words.{qmode_in, wide_in, command_in, qmode_of, words_of, direction_of, position_of}
use Rattle.qmodes.specs.declared.modes.QMode.{QMode}
use Rattle.qmodes.specs.declared.scan.ScanPosition.{ScanPosition}
use Rattle.camac.specs.declared.words.Command.{Command}
use Rattle.camac.specs.declared.words.Direction.{Direction}
use Rattle.camac.specs.declared.words.Direction.TheVariants.{Incoming, Outgoing, Neither}
use Rattle.packing.specs.Packing.{pad_at, aligned_mark, width_of, mark_after_words}
use Rattle.packing.specs.declared.Marks.{Marks}
use Rattle.packing.proofs.MarkFacts.{words_even, words_closed}
use Rattle.listfile.specs.Fields.{tag_at, first_at, second_at}
use Rattle.listfile.specs.model.Table.{instruction_by, instruction_at}
use Rattle.listfile.specs.declared.field.Instruction.{Instruction}
use Rattle.listfile.specs.declared.field.Instruction.TheVariants.{Camac, Jump, Literal, Halt}
use Rattle.listfile.specs.declared.field.Tag.{Tag}
use Rattle.listfile.specs.declared.field.Tag.TheVariants.{CamacTag, JumpTag, LiteralTag, HaltTag, UnknownTag}
use Rattle.walk.specs.Walk.{next_of, moved_by, moved, moved_words, marks_after}
use Rattle.qmodes.specs.Modes.{worst_words}
use Rattle.camac.proofs.BitLaws.{command_qmode, command_wide, command_few}
use Rattle.qmodes.proofs.Most.{worst_small}
use Rattle.walk.specs.Worst.{worst_of}
use Rattle.walk.specs.model.Sums.{FewWords, SumsTo, added_by, after_command, turned, turn_of}
use Rattle.walk.specs.declared.worst.Counts.{Counts}
use Rattle.std.specs.Prelude.{None}
use Rattle.walk.specs.declared.visits.Turn.{Turn}
use Rattle.walk.specs.declared.visits.Spot.{Spot}

-- the marks of sums, and sums of a worst count and marks
abbrev pub marks_in : Counts → Marks
marks_in s = record { incoming = s.incoming; outgoing = s.outgoing }

abbrev pub counts_by : ℕ → Marks → Counts
counts_by w m = record { worst = w; incoming = m.incoming; outgoing = m.outgoing }

-- Marks after all words ------------------------------------------------------------------------------------------------------

abbrev marks_by : Direction → Bool → ℕ → Marks → Marks
marks_by Incoming wide n m = record { incoming = mark_after_words wide n m.incoming; outgoing = m.outgoing }
marks_by Outgoing wide n m = record { incoming = m.incoming; outgoing = mark_after_words wide n m.outgoing }
marks_by Neither wide n m = m

by_none : (d : Direction) (wide : Bool) (m : Marks) → m ≡ marks_by d wide 0 m
unfolding mark_after_words
by_none Incoming wide m = refl
by_none Outgoing wide m = refl
by_none Neither wide m = refl

by_more : (d : Direction) (wide : Bool) (n : ℕ) (m : Marks)
    → moved_by d wide (marks_by d wide n m) ≡ marks_by d wide (suc n) m
unfolding mark_after_words
by_more Incoming wide n m = refl
by_more Outgoing wide n m = refl
by_more Neither wide n m = refl

words_marks : (c : Command) (n : ℕ) (m : Marks) → moved_words n c m ≡ marks_by (direction_of c.transfer) c.wide n m
unfolding moved_words moved
words_marks c zero m = by_none (direction_of c.transfer) c.wide m
words_marks c (suc n) m = rw (words_marks c n m) (by_more (direction_of c.transfer) c.wide n m)

command_sums : (limit : ℕ) (c : Command) (s : Counts)
    → after_command limit c s ≡ counts_by (s.worst + worst_of limit (Camac c)) (marks_after (Camac c) (marks_in s))
unfolding after_command worst_of marks_after
command_sums limit c s =
    by (direction_of c.transfer) c.wide (words_of c.transfer) _ ∙ ap
    (λ (m : Marks). counts_by
    (s.worst + worst_words limit (qmode_of c.transfer) (position_of c.transfer) (words_of c.transfer)) m)
    (sym (words_marks c (words_of c.transfer) (marks_in s)))
  where
    by : (d : Direction) (wide : Bool) (n w : ℕ) → added_by d wide n w s ≡ counts_by w (marks_by d wide n (marks_in s))
    by Incoming wide n w = refl
    by Outgoing wide n w = refl
    by Neither wide n w = refl

-- the same from what the bits of the longwords say
pub field_sums : (limit first second : ℕ) (s : Counts) (q : QMode) (p : ScanPosition) (wide : Bool) (n w : ℕ) (d : Direction)
    → q ≡ qmode_in first → p ≡ position_of (command_in first second).transfer → wide ≡ wide_in first
    → n ≡ words_of (command_in first second).transfer → w ≡ worst_words limit q p n → direction_of (command_in first second).transfer ≡ d
    → added_by d wide n (s.worst + w) s ≡ after_command limit (command_in first second) s
unfolding after_command
field_sums limit first second s q p wide n w d eq ep ewide en ew ed =
    rw (command_qmode first second, command_wide first second, ed, ew, eq, ep, ewide, en)

-- One visit ------------------------------------------------------------------------------------------------------------------

pub record Went (limit : ℕ) (i : Instruction) (k : Spot) (s : Counts) (j : Spot) (s' : Counts) : Type 0 where
  pub next : next_of i k ≡ some j
  pub sums : s' ≡ counts_by (s.worst + worst_of limit i) (marks_after i (marks_in s))

jump_sums : (limit target : ℕ) (s : Counts)
    → s ≡ counts_by (s.worst + worst_of limit (Jump target)) (marks_after (Jump target) (marks_in s))
unfolding worst_of marks_after
jump_sums limit target s = ap (λ (w : ℕ). counts_by w (marks_in s)) (omega arith)

abbrev after_literal : Counts → Counts
after_literal s = record { worst = s.worst; incoming = mark_after_words true 1 s.incoming; outgoing = s.outgoing }

literal_sums : (limit v : ℕ) (s : Counts)
    → after_literal s ≡ counts_by (s.worst + worst_of limit (Literal v)) (marks_after (Literal v) (marks_in s))
unfolding worst_of marks_after mark_after_words
literal_sums limit v s = ap (λ (w : ℕ). counts_by w (moved_by Incoming true (marks_in s))) (omega arith)

-- what an equation between two turns says
turn_parts : (j j' : Spot) (s s' : Counts) → turned j s ≡ turned j' s' → (j ≡ j') × (s ≡ s')
turn_parts j j' s s' e =
    let t : ◌≡◌ {A = Turn} (record { next = j; sums = s }) (record { next = j'; sums = s' }) = cc in
    (ap (λ (t : Turn). t.next) t, ap (λ (t : Turn). t.sums) t)

pub turn_went : (limit : ℕ) (i : Instruction) (k : Spot) (s : Counts) (j : Spot) (s' : Counts) → turn_of limit i k s ≡ turned j s'
    → Went limit i k s j s'
unfolding turn_of
turn_went limit (Camac c) k s j s' e =
    let t = turn_parts _ _ _ _ e in record { next = ap some t.0; sums = sym t.1 ∙ command_sums limit c s }
turn_went limit (Jump target) k s j s' e =
    let t = turn_parts _ _ _ _ e in record { next = ap some t.0; sums = sym t.1 ∙ jump_sums limit target s }
turn_went limit (Literal v) k s j s' e =
    let t = turn_parts _ _ _ _ e in record { next = ap some t.0; sums = sym t.1 ∙ literal_sums limit v s }
turn_went limit Halt k s j s' e = let z : ◌≡◌ {A = ℕ} 0 1 = cc in absurd (omega arith)

pub turn_halts : (limit : ℕ) (i : Instruction) (k : Spot) (s : Counts) → turn_of limit i k s ≡ None → i ≡ Halt
unfolding turn_of
turn_halts limit (Camac c) k s e = let z : ◌≡◌ {A = ℕ} 0 1 = cc in absurd (omega arith)
turn_halts limit (Jump target) k s e = let z : ◌≡◌ {A = ℕ} 0 1 = cc in absurd (omega arith)
turn_halts limit (Literal v) k s e = let z : ◌≡◌ {A = ℕ} 0 1 = cc in absurd (omega arith)
turn_halts limit Halt k s e = refl

-- How little the sums grow -----------------------------------------------------------------------------------------------------

mark_small : (wide : Bool) (n m : ℕ) → m % 2 ≡ 0 → n ≤ 2 ^ 32 → mark_after_words wide n m ≤ m + 2 ^ 48
unfolding mark_after_words aligned_mark pad_at width_of
mark_small wide zero m even h = omega arith
mark_small true (suc n) m even h = omega (arith, words_closed true (suc n) m even (omega arith))
mark_small false (suc n) m even h = omega (arith, words_closed false (suc n) m even (omega arith))

pub sums_more : {a b : ℕ} {s : Counts} → a ≤ b → SumsTo a s → SumsTo b s
sums_more h x = record {
  worst = omega (arith, x.worst);
  incoming = omega (arith, x.incoming);
  outgoing = omega (arith, x.outgoing);
  even = x.even;
}

-- one mark after some words, the other sums as they are
module _ {b : ℕ} {s : Counts} (wide : Bool) (n : ℕ) (few : n ≤ 2 ^ 32) where
  incoming_to : s.incoming ≤ b → SumsTo (b + 2 ^ 48) s
      → SumsTo (b + 2 ^ 48) (record { worst = s.worst; incoming = mark_after_words wide n s.incoming; outgoing = s.outgoing })
  incoming_to h x = record {
    worst = x.worst;
    incoming = omega (arith, mark_small wide n s.incoming x.even.incoming few);
    outgoing = x.outgoing;
    even = record { incoming = words_even wide n s.incoming x.even.incoming; outgoing = x.even.outgoing };
  }

  outgoing_to : s.outgoing ≤ b → SumsTo (b + 2 ^ 48) s
      → SumsTo (b + 2 ^ 48) (record { worst = s.worst; incoming = s.incoming; outgoing = mark_after_words wide n s.outgoing })
  outgoing_to h x = record {
    worst = x.worst;
    incoming = x.incoming;
    outgoing = omega (arith, mark_small wide n s.outgoing x.even.outgoing few);
    even = record { incoming = x.even.incoming; outgoing = words_even wide n s.outgoing x.even.outgoing };
  }

command_sums_to : (limit b : ℕ) (c : Command) (s : Counts) → limit < 2 ^ 16 → words_of c.transfer ≤ 2 ^ 32 → SumsTo b s
    → SumsTo (b + 2 ^ 48) (after_command limit c s)
unfolding after_command
command_sums_to limit b c s hl h x = by (direction_of c.transfer)
  where
    w : ℕ
    w = worst_words limit (qmode_of c.transfer) (position_of c.transfer) (words_of c.transfer)

    with_worst : SumsTo (b + 2 ^ 48) (counts_by (s.worst + w) (marks_in s))
    with_worst = record {
      worst = omega (arith, x.worst, worst_small limit (qmode_of c.transfer) (position_of c.transfer) (words_of c.transfer) hl h);
      incoming = omega (arith, x.incoming);
      outgoing = omega (arith, x.outgoing);
      even = x.even;
    }

    by : (d : Direction) → SumsTo (b + 2 ^ 48) (added_by d c.wide (words_of c.transfer) (s.worst + w) s)
    by Incoming = incoming_to c.wide (words_of c.transfer) h x.incoming with_worst
    by Outgoing = outgoing_to c.wide (words_of c.transfer) h x.outgoing with_worst
    by Neither = with_worst

pub turn_sums_to : (limit b : ℕ) (i : Instruction) (k : Spot) (s : Counts) (j : Spot) (s' : Counts) → limit < 2 ^ 16 → FewWords i → SumsTo b s
    → turn_of limit i k s ≡ turned j s' → SumsTo (b + 2 ^ 48) s'
unfolding turn_of
turn_sums_to limit b i k s j s' hl h x e = go i h e
  where
    to : (y : Counts) → y ≡ s' → SumsTo (b + 2 ^ 48) y → SumsTo (b + 2 ^ 48) s'
    to y q g = subst (SumsTo (b + 2 ^ 48)) q g

    go : (i : Instruction) → FewWords i → turn_of limit i k s ≡ turned j s' → SumsTo (b + 2 ^ 48) s'
    go (Camac c) h e = to (after_command limit c s) (turn_parts _ _ _ _ e).1 (command_sums_to limit b c s hl h x)
    go (Jump target) h e = to s (turn_parts _ _ _ _ e).1 (sums_more (omega arith) x)
    go (Literal v) h e =
        to (after_literal s) (turn_parts _ _ _ _ e).1 (incoming_to true 1 (omega arith) x.incoming (sums_more (omega arith) x))
    go Halt h e = let z : ◌≡◌ {A = ℕ} 0 1 = cc in absurd (omega arith)

-- Words of an instruction as it lies in the list ---------------------------------------------------------------------------------

by_few : (tag : Tag) (list : List ℕ) (at : ℕ) → FewWords (instruction_by tag list at)
unfolding instruction_by
by_few CamacTag list at = command_few (first_at list at) (second_at list at)
by_few JumpTag list at = tt
by_few LiteralTag list at = tt
by_few HaltTag list at = tt
by_few UnknownTag list at = tt

pub words_few : (list : List ℕ) (at : ℕ) (i : Instruction) → i ≡ instruction_at list at → FewWords i
unfolding instruction_at
words_few list at i e = subst (λ (x : Instruction). FewWords x) (sym e) (by_few (tag_at list at) list at)
