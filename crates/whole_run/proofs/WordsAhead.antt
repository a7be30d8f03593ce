-- A record that waits on an admitted list has room for all words left of its instruction, and small numbers: its marks with those words are at
-- most the walk's behind the instruction, and those at most B and O.
use Prim.Native.Nat.{ℕ, zero, suc, ◌+◌, ◌-◌, ◌^◌, ◌≤◌}
use mathlib.Core.Path.{◌≡◌, sym, ap, ◌∙◌, subst}
use mathlib.Core.List.{List, [], ◌∷◌, ◌++◌}
use mathlib.Core.Bool.{false}
use native.Mathlib.Omega.{arith}
use lib.ListN.{length}
use lib.Seq.{append_snoc}
use Rattle.camac.specs.Words.{words_of}
use Rattle.camac.specs.declared.words.Command.{Command}
use Rattle.packing.specs.declared.Marks.{Marks}
use Rattle.packing.specs.model.Marks.{EvenMarks}
use Rattle.listfile.specs.declared.check.Sizes.{Sizes}
use Rattle.listfile.proofs.Sound.{SoundCommand}
use Rattle.walk.specs.Walk.{Visit, no_marks, moved, moved_words, marks_after, marks_over}
use Rattle.walk.specs.Worst.{worst_over}
use Rattle.walk.specs.Admission.{Plan, counts_of}
use Rattle.walk.specs.model.Sums.{plan_by}
use Rattle.walk.specs.declared.worst.Counts.{Counts}
use Rattle.walk.proofs.Halting.{Well, well_after}
use Rattle.walk.proofs.MarksGrow.{BelowMarks, below_trans, moved_grows, words_order, over_snoc, below}
use Rattle.reply.specs.declared.records.Record.{Record}
use Rattle.worst_count.proofs.Live.{Live, camac_visit, waits_once, fits_live, live_waits}
use Rattle.worst_count.proofs.RunOn.{last_marks}
use Rattle.worst_count.proofs.Admitted.{SoundPlan, prepared_sound, prepared_room}
use Rattle.worst_count.proofs.FitKept.{FitNumbers, fits_numbers}
use Rattle.whole_run.specs.model.Row.{Grounds}
use Rattle.step.specs.model.Place.{Alive}

-- what a waiting record and its incoming buffer have
pub record Numbers (c : Command) (r : Record) (b : List ℕ) : Type 0 where
  pub some : 1 ≤ r.left
  pub most : r.left ≤ 65536
  pub incoming : r.marks.incoming ≤ 2 ^ 60
  pub outgoing : r.marks.outgoing ≤ 2 ^ 60
  pub operations : r.operations ≤ 2 ^ 60
  pub room : (moved_words r.left c r.marks).incoming ≤ length b
  pub incoming_behind : (moved_words r.left c r.marks).incoming ≤ 2 ^ 60
  pub outgoing_behind : (moved_words r.left c r.marks).outgoing ≤ 2 ^ 60
  pub even : EvenMarks r.marks

words_add : (j k : ℕ) (c : Command) (m : Marks) → moved_words k c (moved_words j c m) ≡ moved_words (j + k) c m
unfolding moved_words
words_add j zero c m = let e : j ≡ j + 0 = omega arith in ap (λ (n : ℕ). moved_words n c m) e
words_add j (suc k) c m =
    let e : suc (j + k) ≡ j + suc k = omega arith in
    ap (moved c) (words_add j k c m) ∙ ap (λ (n : ℕ). moved_words n c m) e

-- the marks behind the instruction of a live record are at most B and O
words_below : (p : Plan) (r : Record) (l : Live false p r) → BelowMarks (moved_words r.left l.command r.marks) (last_marks p)
unfolding marks_after
words_below p r l =
    let v : Visit = camac_visit r.spot l.place l.command in
    let n : words_of l.command.transfer - r.left + r.left ≡ words_of l.command.transfer = omega (arith, l.most) in
    let e : moved_words r.left l.command (moved_words (words_of l.command.transfer - r.left) l.command (marks_over l.pre no_marks))
    ≡ marks_over (l.pre ++ v ∷ []) no_marks =
    words_add (words_of l.command.transfer - r.left) r.left l.command (marks_over l.pre no_marks)
    ∙ ap (λ (k : ℕ). moved_words k l.command (marks_over l.pre no_marks)) n
    ∙ sym (over_snoc l.pre v no_marks) in
    below_trans
    (subst (BelowMarks (moved_words r.left l.command r.marks)) e
    (words_order r.left l.command r.marks _ l.marks.even l.marks.below))
    (below p.visits (l.pre ++ v ∷ []) l.post no_marks (l.split ∙ sym (append_snoc l.pre v l.post)))

module _ (list table : List ℕ) (s : Sizes) (room : ℕ) (g : Grounds list table s room) where
  pub grounds_sound : SoundPlan (plan_by list s)
  grounds_sound = prepared_sound list room g.outgoing (plan_by list s) g.prepared.bytes g.prepared.prepared

  -- B, O and W
  small : ((last_marks (plan_by list s)).incoming ≤ 2 ^ 60) × ((last_marks (plan_by list s)).outgoing ≤ 2 ^ 60)
      × (worst_over s.limit (plan_by list s).visits ≤ 2 ^ 60)
  unfolding counts_of
  small =
      let x = g.prepared.planned in (
        omega (arith, ap (λ (c : Counts). c.incoming) x.sums, x.below.incoming),
        omega (arith, ap (λ (c : Counts). c.outgoing) x.sums, x.below.outgoing),
        omega (arith, ap (λ (c : Counts). c.worst) x.sums, x.below.worst),
      )

  pub ahead : (c : Command) (r : Record) → Alive (plan_by list s) c r → (b : List ℕ) → length b ≡ room → Numbers c r b
  ahead c r al b e = record {
    some = n.left_least;
    most = omega (arith, n.left_most, sound_here.words_most);
    incoming = omega (arith, (moved_grows c r.marks).incoming, n.next_marks.incoming, small.0);
    outgoing = omega (arith, (moved_grows c r.marks).outgoing, n.next_marks.outgoing, small.1);
    operations = omega (arith, n.operations_most, small.2);
    room = omega (arith, words.incoming, (prepared_room list room g.outgoing (plan_by list s) g.prepared.prepared).incoming_room, e);
    incoming_behind = omega (arith, words.incoming, small.0);
    outgoing_behind = omega (arith, words.outgoing, small.1);
    even = n.even;
  }
    where
      n : FitNumbers (plan_by list s) r c
      n = fits_numbers (plan_by list s) grounds_sound r al.fit al.waits

      l : Live false (plan_by list s) r
      l = fits_live (plan_by list s) r al.fit

      same : l.command ≡ c
      same = (waits_once (live_waits false (plan_by list s) r grounds_sound.distinct l) al.waits).0

      sound_here : SoundCommand c
      sound_here = subst SoundCommand same
          (well_after l.pre (camac_visit r.spot l.place l.command) l.post
          (subst Well l.split grounds_sound.well)).0

      words : BelowMarks (moved_words r.left c r.marks) (last_marks (plan_by list s))
      words = subst (λ (d : Command). BelowMarks (moved_words r.left d r.marks) (last_marks (plan_by list s))) same
          (words_below (plan_by list s) r l)
