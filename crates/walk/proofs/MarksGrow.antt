-- Along a walk neither mark falls, both stay even, and lower even marks stay below: that holds of each word that moves a mark, and everything
-- here is made of those.
use Prim.Native.Nat.{ℕ, zero, suc, ◌≤◌, zero-le}
use mathlib.Core.Path.{◌≡◌, refl}
use mathlib.Core.Bool.{Bool, true}
use mathlib.Core.List.{List, [], ◌∷◌, ◌++◌}
use native.Mathlib.Nat.{le_refl, le_trans}
use native.Mathlib.Decide.{le_ind}
use Rattle.camac.specs.Words.{words_of, direction_of}
use Rattle.camac.specs.declared.words.Command.{Command}
use Rattle.camac.specs.declared.words.Direction.{Direction}
use Rattle.camac.specs.declared.words.Direction.TheVariants.{Incoming, Outgoing, Neither}
use Rattle.packing.specs.declared.Marks.{Marks}
use Rattle.packing.specs.model.Marks.{EvenMarks}
use Rattle.packing.proofs.MarkFacts.{mark_grows, mark_even, mark_order}
use Rattle.listfile.specs.declared.field.Instruction.{Instruction}
use Rattle.listfile.specs.declared.field.Instruction.TheVariants.{Camac, Jump, Literal, Halt}
use Rattle.walk.specs.Walk.{Visit, no_marks, moved_by, moved, moved_words, marks_after, marks_over}

-- Marks over a walk in two parts -----------------------------------------------------------------------------------------

pub over_append : (pre vs : List Visit) (m : Marks) → marks_over (pre ++ vs) m ≡ marks_over vs (marks_over pre m)
unfolding marks_over
over_append [] vs m = refl
over_append (v ∷ pre) vs m = over_append pre vs (marks_after v.instruction m)

pub over_snoc : (pre : List Visit) (v : Visit) (m : Marks) → marks_over (pre ++ v ∷ []) m ≡ marks_after v.instruction (marks_over pre m)
unfolding marks_over
over_snoc pre v m = over_append pre (v ∷ []) m

-- Marks grow -------------------------------------------------------------------------------------------------------------

pub record BelowMarks (m m' : Marks) : Type 0 where
  pub incoming : m.incoming ≤ m'.incoming
  pub outgoing : m.outgoing ≤ m'.outgoing

pub below_self : (m : Marks) → BelowMarks m m
below_self m = record { incoming = le_refl _; outgoing = le_refl _ }

pub below_trans : {a b c : Marks} → BelowMarks a b → BelowMarks b c → BelowMarks a c
below_trans p q = record { incoming = le_trans p.incoming q.incoming; outgoing = le_trans p.outgoing q.outgoing }

by_grows : (d : Direction) (wide : Bool) (m : Marks) → BelowMarks m (moved_by d wide m)
by_grows Incoming wide m = record { incoming = mark_grows wide m.incoming; outgoing = le_refl _ }
by_grows Outgoing wide m = record { incoming = le_refl _; outgoing = mark_grows wide m.outgoing }
by_grows Neither wide m = below_self m

pub moved_grows : (c : Command) (m : Marks) → BelowMarks m (moved c m)
unfolding moved
moved_grows c m = by_grows (direction_of c.transfer) c.wide m

pub words_grow : (k l : ℕ) (c : Command) (m : Marks) → k ≤ l → BelowMarks (moved_words k c m) (moved_words l c m)
unfolding moved_words
words_grow k l c m h =
    le_ind (λ (j : ℕ). BelowMarks (moved_words k c m) (moved_words j c m))
    (below_self _)
    (λ j g ih. below_trans ih (moved_grows c (moved_words j c m)))
    l h

pub after_grows : (i : Instruction) (m : Marks) → BelowMarks m (marks_after i m)
unfolding marks_after moved_words
after_grows (Camac c) m = words_grow 0 (words_of c.transfer) c m zero-le
after_grows (Jump target) m = below_self m
after_grows (Literal v) m = by_grows Incoming true m
after_grows Halt m = below_self m

pub over_grows : (vs : List Visit) (m : Marks) → BelowMarks m (marks_over vs m)
unfolding marks_over
over_grows [] m = below_self m
over_grows (v ∷ vs) m = below_trans (after_grows v.instruction m) (over_grows vs (marks_after v.instruction m))

-- the marks after a part of the walk are at most those after all of it
pub below : (ws pre vs : List Visit) (m : Marks) → ws ≡ pre ++ vs → BelowMarks (marks_over pre m) (marks_over ws m)
below ws pre vs m e = rw (e, over_append pre vs m) (over_grows vs (marks_over pre m))

-- Marks stay even --------------------------------------------------------------------------------------------------------

pub by_even : (d : Direction) (wide : Bool) (m : Marks) → EvenMarks m → EvenMarks (moved_by d wide m)
by_even Incoming wide m e = record { incoming = mark_even wide m.incoming e.incoming; outgoing = e.outgoing }
by_even Outgoing wide m e = record { incoming = e.incoming; outgoing = mark_even wide m.outgoing e.outgoing }
by_even Neither wide m e = e

pub words_even : (k : ℕ) (c : Command) (m : Marks) → EvenMarks m → EvenMarks (moved_words k c m)
unfolding moved_words moved
words_even zero c m e = e
words_even (suc k) c m e = by_even (direction_of c.transfer) c.wide (moved_words k c m) (words_even k c m e)

pub after_even : (i : Instruction) (m : Marks) → EvenMarks m → EvenMarks (marks_after i m)
unfolding marks_after
after_even (Camac c) m e = words_even (words_of c.transfer) c m e
after_even (Jump target) m e = e
after_even (Literal v) m e = by_even Incoming true m e
after_even Halt m e = e

over_even : (vs : List Visit) (m : Marks) → EvenMarks m → EvenMarks (marks_over vs m)
unfolding marks_over
over_even [] m e = e
over_even (v ∷ vs) m e = over_even vs (marks_after v.instruction m) (after_even v.instruction m e)

pub marks_even : (vs : List Visit) → EvenMarks (marks_over vs no_marks)
marks_even vs = over_even vs no_marks (record { incoming = refl; outgoing = refl })

-- Lower marks stay lower ------------------------------------------------------------------------------------------------

pub by_order : (d : Direction) (wide : Bool) (m n : Marks) → EvenMarks m → BelowMarks m n → BelowMarks (moved_by d wide m) (moved_by d wide n)
by_order Incoming wide m n e h =
    record { incoming = mark_order m.incoming e.incoming wide n.incoming h.incoming; outgoing = h.outgoing }
by_order Outgoing wide m n e h =
    record { incoming = h.incoming; outgoing = mark_order m.outgoing e.outgoing wide n.outgoing h.outgoing }
by_order Neither wide m n e h = h

moved_order : (c : Command) (m n : Marks) → EvenMarks m → BelowMarks m n → BelowMarks (moved c m) (moved c n)
unfolding moved
moved_order c m n e h = by_order (direction_of c.transfer) c.wide m n e h

pub words_order : (k : ℕ) (c : Command) (m n : Marks) → EvenMarks m → BelowMarks m n → BelowMarks (moved_words k c m) (moved_words k c n)
unfolding moved_words
words_order zero c m n e h = h
words_order (suc k) c m n e h = moved_order c (moved_words k c m) (moved_words k c n) (words_even k c m e) (words_order k c m n e h)

after_order : (i : Instruction) (m n : Marks) → EvenMarks m → BelowMarks m n → BelowMarks (marks_after i m) (marks_after i n)
unfolding marks_after
after_order (Camac c) m n e h = words_order (words_of c.transfer) c m n e h
after_order (Jump target) m n e h = h
after_order (Literal v) m n e h = by_order Incoming true m n e h
after_order Halt m n e h = h

pub over_order : (vs : List Visit) (m n : Marks) → EvenMarks m → BelowMarks m n → BelowMarks (marks_over vs m) (marks_over vs n)
unfolding marks_over
over_order [] m n e h = h
over_order (v ∷ vs) m n e h =
    over_order vs (marks_after v.instruction m) (marks_after v.instruction n) (after_even v.instruction m e)
    (after_order v.instruction m n e h)
