-- A record that fits by document 01's rule of the marks fits by E8's: the marks of a walk are even, and a mark is not above itself.
use Prim.Native.Nat.{ℕ, ◌-◌, ◌%◌}
use mathlib.Core.Path.{◌≡◌}
use mathlib.Core.Bool.{true, not}
use mathlib.Core.List.{List, [], ◌∷◌}
use native.Mathlib.Omega.{arith}
use borrow.Author.Tests.{eq-eqb, eqb-true, le-leb}
use lib.Dec.{leb, eqb}
use Rattle.base.proofs.Bools.{and_left, and_right, both}
use Rattle.camac.specs.Words.{qmode_of, words_of, position_of}
use Rattle.qmodes.specs.Modes.{tries_fit, position_fits}
use Rattle.camac.specs.declared.words.Command.{Command}
use Rattle.packing.specs.declared.Marks.{Marks}
use Rattle.packing.specs.model.Marks.{EvenMarks}
use Rattle.listfile.specs.declared.field.Instruction.{Instruction}
use Rattle.listfile.specs.declared.field.Instruction.TheVariants.{Camac, Jump, Literal, Halt}
use Rattle.walk.specs.Walk.{Visit, up_to, on_from}
use Rattle.walk.specs.Worst.{worst_over}
use Rattle.walk.specs.declared.visits.Spot.{Spot}
use Rattle.walk.proofs.MarksGrow.{words_even, marks_even}
use Rattle.reply.specs.declared.records.Record.{Record}
use Rattle.calls.specs.Fit.{mark_fits, marks_fit, fits_at, fits_from, fits}
use Rattle.calls.specs.Before.{marks_were, fit_at, fit_from, fit, Unharmed}

fits_same : (mark old : ℕ) → old % 2 ≡ 0 → eqb mark old ≡ true → mark_fits mark old ≡ true
fits_same mark old even e =
    let same : mark ≡ old = eqb-true mark old e in both (eq-eqb (mark % 2) 0 (rw same even)) (le-leb mark old (omega arith))

module _ (c : Command) (m : Marks) (r : Record) (even : EvenMarks m) where
  marks_still : marks_were c m r ≡ true → marks_fit c m r ≡ true
  unfolding marks_were marks_fit
  marks_still e =
      let old = words_even (words_of c.transfer - r.left) c m even in
      both (fits_same _ _ old.incoming (and_left _ _ e))
      (fits_same _ _ old.outgoing (and_right (eqb r.marks.incoming _) _ e))

  at_still : (limit worst rest : ℕ) → fit_at limit worst c m rest r ≡ true → fits_at limit worst c m rest r ≡ true
  unfolding fit_at fits_at
  at_still limit worst rest h =
      let after-ended = and_right (not r.ended) _ h in
      let after-words = and_right (leb r.left (words_of c.transfer)) _ (and_right (leb 1 r.left) _ after-ended) in
      let after-tries = and_right (tries_fit limit (qmode_of c.transfer) r.tries) _ after-words in
      let after-position = and_right (position_fits (qmode_of c.transfer) (position_of c.transfer) r.position) _ after-tries in
      let e : marks_were c m r ≡ true = and_left _ _ after-position in
      rw (marks_still e) (rw e at h)

module _ (limit worst : ℕ) (m : Marks) (r : Record) (even : EvenMarks m) where
  visit_still : (k : Spot) (place : ℕ) (i : Instruction) (rest : List Visit)
      → fit_from limit worst m (record { spot = k; place = place; instruction = i } ∷ rest) r ≡ true
      → fits_from limit worst m (record { spot = k; place = place; instruction = i } ∷ rest) r ≡ true
  unfolding fit_from fits_from
  visit_still k place (Camac c) rest e = at_still c m r even limit worst (worst_over limit rest) e
  visit_still k place (Jump target) rest e = e
  visit_still k place (Literal x) rest e = e
  visit_still k place Halt rest e = e

  from_still : (vs : List Visit) → fit_from limit worst m vs r ≡ true → fits_from limit worst m vs r ≡ true
  unfolding fit_from fits_from
  from_still [] e = e
  from_still (v ∷ rest) e = visit_still v.spot v.place v.instruction rest e

pub unharmed : Unharmed
unfolding fit fits
unharmed p r e = from_still p.limit (worst_over p.limit p.visits) _ r (marks_even (up_to r.spot p.visits)) (on_from r.spot p.visits) e
