-- `reach` passes jumps and literals: the invariant is that the walk from here gives for every record with these marks what it gives from
-- `from`, with its room kept; the rest of the walk grows shorter. An admitted field's first byte tells its kind.
use mathlib.Core.Path.{refl}
use mathlib.Core.Bool.{true}
use native.Mathlib.Omega.{arith}
use Rattle.packing.proofs.MarkFacts.{mark_grows}
use Rattle.step.proofs.Onward.{within}
use Rattle.whole_run.proofs.Reach.{here, opens, field, inside, tagged, camac_tag, literal_tag, at_halt, at_command, over_jump, literal_inside, literal_room, over_literal, came_none, came_on}
use Rattle.whole_run.proofs.along.reach.Goals as goal

pub loop-longword-init : goal.loop-longword-init
loop-longword-init c = came_none _ _ _ _ _ c.requires.1

pub offset_bounds-table-at : goal.offset_bounds-table-at
offset_bounds-table-at c = omega (arith, within _ _ _ c.loop-longword.invariant.ahead.on, c.requires.0.few)

pub bounds-table-at : goal.bounds-table-at
bounds-table-at c = omega (arith, within _ _ _ c.loop-longword.invariant.ahead.on, c.requires.0.entries)

pub bounds-list-place : goal.bounds-list-place
bounds-list-place c =
    let h = here c.requires.0 c.from-place.ensures c.loop-longword.invariant in
    omega (arith, inside h)

pub first_at-longword-requires : goal.first_at-longword-requires
first_at-longword-requires c =
    let h = here c.requires.0 c.from-place.ensures c.loop-longword.invariant in
    (field h, camac_tag h c.if-byte-lt-JUMP.true)

pub words_at-requires : goal.words_at-requires
words_at-requires c =
    let h = here c.requires.0 c.from-place.ensures c.loop-longword.invariant in
    (field h, (camac_tag h c.if-byte-lt-JUMP.true, c.first_at-longword.ensures.0))

pub shape_of-incoming-then-byte-lt-JUMP : goal.shape_of-incoming-then-byte-lt-JUMP
shape_of-incoming-then-byte-lt-JUMP c = c.loop-longword.invariant.same_length

pub returns-then-byte-lt-JUMP : goal.returns-then-byte-lt-JUMP
returns-then-byte-lt-JUMP c =
    let h = here c.requires.0 c.from-place.ensures c.loop-longword.invariant in
    let inv = c.loop-longword.invariant in
    record { ahead = inv.ahead; halt = λ e. absurd (cc); command = opens (at_command h (camac_tag h c.if-byte-lt-JUMP.true) _ _ c.first_at-longword.ensures c.words_at.ensures); goes = inv.goes }

pub shape_of-incoming-then-byte-eq-HALT : goal.shape_of-incoming-then-byte-eq-HALT
shape_of-incoming-then-byte-eq-HALT c = c.loop-longword.invariant.same_length

pub returns-then-byte-eq-HALT : goal.returns-then-byte-eq-HALT
returns-then-byte-eq-HALT c =
    let h = here c.requires.0 c.from-place.ensures c.loop-longword.invariant in
    let inv = c.loop-longword.invariant in
    record { ahead = inv.ahead; halt = λ e. at_halt h (tagged h c.if-byte-eq-HALT.true); command = λ o e. absurd (cc); goes = inv.goes }

pub target_at-requires : goal.target_at-requires
target_at-requires c =
    let h = here c.requires.0 c.from-place.ensures c.loop-longword.invariant in
    (field h, tagged h c.if-byte-eq-JUMP.true)

pub loop-longword-smaller-then-byte-eq-JUMP : goal.loop-longword-smaller-then-byte-eq-JUMP
loop-longword-smaller-then-byte-eq-JUMP c =
    let h = here c.requires.0 c.from-place.ensures c.loop-longword.invariant in
    (over_jump h (tagged h c.if-byte-eq-JUMP.true) _ c.target_at.ensures _ c.jump_to-at.ensures).less

pub loop-longword-preserved-then-byte-eq-JUMP : goal.loop-longword-preserved-then-byte-eq-JUMP
loop-longword-preserved-then-byte-eq-JUMP c =
    let h = here c.requires.0 c.from-place.ensures c.loop-longword.invariant in
    came_on _ _ _ _ _ c.loop-longword.invariant (over_jump h (tagged h c.if-byte-eq-JUMP.true) _ c.target_at.ensures _ c.jump_to-at.ensures) refl

pub overflow_add-place : goal.overflow_add-place
overflow_add-place c =
    let h = here c.requires.0 c.from-place.ensures c.loop-longword.invariant in
    omega (arith, inside h)

pub whole_at-requires : goal.whole_at-requires
whole_at-requires c =
    let h = here c.requires.0 c.from-place.ensures c.loop-longword.invariant in
    let literal = literal_tag h c.if-byte-lt-JUMP.false c.if-byte-eq-HALT.false c.if-byte-eq-JUMP.false in
    literal_inside h literal

pub store-requires : goal.store-requires
store-requires c =
    let h = here c.requires.0 c.from-place.ensures c.loop-longword.invariant in
    let literal = literal_tag h c.if-byte-lt-JUMP.false c.if-byte-eq-HALT.false c.if-byte-eq-JUMP.false in
    literal_room h literal

pub after_literal-marks-requires : goal.after_literal-marks-requires
after_literal-marks-requires c =
    let h = here c.requires.0 c.from-place.ensures c.loop-longword.invariant in
    let literal = literal_tag h c.if-byte-lt-JUMP.false c.if-byte-eq-HALT.false c.if-byte-eq-JUMP.false in
    omega (
      arith,
      mark_grows true c.loop-longword.marks.incoming,
      literal_room h literal,
      c.loop-longword.invariant.same_length,
    )

pub spot_after-at-requires : goal.spot_after-at-requires
spot_after-at-requires c = omega (arith, within _ _ _ c.loop-longword.invariant.ahead.on, c.requires.0.few)

pub loop-longword-smaller : goal.loop-longword-smaller
loop-longword-smaller c =
    let h = here c.requires.0 c.from-place.ensures c.loop-longword.invariant in
    let literal = literal_tag h c.if-byte-lt-JUMP.false c.if-byte-eq-HALT.false c.if-byte-eq-JUMP.false in
    (over_literal h literal _ c.whole_at.ensures _ c.spot_after-at.ensures _ c.after_literal-marks.ensures _ c.store.ensures).less

pub loop-longword-preserved : goal.loop-longword-preserved
loop-longword-preserved c =
    let h = here c.requires.0 c.from-place.ensures c.loop-longword.invariant in
    let literal = literal_tag h c.if-byte-lt-JUMP.false c.if-byte-eq-HALT.false c.if-byte-eq-JUMP.false in
    came_on _ _ _ _ _ c.loop-longword.invariant (over_literal h literal _ c.whole_at.ensures _ c.spot_after-at.ensures _ c.after_literal-marks.ensures _ c.store.ensures) c.store.auto.buffer
