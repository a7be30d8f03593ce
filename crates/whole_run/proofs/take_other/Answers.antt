-- `take_other` takes one reply as `take_here` does and goes on along the walk behind its last word: one turn of the run over the row. A record
-- that waits has its instruction in the table.
use mathlib.Core.Path.{refl, ◌∙◌}
use native.Mathlib.Omega.{arith}
use Rattle.step.proofs.PlanLaws.{askable, at_command}
use Rattle.row.proofs.RowLaws.{formed_here}
use Rattle.whole_run.proofs.Turns.{ready, going, moves, decoded_as}
use Rattle.whole_run.proofs.take_other.Goals as goal

pub offset_bounds-table-r : goal.offset_bounds-table-r
offset_bounds-table-r c =
    let p = c.requires in
    omega (arith, (askable _ _ _ _ _ _ p.0.prepared _ p.1.1.0 p.1.1.1).0, p.0.prepared.entries)

pub bounds-table-r : goal.bounds-table-r
bounds-table-r c =
    let p = c.requires in (askable _ _ _ _ _ _ p.0.prepared _ p.1.1.0 p.1.1.1).0

pub unreachable-requires : goal.unreachable-requires
unreachable-requires c =
    let p = c.requires in
    c.in_default.not-Camac _ (c.instruction_at.ensures ∙ (at_command _ _ _ _ _ _ p.0.prepared _ p.1.1.0 p.1.1.1).camac)

pub reply_at-reply-requires : goal.reply_at-reply-requires
reply_at-reply-requires c =
    let p = c.requires in
    let here = formed_here _ _ p.1.0.0 p.1.0.1 in (here.eight, here.formed)

pub take_here-taken-requires : goal.take_here-taken-requires
take_here-taken-requires c =
    let p = c.requires in
    let al = decoded_as _ _ _ _ p.0 _ p.1.1.0 p.1.1.1 _ c.instruction_at.ensures _ c.in-Camac.is in
    ready _ _ _ _ p.0 _ _ al _ refl

pub resume-requires : goal.resume-requires
resume-requires c =
    let p = c.requires in
    let al = decoded_as _ _ _ _ p.0 _ p.1.1.0 p.1.1.1 _ c.instruction_at.ensures _ c.in-Camac.is in (
      omega (arith, p.0.prepared.entries, p.0.prepared.planned.few),
      (
        p.0.prepared.planned.few,
        (
          p.0.prepared.planned.right,
          going _ _ _ _ p.0 _ _ al _ _ _ c.take_here-taken.ensures.bytes _ c.take_here-taken.ensures.record c.take_here-taken.auto.incoming,
        ),
      ),
    )

pub returns : goal.returns
returns c =
    let p = c.requires in
    let al = decoded_as _ _ _ _ p.0 _ p.1.1.0 p.1.1.1 _ c.instruction_at.ensures _ c.in-Camac.is in
    moves _ _ _ _ p.0 _ _ al _ _ _ c.take_here-taken.ensures.bytes _ c.take_here-taken.ensures.record _ _ p.1.0.0 p.1.0.1 c.reply_at-reply.ensures _ _
    c.resume.ensures
