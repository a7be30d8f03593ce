-- The loop's invariant: the first bad jump of all fields is the first of those from k on.
use mathlib.Core.Path.{refl, sym, ◌∙◌}
use native.Mathlib.Omega.{arith}
use Rattle.listfile.proofs.PassLaws.{jumps_bad, jumps_more, jumps_right}
use Rattle.listfile.proofs.check.check_jumps.Goals as goal

pub returns-then-is_bad_target : goal.returns-then-is_bad_target
returns-then-is_bad_target c =
    c.loop-k.invariant ∙ rw c.from.ensures
    (jumps_bad _ _ _ _ _ _ c.loop-k-test.true c.requires.1 refl c.instruction_at.ensures (sym c.if-is_bad_target.true ∙ c.is_bad_target.ensures))

pub loop-k-preserved : goal.loop-k-preserved
loop-k-preserved c =
    c.loop-k.invariant
    ∙ jumps_more _ _ _ _ _ _ c.loop-k-test.true c.requires.1 refl c.instruction_at.ensures (sym c.if-is_bad_target.false ∙ c.is_bad_target.ensures)

pub returns : goal.returns
returns c = c.loop-k.invariant ∙ jumps_right _ _ _ (omega arith)
