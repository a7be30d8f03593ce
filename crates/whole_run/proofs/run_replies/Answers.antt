-- `run_replies` is the run over the row. The loop's invariant: the run from the row's beginning is the run from the present place on, and the
-- record has ended or fits. A turn of the loop runs over answers and takes one reply more.
use mathlib.Core.Path.{refl, ◌∙◌}
use mathlib.Core.Logic.{inl, inr, ⊎_elim}
use native.Mathlib.Omega.{arith}
use Rattle.row.proofs.RowLaws.{formed_last}
use Rattle.whole_run.proofs.Turns.{moves_on, moves_as, moves_last}
use Rattle.whole_run.proofs.run_replies.Goals as goal

pub returns-then-here : goal.returns-then-here
returns-then-here c = moves_last _ _ c.loop-k.invariant.0 (inl c.if-here.true)

pub returns-then-stop : goal.returns-then-stop
returns-then-stop c =
    let x = c.run_answers-stop.ensures.0 in
    moves_last _ _ (moves_on _ _ c.loop-k.invariant.0 x)
    (⊎_elim (λ t. inl t) (λ t. inr (formed_last _ _ x.formed (omega (arith, t.1)))) c.then-stop.either)

pub loop-k-preserved : goal.loop-k-preserved
loop-k-preserved c =
    let m = moves_on _ _ c.loop-k.invariant.0 c.run_answers-stop.ensures.0 in (
      moves_as _ _ refl (omega arith) (moves_on _ _ m c.take_other-here.ensures),
      c.take_other-here.auto.incoming ∙ (c.run_answers-stop.auto.incoming ∙ c.loop-k.invariant.1),
    )

pub returns : goal.returns
returns c =
    let inv = c.loop-k.invariant in moves_last _ _ inv.0 (inr (formed_last _ _ inv.0.formed (omega (arith, c.loop-k-test.false))))
