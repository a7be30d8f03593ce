-- `take` is `taken_from`: nothing where none waits; else the demand of the oldest's cell, and the next cell is the oldest's. It keeps the limits at
-- each write.
use mathlib.Core.Path.{refl, sym, ap, ◌∙◌}
use native.Mathlib.Omega.{arith}
use Rattle.demands.specs.Demands.{Outcome, with_first, is_queue}
use Rattle.demands.proofs.LayoutLaws.{limits, waiting_kept, first_kept}
use Rattle.demands.proofs.CallLaws.{taken_one}
use Rattle.demands.proofs.queue.Queue.take.Goals as goal

pub invariant_of-self : goal.invariant_of-self
invariant_of-self c = record {
  limits = ap is_queue c.put_short.ensures ∙ waiting_kept _ c.args.self.now.limits _ (omega arith);
}

pub invariant_of-self-2 : goal.invariant_of-self-2
invariant_of-self-2 c = record {
  limits = ap is_queue c.put_short-2.ensures ∙ first_kept _ (ap is_queue c.put_short.ensures ∙ waiting_kept _ c.args.self.now.limits _ (omega arith)) _ (omega arith);
}

pub returns : goal.returns
returns c =
    let left = c.put_short-2.ensures ∙ ap (with_first _) c.put_short.ensures in
    let e = taken_one _ c.waiting-n.ensures.0 (limits _ c.args.self.now.limits) c.first-at.ensures.0 c.if-n-eq0.false in
    record {
      same_reference = refl;
      next = ap (λ (o : Outcome). o.next) (sym e);
      bytes = left ∙ ap (λ (o : Outcome). o.queue) (sym e);
    }
