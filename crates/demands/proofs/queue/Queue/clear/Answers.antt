-- `clear` keeps the limits at each write.
use mathlib.Core.Path.{ap, ◌∙◌}
use native.Mathlib.Omega.{arith}
use Rattle.demands.specs.Demands.{is_queue}
use Rattle.demands.proofs.LayoutLaws.{mark_kept, waiting_kept}
use Rattle.demands.proofs.queue.Queue.clear.Goals as goal

pub invariant_of-self : goal.invariant_of-self
invariant_of-self c = record { limits = mark_kept _ c.args.self.now.limits _ (omega arith) }

pub invariant_of-self-2 : goal.invariant_of-self-2
invariant_of-self-2 c = record {
  limits = ap is_queue c.put_short.ensures ∙ waiting_kept _ (mark_kept _ c.args.self.now.limits _ (omega arith)) 0 (omega arith);
}
