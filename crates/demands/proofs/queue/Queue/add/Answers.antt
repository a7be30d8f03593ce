-- `add` is `added_to`: where 2,048 wait, the mark alone; else the cell behind the last, and one more. It keeps the limits at each write.
use mathlib.Core.Path.{ap, ◌∙◌}
use native.Mathlib.Omega.{arith}
use Rattle.demands.specs.Demands.{is_queue}
use Rattle.demands.proofs.LayoutLaws.{mark_kept, cell_kept, waiting_kept}
use Rattle.demands.proofs.CallLaws.{added_room}
use Rattle.demands.proofs.queue.Queue.add.Goals as goal

pub invariant_of-self : goal.invariant_of-self
invariant_of-self c = record { limits = mark_kept _ c.args.self.now.limits _ (omega arith) }

pub invariant_of-self-2 : goal.invariant_of-self-2
invariant_of-self-2 c = record { limits = cell_kept _ c.args.self.now.limits _ _ (omega arith) }

pub invariant_of-self-3 : goal.invariant_of-self-3
invariant_of-self-3 c = record { limits = cell_kept _ (cell_kept _ c.args.self.now.limits _ _ (omega arith)) _ _ (omega arith) }

pub invariant_of-self-4 : goal.invariant_of-self-4
invariant_of-self-4 c = record {
  limits = ap is_queue c.put_short.ensures ∙ waiting_kept _ (cell_kept _ (cell_kept _ c.args.self.now.limits _ _ (omega arith)) _ _ (omega arith)) _ (omega arith);
}

pub returns-clause-bytes : goal.returns-clause-bytes
returns-clause-bytes c =
    c.put_short.ensures ∙ added_room _ c.waiting-n.ensures.0 c.args.demand c.first.ensures.0 (λ full. omega arith)
