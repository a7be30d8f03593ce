-- `add_row` adds demand by demand. The loop's invariant: the demands from here on, added to this queue, leave what the row leaves.
use Prim.Native.Nat.{ℕ, ◌+◌}
use mathlib.Core.Path.{sym, ap, ◌∙◌}
use mathlib.Core.List.{List, map}
use lib.ListN.{drop}
use Rattle.demands.specs.Demands.{added_all}
use Rattle.demands.proofs.RowLaws.{demand_in, demands_pairs, adding_next, adding_end}
use Rattle.demands.proofs.queue.Queue.add_row.Goals as goal

pub loop-crate_number-preserved : goal.loop-crate_number-preserved
loop-crate_number-preserved c =
    let i = c.loop-crate_number.crate_number-index in
    let pairs = c.as_chunks.result.0.now in
    record {
      same = c.add.ensures.same_reference ∙ c.loop-crate_number.invariant.same;
      left =
          ap (λ (q : List ℕ). added_all q (map demand_in (drop (i + 1) pairs))) c.add.ensures.bytes
          ∙ adding_next _ pairs i c.loop-crate_number-test.true
          ∙ c.loop-crate_number.invariant.left;
    }

pub returns : goal.returns
returns c = record {
  same_reference = c.loop-crate_number.invariant.same;
  bytes =
      adding_end _ _ _ c.loop-crate_number-test.false
      ∙ c.loop-crate_number.invariant.left
      ∙ ap (added_all _) (sym (demands_pairs c.args.row.now c.requires c.as_chunks.ensures.front));
}
