-- `add_row` adds demand by demand. The loop's invariant: the demands from here on, added to this queue, leave what the row leaves.
use mathlib.Core.Path.{◌≡◌}
use mathlib.Core.List.{map}
use lib.ListN.{drop}
use Rattle.demands.specs.Demands.{added_all}
use Rattle.demands.proofs.RowLaws.{demand_in}
use Rattle.demands.proofs.queue.Queue.add_row.Given as goal

abbrev pub invariant-loop-crate_number : goal.invariant-loop-crate_number
invariant-loop-crate_number l = record {
  same : l.self.bytes.ghost_name ≡ l.initial.self.bytes.ghost_name;
  left : added_all l.self.bytes.now (map demand_in (drop l.crate_number-index l.demands)) ≡ added_all l.initial.self.bytes.now (map demand_in l.demands);
}
