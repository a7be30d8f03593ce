-- `is_row` is `is_row`. The loop's invariant: the demands so far, and those from here on, come out as the whole row.
use mathlib.Core.Path.{◌≡◌}
use mathlib.Core.Bool.{◌&&◌}
use mathlib.Core.List.{map}
use lib.ListN.{drop}
use Rattle.demands.specs.Demands.{are_crates}
use Rattle.demands.proofs.RowLaws.{demand_in}
use Rattle.demands.proofs.row.is_row.Given as goal

abbrev pub invariant-loop-crate_number : goal.invariant-loop-crate_number
invariant-loop-crate_number l = l.are && are_crates (map demand_in (drop l.crate_number-index l.demands)) ≡ are_crates (map demand_in l.demands)
