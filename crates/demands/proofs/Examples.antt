-- The worked examples hold: both sides of each equation compute to the same.
use mathlib.Core.Path.{refl}
use Rattle.base.specs.Bytes.{byte_at, short_at}
use Rattle.demands.specs.Demands.{is_queue, demand_at, with_demand, added_to, added_all, demands_in, is_row, add_of, row_of, take_of, clear_of}
use Rattle.demands.specs.Kept.{empty}
use Rattle.demands.specs.Examples.{Examples}

pub examples : Examples
unfolding byte_at short_at is_queue demand_at with_demand added_to added_all demands_in is_row add_of row_of take_of clear_of empty
examples = record {
  none = refl;
  crates = refl;
  rows = refl;
  three = refl;
  full = refl;
  full_refused = refl;
  room_for_one = refl;
  round = refl;
  no_queue = refl;
  too_short = refl;
}
