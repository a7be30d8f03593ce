-- The equations of specs/Starts hold: both sides of each compute to the same.
-- Printed: cargo run --release --manifest-path rust/Cargo.toml -p reference --example equations write
use mathlib.Core.Path.{refl}
use Rattle.worst_count.proofs.Cases.{opened}
use Rattle.equations.specs.Starts.{Operations, Ways, RefusedStarts}

pub operations : Operations
unfolding opened
operations = record {
  single_stop_read_16 = refl;
  single_stop_read_24 = refl;
  single_stop_write_16 = refl;
  single_stop_write_24 = refl;
  single_stop_control = refl;
  single_ignore_read_16 = refl;
  single_ignore_read_24 = refl;
  single_ignore_write_16 = refl;
  single_ignore_write_24 = refl;
  single_ignore_control = refl;
  single_repeat_read_16 = refl;
  single_repeat_read_24 = refl;
  single_repeat_write_16 = refl;
  single_repeat_write_24 = refl;
  single_repeat_control = refl;
  single_scan_read_16 = refl;
  single_scan_read_24 = refl;
  single_scan_write_16 = refl;
  single_scan_write_24 = refl;
  single_scan_control = refl;
  block_stop_read_16 = refl;
  block_stop_read_24 = refl;
  block_stop_write_16 = refl;
  block_stop_write_24 = refl;
  block_ignore_read_16 = refl;
  block_ignore_read_24 = refl;
  block_ignore_write_16 = refl;
  block_ignore_write_24 = refl;
  block_repeat_read_16 = refl;
  block_repeat_read_24 = refl;
  block_repeat_write_16 = refl;
  block_repeat_write_24 = refl;
  block_scan_read_16 = refl;
  block_scan_read_24 = refl;
  block_scan_write_16 = refl;
  block_scan_write_24 = refl;
  enhanced_stop_read_16 = refl;
  enhanced_stop_read_24 = refl;
  enhanced_stop_write_16 = refl;
  enhanced_stop_write_24 = refl;
  enhanced_ignore_read_16 = refl;
  enhanced_ignore_read_24 = refl;
  enhanced_ignore_write_16 = refl;
  enhanced_ignore_write_24 = refl;
  enhanced_repeat_read_16 = refl;
  enhanced_repeat_read_24 = refl;
  sequencer_read_16 = refl;
  sequencer_read_24 = refl;
  sequencer_write_16 = refl;
  sequencer_write_24 = refl;
  inline_stop_16 = refl;
  inline_stop_24 = refl;
  inline_ignore_16 = refl;
  inline_ignore_24 = refl;
  inline_repeat_16 = refl;
  inline_repeat_24 = refl;
  inline_scan_16 = refl;
  inline_scan_24 = refl;
}

pub ways : Ways
unfolding opened
ways = record {
  halt_alone = refl;
  jump_to_a_halt = refl;
  one_literal = refl;
  two_literals = refl;
  jump_over_a_literal = refl;
  literal_before_a_write = refl;
  literal_before_a_read = refl;
  jump_to_a_write = refl;
  jump_to_a_write_and_back = refl;
  longer_buffers = refl;
}

pub refused_starts : RefusedStarts
unfolding opened
refused_starts = record {
  refusal_1 = refl;
  refusal_2 = refl;
  refusal_3 = refl;
  refusal_4 = refl;
  refusal_6 = refl;
  refusal_7 = refl;
  refusal_8 = refl;
  refusal_9 = refl;
  refusal_10 = refl;
  refusal_11 = refl;
  refusal_20 = refl;
  refusal_21 = refl;
}
