-- The equations of specs/Runs hold: both sides of each compute to the same.
-- Printed: cargo run --release --manifest-path rust/Cargo.toml -p reference --example equations write
use mathlib.Core.Path.{refl}
use Rattle.worst_count.proofs.Cases.{opened}
use Rattle.equations.specs.Runs.{EndCodes, Rows, BadRows, Packing, ShortBlocks, WorstCounts, RefusedRuns}

pub end_codes : EndCodes
unfolding opened
end_codes = record {
  code_0 = refl;
  code_4 = refl;
  code_4_in_scan = refl;
  code_7 = refl;
  code_8 = refl;
  code_8_in_repeat = refl;
  code_9_skipping = refl;
  code_9_single = refl;
  code_a_tpe = refl;
  code_a_lpe = refl;
  code_b_timeout = refl;
  code_b_tries_spent = refl;
  code_0_tries_of_each_word = refl;
  code_c = refl;
  code_d = refl;
  code_0_halt_alone = refl;
}

pub rows : Rows
unfolding opened
rows = record {
  replies_0 = refl;
  replies_1 = refl;
  replies_2 = refl;
  replies_3 = refl;
  replies_4 = refl;
  replies_0_and_1_bytes = refl;
  replies_0_and_2_bytes = refl;
  replies_0_and_3_bytes = refl;
  replies_0_and_4_bytes = refl;
  replies_0_and_5_bytes = refl;
  replies_0_and_6_bytes = refl;
  replies_0_and_7_bytes = refl;
  replies_1_and_1_bytes = refl;
  replies_1_and_2_bytes = refl;
  replies_1_and_3_bytes = refl;
  replies_1_and_4_bytes = refl;
  replies_1_and_5_bytes = refl;
  replies_1_and_6_bytes = refl;
  replies_1_and_7_bytes = refl;
  replies_2_and_1_bytes = refl;
  replies_2_and_2_bytes = refl;
  replies_2_and_3_bytes = refl;
  replies_2_and_4_bytes = refl;
  replies_2_and_5_bytes = refl;
  replies_2_and_6_bytes = refl;
  replies_2_and_7_bytes = refl;
  replies_3_and_1_bytes = refl;
  replies_3_and_2_bytes = refl;
  replies_3_and_3_bytes = refl;
  replies_3_and_4_bytes = refl;
  replies_3_and_5_bytes = refl;
  replies_3_and_6_bytes = refl;
  replies_3_and_7_bytes = refl;
  halt_and_replies = refl;
  halt_and_3_bytes = refl;
}

pub bad_rows : BadRows
unfolding opened
bad_rows = record {
  kind_4_in_reply_0 = refl;
  kind_4_in_reply_1 = refl;
  kind_4_in_reply_2 = refl;
  bit_6_in_reply_0 = refl;
  bit_6_in_reply_1 = refl;
  bit_6_in_reply_2 = refl;
  byte_2_in_reply_0 = refl;
  byte_2_in_reply_1 = refl;
  byte_2_in_reply_2 = refl;
  byte_7_in_reply_0 = refl;
  byte_7_in_reply_1 = refl;
  byte_7_in_reply_2 = refl;
  kind_1_byte_1_in_reply_0 = refl;
  kind_1_byte_1_in_reply_1 = refl;
  kind_1_byte_1_in_reply_2 = refl;
  kind_3_byte_4_in_reply_0 = refl;
  kind_3_byte_4_in_reply_1 = refl;
  kind_3_byte_4_in_reply_2 = refl;
}

pub packing : Packing
unfolding opened
packing = record {
  read_16_24 = refl;
  read_24_16 = refl;
  read_16_16_24 = refl;
  read_16_24_16_24 = refl;
  read_24_24_16 = refl;
  read_16_literal_16_literal = refl;
  write_16_24 = refl;
  write_24_16 = refl;
  write_16_16_24 = refl;
  write_16_24_16_24 = refl;
  write_24_24_16 = refl;
  write_16_literal_16_literal = refl;
  both_buffers_replies_0 = refl;
  both_buffers_replies_1 = refl;
  both_buffers_replies_2 = refl;
  both_buffers_replies_3 = refl;
  both_buffers_replies_4 = refl;
  both_buffers_replies_5 = refl;
  q_and_x_in_the_longword = refl;
}

pub short_blocks : ShortBlocks
unfolding opened
short_blocks = record {
  block_stop_read_16_of_0_before_read_16 = refl;
  block_stop_read_16_of_1_before_read_24 = refl;
  block_stop_read_16_of_2_before_write_16 = refl;
  block_stop_read_16_of_0_before_write_24 = refl;
  block_stop_read_16_of_1_before_control = refl;
  block_stop_read_16_of_2_before_inline = refl;
  block_stop_read_16_of_0_before_literal = refl;
  block_stop_read_16_of_1_before_jump = refl;
  block_stop_read_16_of_2_before_halt = refl;
  enhanced_stop_read_16_of_0_before_read_16 = refl;
  enhanced_stop_read_16_of_1_before_read_24 = refl;
  enhanced_stop_read_16_of_2_before_write_16 = refl;
  enhanced_stop_read_16_of_0_before_write_24 = refl;
  enhanced_stop_read_16_of_1_before_control = refl;
  enhanced_stop_read_16_of_2_before_inline = refl;
  enhanced_stop_read_16_of_0_before_literal = refl;
  enhanced_stop_read_16_of_1_before_jump = refl;
  enhanced_stop_read_16_of_2_before_halt = refl;
  block_stop_write_16_of_0_before_read_16 = refl;
  block_stop_write_16_of_1_before_read_24 = refl;
  block_stop_write_16_of_2_before_write_16 = refl;
  block_stop_write_16_of_0_before_write_24 = refl;
  block_stop_write_16_of_1_before_control = refl;
  block_stop_write_16_of_2_before_inline = refl;
  block_stop_write_16_of_0_before_literal = refl;
  block_stop_write_16_of_1_before_jump = refl;
  block_stop_write_16_of_2_before_halt = refl;
  enhanced_stop_write_16_of_0_before_read_16 = refl;
  enhanced_stop_write_16_of_1_before_read_24 = refl;
  enhanced_stop_write_16_of_2_before_write_16 = refl;
  enhanced_stop_write_16_of_0_before_write_24 = refl;
  enhanced_stop_write_16_of_1_before_control = refl;
  enhanced_stop_write_16_of_2_before_inline = refl;
  enhanced_stop_write_16_of_0_before_literal = refl;
  enhanced_stop_write_16_of_1_before_jump = refl;
  enhanced_stop_write_16_of_2_before_halt = refl;
}

pub worst_counts : WorstCounts
unfolding opened
worst_counts = record {
  stop = refl;
  stop_short = refl;
  ignore = refl;
  repeat = refl;
  scan_of_one = refl;
  scan_of_two = refl;
  scan_of_three = refl;
  scan_of_all_positions = refl;
}

pub refused_runs : RefusedRuns
unfolding opened
refused_runs = record {
  refusal_1 = refl;
  refusal_2 = refl;
  refusal_3 = refl;
  refusal_4 = refl;
  refusal_6 = refl;
  refusal_7 = refl;
  refusal_8 = refl;
  refusal_9 = refl;
  refusal_10 = refl;
  refusal_11 = refl;
  refusal_20 = refl;
  refusal_21 = refl;
  refusal_22 = refl;
}
