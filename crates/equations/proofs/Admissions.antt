-- The equations of specs/Admissions hold: both sides of each compute to the same.
-- Printed: cargo run --release --manifest-path rust/Cargo.toml -p reference --example equations write
use mathlib.Core.Path.{refl}
use Rattle.worst_count.proofs.Cases.{opened}
use Rattle.equations.specs.Admissions.{Refusal1, Refusal2, Refusal3, Refusal4, Refusal5, Refusal6, Refusal7, Refusal8}
use Rattle.equations.specs.Admissions.{Refusal8Enhanced, Refusal9, Refusal10, Refusal11, Refusals20And21, Order, WorstCount, Marks}

pub refusal_1 : Refusal1
unfolding opened
refusal_1 = record {
  first_head_1_byte = refl;
  first_head_2_bytes = refl;
  first_body_none = refl;
  first_body_a_byte_short = refl;
  first_of_tag_2f_cut = refl;
  head_1_byte = refl;
  head_2_bytes = refl;
  head_3_bytes = refl;
  body_a_byte_short = refl;
  body_whole = refl;
  body_of_an_unknown_tag_cut = refl;
  longest_body_cut = refl;
}

pub refusal_2 : Refusal2
unfolding opened
refusal_2 = record {
  no_field = refl;
  halt_first = refl;
  camac_first = refl;
  length_3 = refl;
  length_5 = refl;
  tag_0 = refl;
  format_0 = refl;
  format_2 = refl;
  zero_byte_1 = refl;
  try_limit_0 = refl;
  try_limit_1 = refl;
  try_limit_255 = refl;
  try_limit_256 = refl;
  try_limit_65535 = refl;
}

pub refusal_3 : Refusal3
unfolding opened
refusal_3 = record {
  tag_00 = refl;
  tag_02 = refl;
  tag_0f = refl;
  tag_11 = refl;
  tag_1f = refl;
  tag_22 = refl;
  tag_23 = refl;
  tag_2e = refl;
  tag_30 = refl;
  tag_ff = refl;
  tag_01 = refl;
  unreached = refl;
}

pub refusal_4 : Refusal4
unfolding opened
refusal_4 = record {
  tag_10_length_0 = refl;
  tag_10_length_3 = refl;
  tag_10_length_4 = refl;
  tag_10_length_5 = refl;
  tag_10_length_7 = refl;
  tag_10_length_8 = refl;
  tag_10_length_9 = refl;
  tag_20_length_0 = refl;
  tag_20_length_1 = refl;
  tag_20_length_2 = refl;
  tag_20_length_3 = refl;
  tag_21_length_0 = refl;
  tag_21_length_3 = refl;
  tag_21_length_4 = refl;
  tag_21_length_5 = refl;
  tag_2f_length_0 = refl;
  tag_2f_length_1 = refl;
  unreached = refl;
}

pub refusal_5 : Refusal5
unfolding opened
refusal_5 = record {
  instruction_4096 = refl;
  instruction_4097 = refl;
  behind_it_nothing_is_read = refl;
  before_an_unknown_tag = refl;
  behind_a_cut_field = refl;
  unknown_tag_4096 = refl;
}

pub refusal_6 : Refusal6
unfolding opened
refusal_6 = record {
  bit_31 = refl;
  bit_30 = refl;
  bit_15 = refl;
  bit_14 = refl;
  bit_7 = refl;
  bit_2 = refl;
  block_bit_2 = refl;
  none = refl;
  unreached = refl;
}

pub refusal_7 : Refusal7
unfolding opened
refusal_7 = record {
  crate_0 = refl;
  crate_1 = refl;
  crate_62 = refl;
  crate_63 = refl;
  station_0 = refl;
  station_1 = refl;
  station_23 = refl;
  station_24 = refl;
  station_29 = refl;
  station_30 = refl;
  station_31 = refl;
  single_station_30_q_mode_0 = refl;
  block_station_30_q_mode_0 = refl;
  inline_station_30_q_mode_0 = refl;
  single_station_30_q_mode_1 = refl;
  block_station_30_q_mode_1 = refl;
  inline_station_30_q_mode_1 = refl;
  single_station_30_q_mode_2 = refl;
  block_station_30_q_mode_2 = refl;
  inline_station_30_q_mode_2 = refl;
  single_station_30_q_mode_3 = refl;
  block_station_30_q_mode_3 = refl;
  inline_station_30_q_mode_3 = refl;
  sequencer_station_24 = refl;
  sequencer_station_30 = refl;
  sequencer_station_31 = refl;
  unreached = refl;
}

pub refusal_8 : Refusal8
unfolding opened
refusal_8 = record {
  mode_0_length_4 = refl;
  mode_0_length_8 = refl;
  mode_1_length_4 = refl;
  mode_1_length_8 = refl;
  mode_2_length_4 = refl;
  mode_2_length_8 = refl;
  mode_3_length_4 = refl;
  mode_3_length_8 = refl;
  block_function_0 = refl;
  block_function_7 = refl;
  block_function_8 = refl;
  block_function_15 = refl;
  block_function_16 = refl;
  block_function_23 = refl;
  block_function_24 = refl;
  block_function_31 = refl;
  inline_function_0 = refl;
  inline_function_7 = refl;
  inline_function_8 = refl;
  inline_function_15 = refl;
  inline_function_16 = refl;
  inline_function_23 = refl;
  inline_function_24 = refl;
  inline_function_31 = refl;
  single_function_7 = refl;
  single_function_8 = refl;
  single_function_15 = refl;
  single_function_16 = refl;
  single_function_23 = refl;
  single_function_24 = refl;
  single_function_31 = refl;
  unreached = refl;
}

pub refusal_8_enhanced : Refusal8Enhanced
unfolding opened
refusal_8_enhanced = record {
  q_mode_0_function_0 = refl;
  q_mode_0_function_7 = refl;
  q_mode_0_function_8 = refl;
  q_mode_0_function_15 = refl;
  q_mode_0_function_16 = refl;
  q_mode_0_function_23 = refl;
  q_mode_0_function_24 = refl;
  q_mode_0_function_31 = refl;
  q_mode_1_function_0 = refl;
  q_mode_1_function_7 = refl;
  q_mode_1_function_8 = refl;
  q_mode_1_function_15 = refl;
  q_mode_1_function_16 = refl;
  q_mode_1_function_23 = refl;
  q_mode_1_function_24 = refl;
  q_mode_1_function_31 = refl;
  q_mode_2_function_0 = refl;
  q_mode_2_function_7 = refl;
  q_mode_2_function_8 = refl;
  q_mode_2_function_15 = refl;
  q_mode_2_function_16 = refl;
  q_mode_2_function_23 = refl;
  q_mode_2_function_24 = refl;
  q_mode_2_function_31 = refl;
  sequencer_subaddress_0 = refl;
  sequencer_subaddress_1 = refl;
  sequencer_subaddress_2 = refl;
  sequencer_subaddress_3 = refl;
  sequencer_subaddress_4 = refl;
  sequencer_subaddress_5 = refl;
  sequencer_function_0 = refl;
  sequencer_function_4 = refl;
  sequencer_function_11 = refl;
  sequencer_function_13 = refl;
  sequencer_function_16 = refl;
  sequencer_function_28 = refl;
  sequencer_station_1 = refl;
  sequencer_station_23 = refl;
}

pub refusal_9 : Refusal9
unfolding opened
refusal_9 = record {
  block_16_h_0 = refl;
  block_16_h_1 = refl;
  block_16_h_65537 = refl;
  block_24_h_0 = refl;
  block_24_h_1 = refl;
  block_24_h_2 = refl;
  block_24_h_3 = refl;
  block_24_h_65535 = refl;
  block_24_h_65537 = refl;
  block_24_h_65538 = refl;
  enhanced_16_h_0 = refl;
  enhanced_16_h_1 = refl;
  enhanced_16_h_65537 = refl;
  enhanced_24_h_0 = refl;
  enhanced_24_h_1 = refl;
  enhanced_24_h_2 = refl;
  enhanced_24_h_3 = refl;
  enhanced_24_h_65535 = refl;
  enhanced_24_h_65537 = refl;
  enhanced_24_h_65538 = refl;
  block_16_h_65536 = refl;
  block_second_longword_1 = refl;
  inline_16_word_ffff = refl;
  inline_16_word_10000 = refl;
  inline_16_word_80000000 = refl;
  inline_24_word_ffffff = refl;
  inline_24_word_1000000 = refl;
  inline_24_word_80000000 = refl;
  scan_23_15_words_1 = refl;
  scan_23_15_words_2 = refl;
  scan_23_14_words_2 = refl;
  scan_23_14_words_3 = refl;
  scan_23_0_words_16 = refl;
  scan_23_0_words_17 = refl;
  scan_22_14_words_18 = refl;
  scan_22_14_words_19 = refl;
  sequencer_words_0 = refl;
  sequencer_words_1 = refl;
  sequencer_words_369 = refl;
  unreached = refl;
}

pub refusal_10 : Refusal10
unfolding opened
refusal_10 = record {
  target_1_of_3 = refl;
  target_2_of_3 = refl;
  target_3_of_3 = refl;
  target_65535 = refl;
  unreached_target_0_of_2 = refl;
  unreached_target_1_of_2 = refl;
  unreached_target_2_of_2 = refl;
  first_of_two = refl;
  behind_7 = refl;
}

pub refusal_11 : Refusal11
unfolding opened
refusal_11 = record {
  no_instruction = refl;
  jump_to_itself = refl;
  jump_to_itself_before_a_halt = refl;
  two_jumps_around = refl;
  back_to_the_middle = refl;
  passes_a_literal = refl;
  passes_a_camac = refl;
  halt_not_reached = refl;
  jump_over_to_a_halt = refl;
  back_to_a_halt = refl;
  loop_not_reached = refl;
}

pub refusals_20_and_21 : Refusals20And21
unfolding opened
refusals_20_and_21 = record {
  lengths_8_and_12 = refl;
  lengths_7_and_12 = refl;
  lengths_8_and_11 = refl;
  lengths_7_and_11 = refl;
  lengths_0_and_12 = refl;
  lengths_8_and_0 = refl;
  lengths_9_and_13 = refl;
  lengths_1099511627776_and_1099511627776 = refl;
}

pub order : Order
unfolding opened
order = record {
  zero_bit_before_crate = refl;
  zero_bit_before_mode = refl;
  crate_before_mode = refl;
  mode_before_count = refl;
  count_before_a_zero_bit_behind = refl;
  zero_bit_behind_before_jump = refl;
  jump_before_walk = refl;
  cut_before_unknown_tag = refl;
  tag_before_length = refl;
  length_before_zero_bit = refl;
  walk_before_incoming = refl;
  first_field_before_others = refl;
}

pub worst_count : WorstCount
unfolding opened
worst_count = record {
  stop_words_1 = refl;
  stop_words_2 = refl;
  stop_words_5 = refl;
  stop_single = refl;
  ignore_words_1 = refl;
  ignore_words_2 = refl;
  ignore_words_5 = refl;
  ignore_single = refl;
  repeat_words_1 = refl;
  repeat_words_2 = refl;
  repeat_words_5 = refl;
  repeat_single = refl;
  scan_words_1 = refl;
  scan_words_2 = refl;
  scan_words_5 = refl;
  scan_single = refl;
  scan_words_32 = refl;
  scan_words_33 = refl;
  scan_words_34 = refl;
  scan_words_35 = refl;
  repeat_try_limit_1 = refl;
  repeat_try_limit_2 = refl;
  repeat_try_limit_65535 = refl;
  over_the_walk_only = refl;
}

pub marks : Marks
unfolding opened
marks = record {
  read_24_16 = refl;
  read_16_24 = refl;
  read_16_24_16_24 = refl;
  read_3_of_16_24_2_of_16 = refl;
  read_16_literal = refl;
  write_24_16 = refl;
  write_16_24 = refl;
  write_16_24_16_24 = refl;
  write_3_of_16_24_2_of_16 = refl;
  write_16_literal = refl;
  one_literal = refl;
  control_and_inline = refl;
}
