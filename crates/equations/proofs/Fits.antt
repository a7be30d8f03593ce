-- The equations of specs/Fits hold: both sides of each compute to the same.
-- Printed: cargo run --release --manifest-path rust/Cargo.toml -p reference --example equations write
use mathlib.Core.Path.{refl}
use Rattle.worst_count.proofs.Cases.{opened}
use Rattle.equations.specs.Fits.{BlockStopRead16FirstWord, BlockStopRead16LastWord, BlockStopWrite24FirstWord, BlockStopWrite24LastWord, BlockIgnoreRead16FirstWord, BlockIgnoreRead16LastWord, BlockIgnoreWrite24FirstWord, BlockIgnoreWrite24LastWord}
use Rattle.equations.specs.Fits.{BlockRepeatRead16FirstWord, BlockRepeatRead16LastWord, BlockRepeatWrite24FirstWord, BlockRepeatWrite24LastWord, BlockScanRead16FirstWord, BlockScanRead16LastWord, BlockScanWrite24FirstWord, BlockScanWrite24LastWord}
use Rattle.equations.specs.Fits.{Instructions, Statuses, Notes, FewPositions, Order, RefusedLists, Replies}

pub block_stop_read_16_first_word : BlockStopRead16FirstWord
unfolding opened
block_stop_read_16_first_word = record {
  fits = refl;
  instruction_less = refl;
  instruction_more = refl;
  words_left_more = refl;
  tries_more = refl;
  station_less = refl;
  station_more = refl;
  subaddress_less = refl;
  subaddress_more = refl;
  incoming_mark_less = refl;
  incoming_mark_more = refl;
  outgoing_mark_more = refl;
  operations_more = refl;
  note_buffer_more = refl;
  note_offset_more = refl;
  note_length_less = refl;
  note_length_more = refl;
  incoming_mark_more_by_2 = refl;
  outgoing_mark_more_by_2 = refl;
}

pub block_stop_read_16_last_word : BlockStopRead16LastWord
unfolding opened
block_stop_read_16_last_word = record {
  fits = refl;
  words_left_less = refl;
  words_left_more = refl;
  incoming_mark_less = refl;
  incoming_mark_more = refl;
  outgoing_mark_more = refl;
  operations_more = refl;
  incoming_mark_more_by_2 = refl;
  outgoing_mark_more_by_2 = refl;
}

pub block_stop_write_24_first_word : BlockStopWrite24FirstWord
unfolding opened
block_stop_write_24_first_word = record {
  fits = refl;
  incoming_mark_less = refl;
  incoming_mark_more = refl;
  outgoing_mark_more = refl;
  operations_more = refl;
  incoming_mark_more_by_2 = refl;
  outgoing_mark_more_by_2 = refl;
}

pub block_stop_write_24_last_word : BlockStopWrite24LastWord
unfolding opened
block_stop_write_24_last_word = record {
  fits = refl;
  words_left_more = refl;
  incoming_mark_less = refl;
  incoming_mark_more = refl;
  outgoing_mark_less = refl;
  outgoing_mark_more = refl;
  operations_more = refl;
  note_buffer_less = refl;
  incoming_mark_more_by_2 = refl;
  outgoing_mark_more_by_2 = refl;
}

pub block_ignore_read_16_first_word : BlockIgnoreRead16FirstWord
unfolding opened
block_ignore_read_16_first_word = record {
  fits = refl;
  tries_more = refl;
  station_less = refl;
  station_more = refl;
  subaddress_less = refl;
  subaddress_more = refl;
  incoming_mark_less = refl;
  incoming_mark_more = refl;
  outgoing_mark_more = refl;
  operations_more = refl;
  incoming_mark_more_by_2 = refl;
  outgoing_mark_more_by_2 = refl;
}

pub block_ignore_read_16_last_word : BlockIgnoreRead16LastWord
unfolding opened
block_ignore_read_16_last_word = record {
  fits = refl;
  words_left_more = refl;
  incoming_mark_less = refl;
  incoming_mark_more = refl;
  outgoing_mark_more = refl;
  operations_more = refl;
  incoming_mark_more_by_2 = refl;
  outgoing_mark_more_by_2 = refl;
}

pub block_ignore_write_24_first_word : BlockIgnoreWrite24FirstWord
unfolding opened
block_ignore_write_24_first_word = record {
  fits = refl;
  incoming_mark_less = refl;
  incoming_mark_more = refl;
  outgoing_mark_more = refl;
  operations_more = refl;
  incoming_mark_more_by_2 = refl;
  outgoing_mark_more_by_2 = refl;
}

pub block_ignore_write_24_last_word : BlockIgnoreWrite24LastWord
unfolding opened
block_ignore_write_24_last_word = record {
  fits = refl;
  words_left_more = refl;
  incoming_mark_less = refl;
  incoming_mark_more = refl;
  outgoing_mark_less = refl;
  outgoing_mark_more = refl;
  operations_more = refl;
  incoming_mark_more_by_2 = refl;
  outgoing_mark_more_by_2 = refl;
}

pub block_repeat_read_16_first_word : BlockRepeatRead16FirstWord
unfolding opened
block_repeat_read_16_first_word = record {
  fits = refl;
  tries_less = refl;
  tries_more = refl;
  station_less = refl;
  station_more = refl;
  subaddress_less = refl;
  subaddress_more = refl;
  incoming_mark_less = refl;
  incoming_mark_more = refl;
  outgoing_mark_more = refl;
  operations_more = refl;
  incoming_mark_more_by_2 = refl;
  outgoing_mark_more_by_2 = refl;
}

pub block_repeat_read_16_last_word : BlockRepeatRead16LastWord
unfolding opened
block_repeat_read_16_last_word = record {
  fits = refl;
  words_left_more = refl;
  tries_less = refl;
  incoming_mark_less = refl;
  incoming_mark_more = refl;
  outgoing_mark_more = refl;
  operations_more = refl;
  incoming_mark_more_by_2 = refl;
  outgoing_mark_more_by_2 = refl;
}

pub block_repeat_write_24_first_word : BlockRepeatWrite24FirstWord
unfolding opened
block_repeat_write_24_first_word = record {
  fits = refl;
  tries_less = refl;
  incoming_mark_less = refl;
  incoming_mark_more = refl;
  outgoing_mark_more = refl;
  operations_more = refl;
  incoming_mark_more_by_2 = refl;
  outgoing_mark_more_by_2 = refl;
}

pub block_repeat_write_24_last_word : BlockRepeatWrite24LastWord
unfolding opened
block_repeat_write_24_last_word = record {
  fits = refl;
  words_left_more = refl;
  tries_less = refl;
  incoming_mark_less = refl;
  incoming_mark_more = refl;
  outgoing_mark_less = refl;
  outgoing_mark_more = refl;
  operations_more = refl;
  incoming_mark_more_by_2 = refl;
  outgoing_mark_more_by_2 = refl;
}

pub block_scan_read_16_first_word : BlockScanRead16FirstWord
unfolding opened
block_scan_read_16_first_word = record {
  fits = refl;
  tries_more = refl;
  station_less = refl;
  subaddress_less = refl;
  incoming_mark_less = refl;
  incoming_mark_more = refl;
  outgoing_mark_more = refl;
  operations_more = refl;
  incoming_mark_more_by_2 = refl;
  outgoing_mark_more_by_2 = refl;
}

pub block_scan_read_16_last_word : BlockScanRead16LastWord
unfolding opened
block_scan_read_16_last_word = record {
  fits = refl;
  words_left_more = refl;
  station_less = refl;
  station_more = refl;
  subaddress_more = refl;
  incoming_mark_less = refl;
  incoming_mark_more = refl;
  outgoing_mark_more = refl;
  operations_more = refl;
  incoming_mark_more_by_2 = refl;
  outgoing_mark_more_by_2 = refl;
}

pub block_scan_write_24_first_word : BlockScanWrite24FirstWord
unfolding opened
block_scan_write_24_first_word = record {
  fits = refl;
  incoming_mark_less = refl;
  incoming_mark_more = refl;
  outgoing_mark_more = refl;
  operations_more = refl;
  incoming_mark_more_by_2 = refl;
  outgoing_mark_more_by_2 = refl;
}

pub block_scan_write_24_last_word : BlockScanWrite24LastWord
unfolding opened
block_scan_write_24_last_word = record {
  fits = refl;
  words_left_more = refl;
  station_less = refl;
  incoming_mark_less = refl;
  incoming_mark_more = refl;
  outgoing_mark_less = refl;
  outgoing_mark_more = refl;
  operations_more = refl;
  incoming_mark_more_by_2 = refl;
  outgoing_mark_more_by_2 = refl;
}

pub instructions : Instructions
unfolding opened
instructions = record {
  at_literal = refl;
  at_block = refl;
  at_jump = refl;
  at_unreached = refl;
  at_halt = refl;
  at_past_last = refl;
}

pub statuses : Statuses
unfolding opened
statuses = record {
  bit_0 = refl;
  bit_1 = refl;
  bit_2 = refl;
  bit_3 = refl;
  bit_4 = refl;
  bit_5 = refl;
  bit_6 = refl;
  bit_7 = refl;
  bit_8 = refl;
  bit_9 = refl;
  bit_10 = refl;
  bit_11 = refl;
  bit_12 = refl;
  bit_13 = refl;
  bit_14 = refl;
  bit_15 = refl;
  bit_16 = refl;
  bit_17 = refl;
  bit_18 = refl;
  bit_19 = refl;
  bit_20 = refl;
  bit_21 = refl;
  bit_22 = refl;
  bit_23 = refl;
  bit_24 = refl;
  bit_25 = refl;
  bit_26 = refl;
  bit_27 = refl;
  bit_28 = refl;
  bit_29 = refl;
  bit_30 = refl;
  bit_31 = refl;
  all_that_fit = refl;
  gathered = refl;
}

pub notes : Notes
unfolding opened
notes = record {
  buffer_0_offset_0_length_0 = refl;
  buffer_0_offset_1_length_0 = refl;
  buffer_0_offset_2_length_0 = refl;
  buffer_0_offset_0_length_1 = refl;
  buffer_0_offset_1_length_1 = refl;
  buffer_0_offset_2_length_1 = refl;
  buffer_0_offset_0_length_2 = refl;
  buffer_0_offset_1_length_2 = refl;
  buffer_0_offset_2_length_2 = refl;
  buffer_0_offset_0_length_3 = refl;
  buffer_0_offset_1_length_3 = refl;
  buffer_0_offset_0_length_4 = refl;
  buffer_1_offset_0_length_0 = refl;
  buffer_1_offset_1_length_0 = refl;
  buffer_1_offset_2_length_0 = refl;
  buffer_1_offset_0_length_1 = refl;
  buffer_1_offset_1_length_1 = refl;
  buffer_1_offset_2_length_1 = refl;
  buffer_1_offset_0_length_2 = refl;
  buffer_1_offset_1_length_2 = refl;
  buffer_1_offset_2_length_2 = refl;
  buffer_1_offset_0_length_3 = refl;
  buffer_1_offset_1_length_3 = refl;
  buffer_1_offset_0_length_4 = refl;
  buffer_2_offset_0_length_0 = refl;
  buffer_2_offset_0_length_1 = refl;
  buffer_2_offset_0_length_2 = refl;
  buffer_2_offset_0_length_3 = refl;
  buffer_2_offset_0_length_4 = refl;
}

pub few_positions : FewPositions
unfolding opened
few_positions = record {
  at_23_13_left_3_most = refl;
  at_23_13_left_3_one_more = refl;
  at_23_14_left_3_most = refl;
  at_23_14_left_3_one_more = refl;
  at_23_15_left_3_most = refl;
  at_23_15_left_3_one_more = refl;
  at_23_14_left_2_most = refl;
  at_23_14_left_2_one_more = refl;
  at_23_15_left_2_most = refl;
  at_23_15_left_2_one_more = refl;
  at_23_15_left_1_most = refl;
  at_23_15_left_1_one_more = refl;
}

pub order : Order
unfolding opened
order = record {
  ended_record = refl;
  ended_with_zeros = refl;
  ended_and_unfit = refl;
  unfit_and_bad_reply = refl;
  bad_reply = refl;
}

pub refused_lists : RefusedLists
unfolding opened
refused_lists = record {
  refusal_21 = refl;
  refusal_20 = refl;
  refusal_1 = refl;
  refusal_2 = refl;
  refusal_3 = refl;
  refusal_4 = refl;
  refusal_6 = refl;
  refusal_7 = refl;
  refusal_8 = refl;
  refusal_9 = refl;
  refusal_10 = refl;
  refusal_11 = refl;
}

pub replies : Replies
unfolding opened
replies = record {
  length_0 = refl;
  length_1 = refl;
  length_2 = refl;
  length_3 = refl;
  length_4 = refl;
  length_5 = refl;
  length_6 = refl;
  length_7 = refl;
  length_9 = refl;
  length_16 = refl;
  kind_0 = refl;
  kind_1 = refl;
  kind_2 = refl;
  kind_3 = refl;
  kind_4 = refl;
  kind_5 = refl;
  answer_byte_0_255 = refl;
  answer_byte_1_64 = refl;
  answer_byte_1_128 = refl;
  answer_byte_1_63 = refl;
  answer_byte_2_1 = refl;
  answer_byte_3_1 = refl;
  answer_byte_7_1 = refl;
  answer_byte_6_255 = refl;
  kind_1_byte_1 = refl;
  kind_1_byte_2 = refl;
  kind_1_byte_3 = refl;
  kind_1_byte_4 = refl;
  kind_1_byte_5 = refl;
  kind_1_byte_6 = refl;
  kind_1_byte_7 = refl;
  kind_2_byte_1 = refl;
  kind_2_byte_2 = refl;
  kind_2_byte_3 = refl;
  kind_2_byte_4 = refl;
  kind_2_byte_5 = refl;
  kind_2_byte_6 = refl;
  kind_2_byte_7 = refl;
  kind_3_byte_1 = refl;
  kind_3_byte_2 = refl;
  kind_3_byte_3 = refl;
  kind_3_byte_4 = refl;
  kind_3_byte_5 = refl;
  kind_3_byte_6 = refl;
  kind_3_byte_7 = refl;
}
