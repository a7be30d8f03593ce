-- The equations of specs/LastWords hold: both sides of each compute to the same.
-- Printed: cargo run --release --manifest-path rust/Cargo.toml -p reference --example equations write
use mathlib.Core.Path.{refl}
use Rattle.worst_count.proofs.Cases.{opened}
use Rattle.equations.specs.LastWords.{LengthsAndEnds, NoWord}

pub lengths_and_ends : LengthsAndEnds
unfolding opened
lengths_and_ends = record {
  buffer_0_offset_0_length_1 = refl;
  buffer_0_offset_5_length_1 = refl;
  buffer_0_offset_6_length_1 = refl;
  buffer_0_offset_0_length_2 = refl;
  buffer_0_offset_4_length_2 = refl;
  buffer_0_offset_5_length_2 = refl;
  buffer_0_offset_0_length_3 = refl;
  buffer_0_offset_3_length_3 = refl;
  buffer_0_offset_4_length_3 = refl;
  buffer_0_offset_0_length_4 = refl;
  buffer_0_offset_2_length_4 = refl;
  buffer_0_offset_3_length_4 = refl;
  whole_buffer_0 = refl;
  longer_than_buffer_0 = refl;
  buffer_1_offset_0_length_1 = refl;
  buffer_1_offset_4_length_1 = refl;
  buffer_1_offset_5_length_1 = refl;
  buffer_1_offset_0_length_2 = refl;
  buffer_1_offset_3_length_2 = refl;
  buffer_1_offset_4_length_2 = refl;
  buffer_1_offset_0_length_3 = refl;
  buffer_1_offset_2_length_3 = refl;
  buffer_1_offset_3_length_3 = refl;
  buffer_1_offset_0_length_4 = refl;
  buffer_1_offset_1_length_4 = refl;
  buffer_1_offset_2_length_4 = refl;
  whole_buffer_1 = refl;
  longer_than_buffer_1 = refl;
}

pub no_word : NoWord
unfolding opened
no_word = record {
  zeros = refl;
  length_0_inside = refl;
  length_0_of_outgoing = refl;
  buffer_2 = refl;
  buffer_255 = refl;
  offset_far_outside = refl;
  length_far_outside = refl;
  empty_buffers_0_length_0 = refl;
  empty_buffers_0_length_2 = refl;
  empty_buffers_1_length_2 = refl;
}
