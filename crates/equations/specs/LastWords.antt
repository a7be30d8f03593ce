-- The last moved word: parts of either buffer, and notes that show none.
-- Printed with the separate build's answers: cargo run --release --manifest-path rust/Cargo.toml -p reference --example equations write
use Rattle.std.specs.Prelude.{◌≡◌, []}
use Rattle.calls.specs.Calls.{last_moved, no_part}
use Rattle.equations.specs.Forms.{hex, note, part}

-- words of each length from the first byte on, up to the end, and past it
pub record LengthsAndEnds : Type 0 where
  pub buffer_0_offset_0_length_1 : last_moved (note 0 0 1) (hex 6 0x111213141516) (hex 5 0x8182838485) ≡ part 0 0 (hex 1 0x11)
  pub buffer_0_offset_5_length_1 : last_moved (note 0 5 1) (hex 6 0x111213141516) (hex 5 0x8182838485) ≡ part 0 5 (hex 1 0x16)
  pub buffer_0_offset_6_length_1 : last_moved (note 0 6 1) (hex 6 0x111213141516) (hex 5 0x8182838485) ≡ no_part
  pub buffer_0_offset_0_length_2 : last_moved (note 0 0 2) (hex 6 0x111213141516) (hex 5 0x8182838485) ≡ part 0 0 (hex 2 0x1112)
  pub buffer_0_offset_4_length_2 : last_moved (note 0 4 2) (hex 6 0x111213141516) (hex 5 0x8182838485) ≡ part 0 4 (hex 2 0x1516)
  pub buffer_0_offset_5_length_2 : last_moved (note 0 5 2) (hex 6 0x111213141516) (hex 5 0x8182838485) ≡ no_part
  pub buffer_0_offset_0_length_3 : last_moved (note 0 0 3) (hex 6 0x111213141516) (hex 5 0x8182838485) ≡ part 0 0 (hex 3 0x111213)
  pub buffer_0_offset_3_length_3 : last_moved (note 0 3 3) (hex 6 0x111213141516) (hex 5 0x8182838485) ≡ part 0 3 (hex 3 0x141516)
  pub buffer_0_offset_4_length_3 : last_moved (note 0 4 3) (hex 6 0x111213141516) (hex 5 0x8182838485) ≡ no_part
  pub buffer_0_offset_0_length_4 : last_moved (note 0 0 4) (hex 6 0x111213141516) (hex 5 0x8182838485) ≡ part 0 0 (hex 4 0x11121314)
  pub buffer_0_offset_2_length_4 : last_moved (note 0 2 4) (hex 6 0x111213141516) (hex 5 0x8182838485) ≡ part 0 2 (hex 4 0x13141516)
  pub buffer_0_offset_3_length_4 : last_moved (note 0 3 4) (hex 6 0x111213141516) (hex 5 0x8182838485) ≡ no_part
  pub whole_buffer_0 : last_moved (note 0 0 6) (hex 6 0x111213141516) (hex 5 0x8182838485) ≡ part 0 0 (hex 6 0x111213141516)
  pub longer_than_buffer_0 : last_moved (note 0 0 7) (hex 6 0x111213141516) (hex 5 0x8182838485) ≡ no_part
  pub buffer_1_offset_0_length_1 : last_moved (note 1 0 1) (hex 6 0x111213141516) (hex 5 0x8182838485) ≡ part 1 0 (hex 1 0x81)
  pub buffer_1_offset_4_length_1 : last_moved (note 1 4 1) (hex 6 0x111213141516) (hex 5 0x8182838485) ≡ part 1 4 (hex 1 0x85)
  pub buffer_1_offset_5_length_1 : last_moved (note 1 5 1) (hex 6 0x111213141516) (hex 5 0x8182838485) ≡ no_part
  pub buffer_1_offset_0_length_2 : last_moved (note 1 0 2) (hex 6 0x111213141516) (hex 5 0x8182838485) ≡ part 1 0 (hex 2 0x8182)
  pub buffer_1_offset_3_length_2 : last_moved (note 1 3 2) (hex 6 0x111213141516) (hex 5 0x8182838485) ≡ part 1 3 (hex 2 0x8485)
  pub buffer_1_offset_4_length_2 : last_moved (note 1 4 2) (hex 6 0x111213141516) (hex 5 0x8182838485) ≡ no_part
  pub buffer_1_offset_0_length_3 : last_moved (note 1 0 3) (hex 6 0x111213141516) (hex 5 0x8182838485) ≡ part 1 0 (hex 3 0x818283)
  pub buffer_1_offset_2_length_3 : last_moved (note 1 2 3) (hex 6 0x111213141516) (hex 5 0x8182838485) ≡ part 1 2 (hex 3 0x838485)
  pub buffer_1_offset_3_length_3 : last_moved (note 1 3 3) (hex 6 0x111213141516) (hex 5 0x8182838485) ≡ no_part
  pub buffer_1_offset_0_length_4 : last_moved (note 1 0 4) (hex 6 0x111213141516) (hex 5 0x8182838485) ≡ part 1 0 (hex 4 0x81828384)
  pub buffer_1_offset_1_length_4 : last_moved (note 1 1 4) (hex 6 0x111213141516) (hex 5 0x8182838485) ≡ part 1 1 (hex 4 0x82838485)
  pub buffer_1_offset_2_length_4 : last_moved (note 1 2 4) (hex 6 0x111213141516) (hex 5 0x8182838485) ≡ no_part
  pub whole_buffer_1 : last_moved (note 1 0 5) (hex 6 0x111213141516) (hex 5 0x8182838485) ≡ part 1 0 (hex 5 0x8182838485)
  pub longer_than_buffer_1 : last_moved (note 1 0 6) (hex 6 0x111213141516) (hex 5 0x8182838485) ≡ no_part

-- no word: zeros, a length of 0, no such buffer, an offset far outside, empty buffers
pub record NoWord : Type 0 where
  pub zeros : last_moved (note 0 0 0) (hex 6 0x111213141516) (hex 5 0x8182838485) ≡ no_part
  pub length_0_inside : last_moved (note 0 2 0) (hex 6 0x111213141516) (hex 5 0x8182838485) ≡ no_part
  pub length_0_of_outgoing : last_moved (note 1 2 0) (hex 6 0x111213141516) (hex 5 0x8182838485) ≡ no_part
  pub buffer_2 : last_moved (note 2 0 2) (hex 6 0x111213141516) (hex 5 0x8182838485) ≡ no_part
  pub buffer_255 : last_moved (note 255 0 2) (hex 6 0x111213141516) (hex 5 0x8182838485) ≡ no_part
  pub offset_far_outside : last_moved (note 0 18446744073709551615 2) (hex 6 0x111213141516) (hex 5 0x8182838485) ≡ no_part
  pub length_far_outside : last_moved (note 1 2 18446744073709551615) (hex 6 0x111213141516) (hex 5 0x8182838485) ≡ no_part
  pub empty_buffers_0_length_0 : last_moved (note 0 0 0) [] [] ≡ no_part
  pub empty_buffers_0_length_2 : last_moved (note 0 0 2) [] [] ≡ no_part
  pub empty_buffers_1_length_2 : last_moved (note 1 0 2) [] [] ≡ no_part
