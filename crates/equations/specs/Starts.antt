-- Start: the first operation of every kind, runs that end at once, refusals.
-- Printed with the separate build's answers: cargo run --release --manifest-path rust/Cargo.toml -p reference --example equations write
use Rattle.std.specs.Prelude.{◌≡◌, true, false, [], ◌++◌}
use Rattle.reply.specs.Effect.{state_of}
use Rattle.calls.specs.Calls.{start_of}
use Rattle.worst_count.specs.Cases.{first_field, jump, literal, halt}
use Rattle.equations.specs.Forms.{hex, camac_4, camac_8, waiting, ended, operation, wants, wants_none, refused_with}

-- the operation wanted first: crate, N, A, F and data, whether it is enhanced
pub record Operations : Type 0 where
  pub single_stop_read_16 : start_of (first_field 2 ++ camac_4 0x0A620902 ++ halt) (hex 2 0x1112) []
      ≡ wants (operation 9 5 3 2 0x000000 false) (state_of (waiting 0 1 0 5 3 0 0 0 0x00000000 0 0 0) (hex 2 0x1112) [])
  pub single_stop_read_24 : start_of (first_field 2 ++ camac_4 0x0A620901 ++ halt) (hex 4 0x11121314) []
      ≡ wants (operation 9 5 3 2 0x000000 false) (state_of (waiting 0 1 0 5 3 0 0 0 0x00000000 0 0 0) (hex 4 0x11121314) [])
  pub single_stop_write_16 : start_of (first_field 2 ++ camac_4 0x0A710902 ++ halt) [] (hex 2 0x8182)
      ≡ wants (operation 9 5 3 17 0x008281 false) (state_of (waiting 0 1 0 5 3 0 0 0 0x00000000 0 0 0) [] (hex 2 0x8182))
  pub single_stop_write_24 : start_of (first_field 2 ++ camac_4 0x0A710901 ++ halt) [] (hex 4 0x81828384)
      ≡ wants (operation 9 5 3 17 0x838281 false) (state_of (waiting 0 1 0 5 3 0 0 0 0x00000000 0 0 0) [] (hex 4 0x81828384))
  pub single_stop_control : start_of (first_field 2 ++ camac_4 0x0A7A0902 ++ halt) [] []
      ≡ wants (operation 9 5 3 26 0x000000 false) (state_of (waiting 0 1 0 5 3 0 0 0 0x00000000 0 0 0) [] [])
  pub single_ignore_read_16 : start_of (first_field 2 ++ camac_4 0x0A62090B ++ halt) (hex 2 0x1112) []
      ≡ wants (operation 9 5 3 2 0x000000 false) (state_of (waiting 0 1 0 5 3 0 0 0 0x00000000 0 0 0) (hex 2 0x1112) [])
  pub single_ignore_read_24 : start_of (first_field 2 ++ camac_4 0x0A620908 ++ halt) (hex 4 0x11121314) []
      ≡ wants (operation 9 5 3 2 0x000000 false) (state_of (waiting 0 1 0 5 3 0 0 0 0x00000000 0 0 0) (hex 4 0x11121314) [])
  pub single_ignore_write_16 : start_of (first_field 2 ++ camac_4 0x0A71090B ++ halt) [] (hex 2 0x8182)
      ≡ wants (operation 9 5 3 17 0x008281 false) (state_of (waiting 0 1 0 5 3 0 0 0 0x00000000 0 0 0) [] (hex 2 0x8182))
  pub single_ignore_write_24 : start_of (first_field 2 ++ camac_4 0x0A710908 ++ halt) [] (hex 4 0x81828384)
      ≡ wants (operation 9 5 3 17 0x838281 false) (state_of (waiting 0 1 0 5 3 0 0 0 0x00000000 0 0 0) [] (hex 4 0x81828384))
  pub single_ignore_control : start_of (first_field 2 ++ camac_4 0x0A7A090B ++ halt) [] []
      ≡ wants (operation 9 5 3 26 0x000000 false) (state_of (waiting 0 1 0 5 3 0 0 0 0x00000000 0 0 0) [] [])
  pub single_repeat_read_16 : start_of (first_field 2 ++ camac_4 0x0A620912 ++ halt) (hex 2 0x1112) []
      ≡ wants (operation 9 5 3 2 0x000000 false) (state_of (waiting 0 1 0 5 3 0 0 0 0x00000000 0 0 0) (hex 2 0x1112) [])
  pub single_repeat_read_24 : start_of (first_field 2 ++ camac_4 0x0A620911 ++ halt) (hex 4 0x11121314) []
      ≡ wants (operation 9 5 3 2 0x000000 false) (state_of (waiting 0 1 0 5 3 0 0 0 0x00000000 0 0 0) (hex 4 0x11121314) [])
  pub single_repeat_write_16 : start_of (first_field 2 ++ camac_4 0x0A710912 ++ halt) [] (hex 2 0x8182)
      ≡ wants (operation 9 5 3 17 0x008281 false) (state_of (waiting 0 1 0 5 3 0 0 0 0x00000000 0 0 0) [] (hex 2 0x8182))
  pub single_repeat_write_24 : start_of (first_field 2 ++ camac_4 0x0A710911 ++ halt) [] (hex 4 0x81828384)
      ≡ wants (operation 9 5 3 17 0x838281 false) (state_of (waiting 0 1 0 5 3 0 0 0 0x00000000 0 0 0) [] (hex 4 0x81828384))
  pub single_repeat_control : start_of (first_field 2 ++ camac_4 0x0A7A0912 ++ halt) [] []
      ≡ wants (operation 9 5 3 26 0x000000 false) (state_of (waiting 0 1 0 5 3 0 0 0 0x00000000 0 0 0) [] [])
  pub single_scan_read_16 : start_of (first_field 2 ++ camac_4 0x2DC2091B ++ halt) (hex 2 0x1112) []
      ≡ wants (operation 9 22 14 2 0x000000 false) (state_of (waiting 0 1 0 22 14 0 0 0 0x00000000 0 0 0) (hex 2 0x1112) [])
  pub single_scan_read_24 : start_of (first_field 2 ++ camac_4 0x2DC20918 ++ halt) (hex 4 0x11121314) []
      ≡ wants (operation 9 22 14 2 0x000000 false) (state_of (waiting 0 1 0 22 14 0 0 0 0x00000000 0 0 0) (hex 4 0x11121314) [])
  pub single_scan_write_16 : start_of (first_field 2 ++ camac_4 0x2DD1091B ++ halt) [] (hex 2 0x8182)
      ≡ wants (operation 9 22 14 17 0x008281 false) (state_of (waiting 0 1 0 22 14 0 0 0 0x00000000 0 0 0) [] (hex 2 0x8182))
  pub single_scan_write_24 : start_of (first_field 2 ++ camac_4 0x2DD10918 ++ halt) [] (hex 4 0x81828384)
      ≡ wants (operation 9 22 14 17 0x838281 false) (state_of (waiting 0 1 0 22 14 0 0 0 0x00000000 0 0 0) [] (hex 4 0x81828384))
  pub single_scan_control : start_of (first_field 2 ++ camac_4 0x2DDA091B ++ halt) [] []
      ≡ wants (operation 9 22 14 26 0x000000 false) (state_of (waiting 0 1 0 22 14 0 0 0 0x00000000 0 0 0) [] [])
  pub block_stop_read_16 : start_of (first_field 2 ++ camac_8 0x0A620922 0xFFFFFFFE ++ halt) (hex 4 0x11121314) []
      ≡ wants (operation 9 5 3 2 0x000000 false) (state_of (waiting 0 2 0 5 3 0 0 0 0x00000000 0 0 0) (hex 4 0x11121314) [])
  pub block_stop_read_24 : start_of (first_field 2 ++ camac_8 0x0A620921 0xFFFFFFFC ++ halt) (hex 8 0x1112131415161718) []
      ≡ wants (operation 9 5 3 2 0x000000 false) (state_of (waiting 0 2 0 5 3 0 0 0 0x00000000 0 0 0) (hex 8 0x1112131415161718) [])
  pub block_stop_write_16 : start_of (first_field 2 ++ camac_8 0x0A710922 0xFFFFFFFE ++ halt) [] (hex 4 0x81828384)
      ≡ wants (operation 9 5 3 17 0x008281 false) (state_of (waiting 0 2 0 5 3 0 0 0 0x00000000 0 0 0) [] (hex 4 0x81828384))
  pub block_stop_write_24 : start_of (first_field 2 ++ camac_8 0x0A710921 0xFFFFFFFC ++ halt) [] (hex 8 0x8182838485868788)
      ≡ wants (operation 9 5 3 17 0x838281 false) (state_of (waiting 0 2 0 5 3 0 0 0 0x00000000 0 0 0) [] (hex 8 0x8182838485868788))
  pub block_ignore_read_16 : start_of (first_field 2 ++ camac_8 0x0A62092A 0xFFFFFFFE ++ halt) (hex 4 0x11121314) []
      ≡ wants (operation 9 5 3 2 0x000000 false) (state_of (waiting 0 2 0 5 3 0 0 0 0x00000000 0 0 0) (hex 4 0x11121314) [])
  pub block_ignore_read_24 : start_of (first_field 2 ++ camac_8 0x0A620929 0xFFFFFFFC ++ halt) (hex 8 0x1112131415161718) []
      ≡ wants (operation 9 5 3 2 0x000000 false) (state_of (waiting 0 2 0 5 3 0 0 0 0x00000000 0 0 0) (hex 8 0x1112131415161718) [])
  pub block_ignore_write_16 : start_of (first_field 2 ++ camac_8 0x0A71092A 0xFFFFFFFE ++ halt) [] (hex 4 0x81828384)
      ≡ wants (operation 9 5 3 17 0x008281 false) (state_of (waiting 0 2 0 5 3 0 0 0 0x00000000 0 0 0) [] (hex 4 0x81828384))
  pub block_ignore_write_24 : start_of (first_field 2 ++ camac_8 0x0A710929 0xFFFFFFFC ++ halt) [] (hex 8 0x8182838485868788)
      ≡ wants (operation 9 5 3 17 0x838281 false) (state_of (waiting 0 2 0 5 3 0 0 0 0x00000000 0 0 0) [] (hex 8 0x8182838485868788))
  pub block_repeat_read_16 : start_of (first_field 2 ++ camac_8 0x0A620932 0xFFFFFFFE ++ halt) (hex 4 0x11121314) []
      ≡ wants (operation 9 5 3 2 0x000000 false) (state_of (waiting 0 2 0 5 3 0 0 0 0x00000000 0 0 0) (hex 4 0x11121314) [])
  pub block_repeat_read_24 : start_of (first_field 2 ++ camac_8 0x0A620931 0xFFFFFFFC ++ halt) (hex 8 0x1112131415161718) []
      ≡ wants (operation 9 5 3 2 0x000000 false) (state_of (waiting 0 2 0 5 3 0 0 0 0x00000000 0 0 0) (hex 8 0x1112131415161718) [])
  pub block_repeat_write_16 : start_of (first_field 2 ++ camac_8 0x0A710932 0xFFFFFFFE ++ halt) [] (hex 4 0x81828384)
      ≡ wants (operation 9 5 3 17 0x008281 false) (state_of (waiting 0 2 0 5 3 0 0 0 0x00000000 0 0 0) [] (hex 4 0x81828384))
  pub block_repeat_write_24 : start_of (first_field 2 ++ camac_8 0x0A710931 0xFFFFFFFC ++ halt) [] (hex 8 0x8182838485868788)
      ≡ wants (operation 9 5 3 17 0x838281 false) (state_of (waiting 0 2 0 5 3 0 0 0 0x00000000 0 0 0) [] (hex 8 0x8182838485868788))
  pub block_scan_read_16 : start_of (first_field 2 ++ camac_8 0x2DC2093A 0xFFFFFFFE ++ halt) (hex 4 0x11121314) []
      ≡ wants (operation 9 22 14 2 0x000000 false) (state_of (waiting 0 2 0 22 14 0 0 0 0x00000000 0 0 0) (hex 4 0x11121314) [])
  pub block_scan_read_24 : start_of (first_field 2 ++ camac_8 0x2DC20939 0xFFFFFFFC ++ halt) (hex 8 0x1112131415161718) []
      ≡ wants (operation 9 22 14 2 0x000000 false) (state_of (waiting 0 2 0 22 14 0 0 0 0x00000000 0 0 0) (hex 8 0x1112131415161718) [])
  pub block_scan_write_16 : start_of (first_field 2 ++ camac_8 0x2DD1093A 0xFFFFFFFE ++ halt) [] (hex 4 0x81828384)
      ≡ wants (operation 9 22 14 17 0x008281 false) (state_of (waiting 0 2 0 22 14 0 0 0 0x00000000 0 0 0) [] (hex 4 0x81828384))
  pub block_scan_write_24 : start_of (first_field 2 ++ camac_8 0x2DD10939 0xFFFFFFFC ++ halt) [] (hex 8 0x8182838485868788)
      ≡ wants (operation 9 22 14 17 0x838281 false) (state_of (waiting 0 2 0 22 14 0 0 0 0x00000000 0 0 0) [] (hex 8 0x8182838485868788))
  pub enhanced_stop_read_16 : start_of (first_field 2 ++ camac_8 0x0A620942 0xFFFFFFFE ++ halt) (hex 4 0x11121314) []
      ≡ wants (operation 9 5 3 2 0x000000 true) (state_of (waiting 0 2 0 5 3 0 0 0 0x00000000 0 0 0) (hex 4 0x11121314) [])
  pub enhanced_stop_read_24 : start_of (first_field 2 ++ camac_8 0x0A620941 0xFFFFFFFC ++ halt) (hex 8 0x1112131415161718) []
      ≡ wants (operation 9 5 3 2 0x000000 true) (state_of (waiting 0 2 0 5 3 0 0 0 0x00000000 0 0 0) (hex 8 0x1112131415161718) [])
  pub enhanced_stop_write_16 : start_of (first_field 2 ++ camac_8 0x0A710942 0xFFFFFFFE ++ halt) [] (hex 4 0x81828384)
      ≡ wants (operation 9 5 3 17 0x008281 true) (state_of (waiting 0 2 0 5 3 0 0 0 0x00000000 0 0 0) [] (hex 4 0x81828384))
  pub enhanced_stop_write_24 : start_of (first_field 2 ++ camac_8 0x0A710941 0xFFFFFFFC ++ halt) [] (hex 8 0x8182838485868788)
      ≡ wants (operation 9 5 3 17 0x838281 true) (state_of (waiting 0 2 0 5 3 0 0 0 0x00000000 0 0 0) [] (hex 8 0x8182838485868788))
  pub enhanced_ignore_read_16 : start_of (first_field 2 ++ camac_8 0x0A62094A 0xFFFFFFFE ++ halt) (hex 4 0x11121314) []
      ≡ wants (operation 9 5 3 2 0x000000 true) (state_of (waiting 0 2 0 5 3 0 0 0 0x00000000 0 0 0) (hex 4 0x11121314) [])
  pub enhanced_ignore_read_24 : start_of (first_field 2 ++ camac_8 0x0A620949 0xFFFFFFFC ++ halt) (hex 8 0x1112131415161718) []
      ≡ wants (operation 9 5 3 2 0x000000 true) (state_of (waiting 0 2 0 5 3 0 0 0 0x00000000 0 0 0) (hex 8 0x1112131415161718) [])
  pub enhanced_ignore_write_16 : start_of (first_field 2 ++ camac_8 0x0A71094A 0xFFFFFFFE ++ halt) [] (hex 4 0x81828384)
      ≡ wants (operation 9 5 3 17 0x008281 true) (state_of (waiting 0 2 0 5 3 0 0 0 0x00000000 0 0 0) [] (hex 4 0x81828384))
  pub enhanced_ignore_write_24 : start_of (first_field 2 ++ camac_8 0x0A710949 0xFFFFFFFC ++ halt) [] (hex 8 0x8182838485868788)
      ≡ wants (operation 9 5 3 17 0x838281 true) (state_of (waiting 0 2 0 5 3 0 0 0 0x00000000 0 0 0) [] (hex 8 0x8182838485868788))
  pub enhanced_repeat_read_16 : start_of (first_field 2 ++ camac_8 0x0A620952 0xFFFFFFFE ++ halt) (hex 4 0x11121314) []
      ≡ wants (operation 9 5 3 2 0x000000 true) (state_of (waiting 0 2 0 5 3 0 0 0 0x00000000 0 0 0) (hex 4 0x11121314) [])
  pub enhanced_repeat_read_24 : start_of (first_field 2 ++ camac_8 0x0A620951 0xFFFFFFFC ++ halt) (hex 8 0x1112131415161718) []
      ≡ wants (operation 9 5 3 2 0x000000 true) (state_of (waiting 0 2 0 5 3 0 0 0 0x00000000 0 0 0) (hex 8 0x1112131415161718) [])
  pub sequencer_read_16 : start_of (first_field 2 ++ camac_8 0x3C2C095A 0xFFFFFFFE ++ halt) (hex 4 0x11121314) []
      ≡ wants (operation 9 30 1 12 0x000000 true) (state_of (waiting 0 2 0 30 1 0 0 0 0x00000000 0 0 0) (hex 4 0x11121314) [])
  pub sequencer_read_24 : start_of (first_field 2 ++ camac_8 0x3C2C0959 0xFFFFFFFC ++ halt) (hex 8 0x1112131415161718) []
      ≡ wants (operation 9 30 1 12 0x000000 true) (state_of (waiting 0 2 0 30 1 0 0 0 0x00000000 0 0 0) (hex 8 0x1112131415161718) [])
  pub sequencer_write_16 : start_of (first_field 2 ++ camac_8 0x3C4C095A 0xFFFFFFFE ++ halt) [] (hex 4 0x81828384)
      ≡ wants (operation 9 30 2 12 0x008281 true) (state_of (waiting 0 2 0 30 2 0 0 0 0x00000000 0 0 0) [] (hex 4 0x81828384))
  pub sequencer_write_24 : start_of (first_field 2 ++ camac_8 0x3C4C0959 0xFFFFFFFC ++ halt) [] (hex 8 0x8182838485868788)
      ≡ wants (operation 9 30 2 12 0x838281 true) (state_of (waiting 0 2 0 30 2 0 0 0 0x00000000 0 0 0) [] (hex 8 0x8182838485868788))
  pub inline_stop_16 : start_of (first_field 2 ++ camac_8 0x0A710962 0x0000CDEF ++ halt) [] []
      ≡ wants (operation 9 5 3 17 0x00CDEF false) (state_of (waiting 0 1 0 5 3 0 0 0 0x00000000 0 0 0) [] [])
  pub inline_stop_24 : start_of (first_field 2 ++ camac_8 0x0A710961 0x00ABCDEF ++ halt) [] []
      ≡ wants (operation 9 5 3 17 0xABCDEF false) (state_of (waiting 0 1 0 5 3 0 0 0 0x00000000 0 0 0) [] [])
  pub inline_ignore_16 : start_of (first_field 2 ++ camac_8 0x0A71096A 0x0000CDEF ++ halt) [] []
      ≡ wants (operation 9 5 3 17 0x00CDEF false) (state_of (waiting 0 1 0 5 3 0 0 0 0x00000000 0 0 0) [] [])
  pub inline_ignore_24 : start_of (first_field 2 ++ camac_8 0x0A710969 0x00ABCDEF ++ halt) [] []
      ≡ wants (operation 9 5 3 17 0xABCDEF false) (state_of (waiting 0 1 0 5 3 0 0 0 0x00000000 0 0 0) [] [])
  pub inline_repeat_16 : start_of (first_field 2 ++ camac_8 0x0A710972 0x0000CDEF ++ halt) [] []
      ≡ wants (operation 9 5 3 17 0x00CDEF false) (state_of (waiting 0 1 0 5 3 0 0 0 0x00000000 0 0 0) [] [])
  pub inline_repeat_24 : start_of (first_field 2 ++ camac_8 0x0A710971 0x00ABCDEF ++ halt) [] []
      ≡ wants (operation 9 5 3 17 0xABCDEF false) (state_of (waiting 0 1 0 5 3 0 0 0 0x00000000 0 0 0) [] [])
  pub inline_scan_16 : start_of (first_field 2 ++ camac_8 0x2DD1097A 0x0000CDEF ++ halt) [] []
      ≡ wants (operation 9 22 14 17 0x00CDEF false) (state_of (waiting 0 1 0 22 14 0 0 0 0x00000000 0 0 0) [] [])
  pub inline_scan_24 : start_of (first_field 2 ++ camac_8 0x2DD10979 0x00ABCDEF ++ halt) [] []
      ≡ wants (operation 9 22 14 17 0xABCDEF false) (state_of (waiting 0 1 0 22 14 0 0 0 0x00000000 0 0 0) [] [])

-- jumps and literals on the way to the first operation or to the end, with code 0
pub record Ways : Type 0 where
  pub halt_alone : start_of (first_field 3 ++ halt) [] [] ≡ wants_none (state_of (ended 0 0 0 0 0 0 0 0 0x00000080 0 0 0) [] [])
  pub jump_to_a_halt : start_of (first_field 3 ++ jump 2 ++ halt ++ halt) [] []
      ≡ wants_none (state_of (ended 2 0 0 0 0 0 0 0 0x00000080 0 0 0) [] [])
  pub one_literal : start_of (first_field 3 ++ literal 0xA1B2C3D4 ++ halt) (hex 4 0x11121314) []
      ≡ wants_none (state_of (ended 1 0 0 0 0 4 0 0 0x00000080 0 0 0) (hex 4 0xD4C3B2A1) [])
  pub two_literals : start_of (first_field 3 ++ literal 0xA1B2C3D4 ++ literal 0xA1B2C3D4 ++ halt) (hex 8 0x1112131415161718) []
      ≡ wants_none (state_of (ended 2 0 0 0 0 8 0 0 0x00000080 0 0 0) (hex 8 0xD4C3B2A1D4C3B2A1) [])
  pub jump_over_a_literal : start_of (first_field 3 ++ jump 2 ++ literal 0xA1B2C3D4 ++ literal 0xA1B2C3D4 ++ halt) (hex 4 0x11121314) []
      ≡ wants_none (state_of (ended 3 0 0 0 0 4 0 0 0x00000080 0 0 0) (hex 4 0xD4C3B2A1) [])
  pub literal_before_a_write : start_of (first_field 3 ++ literal 0xA1B2C3D4 ++ camac_4 0x02100100 ++ halt) (hex 4 0x11121314) (hex 4 0x81828384)
      ≡ wants (operation 1 1 0 16 0x838281 false) (state_of (waiting 1 1 0 1 0 4 0 0 0x00000000 0 0 0) (hex 4 0xD4C3B2A1) (hex 4 0x81828384))
  pub literal_before_a_read : start_of (first_field 3 ++ literal 0xA1B2C3D4 ++ camac_4 0x02000102 ++ halt) (hex 6 0x111213141516) []
      ≡ wants (operation 1 1 0 0 0x000000 false) (state_of (waiting 1 1 0 1 0 4 0 0 0x00000000 0 0 0) (hex 6 0xD4C3B2A11516) [])
  pub jump_to_a_write : start_of (first_field 3 ++ jump 2 ++ halt ++ camac_4 0x02100100 ++ halt) [] (hex 4 0x81828384)
      ≡ wants (operation 1 1 0 16 0x838281 false) (state_of (waiting 2 1 0 1 0 0 0 0 0x00000000 0 0 0) [] (hex 4 0x81828384))
  pub jump_to_a_write_and_back : start_of (first_field 3 ++ jump 2 ++ halt ++ camac_4 0x02100100 ++ jump 1) [] (hex 4 0x81828384)
      ≡ wants (operation 1 1 0 16 0x838281 false) (state_of (waiting 2 1 0 1 0 0 0 0 0x00000000 0 0 0) [] (hex 4 0x81828384))
  pub longer_buffers : start_of (first_field 3 ++ literal 0xA1B2C3D4 ++ halt) (hex 7 0x11121314151617) (hex 3 0x818283)
      ≡ wants_none (state_of (ended 1 0 0 0 0 4 0 0 0x00000080 0 0 0) (hex 7 0xD4C3B2A1151617) (hex 3 0x818283))

-- a refused start: number and place, a record marked ended and all else zero, buffers kept
pub record RefusedStarts : Type 0 where
  pub refusal_1 : start_of (first_field 3 ++ hex 2 0x2F00) (hex 3 0x111213) (hex 1 0x81)
      ≡ refused_with 1 7 (state_of (ended 0 0 0 0 0 0 0 0 0x00000000 0 0 0) (hex 3 0x111213) (hex 1 0x81))
  pub refusal_2 : start_of (first_field 0) (hex 3 0x111213) (hex 1 0x81)
      ≡ refused_with 2 0 (state_of (ended 0 0 0 0 0 0 0 0 0x00000000 0 0 0) (hex 3 0x111213) (hex 1 0x81))
  pub refusal_3 : start_of (first_field 3 ++ halt ++ hex 3 0x550000) (hex 3 0x111213) (hex 1 0x81)
      ≡ refused_with 3 10 (state_of (ended 0 0 0 0 0 0 0 0 0x00000000 0 0 0) (hex 3 0x111213) (hex 1 0x81))
  pub refusal_4 : start_of (first_field 3 ++ halt ++ hex 4 0x2F010000) (hex 3 0x111213) (hex 1 0x81)
      ≡ refused_with 4 10 (state_of (ended 0 0 0 0 0 0 0 0 0x00000000 0 0 0) (hex 3 0x111213) (hex 1 0x81))
  pub refusal_6 : start_of (first_field 3 ++ camac_4 0x02000106 ++ halt) (hex 3 0x111213) (hex 1 0x81)
      ≡ refused_with 6 7 (state_of (ended 0 0 0 0 0 0 0 0 0x00000000 0 0 0) (hex 3 0x111213) (hex 1 0x81))
  pub refusal_7 : start_of (first_field 3 ++ camac_4 0x02000002 ++ halt) (hex 3 0x111213) (hex 1 0x81)
      ≡ refused_with 7 7 (state_of (ended 0 0 0 0 0 0 0 0 0x00000000 0 0 0) (hex 3 0x111213) (hex 1 0x81))
  pub refusal_8 : start_of (first_field 3 ++ camac_4 0x02000122 ++ halt) (hex 3 0x111213) (hex 1 0x81)
      ≡ refused_with 8 7 (state_of (ended 0 0 0 0 0 0 0 0 0x00000000 0 0 0) (hex 3 0x111213) (hex 1 0x81))
  pub refusal_9 : start_of (first_field 3 ++ camac_8 0x02000122 0x00000000 ++ halt) (hex 3 0x111213) (hex 1 0x81)
      ≡ refused_with 9 7 (state_of (ended 0 0 0 0 0 0 0 0 0x00000000 0 0 0) (hex 3 0x111213) (hex 1 0x81))
  pub refusal_10 : start_of (first_field 3 ++ halt ++ jump 2) (hex 3 0x111213) (hex 1 0x81)
      ≡ refused_with 10 10 (state_of (ended 0 0 0 0 0 0 0 0 0x00000000 0 0 0) (hex 3 0x111213) (hex 1 0x81))
  pub refusal_11 : start_of (first_field 3 ++ jump 0) (hex 3 0x111213) (hex 1 0x81)
      ≡ refused_with 11 0 (state_of (ended 0 0 0 0 0 0 0 0 0x00000000 0 0 0) (hex 3 0x111213) (hex 1 0x81))
  pub refusal_20 : start_of (first_field 3 ++ literal 0x04030201 ++ halt) (hex 3 0x111213) (hex 1 0x81)
      ≡ refused_with 20 0 (state_of (ended 0 0 0 0 0 0 0 0 0x00000000 0 0 0) (hex 3 0x111213) (hex 1 0x81))
  pub refusal_21 : start_of (first_field 3 ++ camac_4 0x02100102 ++ halt) (hex 3 0x111213) (hex 1 0x81)
      ≡ refused_with 21 0 (state_of (ended 0 0 0 0 0 0 0 0 0x00000000 0 0 0) (hex 3 0x111213) (hex 1 0x81))
