-- Admission: each refusal at its bound, with its place; which comes first; W, B and O.
-- Printed with the separate build's answers: cargo run --release --manifest-path rust/Cargo.toml -p reference --example equations write
use Rattle.std.specs.Prelude.{◌≡◌, [], ◌∷◌, ◌++◌}
use Rattle.listfile.specs.Fields.{fields_from, fields}
use Rattle.walk.specs.Admission.{admit_of}
use Rattle.worst_count.specs.Cases.{first_field, jump, literal, halt}
use Rattle.equations.specs.Forms.{hex, camac_4, camac_8, admitted, refused, halt_at, refused_at}

-- 1: a field's head or body runs past the end
pub record Refusal1 : Type 0 where
  pub first_head_1_byte : admit_of (hex 1 0x01) 0 0 ≡ refused 1 0
  pub first_head_2_bytes : admit_of (hex 2 0x0104) 0 0 ≡ refused 1 0
  pub first_body_none : admit_of (hex 3 0x010400) 0 0 ≡ refused 1 0
  pub first_body_a_byte_short : admit_of (hex 6 0x010400010003) 0 0 ≡ refused 1 0
  pub first_of_tag_2f_cut : admit_of (hex 3 0x2F0100) 0 0 ≡ refused 1 0
  pub head_1_byte : admit_of (first_field 3 ++ halt ++ hex 1 0x2F) 0 0 ≡ refused 1 10
  pub head_2_bytes : admit_of (first_field 3 ++ halt ++ hex 2 0x2F00) 0 0 ≡ refused 1 10
  pub head_3_bytes : admit_of (first_field 3 ++ halt ++ halt) 0 0 ≡ admitted 0 0 0
  pub body_a_byte_short : admit_of (first_field 3 ++ halt ++ hex 4 0x20020000) 0 0 ≡ refused 1 10
  pub body_whole : admit_of (first_field 3 ++ halt ++ jump 0) 0 0 ≡ admitted 0 0 0
  pub body_of_an_unknown_tag_cut : admit_of (first_field 3 ++ hex 4 0x55020000) 0 0 ≡ refused 1 7
  pub longest_body_cut : admit_of (first_field 3 ++ hex 7 0x21FFFF00000000) 0 0 ≡ refused 1 7

-- 2: no field, or the first isn't as in the table
pub record Refusal2 : Type 0 where
  pub no_field : admit_of [] 0 0 ≡ refused 2 0
  pub halt_first : admit_of halt 0 0 ≡ refused 2 0
  pub camac_first : admit_of (camac_4 0x02000102 ++ first_field 3 ++ halt) 0 0 ≡ refused 2 0
  pub length_3 : admit_of (hex 9 0x0103000100032F0000) 0 0 ≡ refused 2 0
  pub length_5 : admit_of (hex 11 0x01050001000300002F0000) 0 0 ≡ refused 2 0
  pub tag_0 : admit_of (hex 10 0x000400010003002F0000) 0 0 ≡ refused 2 0
  pub format_0 : admit_of (hex 10 0x010400000003002F0000) 0 0 ≡ refused 2 0
  pub format_2 : admit_of (hex 10 0x010400020003002F0000) 0 0 ≡ refused 2 0
  pub zero_byte_1 : admit_of (hex 10 0x010400010103002F0000) 0 0 ≡ refused 2 0
  pub try_limit_0 : admit_of (first_field 0 ++ halt) 0 0 ≡ refused 2 0
  pub try_limit_1 : admit_of (first_field 1 ++ halt) 0 0 ≡ admitted 0 0 0
  pub try_limit_255 : admit_of (first_field 255 ++ halt) 0 0 ≡ admitted 0 0 0
  pub try_limit_256 : admit_of (first_field 256 ++ halt) 0 0 ≡ admitted 0 0 0
  pub try_limit_65535 : admit_of (first_field 65535 ++ halt) 0 0 ≡ admitted 0 0 0

-- 3: unknown tag, or 01h again
pub record Refusal3 : Type 0 where
  pub tag_00 : admit_of (first_field 3 ++ hex 8 0x00020000002F0000) 0 0 ≡ refused 3 7
  pub tag_02 : admit_of (first_field 3 ++ hex 8 0x02020000002F0000) 0 0 ≡ refused 3 7
  pub tag_0f : admit_of (first_field 3 ++ hex 8 0x0F020000002F0000) 0 0 ≡ refused 3 7
  pub tag_11 : admit_of (first_field 3 ++ hex 8 0x11020000002F0000) 0 0 ≡ refused 3 7
  pub tag_1f : admit_of (first_field 3 ++ hex 8 0x1F020000002F0000) 0 0 ≡ refused 3 7
  pub tag_22 : admit_of (first_field 3 ++ hex 8 0x22020000002F0000) 0 0 ≡ refused 3 7
  pub tag_23 : admit_of (first_field 3 ++ hex 8 0x23020000002F0000) 0 0 ≡ refused 3 7
  pub tag_2e : admit_of (first_field 3 ++ hex 8 0x2E020000002F0000) 0 0 ≡ refused 3 7
  pub tag_30 : admit_of (first_field 3 ++ hex 8 0x30020000002F0000) 0 0 ≡ refused 3 7
  pub tag_ff : admit_of (first_field 3 ++ hex 8 0xFF020000002F0000) 0 0 ≡ refused 3 7
  pub tag_01 : admit_of (first_field 3 ++ first_field 3 ++ halt) 0 0 ≡ refused 3 7
  pub unreached : admit_of (first_field 3 ++ literal 0x00000001 ++ halt ++ first_field 3 ++ halt) 0 0 ≡ refused 3 17

-- 4: length wrong for its tag
pub record Refusal4 : Type 0 where
  pub tag_10_length_0 : admit_of (first_field 3 ++ hex 6 0x1000002F0000) 0 0 ≡ refused 4 7
  pub tag_10_length_3 : admit_of (first_field 3 ++ hex 9 0x1003000000002F0000) 0 0 ≡ refused 4 7
  pub tag_10_length_4 : admit_of (first_field 3 ++ camac_4 0x02000102 ++ halt) 2 0 ≡ admitted 1 2 0
  pub tag_10_length_5 : admit_of (first_field 3 ++ hex 11 0x10050022010002FE2F0000) 0 0 ≡ refused 4 7
  pub tag_10_length_7 : admit_of (first_field 3 ++ hex 13 0x10070022010002FEFFFF2F0000) 0 0 ≡ refused 4 7
  pub tag_10_length_8 : admit_of (first_field 3 ++ camac_8 0x02000122 0xFFFFFFFE ++ halt) 4 0 ≡ admitted 2 4 0
  pub tag_10_length_9 : admit_of (first_field 3 ++ hex 15 0x10090022010002FEFFFFFF002F0000) 0 0 ≡ refused 4 7
  pub tag_20_length_0 : admit_of (first_field 3 ++ hex 6 0x2000002F0000) 0 0 ≡ refused 4 7
  pub tag_20_length_1 : admit_of (first_field 3 ++ hex 7 0x200100002F0000) 0 0 ≡ refused 4 7
  pub tag_20_length_2 : admit_of (first_field 3 ++ jump 0 ++ halt) 0 0 ≡ refused 11 0
  pub tag_20_length_3 : admit_of (first_field 3 ++ hex 9 0x2003000000002F0000) 0 0 ≡ refused 4 7
  pub tag_21_length_0 : admit_of (first_field 3 ++ hex 6 0x2100002F0000) 0 0 ≡ refused 4 7
  pub tag_21_length_3 : admit_of (first_field 3 ++ hex 9 0x2103000000002F0000) 0 0 ≡ refused 4 7
  pub tag_21_length_4 : admit_of (first_field 3 ++ literal 0x00000000 ++ halt) 4 0 ≡ admitted 0 4 0
  pub tag_21_length_5 : admit_of (first_field 3 ++ hex 11 0x21050000000000FE2F0000) 0 0 ≡ refused 4 7
  pub tag_2f_length_0 : admit_of (first_field 3 ++ halt ++ halt) 0 0 ≡ admitted 0 0 0
  pub tag_2f_length_1 : admit_of (first_field 3 ++ hex 7 0x2F0100002F0000) 0 0 ≡ refused 4 7
  pub unreached : admit_of (first_field 3 ++ literal 0x00000001 ++ halt ++ hex 7 0x2F0100002F0000) 0 0 ≡ refused 4 17

-- 5: instruction 4,097. The fields are read with 4,095 instructions before them: a list of 4,097 is too long to compute at once
pub record Refusal5 : Type 0 where
  pub instruction_4096 : fields_from 3 halt 0 4095 ≡ fields (halt_at 0 ∷ [])
  pub instruction_4097 : fields_from 6 (halt ++ halt) 0 4095 ≡ refused_at 5 3
  pub behind_it_nothing_is_read : fields_from 9 (halt ++ halt ++ halt) 0 4095 ≡ refused_at 5 3
  pub before_an_unknown_tag : fields_from 6 (halt ++ hex 3 0x550000) 0 4095 ≡ refused_at 5 3
  pub behind_a_cut_field : fields_from 6 (halt ++ hex 3 0x2F0100) 0 4095 ≡ refused_at 1 3
  pub unknown_tag_4096 : fields_from 6 (hex 6 0x5500002F0000) 0 4095 ≡ refused_at 3 0

-- 6: a zero bit is set
pub record Refusal6 : Type 0 where
  pub bit_31 : admit_of (first_field 3 ++ camac_4 0x82000102 ++ halt) 0 0 ≡ refused 6 7
  pub bit_30 : admit_of (first_field 3 ++ camac_4 0x42000102 ++ halt) 0 0 ≡ refused 6 7
  pub bit_15 : admit_of (first_field 3 ++ camac_4 0x02008102 ++ halt) 0 0 ≡ refused 6 7
  pub bit_14 : admit_of (first_field 3 ++ camac_4 0x02004102 ++ halt) 0 0 ≡ refused 6 7
  pub bit_7 : admit_of (first_field 3 ++ camac_4 0x02000182 ++ halt) 0 0 ≡ refused 6 7
  pub bit_2 : admit_of (first_field 3 ++ camac_4 0x02000106 ++ halt) 0 0 ≡ refused 6 7
  pub block_bit_2 : admit_of (first_field 3 ++ camac_8 0x02000126 0xFFFFFFFF ++ halt) 0 0 ≡ refused 6 7
  pub none : admit_of (first_field 3 ++ camac_4 0x02000102 ++ halt) 2 0 ≡ admitted 1 2 0
  pub unreached : admit_of (first_field 3 ++ literal 0x00000001 ++ halt ++ camac_4 0x02000106 ++ halt) 0 0 ≡ refused 6 17

-- 7: crate not 1–62; N not 1–23 or 30; Q-mode 3 with N = 30, but for the sequencer
pub record Refusal7 : Type 0 where
  pub crate_0 : admit_of (first_field 3 ++ camac_4 0x02000002 ++ halt) 0 0 ≡ refused 7 7
  pub crate_1 : admit_of (first_field 3 ++ camac_4 0x02000102 ++ halt) 2 0 ≡ admitted 1 2 0
  pub crate_62 : admit_of (first_field 3 ++ camac_4 0x02003E02 ++ halt) 2 0 ≡ admitted 1 2 0
  pub crate_63 : admit_of (first_field 3 ++ camac_4 0x02003F02 ++ halt) 0 0 ≡ refused 7 7
  pub station_0 : admit_of (first_field 3 ++ camac_4 0x00000102 ++ halt) 0 0 ≡ refused 7 7
  pub station_1 : admit_of (first_field 3 ++ camac_4 0x02000102 ++ halt) 2 0 ≡ admitted 1 2 0
  pub station_23 : admit_of (first_field 3 ++ camac_4 0x2E000102 ++ halt) 2 0 ≡ admitted 1 2 0
  pub station_24 : admit_of (first_field 3 ++ camac_4 0x30000102 ++ halt) 0 0 ≡ refused 7 7
  pub station_29 : admit_of (first_field 3 ++ camac_4 0x3A000102 ++ halt) 0 0 ≡ refused 7 7
  pub station_30 : admit_of (first_field 3 ++ camac_4 0x3C000102 ++ halt) 2 0 ≡ admitted 1 2 0
  pub station_31 : admit_of (first_field 3 ++ camac_4 0x3E000102 ++ halt) 0 0 ≡ refused 7 7
  pub single_station_30_q_mode_0 : admit_of (first_field 3 ++ camac_4 0x3C000102 ++ halt) 2 0 ≡ admitted 1 2 0
  pub block_station_30_q_mode_0 : admit_of (first_field 3 ++ camac_8 0x3C000122 0xFFFFFFFF ++ halt) 2 0 ≡ admitted 1 2 0
  pub inline_station_30_q_mode_0 : admit_of (first_field 3 ++ camac_8 0x3C100162 0x00000001 ++ halt) 0 0 ≡ admitted 1 0 0
  pub single_station_30_q_mode_1 : admit_of (first_field 3 ++ camac_4 0x3C00010A ++ halt) 2 0 ≡ admitted 1 2 0
  pub block_station_30_q_mode_1 : admit_of (first_field 3 ++ camac_8 0x3C00012A 0xFFFFFFFF ++ halt) 2 0 ≡ admitted 1 2 0
  pub inline_station_30_q_mode_1 : admit_of (first_field 3 ++ camac_8 0x3C10016A 0x00000001 ++ halt) 0 0 ≡ admitted 1 0 0
  pub single_station_30_q_mode_2 : admit_of (first_field 3 ++ camac_4 0x3C000112 ++ halt) 2 0 ≡ admitted 3 2 0
  pub block_station_30_q_mode_2 : admit_of (first_field 3 ++ camac_8 0x3C000132 0xFFFFFFFF ++ halt) 2 0 ≡ admitted 3 2 0
  pub inline_station_30_q_mode_2 : admit_of (first_field 3 ++ camac_8 0x3C100172 0x00000001 ++ halt) 0 0 ≡ admitted 3 0 0
  pub single_station_30_q_mode_3 : admit_of (first_field 3 ++ camac_4 0x3C00011A ++ halt) 0 0 ≡ refused 7 7
  pub block_station_30_q_mode_3 : admit_of (first_field 3 ++ camac_8 0x3C00013A 0xFFFFFFFF ++ halt) 0 0 ≡ refused 7 7
  pub inline_station_30_q_mode_3 : admit_of (first_field 3 ++ camac_8 0x3C10017A 0x00000001 ++ halt) 0 0 ≡ refused 7 7
  pub sequencer_station_24 : admit_of (first_field 3 ++ camac_8 0x300C015A 0xFFFFFFFF ++ halt) 0 0 ≡ refused 7 7
  pub sequencer_station_30 : admit_of (first_field 3 ++ camac_8 0x3C0C015A 0xFFFFFFFF ++ halt) 2 0 ≡ admitted 1 2 0
  pub sequencer_station_31 : admit_of (first_field 3 ++ camac_8 0x3E0C015A 0xFFFFFFFF ++ halt) 0 0 ≡ refused 7 7
  pub unreached : admit_of (first_field 3 ++ literal 0x00000001 ++ halt ++ camac_4 0x30000102 ++ halt) 0 0 ≡ refused 7 17

-- 8: length not the mode's; block with control; inline not write
pub record Refusal8 : Type 0 where
  pub mode_0_length_4 : admit_of (first_field 3 ++ camac_4 0x02000102 ++ halt) 2 0 ≡ admitted 1 2 0
  pub mode_0_length_8 : admit_of (first_field 3 ++ camac_8 0x02000102 0xFFFFFFFF ++ halt) 0 0 ≡ refused 8 7
  pub mode_1_length_4 : admit_of (first_field 3 ++ camac_4 0x02000122 ++ halt) 0 0 ≡ refused 8 7
  pub mode_1_length_8 : admit_of (first_field 3 ++ camac_8 0x02000122 0xFFFFFFFF ++ halt) 2 0 ≡ admitted 1 2 0
  pub mode_2_length_4 : admit_of (first_field 3 ++ camac_4 0x02000142 ++ halt) 0 0 ≡ refused 8 7
  pub mode_2_length_8 : admit_of (first_field 3 ++ camac_8 0x02000142 0xFFFFFFFF ++ halt) 2 0 ≡ admitted 1 2 0
  pub mode_3_length_4 : admit_of (first_field 3 ++ camac_4 0x02100162 ++ halt) 0 0 ≡ refused 8 7
  pub mode_3_length_8 : admit_of (first_field 3 ++ camac_8 0x02100162 0xFFFFFFFF ++ halt) 0 0 ≡ refused 9 7
  pub block_function_0 : admit_of (first_field 3 ++ camac_8 0x02000122 0xFFFFFFFF ++ halt) 2 0 ≡ admitted 1 2 0
  pub block_function_7 : admit_of (first_field 3 ++ camac_8 0x02070122 0xFFFFFFFF ++ halt) 2 0 ≡ admitted 1 2 0
  pub block_function_8 : admit_of (first_field 3 ++ camac_8 0x02080122 0xFFFFFFFF ++ halt) 0 0 ≡ refused 8 7
  pub block_function_15 : admit_of (first_field 3 ++ camac_8 0x020F0122 0xFFFFFFFF ++ halt) 0 0 ≡ refused 8 7
  pub block_function_16 : admit_of (first_field 3 ++ camac_8 0x02100122 0xFFFFFFFF ++ halt) 0 2 ≡ admitted 1 0 2
  pub block_function_23 : admit_of (first_field 3 ++ camac_8 0x02170122 0xFFFFFFFF ++ halt) 0 2 ≡ admitted 1 0 2
  pub block_function_24 : admit_of (first_field 3 ++ camac_8 0x02180122 0xFFFFFFFF ++ halt) 0 0 ≡ refused 8 7
  pub block_function_31 : admit_of (first_field 3 ++ camac_8 0x021F0122 0xFFFFFFFF ++ halt) 0 0 ≡ refused 8 7
  pub inline_function_0 : admit_of (first_field 3 ++ camac_8 0x02000162 0x00000001 ++ halt) 0 0 ≡ refused 8 7
  pub inline_function_7 : admit_of (first_field 3 ++ camac_8 0x02070162 0x00000001 ++ halt) 0 0 ≡ refused 8 7
  pub inline_function_8 : admit_of (first_field 3 ++ camac_8 0x02080162 0x00000001 ++ halt) 0 0 ≡ refused 8 7
  pub inline_function_15 : admit_of (first_field 3 ++ camac_8 0x020F0162 0x00000001 ++ halt) 0 0 ≡ refused 8 7
  pub inline_function_16 : admit_of (first_field 3 ++ camac_8 0x02100162 0x00000001 ++ halt) 0 0 ≡ admitted 1 0 0
  pub inline_function_23 : admit_of (first_field 3 ++ camac_8 0x02170162 0x00000001 ++ halt) 0 0 ≡ admitted 1 0 0
  pub inline_function_24 : admit_of (first_field 3 ++ camac_8 0x02180162 0x00000001 ++ halt) 0 0 ≡ refused 8 7
  pub inline_function_31 : admit_of (first_field 3 ++ camac_8 0x021F0162 0x00000001 ++ halt) 0 0 ≡ refused 8 7
  pub single_function_7 : admit_of (first_field 3 ++ camac_4 0x02070102 ++ halt) 2 0 ≡ admitted 1 2 0
  pub single_function_8 : admit_of (first_field 3 ++ camac_4 0x02080102 ++ halt) 0 0 ≡ admitted 1 0 0
  pub single_function_15 : admit_of (first_field 3 ++ camac_4 0x020F0102 ++ halt) 0 0 ≡ admitted 1 0 0
  pub single_function_16 : admit_of (first_field 3 ++ camac_4 0x02100102 ++ halt) 0 2 ≡ admitted 1 0 2
  pub single_function_23 : admit_of (first_field 3 ++ camac_4 0x02170102 ++ halt) 0 2 ≡ admitted 1 0 2
  pub single_function_24 : admit_of (first_field 3 ++ camac_4 0x02180102 ++ halt) 0 0 ≡ admitted 1 0 0
  pub single_function_31 : admit_of (first_field 3 ++ camac_4 0x021F0102 ++ halt) 0 0 ≡ admitted 1 0 0
  pub unreached : admit_of (first_field 3 ++ literal 0x00000001 ++ halt ++ camac_8 0x02080122 0xFFFFFFFF ++ halt) 0 0 ≡ refused 8 17

-- 8 in transfer mode 2: control outside sequencer mode, a repeat write, a sequencer instruction other than its four
pub record Refusal8Enhanced : Type 0 where
  pub q_mode_0_function_0 : admit_of (first_field 3 ++ camac_8 0x02000142 0xFFFFFFFE ++ halt) 4 0 ≡ admitted 2 4 0
  pub q_mode_0_function_7 : admit_of (first_field 3 ++ camac_8 0x02070142 0xFFFFFFFE ++ halt) 4 0 ≡ admitted 2 4 0
  pub q_mode_0_function_8 : admit_of (first_field 3 ++ camac_8 0x02080142 0xFFFFFFFE ++ halt) 0 0 ≡ refused 8 7
  pub q_mode_0_function_15 : admit_of (first_field 3 ++ camac_8 0x020F0142 0xFFFFFFFE ++ halt) 0 0 ≡ refused 8 7
  pub q_mode_0_function_16 : admit_of (first_field 3 ++ camac_8 0x02100142 0xFFFFFFFE ++ halt) 0 4 ≡ admitted 2 0 4
  pub q_mode_0_function_23 : admit_of (first_field 3 ++ camac_8 0x02170142 0xFFFFFFFE ++ halt) 0 4 ≡ admitted 2 0 4
  pub q_mode_0_function_24 : admit_of (first_field 3 ++ camac_8 0x02180142 0xFFFFFFFE ++ halt) 0 0 ≡ refused 8 7
  pub q_mode_0_function_31 : admit_of (first_field 3 ++ camac_8 0x021F0142 0xFFFFFFFE ++ halt) 0 0 ≡ refused 8 7
  pub q_mode_1_function_0 : admit_of (first_field 3 ++ camac_8 0x0200014A 0xFFFFFFFE ++ halt) 4 0 ≡ admitted 2 4 0
  pub q_mode_1_function_7 : admit_of (first_field 3 ++ camac_8 0x0207014A 0xFFFFFFFE ++ halt) 4 0 ≡ admitted 2 4 0
  pub q_mode_1_function_8 : admit_of (first_field 3 ++ camac_8 0x0208014A 0xFFFFFFFE ++ halt) 0 0 ≡ refused 8 7
  pub q_mode_1_function_15 : admit_of (first_field 3 ++ camac_8 0x020F014A 0xFFFFFFFE ++ halt) 0 0 ≡ refused 8 7
  pub q_mode_1_function_16 : admit_of (first_field 3 ++ camac_8 0x0210014A 0xFFFFFFFE ++ halt) 0 4 ≡ admitted 2 0 4
  pub q_mode_1_function_23 : admit_of (first_field 3 ++ camac_8 0x0217014A 0xFFFFFFFE ++ halt) 0 4 ≡ admitted 2 0 4
  pub q_mode_1_function_24 : admit_of (first_field 3 ++ camac_8 0x0218014A 0xFFFFFFFE ++ halt) 0 0 ≡ refused 8 7
  pub q_mode_1_function_31 : admit_of (first_field 3 ++ camac_8 0x021F014A 0xFFFFFFFE ++ halt) 0 0 ≡ refused 8 7
  pub q_mode_2_function_0 : admit_of (first_field 3 ++ camac_8 0x02000152 0xFFFFFFFE ++ halt) 4 0 ≡ admitted 6 4 0
  pub q_mode_2_function_7 : admit_of (first_field 3 ++ camac_8 0x02070152 0xFFFFFFFE ++ halt) 4 0 ≡ admitted 6 4 0
  pub q_mode_2_function_8 : admit_of (first_field 3 ++ camac_8 0x02080152 0xFFFFFFFE ++ halt) 0 0 ≡ refused 8 7
  pub q_mode_2_function_15 : admit_of (first_field 3 ++ camac_8 0x020F0152 0xFFFFFFFE ++ halt) 0 0 ≡ refused 8 7
  pub q_mode_2_function_16 : admit_of (first_field 3 ++ camac_8 0x02100152 0xFFFFFFFE ++ halt) 0 0 ≡ refused 8 7
  pub q_mode_2_function_23 : admit_of (first_field 3 ++ camac_8 0x02170152 0xFFFFFFFE ++ halt) 0 0 ≡ refused 8 7
  pub q_mode_2_function_24 : admit_of (first_field 3 ++ camac_8 0x02180152 0xFFFFFFFE ++ halt) 0 0 ≡ refused 8 7
  pub q_mode_2_function_31 : admit_of (first_field 3 ++ camac_8 0x021F0152 0xFFFFFFFE ++ halt) 0 0 ≡ refused 8 7
  pub sequencer_subaddress_0 : admit_of (first_field 3 ++ camac_8 0x3C0C015A 0xFFFFFFFE ++ halt) 4 0 ≡ admitted 2 4 0
  pub sequencer_subaddress_1 : admit_of (first_field 3 ++ camac_8 0x3C2C015A 0xFFFFFFFE ++ halt) 4 0 ≡ admitted 2 4 0
  pub sequencer_subaddress_2 : admit_of (first_field 3 ++ camac_8 0x3C4C015A 0xFFFFFFFE ++ halt) 0 4 ≡ admitted 2 0 4
  pub sequencer_subaddress_3 : admit_of (first_field 3 ++ camac_8 0x3C6C015A 0xFFFFFFFE ++ halt) 0 4 ≡ admitted 2 0 4
  pub sequencer_subaddress_4 : admit_of (first_field 3 ++ camac_8 0x3C8C015A 0xFFFFFFFE ++ halt) 0 0 ≡ refused 8 7
  pub sequencer_subaddress_5 : admit_of (first_field 3 ++ camac_8 0x3CAC015A 0xFFFFFFFE ++ halt) 0 0 ≡ refused 8 7
  pub sequencer_function_0 : admit_of (first_field 3 ++ camac_8 0x3C00015A 0xFFFFFFFE ++ halt) 0 0 ≡ refused 8 7
  pub sequencer_function_4 : admit_of (first_field 3 ++ camac_8 0x3C04015A 0xFFFFFFFE ++ halt) 0 0 ≡ refused 8 7
  pub sequencer_function_11 : admit_of (first_field 3 ++ camac_8 0x3C0B015A 0xFFFFFFFE ++ halt) 0 0 ≡ refused 8 7
  pub sequencer_function_13 : admit_of (first_field 3 ++ camac_8 0x3C0D015A 0xFFFFFFFE ++ halt) 0 0 ≡ refused 8 7
  pub sequencer_function_16 : admit_of (first_field 3 ++ camac_8 0x3C10015A 0xFFFFFFFE ++ halt) 0 0 ≡ refused 8 7
  pub sequencer_function_28 : admit_of (first_field 3 ++ camac_8 0x3C1C015A 0xFFFFFFFE ++ halt) 0 0 ≡ refused 8 7
  pub sequencer_station_1 : admit_of (first_field 3 ++ camac_8 0x020C015A 0xFFFFFFFE ++ halt) 0 0 ≡ refused 8 7
  pub sequencer_station_23 : admit_of (first_field 3 ++ camac_8 0x2E0C015A 0xFFFFFFFE ++ halt) 0 0 ≡ refused 8 7

-- 9: second longword zero in a block; H above 65,536; H odd for 24-bit; inline bits above the word size; scan with n above P
pub record Refusal9 : Type 0 where
  pub block_16_h_0 : admit_of (first_field 3 ++ camac_8 0x02000122 0x00000000 ++ halt) 0 0 ≡ refused 9 7
  pub block_16_h_1 : admit_of (first_field 3 ++ camac_8 0x02000122 0xFFFFFFFF ++ halt) 2 0 ≡ admitted 1 2 0
  pub block_16_h_65537 : admit_of (first_field 3 ++ camac_8 0x02000122 0xFFFEFFFF ++ halt) 0 0 ≡ refused 9 7
  pub block_24_h_0 : admit_of (first_field 3 ++ camac_8 0x02000120 0x00000000 ++ halt) 0 0 ≡ refused 9 7
  pub block_24_h_1 : admit_of (first_field 3 ++ camac_8 0x02000120 0xFFFFFFFF ++ halt) 0 0 ≡ refused 9 7
  pub block_24_h_2 : admit_of (first_field 3 ++ camac_8 0x02000120 0xFFFFFFFE ++ halt) 4 0 ≡ admitted 1 4 0
  pub block_24_h_3 : admit_of (first_field 3 ++ camac_8 0x02000120 0xFFFFFFFD ++ halt) 0 0 ≡ refused 9 7
  pub block_24_h_65535 : admit_of (first_field 3 ++ camac_8 0x02000120 0xFFFF0001 ++ halt) 0 0 ≡ refused 9 7
  pub block_24_h_65537 : admit_of (first_field 3 ++ camac_8 0x02000120 0xFFFEFFFF ++ halt) 0 0 ≡ refused 9 7
  pub block_24_h_65538 : admit_of (first_field 3 ++ camac_8 0x02000120 0xFFFEFFFE ++ halt) 0 0 ≡ refused 9 7
  pub enhanced_16_h_0 : admit_of (first_field 3 ++ camac_8 0x02000142 0x00000000 ++ halt) 0 0 ≡ refused 9 7
  pub enhanced_16_h_1 : admit_of (first_field 3 ++ camac_8 0x02000142 0xFFFFFFFF ++ halt) 2 0 ≡ admitted 1 2 0
  pub enhanced_16_h_65537 : admit_of (first_field 3 ++ camac_8 0x02000142 0xFFFEFFFF ++ halt) 0 0 ≡ refused 9 7
  pub enhanced_24_h_0 : admit_of (first_field 3 ++ camac_8 0x02000140 0x00000000 ++ halt) 0 0 ≡ refused 9 7
  pub enhanced_24_h_1 : admit_of (first_field 3 ++ camac_8 0x02000140 0xFFFFFFFF ++ halt) 0 0 ≡ refused 9 7
  pub enhanced_24_h_2 : admit_of (first_field 3 ++ camac_8 0x02000140 0xFFFFFFFE ++ halt) 4 0 ≡ admitted 1 4 0
  pub enhanced_24_h_3 : admit_of (first_field 3 ++ camac_8 0x02000140 0xFFFFFFFD ++ halt) 0 0 ≡ refused 9 7
  pub enhanced_24_h_65535 : admit_of (first_field 3 ++ camac_8 0x02000140 0xFFFF0001 ++ halt) 0 0 ≡ refused 9 7
  pub enhanced_24_h_65537 : admit_of (first_field 3 ++ camac_8 0x02000140 0xFFFEFFFF ++ halt) 0 0 ≡ refused 9 7
  pub enhanced_24_h_65538 : admit_of (first_field 3 ++ camac_8 0x02000140 0xFFFEFFFE ++ halt) 0 0 ≡ refused 9 7
  pub block_16_h_65536 : admit_of (first_field 3 ++ camac_8 0x02000122 0xFFFF0000 ++ halt) 131072 0 ≡ admitted 65536 131072 0
  pub block_second_longword_1 : admit_of (first_field 3 ++ camac_8 0x02000122 0x00000001 ++ halt) 0 0 ≡ refused 9 7
  pub inline_16_word_ffff : admit_of (first_field 3 ++ camac_8 0x02100162 0x0000FFFF ++ halt) 0 0 ≡ admitted 1 0 0
  pub inline_16_word_10000 : admit_of (first_field 3 ++ camac_8 0x02100162 0x00010000 ++ halt) 0 0 ≡ refused 9 7
  pub inline_16_word_80000000 : admit_of (first_field 3 ++ camac_8 0x02100162 0x80000000 ++ halt) 0 0 ≡ refused 9 7
  pub inline_24_word_ffffff : admit_of (first_field 3 ++ camac_8 0x02100160 0x00FFFFFF ++ halt) 0 0 ≡ admitted 1 0 0
  pub inline_24_word_1000000 : admit_of (first_field 3 ++ camac_8 0x02100160 0x01000000 ++ halt) 0 0 ≡ refused 9 7
  pub inline_24_word_80000000 : admit_of (first_field 3 ++ camac_8 0x02100160 0x80000000 ++ halt) 0 0 ≡ refused 9 7
  pub scan_23_15_words_1 : admit_of (first_field 3 ++ camac_8 0x2FE0013A 0xFFFFFFFF ++ halt) 2 0 ≡ admitted 1 2 0
  pub scan_23_15_words_2 : admit_of (first_field 3 ++ camac_8 0x2FE0013A 0xFFFFFFFE ++ halt) 0 0 ≡ refused 9 7
  pub scan_23_14_words_2 : admit_of (first_field 3 ++ camac_8 0x2FC0013A 0xFFFFFFFE ++ halt) 4 0 ≡ admitted 2 4 0
  pub scan_23_14_words_3 : admit_of (first_field 3 ++ camac_8 0x2FC0013A 0xFFFFFFFD ++ halt) 0 0 ≡ refused 9 7
  pub scan_23_0_words_16 : admit_of (first_field 3 ++ camac_8 0x2E00013A 0xFFFFFFF0 ++ halt) 32 0 ≡ admitted 16 32 0
  pub scan_23_0_words_17 : admit_of (first_field 3 ++ camac_8 0x2E00013A 0xFFFFFFEF ++ halt) 0 0 ≡ refused 9 7
  pub scan_22_14_words_18 : admit_of (first_field 3 ++ camac_8 0x2DC0013A 0xFFFFFFEE ++ halt) 36 0 ≡ admitted 18 36 0
  pub scan_22_14_words_19 : admit_of (first_field 3 ++ camac_8 0x2DC0013A 0xFFFFFFED ++ halt) 0 0 ≡ refused 9 7
  pub sequencer_words_0 : admit_of (first_field 3 ++ camac_8 0x3C0C015A 0x00000000 ++ halt) 0 0 ≡ refused 9 7
  pub sequencer_words_1 : admit_of (first_field 3 ++ camac_8 0x3C0C015A 0xFFFFFFFF ++ halt) 2 0 ≡ admitted 1 2 0
  pub sequencer_words_369 : admit_of (first_field 3 ++ camac_8 0x3C0C015A 0xFFFFFE8F ++ halt) 738 0 ≡ admitted 369 738 0
  pub unreached : admit_of (first_field 3 ++ literal 0x00000001 ++ halt ++ camac_8 0x02000122 0x00000000 ++ halt) 0 0 ≡ refused 9 17

-- 10: jump target not an instruction
pub record Refusal10 : Type 0 where
  pub target_1_of_3 : admit_of (first_field 3 ++ jump 1 ++ halt ++ halt) 0 0 ≡ admitted 0 0 0
  pub target_2_of_3 : admit_of (first_field 3 ++ jump 2 ++ halt ++ halt) 0 0 ≡ admitted 0 0 0
  pub target_3_of_3 : admit_of (first_field 3 ++ jump 3 ++ halt ++ halt) 0 0 ≡ refused 10 7
  pub target_65535 : admit_of (first_field 3 ++ jump 65535 ++ halt) 0 0 ≡ refused 10 7
  pub unreached_target_0_of_2 : admit_of (first_field 3 ++ halt ++ jump 0) 0 0 ≡ admitted 0 0 0
  pub unreached_target_1_of_2 : admit_of (first_field 3 ++ halt ++ jump 1) 0 0 ≡ admitted 0 0 0
  pub unreached_target_2_of_2 : admit_of (first_field 3 ++ halt ++ jump 2) 0 0 ≡ refused 10 10
  pub first_of_two : admit_of (first_field 3 ++ literal 0x00000001 ++ jump 9 ++ jump 8 ++ halt) 0 0 ≡ refused 10 14
  pub behind_7 : admit_of (first_field 3 ++ jump 9 ++ camac_4 0x00000102 ++ halt) 0 0 ≡ refused 7 12

-- 11: the walk repeats or passes the last field
pub record Refusal11 : Type 0 where
  pub no_instruction : admit_of (first_field 3) 0 0 ≡ refused 11 0
  pub jump_to_itself : admit_of (first_field 3 ++ jump 0) 0 0 ≡ refused 11 0
  pub jump_to_itself_before_a_halt : admit_of (first_field 3 ++ jump 0 ++ halt) 0 0 ≡ refused 11 0
  pub two_jumps_around : admit_of (first_field 3 ++ jump 1 ++ jump 0) 0 0 ≡ refused 11 0
  pub back_to_the_middle : admit_of (first_field 3 ++ literal 0x00000007 ++ literal 0x00000007 ++ jump 1) 0 0 ≡ refused 11 0
  pub passes_a_literal : admit_of (first_field 3 ++ literal 0x00000007) 0 0 ≡ refused 11 0
  pub passes_a_camac : admit_of (first_field 3 ++ camac_4 0x02000102) 0 0 ≡ refused 11 0
  pub halt_not_reached : admit_of (first_field 3 ++ jump 2 ++ halt ++ literal 0x00000007) 0 0 ≡ refused 11 0
  pub jump_over_to_a_halt : admit_of (first_field 3 ++ jump 2 ++ jump 2 ++ halt) 0 0 ≡ admitted 0 0 0
  pub back_to_a_halt : admit_of (first_field 3 ++ jump 2 ++ halt ++ jump 1) 0 0 ≡ admitted 0 0 0
  pub loop_not_reached : admit_of (first_field 3 ++ halt ++ jump 1) 0 0 ≡ admitted 0 0 0

-- 20: incoming shorter than B; 21: outgoing shorter than O
pub record Refusals20And21 : Type 0 where
  pub lengths_8_and_12 : admit_of (first_field 3 ++ camac_8 0x0A620928 0xFFFFFFFC ++ camac_8 0x0A710928 0xFFFFFFFA ++ halt) 8 12 ≡ admitted 5 8 12
  pub lengths_7_and_12 : admit_of (first_field 3 ++ camac_8 0x0A620928 0xFFFFFFFC ++ camac_8 0x0A710928 0xFFFFFFFA ++ halt) 7 12 ≡ refused 20 0
  pub lengths_8_and_11 : admit_of (first_field 3 ++ camac_8 0x0A620928 0xFFFFFFFC ++ camac_8 0x0A710928 0xFFFFFFFA ++ halt) 8 11 ≡ refused 21 0
  pub lengths_7_and_11 : admit_of (first_field 3 ++ camac_8 0x0A620928 0xFFFFFFFC ++ camac_8 0x0A710928 0xFFFFFFFA ++ halt) 7 11 ≡ refused 20 0
  pub lengths_0_and_12 : admit_of (first_field 3 ++ camac_8 0x0A620928 0xFFFFFFFC ++ camac_8 0x0A710928 0xFFFFFFFA ++ halt) 0 12 ≡ refused 20 0
  pub lengths_8_and_0 : admit_of (first_field 3 ++ camac_8 0x0A620928 0xFFFFFFFC ++ camac_8 0x0A710928 0xFFFFFFFA ++ halt) 8 0 ≡ refused 21 0
  pub lengths_9_and_13 : admit_of (first_field 3 ++ camac_8 0x0A620928 0xFFFFFFFC ++ camac_8 0x0A710928 0xFFFFFFFA ++ halt) 9 13 ≡ admitted 5 8 12
  pub lengths_1099511627776_and_1099511627776 :
      admit_of (first_field 3 ++ camac_8 0x0A620928 0xFFFFFFFC ++ camac_8 0x0A710928 0xFFFFFFFA ++ halt) 1099511627776 1099511627776
      ≡ admitted 5 8 12

-- two refusals at once: in a field the order listed for 1 to 9, among fields the first, then 10, 11, 20, 21
pub record Order : Type 0 where
  pub zero_bit_before_crate : admit_of (first_field 3 ++ camac_4 0x02003F06 ++ halt) 0 0 ≡ refused 6 7
  pub zero_bit_before_mode : admit_of (first_field 3 ++ camac_8 0x02000106 0x00000000 ++ halt) 0 0 ≡ refused 6 7
  pub crate_before_mode : admit_of (first_field 3 ++ camac_8 0x02003F02 0x00000000 ++ halt) 0 0 ≡ refused 7 7
  pub mode_before_count : admit_of (first_field 3 ++ camac_8 0x02080122 0x00000000 ++ halt) 0 0 ≡ refused 8 7
  pub count_before_a_zero_bit_behind : admit_of (first_field 3 ++ camac_8 0x02000122 0x00000000 ++ camac_4 0x02003F06 ++ halt) 0 0 ≡ refused 9 7
  pub zero_bit_behind_before_jump : admit_of (first_field 3 ++ jump 9 ++ camac_4 0x02003F06 ++ halt) 0 0 ≡ refused 6 12
  pub jump_before_walk : admit_of (first_field 3 ++ jump 0 ++ jump 9 ++ halt) 0 0 ≡ refused 10 12
  pub cut_before_unknown_tag : admit_of (first_field 3 ++ hex 3 0x550900) 0 0 ≡ refused 1 7
  pub tag_before_length : admit_of (first_field 3 ++ hex 9 0x5503000000002F0000) 0 0 ≡ refused 3 7
  pub length_before_zero_bit : admit_of (first_field 3 ++ hex 9 0x1003008601002F0000) 0 0 ≡ refused 4 7
  pub walk_before_incoming : admit_of (first_field 3 ++ camac_4 0x02000102) 0 0 ≡ refused 11 0
  pub first_field_before_others : admit_of (hex 10 0x01040002000300550000) 0 0 ≡ refused 2 0

-- W: stop, ignore n; repeat n × R; scan min(P, n − 1 + S); over the walk only
pub record WorstCount : Type 0 where
  pub stop_words_1 : admit_of (first_field 3 ++ camac_8 0x2BA00122 0xFFFFFFFF ++ halt) 2 0 ≡ admitted 1 2 0
  pub stop_words_2 : admit_of (first_field 3 ++ camac_8 0x2BA00122 0xFFFFFFFE ++ halt) 4 0 ≡ admitted 2 4 0
  pub stop_words_5 : admit_of (first_field 3 ++ camac_8 0x2BA00122 0xFFFFFFFB ++ halt) 10 0 ≡ admitted 5 10 0
  pub stop_single : admit_of (first_field 3 ++ camac_4 0x2BA00102 ++ halt) 2 0 ≡ admitted 1 2 0
  pub ignore_words_1 : admit_of (first_field 3 ++ camac_8 0x2BA0012A 0xFFFFFFFF ++ halt) 2 0 ≡ admitted 1 2 0
  pub ignore_words_2 : admit_of (first_field 3 ++ camac_8 0x2BA0012A 0xFFFFFFFE ++ halt) 4 0 ≡ admitted 2 4 0
  pub ignore_words_5 : admit_of (first_field 3 ++ camac_8 0x2BA0012A 0xFFFFFFFB ++ halt) 10 0 ≡ admitted 5 10 0
  pub ignore_single : admit_of (first_field 3 ++ camac_4 0x2BA0010A ++ halt) 2 0 ≡ admitted 1 2 0
  pub repeat_words_1 : admit_of (first_field 3 ++ camac_8 0x2BA00132 0xFFFFFFFF ++ halt) 2 0 ≡ admitted 3 2 0
  pub repeat_words_2 : admit_of (first_field 3 ++ camac_8 0x2BA00132 0xFFFFFFFE ++ halt) 4 0 ≡ admitted 6 4 0
  pub repeat_words_5 : admit_of (first_field 3 ++ camac_8 0x2BA00132 0xFFFFFFFB ++ halt) 10 0 ≡ admitted 15 10 0
  pub repeat_single : admit_of (first_field 3 ++ camac_4 0x2BA00112 ++ halt) 2 0 ≡ admitted 3 2 0
  pub scan_words_1 : admit_of (first_field 3 ++ camac_8 0x2BA0013A 0xFFFFFFFF ++ halt) 2 0 ≡ admitted 3 2 0
  pub scan_words_2 : admit_of (first_field 3 ++ camac_8 0x2BA0013A 0xFFFFFFFE ++ halt) 4 0 ≡ admitted 4 4 0
  pub scan_words_5 : admit_of (first_field 3 ++ camac_8 0x2BA0013A 0xFFFFFFFB ++ halt) 10 0 ≡ admitted 7 10 0
  pub scan_single : admit_of (first_field 3 ++ camac_4 0x2BA0011A ++ halt) 2 0 ≡ admitted 3 2 0
  pub scan_words_32 : admit_of (first_field 3 ++ camac_8 0x2BA0013A 0xFFFFFFE0 ++ halt) 64 0 ≡ admitted 34 64 0
  pub scan_words_33 : admit_of (first_field 3 ++ camac_8 0x2BA0013A 0xFFFFFFDF ++ halt) 66 0 ≡ admitted 35 66 0
  pub scan_words_34 : admit_of (first_field 3 ++ camac_8 0x2BA0013A 0xFFFFFFDE ++ halt) 68 0 ≡ admitted 35 68 0
  pub scan_words_35 : admit_of (first_field 3 ++ camac_8 0x2BA0013A 0xFFFFFFDD ++ halt) 70 0 ≡ admitted 35 70 0
  pub repeat_try_limit_1 : admit_of (first_field 1 ++ camac_8 0x2BA00132 0xFFFFFFFD ++ camac_8 0x2BA00152 0xFFFFFFFE ++ halt) 10 0 ≡ admitted 5 10 0
  pub repeat_try_limit_2 : admit_of (first_field 2 ++ camac_8 0x2BA00132 0xFFFFFFFD ++ camac_8 0x2BA00152 0xFFFFFFFE ++ halt) 10 0 ≡ admitted 10 10 0
  pub repeat_try_limit_65535 : admit_of (first_field 65535 ++ camac_8 0x2BA00132 0xFFFFFFFD ++ camac_8 0x2BA00152 0xFFFFFFFE ++ halt) 10 0
      ≡ admitted 327675 10 0
  pub over_the_walk_only : admit_of (first_field 3 ++ jump 2 ++ camac_8 0x2BA00122 0xFFFFFFFC ++ camac_8 0x2BA0012A 0xFFFFFFFE ++ halt) 4 0
      ≡ admitted 2 4 0

-- B and O: words of 16 and 24 bits and literals with their pads, none behind the last word
pub record Marks : Type 0 where
  pub read_24_16 : admit_of (first_field 3 ++ camac_4 0x02000100 ++ camac_4 0x02000102 ++ halt) 6 0 ≡ admitted 2 6 0
  pub read_16_24 : admit_of (first_field 3 ++ camac_4 0x02000102 ++ camac_4 0x02000100 ++ halt) 8 0 ≡ admitted 2 8 0
  pub read_16_24_16_24 : admit_of (first_field 3 ++ camac_4 0x02000102 ++ camac_4 0x02000100 ++ camac_4 0x02000102 ++ camac_4 0x02000100 ++ halt) 16 0
      ≡ admitted 4 16 0
  pub read_3_of_16_24_2_of_16 :
      admit_of (first_field 3 ++ camac_8 0x02000122 0xFFFFFFFD ++ camac_4 0x02000100 ++ camac_8 0x02000122 0xFFFFFFFE ++ halt) 16 0
      ≡ admitted 6 16 0
  pub read_16_literal : admit_of (first_field 3 ++ camac_4 0x02000102 ++ literal 0x12345678 ++ halt) 8 0 ≡ admitted 1 8 0
  pub write_24_16 : admit_of (first_field 3 ++ camac_4 0x02100100 ++ camac_4 0x02100102 ++ halt) 0 6 ≡ admitted 2 0 6
  pub write_16_24 : admit_of (first_field 3 ++ camac_4 0x02100102 ++ camac_4 0x02100100 ++ halt) 0 8 ≡ admitted 2 0 8
  pub write_16_24_16_24 :
      admit_of (first_field 3 ++ camac_4 0x02100102 ++ camac_4 0x02100100 ++ camac_4 0x02100102 ++ camac_4 0x02100100 ++ halt) 0 16
      ≡ admitted 4 0 16
  pub write_3_of_16_24_2_of_16 :
      admit_of (first_field 3 ++ camac_8 0x02100122 0xFFFFFFFD ++ camac_4 0x02100100 ++ camac_8 0x02100122 0xFFFFFFFE ++ halt) 0 16
      ≡ admitted 6 0 16
  pub write_16_literal : admit_of (first_field 3 ++ camac_4 0x02100102 ++ literal 0x12345678 ++ halt) 4 2 ≡ admitted 1 4 2
  pub one_literal : admit_of (first_field 3 ++ literal 0x12345678 ++ halt) 4 0 ≡ admitted 0 4 0
  pub control_and_inline : admit_of (first_field 3 ++ camac_4 0x02080102 ++ camac_8 0x02100162 0x00000005 ++ halt) 0 0 ≡ admitted 2 0 0
