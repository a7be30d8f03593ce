-- The whole run: end codes, rows of all lengths, packing, short blocks, W, refusals.
-- Printed with the separate build's answers: cargo run --release --manifest-path rust/Cargo.toml -p reference --example equations write
use Rattle.std.specs.Prelude.{ℕ, ◌+◌, ◌≡◌, List, [], ◌++◌}
use Rattle.reply.specs.Effect.{state_of}
use Rattle.calls.specs.Calls.{RunThrough, run_of}
use Rattle.worst_count.specs.Cases.{first_field, jump, literal, halt}
use Rattle.equations.specs.Forms.{hex, camac_4, camac_8, Q, X, ERR, DERR, TPE, LPE, answer, kind, waiting, ended, ran}

-- each end code, behind a word that was moved
abbrev pub end_codes_0 : List ℕ → RunThrough
end_codes_0 = run_of (first_field 2 ++ camac_4 0x02000102 ++ camac_4 0x2FA00102 ++ halt) (hex 4 0x11121314) []

abbrev pub end_codes_1 : List ℕ → RunThrough
end_codes_1 = run_of (first_field 2 ++ camac_4 0x02000102 ++ camac_8 0x2FA0012A 0xFFFFFFFE ++ halt) (hex 6 0x111213141516) []

abbrev pub end_codes_2 : List ℕ → RunThrough
end_codes_2 = run_of (first_field 2 ++ camac_4 0x02000102 ++ camac_8 0x2FA0013A 0xFFFFFFFE ++ halt) (hex 6 0x111213141516) []

abbrev pub end_codes_3 : List ℕ → RunThrough
end_codes_3 = run_of (first_field 2 ++ camac_4 0x02000102 ++ camac_8 0x2FA00132 0xFFFFFFFE ++ halt) (hex 6 0x111213141516) []

abbrev pub end_codes_4 : List ℕ → RunThrough
end_codes_4 = run_of (first_field 2 ++ camac_4 0x02000102 ++ camac_8 0x2FA00122 0xFFFFFFFE ++ halt) (hex 6 0x111213141516) []

pub record EndCodes : Type 0 where
  pub code_0 : end_codes_0 (answer (Q + X) 0x001122 ++ answer (Q + X) 0x003344)
      ≡ ran 0 0 2 (state_of (ended 2 0 0 0 0 4 0 2 0x00000080 0 2 2) (hex 4 0x22114433) [])
  pub code_4 : end_codes_1 (answer (Q + X) 0x001122 ++ answer (Q + X) 0x003344 ++ answer (Q + X + ERR) 0x000005)
      ≡ ran 0 0 3 (state_of (ended 1 0 0 0 0 4 0 3 0x40840080 0 2 2) (hex 6 0x221144331516) [])
  pub code_4_in_scan : end_codes_2 (answer (Q + X) 0x001122 ++ answer (Q + X) 0x003344 ++ answer (Q + X + ERR) 0x000005)
      ≡ ran 0 0 3 (state_of (ended 1 0 0 0 0 4 0 3 0x40840080 0 2 2) (hex 6 0x221144331516) [])
  pub code_7 : end_codes_0 (answer (Q + X) 0x001122 ++ answer X 0x005566)
      ≡ ran 0 0 2 (state_of (ended 1 0 0 0 0 2 0 2 0x70010080 0 0 2) (hex 4 0x22111314) [])
  pub code_8 : end_codes_1 (answer (Q + X) 0x001122 ++ answer (Q + X) 0x003344 ++ answer Q 0x000005)
      ≡ ran 0 0 3 (state_of (ended 1 0 0 0 0 4 0 3 0x80020080 0 2 2) (hex 6 0x221144331516) [])
  pub code_8_in_repeat : end_codes_3 (answer (Q + X) 0x001122 ++ answer X 0x005566 ++ answer Q 0x000005)
      ≡ ran 0 0 3 (state_of (ended 1 0 0 0 0 2 0 3 0x80030080 0 0 2) (hex 6 0x221113141516) [])
  pub code_9_skipping : end_codes_2 (answer (Q + X) 0x001122 ++ answer (Q + X) 0x003344 ++ answer X 0x005566)
      ≡ ran 0 0 3 (state_of (ended 1 0 0 0 0 4 0 3 0x90410080 0 2 2) (hex 6 0x221144331516) [])
  pub code_9_single :
      run_of (first_field 2 ++ camac_4 0x02000102 ++ camac_4 0x2FE0011A ++ halt) (hex 4 0x11121314) [] (answer (Q + X) 0x001122 ++ answer X 0x005566)
      ≡ ran 0 0 2 (state_of (ended 1 0 0 0 0 2 0 2 0x90410080 0 0 2) (hex 4 0x22111314) [])
  pub code_a_tpe : end_codes_1 (answer (Q + X) 0x001122 ++ answer (Q + X) 0x003344 ++ answer (Q + X + TPE) 0x000005)
      ≡ ran 0 0 3 (state_of (ended 1 0 0 0 0 4 0 3 0xA0140080 0 2 2) (hex 6 0x221144331516) [])
  pub code_a_lpe : end_codes_3 (answer (Q + X) 0x001122 ++ answer (Q + X) 0x003344 ++ answer (Q + X + LPE) 0x000005)
      ≡ ran 0 0 3 (state_of (ended 1 0 0 0 0 4 0 3 0xA0240080 0 2 2) (hex 6 0x221144331516) [])
  pub code_b_timeout : end_codes_4 (answer (Q + X) 0x001122 ++ answer (Q + X) 0x003344 ++ kind 1)
      ≡ ran 0 0 3 (state_of (ended 1 0 0 0 0 4 0 3 0xB2000080 0 2 2) (hex 6 0x221144331516) [])
  pub code_b_tries_spent : end_codes_3 (answer (Q + X) 0x001122 ++ answer (Q + X) 0x003344 ++ answer X 0x005566 ++ answer X 0x005566)
      ≡ ran 0 0 4 (state_of (ended 1 0 0 0 0 4 0 4 0xB2010080 0 2 2) (hex 6 0x221144331516) [])
  pub code_0_tries_of_each_word :
      end_codes_3 (answer (Q + X) 0x001122 ++ answer X 0x005566 ++ answer (Q + X) 0x003344 ++ answer X 0x005566 ++ answer (Q + X) 0x003344)
      ≡ ran 0 0 5 (state_of (ended 2 0 0 0 0 6 0 5 0x00010080 0 4 2) (hex 6 0x221144334433) [])
  pub code_c : end_codes_4 (answer (Q + X) 0x001122 ++ answer (Q + X) 0x003344 ++ kind 2)
      ≡ ran 0 0 3 (state_of (ended 1 0 0 0 0 4 0 3 0xC0080080 0 2 2) (hex 6 0x221144331516) [])
  pub code_d : end_codes_4 (answer (Q + X) 0x001122 ++ answer (Q + X) 0x003344 ++ kind 3)
      ≡ ran 0 0 3 (state_of (ended 1 0 0 0 0 4 0 3 0xD1000080 0 2 2) (hex 6 0x221144331516) [])
  pub code_0_halt_alone : run_of (first_field 2 ++ halt) [] [] [] ≡ ran 0 0 0 (state_of (ended 0 0 0 0 0 0 0 0 0x00000080 0 0 0) [] [])

-- rows of no reply, of fewer than the run takes, of as many, of more; rows with a part of 8 bytes
abbrev pub rows_0 : List ℕ → RunThrough
rows_0 = run_of (first_field 3 ++ camac_8 0x2FA0012A 0xFFFFFFFE ++ halt) (hex 4 0x11121314) []

abbrev pub rows_1 : List ℕ → RunThrough
rows_1 = run_of (first_field 3 ++ halt) [] []

pub record Rows : Type 0 where
  pub replies_0 : rows_0 [] ≡ ran 0 0 0 (state_of (waiting 0 2 0 23 13 0 0 0 0x00000000 0 0 0) (hex 4 0x11121314) [])
  pub replies_1 : rows_0 (answer (Q + X) 0x001122) ≡ ran 0 0 1 (state_of (waiting 0 1 0 23 13 2 0 1 0x00000000 0 0 2) (hex 4 0x22111314) [])
  pub replies_2 : rows_0 (answer (Q + X) 0x001122 ++ answer (Q + X) 0x003344)
      ≡ ran 0 0 2 (state_of (ended 1 0 0 0 0 4 0 2 0x00000080 0 2 2) (hex 4 0x22114433) [])
  pub replies_3 : rows_0 (answer (Q + X) 0x001122 ++ answer (Q + X) 0x003344 ++ answer (Q + X) 0x005566)
      ≡ ran 0 0 2 (state_of (ended 1 0 0 0 0 4 0 2 0x00000080 0 2 2) (hex 4 0x22114433) [])
  pub replies_4 : rows_0 (answer (Q + X) 0x001122 ++ answer (Q + X) 0x003344 ++ answer (Q + X) 0x005566 ++ kind 3)
      ≡ ran 0 0 2 (state_of (ended 1 0 0 0 0 4 0 2 0x00000080 0 2 2) (hex 4 0x22114433) [])
  pub replies_0_and_1_bytes : rows_0 (hex 1 0x00) ≡ ran 22 0 0 (state_of (ended 0 0 0 0 0 0 0 0 0x00000000 0 0 0) (hex 4 0x11121314) [])
  pub replies_0_and_2_bytes : rows_0 (hex 2 0x0003) ≡ ran 22 0 0 (state_of (ended 0 0 0 0 0 0 0 0 0x00000000 0 0 0) (hex 4 0x11121314) [])
  pub replies_0_and_3_bytes : rows_0 (hex 3 0x000300) ≡ ran 22 0 0 (state_of (ended 0 0 0 0 0 0 0 0 0x00000000 0 0 0) (hex 4 0x11121314) [])
  pub replies_0_and_4_bytes : rows_0 (hex 4 0x00030000) ≡ ran 22 0 0 (state_of (ended 0 0 0 0 0 0 0 0 0x00000000 0 0 0) (hex 4 0x11121314) [])
  pub replies_0_and_5_bytes : rows_0 (hex 5 0x0003000022) ≡ ran 22 0 0 (state_of (ended 0 0 0 0 0 0 0 0 0x00000000 0 0 0) (hex 4 0x11121314) [])
  pub replies_0_and_6_bytes : rows_0 (hex 6 0x000300002211) ≡ ran 22 0 0 (state_of (ended 0 0 0 0 0 0 0 0 0x00000000 0 0 0) (hex 4 0x11121314) [])
  pub replies_0_and_7_bytes : rows_0 (hex 7 0x00030000221100) ≡ ran 22 0 0 (state_of (ended 0 0 0 0 0 0 0 0 0x00000000 0 0 0) (hex 4 0x11121314) [])
  pub replies_1_and_1_bytes : rows_0 (answer (Q + X) 0x001122 ++ hex 1 0x00)
      ≡ ran 22 0 0 (state_of (ended 0 0 0 0 0 0 0 0 0x00000000 0 0 0) (hex 4 0x11121314) [])
  pub replies_1_and_2_bytes : rows_0 (answer (Q + X) 0x001122 ++ hex 2 0x0003)
      ≡ ran 22 0 0 (state_of (ended 0 0 0 0 0 0 0 0 0x00000000 0 0 0) (hex 4 0x11121314) [])
  pub replies_1_and_3_bytes : rows_0 (answer (Q + X) 0x001122 ++ hex 3 0x000300)
      ≡ ran 22 0 0 (state_of (ended 0 0 0 0 0 0 0 0 0x00000000 0 0 0) (hex 4 0x11121314) [])
  pub replies_1_and_4_bytes : rows_0 (answer (Q + X) 0x001122 ++ hex 4 0x00030000)
      ≡ ran 22 0 0 (state_of (ended 0 0 0 0 0 0 0 0 0x00000000 0 0 0) (hex 4 0x11121314) [])
  pub replies_1_and_5_bytes : rows_0 (answer (Q + X) 0x001122 ++ hex 5 0x0003000044)
      ≡ ran 22 0 0 (state_of (ended 0 0 0 0 0 0 0 0 0x00000000 0 0 0) (hex 4 0x11121314) [])
  pub replies_1_and_6_bytes : rows_0 (answer (Q + X) 0x001122 ++ hex 6 0x000300004433)
      ≡ ran 22 0 0 (state_of (ended 0 0 0 0 0 0 0 0 0x00000000 0 0 0) (hex 4 0x11121314) [])
  pub replies_1_and_7_bytes : rows_0 (answer (Q + X) 0x001122 ++ hex 7 0x00030000443300)
      ≡ ran 22 0 0 (state_of (ended 0 0 0 0 0 0 0 0 0x00000000 0 0 0) (hex 4 0x11121314) [])
  pub replies_2_and_1_bytes : rows_0 (answer (Q + X) 0x001122 ++ answer (Q + X) 0x003344 ++ hex 1 0x00)
      ≡ ran 22 0 0 (state_of (ended 0 0 0 0 0 0 0 0 0x00000000 0 0 0) (hex 4 0x11121314) [])
  pub replies_2_and_2_bytes : rows_0 (answer (Q + X) 0x001122 ++ answer (Q + X) 0x003344 ++ hex 2 0x0003)
      ≡ ran 22 0 0 (state_of (ended 0 0 0 0 0 0 0 0 0x00000000 0 0 0) (hex 4 0x11121314) [])
  pub replies_2_and_3_bytes : rows_0 (answer (Q + X) 0x001122 ++ answer (Q + X) 0x003344 ++ hex 3 0x000300)
      ≡ ran 22 0 0 (state_of (ended 0 0 0 0 0 0 0 0 0x00000000 0 0 0) (hex 4 0x11121314) [])
  pub replies_2_and_4_bytes : rows_0 (answer (Q + X) 0x001122 ++ answer (Q + X) 0x003344 ++ hex 4 0x00030000)
      ≡ ran 22 0 0 (state_of (ended 0 0 0 0 0 0 0 0 0x00000000 0 0 0) (hex 4 0x11121314) [])
  pub replies_2_and_5_bytes : rows_0 (answer (Q + X) 0x001122 ++ answer (Q + X) 0x003344 ++ hex 5 0x0003000066)
      ≡ ran 22 0 0 (state_of (ended 0 0 0 0 0 0 0 0 0x00000000 0 0 0) (hex 4 0x11121314) [])
  pub replies_2_and_6_bytes : rows_0 (answer (Q + X) 0x001122 ++ answer (Q + X) 0x003344 ++ hex 6 0x000300006655)
      ≡ ran 22 0 0 (state_of (ended 0 0 0 0 0 0 0 0 0x00000000 0 0 0) (hex 4 0x11121314) [])
  pub replies_2_and_7_bytes : rows_0 (answer (Q + X) 0x001122 ++ answer (Q + X) 0x003344 ++ hex 7 0x00030000665500)
      ≡ ran 22 0 0 (state_of (ended 0 0 0 0 0 0 0 0 0x00000000 0 0 0) (hex 4 0x11121314) [])
  pub replies_3_and_1_bytes : rows_0 (answer (Q + X) 0x001122 ++ answer (Q + X) 0x003344 ++ answer (Q + X) 0x005566 ++ hex 1 0x03)
      ≡ ran 22 0 0 (state_of (ended 0 0 0 0 0 0 0 0 0x00000000 0 0 0) (hex 4 0x11121314) [])
  pub replies_3_and_2_bytes : rows_0 (answer (Q + X) 0x001122 ++ answer (Q + X) 0x003344 ++ answer (Q + X) 0x005566 ++ hex 2 0x0300)
      ≡ ran 22 0 0 (state_of (ended 0 0 0 0 0 0 0 0 0x00000000 0 0 0) (hex 4 0x11121314) [])
  pub replies_3_and_3_bytes : rows_0 (answer (Q + X) 0x001122 ++ answer (Q + X) 0x003344 ++ answer (Q + X) 0x005566 ++ hex 3 0x030000)
      ≡ ran 22 0 0 (state_of (ended 0 0 0 0 0 0 0 0 0x00000000 0 0 0) (hex 4 0x11121314) [])
  pub replies_3_and_4_bytes : rows_0 (answer (Q + X) 0x001122 ++ answer (Q + X) 0x003344 ++ answer (Q + X) 0x005566 ++ hex 4 0x03000000)
      ≡ ran 22 0 0 (state_of (ended 0 0 0 0 0 0 0 0 0x00000000 0 0 0) (hex 4 0x11121314) [])
  pub replies_3_and_5_bytes : rows_0 (answer (Q + X) 0x001122 ++ answer (Q + X) 0x003344 ++ answer (Q + X) 0x005566 ++ hex 5 0x0300000000)
      ≡ ran 22 0 0 (state_of (ended 0 0 0 0 0 0 0 0 0x00000000 0 0 0) (hex 4 0x11121314) [])
  pub replies_3_and_6_bytes : rows_0 (answer (Q + X) 0x001122 ++ answer (Q + X) 0x003344 ++ answer (Q + X) 0x005566 ++ hex 6 0x030000000000)
      ≡ ran 22 0 0 (state_of (ended 0 0 0 0 0 0 0 0 0x00000000 0 0 0) (hex 4 0x11121314) [])
  pub replies_3_and_7_bytes : rows_0 (answer (Q + X) 0x001122 ++ answer (Q + X) 0x003344 ++ answer (Q + X) 0x005566 ++ hex 7 0x03000000000000)
      ≡ ran 22 0 0 (state_of (ended 0 0 0 0 0 0 0 0 0x00000000 0 0 0) (hex 4 0x11121314) [])
  pub halt_and_replies : rows_1 (answer (Q + X) 0x001122 ++ answer (Q + X) 0x003344)
      ≡ ran 0 0 0 (state_of (ended 0 0 0 0 0 0 0 0 0x00000080 0 0 0) [] [])
  pub halt_and_3_bytes : rows_1 (hex 3 0x000300) ≡ ran 22 0 0 (state_of (ended 0 0 0 0 0 0 0 0 0x00000000 0 0 0) [] [])

-- 22: a reply anywhere that isn't formed as it should be, past the run's end too
abbrev pub bad_rows_0 : List ℕ → RunThrough
bad_rows_0 = run_of (first_field 3 ++ camac_8 0x2FA0012A 0xFFFFFFFE ++ halt) (hex 4 0x11121314) []

pub record BadRows : Type 0 where
  pub kind_4_in_reply_0 : bad_rows_0 (hex 8 0x0400000000000000 ++ answer (Q + X) 0x003344 ++ answer (Q + X) 0x005566)
      ≡ ran 22 0 0 (state_of (ended 0 0 0 0 0 0 0 0 0x00000000 0 0 0) (hex 4 0x11121314) [])
  pub kind_4_in_reply_1 : bad_rows_0 (answer (Q + X) 0x001122 ++ hex 8 0x0400000000000000 ++ answer (Q + X) 0x005566)
      ≡ ran 22 0 0 (state_of (ended 0 0 0 0 0 0 0 0 0x00000000 0 0 0) (hex 4 0x11121314) [])
  pub kind_4_in_reply_2 : bad_rows_0 (answer (Q + X) 0x001122 ++ answer (Q + X) 0x003344 ++ hex 8 0x0400000000000000)
      ≡ ran 22 0 0 (state_of (ended 0 0 0 0 0 0 0 0 0x00000000 0 0 0) (hex 4 0x11121314) [])
  pub bit_6_in_reply_0 : bad_rows_0 (hex 8 0x0043000001000000 ++ answer (Q + X) 0x003344 ++ answer (Q + X) 0x005566)
      ≡ ran 22 0 0 (state_of (ended 0 0 0 0 0 0 0 0 0x00000000 0 0 0) (hex 4 0x11121314) [])
  pub bit_6_in_reply_1 : bad_rows_0 (answer (Q + X) 0x001122 ++ hex 8 0x0043000001000000 ++ answer (Q + X) 0x005566)
      ≡ ran 22 0 0 (state_of (ended 0 0 0 0 0 0 0 0 0x00000000 0 0 0) (hex 4 0x11121314) [])
  pub bit_6_in_reply_2 : bad_rows_0 (answer (Q + X) 0x001122 ++ answer (Q + X) 0x003344 ++ hex 8 0x0043000001000000)
      ≡ ran 22 0 0 (state_of (ended 0 0 0 0 0 0 0 0 0x00000000 0 0 0) (hex 4 0x11121314) [])
  pub byte_2_in_reply_0 : bad_rows_0 (hex 8 0x0003010001000000 ++ answer (Q + X) 0x003344 ++ answer (Q + X) 0x005566)
      ≡ ran 22 0 0 (state_of (ended 0 0 0 0 0 0 0 0 0x00000000 0 0 0) (hex 4 0x11121314) [])
  pub byte_2_in_reply_1 : bad_rows_0 (answer (Q + X) 0x001122 ++ hex 8 0x0003010001000000 ++ answer (Q + X) 0x005566)
      ≡ ran 22 0 0 (state_of (ended 0 0 0 0 0 0 0 0 0x00000000 0 0 0) (hex 4 0x11121314) [])
  pub byte_2_in_reply_2 : bad_rows_0 (answer (Q + X) 0x001122 ++ answer (Q + X) 0x003344 ++ hex 8 0x0003010001000000)
      ≡ ran 22 0 0 (state_of (ended 0 0 0 0 0 0 0 0 0x00000000 0 0 0) (hex 4 0x11121314) [])
  pub byte_7_in_reply_0 : bad_rows_0 (hex 8 0x0003000001000001 ++ answer (Q + X) 0x003344 ++ answer (Q + X) 0x005566)
      ≡ ran 22 0 0 (state_of (ended 0 0 0 0 0 0 0 0 0x00000000 0 0 0) (hex 4 0x11121314) [])
  pub byte_7_in_reply_1 : bad_rows_0 (answer (Q + X) 0x001122 ++ hex 8 0x0003000001000001 ++ answer (Q + X) 0x005566)
      ≡ ran 22 0 0 (state_of (ended 0 0 0 0 0 0 0 0 0x00000000 0 0 0) (hex 4 0x11121314) [])
  pub byte_7_in_reply_2 : bad_rows_0 (answer (Q + X) 0x001122 ++ answer (Q + X) 0x003344 ++ hex 8 0x0003000001000001)
      ≡ ran 22 0 0 (state_of (ended 0 0 0 0 0 0 0 0 0x00000000 0 0 0) (hex 4 0x11121314) [])
  pub kind_1_byte_1_in_reply_0 : bad_rows_0 (hex 8 0x0101000000000000 ++ answer (Q + X) 0x003344 ++ answer (Q + X) 0x005566)
      ≡ ran 22 0 0 (state_of (ended 0 0 0 0 0 0 0 0 0x00000000 0 0 0) (hex 4 0x11121314) [])
  pub kind_1_byte_1_in_reply_1 : bad_rows_0 (answer (Q + X) 0x001122 ++ hex 8 0x0101000000000000 ++ answer (Q + X) 0x005566)
      ≡ ran 22 0 0 (state_of (ended 0 0 0 0 0 0 0 0 0x00000000 0 0 0) (hex 4 0x11121314) [])
  pub kind_1_byte_1_in_reply_2 : bad_rows_0 (answer (Q + X) 0x001122 ++ answer (Q + X) 0x003344 ++ hex 8 0x0101000000000000)
      ≡ ran 22 0 0 (state_of (ended 0 0 0 0 0 0 0 0 0x00000000 0 0 0) (hex 4 0x11121314) [])
  pub kind_3_byte_4_in_reply_0 : bad_rows_0 (hex 8 0x0300000001000000 ++ answer (Q + X) 0x003344 ++ answer (Q + X) 0x005566)
      ≡ ran 22 0 0 (state_of (ended 0 0 0 0 0 0 0 0 0x00000000 0 0 0) (hex 4 0x11121314) [])
  pub kind_3_byte_4_in_reply_1 : bad_rows_0 (answer (Q + X) 0x001122 ++ hex 8 0x0300000001000000 ++ answer (Q + X) 0x005566)
      ≡ ran 22 0 0 (state_of (ended 0 0 0 0 0 0 0 0 0x00000000 0 0 0) (hex 4 0x11121314) [])
  pub kind_3_byte_4_in_reply_2 : bad_rows_0 (answer (Q + X) 0x001122 ++ answer (Q + X) 0x003344 ++ hex 8 0x0300000001000000)
      ≡ ran 22 0 0 (state_of (ended 0 0 0 0 0 0 0 0 0x00000000 0 0 0) (hex 4 0x11121314) [])

-- words and literals in the buffers: pads, marks and notes; Q and X above a stored 24-bit word
abbrev pub packing_0 : List ℕ → RunThrough
packing_0 =
    run_of (first_field 3 ++ camac_4 0x0200010B ++ camac_4 0x0210010B ++ camac_4 0x0208010B ++ camac_4 0x02000109 ++ camac_4 0x02100109 ++ halt)
    (hex 8 0x1112131415161718) (hex 8 0x8182838485868788)

pub record Packing : Type 0 where
  pub read_16_24 :
      run_of (first_field 3 ++ camac_4 0x0200010B ++ camac_4 0x02000109 ++ halt)
      (hex 8 0x1112131415161718) []
      (answer (Q + X) 0xF1E2D3 ++ answer (Q + X) 0xF1E2D3)
      ≡ ran 0 0 2 (state_of (ended 2 0 0 0 0 8 0 2 0x00000080 0 4 4) (hex 8 0xD3E20000D3E2F1C0) [])
  pub read_24_16 :
      run_of (first_field 3 ++ camac_4 0x02000109 ++ camac_4 0x0200010B ++ halt)
      (hex 6 0x111213141516) []
      (answer (Q + X) 0xF1E2D3 ++ answer (Q + X) 0xF1E2D3)
      ≡ ran 0 0 2 (state_of (ended 2 0 0 0 0 6 0 2 0x00000080 0 4 2) (hex 6 0xD3E2F1C0D3E2) [])
  pub read_16_16_24 :
      run_of (first_field 3 ++ camac_4 0x0200010B ++ camac_4 0x0200010B ++ camac_4 0x02000109 ++ halt)
      (hex 8 0x1112131415161718) []
      (answer (Q + X) 0xF1E2D3 ++ answer (Q + X) 0xF1E2D3 ++ answer (Q + X) 0xF1E2D3)
      ≡ ran 0 0 3 (state_of (ended 3 0 0 0 0 8 0 3 0x00000080 0 4 4) (hex 8 0xD3E2D3E2D3E2F1C0) [])
  pub read_16_24_16_24 :
      run_of (first_field 3 ++ camac_4 0x0200010B ++ camac_4 0x02000109 ++ camac_4 0x0200010B ++ camac_4 0x02000109 ++ halt)
      (hex 16 0x1112131415161718191A1B1C1D1E1F20) []
      (answer (Q + X) 0xF1E2D3 ++ answer (Q + X) 0xF1E2D3 ++ answer (Q + X) 0xF1E2D3 ++ answer (Q + X) 0xF1E2D3)
      ≡ ran 0 0 4 (state_of (ended 4 0 0 0 0 16 0 4 0x00000080 0 12 4) (hex 16 0xD3E20000D3E2F1C0D3E20000D3E2F1C0) [])
  pub read_24_24_16 :
      run_of (first_field 3 ++ camac_4 0x02000109 ++ camac_4 0x02000109 ++ camac_4 0x0200010B ++ halt)
      (hex 10 0x1112131415161718191A) []
      (answer (Q + X) 0xF1E2D3 ++ answer (Q + X) 0xF1E2D3 ++ answer (Q + X) 0xF1E2D3)
      ≡ ran 0 0 3 (state_of (ended 3 0 0 0 0 10 0 3 0x00000080 0 8 2) (hex 10 0xD3E2F1C0D3E2F1C0D3E2) [])
  pub read_16_literal_16_literal :
      run_of (first_field 3 ++ camac_4 0x0200010B ++ literal 0xA1B2C3D4 ++ camac_4 0x0200010B ++ literal 0xA1B2C3D4 ++ halt)
      (hex 16 0x1112131415161718191A1B1C1D1E1F20) []
      (answer (Q + X) 0xF1E2D3 ++ answer (Q + X) 0xF1E2D3)
      ≡ ran 0 0 2 (state_of (ended 4 0 0 0 0 16 0 2 0x00000080 0 8 2) (hex 16 0xD3E20000D4C3B2A1D3E20000D4C3B2A1) [])
  pub write_16_24 :
      run_of (first_field 3 ++ camac_4 0x0210010B ++ camac_4 0x02100109 ++ halt)
      [] (hex 8 0x8182838485868788)
      (answer (Q + X) 0xF1E2D3 ++ answer (Q + X) 0xF1E2D3)
      ≡ ran 0 0 2 (state_of (ended 2 0 0 0 0 0 8 2 0x00000080 1 4 4) [] (hex 8 0x8182838485868788))
  pub write_24_16 :
      run_of (first_field 3 ++ camac_4 0x02100109 ++ camac_4 0x0210010B ++ halt)
      [] (hex 6 0x818283848586)
      (answer (Q + X) 0xF1E2D3 ++ answer (Q + X) 0xF1E2D3)
      ≡ ran 0 0 2 (state_of (ended 2 0 0 0 0 0 6 2 0x00000080 1 4 2) [] (hex 6 0x818283848586))
  pub write_16_16_24 :
      run_of (first_field 3 ++ camac_4 0x0210010B ++ camac_4 0x0210010B ++ camac_4 0x02100109 ++ halt)
      [] (hex 8 0x8182838485868788)
      (answer (Q + X) 0xF1E2D3 ++ answer (Q + X) 0xF1E2D3 ++ answer (Q + X) 0xF1E2D3)
      ≡ ran 0 0 3 (state_of (ended 3 0 0 0 0 0 8 3 0x00000080 1 4 4) [] (hex 8 0x8182838485868788))
  pub write_16_24_16_24 :
      run_of (first_field 3 ++ camac_4 0x0210010B ++ camac_4 0x02100109 ++ camac_4 0x0210010B ++ camac_4 0x02100109 ++ halt)
      [] (hex 16 0x8182838485868788898A8B8C8D8E8F90)
      (answer (Q + X) 0xF1E2D3 ++ answer (Q + X) 0xF1E2D3 ++ answer (Q + X) 0xF1E2D3 ++ answer (Q + X) 0xF1E2D3)
      ≡ ran 0 0 4 (state_of (ended 4 0 0 0 0 0 16 4 0x00000080 1 12 4) [] (hex 16 0x8182838485868788898A8B8C8D8E8F90))
  pub write_24_24_16 :
      run_of (first_field 3 ++ camac_4 0x02100109 ++ camac_4 0x02100109 ++ camac_4 0x0210010B ++ halt)
      [] (hex 10 0x8182838485868788898A)
      (answer (Q + X) 0xF1E2D3 ++ answer (Q + X) 0xF1E2D3 ++ answer (Q + X) 0xF1E2D3)
      ≡ ran 0 0 3 (state_of (ended 3 0 0 0 0 0 10 3 0x00000080 1 8 2) [] (hex 10 0x8182838485868788898A))
  pub write_16_literal_16_literal :
      run_of (first_field 3 ++ camac_4 0x0210010B ++ literal 0xA1B2C3D4 ++ camac_4 0x0210010B ++ literal 0xA1B2C3D4 ++ halt)
      (hex 8 0x1112131415161718) (hex 4 0x81828384)
      (answer (Q + X) 0xF1E2D3 ++ answer (Q + X) 0xF1E2D3)
      ≡ ran 0 0 2 (state_of (ended 4 0 0 0 0 8 4 2 0x00000080 1 2 2) (hex 8 0xD4C3B2A1D4C3B2A1) (hex 4 0x81828384))
  pub both_buffers_replies_0 : packing_0 []
      ≡ ran 0 0 0 (state_of (waiting 0 1 0 1 0 0 0 0 0x00000000 0 0 0) (hex 8 0x1112131415161718) (hex 8 0x8182838485868788))
  pub both_buffers_replies_1 : packing_0 (answer (X + DERR) 0xF1E2D3)
      ≡ ran 0 0 1 (state_of (waiting 1 1 0 1 0 2 0 1 0x04010000 0 0 2) (hex 8 0xD3E2131415161718) (hex 8 0x8182838485868788))
  pub both_buffers_replies_2 : packing_0 (answer (X + DERR) 0xF1E2D3 ++ answer (X + DERR) 0xF1E2D3)
      ≡ ran 0 0 2 (state_of (waiting 2 1 0 1 0 2 2 2 0x04010000 1 0 2) (hex 8 0xD3E2131415161718) (hex 8 0x8182838485868788))
  pub both_buffers_replies_3 : packing_0 (answer (X + DERR) 0xF1E2D3 ++ answer (X + DERR) 0xF1E2D3 ++ answer (X + DERR) 0xF1E2D3)
      ≡ ran 0 0 3 (state_of (waiting 3 1 0 1 0 2 2 3 0x04010000 1 0 2) (hex 8 0xD3E2131415161718) (hex 8 0x8182838485868788))
  pub both_buffers_replies_4 :
      packing_0 (answer (X + DERR) 0xF1E2D3 ++ answer (X + DERR) 0xF1E2D3 ++ answer (X + DERR) 0xF1E2D3 ++ answer (X + DERR) 0xF1E2D3)
      ≡ ran 0 0 4 (state_of (waiting 4 1 0 1 0 8 2 4 0x04010000 0 4 4) (hex 8 0xD3E20000D3E2F140) (hex 8 0x8182838485868788))
  pub both_buffers_replies_5 :
      packing_0
      (answer (X + DERR) 0xF1E2D3 ++ answer (X + DERR) 0xF1E2D3 ++ answer (X + DERR) 0xF1E2D3 ++ answer (X + DERR) 0xF1E2D3 ++ answer (X + DERR) 0xF1E2D3)
      ≡ ran 0 0 5 (state_of (ended 5 0 0 0 0 8 8 5 0x04010080 1 4 4) (hex 8 0xD3E20000D3E2F140) (hex 8 0x8182838485868788))
  pub q_and_x_in_the_longword :
      run_of (first_field 3 ++ camac_8 0x02000129 0xFFFFFFF8 ++ literal 0xA1B2C3D4 ++ halt)
      (hex 20 0x1112131415161718191A1B1C1D1E1F2021222324) []
      (answer (Q + X) 0x030201 ++ answer Q 0x030201 ++ answer X 0x030201 ++ answer 0 0x030201)
      ≡ ran 0 0 4 (state_of (ended 2 0 0 0 0 20 0 4 0x00030080 0 12 4) (hex 20 0x010203C0010203800102034001020300D4C3B2A1) [])

-- Q = 0 closes a stop block at its first, second or last word; what follows goes on at the marks reached
pub record ShortBlocks : Type 0 where
  pub block_stop_read_16_of_0_before_read_16 :
      run_of (first_field 3 ++ camac_8 0x0A620922 0xFFFFFFFD ++ camac_4 0x02000102 ++ halt)
      (hex 8 0x1112131415161718) []
      (answer X 0x007788 ++ answer (Q + X) 0x003344)
      ≡ ran 0 0 2 (state_of (ended 2 0 0 0 0 2 0 2 0x00010080 0 0 2) (hex 8 0x4433131415161718) [])
  pub block_stop_read_16_of_1_before_read_24 :
      run_of (first_field 3 ++ camac_8 0x0A620922 0xFFFFFFFD ++ camac_4 0x02000100 ++ halt)
      (hex 12 0x1112131415161718191A1B1C) []
      (answer (Q + X) 0x003344 ++ answer X 0x007788 ++ answer (Q + X) 0x003344)
      ≡ ran 0 0 3 (state_of (ended 2 0 0 0 0 8 0 3 0x00010080 0 4 4) (hex 12 0x44330000443300C0191A1B1C) [])
  pub block_stop_read_16_of_2_before_write_16 :
      run_of (first_field 3 ++ camac_8 0x0A620922 0xFFFFFFFD ++ camac_4 0x02100102 ++ halt)
      (hex 6 0x111213141516) (hex 2 0x8182)
      (answer (Q + X) 0x003344 ++ answer (Q + X) 0x003344 ++ answer X 0x007788 ++ answer (Q + X) 0x003344)
      ≡ ran 0 0 4 (state_of (ended 2 0 0 0 0 4 2 4 0x00010080 1 0 2) (hex 6 0x443344331516) (hex 2 0x8182))
  pub block_stop_read_16_of_0_before_write_24 :
      run_of (first_field 3 ++ camac_8 0x0A620922 0xFFFFFFFD ++ camac_4 0x02100100 ++ halt)
      (hex 6 0x111213141516) (hex 4 0x81828384)
      (answer X 0x007788 ++ answer (Q + X) 0x003344)
      ≡ ran 0 0 2 (state_of (ended 2 0 0 0 0 0 4 2 0x00010080 1 0 4) (hex 6 0x111213141516) (hex 4 0x81828384))
  pub block_stop_read_16_of_1_before_control :
      run_of (first_field 3 ++ camac_8 0x0A620922 0xFFFFFFFD ++ camac_4 0x02080102 ++ halt)
      (hex 6 0x111213141516) []
      (answer (Q + X) 0x003344 ++ answer X 0x007788 ++ answer (Q + X) 0x003344)
      ≡ ran 0 0 3 (state_of (ended 2 0 0 0 0 2 0 3 0x00010080 0 0 2) (hex 6 0x443313141516) [])
  pub block_stop_read_16_of_2_before_inline :
      run_of (first_field 3 ++ camac_8 0x0A620922 0xFFFFFFFD ++ camac_8 0x02100162 0x00001234 ++ halt)
      (hex 6 0x111213141516) []
      (answer (Q + X) 0x003344 ++ answer (Q + X) 0x003344 ++ answer X 0x007788 ++ answer (Q + X) 0x003344)
      ≡ ran 0 0 4 (state_of (ended 2 0 0 0 0 4 0 4 0x00010080 0 2 2) (hex 6 0x443344331516) [])
  pub block_stop_read_16_of_0_before_literal :
      run_of (first_field 3 ++ camac_8 0x0A620922 0xFFFFFFFD ++ literal 0xA1B2C3D4 ++ halt)
      (hex 12 0x1112131415161718191A1B1C) []
      (answer X 0x007788 ++ answer (Q + X) 0x003344)
      ≡ ran 0 0 1 (state_of (ended 2 0 0 0 0 4 0 1 0x00010080 0 0 0) (hex 12 0xD4C3B2A115161718191A1B1C) [])
  pub block_stop_read_16_of_1_before_jump :
      run_of (first_field 3 ++ camac_8 0x0A620922 0xFFFFFFFD ++ jump 2 ++ halt)
      (hex 6 0x111213141516) []
      (answer (Q + X) 0x003344 ++ answer X 0x007788 ++ answer (Q + X) 0x003344)
      ≡ ran 0 0 2 (state_of (ended 2 0 0 0 0 2 0 2 0x00010080 0 0 2) (hex 6 0x443313141516) [])
  pub block_stop_read_16_of_2_before_halt :
      run_of (first_field 3 ++ camac_8 0x0A620922 0xFFFFFFFD ++ halt ++ halt)
      (hex 6 0x111213141516) []
      (answer (Q + X) 0x003344 ++ answer (Q + X) 0x003344 ++ answer X 0x007788 ++ answer (Q + X) 0x003344)
      ≡ ran 0 0 3 (state_of (ended 1 0 0 0 0 4 0 3 0x00010080 0 2 2) (hex 6 0x443344331516) [])
  pub enhanced_stop_read_16_of_0_before_read_16 :
      run_of (first_field 3 ++ camac_8 0x0A620942 0xFFFFFFFD ++ camac_4 0x02000102 ++ halt)
      (hex 8 0x1112131415161718) []
      (answer X 0x007788 ++ answer (Q + X) 0x003344)
      ≡ ran 0 0 2 (state_of (ended 2 0 0 0 0 2 0 2 0x00010080 0 0 2) (hex 8 0x4433131415161718) [])
  pub enhanced_stop_read_16_of_1_before_read_24 :
      run_of (first_field 3 ++ camac_8 0x0A620942 0xFFFFFFFD ++ camac_4 0x02000100 ++ halt)
      (hex 12 0x1112131415161718191A1B1C) []
      (answer (Q + X) 0x003344 ++ answer X 0x007788 ++ answer (Q + X) 0x003344)
      ≡ ran 0 0 3 (state_of (ended 2 0 0 0 0 8 0 3 0x00010080 0 4 4) (hex 12 0x44330000443300C0191A1B1C) [])
  pub enhanced_stop_read_16_of_2_before_write_16 :
      run_of (first_field 3 ++ camac_8 0x0A620942 0xFFFFFFFD ++ camac_4 0x02100102 ++ halt)
      (hex 6 0x111213141516) (hex 2 0x8182)
      (answer (Q + X) 0x003344 ++ answer (Q + X) 0x003344 ++ answer X 0x007788 ++ answer (Q + X) 0x003344)
      ≡ ran 0 0 4 (state_of (ended 2 0 0 0 0 4 2 4 0x00010080 1 0 2) (hex 6 0x443344331516) (hex 2 0x8182))
  pub enhanced_stop_read_16_of_0_before_write_24 :
      run_of (first_field 3 ++ camac_8 0x0A620942 0xFFFFFFFD ++ camac_4 0x02100100 ++ halt)
      (hex 6 0x111213141516) (hex 4 0x81828384)
      (answer X 0x007788 ++ answer (Q + X) 0x003344)
      ≡ ran 0 0 2 (state_of (ended 2 0 0 0 0 0 4 2 0x00010080 1 0 4) (hex 6 0x111213141516) (hex 4 0x81828384))
  pub enhanced_stop_read_16_of_1_before_control :
      run_of (first_field 3 ++ camac_8 0x0A620942 0xFFFFFFFD ++ camac_4 0x02080102 ++ halt)
      (hex 6 0x111213141516) []
      (answer (Q + X) 0x003344 ++ answer X 0x007788 ++ answer (Q + X) 0x003344)
      ≡ ran 0 0 3 (state_of (ended 2 0 0 0 0 2 0 3 0x00010080 0 0 2) (hex 6 0x443313141516) [])
  pub enhanced_stop_read_16_of_2_before_inline :
      run_of (first_field 3 ++ camac_8 0x0A620942 0xFFFFFFFD ++ camac_8 0x02100162 0x00001234 ++ halt)
      (hex 6 0x111213141516) []
      (answer (Q + X) 0x003344 ++ answer (Q + X) 0x003344 ++ answer X 0x007788 ++ answer (Q + X) 0x003344)
      ≡ ran 0 0 4 (state_of (ended 2 0 0 0 0 4 0 4 0x00010080 0 2 2) (hex 6 0x443344331516) [])
  pub enhanced_stop_read_16_of_0_before_literal :
      run_of (first_field 3 ++ camac_8 0x0A620942 0xFFFFFFFD ++ literal 0xA1B2C3D4 ++ halt)
      (hex 12 0x1112131415161718191A1B1C) []
      (answer X 0x007788 ++ answer (Q + X) 0x003344)
      ≡ ran 0 0 1 (state_of (ended 2 0 0 0 0 4 0 1 0x00010080 0 0 0) (hex 12 0xD4C3B2A115161718191A1B1C) [])
  pub enhanced_stop_read_16_of_1_before_jump :
      run_of (first_field 3 ++ camac_8 0x0A620942 0xFFFFFFFD ++ jump 2 ++ halt)
      (hex 6 0x111213141516) []
      (answer (Q + X) 0x003344 ++ answer X 0x007788 ++ answer (Q + X) 0x003344)
      ≡ ran 0 0 2 (state_of (ended 2 0 0 0 0 2 0 2 0x00010080 0 0 2) (hex 6 0x443313141516) [])
  pub enhanced_stop_read_16_of_2_before_halt :
      run_of (first_field 3 ++ camac_8 0x0A620942 0xFFFFFFFD ++ halt ++ halt)
      (hex 6 0x111213141516) []
      (answer (Q + X) 0x003344 ++ answer (Q + X) 0x003344 ++ answer X 0x007788 ++ answer (Q + X) 0x003344)
      ≡ ran 0 0 3 (state_of (ended 1 0 0 0 0 4 0 3 0x00010080 0 2 2) (hex 6 0x443344331516) [])
  pub block_stop_write_16_of_0_before_read_16 :
      run_of (first_field 3 ++ camac_8 0x0A710922 0xFFFFFFFD ++ camac_4 0x02000102 ++ halt)
      (hex 2 0x1112) (hex 6 0x818283848586)
      (answer X 0x007788 ++ answer (Q + X) 0x003344)
      ≡ ran 0 0 2 (state_of (ended 2 0 0 0 0 2 0 2 0x00010080 0 0 2) (hex 2 0x4433) (hex 6 0x818283848586))
  pub block_stop_write_16_of_1_before_read_24 :
      run_of (first_field 3 ++ camac_8 0x0A710922 0xFFFFFFFD ++ camac_4 0x02000100 ++ halt)
      (hex 4 0x11121314) (hex 6 0x818283848586)
      (answer (Q + X) 0x003344 ++ answer X 0x007788 ++ answer (Q + X) 0x003344)
      ≡ ran 0 0 3 (state_of (ended 2 0 0 0 0 4 2 3 0x00010080 0 0 4) (hex 4 0x443300C0) (hex 6 0x818283848586))
  pub block_stop_write_16_of_2_before_write_16 :
      run_of (first_field 3 ++ camac_8 0x0A710922 0xFFFFFFFD ++ camac_4 0x02100102 ++ halt)
      [] (hex 8 0x8182838485868788)
      (answer (Q + X) 0x003344 ++ answer (Q + X) 0x003344 ++ answer X 0x007788 ++ answer (Q + X) 0x003344)
      ≡ ran 0 0 4 (state_of (ended 2 0 0 0 0 0 6 4 0x00010080 1 4 2) [] (hex 8 0x8182838485868788))
  pub block_stop_write_16_of_0_before_write_24 :
      run_of (first_field 3 ++ camac_8 0x0A710922 0xFFFFFFFD ++ camac_4 0x02100100 ++ halt)
      [] (hex 12 0x8182838485868788898A8B8C)
      (answer X 0x007788 ++ answer (Q + X) 0x003344)
      ≡ ran 0 0 2 (state_of (ended 2 0 0 0 0 0 4 2 0x00010080 1 0 4) [] (hex 12 0x8182838485868788898A8B8C))
  pub block_stop_write_16_of_1_before_control :
      run_of (first_field 3 ++ camac_8 0x0A710922 0xFFFFFFFD ++ camac_4 0x02080102 ++ halt)
      [] (hex 6 0x818283848586)
      (answer (Q + X) 0x003344 ++ answer X 0x007788 ++ answer (Q + X) 0x003344)
      ≡ ran 0 0 3 (state_of (ended 2 0 0 0 0 0 2 3 0x00010080 1 0 2) [] (hex 6 0x818283848586))
  pub block_stop_write_16_of_2_before_inline :
      run_of (first_field 3 ++ camac_8 0x0A710922 0xFFFFFFFD ++ camac_8 0x02100162 0x00001234 ++ halt)
      [] (hex 6 0x818283848586)
      (answer (Q + X) 0x003344 ++ answer (Q + X) 0x003344 ++ answer X 0x007788 ++ answer (Q + X) 0x003344)
      ≡ ran 0 0 4 (state_of (ended 2 0 0 0 0 0 4 4 0x00010080 1 2 2) [] (hex 6 0x818283848586))
  pub block_stop_write_16_of_0_before_literal :
      run_of (first_field 3 ++ camac_8 0x0A710922 0xFFFFFFFD ++ literal 0xA1B2C3D4 ++ halt)
      (hex 4 0x11121314) (hex 6 0x818283848586)
      (answer X 0x007788 ++ answer (Q + X) 0x003344)
      ≡ ran 0 0 1 (state_of (ended 2 0 0 0 0 4 0 1 0x00010080 0 0 0) (hex 4 0xD4C3B2A1) (hex 6 0x818283848586))
  pub block_stop_write_16_of_1_before_jump :
      run_of (first_field 3 ++ camac_8 0x0A710922 0xFFFFFFFD ++ jump 2 ++ halt)
      [] (hex 6 0x818283848586)
      (answer (Q + X) 0x003344 ++ answer X 0x007788 ++ answer (Q + X) 0x003344)
      ≡ ran 0 0 2 (state_of (ended 2 0 0 0 0 0 2 2 0x00010080 1 0 2) [] (hex 6 0x818283848586))
  pub block_stop_write_16_of_2_before_halt :
      run_of (first_field 3 ++ camac_8 0x0A710922 0xFFFFFFFD ++ halt ++ halt)
      [] (hex 6 0x818283848586)
      (answer (Q + X) 0x003344 ++ answer (Q + X) 0x003344 ++ answer X 0x007788 ++ answer (Q + X) 0x003344)
      ≡ ran 0 0 3 (state_of (ended 1 0 0 0 0 0 4 3 0x00010080 1 2 2) [] (hex 6 0x818283848586))
  pub enhanced_stop_write_16_of_0_before_read_16 :
      run_of (first_field 3 ++ camac_8 0x0A710942 0xFFFFFFFD ++ camac_4 0x02000102 ++ halt)
      (hex 2 0x1112) (hex 6 0x818283848586)
      (answer X 0x007788 ++ answer (Q + X) 0x003344)
      ≡ ran 0 0 2 (state_of (ended 2 0 0 0 0 2 0 2 0x00010080 0 0 2) (hex 2 0x4433) (hex 6 0x818283848586))
  pub enhanced_stop_write_16_of_1_before_read_24 :
      run_of (first_field 3 ++ camac_8 0x0A710942 0xFFFFFFFD ++ camac_4 0x02000100 ++ halt)
      (hex 4 0x11121314) (hex 6 0x818283848586)
      (answer (Q + X) 0x003344 ++ answer X 0x007788 ++ answer (Q + X) 0x003344)
      ≡ ran 0 0 3 (state_of (ended 2 0 0 0 0 4 2 3 0x00010080 0 0 4) (hex 4 0x443300C0) (hex 6 0x818283848586))
  pub enhanced_stop_write_16_of_2_before_write_16 :
      run_of (first_field 3 ++ camac_8 0x0A710942 0xFFFFFFFD ++ camac_4 0x02100102 ++ halt)
      [] (hex 8 0x8182838485868788)
      (answer (Q + X) 0x003344 ++ answer (Q + X) 0x003344 ++ answer X 0x007788 ++ answer (Q + X) 0x003344)
      ≡ ran 0 0 4 (state_of (ended 2 0 0 0 0 0 6 4 0x00010080 1 4 2) [] (hex 8 0x8182838485868788))
  pub enhanced_stop_write_16_of_0_before_write_24 :
      run_of (first_field 3 ++ camac_8 0x0A710942 0xFFFFFFFD ++ camac_4 0x02100100 ++ halt)
      [] (hex 12 0x8182838485868788898A8B8C)
      (answer X 0x007788 ++ answer (Q + X) 0x003344)
      ≡ ran 0 0 2 (state_of (ended 2 0 0 0 0 0 4 2 0x00010080 1 0 4) [] (hex 12 0x8182838485868788898A8B8C))
  pub enhanced_stop_write_16_of_1_before_control :
      run_of (first_field 3 ++ camac_8 0x0A710942 0xFFFFFFFD ++ camac_4 0x02080102 ++ halt)
      [] (hex 6 0x818283848586)
      (answer (Q + X) 0x003344 ++ answer X 0x007788 ++ answer (Q + X) 0x003344)
      ≡ ran 0 0 3 (state_of (ended 2 0 0 0 0 0 2 3 0x00010080 1 0 2) [] (hex 6 0x818283848586))
  pub enhanced_stop_write_16_of_2_before_inline :
      run_of (first_field 3 ++ camac_8 0x0A710942 0xFFFFFFFD ++ camac_8 0x02100162 0x00001234 ++ halt)
      [] (hex 6 0x818283848586)
      (answer (Q + X) 0x003344 ++ answer (Q + X) 0x003344 ++ answer X 0x007788 ++ answer (Q + X) 0x003344)
      ≡ ran 0 0 4 (state_of (ended 2 0 0 0 0 0 4 4 0x00010080 1 2 2) [] (hex 6 0x818283848586))
  pub enhanced_stop_write_16_of_0_before_literal :
      run_of (first_field 3 ++ camac_8 0x0A710942 0xFFFFFFFD ++ literal 0xA1B2C3D4 ++ halt)
      (hex 4 0x11121314) (hex 6 0x818283848586)
      (answer X 0x007788 ++ answer (Q + X) 0x003344)
      ≡ ran 0 0 1 (state_of (ended 2 0 0 0 0 4 0 1 0x00010080 0 0 0) (hex 4 0xD4C3B2A1) (hex 6 0x818283848586))
  pub enhanced_stop_write_16_of_1_before_jump :
      run_of (first_field 3 ++ camac_8 0x0A710942 0xFFFFFFFD ++ jump 2 ++ halt)
      [] (hex 6 0x818283848586)
      (answer (Q + X) 0x003344 ++ answer X 0x007788 ++ answer (Q + X) 0x003344)
      ≡ ran 0 0 2 (state_of (ended 2 0 0 0 0 0 2 2 0x00010080 1 0 2) [] (hex 6 0x818283848586))
  pub enhanced_stop_write_16_of_2_before_halt :
      run_of (first_field 3 ++ camac_8 0x0A710942 0xFFFFFFFD ++ halt ++ halt)
      [] (hex 6 0x818283848586)
      (answer (Q + X) 0x003344 ++ answer (Q + X) 0x003344 ++ answer X 0x007788 ++ answer (Q + X) 0x003344)
      ≡ ran 0 0 3 (state_of (ended 1 0 0 0 0 0 4 3 0x00010080 1 2 2) [] (hex 6 0x818283848586))

-- runs of W operations that end with code 0, with the marks B and O and with less
abbrev pub worst_counts_0 : List ℕ → RunThrough
worst_counts_0 = run_of (first_field 2 ++ camac_8 0x2FA00122 0xFFFFFFFE ++ halt) (hex 4 0x11121314) []

pub record WorstCounts : Type 0 where
  pub stop : worst_counts_0 (answer (Q + X) 0x003344 ++ answer (Q + X) 0x003344)
      ≡ ran 0 0 2 (state_of (ended 1 0 0 0 0 4 0 2 0x00000080 0 2 2) (hex 4 0x44334433) [])
  pub stop_short : worst_counts_0 (answer (Q + X) 0x003344 ++ answer X 0x000000)
      ≡ ran 0 0 2 (state_of (ended 1 0 0 0 0 2 0 2 0x00010080 0 0 2) (hex 4 0x44331314) [])
  pub ignore : run_of (first_field 2 ++ camac_8 0x2FA0012A 0xFFFFFFFE ++ halt) (hex 4 0x11121314) [] (answer X 0x000000 ++ answer X 0x000000)
      ≡ ran 0 0 2 (state_of (ended 1 0 0 0 0 4 0 2 0x00010080 0 2 2) (hex 4 0x00000000) [])
  pub repeat :
      run_of (first_field 2 ++ camac_8 0x2FA00132 0xFFFFFFFE ++ halt)
      (hex 4 0x11121314) []
      (answer X 0x000000 ++ answer (Q + X) 0x003344 ++ answer X 0x000000 ++ answer (Q + X) 0x003344)
      ≡ ran 0 0 4 (state_of (ended 1 0 0 0 0 4 0 4 0x00010080 0 2 2) (hex 4 0x44334433) [])
  pub scan_of_one :
      run_of (first_field 2 ++ camac_8 0x2BE0013A 0xFFFFFFFF ++ halt)
      (hex 2 0x1112) []
      (answer X 0x000000 ++ answer X 0x000000 ++ answer (Q + X) 0x003344)
      ≡ ran 0 0 3 (state_of (ended 1 0 0 0 0 2 0 3 0x00010080 0 0 2) (hex 2 0x4433) [])
  pub scan_of_two :
      run_of (first_field 2 ++ camac_8 0x2DE0013A 0xFFFFFFFE ++ halt)
      (hex 4 0x11121314) []
      (answer X 0x000000 ++ answer (Q + X) 0x003344 ++ answer (Q + X) 0x003344)
      ≡ ran 0 0 3 (state_of (ended 1 0 0 0 0 4 0 3 0x00010080 0 2 2) (hex 4 0x44334433) [])
  pub scan_of_three :
      run_of (first_field 2 ++ camac_8 0x2DC0013A 0xFFFFFFFD ++ halt)
      (hex 6 0x111213141516) []
      (answer (Q + X) 0x003344 ++ answer X 0x000000 ++ answer (Q + X) 0x003344 ++ answer (Q + X) 0x003344)
      ≡ ran 0 0 4 (state_of (ended 1 0 0 0 0 6 0 4 0x00010080 0 4 2) (hex 6 0x443344334433) [])
  pub scan_of_all_positions :
      run_of (first_field 2 ++ camac_8 0x2FA0013A 0xFFFFFFFD ++ halt)
      (hex 6 0x111213141516) []
      (answer (Q + X) 0x003344 ++ answer (Q + X) 0x003344 ++ answer (Q + X) 0x003344)
      ≡ ran 0 0 3 (state_of (ended 1 0 0 0 0 6 0 3 0x00000080 0 4 2) (hex 6 0x443344334433) [])

-- a refused run: no reply taken, a record marked ended and all else zero, buffers kept
pub record RefusedRuns : Type 0 where
  pub refusal_1 : run_of (first_field 3 ++ hex 2 0x2F00) (hex 3 0x111213) (hex 1 0x81) (hex 3 0x040000)
      ≡ ran 1 7 0 (state_of (ended 0 0 0 0 0 0 0 0 0x00000000 0 0 0) (hex 3 0x111213) (hex 1 0x81))
  pub refusal_2 : run_of (first_field 0) (hex 3 0x111213) (hex 1 0x81) (hex 3 0x040000)
      ≡ ran 2 0 0 (state_of (ended 0 0 0 0 0 0 0 0 0x00000000 0 0 0) (hex 3 0x111213) (hex 1 0x81))
  pub refusal_3 : run_of (first_field 3 ++ halt ++ hex 3 0x550000) (hex 3 0x111213) (hex 1 0x81) (hex 3 0x040000)
      ≡ ran 3 10 0 (state_of (ended 0 0 0 0 0 0 0 0 0x00000000 0 0 0) (hex 3 0x111213) (hex 1 0x81))
  pub refusal_4 : run_of (first_field 3 ++ halt ++ hex 4 0x2F010000) (hex 3 0x111213) (hex 1 0x81) (hex 3 0x040000)
      ≡ ran 4 10 0 (state_of (ended 0 0 0 0 0 0 0 0 0x00000000 0 0 0) (hex 3 0x111213) (hex 1 0x81))
  pub refusal_6 : run_of (first_field 3 ++ camac_4 0x02000106 ++ halt) (hex 3 0x111213) (hex 1 0x81) (hex 3 0x040000)
      ≡ ran 6 7 0 (state_of (ended 0 0 0 0 0 0 0 0 0x00000000 0 0 0) (hex 3 0x111213) (hex 1 0x81))
  pub refusal_7 : run_of (first_field 3 ++ camac_4 0x02000002 ++ halt) (hex 3 0x111213) (hex 1 0x81) (hex 3 0x040000)
      ≡ ran 7 7 0 (state_of (ended 0 0 0 0 0 0 0 0 0x00000000 0 0 0) (hex 3 0x111213) (hex 1 0x81))
  pub refusal_8 : run_of (first_field 3 ++ camac_4 0x02000122 ++ halt) (hex 3 0x111213) (hex 1 0x81) (hex 3 0x040000)
      ≡ ran 8 7 0 (state_of (ended 0 0 0 0 0 0 0 0 0x00000000 0 0 0) (hex 3 0x111213) (hex 1 0x81))
  pub refusal_9 : run_of (first_field 3 ++ camac_8 0x02000122 0x00000000 ++ halt) (hex 3 0x111213) (hex 1 0x81) (hex 3 0x040000)
      ≡ ran 9 7 0 (state_of (ended 0 0 0 0 0 0 0 0 0x00000000 0 0 0) (hex 3 0x111213) (hex 1 0x81))
  pub refusal_10 : run_of (first_field 3 ++ halt ++ jump 2) (hex 3 0x111213) (hex 1 0x81) (hex 3 0x040000)
      ≡ ran 10 10 0 (state_of (ended 0 0 0 0 0 0 0 0 0x00000000 0 0 0) (hex 3 0x111213) (hex 1 0x81))
  pub refusal_11 : run_of (first_field 3 ++ jump 0) (hex 3 0x111213) (hex 1 0x81) (hex 3 0x040000)
      ≡ ran 11 0 0 (state_of (ended 0 0 0 0 0 0 0 0 0x00000000 0 0 0) (hex 3 0x111213) (hex 1 0x81))
  pub refusal_20 : run_of (first_field 3 ++ literal 0x04030201 ++ halt) (hex 3 0x111213) (hex 1 0x81) (hex 3 0x040000)
      ≡ ran 20 0 0 (state_of (ended 0 0 0 0 0 0 0 0 0x00000000 0 0 0) (hex 3 0x111213) (hex 1 0x81))
  pub refusal_21 : run_of (first_field 3 ++ camac_4 0x02100102 ++ halt) (hex 3 0x111213) (hex 1 0x81) (hex 3 0x040000)
      ≡ ran 21 0 0 (state_of (ended 0 0 0 0 0 0 0 0 0x00000000 0 0 0) (hex 3 0x111213) (hex 1 0x81))
  pub refusal_22 : run_of (first_field 3 ++ halt) (hex 3 0x111213) (hex 1 0x81) (hex 3 0x040000)
      ≡ ran 22 0 0 (state_of (ended 0 0 0 0 0 0 0 0 0x00000000 0 0 0) (hex 3 0x111213) (hex 1 0x81))
