-- Step and the whole run: cases of the separate build's random generators.
-- Printed with the separate build's answers: cargo run --release --manifest-path rust/Cargo.toml -p reference --example equations write
use Rattle.std.specs.Prelude.{◌+◌, ◌≡◌, true, false, [], ◌++◌}
use Rattle.reply.specs.Effect.{state_of}
use Rattle.calls.specs.Calls.{step_of, run_of}
use Rattle.worst_count.specs.Cases.{first_field, jump, literal, halt}
use Rattle.equations.specs.Forms.{hex, camac_4, camac_8, Q, X, ERR, DERR, TPE, LPE, answer, kind, waiting, ended, operation, wants, wants_none, refused_with, ran}

-- small cases, then those that meet what nothing before them met
pub record RandomSteps : Type 0 where
  pub case_0 :
      step_of (first_field 3 ++ camac_8 0x3DA23E28 0xFFFFFFFE ++ halt)
      (state_of (waiting 0 1 0 30 13 0 0 0 0x04250000 0 0 0) (hex 4 0xB151F8EE) [])
      (answer (X + DERR) 0x2F5394)
      ≡ wants_none (state_of (ended 1 0 0 0 0 4 0 1 0x04250080 0 0 4) (hex 4 0x94532F40) [])
  pub case_3 :
      step_of (first_field 2 ++ literal 0x49921D50 ++ camac_8 0x2EB63E40 0xFFFFFFFC ++ jump 3 ++ literal 0x4231FEBD ++ camac_8 0x3CF20670 0x005913CF ++ halt)
      (state_of (waiting 1 2 0 23 5 0 0 0 0x00130000 0 18446744073709551614 0) (hex 8 0xDBBE2AC0CFE8E777) (hex 9 0x8238BB27CB11EC9CCE))
      (answer (Q + X + DERR) 0x169F6F)
      ≡ refused_with 23 0 (state_of (waiting 1 2 0 23 5 0 0 0 0x00130000 0 18446744073709551614 0) (hex 8 0xDBBE2AC0CFE8E777) (hex 9 0x8238BB27CB11EC9CCE))
  pub case_5 :
      step_of (first_field 4 ++ literal 0xB92DC162 ++ camac_4 0x2FA23E13 ++ camac_8 0x2BA03E42 0xFFFFFFFC ++ camac_8 0x2C063332 0xFFFFFFFE ++ jump 5 ++ camac_4 0x07E30B09 ++ halt ++ halt ++ halt)
      (state_of (waiting 5 1 0 3 15 18 0 15 0x04A70000 0 0 0) (hex 24 0x9E8059E84C5FDFF785C73F43CEADCF32809C3798006756CF) (hex 2 0x1EE0))
      (kind 2)
      ≡ wants_none (state_of (ended 5 0 0 0 0 18 0 16 0xC4AF0080 0 0 0) (hex 24 0x9E8059E84C5FDFF785C73F43CEADCF32809C3798006756CF) (hex 2 0x1EE0))
  pub case_6 :
      step_of (first_field 1 ++ camac_8 0x2A470120 0xFFFFFFFE ++ camac_8 0x05A43E39 0xFFFFFFFC ++ halt)
      (state_of (waiting 1 2 0 23 15 2 0 9 0x04000000 0 0 0) (hex 12 0x4F0547490592478B544E4F34) (hex 2 0x2153))
      (kind 2)
      ≡ wants_none (state_of (ended 1 0 0 0 0 2 0 10 0xC4080080 0 0 0) (hex 12 0x4F0547490592478B544E4F34) (hex 2 0x2153))
  pub case_8 :
      step_of (first_field 3 ++ camac_4 0x26920C1A ++ camac_8 0x3C4C0759 0xFFFFFFFC ++ jump 3 ++ literal 0x7A080C1E ++ halt)
      (state_of (waiting 0 1 1 23 0 0 0 4 0x00160000 0 0 0) (hex 4 0x5F4847D3) (hex 13 0xB3E4BEA1389807141565D78C2E))
      (answer (Q + X) 0xF1049E)
      ≡ refused_with 23 0 (state_of (waiting 0 1 1 23 0 0 0 4 0x00160000 0 0 0) (hex 4 0x5F4847D3) (hex 13 0xB3E4BEA1389807141565D78C2E))
  pub case_10 :
      step_of (first_field 3 ++ literal 0xE13ECCEE ++ halt ++ literal 0x4B92CD1F)
      (state_of (ended 0 0 0 0 0 0 0 0 0x00000000 2 0 0) (hex 4 0xE8F4B188) (hex 1 0x14))
      (hex 8 0x020000000000E900)
      ≡ refused_with 24 0 (state_of (ended 0 0 0 0 0 0 0 0 0x00000000 2 0 0) (hex 4 0xE8F4B188) (hex 1 0x14))
  pub case_11 :
      step_of (first_field 52606 ++ camac_8 0x2FA63E2A 0xFFFFFFFE ++ camac_8 0x2A623E29 0xFFFFFFFC ++ literal 0x943E73C6 ++ camac_8 0x3DF03E48 0xFFFFFFFC ++ halt)
      (state_of (waiting 1 2 16 21 3 4 0 0 0x00B00000 0 0 0) (hex 16 0xC0DF524A51EDF883D8C16C43F0478E30) (hex 8 0x136487C8749DAD56))
      (answer (Q + DERR + TPE + LPE) 0x1FC1A2)
      ≡ refused_with 23 0 (state_of (waiting 1 2 16 21 3 4 0 0 0x00B00000 0 0 0) (hex 16 0xC0DF524A51EDF883D8C16C43F0478E30) (hex 8 0x136487C8749DAD56))
  pub case_12 :
      step_of (first_field 65535 ++ literal 0x5D4A831C ++ halt)
      (state_of (ended 0 0 0 0 0 0 0 0 0x00000000 0 0 18446744073709551615) (hex 4 0x7B59B10D) (hex 1 0xBA))
      (answer (X + TPE + LPE) 0xFE698D)
      ≡ refused_with 24 0 (state_of (ended 0 0 0 0 0 0 0 0 0x00000000 0 0 18446744073709551615) (hex 4 0x7B59B10D) (hex 1 0xBA))
  pub case_13 :
      step_of (first_field 3 ++ camac_8 0x3C161C2B 0xFFFFFFFE ++ camac_8 0x3DE40142 0xFFFFFFFD ++ jump 5 ++ halt ++ jump 4 ++ camac_4 0x2C9F3E02 ++ halt ++ camac_8 0x3C120169 0x002B4A6C)
      (state_of (waiting 5 1 0 22 4 2 4 5 0x04030000 1 0 3) (hex 6 0x134B461CCA50) (hex 5 0x323672F0B3))
      (answer (Q + LPE) 0xFAAE36)
      ≡ refused_with 23 0 (state_of (waiting 5 1 0 22 4 2 4 5 0x04030000 1 0 3) (hex 6 0x134B461CCA50) (hex 5 0x323672F0B3))
  pub case_14 :
      step_of (first_field 1 ++ camac_8 0x3C0C1558 0xFFFFFFFA ++ camac_8 0x0A153E69 0x00B3064E ++ camac_8 0x2FF33E79 0x00C573A9 ++ literal 0x8CABBAF8 ++ halt)
      (state_of (waiting 1 1 0 5 0 2 0 3 0x04330000 0 0 0) (hex 16 0x782D3CEDF998C1440F78DCC27A5D3162) [])
      (answer DERR 0x86B4E9)
      ≡ wants (operation 62 23 15 19 0xC573A9 false) (state_of (waiting 2 1 0 23 15 2 0 4 0x04330000 0 0 0) (hex 16 0x782D3CEDF998C1440F78DCC27A5D3162) [])
  pub case_16 :
      step_of (first_field 4 ++ camac_8 0x14141873 0x0000DC6F ++ camac_4 0x1BA30102 ++ camac_8 0x2BB00162 0x00001252 ++ camac_8 0x2DA52D4B 0xFFFFFFFD ++ jump 5 ++ halt)
      (state_of (waiting 1 1 0 13 13 0 0 0 0x00A60000 0 0 0) (hex 8 0x94BF7E7F145D11F6) [])
      (answer (Q + X + DERR) 0x6D08C9)
      ≡ wants (operation 1 21 13 16 0x001252 false) (state_of (waiting 2 1 0 21 13 2 0 1 0x04A60000 0 0 2) (hex 8 0xC9087E7F145D11F6) [])
  pub case_17 :
      step_of (first_field 4 ++ camac_8 0x2FD33E63 0x00003142 ++ camac_4 0x2C443E12 ++ camac_8 0x02E63650 0xFFFFFFF0 ++ camac_8 0x2BD73E70 0x0040E0C7 ++ halt ++ camac_4 0x2A013E03 ++ jump 1)
      (state_of (waiting 0 1 0 23 14 0 0 0 0x04820000 0 0 0) (hex 36 0x6573A14721C5BC3501AAFB4BBD0E7D68ABA6035A937ED8C2FB5A6CA70159C9B508B4E38C) (hex 1 0x39))
      (hex 5 0x002B000054)
      ≡ refused_with 22 0 (state_of (waiting 0 1 0 23 14 0 0 0 0x04820000 0 0 0) (hex 36 0x6573A14721C5BC3501AAFB4BBD0E7D68ABA6035A937ED8C2FB5A6CA70159C9B508B4E38C) (hex 1 0x39))
  pub case_19 :
      step_of (first_field 1 ++ camac_8 0x2BE23630 0xFFFFFFFA ++ camac_4 0x2FCD3A1A ++ camac_4 0x2DD73E12 ++ halt)
      (state_of (waiting 2 1 0 22 14 12 0 1 0x04140000 0 0 0) (hex 12 0x78BEF21F362047EFA48814A5) (hex 2 0x21C6))
      (answer (Q + X + LPE) 0x6B88B6)
      ≡ wants_none (state_of (ended 2 0 0 0 0 12 0 2 0xA4340080 0 0 0) (hex 12 0x78BEF21F362047EFA48814A5) (hex 2 0x21C6))
  pub case_21 :
      step_of (first_field 3 ++ camac_8 0x2BC02C23 0xFFFFFFFE ++ halt)
      (state_of (waiting 0 2 0 21 14 0 0 0 0x04220000 0 0 0) (hex 4 0x902071B8) (hex 1 0x59))
      (hex 8 0x0200008000000000)
      ≡ refused_with 22 0 (state_of (waiting 0 2 0 21 14 0 0 0 0x04220000 0 0 0) (hex 4 0x902071B8) (hex 1 0x59))
  pub case_22 :
      step_of (first_field 4 ++ camac_8 0x3C6C015B 0xFFFFFFFE ++ halt)
      (state_of (waiting 0 1 0 30 3 0 0 0 0x04300000 0 0 0) [] (hex 4 0xE3D0C911))
      (answer (Q + X) 0x0DB2F6)
      ≡ wants_none (state_of (ended 1 0 0 0 0 0 2 1 0x04300080 1 0 2) [] (hex 4 0xE3D0C911))
  pub case_25 :
      step_of (first_field 2 ++ camac_8 0x2D523E68 0x006FF2F6 ++ halt ++ halt)
      (state_of (waiting 0 1 0 22 10 0 0 0 0x00810000 0 0 0) [] (hex 1 0x08))
      (answer LPE 0x7726B7)
      ≡ wants_none (state_of (ended 0 0 0 0 0 0 0 1 0xA0A70080 0 0 0) [] (hex 1 0x08))
  pub case_26 : step_of (first_field 2 ++ halt) (state_of (ended 0 0 0 0 0 0 0 0 0x00000000 0 0 0) [] []) (answer (Q + X + TPE + LPE) 0x9883AF)
      ≡ refused_with 24 0 (state_of (ended 0 0 0 0 0 0 0 0 0x00000000 0 0 0) [] [])
  pub case_27 :
      step_of (first_field 2 ++ camac_4 0x1E1A3E12 ++ camac_8 0x3C2C3C5B 0xFFFFFFFD ++ camac_8 0x2F700162 0x0000EE30 ++ jump 6 ++ halt ++ jump 5 ++ camac_8 0x2C120120 0xFFFFFFFC ++ halt)
      (state_of (waiting 6 1 0 22 0 2 4 1 0x04270000 1 0 2) (hex 6 0x0AF250C52B49) (hex 9 0x725649AA801A9E5175))
      (answer (Q + X + DERR + TPE + LPE) 0x9C61E9)
      ≡ wants_none (state_of (ended 6 0 0 0 0 2 4 2 0xA4370080 1 0 2) (hex 6 0x0AF250C52B49) (hex 9 0x725649AA801A9E5175))
  pub case_28 :
      step_of (first_field 3 ++ camac_4 0x3DC73E08 ++ camac_4 0x07AD0A03 ++ halt ++ literal 0xE0E6C4E9 ++ halt)
      (state_of (waiting 1 1 0 3 13 4 0 1 0x00040200 0 0 4) (hex 3 0x0F8ECE) (hex 1 0xDA))
      (answer (Q + X) 0xB54D13)
      ≡ refused_with 20 0 (state_of (waiting 1 1 0 3 13 4 0 1 0x00040200 0 0 4) (hex 3 0x0F8ECE) (hex 1 0xDA))
  pub case_30 :
      step_of (first_field 3 ++ camac_8 0x3C4C015A 0xFFFFFFFF ++ camac_8 0x2DB71C7A 0x00009328 ++ camac_8 0x2C741249 0xFFFFFFFE ++ camac_8 0x2FD00139 0xFFFFFFFC ++ halt)
      (state_of (waiting 1 1 0 22 14 0 2 1 0x04A51000 0 0 0) [] (hex 16 0x5424079F917ABC9645146E2CE77A7ED7))
      (answer (Q + X + TPE + LPE) 0x782C25)
      ≡ refused_with 23 0 (state_of (waiting 1 1 0 22 14 0 2 1 0x04A51000 0 0 0) [] (hex 16 0x5424079F917ABC9645146E2CE77A7ED7))
  pub case_31 :
      step_of (first_field 4 ++ jump 1 ++ camac_8 0x3DF70173 0x0000CB7E ++ halt)
      (state_of (waiting 1 1 0 30 15 0 0 0 0x00100000 0 16 0) [] (hex 1 0xD1))
      (kind 2)
      ≡ refused_with 23 0 (state_of (waiting 1 1 0 30 15 0 0 0 0x00100000 0 16 0) [] (hex 1 0xD1))
  pub case_32 :
      step_of (first_field 4 ++ camac_8 0x2C153E71 0x00FBAD2A ++ camac_8 0x07B20143 0xFFFFFFFC ++ literal 0xAC0D1F56 ++ literal 0x7C15245E ++ halt ++ halt)
      (state_of (waiting 0 1 3 22 0 16 0 3 0x04110000 0 0 0) (hex 8 0xCD54CA307118A8AD) (hex 10 0x35AB271035678DB70E85))
      (kind 3)
      ≡ refused_with 23 0 (state_of (waiting 0 1 3 22 0 16 0 3 0x04110000 0 0 0) (hex 8 0xCD54CA307118A8AD) (hex 10 0x35AB271035678DB70E85))
  pub case_35 :
      step_of (first_field 4 ++ camac_4 0x2FA63E12 ++ camac_8 0x2BB02173 0x000014D7 ++ literal 0x61B1197B ++ halt ++ jump 4)
      (state_of (waiting 1 1 3 21 13 2 0 7 0x00130000 0 0 0) (hex 8 0xF7C40D3A3D028565) (hex 2 0xEC9B))
      (answer (Q + X + ERR + DERR) 0x77FD78)
      ≡ wants_none (state_of (ended 3 0 0 0 0 8 0 8 0x04970080 0 0 0) (hex 8 0xF7C400007B19B161) (hex 2 0xEC9B))
  pub case_37 : step_of (first_field 65535 ++ halt) (state_of (ended 0 0 0 0 0 0 0 0 0x00000000 0 0 0) [] (hex 1 0x06)) (kind 3)
      ≡ refused_with 24 0 (state_of (ended 0 0 0 0 0 0 0 0 0x00000000 0 0 0) [] (hex 1 0x06))
  pub case_38 : step_of (first_field 65535 ++ halt) (state_of (ended 0 0 0 0 0 0 0 0 0x00000000 0 1 0) [] []) (hex 8 0x000B30000DC5C200)
      ≡ refused_with 24 0 (state_of (ended 0 0 0 0 0 0 0 0 0x00000000 0 1 0) [] [])
  pub case_40 : step_of (first_field 22581 ++ halt) (state_of (ended 0 0 0 0 0 0 0 0 0x00000000 0 0 0) [] []) (answer (Q + X + ERR + DERR) 0x7A8D1F)
      ≡ refused_with 24 0 (state_of (ended 0 0 0 0 0 0 0 0 0x00000000 0 0 0) [] [])
  pub case_42 :
      step_of (first_field 3 ++ halt) (state_of (ended 0 2 0 0 0 0 0 0 0x00000000 0 0 0) [] (hex 2 0xFA5C)) (answer (Q + X + DERR + TPE) 0x1CA5FB)
      ≡ refused_with 24 0 (state_of (ended 0 2 0 0 0 0 0 0 0x00000000 0 0 0) [] (hex 2 0xFA5C))
  pub case_43 : step_of (first_field 25973 ++ halt) (state_of (ended 0 0 0 0 0 0 0 0 0x00000000 0 0 0) [] (hex 2 0xB674)) (kind 2)
      ≡ refused_with 24 0 (state_of (ended 0 0 0 0 0 0 0 0 0x00000000 0 0 0) [] (hex 2 0xB674))
  pub case_44 : step_of (first_field 4 ++ halt) (state_of (ended 0 0 1 0 0 0 0 0 0x00000000 0 0 0) [] (hex 1 0xFF)) (answer (Q + X + ERR) 0x963F21)
      ≡ refused_with 24 0 (state_of (ended 0 0 1 0 0 0 0 0 0x00000000 0 0 0) [] (hex 1 0xFF))
  pub case_45 :
      step_of (first_field 29002 ++ camac_8 0x2DA73E21 0xFFFFFFFA ++ camac_8 0x0DB62628 0xFFFFFFFC ++ halt ++ halt)
      (state_of (waiting 0 2 0 22 13 4 0 1 0x04B50000 0 0 2) (hex 12 0x9FFFAAD43096EE152C7CEC12) (hex 8 0x6BC8A50E786C42E2))
      (hex 14 0x00230000833A49005EC788DDA427)
      ≡ refused_with 22 0 (state_of (waiting 0 2 0 22 13 4 0 1 0x04B50000 0 0 2) (hex 12 0x9FFFAAD43096EE152C7CEC12) (hex 8 0x6BC8A50E786C42E2))
  pub case_46 :
      step_of (first_field 3 ++ halt ++ camac_8 0x2DE70121 0xFFFFFFFA ++ literal 0x223C8F04)
      (state_of (ended 0 0 0 0 0 0 0 0 0x00000000 0 0 0) [] (hex 1 0xDE))
      (kind 2)
      ≡ refused_with 24 0 (state_of (ended 0 0 0 0 0 0 0 0 0x00000000 0 0 0) [] (hex 1 0xDE))
  pub case_49 :
      step_of (first_field 256 ++ camac_4 0x2B013E02 ++ camac_4 0x2BA32218 ++ camac_4 0x3D7B1B08 ++ halt)
      (state_of (waiting 1 1 0 23 15 0 0 1 0x00110000 0 0 0) (hex 8 0xD8A86D02B4C1AD86) (hex 1 0x78))
      (answer (Q + X) 0x3C79C3)
      ≡ wants (operation 27 30 11 27 0x000000 false) (state_of (waiting 2 1 0 30 11 4 0 2 0x00110000 0 0 4) (hex 8 0xC3793CC0B4C1AD86) (hex 1 0x78))
  pub case_52 :
      step_of (first_field 255 ++ halt ++ literal 0x0B6B5858)
      (state_of (ended 0 0 0 0 0 0 0 0 0x00000000 0 0 18446744073709551615) [] (hex 1 0x28))
      (answer (ERR + DERR) 0x74F978)
      ≡ refused_with 24 0 (state_of (ended 0 0 0 0 0 0 0 0 0x00000000 0 0 18446744073709551615) [] (hex 1 0x28))
  pub case_54 :
      step_of (first_field 8992 ++ camac_8 0x3C873E29 0xFFFFFFFE ++ camac_8 0x2B100169 0x0073BEF1 ++ halt ++ jump 3)
      (state_of (waiting 1 1 0 21 8 0 0 1 0x04870000 0 0 0) (hex 4 0x645761A7) (hex 1 0x02))
      (answer (Q + X + ERR + DERR + TPE) 0xE666CE)
      ≡ wants_none (state_of (ended 2 0 0 0 0 0 0 2 0x04970080 0 0 0) (hex 4 0x645761A7) (hex 1 0x02))
  pub case_55 :
      step_of (first_field 3 ++ camac_8 0x1DB33E72 0x000025C3 ++ camac_4 0x13C30101 ++ camac_4 0x10D4231A ++ camac_8 0x2C160E69 0x006B011A ++ halt ++ halt ++ camac_8 0x2A162033 0xFFFFFFFD)
      (state_of (waiting 1 1 0 9 14 0 0 3 0x04060000 0 0 0) (hex 4 0xC5731E38) (hex 4 0x64C95873))
      (answer (Q + X) 0x17B97C)
      ≡ wants (operation 35 8 6 20 0x00C964 false) (state_of (waiting 2 1 0 8 6 4 0 4 0x04060000 0 0 4) (hex 4 0x7CB917C0) (hex 4 0x64C95873))
  pub case_56 :
      step_of (first_field 62577 ++ camac_8 0x2E510168 0x00B5C068 ++ camac_8 0x2DF10163 0x0000DA49 ++ halt)
      (state_of (waiting 1 1 0 22 15 0 0 1 0x00100000 0 0 0) [] (hex 1 0x49))
      (answer (Q + X + ERR) 0xABF166)
      ≡ wants_none (state_of (ended 2 0 0 0 0 0 0 2 0x00940080 0 0 0) [] (hex 1 0x49))
  pub case_57 :
      step_of (first_field 13425 ++ camac_8 0x3C000152 0xFFFFFFFD ++ camac_8 0x3DC60123 0xFFFFFFFF ++ camac_8 0x2DD53E69 0x009D83DA ++ camac_8 0x13F23E3B 0xFFFFFFFD ++ halt)
      (state_of (waiting 2 1 0 22 13 8 0 40276 0x04230000 0 0 0) (hex 8 0xF1E1AEF2EC4DB906) (hex 8 0x69713C5EF723EFD9))
      (kind 1)
      ≡ refused_with 23 0 (state_of (waiting 2 1 0 22 13 8 0 40276 0x04230000 0 0 0) (hex 8 0xF1E1AEF2EC4DB906) (hex 8 0x69713C5EF723EFD9))
  pub case_58 :
      step_of (first_field 4 ++ literal 0xA38CD696 ++ camac_8 0x2C512641 0xFFFFFFF8 ++ camac_8 0x2EF73E29 0xFFFFFFFE ++ halt)
      (state_of (waiting 2 1 0 23 7 0 2 5 0x04170000 0 0 0) (hex 4 0x256B6B68) (hex 22 0x9EAD2E986C899286FB12A988D55D8C992BAD32F85784))
      (hex 8 0x004B00001D003300)
      ≡ refused_with 23 0 (state_of (waiting 2 1 0 23 7 0 2 5 0x04170000 0 0 0) (hex 4 0x256B6B68) (hex 22 0x9EAD2E986C899286FB12A988D55D8C992BAD32F85784))
  pub case_59 :
      step_of (first_field 4 ++ camac_4 0x2A0F3E18 ++ camac_4 0x2FCB3E0A ++ literal 0xFB087520 ++ literal 0xC8443E3D ++ halt ++ jump 4 ++ halt)
      (state_of (waiting 0 1 0 23 15 0 0 2 0x04330000 0 0 0) (hex 8 0xE0D85F68D8CBA952) [])
      (answer (X + DERR + LPE) 0xDCC77E)
      ≡ wants_none (state_of (ended 0 0 0 0 0 0 0 3 0xA4770080 0 0 0) (hex 8 0xE0D85F68D8CBA952) [])
  pub case_61 :
      step_of (first_field 2 ++ camac_8 0x0F933E7A 0x0000BBDF ++ halt)
      (state_of (waiting 0 1 0 10 18446744073709551614 0 0 0 0x04340000 0 0 0) [] [])
      (answer (Q + X + DERR) 0x88E6C8)
      ≡ refused_with 23 0 (state_of (waiting 0 1 0 10 18446744073709551614 0 0 0 0x04340000 0 0 0) [] [])
  pub case_62 :
      step_of (first_field 3 ++ halt ++ jump 2 ++ camac_8 0x08A63E40 0xFFFFFFFA)
      (state_of (ended 0 0 0 0 0 0 0 0 0x00000000 0 0 0) [] (hex 1 0x67))
      (answer (Q + X + ERR + TPE + LPE) 0x6AF292)
      ≡ refused_with 24 0 (state_of (ended 0 0 0 0 0 0 0 0 0x00000000 0 0 0) [] (hex 1 0x67))
  pub case_65 :
      step_of (first_field 4 ++ camac_8 0x2BD43E4B 0xFFFFFFFF ++ halt)
      (state_of (waiting 0 1 0 21 14 0 0 0 0x00050000 0 0 0) [] (hex 2 0x2588))
      (answer (Q + X) 0xF630C1)
      ≡ wants_none (state_of (ended 1 0 0 0 0 0 2 1 0x00050080 1 0 2) [] (hex 2 0x2588))
  pub case_66 :
      step_of (first_field 256 ++ camac_8 0x2D550130 0xFFFFFFFA ++ halt ++ camac_8 0x2C240153 0xFFFFFFFE ++ camac_4 0x2BC03900)
      (state_of (waiting 0 3 255 22 10 0 0 255 0x00010000 0 0 0) [] (hex 14 0xB89D677B8BF69077BE2D6425073B))
      (answer (Q + X + DERR + LPE) 0xA5487B)
      ≡ wants_none (state_of (ended 0 0 0 0 0 0 0 256 0xA4250080 0 0 0) [] (hex 14 0xB89D677B8BF69077BE2D6425073B))
  pub case_67 :
      step_of (first_field 255 ++ camac_8 0x2BA60129 0xFFFFFFFA ++ camac_8 0x1C142260 0x00C7A021 ++ halt)
      (state_of (waiting 0 1 0 21 13 4 0 2 0x00A40000 0 0 0) (hex 12 0xBBE49B4A0E5CE67878131D0C) [])
      (kind 2)
      ≡ wants_none (state_of (ended 0 0 0 0 0 4 0 3 0xC0AC0080 0 0 0) (hex 12 0xBBE49B4A0E5CE67878131D0C) [])
  pub case_68 :
      step_of (first_field 3 ++ camac_8 0x2F343961 0x0044FCF9 ++ halt)
      (state_of (waiting 0 1 0 23 9 0 0 0 0x00A00000 0 0 0) [] (hex 1 0xF2))
      (hex 1 0x00)
      ≡ refused_with 22 0 (state_of (waiting 0 1 0 23 9 0 0 0 0x00A00000 0 0 0) [] (hex 1 0xF2))
  pub case_69 :
      step_of (first_field 256 ++ camac_8 0x2E730173 0x00000C3C ++ camac_8 0x2FF13E71 0x005C3C21 ++ camac_4 0x3DA43009 ++ camac_4 0x14000118 ++ halt)
      (state_of (waiting 2 1 0 30 13 0 0 512 0x00270000 0 0 0) (hex 8 0xF70757455C57143D) (hex 2 0x6F8A))
      (kind 3)
      ≡ wants_none (state_of (ended 2 0 0 0 0 0 0 513 0xD1270080 0 0 0) (hex 8 0xF70757455C57143D) (hex 2 0x6F8A))
  pub case_70 :
      step_of (first_field 256 ++ camac_8 0x05D63E41 0xFFFFFFFA ++ camac_8 0x1E132071 0x00BD8B85 ++ camac_4 0x2FDE011A ++ halt)
      (state_of (waiting 1 1 228 15 0 0 6 231 0x00830000 1 2 4) [] (hex 14 0x06FCEE5F9187AE1F45B9FDBE931F))
      (answer (DERR + LPE) 0x4A7E0D)
      ≡ wants (operation 32 15 0 19 0xBD8B85 false) (state_of (waiting 1 1 229 15 0 0 6 232 0x04A70000 1 2 4) [] (hex 14 0x06FCEE5F9187AE1F45B9FDBE931F))
  pub case_72 :
      step_of (first_field 2 ++ camac_8 0x2B173E73 0x0000A83F ++ jump 3 ++ literal 0x454C9DC4 ++ camac_8 0x3CD73E6A 0x00002A37 ++ camac_4 0x2DDF1A0A ++ halt ++ literal 0xD66D0C08)
      (state_of (waiting 4 1 0 22 14 0 0 3 0x00240000 0 0 0) [] [])
      (answer (Q + ERR) 0x2AF29C)
      ≡ wants_none (state_of (ended 4 0 0 0 0 0 0 4 0x80A60080 0 0 0) [] [])
  pub case_73 :
      step_of (first_field 38080 ++ camac_4 0x2C4F011B ++ camac_8 0x1C233E43 0xFFFFFFFD ++ camac_8 0x2DD60179 0x00DAFC13 ++ halt ++ camac_8 0x2FA02128 0xFFFFFFFA ++ halt)
      (state_of (waiting 1 3 0 14 1 0 0 2 0x00900000 0 0 0) (hex 6 0x1CF9B37DD9D5) (hex 1 0x20))
      (answer (Q + X + ERR + DERR) 0x4B5B46)
      ≡ wants (operation 62 14 1 3 0x000000 true) (state_of (waiting 1 2 0 14 1 2 0 3 0x04940000 0 0 2) (hex 6 0x465BB37DD9D5) (hex 1 0x20))
  pub case_76 :
      step_of (first_field 2 ++ camac_8 0x2FB1016A 0x0000AD2A ++ halt)
      (state_of (waiting 0 1 0 23 13 0 0 0 0x00070000 0 0 18446744073709551615) [] [])
      (answer (Q + X + ERR) 0xB7799A)
      ≡ refused_with 23 0 (state_of (waiting 0 1 0 23 13 0 0 0 0x00070000 0 0 18446744073709551615) [] [])
  pub case_77 :
      step_of (first_field 255 ++ halt)
      (state_of (ended 0 0 0 0 0 0 0 0 0x00000000 0 0 0) [] (hex 1 0x0A))
      (answer (Q + X + ERR + TPE + LPE) 0x40AE19)
      ≡ refused_with 24 0 (state_of (ended 0 0 0 0 0 0 0 0 0x00000000 0 0 0) [] (hex 1 0x0A))
  pub case_78 :
      step_of (first_field 4 ++ camac_8 0x2D133E78 0x00A504D9 ++ camac_8 0x2EE63E33 0xFFFFFFFD ++ halt ++ jump 3)
      (state_of (waiting 18446744073709551615 3 0 23 7 0 0 2 0x00340000 0 0 0) (hex 6 0x98EDFFF97E2D) (hex 1 0x80))
      (answer 0 0x32B2BD)
      ≡ refused_with 23 0 (state_of (waiting 18446744073709551615 3 0 23 7 0 0 2 0x00340000 0 0 0) (hex 6 0x98EDFFF97E2D) (hex 1 0x80))
  pub case_80 :
      step_of (first_field 1 ++ camac_4 0x04E2331A ++ camac_8 0x2CD10171 0x00653B9D ++ literal 0x1A248AF0 ++ camac_8 0x2B20204A 0xFFFFFFFE ++ jump 7 ++ halt ++ literal 0xE61AADDB ++ halt)
      (state_of (waiting 3 2 0 21 9 8 0 23 0x00070000 0 0 0) (hex 12 0xDF0B03D8D38515937B98EA4B) (hex 1 0xFB))
      (answer (ERR + DERR + TPE) 0x8AC77F)
      ≡ wants_none (state_of (ended 3 0 0 0 0 8 0 24 0xA4970080 0 0 0) (hex 12 0xDF0B03D8D38515937B98EA4B) (hex 1 0xFB))
  pub case_81 :
      step_of (first_field 21181 ++ jump 2 ++ halt ++ camac_8 0x3C053450 0xFFFFFFFA ++ jump 1)
      (state_of (waiting 2 3 12940 30 0 0 0 12940 0x00160800 0 0 0) (hex 12 0x9CE0FE962FE6BFF75FD917AE) [])
      (kind 1)
      ≡ refused_with 23 0 (state_of (waiting 2 3 12940 30 0 0 0 12940 0x00160800 0 0 0) (hex 12 0x9CE0FE962FE6BFF75FD917AE) [])
  pub case_83 :
      step_of (first_field 255 ++ camac_8 0x2E01012A 0xFFFFFFFE ++ jump 5 ++ literal 0x32EBBD32 ++ camac_8 0x2BB71F78 0x00D19801 ++ halt ++ jump 2)
      (state_of (waiting 0 1 0 23 0 1 0 0 0x04A50000 0 0 0) (hex 8 0x99B2E5AB2ECD0818) (hex 1 0x70))
      (answer (Q + X + DERR) 0x000CB5)
      ≡ refused_with 23 0 (state_of (waiting 0 1 0 23 0 1 0 0 0x04A50000 0 0 0) (hex 8 0x99B2E5AB2ECD0818) (hex 1 0x70))
  pub case_84 :
      step_of (first_field 57213 ++ camac_8 0x0DE20E40 0xFFFFFFF8 ++ camac_8 0x27A43E38 0xFFFFFFF8 ++ camac_4 0x3DE10100 ++ halt ++ camac_8 0x3C111C70 0x00F546AC)
      (state_of (waiting 1 4 0 21 13 0 0 3 0x00050000 0 0 0) (hex 36 0xAC9D83915BF7AA50F2F32ECB0682F3BF220D1699FE595E48C8DC7990907181DA25DF521F) (hex 2 0xE7CB))
      (kind 3)
      ≡ wants_none (state_of (ended 1 0 0 0 0 0 0 4 0xD1050080 0 0 0) (hex 36 0xAC9D83915BF7AA50F2F32ECB0682F3BF220D1699FE595E48C8DC7990907181DA25DF521F) (hex 2 0xE7CB))
  pub case_85 :
      step_of (first_field 1 ++ camac_4 0x2C193410 ++ halt) (state_of (waiting 0 1 0 22 0 0 0 0 0x04A10000 0 0 0) [] []) (answer (Q + DERR) 0x43F788)
      ≡ wants_none (state_of (ended 0 0 0 0 0 0 0 1 0x84A30080 0 0 0) [] [])
  pub case_87 :
      step_of (first_field 4 ++ camac_8 0x2E070131 0xFFFFFFFA ++ literal 0x6B688B02 ++ literal 0xF3EC0DC2 ++ halt)
      (state_of (waiting 0 3 3 23 18446744073709551615 0 0 3 0x04240000 0 0 0) (hex 20 0x22EBD0C996450BAAF7FEE7038E9C7C48A74CABDC) (hex 1 0xC5))
      (answer (Q + X + DERR) 0xD87BF9)
      ≡ refused_with 23 0 (state_of (waiting 0 3 3 23 18446744073709551615 0 0 3 0x04240000 0 0 0) (hex 20 0x22EBD0C996450BAAF7FEE7038E9C7C48A74CABDC) (hex 1 0xC5))
  pub case_88 :
      step_of (first_field 1 ++ camac_4 0x2B153E0B ++ camac_4 0x3CC50A11 ++ halt)
      (state_of (waiting 1 1 0 30 6 0 0 1 0x00020000 0 0 0) (hex 4 0x018C6736) (hex 2 0xA84C))
      (answer (X + DERR) 0x222AA5)
      ≡ wants_none (state_of (ended 1 0 0 0 0 0 0 2 0xB6030080 0 0 0) (hex 4 0x018C6736) (hex 2 0xA84C))
  pub case_89 :
      step_of (first_field 33388 ++ camac_8 0x2A713B61 0x00F89161 ++ camac_4 0x3CD40902 ++ camac_8 0x3C6C015B 0xFFFFFFFC ++ halt ++ camac_4 0x2C130400 ++ camac_8 0x3DB13E68 0x00494220)
      (state_of (waiting 2 4 0 30 3 0 2 0 0x04870000 0 0 0) [] (hex 10 0xD5B3D85B893340DDA93C))
      (answer (Q + X) 0xD1652B)
      ≡ wants (operation 1 30 3 12 0x003389 true) (state_of (waiting 2 3 0 30 3 0 4 1 0x04870000 1 2 2) [] (hex 10 0xD5B3D85B893340DDA93C))
  pub case_159 :
      step_of (first_field 65535 ++ camac_4 0x3DC03E0A ++ camac_4 0x20DD051B ++ camac_8 0x16032A51 0xFFFFFFF8 ++ camac_8 0x3C2C0159 0xFFFFFFFC ++ halt)
      (state_of (waiting 3 1 0 30 1 18 0 85435 0x00A60000 0 0 0) (hex 28 0x4289F676E4CB42F9587348E8E1B03D31A559EC133E80EE3C237AEF2D) [])
      (answer (Q + X + ERR + LPE) 0x0B4C39)
      ≡ wants_none (state_of (ended 4 0 0 0 0 24 0 85436 0x00A60080 0 20 4) (hex 28 0x4289F676E4CB42F9587348E8E1B03D31A5590000394C0BC0237AEF2D) [])
  pub case_163 :
      step_of (first_field 20104 ++ camac_8 0x3C013E51 0xFFFFFFF8 ++ literal 0x459F85EA ++ camac_8 0x2F510121 0xFFFFFFF8 ++ halt)
      (state_of (waiting 2 2 0 23 10 20 2 75773 0x04A00000 0 7 4) (hex 20 0x5D2A4AF8B3E9D59F32B1434F582A213FEF86E435) (hex 18 0xC4A18FBE3B7CF954E24C4E1ADF7CBB31876D))
      (answer (Q + X) 0xEAD45B)
      ≡ wants (operation 1 23 10 17 0x4E4CE2 false) (state_of (waiting 2 1 0 23 10 20 8 75774 0x04A00000 1 4 4) (hex 20 0x5D2A4AF8B3E9D59F32B1434F582A213FEF86E435) (hex 18 0xC4A18FBE3B7CF954E24C4E1ADF7CBB31876D))
  pub case_595 :
      step_of (first_field 4 ++ camac_8 0x2FF20578 0x009D197C ++ halt)
      (state_of (waiting 0 1 0 23 15 0 0 0 0x04320000 0 0 0) [] (hex 1 0x1A))
      (answer (Q + X + TPE) 0x937547)
      ≡ wants_none (state_of (ended 0 0 0 0 0 0 0 1 0xA4360080 0 0 0) [] (hex 1 0x1A))
  pub case_633 :
      step_of (first_field 1 ++ camac_8 0x2A11013A 0xFFFFFFFE ++ camac_4 0x2A26121B ++ camac_8 0x2A850143 0xFFFFFFFF ++ halt)
      (state_of (waiting 2 1 0 21 4 2 4 5 0x04100000 0 0 2) (hex 4 0xE5106289) (hex 6 0x8AA57837DFCA))
      (answer (X + DERR + TPE) 0x8A0BE9)
      ≡ wants_none (state_of (ended 3 0 0 0 0 2 4 6 0x04150080 0 0 2) (hex 4 0xE5106289) (hex 6 0x8AA57837DFCA))
  pub case_750 :
      step_of (first_field 1 ++ camac_8 0x2A32313B 0xFFFFFFFF ++ camac_8 0x2A55017A 0x00007F06 ++ camac_8 0x15A53E30 0xFFFFFFFA ++ halt)
      (state_of (waiting 1 1 0 23 15 0 0 0 0x04A70000 0 0 0) (hex 12 0xB0AA435552DF63DB0A25C031) (hex 2 0x116F))
      (answer (Q + X + ERR + DERR) 0x43735C)
      ≡ wants_none (state_of (ended 1 0 0 0 0 0 0 1 0x44A70080 0 0 0) (hex 12 0xB0AA435552DF63DB0A25C031) (hex 2 0x116F))
  pub case_925 :
      step_of (first_field 3 ++ camac_4 0x1C0D010A ++ camac_8 0x3C2C3658 0xFFFFFFFA ++ camac_8 0x2BF33E6A 0x0000F707 ++ halt)
      (state_of (waiting 0 1 0 14 0 0 0 0 0x04B10000 0 0 0) (hex 12 0xFC39E91863A0DD07C09F03D7) (hex 1 0x94))
      (answer (Q + X + ERR + DERR) 0xB23C62)
      ≡ wants_none (state_of (ended 0 0 0 0 0 0 0 1 0x44B50080 0 0 0) (hex 12 0xFC39E91863A0DD07C09F03D7) (hex 1 0x94))
  pub case_1653 :
      step_of (first_field 3 ++ camac_8 0x2CB52A23 0xFFFFFFFF ++ halt)
      (state_of (waiting 0 1 0 22 5 0 0 0 0x00800000 0 0 0) [] (hex 2 0x1A6C))
      (answer (DERR + LPE) 0x4F2B7E)
      ≡ wants_none (state_of (ended 1 0 0 0 0 0 0 1 0x04A70080 0 0 0) [] (hex 2 0x1A6C))
  pub case_1967 :
      step_of (first_field 1 ++ literal 0xAE1322DC ++ literal 0xD38998FC ++ camac_8 0x2A173E63 0x0000E46B ++ camac_8 0x2F051F33 0xFFFFFFFC ++ halt)
      (state_of (waiting 2 1 0 21 0 0 0 0 0x00270000 0 0 2) (hex 16 0x281BA868A3EE18A59022E9685834C1C7) (hex 1 0x7A))
      (answer (X + DERR + TPE) 0xDCA5ED)
      ≡ refused_with 23 0 (state_of (waiting 2 1 0 21 0 0 0 0 0x00270000 0 0 2) (hex 16 0x281BA868A3EE18A59022E9685834C1C7) (hex 1 0x7A))
  pub case_16003 :
      step_of (first_field 2 ++ camac_8 0x3D111522 0xFFFFFFFC ++ camac_8 0x3D760169 0x00FB624F ++ camac_4 0x2DAD3E08 ++ halt ++ camac_8 0x2C710B63 0x00001D3C ++ camac_8 0x03C23E53 0xFFFFFFFF)
      (state_of (waiting 1 1 0 30 11 0 4 0 0x04010000 1 3 2) [] (hex 8 0x3D418454A02DB33A))
      (hex 8 0x0280000000000000)
      ≡ refused_with 23 0 (state_of (waiting 1 1 0 30 11 0 4 0 0x04010000 1 3 2) [] (hex 8 0x3D418454A02DB33A))

-- small cases, then those that meet what nothing before them met
pub record RandomRuns : Type 0 where
  pub case_0 :
      run_of (first_field 1 ++ camac_8 0x2DB03F60 0x005080C2 ++ camac_8 0x2DF61A30 0xFFFFFFF8 ++ halt)
      (hex 22 0x063533DB862141A541FE0A602874B4669BF43B1D2027) (hex 37 0x28E165AFBAE343EDFB633C5DDFC09DD8086AB75939C2FA231355D4E04A05CDA4598071CB3D)
      (hex 8 0xBBF0FE2A5A3B1A9B ++ hex 8 0x86B23B6660840707)
      ≡ ran 7 7 0 (state_of (ended 0 0 0 0 0 0 0 0 0x00000000 0 0 0) (hex 22 0x063533DB862141A541FE0A602874B4669BF43B1D2027) (hex 37 0x28E165AFBAE343EDFB633C5DDFC09DD8086AB75939C2FA231355D4E04A05CDA4598071CB3D))
  pub case_3 :
      run_of (first_field 1 ++ literal 0x49921D50 ++ camac_8 0x2EB63E40 0xFFFFFFFC ++ halt)
      (hex 11 0x44E98BCB52BB8A74873FF3) (hex 8 0xE545007E3120E30B)
      (answer X 0xA47AF4)
      ≡ ran 0 0 1 (state_of (ended 2 0 0 0 0 4 0 1 0x00010080 0 0 0) (hex 11 0x501D924952BB8A74873FF3) (hex 8 0xE545007E3120E30B))
  pub case_7 :
      run_of (first_field 2 ++ camac_4 0x2E0D3E08 ++ halt ++ camac_8 0x2A173E6A 0x80000000 ++ jump 3)
      (hex 34 0xCDFED5576775162815F18A09DE4B6FA730703500839DB0ADAD49402CBE760789C70D) (hex 29 0xE6EFEF4488DAA42CA81D713AB014B97ECD1B74A5654E1ED281157AD0F0)
      (hex 8 0x63A2C74811741212 ++ hex 8 0x6614BF0B22CE79CA)
      ≡ ran 9 17 0 (state_of (ended 0 0 0 0 0 0 0 0 0x00000000 0 0 0) (hex 34 0xCDFED5576775162815F18A09DE4B6FA730703500839DB0ADAD49402CBE760789C70D) (hex 29 0xE6EFEF4488DAA42CA81D713AB014B97ECD1B74A5654E1ED281157AD0F0))
  pub case_8 :
      run_of (first_field 1 ++ camac_4 0x26920C1A ++ camac_8 0x3C4C0759 0xFFFFFFFC ++ halt)
      (hex 6 0x2248141A9A24) (hex 12 0xD62D4235A4B21F1FCC69530E)
      (answer X 0x7A15D9 ++ answer X 0x3FB79E ++ answer X 0x5E6A91 ++ answer X 0xA8A014 ++ answer (Q + X) 0x869FEB ++ answer (Q + X) 0xB78308)
      ≡ ran 0 0 6 (state_of (waiting 1 1 0 30 2 0 8 6 0x00010000 1 4 4) (hex 6 0x2248141A9A24) (hex 12 0xD62D4235A4B21F1FCC69530E))
  pub case_12 : run_of (first_field 1 ++ jump 1 ++ camac_4 0x2FB81801 ++ halt) [] [] (answer (Q + X) 0xA95EF3)
      ≡ ran 0 0 1 (state_of (ended 2 0 0 0 0 0 0 1 0x00000080 0 0 0) [] [])
  pub case_13 :
      run_of (first_field 256 ++ camac_8 0x3C161C2B 0xFFFFFFFE ++ camac_8 0x3DE40142 0xFFFFFFFD ++ halt ++ halt ++ jump 0)
      (hex 5 0xB4DCE156FE) (hex 7 0xB8AE8CBE25E38D)
      (answer (Q + X) 0x3373BD ++ answer (Q + X) 0x82632D ++ answer (Q + X) 0x45C048 ++ answer (Q + X) 0x56DE40 ++ answer (Q + X) 0xDF5698 ++ answer (Q + X + DERR) 0x34B9EE ++ answer DERR 0x4B3DC6)
      ≡ ran 20 0 0 (state_of (ended 0 0 0 0 0 0 0 0 0x00000000 0 0 0) (hex 5 0xB4DCE156FE) (hex 7 0xB8AE8CBE25E38D))
  pub case_19 :
      run_of (first_field 41151 ++ camac_8 0x2FB60B7A 0x00009E0C ++ camac_8 0x2DA60151 0xFFFFFFFC ++ halt)
      (hex 8 0xDBBD815EBCDDF990) []
      (answer X 0xBEB376)
      ≡ ran 0 0 1 (state_of (ended 0 0 0 0 0 0 0 1 0x90410080 0 0 0) (hex 8 0xDBBD815EBCDDF990) [])
  pub case_20 :
      run_of (first_field 2 ++ camac_8 0x3DD03E49 0xFFFFFFFE ++ literal 0x619D4069 ++ halt ++ camac_8 0x3D320A22 0xFFFFFFFC ++ camac_8 0x3D930D2A 0xFFFFFFFF)
      (hex 3 0x848390) (hex 3 0xDA6210)
      (answer (Q + X) 0xDC04E2)
      ≡ ran 20 0 0 (state_of (ended 0 0 0 0 0 0 0 0 0x00000000 0 0 0) (hex 3 0x848390) (hex 3 0xDA6210))
  pub case_22 : run_of (first_field 53283 ++ literal 0xC6AE9E23 ++ halt) (hex 6 0x471795DDE1E0) (hex 6 0x2AFD2F4C6410) []
      ≡ ran 0 0 0 (state_of (ended 1 0 0 0 0 4 0 0 0x00000080 0 0 0) (hex 6 0x239EAEC6E1E0) (hex 6 0x2AFD2F4C6410))
  pub case_23 :
      run_of (first_field 1 ++ literal 0x31ED74FF ++ camac_8 0x3C6C2259 0xFFFFFFFC ++ halt)
      (hex 8 0xECDA60F96857BEAD) (hex 11 0x082E8755F643C64FAA82BC)
      (answer (Q + X) 0xBD0BDE ++ answer (X + DERR) 0x1BFB90)
      ≡ ran 0 0 2 (state_of (ended 2 0 0 0 0 4 8 2 0x04010080 1 4 4) (hex 8 0xFF74ED316857BEAD) (hex 11 0x082E8755F643C64FAA82BC))
  pub case_27 :
      run_of (first_field 42849 ++ camac_4 0x1E1A3E32 ++ camac_8 0x3C2C3C5B 0xFFFFFFFD ++ camac_8 0x2F700162 0x0000EE30 ++ halt ++ jump 2)
      (hex 11 0x46C6A4EB7E22A49E5D620C) (hex 2 0xC44C)
      (hex 8 0xA5FF9B9A60B8E535 ++ hex 8 0x3F6B700DAFABDA5A)
      ≡ ran 8 7 0 (state_of (ended 0 0 0 0 0 0 0 0 0x00000000 0 0 0) (hex 11 0x46C6A4EB7E22A49E5D620C) (hex 2 0xC44C))
  pub case_30 :
      run_of (first_field 1 ++ literal 0xEAF45BB7 ++ literal 0xF0AF3CBC ++ camac_8 0x2BF73E39 0xFFFFFFFC ++ literal 0xAF647AF9 ++ halt ++ hex 16 0x0008006912912F87B3D4002002000500)
      (hex 1 0xF5) []
      (hex 8 0xA75111A42668D9CE ++ hex 8 0xC25578A7E4EE6390)
      ≡ ran 3 42 0 (state_of (ended 0 0 0 0 0 0 0 0 0x00000000 0 0 0) (hex 1 0xF5) [])
  pub case_31 : run_of (first_field 58065 ++ halt) [] (hex 3 0xBFDDF8) []
      ≡ ran 0 0 0 (state_of (ended 0 0 0 0 0 0 0 0 0x00000080 0 0 0) [] (hex 3 0xBFDDF8))
  pub case_32 : run_of (first_field 3 ++ halt) [] [] [] ≡ ran 0 0 0 (state_of (ended 0 0 0 0 0 0 0 0 0x00000080 0 0 0) [] [])
  pub case_33 :
      run_of (first_field 10876 ++ hex 6 0x100800683ED2)
      (hex 26 0x4C0062071697F3CE196650F80BED9A822CCB22177D23ECA5DC71) (hex 31 0xE16A92EC64F1F9216AC29AA4AA7E1D59E160D20B93AC41949ECAD799D53260)
      (hex 8 0x5A5657D2E6A3115B ++ hex 8 0xD01D4B003DA987EF)
      ≡ ran 1 7 0 (state_of (ended 0 0 0 0 0 0 0 0 0x00000000 0 0 0) (hex 26 0x4C0062071697F3CE196650F80BED9A822CCB22177D23ECA5DC71) (hex 31 0xE16A92EC64F1F9216AC29AA4AA7E1D59E160D20B93AC41949ECAD799D53260))
  pub case_34 :
      run_of (first_field 4 ++ literal 0x2324D0C8 ++ camac_4 0x2B0E0118 ++ halt)
      (hex 10 0xD5EF24A97588556E4409) (hex 4 0xDCFE0B42)
      (answer (Q + X) 0x6585F2)
      ≡ ran 0 0 1 (state_of (ended 2 0 0 0 0 4 0 1 0x00000080 0 0 0) (hex 10 0xC8D024237588556E4409) (hex 4 0xDCFE0B42))
  pub case_38 : run_of (first_field 3 ++ literal 0x70999C3B ++ halt) (hex 4 0x7D19B09E) [] (hex 7 0x20020F64EB0A91)
      ≡ ran 22 0 0 (state_of (ended 0 0 0 0 0 0 0 0 0x00000000 0 0 0) (hex 4 0x7D19B09E) [])
  pub case_40 :
      run_of (first_field 1 ++ halt)
      (hex 8 0x1F8D7A84C2810140) (hex 3 0x6E0456)
      (answer (Q + X + ERR + DERR + TPE + LPE) 0x38E968 ++ answer (Q + X + TPE + LPE) 0x28D7DC ++ answer (Q + X + DERR) 0xFB2038)
      ≡ ran 0 0 0 (state_of (ended 0 0 0 0 0 0 0 0 0x00000080 0 0 0) (hex 8 0x1F8D7A84C2810140) (hex 3 0x6E0456))
  pub case_41 :
      run_of (first_field 255 ++ camac_8 0x2C120168 0x00D18BE8 ++ camac_8 0x10301172 0x000096F6 ++ camac_8 0x2FD33E4B 0xFFFFFFFD ++ halt)
      [] (hex 11 0xE8CD0C39D188F6CCA1B790)
      (answer X 0x84B4A1 ++ answer (Q + X) 0x2DA704 ++ answer ERR 0x35E502 ++ answer 0 0x03365F ++ answer (Q + X + DERR) 0x5CCFB1)
      ≡ ran 0 0 5 (state_of (ended 3 0 0 0 0 0 6 5 0x04870080 1 4 2) [] (hex 11 0xE8CD0C39D188F6CCA1B790))
  pub case_42 :
      run_of (first_field 255 ++ literal 0xABB650E1 ++ camac_8 0x3C2C3E5B 0xFFFFFFFF ++ literal 0x7D8DE768 ++ hex 1 0x20)
      (hex 1 0x9C) (hex 39 0x2D4A7121803EDD37ABE50B1B3FC47745F4B91D72D28A566503E647A47C4C3D86A6B1531D1E1C4F)
      (hex 8 0xEA8300DD702A2AC9 ++ hex 8 0x5A1580544805F066)
      ≡ ran 1 32 0 (state_of (ended 0 0 0 0 0 0 0 0 0x00000000 0 0 0) (hex 1 0x9C) (hex 39 0x2D4A7121803EDD37ABE50B1B3FC47745F4B91D72D28A566503E647A47C4C3D86A6B1531D1E1C4F))
  pub case_43 :
      run_of (first_field 29921 ++ camac_8 0x3DB2012A 0xFFFFFFFC ++ camac_8 0x2B213E50 0xFFFFFFFA ++ camac_8 0x3C0C345B 0xFFFFFFFE ++ halt ++ jump 2 ++ halt)
      (hex 15 0x7B6C8F6C8988BDCA4C0AB7CB8124F5) (hex 8 0xEB3CD8FAD0858CB7)
      (answer X 0x0F5A12 ++ answer X 0xD626AF ++ answer X 0xC6F5E3 ++ answer X 0x7BD917 ++ answer X 0x2A8D15 ++ answer X 0xD9D726 ++ answer DERR 0xBA2D55 ++ hex 1 0x4F)
      ≡ ran 20 0 0 (state_of (ended 0 0 0 0 0 0 0 0 0x00000000 0 0 0) (hex 15 0x7B6C8F6C8988BDCA4C0AB7CB8124F5) (hex 8 0xEB3CD8FAD0858CB7))
  pub case_44 :
      run_of (first_field 4 ++ jump 1 ++ jump 2 ++ camac_8 0x2BA70152 0xFFFFFFFC ++ literal 0x1C181F0F ++ halt)
      (hex 19 0xACC2E9A0F290688961E18FAE508FE6C1F2CFBB) []
      (answer (X + DERR) 0xAD51D0 ++ answer X 0x748053 ++ answer (Q + X) 0xB39094 ++ answer (Q + X) 0xFF72FC ++ answer (Q + X) 0x661B2F ++ answer (Q + X) 0x82851D)
      ≡ ran 0 0 6 (state_of (ended 4 0 0 0 0 12 0 6 0x04010080 0 6 2) (hex 19 0x9490FC722F1B1D850F1F181C508FE6C1F2CFBB) [])
  pub case_45 :
      run_of (first_field 4 ++ camac_8 0x2BE33E52 0xFFFFFFFE ++ halt)
      (hex 5 0x2B2CEC69CB) (hex 5 0xFF0F141CCF)
      (answer (Q + X + DERR) 0x4D8DFE ++ answer TPE 0x776410)
      ≡ ran 0 0 2 (state_of (ended 0 0 0 0 0 2 0 2 0xA4170080 0 0 2) (hex 5 0xFE8DEC69CB) (hex 5 0xFF0F141CCF))
  pub case_46 :
      run_of (first_field 256 ++ camac_4 0x2BBC011B ++ literal 0xE0ABE7BC ++ camac_8 0x3DE63E30 0xFFFFFFF8 ++ camac_8 0x2E061141 0xFFFFFFFE ++ halt ++ halt ++ halt)
      (hex 24 0xACD653442E0BBE87AD17651BED064BAC219936A00FF2B72B) (hex 5 0xE27E0A0C46)
      (answer (Q + X) 0x80D3EE ++ answer (Q + X) 0x7B1FAE ++ answer (Q + X) 0xE06147 ++ answer (Q + X) 0xDACC81 ++ answer (Q + X) 0xE58B80 ++ answer (Q + X) 0xAFCD2B)
      ≡ ran 0 0 6 (state_of (ended 4 0 0 0 0 24 0 6 0x00000080 0 20 4) (hex 24 0xBCE7ABE0AE1F7BC04761E0C081CCDAC0808BE5C02BCDAFC0) (hex 5 0xE27E0A0C46))
  pub case_47 :
      run_of (first_field 4 ++ camac_4 0x2FC90109 ++ camac_8 0x2C023E52 0xFFFFFFFF ++ camac_8 0x3DD33E70 0x00B89C4B ++ camac_4 0x29A3130A ++ jump 5 ++ camac_8 0x2C020621 0xFFFFFFFA ++ halt)
      (hex 25 0xD7137B91C193CDFD0E8C284776206A392B7F29C43AD35A5FF4) []
      (answer ERR 0x4A024F ++ answer (Q + X + DERR) 0x4F1DE8 ++ answer (ERR + DERR) 0x198DAA)
      ≡ ran 0 0 3 (state_of (ended 2 0 0 0 0 2 0 3 0x84870080 0 0 2) (hex 25 0xE81D7B91C193CDFD0E8C284776206A392B7F29C43AD35A5FF4) [])
  pub case_48 :
      run_of (first_field 3 ++ camac_4 0x2E863E10 ++ camac_8 0x2DB03E69 0x00E699CC ++ camac_8 0x2C153E70 0x003A53E9 ++ halt ++ jump 1 ++ camac_8 0x3C0C0158 0xFFFFFFF8)
      (hex 10 0x2FA7E3CC013A46955E4B) (hex 3 0x704D18)
      (hex 8 0x0200FC0000000000 ++ answer (Q + X) 0x27AD5C ++ answer (Q + X) 0xA71705 ++ answer (Q + X) 0xE2CCE2)
      ≡ ran 22 0 0 (state_of (ended 0 0 0 0 0 0 0 0 0x00000000 0 0 0) (hex 10 0x2FA7E3CC013A46955E4B) (hex 3 0x704D18))
  pub case_49 :
      run_of (hex 21 0x01040000000400100800510B063DFCFFFFFF2F0000)
      (hex 12 0xDCD84A8EA209E1172BB8815B) (hex 7 0x56DCBD7D867171)
      (hex 8 0xADA62F810E826159 ++ hex 8 0x99C738BD4582A362)
      ≡ ran 2 0 0 (state_of (ended 0 0 0 0 0 0 0 0 0x00000000 0 0 0) (hex 12 0xDCD84A8EA209E1172BB8815B) (hex 7 0x56DCBD7D867171))
  pub case_50 :
      run_of (first_field 3 ++ literal 0xB0C7FCA7 ++ camac_8 0x2A173E78 0x0062DF1B ++ halt)
      (hex 3 0xC6EBEF) (hex 9 0xAB0949B7F9627E0563)
      (answer X 0x5FD762 ++ answer X 0x8F245D ++ answer X 0x94A278)
      ≡ ran 20 0 0 (state_of (ended 0 0 0 0 0 0 0 0 0x00000000 0 0 0) (hex 3 0xC6EBEF) (hex 9 0xAB0949B7F9627E0563))
  pub case_52 :
      run_of (first_field 1 ++ literal 0x18661F82 ++ literal 0x0B6B5858 ++ camac_8 0x2FE03E23 0xFFFFFFFD ++ halt ++ halt)
      (hex 14 0x92C68B9A8CBF7F96295A3D9A4B7C) []
      (answer X 0x6E3AF3)
      ≡ ran 0 0 1 (state_of (ended 3 0 0 0 0 8 0 1 0x00010080 0 0 0) (hex 14 0x821F661858586B0B295A3D9A4B7C) [])
  pub case_55 : run_of (first_field 2 ++ halt) (hex 2 0x036F) [] [] ≡ ran 0 0 0 (state_of (ended 0 0 0 0 0 0 0 0 0x00000080 0 0 0) (hex 2 0x036F) [])
  pub case_56 :
      run_of (first_field 3 ++ camac_8 0x2E100173 0x00003233 ++ literal 0x0D4A0C28 ++ camac_8 0x17B12D61 0x0044EB64 ++ camac_8 0x3DF23E28 0xFFFFFFFA ++ halt)
      (hex 6 0xB005EE52DFEA) (hex 12 0x51FE7D46AE0B6C134E811822)
      (answer (Q + X + TPE + LPE) 0x0EBC4F ++ answer 0 0x41B9CF)
      ≡ ran 0 0 2 (state_of (ended 2 0 0 0 0 4 0 2 0x70370080 0 0 0) (hex 6 0x280C4A0DDFEA) (hex 12 0x51FE7D46AE0B6C134E811822))
  pub case_57 :
      run_of (first_field 2 ++ camac_8 0x2BD60360 0x0075BD7F ++ camac_8 0x3C470352 0xFFFFFFFE ++ halt)
      (hex 10 0xCF75B31958B2D9ACA92E) []
      (answer (Q + X) 0x4F15E7 ++ answer X 0x96DA0F ++ answer (Q + X) 0xC19BD5 ++ answer X 0x3DA7C8 ++ answer (Q + X) 0x2B1CD2)
      ≡ ran 0 0 5 (state_of (ended 2 0 0 0 0 4 0 5 0x00010080 0 2 2) (hex 10 0xD59BD21C58B2D9ACA92E) [])
  pub case_58 :
      run_of (first_field 10637 ++ jump 1 ++ camac_8 0x2FB5011B 0xFFFFFFFF ++ halt)
      (hex 39 0xF765A457B64C4BEF590A7598FF55DDDA7F0890E721C51B673997B9D6AF694BE483BBD52C79D583) (hex 27 0xED195F6CC4C9D555DCF1A204D745B8DB173D26C78388147DF72552)
      (hex 8 0xA2DA975CEAAB8DE5 ++ hex 8 0xF3966858E5D0DE79)
      ≡ ran 8 12 0 (state_of (ended 0 0 0 0 0 0 0 0 0x00000000 0 0 0) (hex 39 0xF765A457B64C4BEF590A7598FF55DDDA7F0890E721C51B673997B9D6AF694BE483BBD52C79D583) (hex 27 0xED195F6CC4C9D555DCF1A204D745B8DB173D26C78388147DF72552))
  pub case_60 :
      run_of (first_field 2 ++ camac_8 0x2BB23E33 0xFFFFFFFE ++ camac_8 0x2BB10171 0x0018CB68 ++ camac_4 0x2BF93D0B ++ camac_8 0x2D410153 0xFFFFFFFF ++ halt)
      (hex 9 0xBA6C0DDD22CBC1CA0B) (hex 4 0x054BAB64)
      (answer (Q + X) 0x9AD211 ++ answer (Q + X) 0xF6A430 ++ answer (Q + X) 0xF156CE ++ answer (Q + X) 0xA46900 ++ answer (Q + X) 0x88B2FF)
      ≡ ran 0 0 5 (state_of (ended 4 0 0 0 0 2 4 5 0x00000080 0 0 2) (hex 9 0xFFB20DDD22CBC1CA0B) (hex 4 0x054BAB64))
  pub case_61 :
      run_of (first_field 4 ++ camac_8 0x2C123863 0x0000C415 ++ jump 3 ++ halt ++ camac_8 0x2EB73E79 0x008A3BF9 ++ camac_8 0x2BC1124B 0xFFFFFFFF ++ jump 6 ++ halt)
      (hex 2 0x48E5) []
      (answer (Q + X + TPE + LPE) 0x5B8504 ++ answer (Q + ERR + DERR) 0x801793)
      ≡ ran 0 0 2 (state_of (ended 3 0 0 0 0 0 0 2 0x94F60080 0 0 0) (hex 2 0x48E5) [])
  pub case_62 :
      run_of (first_field 3 ++ camac_4 0x2BA63E11 ++ camac_8 0x3C060153 0xFFFFFFFC ++ halt)
      (hex 17 0xF16368C56976AD14A5851A2E611B43747B) []
      (answer (Q + X + DERR) 0xD546C5 ++ answer (Q + X + DERR) 0x18D514 ++ answer DERR 0x9D85DC ++ answer (Q + X + DERR) 0xA51DFE ++ answer (Q + X) 0x8434A1 ++ answer Q 0xA1F689)
      ≡ ran 0 0 6 (state_of (ended 2 0 0 0 0 12 0 6 0x04030080 0 10 2) (hex 17 0xC546D5C014D5FE1DA13489F6611B43747B) [])
  pub case_64 :
      run_of (first_field 4 ++ camac_8 0x3C6C1D59 0xFFFFFFFA ++ camac_8 0x2E731260 0x00D2411B ++ literal 0x519D2A36 ++ camac_8 0x0C110132 0xFFFFFFFF ++ halt)
      (hex 6 0xF0E2B9AF19C0) (hex 13 0xF289844545FC776677BB56E5CA)
      (answer (Q + X + DERR) 0x124A82 ++ answer (X + DERR) 0x267A4D ++ answer (Q + X) 0xFBB570 ++ answer (Q + X + DERR) 0xE11768 ++ answer (Q + X) 0xC281FB)
      ≡ ran 21 0 0 (state_of (ended 0 0 0 0 0 0 0 0 0x00000000 0 0 0) (hex 6 0xF0E2B9AF19C0) (hex 13 0xF289844545FC776677BB56E5CA))
  pub case_65 : run_of (first_field 1 ++ halt ++ camac_4 0x21833E03 ++ camac_8 0x23C10139 0xFFFFFF3C) (hex 5 0x877C98DB3A) [] []
      ≡ ran 0 0 0 (state_of (ended 0 0 0 0 0 0 0 0 0x00000080 0 0 0) (hex 5 0x877C98DB3A) [])
  pub case_66 :
      run_of (first_field 1 ++ camac_8 0x1E14362B 0xFFFFFFFF ++ jump 65535 ++ camac_4 0x06443E18 ++ camac_8 0x2DB02F7A 0x0000BA98 ++ halt)
      (hex 7 0x6CE4BB76BE306E) (hex 36 0x68C1095179F77B03AE17F881DE12BA3FFE864722DA4DB1715D895F506796E46149BC809F)
      (hex 8 0x91A13DD451441AB2 ++ hex 8 0x68DEC66BED71DDFD)
      ≡ ran 10 18 0 (state_of (ended 0 0 0 0 0 0 0 0 0x00000000 0 0 0) (hex 7 0x6CE4BB76BE306E) (hex 36 0x68C1095179F77B03AE17F881DE12BA3FFE864722DA4DB1715D895F506796E46149BC809F))
  pub case_67 : run_of (first_field 256 ++ camac_4 0x2DA40612 ++ literal 0x81952C73 ++ halt) (hex 7 0xCF7E2DE38A0FB8) [] (answer (Q + X) 0xFF669B)
      ≡ ran 20 0 0 (state_of (ended 0 0 0 0 0 0 0 0 0x00000000 0 0 0) (hex 7 0xCF7E2DE38A0FB8) [])
  pub case_69 :
      run_of (first_field 3 ++ camac_4 0x2DCD0111 ++ halt) (hex 6 0x9966CD0C54C2) [] (answer X 0xB3C133 ++ answer X 0x32E14B ++ answer X 0x6CBE43)
      ≡ ran 0 0 3 (state_of (ended 0 0 0 0 0 0 0 3 0xB2010080 0 0 0) (hex 6 0x9966CD0C54C2) [])
  pub case_70 :
      run_of (first_field 2 ++ camac_8 0x2FA22A48 0xFFFFFFF8 ++ camac_4 0x2FAD350A ++ halt)
      (hex 16 0x47084913ED2FD981060A2B653E0E8339) (hex 6 0xA0D315285F54)
      (answer 0 0xA56EE4)
      ≡ ran 0 0 1 (state_of (ended 0 0 0 0 0 0 0 1 0x80030080 0 0 0) (hex 16 0x47084913ED2FD981060A2B653E0E8339) (hex 6 0xA0D315285F54))
  pub case_71 :
      run_of (first_field 2 ++ camac_8 0x2D173A20 0xFFFFFFFA ++ camac_8 0x28103E31 0xFFFFFFFE ++ camac_8 0x3C0C1958 0xFFFFFFFA ++ halt)
      (hex 14 0xC3061A3C44833655E2BD77E84208) (hex 16 0x8BB9287ED3B7D5D5669A2948FA215312)
      (answer X 0xF190B5 ++ answer (Q + ERR + TPE + LPE) 0x553D60 ++ answer (Q + X) 0xAAD8CE ++ answer (Q + X + DERR) 0x3F4EAF ++ answer X 0x536352)
      ≡ ran 0 0 5 (state_of (ended 3 0 0 0 0 12 4 5 0x04B70080 0 8 4) (hex 14 0xCED8AAC0AF4E3FC0526353404208) (hex 16 0x8BB9287ED3B7D5D5669A2948FA215312))
  pub case_74 : run_of (first_field 2 ++ halt) [] [] (answer (Q + X + ERR + DERR) 0x281629)
      ≡ ran 0 0 0 (state_of (ended 0 0 0 0 0 0 0 0 0x00000080 0 0 0) [] [])
  pub case_78 :
      run_of (first_field 3 ++ camac_8 0x27B1247A 0x0000CDAB ++ camac_4 0x2DA40110 ++ camac_8 0x2DB70140 0xFFFFFFFE ++ camac_8 0x3C4C3E58 0xFFFFFFFC ++ halt)
      (hex 11 0x98EDFFF97E2DE61B80FFE5) (hex 12 0xBFAE223B15A18C51D00FC481)
      (answer (Q + X) 0xE72844 ++ answer X 0xE07C9A ++ answer (Q + X + DERR) 0xDCBBE1 ++ answer (Q + X + DERR) 0x405F4A ++ answer X 0xCFD0E2 ++ answer (Q + X) 0xD71E90)
      ≡ ran 0 0 6 (state_of (ended 4 0 0 0 0 4 12 6 0x04010080 1 8 4) (hex 11 0xE1BBDCC07E2DE61B80FFE5) (hex 12 0xBFAE223B15A18C51D00FC481))
  pub case_79 : run_of (first_field 36921 ++ halt ++ jump 2 ++ camac_4 0x3DDB1A13) (hex 6 0xC96F826B83C4) [] []
      ≡ ran 0 0 0 (state_of (ended 0 0 0 0 0 0 0 0 0x00000080 0 0 0) (hex 6 0xC96F826B83C4) [])
  pub case_80 :
      run_of (first_field 51052 ++ camac_4 0x04E2331A ++ camac_8 0x2CD10171 0x00653B9D ++ literal 0x1A248AF0 ++ camac_8 0x2B20204A 0xFFFFFFFE ++ halt ++ halt ++ literal 0xE61AADDB)
      (hex 21 0x4F6C968A2D8D0A3F3291EBE7084AAECF3E5C07B915) (hex 4 0xA66BBD88)
      []
      ≡ ran 0 0 0 (state_of (waiting 0 1 0 2 7 0 0 0 0x00000000 0 0 0) (hex 21 0x4F6C968A2D8D0A3F3291EBE7084AAECF3E5C07B915) (hex 4 0xA66BBD88))
  pub case_81 :
      run_of (first_field 1 ++ literal 0x6DC66399 ++ camac_8 0x2DD40129 0xFFFFFFFC ++ camac_4 0x2FC32519 ++ halt)
      (hex 7 0xD18E74908A12C8) (hex 8 0x5A06F5CF21C7D64A)
      (answer X 0xF7F143 ++ answer (Q + X) 0x4F034A ++ answer (Q + X + DERR) 0xFF9B38)
      ≡ ran 20 0 0 (state_of (ended 0 0 0 0 0 0 0 0 0x00000000 0 0 0) (hex 7 0xD18E74908A12C8) (hex 8 0x5A06F5CF21C7D64A))
  pub case_83 : run_of (first_field 3 ++ halt) [] (hex 6 0x2E5A9DCDBFAB) []
      ≡ ran 0 0 0 (state_of (ended 0 0 0 0 0 0 0 0 0x00000080 0 0 0) [] (hex 6 0x2E5A9DCDBFAB))
  pub case_86 :
      run_of (first_field 2 ++ camac_4 0x2DC31219 ++ camac_8 0x3DA00153 0xFFFFFFFD ++ halt)
      (hex 10 0x4A0F0E15D5C6A960EB0B) []
      (answer (Q + X + TPE) 0x6B385C ++ answer (Q + X + DERR) 0x591AE6 ++ answer X 0xE1EE50 ++ answer (Q + ERR + LPE) 0xF282F1 ++ answer Q 0xE2411D)
      ≡ ran 0 0 5 (state_of (ended 2 0 0 0 0 10 0 5 0x04B70080 0 8 2) (hex 10 0x5C386BC0E61AF1821D41) [])
  pub case_88 :
      run_of (first_field 3 ++ camac_8 0x0DB53E71 0x00E0A03B ++ camac_8 0x2EB60160 0x008B28E2 ++ camac_4 0x3DDB3E08 ++ halt)
      (hex 4 0x708A8A61) []
      (answer X 0x678C01 ++ answer X 0xDB4CA8 ++ answer X 0xA7E7CD)
      ≡ ran 0 0 3 (state_of (ended 0 0 0 0 0 0 0 3 0xB2010080 0 0 0) (hex 4 0x708A8A61) [])
  pub case_89 :
      run_of (first_field 4 ++ camac_8 0x3C6C3B59 0xFFFFFFF8 ++ camac_8 0x2BD62B6A 0x80000000 ++ halt)
      (hex 20 0x9E9D6434BA06D47963B2693F732DCEBE737374D1) (hex 17 0xF0A4128FA5002856EEBB771D5E8204B748)
      (hex 8 0xD795D5D35C293545 ++ hex 8 0xE2F6562943BBD205)
      ≡ ran 9 18 0 (state_of (ended 0 0 0 0 0 0 0 0 0x00000000 0 0 0) (hex 20 0x9E9D6434BA06D47963B2693F732DCEBE737374D1) (hex 17 0xF0A4128FA5002856EEBB771D5E8204B748))
  pub case_90 :
      run_of (first_field 5238 ++ camac_8 0x03DA3E11 0x00000000 ++ jump 2 ++ camac_4 0x3DD8010B ++ halt)
      (hex 17 0x6375BFC2A70A1FF62E56ACFCCAF658AF8E) (hex 20 0x0127F725D5C6AC483AC4F89494B0097957B47DE8)
      (hex 8 0x314EAD8C3D93A39E ++ hex 8 0x062638596B09AD10)
      ≡ ran 8 7 0 (state_of (ended 0 0 0 0 0 0 0 0 0x00000000 0 0 0) (hex 17 0x6375BFC2A70A1FF62E56ACFCCAF658AF8E) (hex 20 0x0127F725D5C6AC483AC4F89494B0097957B47DE8))
  pub case_91 :
      run_of (hex 22 0x2E0104000100FF0010080058012C3CFEFFFFFF2F0000)
      (hex 21 0x8249308407670FC3C5505CB39D1AED4541F65A6F76) (hex 27 0xA401A48D6EF799C34FF2BD6CF7DB6B3D8D8F3D4FCDF9FA39228277)
      (hex 8 0xD69C781C7BCF61AD ++ hex 8 0x80996F11C3B22CEB)
      ≡ ran 1 0 0 (state_of (ended 0 0 0 0 0 0 0 0 0x00000000 0 0 0) (hex 21 0x8249308407670FC3C5505CB39D1AED4541F65A6F76) (hex 27 0xA401A48D6EF799C34FF2BD6CF7DB6B3D8D8F3D4FCDF9FA39228277))
  pub case_93 : run_of (first_field 2 ++ halt) [] (hex 6 0x8EFEC240022B) (answer (Q + ERR) 0xAFB629 ++ answer (Q + X + DERR) 0x7E3423)
      ≡ ran 0 0 0 (state_of (ended 0 0 0 0 0 0 0 0 0x00000080 0 0 0) [] (hex 6 0x8EFEC240022B))
  pub case_94 :
      run_of (first_field 3 ++ camac_8 0x05B2014B 0xFFFFFFFF ++ camac_8 0x2FF33E68 0x00E40595 ++ halt)
      (hex 1 0xBE) (hex 2 0xE514)
      (answer (Q + X + DERR) 0x329DC4 ++ answer X 0x7BC485 ++ answer (Q + X) 0x8B688C ++ kind 3)
      ≡ ran 0 0 2 (state_of (ended 2 0 0 0 0 0 2 2 0x04010080 1 0 2) (hex 1 0xBE) (hex 2 0xE514))
  pub case_96 :
      run_of (first_field 3 ++ camac_4 0x2C133E11 ++ camac_8 0x3C943E6A 0x0000C856 ++ literal 0xA567EB3A ++ halt ++ halt)
      (hex 3 0x8A657D) (hex 10 0x44678ED1D85A9B09C997)
      (answer ERR 0x9AABDC ++ answer (Q + X) 0x97FA61 ++ answer (X + DERR) 0x9DF15E ++ hex 4 0x00030000)
      ≡ ran 20 0 0 (state_of (ended 0 0 0 0 0 0 0 0 0x00000000 0 0 0) (hex 3 0x8A657D) (hex 10 0x44678ED1D85A9B09C997))
  pub case_97 :
      run_of (first_field 1 ++ camac_4 0x2BE42402 ++ camac_4 0x081A3E1A ++ halt ++ jump 3)
      (hex 8 0x2B289FCA13C12757) (hex 6 0xBC6C14C54E0E)
      (answer (Q + X) 0x634EBB ++ answer (Q + X + DERR) 0xC05E6B)
      ≡ ran 0 0 2 (state_of (ended 2 0 0 0 0 2 0 2 0x04000080 0 0 2) (hex 8 0xBB4E9FCA13C12757) (hex 6 0xBC6C14C54E0E))
  pub case_101 :
      run_of (first_field 4 ++ first_field 4 ++ literal 0xF037E930 ++ camac_8 0x2FE62341 0xFFFFFFFC ++ camac_4 0x1DBD3E18 ++ halt)
      (hex 28 0xCEF0799C9BF9E00807366EF0FD440347E50A6F83EA29717479F88A1F) (hex 19 0xC51EF96FADF96DFAD02B81EEC42D25CD7A69D3)
      (hex 8 0x84C21C5D942864D8 ++ hex 8 0x13B8FCB3FBFB5738)
      ≡ ran 3 7 0 (state_of (ended 0 0 0 0 0 0 0 0 0x00000000 0 0 0) (hex 28 0xCEF0799C9BF9E00807366EF0FD440347E50A6F83EA29717479F88A1F) (hex 19 0xC51EF96FADF96DFAD02B81EEC42D25CD7A69D3))
  pub case_102 : run_of (first_field 2 ++ halt ++ halt) (hex 5 0xC20E4F1BE5) [] []
      ≡ ran 0 0 0 (state_of (ended 0 0 0 0 0 0 0 0 0x00000080 0 0 0) (hex 5 0xC20E4F1BE5) [])
