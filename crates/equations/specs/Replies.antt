-- Step: one reply to an instruction of every kind, by AD, Q, X and the other bits.
-- Printed with the separate build's answers: cargo run --release --manifest-path rust/Cargo.toml -p reference --example equations write
use Rattle.std.specs.Prelude.{ℕ, ◌+◌, ◌≡◌, true, false, List, [], ◌++◌}
use Rattle.reply.specs.Effect.{state_of}
use Rattle.calls.specs.Calls.{Called, step_of}
use Rattle.worst_count.specs.Cases.{first_field, literal, halt}
use Rattle.equations.specs.Forms.{hex, camac_4, camac_8, Q, X, ERR, DERR, TPE, LPE, answer, kind, waiting, ended, operation, wants, wants_none}

-- single stop read 16 bits, by AD, Q and X
abbrev pub single_stop_read_16_0 : List ℕ → Called
single_stop_read_16_0 =
    step_of (first_field 2 ++ camac_4 0x0A620902 ++ literal 0xA1B2C3D4 ++ halt)
    (state_of (waiting 0 1 0 5 3 0 0 0 0x00000000 0 0 0) (hex 8 0x1112131415161718) [])

abbrev pub single_stop_read_16_1 : List ℕ → Called
single_stop_read_16_1 =
    step_of (first_field 2 ++ camac_4 0x0A620903 ++ literal 0xA1B2C3D4 ++ halt)
    (state_of (waiting 0 1 0 5 3 0 0 0 0x00000000 0 0 0) (hex 8 0x1112131415161718) [])

pub record SingleStopRead16 : Type 0 where
  pub ad_0_q_0_x_0 : single_stop_read_16_0 (answer 0 0x345678)
      ≡ wants_none (state_of (ended 0 0 0 0 0 0 0 1 0x80030080 0 0 0) (hex 8 0x1112131415161718) [])
  pub ad_0_q_1_x_0 : single_stop_read_16_0 (answer Q 0x345678)
      ≡ wants_none (state_of (ended 0 0 0 0 0 0 0 1 0x80020080 0 0 0) (hex 8 0x1112131415161718) [])
  pub ad_0_q_0_x_1 : single_stop_read_16_0 (answer X 0x345678)
      ≡ wants_none (state_of (ended 0 0 0 0 0 0 0 1 0x70010080 0 0 0) (hex 8 0x1112131415161718) [])
  pub ad_0_q_1_x_1 : single_stop_read_16_0 (answer (Q + X) 0x345678)
      ≡ wants_none (state_of (ended 2 0 0 0 0 8 0 1 0x00000080 0 0 2) (hex 8 0x78560000D4C3B2A1) [])
  pub ad_1_q_0_x_0 : single_stop_read_16_1 (answer 0 0x345678)
      ≡ wants_none (state_of (ended 0 0 0 0 0 0 0 1 0x70030080 0 0 0) (hex 8 0x1112131415161718) [])
  pub ad_1_q_1_x_0 : single_stop_read_16_1 (answer Q 0x345678)
      ≡ wants_none (state_of (ended 2 0 0 0 0 8 0 1 0x00020080 0 0 2) (hex 8 0x78560000D4C3B2A1) [])
  pub ad_1_q_0_x_1 : single_stop_read_16_1 (answer X 0x345678)
      ≡ wants_none (state_of (ended 0 0 0 0 0 0 0 1 0x70010080 0 0 0) (hex 8 0x1112131415161718) [])
  pub ad_1_q_1_x_1 : single_stop_read_16_1 (answer (Q + X) 0x345678)
      ≡ wants_none (state_of (ended 2 0 0 0 0 8 0 1 0x00000080 0 0 2) (hex 8 0x78560000D4C3B2A1) [])

-- single stop read 24 bits, by AD, Q and X
abbrev pub single_stop_read_24_0 : List ℕ → Called
single_stop_read_24_0 =
    step_of (first_field 2 ++ camac_4 0x02000102 ++ camac_4 0x0A620900 ++ literal 0xA1B2C3D4 ++ halt)
    (state_of (waiting 1 1 0 5 3 2 0 1 0x00000000 0 0 2) (hex 12 0x1112131415161718191A1B1C) [])

abbrev pub single_stop_read_24_1 : List ℕ → Called
single_stop_read_24_1 =
    step_of (first_field 2 ++ camac_4 0x02000102 ++ camac_4 0x0A620901 ++ literal 0xA1B2C3D4 ++ halt)
    (state_of (waiting 1 1 0 5 3 2 0 1 0x00000000 0 0 2) (hex 12 0x1112131415161718191A1B1C) [])

pub record SingleStopRead24 : Type 0 where
  pub ad_0_q_0_x_0 : single_stop_read_24_0 (answer 0 0x345678)
      ≡ wants_none (state_of (ended 1 0 0 0 0 2 0 2 0x80030080 0 0 2) (hex 12 0x1112131415161718191A1B1C) [])
  pub ad_0_q_1_x_0 : single_stop_read_24_0 (answer Q 0x345678)
      ≡ wants_none (state_of (ended 1 0 0 0 0 2 0 2 0x80020080 0 0 2) (hex 12 0x1112131415161718191A1B1C) [])
  pub ad_0_q_0_x_1 : single_stop_read_24_0 (answer X 0x345678)
      ≡ wants_none (state_of (ended 1 0 0 0 0 2 0 2 0x70010080 0 0 2) (hex 12 0x1112131415161718191A1B1C) [])
  pub ad_0_q_1_x_1 : single_stop_read_24_0 (answer (Q + X) 0x345678)
      ≡ wants_none (state_of (ended 3 0 0 0 0 12 0 2 0x00000080 0 4 4) (hex 12 0x11120000785634C0D4C3B2A1) [])
  pub ad_1_q_0_x_0 : single_stop_read_24_1 (answer 0 0x345678)
      ≡ wants_none (state_of (ended 1 0 0 0 0 2 0 2 0x70030080 0 0 2) (hex 12 0x1112131415161718191A1B1C) [])
  pub ad_1_q_1_x_0 : single_stop_read_24_1 (answer Q 0x345678)
      ≡ wants_none (state_of (ended 3 0 0 0 0 12 0 2 0x00020080 0 4 4) (hex 12 0x1112000078563480D4C3B2A1) [])
  pub ad_1_q_0_x_1 : single_stop_read_24_1 (answer X 0x345678)
      ≡ wants_none (state_of (ended 1 0 0 0 0 2 0 2 0x70010080 0 0 2) (hex 12 0x1112131415161718191A1B1C) [])
  pub ad_1_q_1_x_1 : single_stop_read_24_1 (answer (Q + X) 0x345678)
      ≡ wants_none (state_of (ended 3 0 0 0 0 12 0 2 0x00000080 0 4 4) (hex 12 0x11120000785634C0D4C3B2A1) [])

-- single stop write 16 bits, by AD, Q and X
abbrev pub single_stop_write_16_0 : List ℕ → Called
single_stop_write_16_0 =
    step_of (first_field 2 ++ camac_4 0x0A710902 ++ literal 0xA1B2C3D4 ++ halt)
    (state_of (waiting 0 1 0 5 3 0 0 0 0x00000000 0 0 0) (hex 4 0x11121314) (hex 2 0x8182))

abbrev pub single_stop_write_16_1 : List ℕ → Called
single_stop_write_16_1 =
    step_of (first_field 2 ++ camac_4 0x0A710903 ++ literal 0xA1B2C3D4 ++ halt)
    (state_of (waiting 0 1 0 5 3 0 0 0 0x00000000 0 0 0) (hex 4 0x11121314) (hex 2 0x8182))

pub record SingleStopWrite16 : Type 0 where
  pub ad_0_q_0_x_0 : single_stop_write_16_0 (answer 0 0x345678)
      ≡ wants_none (state_of (ended 0 0 0 0 0 0 0 1 0x80030080 0 0 0) (hex 4 0x11121314) (hex 2 0x8182))
  pub ad_0_q_1_x_0 : single_stop_write_16_0 (answer Q 0x345678)
      ≡ wants_none (state_of (ended 0 0 0 0 0 0 0 1 0x80020080 0 0 0) (hex 4 0x11121314) (hex 2 0x8182))
  pub ad_0_q_0_x_1 : single_stop_write_16_0 (answer X 0x345678)
      ≡ wants_none (state_of (ended 0 0 0 0 0 0 0 1 0x70010080 0 0 0) (hex 4 0x11121314) (hex 2 0x8182))
  pub ad_0_q_1_x_1 : single_stop_write_16_0 (answer (Q + X) 0x345678)
      ≡ wants_none (state_of (ended 2 0 0 0 0 4 2 1 0x00000080 1 0 2) (hex 4 0xD4C3B2A1) (hex 2 0x8182))
  pub ad_1_q_0_x_0 : single_stop_write_16_1 (answer 0 0x345678)
      ≡ wants_none (state_of (ended 0 0 0 0 0 0 0 1 0x70030080 0 0 0) (hex 4 0x11121314) (hex 2 0x8182))
  pub ad_1_q_1_x_0 : single_stop_write_16_1 (answer Q 0x345678)
      ≡ wants_none (state_of (ended 2 0 0 0 0 4 2 1 0x00020080 1 0 2) (hex 4 0xD4C3B2A1) (hex 2 0x8182))
  pub ad_1_q_0_x_1 : single_stop_write_16_1 (answer X 0x345678)
      ≡ wants_none (state_of (ended 0 0 0 0 0 0 0 1 0x70010080 0 0 0) (hex 4 0x11121314) (hex 2 0x8182))
  pub ad_1_q_1_x_1 : single_stop_write_16_1 (answer (Q + X) 0x345678)
      ≡ wants_none (state_of (ended 2 0 0 0 0 4 2 1 0x00000080 1 0 2) (hex 4 0xD4C3B2A1) (hex 2 0x8182))

-- single stop write 24 bits, by AD, Q and X
abbrev pub single_stop_write_24_0 : List ℕ → Called
single_stop_write_24_0 =
    step_of (first_field 2 ++ camac_4 0x02100102 ++ camac_4 0x0A710900 ++ literal 0xA1B2C3D4 ++ halt)
    (state_of (waiting 1 1 0 5 3 0 2 1 0x00000000 1 0 2) (hex 4 0x11121314) (hex 8 0x8182838485868788))

abbrev pub single_stop_write_24_1 : List ℕ → Called
single_stop_write_24_1 =
    step_of (first_field 2 ++ camac_4 0x02100102 ++ camac_4 0x0A710901 ++ literal 0xA1B2C3D4 ++ halt)
    (state_of (waiting 1 1 0 5 3 0 2 1 0x00000000 1 0 2) (hex 4 0x11121314) (hex 8 0x8182838485868788))

pub record SingleStopWrite24 : Type 0 where
  pub ad_0_q_0_x_0 : single_stop_write_24_0 (answer 0 0x345678)
      ≡ wants_none (state_of (ended 1 0 0 0 0 0 2 2 0x80030080 1 0 2) (hex 4 0x11121314) (hex 8 0x8182838485868788))
  pub ad_0_q_1_x_0 : single_stop_write_24_0 (answer Q 0x345678)
      ≡ wants_none (state_of (ended 1 0 0 0 0 0 2 2 0x80020080 1 0 2) (hex 4 0x11121314) (hex 8 0x8182838485868788))
  pub ad_0_q_0_x_1 : single_stop_write_24_0 (answer X 0x345678)
      ≡ wants_none (state_of (ended 1 0 0 0 0 0 2 2 0x70010080 1 0 2) (hex 4 0x11121314) (hex 8 0x8182838485868788))
  pub ad_0_q_1_x_1 : single_stop_write_24_0 (answer (Q + X) 0x345678)
      ≡ wants_none (state_of (ended 3 0 0 0 0 4 8 2 0x00000080 1 4 4) (hex 4 0xD4C3B2A1) (hex 8 0x8182838485868788))
  pub ad_1_q_0_x_0 : single_stop_write_24_1 (answer 0 0x345678)
      ≡ wants_none (state_of (ended 1 0 0 0 0 0 2 2 0x70030080 1 0 2) (hex 4 0x11121314) (hex 8 0x8182838485868788))
  pub ad_1_q_1_x_0 : single_stop_write_24_1 (answer Q 0x345678)
      ≡ wants_none (state_of (ended 3 0 0 0 0 4 8 2 0x00020080 1 4 4) (hex 4 0xD4C3B2A1) (hex 8 0x8182838485868788))
  pub ad_1_q_0_x_1 : single_stop_write_24_1 (answer X 0x345678)
      ≡ wants_none (state_of (ended 1 0 0 0 0 0 2 2 0x70010080 1 0 2) (hex 4 0x11121314) (hex 8 0x8182838485868788))
  pub ad_1_q_1_x_1 : single_stop_write_24_1 (answer (Q + X) 0x345678)
      ≡ wants_none (state_of (ended 3 0 0 0 0 4 8 2 0x00000080 1 4 4) (hex 4 0xD4C3B2A1) (hex 8 0x8182838485868788))

-- single stop control, by AD, Q and X
abbrev pub single_stop_control_0 : List ℕ → Called
single_stop_control_0 =
    step_of (first_field 2 ++ camac_4 0x02000102 ++ camac_4 0x0A7A0902 ++ literal 0xA1B2C3D4 ++ halt)
    (state_of (waiting 1 1 0 5 3 2 0 1 0x00000000 0 0 2) (hex 8 0x1112131415161718) [])

abbrev pub single_stop_control_1 : List ℕ → Called
single_stop_control_1 =
    step_of (first_field 2 ++ camac_4 0x02000102 ++ camac_4 0x0A7A0903 ++ literal 0xA1B2C3D4 ++ halt)
    (state_of (waiting 1 1 0 5 3 2 0 1 0x00000000 0 0 2) (hex 8 0x1112131415161718) [])

pub record SingleStopControl : Type 0 where
  pub ad_0_q_0_x_0 : single_stop_control_0 (answer 0 0x345678)
      ≡ wants_none (state_of (ended 1 0 0 0 0 2 0 2 0x80030080 0 0 2) (hex 8 0x1112131415161718) [])
  pub ad_0_q_1_x_0 : single_stop_control_0 (answer Q 0x345678)
      ≡ wants_none (state_of (ended 1 0 0 0 0 2 0 2 0x80020080 0 0 2) (hex 8 0x1112131415161718) [])
  pub ad_0_q_0_x_1 : single_stop_control_0 (answer X 0x345678)
      ≡ wants_none (state_of (ended 1 0 0 0 0 2 0 2 0x70010080 0 0 2) (hex 8 0x1112131415161718) [])
  pub ad_0_q_1_x_1 : single_stop_control_0 (answer (Q + X) 0x345678)
      ≡ wants_none (state_of (ended 3 0 0 0 0 8 0 2 0x00000080 0 0 2) (hex 8 0x11120000D4C3B2A1) [])
  pub ad_1_q_0_x_0 : single_stop_control_1 (answer 0 0x345678)
      ≡ wants_none (state_of (ended 1 0 0 0 0 2 0 2 0x70030080 0 0 2) (hex 8 0x1112131415161718) [])
  pub ad_1_q_1_x_0 : single_stop_control_1 (answer Q 0x345678)
      ≡ wants_none (state_of (ended 3 0 0 0 0 8 0 2 0x00020080 0 0 2) (hex 8 0x11120000D4C3B2A1) [])
  pub ad_1_q_0_x_1 : single_stop_control_1 (answer X 0x345678)
      ≡ wants_none (state_of (ended 1 0 0 0 0 2 0 2 0x70010080 0 0 2) (hex 8 0x1112131415161718) [])
  pub ad_1_q_1_x_1 : single_stop_control_1 (answer (Q + X) 0x345678)
      ≡ wants_none (state_of (ended 3 0 0 0 0 8 0 2 0x00000080 0 0 2) (hex 8 0x11120000D4C3B2A1) [])

-- single ignore read 16 bits, by AD, Q and X
abbrev pub single_ignore_read_16_0 : List ℕ → Called
single_ignore_read_16_0 =
    step_of (first_field 2 ++ camac_4 0x0A62090A ++ literal 0xA1B2C3D4 ++ halt)
    (state_of (waiting 0 1 0 5 3 0 0 0 0x00000000 0 0 0) (hex 8 0x1112131415161718) [])

abbrev pub single_ignore_read_16_1 : List ℕ → Called
single_ignore_read_16_1 =
    step_of (first_field 2 ++ camac_4 0x0A62090B ++ literal 0xA1B2C3D4 ++ halt)
    (state_of (waiting 0 1 0 5 3 0 0 0 0x00000000 0 0 0) (hex 8 0x1112131415161718) [])

pub record SingleIgnoreRead16 : Type 0 where
  pub ad_0_q_0_x_0 : single_ignore_read_16_0 (answer 0 0x345678)
      ≡ wants_none (state_of (ended 0 0 0 0 0 0 0 1 0x80030080 0 0 0) (hex 8 0x1112131415161718) [])
  pub ad_0_q_1_x_0 : single_ignore_read_16_0 (answer Q 0x345678)
      ≡ wants_none (state_of (ended 0 0 0 0 0 0 0 1 0x80020080 0 0 0) (hex 8 0x1112131415161718) [])
  pub ad_0_q_0_x_1 : single_ignore_read_16_0 (answer X 0x345678)
      ≡ wants_none (state_of (ended 2 0 0 0 0 8 0 1 0x00010080 0 0 2) (hex 8 0x78560000D4C3B2A1) [])
  pub ad_0_q_1_x_1 : single_ignore_read_16_0 (answer (Q + X) 0x345678)
      ≡ wants_none (state_of (ended 2 0 0 0 0 8 0 1 0x00000080 0 0 2) (hex 8 0x78560000D4C3B2A1) [])
  pub ad_1_q_0_x_0 : single_ignore_read_16_1 (answer 0 0x345678)
      ≡ wants_none (state_of (ended 2 0 0 0 0 8 0 1 0x00030080 0 0 2) (hex 8 0x78560000D4C3B2A1) [])
  pub ad_1_q_1_x_0 : single_ignore_read_16_1 (answer Q 0x345678)
      ≡ wants_none (state_of (ended 2 0 0 0 0 8 0 1 0x00020080 0 0 2) (hex 8 0x78560000D4C3B2A1) [])
  pub ad_1_q_0_x_1 : single_ignore_read_16_1 (answer X 0x345678)
      ≡ wants_none (state_of (ended 2 0 0 0 0 8 0 1 0x00010080 0 0 2) (hex 8 0x78560000D4C3B2A1) [])
  pub ad_1_q_1_x_1 : single_ignore_read_16_1 (answer (Q + X) 0x345678)
      ≡ wants_none (state_of (ended 2 0 0 0 0 8 0 1 0x00000080 0 0 2) (hex 8 0x78560000D4C3B2A1) [])

-- single ignore read 24 bits, by AD, Q and X
abbrev pub single_ignore_read_24_0 : List ℕ → Called
single_ignore_read_24_0 =
    step_of (first_field 2 ++ camac_4 0x02000102 ++ camac_4 0x0A620908 ++ literal 0xA1B2C3D4 ++ halt)
    (state_of (waiting 1 1 0 5 3 2 0 1 0x00000000 0 0 2) (hex 12 0x1112131415161718191A1B1C) [])

abbrev pub single_ignore_read_24_1 : List ℕ → Called
single_ignore_read_24_1 =
    step_of (first_field 2 ++ camac_4 0x02000102 ++ camac_4 0x0A620909 ++ literal 0xA1B2C3D4 ++ halt)
    (state_of (waiting 1 1 0 5 3 2 0 1 0x00000000 0 0 2) (hex 12 0x1112131415161718191A1B1C) [])

pub record SingleIgnoreRead24 : Type 0 where
  pub ad_0_q_0_x_0 : single_ignore_read_24_0 (answer 0 0x345678)
      ≡ wants_none (state_of (ended 1 0 0 0 0 2 0 2 0x80030080 0 0 2) (hex 12 0x1112131415161718191A1B1C) [])
  pub ad_0_q_1_x_0 : single_ignore_read_24_0 (answer Q 0x345678)
      ≡ wants_none (state_of (ended 1 0 0 0 0 2 0 2 0x80020080 0 0 2) (hex 12 0x1112131415161718191A1B1C) [])
  pub ad_0_q_0_x_1 : single_ignore_read_24_0 (answer X 0x345678)
      ≡ wants_none (state_of (ended 3 0 0 0 0 12 0 2 0x00010080 0 4 4) (hex 12 0x1112000078563440D4C3B2A1) [])
  pub ad_0_q_1_x_1 : single_ignore_read_24_0 (answer (Q + X) 0x345678)
      ≡ wants_none (state_of (ended 3 0 0 0 0 12 0 2 0x00000080 0 4 4) (hex 12 0x11120000785634C0D4C3B2A1) [])
  pub ad_1_q_0_x_0 : single_ignore_read_24_1 (answer 0 0x345678)
      ≡ wants_none (state_of (ended 3 0 0 0 0 12 0 2 0x00030080 0 4 4) (hex 12 0x1112000078563400D4C3B2A1) [])
  pub ad_1_q_1_x_0 : single_ignore_read_24_1 (answer Q 0x345678)
      ≡ wants_none (state_of (ended 3 0 0 0 0 12 0 2 0x00020080 0 4 4) (hex 12 0x1112000078563480D4C3B2A1) [])
  pub ad_1_q_0_x_1 : single_ignore_read_24_1 (answer X 0x345678)
      ≡ wants_none (state_of (ended 3 0 0 0 0 12 0 2 0x00010080 0 4 4) (hex 12 0x1112000078563440D4C3B2A1) [])
  pub ad_1_q_1_x_1 : single_ignore_read_24_1 (answer (Q + X) 0x345678)
      ≡ wants_none (state_of (ended 3 0 0 0 0 12 0 2 0x00000080 0 4 4) (hex 12 0x11120000785634C0D4C3B2A1) [])

-- single ignore write 16 bits, by AD, Q and X
abbrev pub single_ignore_write_16_0 : List ℕ → Called
single_ignore_write_16_0 =
    step_of (first_field 2 ++ camac_4 0x0A71090A ++ literal 0xA1B2C3D4 ++ halt)
    (state_of (waiting 0 1 0 5 3 0 0 0 0x00000000 0 0 0) (hex 4 0x11121314) (hex 2 0x8182))

abbrev pub single_ignore_write_16_1 : List ℕ → Called
single_ignore_write_16_1 =
    step_of (first_field 2 ++ camac_4 0x0A71090B ++ literal 0xA1B2C3D4 ++ halt)
    (state_of (waiting 0 1 0 5 3 0 0 0 0x00000000 0 0 0) (hex 4 0x11121314) (hex 2 0x8182))

pub record SingleIgnoreWrite16 : Type 0 where
  pub ad_0_q_0_x_0 : single_ignore_write_16_0 (answer 0 0x345678)
      ≡ wants_none (state_of (ended 0 0 0 0 0 0 0 1 0x80030080 0 0 0) (hex 4 0x11121314) (hex 2 0x8182))
  pub ad_0_q_1_x_0 : single_ignore_write_16_0 (answer Q 0x345678)
      ≡ wants_none (state_of (ended 0 0 0 0 0 0 0 1 0x80020080 0 0 0) (hex 4 0x11121314) (hex 2 0x8182))
  pub ad_0_q_0_x_1 : single_ignore_write_16_0 (answer X 0x345678)
      ≡ wants_none (state_of (ended 2 0 0 0 0 4 2 1 0x00010080 1 0 2) (hex 4 0xD4C3B2A1) (hex 2 0x8182))
  pub ad_0_q_1_x_1 : single_ignore_write_16_0 (answer (Q + X) 0x345678)
      ≡ wants_none (state_of (ended 2 0 0 0 0 4 2 1 0x00000080 1 0 2) (hex 4 0xD4C3B2A1) (hex 2 0x8182))
  pub ad_1_q_0_x_0 : single_ignore_write_16_1 (answer 0 0x345678)
      ≡ wants_none (state_of (ended 2 0 0 0 0 4 2 1 0x00030080 1 0 2) (hex 4 0xD4C3B2A1) (hex 2 0x8182))
  pub ad_1_q_1_x_0 : single_ignore_write_16_1 (answer Q 0x345678)
      ≡ wants_none (state_of (ended 2 0 0 0 0 4 2 1 0x00020080 1 0 2) (hex 4 0xD4C3B2A1) (hex 2 0x8182))
  pub ad_1_q_0_x_1 : single_ignore_write_16_1 (answer X 0x345678)
      ≡ wants_none (state_of (ended 2 0 0 0 0 4 2 1 0x00010080 1 0 2) (hex 4 0xD4C3B2A1) (hex 2 0x8182))
  pub ad_1_q_1_x_1 : single_ignore_write_16_1 (answer (Q + X) 0x345678)
      ≡ wants_none (state_of (ended 2 0 0 0 0 4 2 1 0x00000080 1 0 2) (hex 4 0xD4C3B2A1) (hex 2 0x8182))

-- single ignore write 24 bits, by AD, Q and X
abbrev pub single_ignore_write_24_0 : List ℕ → Called
single_ignore_write_24_0 =
    step_of (first_field 2 ++ camac_4 0x02100102 ++ camac_4 0x0A710908 ++ literal 0xA1B2C3D4 ++ halt)
    (state_of (waiting 1 1 0 5 3 0 2 1 0x00000000 1 0 2) (hex 4 0x11121314) (hex 8 0x8182838485868788))

abbrev pub single_ignore_write_24_1 : List ℕ → Called
single_ignore_write_24_1 =
    step_of (first_field 2 ++ camac_4 0x02100102 ++ camac_4 0x0A710909 ++ literal 0xA1B2C3D4 ++ halt)
    (state_of (waiting 1 1 0 5 3 0 2 1 0x00000000 1 0 2) (hex 4 0x11121314) (hex 8 0x8182838485868788))

pub record SingleIgnoreWrite24 : Type 0 where
  pub ad_0_q_0_x_0 : single_ignore_write_24_0 (answer 0 0x345678)
      ≡ wants_none (state_of (ended 1 0 0 0 0 0 2 2 0x80030080 1 0 2) (hex 4 0x11121314) (hex 8 0x8182838485868788))
  pub ad_0_q_1_x_0 : single_ignore_write_24_0 (answer Q 0x345678)
      ≡ wants_none (state_of (ended 1 0 0 0 0 0 2 2 0x80020080 1 0 2) (hex 4 0x11121314) (hex 8 0x8182838485868788))
  pub ad_0_q_0_x_1 : single_ignore_write_24_0 (answer X 0x345678)
      ≡ wants_none (state_of (ended 3 0 0 0 0 4 8 2 0x00010080 1 4 4) (hex 4 0xD4C3B2A1) (hex 8 0x8182838485868788))
  pub ad_0_q_1_x_1 : single_ignore_write_24_0 (answer (Q + X) 0x345678)
      ≡ wants_none (state_of (ended 3 0 0 0 0 4 8 2 0x00000080 1 4 4) (hex 4 0xD4C3B2A1) (hex 8 0x8182838485868788))
  pub ad_1_q_0_x_0 : single_ignore_write_24_1 (answer 0 0x345678)
      ≡ wants_none (state_of (ended 3 0 0 0 0 4 8 2 0x00030080 1 4 4) (hex 4 0xD4C3B2A1) (hex 8 0x8182838485868788))
  pub ad_1_q_1_x_0 : single_ignore_write_24_1 (answer Q 0x345678)
      ≡ wants_none (state_of (ended 3 0 0 0 0 4 8 2 0x00020080 1 4 4) (hex 4 0xD4C3B2A1) (hex 8 0x8182838485868788))
  pub ad_1_q_0_x_1 : single_ignore_write_24_1 (answer X 0x345678)
      ≡ wants_none (state_of (ended 3 0 0 0 0 4 8 2 0x00010080 1 4 4) (hex 4 0xD4C3B2A1) (hex 8 0x8182838485868788))
  pub ad_1_q_1_x_1 : single_ignore_write_24_1 (answer (Q + X) 0x345678)
      ≡ wants_none (state_of (ended 3 0 0 0 0 4 8 2 0x00000080 1 4 4) (hex 4 0xD4C3B2A1) (hex 8 0x8182838485868788))

-- single ignore control, by AD, Q and X
abbrev pub single_ignore_control_0 : List ℕ → Called
single_ignore_control_0 =
    step_of (first_field 2 ++ camac_4 0x02000102 ++ camac_4 0x0A7A090A ++ literal 0xA1B2C3D4 ++ halt)
    (state_of (waiting 1 1 0 5 3 2 0 1 0x00000000 0 0 2) (hex 8 0x1112131415161718) [])

abbrev pub single_ignore_control_1 : List ℕ → Called
single_ignore_control_1 =
    step_of (first_field 2 ++ camac_4 0x02000102 ++ camac_4 0x0A7A090B ++ literal 0xA1B2C3D4 ++ halt)
    (state_of (waiting 1 1 0 5 3 2 0 1 0x00000000 0 0 2) (hex 8 0x1112131415161718) [])

pub record SingleIgnoreControl : Type 0 where
  pub ad_0_q_0_x_0 : single_ignore_control_0 (answer 0 0x345678)
      ≡ wants_none (state_of (ended 1 0 0 0 0 2 0 2 0x80030080 0 0 2) (hex 8 0x1112131415161718) [])
  pub ad_0_q_1_x_0 : single_ignore_control_0 (answer Q 0x345678)
      ≡ wants_none (state_of (ended 1 0 0 0 0 2 0 2 0x80020080 0 0 2) (hex 8 0x1112131415161718) [])
  pub ad_0_q_0_x_1 : single_ignore_control_0 (answer X 0x345678)
      ≡ wants_none (state_of (ended 3 0 0 0 0 8 0 2 0x00010080 0 0 2) (hex 8 0x11120000D4C3B2A1) [])
  pub ad_0_q_1_x_1 : single_ignore_control_0 (answer (Q + X) 0x345678)
      ≡ wants_none (state_of (ended 3 0 0 0 0 8 0 2 0x00000080 0 0 2) (hex 8 0x11120000D4C3B2A1) [])
  pub ad_1_q_0_x_0 : single_ignore_control_1 (answer 0 0x345678)
      ≡ wants_none (state_of (ended 3 0 0 0 0 8 0 2 0x00030080 0 0 2) (hex 8 0x11120000D4C3B2A1) [])
  pub ad_1_q_1_x_0 : single_ignore_control_1 (answer Q 0x345678)
      ≡ wants_none (state_of (ended 3 0 0 0 0 8 0 2 0x00020080 0 0 2) (hex 8 0x11120000D4C3B2A1) [])
  pub ad_1_q_0_x_1 : single_ignore_control_1 (answer X 0x345678)
      ≡ wants_none (state_of (ended 3 0 0 0 0 8 0 2 0x00010080 0 0 2) (hex 8 0x11120000D4C3B2A1) [])
  pub ad_1_q_1_x_1 : single_ignore_control_1 (answer (Q + X) 0x345678)
      ≡ wants_none (state_of (ended 3 0 0 0 0 8 0 2 0x00000080 0 0 2) (hex 8 0x11120000D4C3B2A1) [])

-- single repeat read 16 bits, by AD, Q and X
abbrev pub single_repeat_read_16_0 : List ℕ → Called
single_repeat_read_16_0 =
    step_of (first_field 2 ++ camac_4 0x0A620912 ++ literal 0xA1B2C3D4 ++ halt)
    (state_of (waiting 0 1 0 5 3 0 0 0 0x00000000 0 0 0) (hex 8 0x1112131415161718) [])

abbrev pub single_repeat_read_16_1 : List ℕ → Called
single_repeat_read_16_1 =
    step_of (first_field 2 ++ camac_4 0x0A620912 ++ literal 0xA1B2C3D4 ++ halt)
    (state_of (waiting 0 1 1 5 3 0 0 0 0x00000000 0 0 0) (hex 8 0x1112131415161718) [])

abbrev pub single_repeat_read_16_2 : List ℕ → Called
single_repeat_read_16_2 =
    step_of (first_field 2 ++ camac_4 0x0A620913 ++ literal 0xA1B2C3D4 ++ halt)
    (state_of (waiting 0 1 0 5 3 0 0 0 0x00000000 0 0 0) (hex 8 0x1112131415161718) [])

abbrev pub single_repeat_read_16_3 : List ℕ → Called
single_repeat_read_16_3 =
    step_of (first_field 2 ++ camac_4 0x0A620913 ++ literal 0xA1B2C3D4 ++ halt)
    (state_of (waiting 0 1 1 5 3 0 0 0 0x00000000 0 0 0) (hex 8 0x1112131415161718) [])

pub record SingleRepeatRead16 : Type 0 where
  pub ad_0_q_0_x_0 : single_repeat_read_16_0 (answer 0 0x345678)
      ≡ wants_none (state_of (ended 0 0 0 0 0 0 0 1 0x80030080 0 0 0) (hex 8 0x1112131415161718) [])
  pub last_try_ad_0_q_0_x_0 : single_repeat_read_16_1 (answer 0 0x345678)
      ≡ wants_none (state_of (ended 0 0 0 0 0 0 0 1 0xB2030080 0 0 0) (hex 8 0x1112131415161718) [])
  pub ad_0_q_1_x_0 : single_repeat_read_16_0 (answer Q 0x345678)
      ≡ wants_none (state_of (ended 0 0 0 0 0 0 0 1 0x80020080 0 0 0) (hex 8 0x1112131415161718) [])
  pub ad_0_q_0_x_1 : single_repeat_read_16_0 (answer X 0x345678)
      ≡ wants (operation 9 5 3 2 0x000000 false) (state_of (waiting 0 1 1 5 3 0 0 1 0x00010000 0 0 0) (hex 8 0x1112131415161718) [])
  pub last_try_ad_0_q_0_x_1 : single_repeat_read_16_1 (answer X 0x345678)
      ≡ wants_none (state_of (ended 0 0 0 0 0 0 0 1 0xB2010080 0 0 0) (hex 8 0x1112131415161718) [])
  pub ad_0_q_1_x_1 : single_repeat_read_16_0 (answer (Q + X) 0x345678)
      ≡ wants_none (state_of (ended 2 0 0 0 0 8 0 1 0x00000080 0 0 2) (hex 8 0x78560000D4C3B2A1) [])
  pub ad_1_q_0_x_0 : single_repeat_read_16_2 (answer 0 0x345678)
      ≡ wants (operation 9 5 3 2 0x000000 false) (state_of (waiting 0 1 1 5 3 0 0 1 0x00030000 0 0 0) (hex 8 0x1112131415161718) [])
  pub last_try_ad_1_q_0_x_0 : single_repeat_read_16_3 (answer 0 0x345678)
      ≡ wants_none (state_of (ended 0 0 0 0 0 0 0 1 0xB2030080 0 0 0) (hex 8 0x1112131415161718) [])
  pub ad_1_q_1_x_0 : single_repeat_read_16_2 (answer Q 0x345678)
      ≡ wants_none (state_of (ended 2 0 0 0 0 8 0 1 0x00020080 0 0 2) (hex 8 0x78560000D4C3B2A1) [])
  pub ad_1_q_0_x_1 : single_repeat_read_16_2 (answer X 0x345678)
      ≡ wants (operation 9 5 3 2 0x000000 false) (state_of (waiting 0 1 1 5 3 0 0 1 0x00010000 0 0 0) (hex 8 0x1112131415161718) [])
  pub last_try_ad_1_q_0_x_1 : single_repeat_read_16_3 (answer X 0x345678)
      ≡ wants_none (state_of (ended 0 0 0 0 0 0 0 1 0xB2010080 0 0 0) (hex 8 0x1112131415161718) [])
  pub ad_1_q_1_x_1 : single_repeat_read_16_2 (answer (Q + X) 0x345678)
      ≡ wants_none (state_of (ended 2 0 0 0 0 8 0 1 0x00000080 0 0 2) (hex 8 0x78560000D4C3B2A1) [])

-- single repeat read 24 bits, by AD, Q and X
abbrev pub single_repeat_read_24_0 : List ℕ → Called
single_repeat_read_24_0 =
    step_of (first_field 2 ++ camac_4 0x02000102 ++ camac_4 0x0A620910 ++ literal 0xA1B2C3D4 ++ halt)
    (state_of (waiting 1 1 0 5 3 2 0 1 0x00000000 0 0 2) (hex 12 0x1112131415161718191A1B1C) [])

abbrev pub single_repeat_read_24_1 : List ℕ → Called
single_repeat_read_24_1 =
    step_of (first_field 2 ++ camac_4 0x02000102 ++ camac_4 0x0A620910 ++ literal 0xA1B2C3D4 ++ halt)
    (state_of (waiting 1 1 1 5 3 2 0 1 0x00000000 0 0 2) (hex 12 0x1112131415161718191A1B1C) [])

abbrev pub single_repeat_read_24_2 : List ℕ → Called
single_repeat_read_24_2 =
    step_of (first_field 2 ++ camac_4 0x02000102 ++ camac_4 0x0A620911 ++ literal 0xA1B2C3D4 ++ halt)
    (state_of (waiting 1 1 0 5 3 2 0 1 0x00000000 0 0 2) (hex 12 0x1112131415161718191A1B1C) [])

abbrev pub single_repeat_read_24_3 : List ℕ → Called
single_repeat_read_24_3 =
    step_of (first_field 2 ++ camac_4 0x02000102 ++ camac_4 0x0A620911 ++ literal 0xA1B2C3D4 ++ halt)
    (state_of (waiting 1 1 1 5 3 2 0 1 0x00000000 0 0 2) (hex 12 0x1112131415161718191A1B1C) [])

pub record SingleRepeatRead24 : Type 0 where
  pub ad_0_q_0_x_0 : single_repeat_read_24_0 (answer 0 0x345678)
      ≡ wants_none (state_of (ended 1 0 0 0 0 2 0 2 0x80030080 0 0 2) (hex 12 0x1112131415161718191A1B1C) [])
  pub last_try_ad_0_q_0_x_0 : single_repeat_read_24_1 (answer 0 0x345678)
      ≡ wants_none (state_of (ended 1 0 0 0 0 2 0 2 0xB2030080 0 0 2) (hex 12 0x1112131415161718191A1B1C) [])
  pub ad_0_q_1_x_0 : single_repeat_read_24_0 (answer Q 0x345678)
      ≡ wants_none (state_of (ended 1 0 0 0 0 2 0 2 0x80020080 0 0 2) (hex 12 0x1112131415161718191A1B1C) [])
  pub ad_0_q_0_x_1 : single_repeat_read_24_0 (answer X 0x345678)
      ≡ wants (operation 9 5 3 2 0x000000 false) (state_of (waiting 1 1 1 5 3 2 0 2 0x00010000 0 0 2) (hex 12 0x1112131415161718191A1B1C) [])
  pub last_try_ad_0_q_0_x_1 : single_repeat_read_24_1 (answer X 0x345678)
      ≡ wants_none (state_of (ended 1 0 0 0 0 2 0 2 0xB2010080 0 0 2) (hex 12 0x1112131415161718191A1B1C) [])
  pub ad_0_q_1_x_1 : single_repeat_read_24_0 (answer (Q + X) 0x345678)
      ≡ wants_none (state_of (ended 3 0 0 0 0 12 0 2 0x00000080 0 4 4) (hex 12 0x11120000785634C0D4C3B2A1) [])
  pub ad_1_q_0_x_0 : single_repeat_read_24_2 (answer 0 0x345678)
      ≡ wants (operation 9 5 3 2 0x000000 false) (state_of (waiting 1 1 1 5 3 2 0 2 0x00030000 0 0 2) (hex 12 0x1112131415161718191A1B1C) [])
  pub last_try_ad_1_q_0_x_0 : single_repeat_read_24_3 (answer 0 0x345678)
      ≡ wants_none (state_of (ended 1 0 0 0 0 2 0 2 0xB2030080 0 0 2) (hex 12 0x1112131415161718191A1B1C) [])
  pub ad_1_q_1_x_0 : single_repeat_read_24_2 (answer Q 0x345678)
      ≡ wants_none (state_of (ended 3 0 0 0 0 12 0 2 0x00020080 0 4 4) (hex 12 0x1112000078563480D4C3B2A1) [])
  pub ad_1_q_0_x_1 : single_repeat_read_24_2 (answer X 0x345678)
      ≡ wants (operation 9 5 3 2 0x000000 false) (state_of (waiting 1 1 1 5 3 2 0 2 0x00010000 0 0 2) (hex 12 0x1112131415161718191A1B1C) [])
  pub last_try_ad_1_q_0_x_1 : single_repeat_read_24_3 (answer X 0x345678)
      ≡ wants_none (state_of (ended 1 0 0 0 0 2 0 2 0xB2010080 0 0 2) (hex 12 0x1112131415161718191A1B1C) [])
  pub ad_1_q_1_x_1 : single_repeat_read_24_2 (answer (Q + X) 0x345678)
      ≡ wants_none (state_of (ended 3 0 0 0 0 12 0 2 0x00000080 0 4 4) (hex 12 0x11120000785634C0D4C3B2A1) [])

-- single repeat write 16 bits, by AD, Q and X
abbrev pub single_repeat_write_16_0 : List ℕ → Called
single_repeat_write_16_0 =
    step_of (first_field 2 ++ camac_4 0x0A710912 ++ literal 0xA1B2C3D4 ++ halt)
    (state_of (waiting 0 1 0 5 3 0 0 0 0x00000000 0 0 0) (hex 4 0x11121314) (hex 2 0x8182))

abbrev pub single_repeat_write_16_1 : List ℕ → Called
single_repeat_write_16_1 =
    step_of (first_field 2 ++ camac_4 0x0A710912 ++ literal 0xA1B2C3D4 ++ halt)
    (state_of (waiting 0 1 1 5 3 0 0 0 0x00000000 0 0 0) (hex 4 0x11121314) (hex 2 0x8182))

abbrev pub single_repeat_write_16_2 : List ℕ → Called
single_repeat_write_16_2 =
    step_of (first_field 2 ++ camac_4 0x0A710913 ++ literal 0xA1B2C3D4 ++ halt)
    (state_of (waiting 0 1 0 5 3 0 0 0 0x00000000 0 0 0) (hex 4 0x11121314) (hex 2 0x8182))

abbrev pub single_repeat_write_16_3 : List ℕ → Called
single_repeat_write_16_3 =
    step_of (first_field 2 ++ camac_4 0x0A710913 ++ literal 0xA1B2C3D4 ++ halt)
    (state_of (waiting 0 1 1 5 3 0 0 0 0x00000000 0 0 0) (hex 4 0x11121314) (hex 2 0x8182))

pub record SingleRepeatWrite16 : Type 0 where
  pub ad_0_q_0_x_0 : single_repeat_write_16_0 (answer 0 0x345678)
      ≡ wants_none (state_of (ended 0 0 0 0 0 0 0 1 0x80030080 0 0 0) (hex 4 0x11121314) (hex 2 0x8182))
  pub last_try_ad_0_q_0_x_0 : single_repeat_write_16_1 (answer 0 0x345678)
      ≡ wants_none (state_of (ended 0 0 0 0 0 0 0 1 0xB2030080 0 0 0) (hex 4 0x11121314) (hex 2 0x8182))
  pub ad_0_q_1_x_0 : single_repeat_write_16_0 (answer Q 0x345678)
      ≡ wants_none (state_of (ended 0 0 0 0 0 0 0 1 0x80020080 0 0 0) (hex 4 0x11121314) (hex 2 0x8182))
  pub ad_0_q_0_x_1 : single_repeat_write_16_0 (answer X 0x345678)
      ≡ wants (operation 9 5 3 17 0x008281 false) (state_of (waiting 0 1 1 5 3 0 0 1 0x00010000 0 0 0) (hex 4 0x11121314) (hex 2 0x8182))
  pub last_try_ad_0_q_0_x_1 : single_repeat_write_16_1 (answer X 0x345678)
      ≡ wants_none (state_of (ended 0 0 0 0 0 0 0 1 0xB2010080 0 0 0) (hex 4 0x11121314) (hex 2 0x8182))
  pub ad_0_q_1_x_1 : single_repeat_write_16_0 (answer (Q + X) 0x345678)
      ≡ wants_none (state_of (ended 2 0 0 0 0 4 2 1 0x00000080 1 0 2) (hex 4 0xD4C3B2A1) (hex 2 0x8182))
  pub ad_1_q_0_x_0 : single_repeat_write_16_2 (answer 0 0x345678)
      ≡ wants (operation 9 5 3 17 0x008281 false) (state_of (waiting 0 1 1 5 3 0 0 1 0x00030000 0 0 0) (hex 4 0x11121314) (hex 2 0x8182))
  pub last_try_ad_1_q_0_x_0 : single_repeat_write_16_3 (answer 0 0x345678)
      ≡ wants_none (state_of (ended 0 0 0 0 0 0 0 1 0xB2030080 0 0 0) (hex 4 0x11121314) (hex 2 0x8182))
  pub ad_1_q_1_x_0 : single_repeat_write_16_2 (answer Q 0x345678)
      ≡ wants_none (state_of (ended 2 0 0 0 0 4 2 1 0x00020080 1 0 2) (hex 4 0xD4C3B2A1) (hex 2 0x8182))
  pub ad_1_q_0_x_1 : single_repeat_write_16_2 (answer X 0x345678)
      ≡ wants (operation 9 5 3 17 0x008281 false) (state_of (waiting 0 1 1 5 3 0 0 1 0x00010000 0 0 0) (hex 4 0x11121314) (hex 2 0x8182))
  pub last_try_ad_1_q_0_x_1 : single_repeat_write_16_3 (answer X 0x345678)
      ≡ wants_none (state_of (ended 0 0 0 0 0 0 0 1 0xB2010080 0 0 0) (hex 4 0x11121314) (hex 2 0x8182))
  pub ad_1_q_1_x_1 : single_repeat_write_16_2 (answer (Q + X) 0x345678)
      ≡ wants_none (state_of (ended 2 0 0 0 0 4 2 1 0x00000080 1 0 2) (hex 4 0xD4C3B2A1) (hex 2 0x8182))

-- single repeat write 24 bits, by AD, Q and X
abbrev pub single_repeat_write_24_0 : List ℕ → Called
single_repeat_write_24_0 =
    step_of (first_field 2 ++ camac_4 0x02100102 ++ camac_4 0x0A710910 ++ literal 0xA1B2C3D4 ++ halt)
    (state_of (waiting 1 1 0 5 3 0 2 1 0x00000000 1 0 2) (hex 4 0x11121314) (hex 8 0x8182838485868788))

abbrev pub single_repeat_write_24_1 : List ℕ → Called
single_repeat_write_24_1 =
    step_of (first_field 2 ++ camac_4 0x02100102 ++ camac_4 0x0A710910 ++ literal 0xA1B2C3D4 ++ halt)
    (state_of (waiting 1 1 1 5 3 0 2 1 0x00000000 1 0 2) (hex 4 0x11121314) (hex 8 0x8182838485868788))

abbrev pub single_repeat_write_24_2 : List ℕ → Called
single_repeat_write_24_2 =
    step_of (first_field 2 ++ camac_4 0x02100102 ++ camac_4 0x0A710911 ++ literal 0xA1B2C3D4 ++ halt)
    (state_of (waiting 1 1 0 5 3 0 2 1 0x00000000 1 0 2) (hex 4 0x11121314) (hex 8 0x8182838485868788))

abbrev pub single_repeat_write_24_3 : List ℕ → Called
single_repeat_write_24_3 =
    step_of (first_field 2 ++ camac_4 0x02100102 ++ camac_4 0x0A710911 ++ literal 0xA1B2C3D4 ++ halt)
    (state_of (waiting 1 1 1 5 3 0 2 1 0x00000000 1 0 2) (hex 4 0x11121314) (hex 8 0x8182838485868788))

pub record SingleRepeatWrite24 : Type 0 where
  pub ad_0_q_0_x_0 : single_repeat_write_24_0 (answer 0 0x345678)
      ≡ wants_none (state_of (ended 1 0 0 0 0 0 2 2 0x80030080 1 0 2) (hex 4 0x11121314) (hex 8 0x8182838485868788))
  pub last_try_ad_0_q_0_x_0 : single_repeat_write_24_1 (answer 0 0x345678)
      ≡ wants_none (state_of (ended 1 0 0 0 0 0 2 2 0xB2030080 1 0 2) (hex 4 0x11121314) (hex 8 0x8182838485868788))
  pub ad_0_q_1_x_0 : single_repeat_write_24_0 (answer Q 0x345678)
      ≡ wants_none (state_of (ended 1 0 0 0 0 0 2 2 0x80020080 1 0 2) (hex 4 0x11121314) (hex 8 0x8182838485868788))
  pub ad_0_q_0_x_1 : single_repeat_write_24_0 (answer X 0x345678)
      ≡ wants (operation 9 5 3 17 0x878685 false) (state_of (waiting 1 1 1 5 3 0 2 2 0x00010000 1 0 2) (hex 4 0x11121314) (hex 8 0x8182838485868788))
  pub last_try_ad_0_q_0_x_1 : single_repeat_write_24_1 (answer X 0x345678)
      ≡ wants_none (state_of (ended 1 0 0 0 0 0 2 2 0xB2010080 1 0 2) (hex 4 0x11121314) (hex 8 0x8182838485868788))
  pub ad_0_q_1_x_1 : single_repeat_write_24_0 (answer (Q + X) 0x345678)
      ≡ wants_none (state_of (ended 3 0 0 0 0 4 8 2 0x00000080 1 4 4) (hex 4 0xD4C3B2A1) (hex 8 0x8182838485868788))
  pub ad_1_q_0_x_0 : single_repeat_write_24_2 (answer 0 0x345678)
      ≡ wants (operation 9 5 3 17 0x878685 false) (state_of (waiting 1 1 1 5 3 0 2 2 0x00030000 1 0 2) (hex 4 0x11121314) (hex 8 0x8182838485868788))
  pub last_try_ad_1_q_0_x_0 : single_repeat_write_24_3 (answer 0 0x345678)
      ≡ wants_none (state_of (ended 1 0 0 0 0 0 2 2 0xB2030080 1 0 2) (hex 4 0x11121314) (hex 8 0x8182838485868788))
  pub ad_1_q_1_x_0 : single_repeat_write_24_2 (answer Q 0x345678)
      ≡ wants_none (state_of (ended 3 0 0 0 0 4 8 2 0x00020080 1 4 4) (hex 4 0xD4C3B2A1) (hex 8 0x8182838485868788))
  pub ad_1_q_0_x_1 : single_repeat_write_24_2 (answer X 0x345678)
      ≡ wants (operation 9 5 3 17 0x878685 false) (state_of (waiting 1 1 1 5 3 0 2 2 0x00010000 1 0 2) (hex 4 0x11121314) (hex 8 0x8182838485868788))
  pub last_try_ad_1_q_0_x_1 : single_repeat_write_24_3 (answer X 0x345678)
      ≡ wants_none (state_of (ended 1 0 0 0 0 0 2 2 0xB2010080 1 0 2) (hex 4 0x11121314) (hex 8 0x8182838485868788))
  pub ad_1_q_1_x_1 : single_repeat_write_24_2 (answer (Q + X) 0x345678)
      ≡ wants_none (state_of (ended 3 0 0 0 0 4 8 2 0x00000080 1 4 4) (hex 4 0xD4C3B2A1) (hex 8 0x8182838485868788))

-- single repeat control, by AD, Q and X
abbrev pub single_repeat_control_0 : List ℕ → Called
single_repeat_control_0 =
    step_of (first_field 2 ++ camac_4 0x02000102 ++ camac_4 0x0A7A0912 ++ literal 0xA1B2C3D4 ++ halt)
    (state_of (waiting 1 1 0 5 3 2 0 1 0x00000000 0 0 2) (hex 8 0x1112131415161718) [])

abbrev pub single_repeat_control_1 : List ℕ → Called
single_repeat_control_1 =
    step_of (first_field 2 ++ camac_4 0x02000102 ++ camac_4 0x0A7A0912 ++ literal 0xA1B2C3D4 ++ halt)
    (state_of (waiting 1 1 1 5 3 2 0 1 0x00000000 0 0 2) (hex 8 0x1112131415161718) [])

abbrev pub single_repeat_control_2 : List ℕ → Called
single_repeat_control_2 =
    step_of (first_field 2 ++ camac_4 0x02000102 ++ camac_4 0x0A7A0913 ++ literal 0xA1B2C3D4 ++ halt)
    (state_of (waiting 1 1 0 5 3 2 0 1 0x00000000 0 0 2) (hex 8 0x1112131415161718) [])

abbrev pub single_repeat_control_3 : List ℕ → Called
single_repeat_control_3 =
    step_of (first_field 2 ++ camac_4 0x02000102 ++ camac_4 0x0A7A0913 ++ literal 0xA1B2C3D4 ++ halt)
    (state_of (waiting 1 1 1 5 3 2 0 1 0x00000000 0 0 2) (hex 8 0x1112131415161718) [])

pub record SingleRepeatControl : Type 0 where
  pub ad_0_q_0_x_0 : single_repeat_control_0 (answer 0 0x345678)
      ≡ wants_none (state_of (ended 1 0 0 0 0 2 0 2 0x80030080 0 0 2) (hex 8 0x1112131415161718) [])
  pub last_try_ad_0_q_0_x_0 : single_repeat_control_1 (answer 0 0x345678)
      ≡ wants_none (state_of (ended 1 0 0 0 0 2 0 2 0xB2030080 0 0 2) (hex 8 0x1112131415161718) [])
  pub ad_0_q_1_x_0 : single_repeat_control_0 (answer Q 0x345678)
      ≡ wants_none (state_of (ended 1 0 0 0 0 2 0 2 0x80020080 0 0 2) (hex 8 0x1112131415161718) [])
  pub ad_0_q_0_x_1 : single_repeat_control_0 (answer X 0x345678)
      ≡ wants (operation 9 5 3 26 0x000000 false) (state_of (waiting 1 1 1 5 3 2 0 2 0x00010000 0 0 2) (hex 8 0x1112131415161718) [])
  pub last_try_ad_0_q_0_x_1 : single_repeat_control_1 (answer X 0x345678)
      ≡ wants_none (state_of (ended 1 0 0 0 0 2 0 2 0xB2010080 0 0 2) (hex 8 0x1112131415161718) [])
  pub ad_0_q_1_x_1 : single_repeat_control_0 (answer (Q + X) 0x345678)
      ≡ wants_none (state_of (ended 3 0 0 0 0 8 0 2 0x00000080 0 0 2) (hex 8 0x11120000D4C3B2A1) [])
  pub ad_1_q_0_x_0 : single_repeat_control_2 (answer 0 0x345678)
      ≡ wants (operation 9 5 3 26 0x000000 false) (state_of (waiting 1 1 1 5 3 2 0 2 0x00030000 0 0 2) (hex 8 0x1112131415161718) [])
  pub last_try_ad_1_q_0_x_0 : single_repeat_control_3 (answer 0 0x345678)
      ≡ wants_none (state_of (ended 1 0 0 0 0 2 0 2 0xB2030080 0 0 2) (hex 8 0x1112131415161718) [])
  pub ad_1_q_1_x_0 : single_repeat_control_2 (answer Q 0x345678)
      ≡ wants_none (state_of (ended 3 0 0 0 0 8 0 2 0x00020080 0 0 2) (hex 8 0x11120000D4C3B2A1) [])
  pub ad_1_q_0_x_1 : single_repeat_control_2 (answer X 0x345678)
      ≡ wants (operation 9 5 3 26 0x000000 false) (state_of (waiting 1 1 1 5 3 2 0 2 0x00010000 0 0 2) (hex 8 0x1112131415161718) [])
  pub last_try_ad_1_q_0_x_1 : single_repeat_control_3 (answer X 0x345678)
      ≡ wants_none (state_of (ended 1 0 0 0 0 2 0 2 0xB2010080 0 0 2) (hex 8 0x1112131415161718) [])
  pub ad_1_q_1_x_1 : single_repeat_control_2 (answer (Q + X) 0x345678)
      ≡ wants_none (state_of (ended 3 0 0 0 0 8 0 2 0x00000080 0 0 2) (hex 8 0x11120000D4C3B2A1) [])

-- single scan read 16 bits, by AD, Q and X
abbrev pub single_scan_read_16_0 : List ℕ → Called
single_scan_read_16_0 =
    step_of (first_field 2 ++ camac_4 0x2DC2091A ++ literal 0xA1B2C3D4 ++ halt)
    (state_of (waiting 0 1 0 22 14 0 0 0 0x00000000 0 0 0) (hex 8 0x1112131415161718) [])

abbrev pub single_scan_read_16_1 : List ℕ → Called
single_scan_read_16_1 =
    step_of (first_field 2 ++ camac_4 0x2DC2091B ++ literal 0xA1B2C3D4 ++ halt)
    (state_of (waiting 0 1 0 22 14 0 0 0 0x00000000 0 0 0) (hex 8 0x1112131415161718) [])

pub record SingleScanRead16 : Type 0 where
  pub ad_0_q_0_x_0 : single_scan_read_16_0 (answer 0 0x345678)
      ≡ wants (operation 9 23 0 2 0x000000 false) (state_of (waiting 0 1 0 23 0 0 0 1 0x00030000 0 0 0) (hex 8 0x1112131415161718) [])
  pub ad_0_q_1_x_0 : single_scan_read_16_0 (answer Q 0x345678)
      ≡ wants (operation 9 23 0 2 0x000000 false) (state_of (waiting 0 1 0 23 0 0 0 1 0x00020000 0 0 0) (hex 8 0x1112131415161718) [])
  pub ad_0_q_0_x_1 : single_scan_read_16_0 (answer X 0x345678)
      ≡ wants (operation 9 23 0 2 0x000000 false) (state_of (waiting 0 1 0 23 0 0 0 1 0x00010000 0 0 0) (hex 8 0x1112131415161718) [])
  pub ad_0_q_1_x_1 : single_scan_read_16_0 (answer (Q + X) 0x345678)
      ≡ wants_none (state_of (ended 2 0 0 0 0 8 0 1 0x00000080 0 0 2) (hex 8 0x78560000D4C3B2A1) [])
  pub ad_1_q_0_x_0 : single_scan_read_16_1 (answer 0 0x345678)
      ≡ wants (operation 9 23 0 2 0x000000 false) (state_of (waiting 0 1 0 23 0 0 0 1 0x00030000 0 0 0) (hex 8 0x1112131415161718) [])
  pub ad_1_q_1_x_0 : single_scan_read_16_1 (answer Q 0x345678)
      ≡ wants (operation 9 23 0 2 0x000000 false) (state_of (waiting 0 1 0 23 0 0 0 1 0x00020000 0 0 0) (hex 8 0x1112131415161718) [])
  pub ad_1_q_0_x_1 : single_scan_read_16_1 (answer X 0x345678)
      ≡ wants (operation 9 23 0 2 0x000000 false) (state_of (waiting 0 1 0 23 0 0 0 1 0x00010000 0 0 0) (hex 8 0x1112131415161718) [])
  pub ad_1_q_1_x_1 : single_scan_read_16_1 (answer (Q + X) 0x345678)
      ≡ wants_none (state_of (ended 2 0 0 0 0 8 0 1 0x00000080 0 0 2) (hex 8 0x78560000D4C3B2A1) [])

-- single scan read 24 bits, by AD, Q and X
abbrev pub single_scan_read_24_0 : List ℕ → Called
single_scan_read_24_0 =
    step_of (first_field 2 ++ camac_4 0x02000102 ++ camac_4 0x2DC20918 ++ literal 0xA1B2C3D4 ++ halt)
    (state_of (waiting 1 1 0 22 14 2 0 1 0x00000000 0 0 2) (hex 12 0x1112131415161718191A1B1C) [])

abbrev pub single_scan_read_24_1 : List ℕ → Called
single_scan_read_24_1 =
    step_of (first_field 2 ++ camac_4 0x02000102 ++ camac_4 0x2DC20919 ++ literal 0xA1B2C3D4 ++ halt)
    (state_of (waiting 1 1 0 22 14 2 0 1 0x00000000 0 0 2) (hex 12 0x1112131415161718191A1B1C) [])

pub record SingleScanRead24 : Type 0 where
  pub ad_0_q_0_x_0 : single_scan_read_24_0 (answer 0 0x345678)
      ≡ wants (operation 9 23 0 2 0x000000 false) (state_of (waiting 1 1 0 23 0 2 0 2 0x00030000 0 0 2) (hex 12 0x1112131415161718191A1B1C) [])
  pub ad_0_q_1_x_0 : single_scan_read_24_0 (answer Q 0x345678)
      ≡ wants (operation 9 23 0 2 0x000000 false) (state_of (waiting 1 1 0 23 0 2 0 2 0x00020000 0 0 2) (hex 12 0x1112131415161718191A1B1C) [])
  pub ad_0_q_0_x_1 : single_scan_read_24_0 (answer X 0x345678)
      ≡ wants (operation 9 23 0 2 0x000000 false) (state_of (waiting 1 1 0 23 0 2 0 2 0x00010000 0 0 2) (hex 12 0x1112131415161718191A1B1C) [])
  pub ad_0_q_1_x_1 : single_scan_read_24_0 (answer (Q + X) 0x345678)
      ≡ wants_none (state_of (ended 3 0 0 0 0 12 0 2 0x00000080 0 4 4) (hex 12 0x11120000785634C0D4C3B2A1) [])
  pub ad_1_q_0_x_0 : single_scan_read_24_1 (answer 0 0x345678)
      ≡ wants (operation 9 23 0 2 0x000000 false) (state_of (waiting 1 1 0 23 0 2 0 2 0x00030000 0 0 2) (hex 12 0x1112131415161718191A1B1C) [])
  pub ad_1_q_1_x_0 : single_scan_read_24_1 (answer Q 0x345678)
      ≡ wants (operation 9 23 0 2 0x000000 false) (state_of (waiting 1 1 0 23 0 2 0 2 0x00020000 0 0 2) (hex 12 0x1112131415161718191A1B1C) [])
  pub ad_1_q_0_x_1 : single_scan_read_24_1 (answer X 0x345678)
      ≡ wants (operation 9 23 0 2 0x000000 false) (state_of (waiting 1 1 0 23 0 2 0 2 0x00010000 0 0 2) (hex 12 0x1112131415161718191A1B1C) [])
  pub ad_1_q_1_x_1 : single_scan_read_24_1 (answer (Q + X) 0x345678)
      ≡ wants_none (state_of (ended 3 0 0 0 0 12 0 2 0x00000080 0 4 4) (hex 12 0x11120000785634C0D4C3B2A1) [])

-- single scan write 16 bits, by AD, Q and X
abbrev pub single_scan_write_16_0 : List ℕ → Called
single_scan_write_16_0 =
    step_of (first_field 2 ++ camac_4 0x2DD1091A ++ literal 0xA1B2C3D4 ++ halt)
    (state_of (waiting 0 1 0 22 14 0 0 0 0x00000000 0 0 0) (hex 4 0x11121314) (hex 2 0x8182))

abbrev pub single_scan_write_16_1 : List ℕ → Called
single_scan_write_16_1 =
    step_of (first_field 2 ++ camac_4 0x2DD1091B ++ literal 0xA1B2C3D4 ++ halt)
    (state_of (waiting 0 1 0 22 14 0 0 0 0x00000000 0 0 0) (hex 4 0x11121314) (hex 2 0x8182))

pub record SingleScanWrite16 : Type 0 where
  pub ad_0_q_0_x_0 : single_scan_write_16_0 (answer 0 0x345678)
      ≡ wants (operation 9 23 0 17 0x008281 false) (state_of (waiting 0 1 0 23 0 0 0 1 0x00030000 0 0 0) (hex 4 0x11121314) (hex 2 0x8182))
  pub ad_0_q_1_x_0 : single_scan_write_16_0 (answer Q 0x345678)
      ≡ wants (operation 9 23 0 17 0x008281 false) (state_of (waiting 0 1 0 23 0 0 0 1 0x00020000 0 0 0) (hex 4 0x11121314) (hex 2 0x8182))
  pub ad_0_q_0_x_1 : single_scan_write_16_0 (answer X 0x345678)
      ≡ wants (operation 9 23 0 17 0x008281 false) (state_of (waiting 0 1 0 23 0 0 0 1 0x00010000 0 0 0) (hex 4 0x11121314) (hex 2 0x8182))
  pub ad_0_q_1_x_1 : single_scan_write_16_0 (answer (Q + X) 0x345678)
      ≡ wants_none (state_of (ended 2 0 0 0 0 4 2 1 0x00000080 1 0 2) (hex 4 0xD4C3B2A1) (hex 2 0x8182))
  pub ad_1_q_0_x_0 : single_scan_write_16_1 (answer 0 0x345678)
      ≡ wants (operation 9 23 0 17 0x008281 false) (state_of (waiting 0 1 0 23 0 0 0 1 0x00030000 0 0 0) (hex 4 0x11121314) (hex 2 0x8182))
  pub ad_1_q_1_x_0 : single_scan_write_16_1 (answer Q 0x345678)
      ≡ wants (operation 9 23 0 17 0x008281 false) (state_of (waiting 0 1 0 23 0 0 0 1 0x00020000 0 0 0) (hex 4 0x11121314) (hex 2 0x8182))
  pub ad_1_q_0_x_1 : single_scan_write_16_1 (answer X 0x345678)
      ≡ wants (operation 9 23 0 17 0x008281 false) (state_of (waiting 0 1 0 23 0 0 0 1 0x00010000 0 0 0) (hex 4 0x11121314) (hex 2 0x8182))
  pub ad_1_q_1_x_1 : single_scan_write_16_1 (answer (Q + X) 0x345678)
      ≡ wants_none (state_of (ended 2 0 0 0 0 4 2 1 0x00000080 1 0 2) (hex 4 0xD4C3B2A1) (hex 2 0x8182))

-- single scan write 24 bits, by AD, Q and X
abbrev pub single_scan_write_24_0 : List ℕ → Called
single_scan_write_24_0 =
    step_of (first_field 2 ++ camac_4 0x02100102 ++ camac_4 0x2DD10918 ++ literal 0xA1B2C3D4 ++ halt)
    (state_of (waiting 1 1 0 22 14 0 2 1 0x00000000 1 0 2) (hex 4 0x11121314) (hex 8 0x8182838485868788))

abbrev pub single_scan_write_24_1 : List ℕ → Called
single_scan_write_24_1 =
    step_of (first_field 2 ++ camac_4 0x02100102 ++ camac_4 0x2DD10919 ++ literal 0xA1B2C3D4 ++ halt)
    (state_of (waiting 1 1 0 22 14 0 2 1 0x00000000 1 0 2) (hex 4 0x11121314) (hex 8 0x8182838485868788))

pub record SingleScanWrite24 : Type 0 where
  pub ad_0_q_0_x_0 : single_scan_write_24_0 (answer 0 0x345678)
      ≡ wants (operation 9 23 0 17 0x878685 false) (state_of (waiting 1 1 0 23 0 0 2 2 0x00030000 1 0 2) (hex 4 0x11121314) (hex 8 0x8182838485868788))
  pub ad_0_q_1_x_0 : single_scan_write_24_0 (answer Q 0x345678)
      ≡ wants (operation 9 23 0 17 0x878685 false) (state_of (waiting 1 1 0 23 0 0 2 2 0x00020000 1 0 2) (hex 4 0x11121314) (hex 8 0x8182838485868788))
  pub ad_0_q_0_x_1 : single_scan_write_24_0 (answer X 0x345678)
      ≡ wants (operation 9 23 0 17 0x878685 false) (state_of (waiting 1 1 0 23 0 0 2 2 0x00010000 1 0 2) (hex 4 0x11121314) (hex 8 0x8182838485868788))
  pub ad_0_q_1_x_1 : single_scan_write_24_0 (answer (Q + X) 0x345678)
      ≡ wants_none (state_of (ended 3 0 0 0 0 4 8 2 0x00000080 1 4 4) (hex 4 0xD4C3B2A1) (hex 8 0x8182838485868788))
  pub ad_1_q_0_x_0 : single_scan_write_24_1 (answer 0 0x345678)
      ≡ wants (operation 9 23 0 17 0x878685 false) (state_of (waiting 1 1 0 23 0 0 2 2 0x00030000 1 0 2) (hex 4 0x11121314) (hex 8 0x8182838485868788))
  pub ad_1_q_1_x_0 : single_scan_write_24_1 (answer Q 0x345678)
      ≡ wants (operation 9 23 0 17 0x878685 false) (state_of (waiting 1 1 0 23 0 0 2 2 0x00020000 1 0 2) (hex 4 0x11121314) (hex 8 0x8182838485868788))
  pub ad_1_q_0_x_1 : single_scan_write_24_1 (answer X 0x345678)
      ≡ wants (operation 9 23 0 17 0x878685 false) (state_of (waiting 1 1 0 23 0 0 2 2 0x00010000 1 0 2) (hex 4 0x11121314) (hex 8 0x8182838485868788))
  pub ad_1_q_1_x_1 : single_scan_write_24_1 (answer (Q + X) 0x345678)
      ≡ wants_none (state_of (ended 3 0 0 0 0 4 8 2 0x00000080 1 4 4) (hex 4 0xD4C3B2A1) (hex 8 0x8182838485868788))

-- single scan control, by AD, Q and X
abbrev pub single_scan_control_0 : List ℕ → Called
single_scan_control_0 =
    step_of (first_field 2 ++ camac_4 0x02000102 ++ camac_4 0x2DDA091A ++ literal 0xA1B2C3D4 ++ halt)
    (state_of (waiting 1 1 0 22 14 2 0 1 0x00000000 0 0 2) (hex 8 0x1112131415161718) [])

abbrev pub single_scan_control_1 : List ℕ → Called
single_scan_control_1 =
    step_of (first_field 2 ++ camac_4 0x02000102 ++ camac_4 0x2DDA091B ++ literal 0xA1B2C3D4 ++ halt)
    (state_of (waiting 1 1 0 22 14 2 0 1 0x00000000 0 0 2) (hex 8 0x1112131415161718) [])

pub record SingleScanControl : Type 0 where
  pub ad_0_q_0_x_0 : single_scan_control_0 (answer 0 0x345678)
      ≡ wants (operation 9 23 0 26 0x000000 false) (state_of (waiting 1 1 0 23 0 2 0 2 0x00030000 0 0 2) (hex 8 0x1112131415161718) [])
  pub ad_0_q_1_x_0 : single_scan_control_0 (answer Q 0x345678)
      ≡ wants (operation 9 23 0 26 0x000000 false) (state_of (waiting 1 1 0 23 0 2 0 2 0x00020000 0 0 2) (hex 8 0x1112131415161718) [])
  pub ad_0_q_0_x_1 : single_scan_control_0 (answer X 0x345678)
      ≡ wants (operation 9 23 0 26 0x000000 false) (state_of (waiting 1 1 0 23 0 2 0 2 0x00010000 0 0 2) (hex 8 0x1112131415161718) [])
  pub ad_0_q_1_x_1 : single_scan_control_0 (answer (Q + X) 0x345678)
      ≡ wants_none (state_of (ended 3 0 0 0 0 8 0 2 0x00000080 0 0 2) (hex 8 0x11120000D4C3B2A1) [])
  pub ad_1_q_0_x_0 : single_scan_control_1 (answer 0 0x345678)
      ≡ wants (operation 9 23 0 26 0x000000 false) (state_of (waiting 1 1 0 23 0 2 0 2 0x00030000 0 0 2) (hex 8 0x1112131415161718) [])
  pub ad_1_q_1_x_0 : single_scan_control_1 (answer Q 0x345678)
      ≡ wants (operation 9 23 0 26 0x000000 false) (state_of (waiting 1 1 0 23 0 2 0 2 0x00020000 0 0 2) (hex 8 0x1112131415161718) [])
  pub ad_1_q_0_x_1 : single_scan_control_1 (answer X 0x345678)
      ≡ wants (operation 9 23 0 26 0x000000 false) (state_of (waiting 1 1 0 23 0 2 0 2 0x00010000 0 0 2) (hex 8 0x1112131415161718) [])
  pub ad_1_q_1_x_1 : single_scan_control_1 (answer (Q + X) 0x345678)
      ≡ wants_none (state_of (ended 3 0 0 0 0 8 0 2 0x00000080 0 0 2) (hex 8 0x11120000D4C3B2A1) [])

-- block stop read 16 bits, by AD, Q and X
abbrev pub block_stop_read_16_0 : List ℕ → Called
block_stop_read_16_0 =
    step_of (first_field 2 ++ camac_8 0x0A620922 0xFFFFFFFE ++ literal 0xA1B2C3D4 ++ halt)
    (state_of (waiting 0 2 0 5 3 0 0 0 0x00000000 0 0 0) (hex 8 0x1112131415161718) [])

abbrev pub block_stop_read_16_1 : List ℕ → Called
block_stop_read_16_1 =
    step_of (first_field 2 ++ camac_8 0x0A620922 0xFFFFFFFE ++ literal 0xA1B2C3D4 ++ halt)
    (state_of (waiting 0 1 0 5 3 2 0 0 0x00000000 0 0 0) (hex 8 0x1112131415161718) [])

abbrev pub block_stop_read_16_2 : List ℕ → Called
block_stop_read_16_2 =
    step_of (first_field 2 ++ camac_8 0x0A620923 0xFFFFFFFE ++ literal 0xA1B2C3D4 ++ halt)
    (state_of (waiting 0 2 0 5 3 0 0 0 0x00000000 0 0 0) (hex 8 0x1112131415161718) [])

pub record BlockStopRead16 : Type 0 where
  pub ad_0_q_0_x_0 : block_stop_read_16_0 (answer 0 0x345678)
      ≡ wants_none (state_of (ended 0 0 0 0 0 0 0 1 0x80030080 0 0 0) (hex 8 0x1112131415161718) [])
  pub ad_0_q_1_x_0 : block_stop_read_16_0 (answer Q 0x345678)
      ≡ wants_none (state_of (ended 0 0 0 0 0 0 0 1 0x80020080 0 0 0) (hex 8 0x1112131415161718) [])
  pub ad_0_q_0_x_1 : block_stop_read_16_0 (answer X 0x345678)
      ≡ wants_none (state_of (ended 2 0 0 0 0 4 0 1 0x00010080 0 0 0) (hex 8 0xD4C3B2A115161718) [])
  pub last_word_ad_0_q_0_x_1 : block_stop_read_16_1 (answer X 0x345678)
      ≡ wants_none (state_of (ended 2 0 0 0 0 8 0 1 0x00010080 0 0 0) (hex 8 0x11120000D4C3B2A1) [])
  pub ad_0_q_1_x_1 : block_stop_read_16_0 (answer (Q + X) 0x345678)
      ≡ wants (operation 9 5 3 2 0x000000 false) (state_of (waiting 0 1 0 5 3 2 0 1 0x00000000 0 0 2) (hex 8 0x7856131415161718) [])
  pub last_word_ad_0_q_1_x_1 : block_stop_read_16_1 (answer (Q + X) 0x345678)
      ≡ wants_none (state_of (ended 2 0 0 0 0 8 0 1 0x00000080 0 2 2) (hex 8 0x11127856D4C3B2A1) [])
  pub ad_1_q_0_x_0 : block_stop_read_16_2 (answer 0 0x345678)
      ≡ wants_none (state_of (ended 2 0 0 0 0 4 0 1 0x00030080 0 0 0) (hex 8 0xD4C3B2A115161718) [])
  pub ad_1_q_1_x_0 : block_stop_read_16_2 (answer Q 0x345678)
      ≡ wants (operation 9 5 3 2 0x000000 false) (state_of (waiting 0 1 0 5 3 2 0 1 0x00020000 0 0 2) (hex 8 0x7856131415161718) [])
  pub ad_1_q_0_x_1 : block_stop_read_16_2 (answer X 0x345678)
      ≡ wants_none (state_of (ended 2 0 0 0 0 4 0 1 0x00010080 0 0 0) (hex 8 0xD4C3B2A115161718) [])
  pub ad_1_q_1_x_1 : block_stop_read_16_2 (answer (Q + X) 0x345678)
      ≡ wants (operation 9 5 3 2 0x000000 false) (state_of (waiting 0 1 0 5 3 2 0 1 0x00000000 0 0 2) (hex 8 0x7856131415161718) [])

-- block stop read 24 bits, by AD, Q and X
abbrev pub block_stop_read_24_0 : List ℕ → Called
block_stop_read_24_0 =
    step_of (first_field 2 ++ camac_4 0x02000102 ++ camac_8 0x0A620920 0xFFFFFFFC ++ literal 0xA1B2C3D4 ++ halt)
    (state_of (waiting 1 2 0 5 3 2 0 1 0x00000000 0 0 2) (hex 16 0x1112131415161718191A1B1C1D1E1F20) [])

abbrev pub block_stop_read_24_1 : List ℕ → Called
block_stop_read_24_1 =
    step_of (first_field 2 ++ camac_4 0x02000102 ++ camac_8 0x0A620920 0xFFFFFFFC ++ literal 0xA1B2C3D4 ++ halt)
    (state_of (waiting 1 1 0 5 3 8 0 1 0x00000000 0 0 2) (hex 16 0x1112131415161718191A1B1C1D1E1F20) [])

abbrev pub block_stop_read_24_2 : List ℕ → Called
block_stop_read_24_2 =
    step_of (first_field 2 ++ camac_4 0x02000102 ++ camac_8 0x0A620921 0xFFFFFFFC ++ literal 0xA1B2C3D4 ++ halt)
    (state_of (waiting 1 2 0 5 3 2 0 1 0x00000000 0 0 2) (hex 16 0x1112131415161718191A1B1C1D1E1F20) [])

pub record BlockStopRead24 : Type 0 where
  pub ad_0_q_0_x_0 : block_stop_read_24_0 (answer 0 0x345678)
      ≡ wants_none (state_of (ended 1 0 0 0 0 2 0 2 0x80030080 0 0 2) (hex 16 0x1112131415161718191A1B1C1D1E1F20) [])
  pub ad_0_q_1_x_0 : block_stop_read_24_0 (answer Q 0x345678)
      ≡ wants_none (state_of (ended 1 0 0 0 0 2 0 2 0x80020080 0 0 2) (hex 16 0x1112131415161718191A1B1C1D1E1F20) [])
  pub ad_0_q_0_x_1 : block_stop_read_24_0 (answer X 0x345678)
      ≡ wants_none (state_of (ended 3 0 0 0 0 8 0 2 0x00010080 0 0 2) (hex 16 0x11120000D4C3B2A1191A1B1C1D1E1F20) [])
  pub last_word_ad_0_q_0_x_1 : block_stop_read_24_1 (answer X 0x345678)
      ≡ wants_none (state_of (ended 3 0 0 0 0 12 0 2 0x00010080 0 0 2) (hex 16 0x1112131415161718D4C3B2A11D1E1F20) [])
  pub ad_0_q_1_x_1 : block_stop_read_24_0 (answer (Q + X) 0x345678)
      ≡ wants (operation 9 5 3 2 0x000000 false) (state_of (waiting 1 1 0 5 3 8 0 2 0x00000000 0 4 4) (hex 16 0x11120000785634C0191A1B1C1D1E1F20) [])
  pub last_word_ad_0_q_1_x_1 : block_stop_read_24_1 (answer (Q + X) 0x345678)
      ≡ wants_none (state_of (ended 3 0 0 0 0 16 0 2 0x00000080 0 8 4) (hex 16 0x1112131415161718785634C0D4C3B2A1) [])
  pub ad_1_q_0_x_0 : block_stop_read_24_2 (answer 0 0x345678)
      ≡ wants_none (state_of (ended 3 0 0 0 0 8 0 2 0x00030080 0 0 2) (hex 16 0x11120000D4C3B2A1191A1B1C1D1E1F20) [])
  pub ad_1_q_1_x_0 : block_stop_read_24_2 (answer Q 0x345678)
      ≡ wants (operation 9 5 3 2 0x000000 false) (state_of (waiting 1 1 0 5 3 8 0 2 0x00020000 0 4 4) (hex 16 0x1112000078563480191A1B1C1D1E1F20) [])
  pub ad_1_q_0_x_1 : block_stop_read_24_2 (answer X 0x345678)
      ≡ wants_none (state_of (ended 3 0 0 0 0 8 0 2 0x00010080 0 0 2) (hex 16 0x11120000D4C3B2A1191A1B1C1D1E1F20) [])
  pub ad_1_q_1_x_1 : block_stop_read_24_2 (answer (Q + X) 0x345678)
      ≡ wants (operation 9 5 3 2 0x000000 false) (state_of (waiting 1 1 0 5 3 8 0 2 0x00000000 0 4 4) (hex 16 0x11120000785634C0191A1B1C1D1E1F20) [])

-- block stop write 16 bits, by AD, Q and X
abbrev pub block_stop_write_16_0 : List ℕ → Called
block_stop_write_16_0 =
    step_of (first_field 2 ++ camac_8 0x0A710922 0xFFFFFFFE ++ literal 0xA1B2C3D4 ++ halt)
    (state_of (waiting 0 2 0 5 3 0 0 0 0x00000000 0 0 0) (hex 4 0x11121314) (hex 4 0x81828384))

abbrev pub block_stop_write_16_1 : List ℕ → Called
block_stop_write_16_1 =
    step_of (first_field 2 ++ camac_8 0x0A710922 0xFFFFFFFE ++ literal 0xA1B2C3D4 ++ halt)
    (state_of (waiting 0 1 0 5 3 0 2 0 0x00000000 0 0 0) (hex 4 0x11121314) (hex 4 0x81828384))

abbrev pub block_stop_write_16_2 : List ℕ → Called
block_stop_write_16_2 =
    step_of (first_field 2 ++ camac_8 0x0A710923 0xFFFFFFFE ++ literal 0xA1B2C3D4 ++ halt)
    (state_of (waiting 0 2 0 5 3 0 0 0 0x00000000 0 0 0) (hex 4 0x11121314) (hex 4 0x81828384))

pub record BlockStopWrite16 : Type 0 where
  pub ad_0_q_0_x_0 : block_stop_write_16_0 (answer 0 0x345678)
      ≡ wants_none (state_of (ended 0 0 0 0 0 0 0 1 0x80030080 0 0 0) (hex 4 0x11121314) (hex 4 0x81828384))
  pub ad_0_q_1_x_0 : block_stop_write_16_0 (answer Q 0x345678)
      ≡ wants_none (state_of (ended 0 0 0 0 0 0 0 1 0x80020080 0 0 0) (hex 4 0x11121314) (hex 4 0x81828384))
  pub ad_0_q_0_x_1 : block_stop_write_16_0 (answer X 0x345678)
      ≡ wants_none (state_of (ended 2 0 0 0 0 4 0 1 0x00010080 0 0 0) (hex 4 0xD4C3B2A1) (hex 4 0x81828384))
  pub last_word_ad_0_q_0_x_1 : block_stop_write_16_1 (answer X 0x345678)
      ≡ wants_none (state_of (ended 2 0 0 0 0 4 2 1 0x00010080 0 0 0) (hex 4 0xD4C3B2A1) (hex 4 0x81828384))
  pub ad_0_q_1_x_1 : block_stop_write_16_0 (answer (Q + X) 0x345678)
      ≡ wants (operation 9 5 3 17 0x008483 false) (state_of (waiting 0 1 0 5 3 0 2 1 0x00000000 1 0 2) (hex 4 0x11121314) (hex 4 0x81828384))
  pub last_word_ad_0_q_1_x_1 : block_stop_write_16_1 (answer (Q + X) 0x345678)
      ≡ wants_none (state_of (ended 2 0 0 0 0 4 4 1 0x00000080 1 2 2) (hex 4 0xD4C3B2A1) (hex 4 0x81828384))
  pub ad_1_q_0_x_0 : block_stop_write_16_2 (answer 0 0x345678)
      ≡ wants_none (state_of (ended 2 0 0 0 0 4 0 1 0x00030080 0 0 0) (hex 4 0xD4C3B2A1) (hex 4 0x81828384))
  pub ad_1_q_1_x_0 : block_stop_write_16_2 (answer Q 0x345678)
      ≡ wants (operation 9 5 3 17 0x008483 false) (state_of (waiting 0 1 0 5 3 0 2 1 0x00020000 1 0 2) (hex 4 0x11121314) (hex 4 0x81828384))
  pub ad_1_q_0_x_1 : block_stop_write_16_2 (answer X 0x345678)
      ≡ wants_none (state_of (ended 2 0 0 0 0 4 0 1 0x00010080 0 0 0) (hex 4 0xD4C3B2A1) (hex 4 0x81828384))
  pub ad_1_q_1_x_1 : block_stop_write_16_2 (answer (Q + X) 0x345678)
      ≡ wants (operation 9 5 3 17 0x008483 false) (state_of (waiting 0 1 0 5 3 0 2 1 0x00000000 1 0 2) (hex 4 0x11121314) (hex 4 0x81828384))

-- block stop write 24 bits, by AD, Q and X
abbrev pub block_stop_write_24_0 : List ℕ → Called
block_stop_write_24_0 =
    step_of (first_field 2 ++ camac_4 0x02100102 ++ camac_8 0x0A710920 0xFFFFFFFC ++ literal 0xA1B2C3D4 ++ halt)
    (state_of (waiting 1 2 0 5 3 0 2 1 0x00000000 1 0 2) (hex 4 0x11121314) (hex 12 0x8182838485868788898A8B8C))

abbrev pub block_stop_write_24_1 : List ℕ → Called
block_stop_write_24_1 =
    step_of (first_field 2 ++ camac_4 0x02100102 ++ camac_8 0x0A710920 0xFFFFFFFC ++ literal 0xA1B2C3D4 ++ halt)
    (state_of (waiting 1 1 0 5 3 0 8 1 0x00000000 1 0 2) (hex 4 0x11121314) (hex 12 0x8182838485868788898A8B8C))

abbrev pub block_stop_write_24_2 : List ℕ → Called
block_stop_write_24_2 =
    step_of (first_field 2 ++ camac_4 0x02100102 ++ camac_8 0x0A710921 0xFFFFFFFC ++ literal 0xA1B2C3D4 ++ halt)
    (state_of (waiting 1 2 0 5 3 0 2 1 0x00000000 1 0 2) (hex 4 0x11121314) (hex 12 0x8182838485868788898A8B8C))

pub record BlockStopWrite24 : Type 0 where
  pub ad_0_q_0_x_0 : block_stop_write_24_0 (answer 0 0x345678)
      ≡ wants_none (state_of (ended 1 0 0 0 0 0 2 2 0x80030080 1 0 2) (hex 4 0x11121314) (hex 12 0x8182838485868788898A8B8C))
  pub ad_0_q_1_x_0 : block_stop_write_24_0 (answer Q 0x345678)
      ≡ wants_none (state_of (ended 1 0 0 0 0 0 2 2 0x80020080 1 0 2) (hex 4 0x11121314) (hex 12 0x8182838485868788898A8B8C))
  pub ad_0_q_0_x_1 : block_stop_write_24_0 (answer X 0x345678)
      ≡ wants_none (state_of (ended 3 0 0 0 0 4 2 2 0x00010080 1 0 2) (hex 4 0xD4C3B2A1) (hex 12 0x8182838485868788898A8B8C))
  pub last_word_ad_0_q_0_x_1 : block_stop_write_24_1 (answer X 0x345678)
      ≡ wants_none (state_of (ended 3 0 0 0 0 4 8 2 0x00010080 1 0 2) (hex 4 0xD4C3B2A1) (hex 12 0x8182838485868788898A8B8C))
  pub ad_0_q_1_x_1 : block_stop_write_24_0 (answer (Q + X) 0x345678)
      ≡ wants (operation 9 5 3 17 0x8B8A89 false) (state_of (waiting 1 1 0 5 3 0 8 2 0x00000000 1 4 4) (hex 4 0x11121314) (hex 12 0x8182838485868788898A8B8C))
  pub last_word_ad_0_q_1_x_1 : block_stop_write_24_1 (answer (Q + X) 0x345678)
      ≡ wants_none (state_of (ended 3 0 0 0 0 4 12 2 0x00000080 1 8 4) (hex 4 0xD4C3B2A1) (hex 12 0x8182838485868788898A8B8C))
  pub ad_1_q_0_x_0 : block_stop_write_24_2 (answer 0 0x345678)
      ≡ wants_none (state_of (ended 3 0 0 0 0 4 2 2 0x00030080 1 0 2) (hex 4 0xD4C3B2A1) (hex 12 0x8182838485868788898A8B8C))
  pub ad_1_q_1_x_0 : block_stop_write_24_2 (answer Q 0x345678)
      ≡ wants (operation 9 5 3 17 0x8B8A89 false) (state_of (waiting 1 1 0 5 3 0 8 2 0x00020000 1 4 4) (hex 4 0x11121314) (hex 12 0x8182838485868788898A8B8C))
  pub ad_1_q_0_x_1 : block_stop_write_24_2 (answer X 0x345678)
      ≡ wants_none (state_of (ended 3 0 0 0 0 4 2 2 0x00010080 1 0 2) (hex 4 0xD4C3B2A1) (hex 12 0x8182838485868788898A8B8C))
  pub ad_1_q_1_x_1 : block_stop_write_24_2 (answer (Q + X) 0x345678)
      ≡ wants (operation 9 5 3 17 0x8B8A89 false) (state_of (waiting 1 1 0 5 3 0 8 2 0x00000000 1 4 4) (hex 4 0x11121314) (hex 12 0x8182838485868788898A8B8C))

-- block ignore read 16 bits, by AD, Q and X
abbrev pub block_ignore_read_16_0 : List ℕ → Called
block_ignore_read_16_0 =
    step_of (first_field 2 ++ camac_8 0x0A62092A 0xFFFFFFFE ++ literal 0xA1B2C3D4 ++ halt)
    (state_of (waiting 0 2 0 5 3 0 0 0 0x00000000 0 0 0) (hex 8 0x1112131415161718) [])

abbrev pub block_ignore_read_16_1 : List ℕ → Called
block_ignore_read_16_1 =
    step_of (first_field 2 ++ camac_8 0x0A62092A 0xFFFFFFFE ++ literal 0xA1B2C3D4 ++ halt)
    (state_of (waiting 0 1 0 5 3 2 0 0 0x00000000 0 0 0) (hex 8 0x1112131415161718) [])

abbrev pub block_ignore_read_16_2 : List ℕ → Called
block_ignore_read_16_2 =
    step_of (first_field 2 ++ camac_8 0x0A62092B 0xFFFFFFFE ++ literal 0xA1B2C3D4 ++ halt)
    (state_of (waiting 0 2 0 5 3 0 0 0 0x00000000 0 0 0) (hex 8 0x1112131415161718) [])

pub record BlockIgnoreRead16 : Type 0 where
  pub ad_0_q_0_x_0 : block_ignore_read_16_0 (answer 0 0x345678)
      ≡ wants_none (state_of (ended 0 0 0 0 0 0 0 1 0x80030080 0 0 0) (hex 8 0x1112131415161718) [])
  pub ad_0_q_1_x_0 : block_ignore_read_16_0 (answer Q 0x345678)
      ≡ wants_none (state_of (ended 0 0 0 0 0 0 0 1 0x80020080 0 0 0) (hex 8 0x1112131415161718) [])
  pub ad_0_q_0_x_1 : block_ignore_read_16_0 (answer X 0x345678)
      ≡ wants (operation 9 5 3 2 0x000000 false) (state_of (waiting 0 1 0 5 3 2 0 1 0x00010000 0 0 2) (hex 8 0x7856131415161718) [])
  pub last_word_ad_0_q_0_x_1 : block_ignore_read_16_1 (answer X 0x345678)
      ≡ wants_none (state_of (ended 2 0 0 0 0 8 0 1 0x00010080 0 2 2) (hex 8 0x11127856D4C3B2A1) [])
  pub ad_0_q_1_x_1 : block_ignore_read_16_0 (answer (Q + X) 0x345678)
      ≡ wants (operation 9 5 3 2 0x000000 false) (state_of (waiting 0 1 0 5 3 2 0 1 0x00000000 0 0 2) (hex 8 0x7856131415161718) [])
  pub last_word_ad_0_q_1_x_1 : block_ignore_read_16_1 (answer (Q + X) 0x345678)
      ≡ wants_none (state_of (ended 2 0 0 0 0 8 0 1 0x00000080 0 2 2) (hex 8 0x11127856D4C3B2A1) [])
  pub ad_1_q_0_x_0 : block_ignore_read_16_2 (answer 0 0x345678)
      ≡ wants (operation 9 5 3 2 0x000000 false) (state_of (waiting 0 1 0 5 3 2 0 1 0x00030000 0 0 2) (hex 8 0x7856131415161718) [])
  pub ad_1_q_1_x_0 : block_ignore_read_16_2 (answer Q 0x345678)
      ≡ wants (operation 9 5 3 2 0x000000 false) (state_of (waiting 0 1 0 5 3 2 0 1 0x00020000 0 0 2) (hex 8 0x7856131415161718) [])
  pub ad_1_q_0_x_1 : block_ignore_read_16_2 (answer X 0x345678)
      ≡ wants (operation 9 5 3 2 0x000000 false) (state_of (waiting 0 1 0 5 3 2 0 1 0x00010000 0 0 2) (hex 8 0x7856131415161718) [])
  pub ad_1_q_1_x_1 : block_ignore_read_16_2 (answer (Q + X) 0x345678)
      ≡ wants (operation 9 5 3 2 0x000000 false) (state_of (waiting 0 1 0 5 3 2 0 1 0x00000000 0 0 2) (hex 8 0x7856131415161718) [])

-- block ignore read 24 bits, by AD, Q and X
abbrev pub block_ignore_read_24_0 : List ℕ → Called
block_ignore_read_24_0 =
    step_of (first_field 2 ++ camac_4 0x02000102 ++ camac_8 0x0A620928 0xFFFFFFFC ++ literal 0xA1B2C3D4 ++ halt)
    (state_of (waiting 1 2 0 5 3 2 0 1 0x00000000 0 0 2) (hex 16 0x1112131415161718191A1B1C1D1E1F20) [])

abbrev pub block_ignore_read_24_1 : List ℕ → Called
block_ignore_read_24_1 =
    step_of (first_field 2 ++ camac_4 0x02000102 ++ camac_8 0x0A620928 0xFFFFFFFC ++ literal 0xA1B2C3D4 ++ halt)
    (state_of (waiting 1 1 0 5 3 8 0 1 0x00000000 0 0 2) (hex 16 0x1112131415161718191A1B1C1D1E1F20) [])

abbrev pub block_ignore_read_24_2 : List ℕ → Called
block_ignore_read_24_2 =
    step_of (first_field 2 ++ camac_4 0x02000102 ++ camac_8 0x0A620929 0xFFFFFFFC ++ literal 0xA1B2C3D4 ++ halt)
    (state_of (waiting 1 2 0 5 3 2 0 1 0x00000000 0 0 2) (hex 16 0x1112131415161718191A1B1C1D1E1F20) [])

pub record BlockIgnoreRead24 : Type 0 where
  pub ad_0_q_0_x_0 : block_ignore_read_24_0 (answer 0 0x345678)
      ≡ wants_none (state_of (ended 1 0 0 0 0 2 0 2 0x80030080 0 0 2) (hex 16 0x1112131415161718191A1B1C1D1E1F20) [])
  pub ad_0_q_1_x_0 : block_ignore_read_24_0 (answer Q 0x345678)
      ≡ wants_none (state_of (ended 1 0 0 0 0 2 0 2 0x80020080 0 0 2) (hex 16 0x1112131415161718191A1B1C1D1E1F20) [])
  pub ad_0_q_0_x_1 : block_ignore_read_24_0 (answer X 0x345678)
      ≡ wants (operation 9 5 3 2 0x000000 false) (state_of (waiting 1 1 0 5 3 8 0 2 0x00010000 0 4 4) (hex 16 0x1112000078563440191A1B1C1D1E1F20) [])
  pub last_word_ad_0_q_0_x_1 : block_ignore_read_24_1 (answer X 0x345678)
      ≡ wants_none (state_of (ended 3 0 0 0 0 16 0 2 0x00010080 0 8 4) (hex 16 0x111213141516171878563440D4C3B2A1) [])
  pub ad_0_q_1_x_1 : block_ignore_read_24_0 (answer (Q + X) 0x345678)
      ≡ wants (operation 9 5 3 2 0x000000 false) (state_of (waiting 1 1 0 5 3 8 0 2 0x00000000 0 4 4) (hex 16 0x11120000785634C0191A1B1C1D1E1F20) [])
  pub last_word_ad_0_q_1_x_1 : block_ignore_read_24_1 (answer (Q + X) 0x345678)
      ≡ wants_none (state_of (ended 3 0 0 0 0 16 0 2 0x00000080 0 8 4) (hex 16 0x1112131415161718785634C0D4C3B2A1) [])
  pub ad_1_q_0_x_0 : block_ignore_read_24_2 (answer 0 0x345678)
      ≡ wants (operation 9 5 3 2 0x000000 false) (state_of (waiting 1 1 0 5 3 8 0 2 0x00030000 0 4 4) (hex 16 0x1112000078563400191A1B1C1D1E1F20) [])
  pub ad_1_q_1_x_0 : block_ignore_read_24_2 (answer Q 0x345678)
      ≡ wants (operation 9 5 3 2 0x000000 false) (state_of (waiting 1 1 0 5 3 8 0 2 0x00020000 0 4 4) (hex 16 0x1112000078563480191A1B1C1D1E1F20) [])
  pub ad_1_q_0_x_1 : block_ignore_read_24_2 (answer X 0x345678)
      ≡ wants (operation 9 5 3 2 0x000000 false) (state_of (waiting 1 1 0 5 3 8 0 2 0x00010000 0 4 4) (hex 16 0x1112000078563440191A1B1C1D1E1F20) [])
  pub ad_1_q_1_x_1 : block_ignore_read_24_2 (answer (Q + X) 0x345678)
      ≡ wants (operation 9 5 3 2 0x000000 false) (state_of (waiting 1 1 0 5 3 8 0 2 0x00000000 0 4 4) (hex 16 0x11120000785634C0191A1B1C1D1E1F20) [])

-- block ignore write 16 bits, by AD, Q and X
abbrev pub block_ignore_write_16_0 : List ℕ → Called
block_ignore_write_16_0 =
    step_of (first_field 2 ++ camac_8 0x0A71092A 0xFFFFFFFE ++ literal 0xA1B2C3D4 ++ halt)
    (state_of (waiting 0 2 0 5 3 0 0 0 0x00000000 0 0 0) (hex 4 0x11121314) (hex 4 0x81828384))

abbrev pub block_ignore_write_16_1 : List ℕ → Called
block_ignore_write_16_1 =
    step_of (first_field 2 ++ camac_8 0x0A71092A 0xFFFFFFFE ++ literal 0xA1B2C3D4 ++ halt)
    (state_of (waiting 0 1 0 5 3 0 2 0 0x00000000 0 0 0) (hex 4 0x11121314) (hex 4 0x81828384))

abbrev pub block_ignore_write_16_2 : List ℕ → Called
block_ignore_write_16_2 =
    step_of (first_field 2 ++ camac_8 0x0A71092B 0xFFFFFFFE ++ literal 0xA1B2C3D4 ++ halt)
    (state_of (waiting 0 2 0 5 3 0 0 0 0x00000000 0 0 0) (hex 4 0x11121314) (hex 4 0x81828384))

pub record BlockIgnoreWrite16 : Type 0 where
  pub ad_0_q_0_x_0 : block_ignore_write_16_0 (answer 0 0x345678)
      ≡ wants_none (state_of (ended 0 0 0 0 0 0 0 1 0x80030080 0 0 0) (hex 4 0x11121314) (hex 4 0x81828384))
  pub ad_0_q_1_x_0 : block_ignore_write_16_0 (answer Q 0x345678)
      ≡ wants_none (state_of (ended 0 0 0 0 0 0 0 1 0x80020080 0 0 0) (hex 4 0x11121314) (hex 4 0x81828384))
  pub ad_0_q_0_x_1 : block_ignore_write_16_0 (answer X 0x345678)
      ≡ wants (operation 9 5 3 17 0x008483 false) (state_of (waiting 0 1 0 5 3 0 2 1 0x00010000 1 0 2) (hex 4 0x11121314) (hex 4 0x81828384))
  pub last_word_ad_0_q_0_x_1 : block_ignore_write_16_1 (answer X 0x345678)
      ≡ wants_none (state_of (ended 2 0 0 0 0 4 4 1 0x00010080 1 2 2) (hex 4 0xD4C3B2A1) (hex 4 0x81828384))
  pub ad_0_q_1_x_1 : block_ignore_write_16_0 (answer (Q + X) 0x345678)
      ≡ wants (operation 9 5 3 17 0x008483 false) (state_of (waiting 0 1 0 5 3 0 2 1 0x00000000 1 0 2) (hex 4 0x11121314) (hex 4 0x81828384))
  pub last_word_ad_0_q_1_x_1 : block_ignore_write_16_1 (answer (Q + X) 0x345678)
      ≡ wants_none (state_of (ended 2 0 0 0 0 4 4 1 0x00000080 1 2 2) (hex 4 0xD4C3B2A1) (hex 4 0x81828384))
  pub ad_1_q_0_x_0 : block_ignore_write_16_2 (answer 0 0x345678)
      ≡ wants (operation 9 5 3 17 0x008483 false) (state_of (waiting 0 1 0 5 3 0 2 1 0x00030000 1 0 2) (hex 4 0x11121314) (hex 4 0x81828384))
  pub ad_1_q_1_x_0 : block_ignore_write_16_2 (answer Q 0x345678)
      ≡ wants (operation 9 5 3 17 0x008483 false) (state_of (waiting 0 1 0 5 3 0 2 1 0x00020000 1 0 2) (hex 4 0x11121314) (hex 4 0x81828384))
  pub ad_1_q_0_x_1 : block_ignore_write_16_2 (answer X 0x345678)
      ≡ wants (operation 9 5 3 17 0x008483 false) (state_of (waiting 0 1 0 5 3 0 2 1 0x00010000 1 0 2) (hex 4 0x11121314) (hex 4 0x81828384))
  pub ad_1_q_1_x_1 : block_ignore_write_16_2 (answer (Q + X) 0x345678)
      ≡ wants (operation 9 5 3 17 0x008483 false) (state_of (waiting 0 1 0 5 3 0 2 1 0x00000000 1 0 2) (hex 4 0x11121314) (hex 4 0x81828384))

-- block ignore write 24 bits, by AD, Q and X
abbrev pub block_ignore_write_24_0 : List ℕ → Called
block_ignore_write_24_0 =
    step_of (first_field 2 ++ camac_4 0x02100102 ++ camac_8 0x0A710928 0xFFFFFFFC ++ literal 0xA1B2C3D4 ++ halt)
    (state_of (waiting 1 2 0 5 3 0 2 1 0x00000000 1 0 2) (hex 4 0x11121314) (hex 12 0x8182838485868788898A8B8C))

abbrev pub block_ignore_write_24_1 : List ℕ → Called
block_ignore_write_24_1 =
    step_of (first_field 2 ++ camac_4 0x02100102 ++ camac_8 0x0A710928 0xFFFFFFFC ++ literal 0xA1B2C3D4 ++ halt)
    (state_of (waiting 1 1 0 5 3 0 8 1 0x00000000 1 0 2) (hex 4 0x11121314) (hex 12 0x8182838485868788898A8B8C))

abbrev pub block_ignore_write_24_2 : List ℕ → Called
block_ignore_write_24_2 =
    step_of (first_field 2 ++ camac_4 0x02100102 ++ camac_8 0x0A710929 0xFFFFFFFC ++ literal 0xA1B2C3D4 ++ halt)
    (state_of (waiting 1 2 0 5 3 0 2 1 0x00000000 1 0 2) (hex 4 0x11121314) (hex 12 0x8182838485868788898A8B8C))

pub record BlockIgnoreWrite24 : Type 0 where
  pub ad_0_q_0_x_0 : block_ignore_write_24_0 (answer 0 0x345678)
      ≡ wants_none (state_of (ended 1 0 0 0 0 0 2 2 0x80030080 1 0 2) (hex 4 0x11121314) (hex 12 0x8182838485868788898A8B8C))
  pub ad_0_q_1_x_0 : block_ignore_write_24_0 (answer Q 0x345678)
      ≡ wants_none (state_of (ended 1 0 0 0 0 0 2 2 0x80020080 1 0 2) (hex 4 0x11121314) (hex 12 0x8182838485868788898A8B8C))
  pub ad_0_q_0_x_1 : block_ignore_write_24_0 (answer X 0x345678)
      ≡ wants (operation 9 5 3 17 0x8B8A89 false) (state_of (waiting 1 1 0 5 3 0 8 2 0x00010000 1 4 4) (hex 4 0x11121314) (hex 12 0x8182838485868788898A8B8C))
  pub last_word_ad_0_q_0_x_1 : block_ignore_write_24_1 (answer X 0x345678)
      ≡ wants_none (state_of (ended 3 0 0 0 0 4 12 2 0x00010080 1 8 4) (hex 4 0xD4C3B2A1) (hex 12 0x8182838485868788898A8B8C))
  pub ad_0_q_1_x_1 : block_ignore_write_24_0 (answer (Q + X) 0x345678)
      ≡ wants (operation 9 5 3 17 0x8B8A89 false) (state_of (waiting 1 1 0 5 3 0 8 2 0x00000000 1 4 4) (hex 4 0x11121314) (hex 12 0x8182838485868788898A8B8C))
  pub last_word_ad_0_q_1_x_1 : block_ignore_write_24_1 (answer (Q + X) 0x345678)
      ≡ wants_none (state_of (ended 3 0 0 0 0 4 12 2 0x00000080 1 8 4) (hex 4 0xD4C3B2A1) (hex 12 0x8182838485868788898A8B8C))
  pub ad_1_q_0_x_0 : block_ignore_write_24_2 (answer 0 0x345678)
      ≡ wants (operation 9 5 3 17 0x8B8A89 false) (state_of (waiting 1 1 0 5 3 0 8 2 0x00030000 1 4 4) (hex 4 0x11121314) (hex 12 0x8182838485868788898A8B8C))
  pub ad_1_q_1_x_0 : block_ignore_write_24_2 (answer Q 0x345678)
      ≡ wants (operation 9 5 3 17 0x8B8A89 false) (state_of (waiting 1 1 0 5 3 0 8 2 0x00020000 1 4 4) (hex 4 0x11121314) (hex 12 0x8182838485868788898A8B8C))
  pub ad_1_q_0_x_1 : block_ignore_write_24_2 (answer X 0x345678)
      ≡ wants (operation 9 5 3 17 0x8B8A89 false) (state_of (waiting 1 1 0 5 3 0 8 2 0x00010000 1 4 4) (hex 4 0x11121314) (hex 12 0x8182838485868788898A8B8C))
  pub ad_1_q_1_x_1 : block_ignore_write_24_2 (answer (Q + X) 0x345678)
      ≡ wants (operation 9 5 3 17 0x8B8A89 false) (state_of (waiting 1 1 0 5 3 0 8 2 0x00000000 1 4 4) (hex 4 0x11121314) (hex 12 0x8182838485868788898A8B8C))

-- block repeat read 16 bits, by AD, Q and X
abbrev pub block_repeat_read_16_0 : List ℕ → Called
block_repeat_read_16_0 =
    step_of (first_field 2 ++ camac_8 0x0A620932 0xFFFFFFFE ++ literal 0xA1B2C3D4 ++ halt)
    (state_of (waiting 0 2 0 5 3 0 0 0 0x00000000 0 0 0) (hex 8 0x1112131415161718) [])

abbrev pub block_repeat_read_16_1 : List ℕ → Called
block_repeat_read_16_1 =
    step_of (first_field 2 ++ camac_8 0x0A620932 0xFFFFFFFE ++ literal 0xA1B2C3D4 ++ halt)
    (state_of (waiting 0 2 1 5 3 0 0 0 0x00000000 0 0 0) (hex 8 0x1112131415161718) [])

abbrev pub block_repeat_read_16_2 : List ℕ → Called
block_repeat_read_16_2 =
    step_of (first_field 2 ++ camac_8 0x0A620932 0xFFFFFFFE ++ literal 0xA1B2C3D4 ++ halt)
    (state_of (waiting 0 1 0 5 3 2 0 0 0x00000000 0 0 0) (hex 8 0x1112131415161718) [])

abbrev pub block_repeat_read_16_3 : List ℕ → Called
block_repeat_read_16_3 =
    step_of (first_field 2 ++ camac_8 0x0A620933 0xFFFFFFFE ++ literal 0xA1B2C3D4 ++ halt)
    (state_of (waiting 0 2 0 5 3 0 0 0 0x00000000 0 0 0) (hex 8 0x1112131415161718) [])

abbrev pub block_repeat_read_16_4 : List ℕ → Called
block_repeat_read_16_4 =
    step_of (first_field 2 ++ camac_8 0x0A620933 0xFFFFFFFE ++ literal 0xA1B2C3D4 ++ halt)
    (state_of (waiting 0 2 1 5 3 0 0 0 0x00000000 0 0 0) (hex 8 0x1112131415161718) [])

pub record BlockRepeatRead16 : Type 0 where
  pub ad_0_q_0_x_0 : block_repeat_read_16_0 (answer 0 0x345678)
      ≡ wants_none (state_of (ended 0 0 0 0 0 0 0 1 0x80030080 0 0 0) (hex 8 0x1112131415161718) [])
  pub last_try_ad_0_q_0_x_0 : block_repeat_read_16_1 (answer 0 0x345678)
      ≡ wants_none (state_of (ended 0 0 0 0 0 0 0 1 0xB2030080 0 0 0) (hex 8 0x1112131415161718) [])
  pub ad_0_q_1_x_0 : block_repeat_read_16_0 (answer Q 0x345678)
      ≡ wants_none (state_of (ended 0 0 0 0 0 0 0 1 0x80020080 0 0 0) (hex 8 0x1112131415161718) [])
  pub ad_0_q_0_x_1 : block_repeat_read_16_0 (answer X 0x345678)
      ≡ wants (operation 9 5 3 2 0x000000 false) (state_of (waiting 0 2 1 5 3 0 0 1 0x00010000 0 0 0) (hex 8 0x1112131415161718) [])
  pub last_try_ad_0_q_0_x_1 : block_repeat_read_16_1 (answer X 0x345678)
      ≡ wants_none (state_of (ended 0 0 0 0 0 0 0 1 0xB2010080 0 0 0) (hex 8 0x1112131415161718) [])
  pub last_word_ad_0_q_0_x_1 : block_repeat_read_16_2 (answer X 0x345678)
      ≡ wants (operation 9 5 3 2 0x000000 false) (state_of (waiting 0 1 1 5 3 2 0 1 0x00010000 0 0 0) (hex 8 0x1112131415161718) [])
  pub ad_0_q_1_x_1 : block_repeat_read_16_0 (answer (Q + X) 0x345678)
      ≡ wants (operation 9 5 3 2 0x000000 false) (state_of (waiting 0 1 0 5 3 2 0 1 0x00000000 0 0 2) (hex 8 0x7856131415161718) [])
  pub last_word_ad_0_q_1_x_1 : block_repeat_read_16_2 (answer (Q + X) 0x345678)
      ≡ wants_none (state_of (ended 2 0 0 0 0 8 0 1 0x00000080 0 2 2) (hex 8 0x11127856D4C3B2A1) [])
  pub ad_1_q_0_x_0 : block_repeat_read_16_3 (answer 0 0x345678)
      ≡ wants (operation 9 5 3 2 0x000000 false) (state_of (waiting 0 2 1 5 3 0 0 1 0x00030000 0 0 0) (hex 8 0x1112131415161718) [])
  pub last_try_ad_1_q_0_x_0 : block_repeat_read_16_4 (answer 0 0x345678)
      ≡ wants_none (state_of (ended 0 0 0 0 0 0 0 1 0xB2030080 0 0 0) (hex 8 0x1112131415161718) [])
  pub ad_1_q_1_x_0 : block_repeat_read_16_3 (answer Q 0x345678)
      ≡ wants (operation 9 5 3 2 0x000000 false) (state_of (waiting 0 1 0 5 3 2 0 1 0x00020000 0 0 2) (hex 8 0x7856131415161718) [])
  pub ad_1_q_0_x_1 : block_repeat_read_16_3 (answer X 0x345678)
      ≡ wants (operation 9 5 3 2 0x000000 false) (state_of (waiting 0 2 1 5 3 0 0 1 0x00010000 0 0 0) (hex 8 0x1112131415161718) [])
  pub last_try_ad_1_q_0_x_1 : block_repeat_read_16_4 (answer X 0x345678)
      ≡ wants_none (state_of (ended 0 0 0 0 0 0 0 1 0xB2010080 0 0 0) (hex 8 0x1112131415161718) [])
  pub ad_1_q_1_x_1 : block_repeat_read_16_3 (answer (Q + X) 0x345678)
      ≡ wants (operation 9 5 3 2 0x000000 false) (state_of (waiting 0 1 0 5 3 2 0 1 0x00000000 0 0 2) (hex 8 0x7856131415161718) [])

-- block repeat read 24 bits, by AD, Q and X
abbrev pub block_repeat_read_24_0 : List ℕ → Called
block_repeat_read_24_0 =
    step_of (first_field 2 ++ camac_4 0x02000102 ++ camac_8 0x0A620930 0xFFFFFFFC ++ literal 0xA1B2C3D4 ++ halt)
    (state_of (waiting 1 2 0 5 3 2 0 1 0x00000000 0 0 2) (hex 16 0x1112131415161718191A1B1C1D1E1F20) [])

abbrev pub block_repeat_read_24_1 : List ℕ → Called
block_repeat_read_24_1 =
    step_of (first_field 2 ++ camac_4 0x02000102 ++ camac_8 0x0A620930 0xFFFFFFFC ++ literal 0xA1B2C3D4 ++ halt)
    (state_of (waiting 1 2 1 5 3 2 0 1 0x00000000 0 0 2) (hex 16 0x1112131415161718191A1B1C1D1E1F20) [])

abbrev pub block_repeat_read_24_2 : List ℕ → Called
block_repeat_read_24_2 =
    step_of (first_field 2 ++ camac_4 0x02000102 ++ camac_8 0x0A620930 0xFFFFFFFC ++ literal 0xA1B2C3D4 ++ halt)
    (state_of (waiting 1 1 0 5 3 8 0 1 0x00000000 0 0 2) (hex 16 0x1112131415161718191A1B1C1D1E1F20) [])

abbrev pub block_repeat_read_24_3 : List ℕ → Called
block_repeat_read_24_3 =
    step_of (first_field 2 ++ camac_4 0x02000102 ++ camac_8 0x0A620931 0xFFFFFFFC ++ literal 0xA1B2C3D4 ++ halt)
    (state_of (waiting 1 2 0 5 3 2 0 1 0x00000000 0 0 2) (hex 16 0x1112131415161718191A1B1C1D1E1F20) [])

abbrev pub block_repeat_read_24_4 : List ℕ → Called
block_repeat_read_24_4 =
    step_of (first_field 2 ++ camac_4 0x02000102 ++ camac_8 0x0A620931 0xFFFFFFFC ++ literal 0xA1B2C3D4 ++ halt)
    (state_of (waiting 1 2 1 5 3 2 0 1 0x00000000 0 0 2) (hex 16 0x1112131415161718191A1B1C1D1E1F20) [])

pub record BlockRepeatRead24 : Type 0 where
  pub ad_0_q_0_x_0 : block_repeat_read_24_0 (answer 0 0x345678)
      ≡ wants_none (state_of (ended 1 0 0 0 0 2 0 2 0x80030080 0 0 2) (hex 16 0x1112131415161718191A1B1C1D1E1F20) [])
  pub last_try_ad_0_q_0_x_0 : block_repeat_read_24_1 (answer 0 0x345678)
      ≡ wants_none (state_of (ended 1 0 0 0 0 2 0 2 0xB2030080 0 0 2) (hex 16 0x1112131415161718191A1B1C1D1E1F20) [])
  pub ad_0_q_1_x_0 : block_repeat_read_24_0 (answer Q 0x345678)
      ≡ wants_none (state_of (ended 1 0 0 0 0 2 0 2 0x80020080 0 0 2) (hex 16 0x1112131415161718191A1B1C1D1E1F20) [])
  pub ad_0_q_0_x_1 : block_repeat_read_24_0 (answer X 0x345678)
      ≡ wants (operation 9 5 3 2 0x000000 false) (state_of (waiting 1 2 1 5 3 2 0 2 0x00010000 0 0 2) (hex 16 0x1112131415161718191A1B1C1D1E1F20) [])
  pub last_try_ad_0_q_0_x_1 : block_repeat_read_24_1 (answer X 0x345678)
      ≡ wants_none (state_of (ended 1 0 0 0 0 2 0 2 0xB2010080 0 0 2) (hex 16 0x1112131415161718191A1B1C1D1E1F20) [])
  pub last_word_ad_0_q_0_x_1 : block_repeat_read_24_2 (answer X 0x345678)
      ≡ wants (operation 9 5 3 2 0x000000 false) (state_of (waiting 1 1 1 5 3 8 0 2 0x00010000 0 0 2) (hex 16 0x1112131415161718191A1B1C1D1E1F20) [])
  pub ad_0_q_1_x_1 : block_repeat_read_24_0 (answer (Q + X) 0x345678)
      ≡ wants (operation 9 5 3 2 0x000000 false) (state_of (waiting 1 1 0 5 3 8 0 2 0x00000000 0 4 4) (hex 16 0x11120000785634C0191A1B1C1D1E1F20) [])
  pub last_word_ad_0_q_1_x_1 : block_repeat_read_24_2 (answer (Q + X) 0x345678)
      ≡ wants_none (state_of (ended 3 0 0 0 0 16 0 2 0x00000080 0 8 4) (hex 16 0x1112131415161718785634C0D4C3B2A1) [])
  pub ad_1_q_0_x_0 : block_repeat_read_24_3 (answer 0 0x345678)
      ≡ wants (operation 9 5 3 2 0x000000 false) (state_of (waiting 1 2 1 5 3 2 0 2 0x00030000 0 0 2) (hex 16 0x1112131415161718191A1B1C1D1E1F20) [])
  pub last_try_ad_1_q_0_x_0 : block_repeat_read_24_4 (answer 0 0x345678)
      ≡ wants_none (state_of (ended 1 0 0 0 0 2 0 2 0xB2030080 0 0 2) (hex 16 0x1112131415161718191A1B1C1D1E1F20) [])
  pub ad_1_q_1_x_0 : block_repeat_read_24_3 (answer Q 0x345678)
      ≡ wants (operation 9 5 3 2 0x000000 false) (state_of (waiting 1 1 0 5 3 8 0 2 0x00020000 0 4 4) (hex 16 0x1112000078563480191A1B1C1D1E1F20) [])
  pub ad_1_q_0_x_1 : block_repeat_read_24_3 (answer X 0x345678)
      ≡ wants (operation 9 5 3 2 0x000000 false) (state_of (waiting 1 2 1 5 3 2 0 2 0x00010000 0 0 2) (hex 16 0x1112131415161718191A1B1C1D1E1F20) [])
  pub last_try_ad_1_q_0_x_1 : block_repeat_read_24_4 (answer X 0x345678)
      ≡ wants_none (state_of (ended 1 0 0 0 0 2 0 2 0xB2010080 0 0 2) (hex 16 0x1112131415161718191A1B1C1D1E1F20) [])
  pub ad_1_q_1_x_1 : block_repeat_read_24_3 (answer (Q + X) 0x345678)
      ≡ wants (operation 9 5 3 2 0x000000 false) (state_of (waiting 1 1 0 5 3 8 0 2 0x00000000 0 4 4) (hex 16 0x11120000785634C0191A1B1C1D1E1F20) [])

-- block repeat write 16 bits, by AD, Q and X
abbrev pub block_repeat_write_16_0 : List ℕ → Called
block_repeat_write_16_0 =
    step_of (first_field 2 ++ camac_8 0x0A710932 0xFFFFFFFE ++ literal 0xA1B2C3D4 ++ halt)
    (state_of (waiting 0 2 0 5 3 0 0 0 0x00000000 0 0 0) (hex 4 0x11121314) (hex 4 0x81828384))

abbrev pub block_repeat_write_16_1 : List ℕ → Called
block_repeat_write_16_1 =
    step_of (first_field 2 ++ camac_8 0x0A710932 0xFFFFFFFE ++ literal 0xA1B2C3D4 ++ halt)
    (state_of (waiting 0 2 1 5 3 0 0 0 0x00000000 0 0 0) (hex 4 0x11121314) (hex 4 0x81828384))

abbrev pub block_repeat_write_16_2 : List ℕ → Called
block_repeat_write_16_2 =
    step_of (first_field 2 ++ camac_8 0x0A710932 0xFFFFFFFE ++ literal 0xA1B2C3D4 ++ halt)
    (state_of (waiting 0 1 0 5 3 0 2 0 0x00000000 0 0 0) (hex 4 0x11121314) (hex 4 0x81828384))

abbrev pub block_repeat_write_16_3 : List ℕ → Called
block_repeat_write_16_3 =
    step_of (first_field 2 ++ camac_8 0x0A710933 0xFFFFFFFE ++ literal 0xA1B2C3D4 ++ halt)
    (state_of (waiting 0 2 0 5 3 0 0 0 0x00000000 0 0 0) (hex 4 0x11121314) (hex 4 0x81828384))

abbrev pub block_repeat_write_16_4 : List ℕ → Called
block_repeat_write_16_4 =
    step_of (first_field 2 ++ camac_8 0x0A710933 0xFFFFFFFE ++ literal 0xA1B2C3D4 ++ halt)
    (state_of (waiting 0 2 1 5 3 0 0 0 0x00000000 0 0 0) (hex 4 0x11121314) (hex 4 0x81828384))

pub record BlockRepeatWrite16 : Type 0 where
  pub ad_0_q_0_x_0 : block_repeat_write_16_0 (answer 0 0x345678)
      ≡ wants_none (state_of (ended 0 0 0 0 0 0 0 1 0x80030080 0 0 0) (hex 4 0x11121314) (hex 4 0x81828384))
  pub last_try_ad_0_q_0_x_0 : block_repeat_write_16_1 (answer 0 0x345678)
      ≡ wants_none (state_of (ended 0 0 0 0 0 0 0 1 0xB2030080 0 0 0) (hex 4 0x11121314) (hex 4 0x81828384))
  pub ad_0_q_1_x_0 : block_repeat_write_16_0 (answer Q 0x345678)
      ≡ wants_none (state_of (ended 0 0 0 0 0 0 0 1 0x80020080 0 0 0) (hex 4 0x11121314) (hex 4 0x81828384))
  pub ad_0_q_0_x_1 : block_repeat_write_16_0 (answer X 0x345678)
      ≡ wants (operation 9 5 3 17 0x008281 false) (state_of (waiting 0 2 1 5 3 0 0 1 0x00010000 0 0 0) (hex 4 0x11121314) (hex 4 0x81828384))
  pub last_try_ad_0_q_0_x_1 : block_repeat_write_16_1 (answer X 0x345678)
      ≡ wants_none (state_of (ended 0 0 0 0 0 0 0 1 0xB2010080 0 0 0) (hex 4 0x11121314) (hex 4 0x81828384))
  pub last_word_ad_0_q_0_x_1 : block_repeat_write_16_2 (answer X 0x345678)
      ≡ wants (operation 9 5 3 17 0x008483 false) (state_of (waiting 0 1 1 5 3 0 2 1 0x00010000 0 0 0) (hex 4 0x11121314) (hex 4 0x81828384))
  pub ad_0_q_1_x_1 : block_repeat_write_16_0 (answer (Q + X) 0x345678)
      ≡ wants (operation 9 5 3 17 0x008483 false) (state_of (waiting 0 1 0 5 3 0 2 1 0x00000000 1 0 2) (hex 4 0x11121314) (hex 4 0x81828384))
  pub last_word_ad_0_q_1_x_1 : block_repeat_write_16_2 (answer (Q + X) 0x345678)
      ≡ wants_none (state_of (ended 2 0 0 0 0 4 4 1 0x00000080 1 2 2) (hex 4 0xD4C3B2A1) (hex 4 0x81828384))
  pub ad_1_q_0_x_0 : block_repeat_write_16_3 (answer 0 0x345678)
      ≡ wants (operation 9 5 3 17 0x008281 false) (state_of (waiting 0 2 1 5 3 0 0 1 0x00030000 0 0 0) (hex 4 0x11121314) (hex 4 0x81828384))
  pub last_try_ad_1_q_0_x_0 : block_repeat_write_16_4 (answer 0 0x345678)
      ≡ wants_none (state_of (ended 0 0 0 0 0 0 0 1 0xB2030080 0 0 0) (hex 4 0x11121314) (hex 4 0x81828384))
  pub ad_1_q_1_x_0 : block_repeat_write_16_3 (answer Q 0x345678)
      ≡ wants (operation 9 5 3 17 0x008483 false) (state_of (waiting 0 1 0 5 3 0 2 1 0x00020000 1 0 2) (hex 4 0x11121314) (hex 4 0x81828384))
  pub ad_1_q_0_x_1 : block_repeat_write_16_3 (answer X 0x345678)
      ≡ wants (operation 9 5 3 17 0x008281 false) (state_of (waiting 0 2 1 5 3 0 0 1 0x00010000 0 0 0) (hex 4 0x11121314) (hex 4 0x81828384))
  pub last_try_ad_1_q_0_x_1 : block_repeat_write_16_4 (answer X 0x345678)
      ≡ wants_none (state_of (ended 0 0 0 0 0 0 0 1 0xB2010080 0 0 0) (hex 4 0x11121314) (hex 4 0x81828384))
  pub ad_1_q_1_x_1 : block_repeat_write_16_3 (answer (Q + X) 0x345678)
      ≡ wants (operation 9 5 3 17 0x008483 false) (state_of (waiting 0 1 0 5 3 0 2 1 0x00000000 1 0 2) (hex 4 0x11121314) (hex 4 0x81828384))

-- block repeat write 24 bits, by AD, Q and X
abbrev pub block_repeat_write_24_0 : List ℕ → Called
block_repeat_write_24_0 =
    step_of (first_field 2 ++ camac_4 0x02100102 ++ camac_8 0x0A710930 0xFFFFFFFC ++ literal 0xA1B2C3D4 ++ halt)
    (state_of (waiting 1 2 0 5 3 0 2 1 0x00000000 1 0 2) (hex 4 0x11121314) (hex 12 0x8182838485868788898A8B8C))

abbrev pub block_repeat_write_24_1 : List ℕ → Called
block_repeat_write_24_1 =
    step_of (first_field 2 ++ camac_4 0x02100102 ++ camac_8 0x0A710930 0xFFFFFFFC ++ literal 0xA1B2C3D4 ++ halt)
    (state_of (waiting 1 2 1 5 3 0 2 1 0x00000000 1 0 2) (hex 4 0x11121314) (hex 12 0x8182838485868788898A8B8C))

abbrev pub block_repeat_write_24_2 : List ℕ → Called
block_repeat_write_24_2 =
    step_of (first_field 2 ++ camac_4 0x02100102 ++ camac_8 0x0A710930 0xFFFFFFFC ++ literal 0xA1B2C3D4 ++ halt)
    (state_of (waiting 1 1 0 5 3 0 8 1 0x00000000 1 0 2) (hex 4 0x11121314) (hex 12 0x8182838485868788898A8B8C))

abbrev pub block_repeat_write_24_3 : List ℕ → Called
block_repeat_write_24_3 =
    step_of (first_field 2 ++ camac_4 0x02100102 ++ camac_8 0x0A710931 0xFFFFFFFC ++ literal 0xA1B2C3D4 ++ halt)
    (state_of (waiting 1 2 0 5 3 0 2 1 0x00000000 1 0 2) (hex 4 0x11121314) (hex 12 0x8182838485868788898A8B8C))

abbrev pub block_repeat_write_24_4 : List ℕ → Called
block_repeat_write_24_4 =
    step_of (first_field 2 ++ camac_4 0x02100102 ++ camac_8 0x0A710931 0xFFFFFFFC ++ literal 0xA1B2C3D4 ++ halt)
    (state_of (waiting 1 2 1 5 3 0 2 1 0x00000000 1 0 2) (hex 4 0x11121314) (hex 12 0x8182838485868788898A8B8C))

pub record BlockRepeatWrite24 : Type 0 where
  pub ad_0_q_0_x_0 : block_repeat_write_24_0 (answer 0 0x345678)
      ≡ wants_none (state_of (ended 1 0 0 0 0 0 2 2 0x80030080 1 0 2) (hex 4 0x11121314) (hex 12 0x8182838485868788898A8B8C))
  pub last_try_ad_0_q_0_x_0 : block_repeat_write_24_1 (answer 0 0x345678)
      ≡ wants_none (state_of (ended 1 0 0 0 0 0 2 2 0xB2030080 1 0 2) (hex 4 0x11121314) (hex 12 0x8182838485868788898A8B8C))
  pub ad_0_q_1_x_0 : block_repeat_write_24_0 (answer Q 0x345678)
      ≡ wants_none (state_of (ended 1 0 0 0 0 0 2 2 0x80020080 1 0 2) (hex 4 0x11121314) (hex 12 0x8182838485868788898A8B8C))
  pub ad_0_q_0_x_1 : block_repeat_write_24_0 (answer X 0x345678)
      ≡ wants (operation 9 5 3 17 0x878685 false) (state_of (waiting 1 2 1 5 3 0 2 2 0x00010000 1 0 2) (hex 4 0x11121314) (hex 12 0x8182838485868788898A8B8C))
  pub last_try_ad_0_q_0_x_1 : block_repeat_write_24_1 (answer X 0x345678)
      ≡ wants_none (state_of (ended 1 0 0 0 0 0 2 2 0xB2010080 1 0 2) (hex 4 0x11121314) (hex 12 0x8182838485868788898A8B8C))
  pub last_word_ad_0_q_0_x_1 : block_repeat_write_24_2 (answer X 0x345678)
      ≡ wants (operation 9 5 3 17 0x8B8A89 false) (state_of (waiting 1 1 1 5 3 0 8 2 0x00010000 1 0 2) (hex 4 0x11121314) (hex 12 0x8182838485868788898A8B8C))
  pub ad_0_q_1_x_1 : block_repeat_write_24_0 (answer (Q + X) 0x345678)
      ≡ wants (operation 9 5 3 17 0x8B8A89 false) (state_of (waiting 1 1 0 5 3 0 8 2 0x00000000 1 4 4) (hex 4 0x11121314) (hex 12 0x8182838485868788898A8B8C))
  pub last_word_ad_0_q_1_x_1 : block_repeat_write_24_2 (answer (Q + X) 0x345678)
      ≡ wants_none (state_of (ended 3 0 0 0 0 4 12 2 0x00000080 1 8 4) (hex 4 0xD4C3B2A1) (hex 12 0x8182838485868788898A8B8C))
  pub ad_1_q_0_x_0 : block_repeat_write_24_3 (answer 0 0x345678)
      ≡ wants (operation 9 5 3 17 0x878685 false) (state_of (waiting 1 2 1 5 3 0 2 2 0x00030000 1 0 2) (hex 4 0x11121314) (hex 12 0x8182838485868788898A8B8C))
  pub last_try_ad_1_q_0_x_0 : block_repeat_write_24_4 (answer 0 0x345678)
      ≡ wants_none (state_of (ended 1 0 0 0 0 0 2 2 0xB2030080 1 0 2) (hex 4 0x11121314) (hex 12 0x8182838485868788898A8B8C))
  pub ad_1_q_1_x_0 : block_repeat_write_24_3 (answer Q 0x345678)
      ≡ wants (operation 9 5 3 17 0x8B8A89 false) (state_of (waiting 1 1 0 5 3 0 8 2 0x00020000 1 4 4) (hex 4 0x11121314) (hex 12 0x8182838485868788898A8B8C))
  pub ad_1_q_0_x_1 : block_repeat_write_24_3 (answer X 0x345678)
      ≡ wants (operation 9 5 3 17 0x878685 false) (state_of (waiting 1 2 1 5 3 0 2 2 0x00010000 1 0 2) (hex 4 0x11121314) (hex 12 0x8182838485868788898A8B8C))
  pub last_try_ad_1_q_0_x_1 : block_repeat_write_24_4 (answer X 0x345678)
      ≡ wants_none (state_of (ended 1 0 0 0 0 0 2 2 0xB2010080 1 0 2) (hex 4 0x11121314) (hex 12 0x8182838485868788898A8B8C))
  pub ad_1_q_1_x_1 : block_repeat_write_24_3 (answer (Q + X) 0x345678)
      ≡ wants (operation 9 5 3 17 0x8B8A89 false) (state_of (waiting 1 1 0 5 3 0 8 2 0x00000000 1 4 4) (hex 4 0x11121314) (hex 12 0x8182838485868788898A8B8C))

-- block scan read 16 bits, by AD, Q and X
abbrev pub block_scan_read_16_0 : List ℕ → Called
block_scan_read_16_0 =
    step_of (first_field 2 ++ camac_8 0x2DC2093A 0xFFFFFFFE ++ literal 0xA1B2C3D4 ++ halt)
    (state_of (waiting 0 2 0 22 14 0 0 0 0x00000000 0 0 0) (hex 8 0x1112131415161718) [])

abbrev pub block_scan_read_16_1 : List ℕ → Called
block_scan_read_16_1 =
    step_of (first_field 2 ++ camac_8 0x2DC2093A 0xFFFFFFFE ++ literal 0xA1B2C3D4 ++ halt)
    (state_of (waiting 0 1 0 22 14 2 0 0 0x00000000 0 0 0) (hex 8 0x1112131415161718) [])

abbrev pub block_scan_read_16_2 : List ℕ → Called
block_scan_read_16_2 =
    step_of (first_field 2 ++ camac_8 0x2DC2093B 0xFFFFFFFE ++ literal 0xA1B2C3D4 ++ halt)
    (state_of (waiting 0 2 0 22 14 0 0 0 0x00000000 0 0 0) (hex 8 0x1112131415161718) [])

pub record BlockScanRead16 : Type 0 where
  pub ad_0_q_0_x_0 : block_scan_read_16_0 (answer 0 0x345678)
      ≡ wants (operation 9 23 0 2 0x000000 false) (state_of (waiting 0 2 0 23 0 0 0 1 0x00030000 0 0 0) (hex 8 0x1112131415161718) [])
  pub ad_0_q_1_x_0 : block_scan_read_16_0 (answer Q 0x345678)
      ≡ wants (operation 9 23 0 2 0x000000 false) (state_of (waiting 0 2 0 23 0 0 0 1 0x00020000 0 0 0) (hex 8 0x1112131415161718) [])
  pub ad_0_q_0_x_1 : block_scan_read_16_0 (answer X 0x345678)
      ≡ wants (operation 9 23 0 2 0x000000 false) (state_of (waiting 0 2 0 23 0 0 0 1 0x00010000 0 0 0) (hex 8 0x1112131415161718) [])
  pub last_word_ad_0_q_0_x_1 : block_scan_read_16_1 (answer X 0x345678)
      ≡ wants (operation 9 23 0 2 0x000000 false) (state_of (waiting 0 1 0 23 0 2 0 1 0x00010000 0 0 0) (hex 8 0x1112131415161718) [])
  pub ad_0_q_1_x_1 : block_scan_read_16_0 (answer (Q + X) 0x345678)
      ≡ wants (operation 9 22 15 2 0x000000 false) (state_of (waiting 0 1 0 22 15 2 0 1 0x00000000 0 0 2) (hex 8 0x7856131415161718) [])
  pub last_word_ad_0_q_1_x_1 : block_scan_read_16_1 (answer (Q + X) 0x345678)
      ≡ wants_none (state_of (ended 2 0 0 0 0 8 0 1 0x00000080 0 2 2) (hex 8 0x11127856D4C3B2A1) [])
  pub ad_1_q_0_x_0 : block_scan_read_16_2 (answer 0 0x345678)
      ≡ wants (operation 9 23 0 2 0x000000 false) (state_of (waiting 0 2 0 23 0 0 0 1 0x00030000 0 0 0) (hex 8 0x1112131415161718) [])
  pub ad_1_q_1_x_0 : block_scan_read_16_2 (answer Q 0x345678)
      ≡ wants (operation 9 23 0 2 0x000000 false) (state_of (waiting 0 2 0 23 0 0 0 1 0x00020000 0 0 0) (hex 8 0x1112131415161718) [])
  pub ad_1_q_0_x_1 : block_scan_read_16_2 (answer X 0x345678)
      ≡ wants (operation 9 23 0 2 0x000000 false) (state_of (waiting 0 2 0 23 0 0 0 1 0x00010000 0 0 0) (hex 8 0x1112131415161718) [])
  pub ad_1_q_1_x_1 : block_scan_read_16_2 (answer (Q + X) 0x345678)
      ≡ wants (operation 9 22 15 2 0x000000 false) (state_of (waiting 0 1 0 22 15 2 0 1 0x00000000 0 0 2) (hex 8 0x7856131415161718) [])

-- block scan read 24 bits, by AD, Q and X
abbrev pub block_scan_read_24_0 : List ℕ → Called
block_scan_read_24_0 =
    step_of (first_field 2 ++ camac_4 0x02000102 ++ camac_8 0x2DC20938 0xFFFFFFFC ++ literal 0xA1B2C3D4 ++ halt)
    (state_of (waiting 1 2 0 22 14 2 0 1 0x00000000 0 0 2) (hex 16 0x1112131415161718191A1B1C1D1E1F20) [])

abbrev pub block_scan_read_24_1 : List ℕ → Called
block_scan_read_24_1 =
    step_of (first_field 2 ++ camac_4 0x02000102 ++ camac_8 0x2DC20938 0xFFFFFFFC ++ literal 0xA1B2C3D4 ++ halt)
    (state_of (waiting 1 1 0 22 14 8 0 1 0x00000000 0 0 2) (hex 16 0x1112131415161718191A1B1C1D1E1F20) [])

abbrev pub block_scan_read_24_2 : List ℕ → Called
block_scan_read_24_2 =
    step_of (first_field 2 ++ camac_4 0x02000102 ++ camac_8 0x2DC20939 0xFFFFFFFC ++ literal 0xA1B2C3D4 ++ halt)
    (state_of (waiting 1 2 0 22 14 2 0 1 0x00000000 0 0 2) (hex 16 0x1112131415161718191A1B1C1D1E1F20) [])

pub record BlockScanRead24 : Type 0 where
  pub ad_0_q_0_x_0 : block_scan_read_24_0 (answer 0 0x345678)
      ≡ wants (operation 9 23 0 2 0x000000 false) (state_of (waiting 1 2 0 23 0 2 0 2 0x00030000 0 0 2) (hex 16 0x1112131415161718191A1B1C1D1E1F20) [])
  pub ad_0_q_1_x_0 : block_scan_read_24_0 (answer Q 0x345678)
      ≡ wants (operation 9 23 0 2 0x000000 false) (state_of (waiting 1 2 0 23 0 2 0 2 0x00020000 0 0 2) (hex 16 0x1112131415161718191A1B1C1D1E1F20) [])
  pub ad_0_q_0_x_1 : block_scan_read_24_0 (answer X 0x345678)
      ≡ wants (operation 9 23 0 2 0x000000 false) (state_of (waiting 1 2 0 23 0 2 0 2 0x00010000 0 0 2) (hex 16 0x1112131415161718191A1B1C1D1E1F20) [])
  pub last_word_ad_0_q_0_x_1 : block_scan_read_24_1 (answer X 0x345678)
      ≡ wants (operation 9 23 0 2 0x000000 false) (state_of (waiting 1 1 0 23 0 8 0 2 0x00010000 0 0 2) (hex 16 0x1112131415161718191A1B1C1D1E1F20) [])
  pub ad_0_q_1_x_1 : block_scan_read_24_0 (answer (Q + X) 0x345678)
      ≡ wants (operation 9 22 15 2 0x000000 false) (state_of (waiting 1 1 0 22 15 8 0 2 0x00000000 0 4 4) (hex 16 0x11120000785634C0191A1B1C1D1E1F20) [])
  pub last_word_ad_0_q_1_x_1 : block_scan_read_24_1 (answer (Q + X) 0x345678)
      ≡ wants_none (state_of (ended 3 0 0 0 0 16 0 2 0x00000080 0 8 4) (hex 16 0x1112131415161718785634C0D4C3B2A1) [])
  pub ad_1_q_0_x_0 : block_scan_read_24_2 (answer 0 0x345678)
      ≡ wants (operation 9 23 0 2 0x000000 false) (state_of (waiting 1 2 0 23 0 2 0 2 0x00030000 0 0 2) (hex 16 0x1112131415161718191A1B1C1D1E1F20) [])
  pub ad_1_q_1_x_0 : block_scan_read_24_2 (answer Q 0x345678)
      ≡ wants (operation 9 23 0 2 0x000000 false) (state_of (waiting 1 2 0 23 0 2 0 2 0x00020000 0 0 2) (hex 16 0x1112131415161718191A1B1C1D1E1F20) [])
  pub ad_1_q_0_x_1 : block_scan_read_24_2 (answer X 0x345678)
      ≡ wants (operation 9 23 0 2 0x000000 false) (state_of (waiting 1 2 0 23 0 2 0 2 0x00010000 0 0 2) (hex 16 0x1112131415161718191A1B1C1D1E1F20) [])
  pub ad_1_q_1_x_1 : block_scan_read_24_2 (answer (Q + X) 0x345678)
      ≡ wants (operation 9 22 15 2 0x000000 false) (state_of (waiting 1 1 0 22 15 8 0 2 0x00000000 0 4 4) (hex 16 0x11120000785634C0191A1B1C1D1E1F20) [])

-- block scan write 16 bits, by AD, Q and X
abbrev pub block_scan_write_16_0 : List ℕ → Called
block_scan_write_16_0 =
    step_of (first_field 2 ++ camac_8 0x2DD1093A 0xFFFFFFFE ++ literal 0xA1B2C3D4 ++ halt)
    (state_of (waiting 0 2 0 22 14 0 0 0 0x00000000 0 0 0) (hex 4 0x11121314) (hex 4 0x81828384))

abbrev pub block_scan_write_16_1 : List ℕ → Called
block_scan_write_16_1 =
    step_of (first_field 2 ++ camac_8 0x2DD1093A 0xFFFFFFFE ++ literal 0xA1B2C3D4 ++ halt)
    (state_of (waiting 0 1 0 22 14 0 2 0 0x00000000 0 0 0) (hex 4 0x11121314) (hex 4 0x81828384))

abbrev pub block_scan_write_16_2 : List ℕ → Called
block_scan_write_16_2 =
    step_of (first_field 2 ++ camac_8 0x2DD1093B 0xFFFFFFFE ++ literal 0xA1B2C3D4 ++ halt)
    (state_of (waiting 0 2 0 22 14 0 0 0 0x00000000 0 0 0) (hex 4 0x11121314) (hex 4 0x81828384))

pub record BlockScanWrite16 : Type 0 where
  pub ad_0_q_0_x_0 : block_scan_write_16_0 (answer 0 0x345678)
      ≡ wants (operation 9 23 0 17 0x008281 false) (state_of (waiting 0 2 0 23 0 0 0 1 0x00030000 0 0 0) (hex 4 0x11121314) (hex 4 0x81828384))
  pub ad_0_q_1_x_0 : block_scan_write_16_0 (answer Q 0x345678)
      ≡ wants (operation 9 23 0 17 0x008281 false) (state_of (waiting 0 2 0 23 0 0 0 1 0x00020000 0 0 0) (hex 4 0x11121314) (hex 4 0x81828384))
  pub ad_0_q_0_x_1 : block_scan_write_16_0 (answer X 0x345678)
      ≡ wants (operation 9 23 0 17 0x008281 false) (state_of (waiting 0 2 0 23 0 0 0 1 0x00010000 0 0 0) (hex 4 0x11121314) (hex 4 0x81828384))
  pub last_word_ad_0_q_0_x_1 : block_scan_write_16_1 (answer X 0x345678)
      ≡ wants (operation 9 23 0 17 0x008483 false) (state_of (waiting 0 1 0 23 0 0 2 1 0x00010000 0 0 0) (hex 4 0x11121314) (hex 4 0x81828384))
  pub ad_0_q_1_x_1 : block_scan_write_16_0 (answer (Q + X) 0x345678)
      ≡ wants (operation 9 22 15 17 0x008483 false) (state_of (waiting 0 1 0 22 15 0 2 1 0x00000000 1 0 2) (hex 4 0x11121314) (hex 4 0x81828384))
  pub last_word_ad_0_q_1_x_1 : block_scan_write_16_1 (answer (Q + X) 0x345678)
      ≡ wants_none (state_of (ended 2 0 0 0 0 4 4 1 0x00000080 1 2 2) (hex 4 0xD4C3B2A1) (hex 4 0x81828384))
  pub ad_1_q_0_x_0 : block_scan_write_16_2 (answer 0 0x345678)
      ≡ wants (operation 9 23 0 17 0x008281 false) (state_of (waiting 0 2 0 23 0 0 0 1 0x00030000 0 0 0) (hex 4 0x11121314) (hex 4 0x81828384))
  pub ad_1_q_1_x_0 : block_scan_write_16_2 (answer Q 0x345678)
      ≡ wants (operation 9 23 0 17 0x008281 false) (state_of (waiting 0 2 0 23 0 0 0 1 0x00020000 0 0 0) (hex 4 0x11121314) (hex 4 0x81828384))
  pub ad_1_q_0_x_1 : block_scan_write_16_2 (answer X 0x345678)
      ≡ wants (operation 9 23 0 17 0x008281 false) (state_of (waiting 0 2 0 23 0 0 0 1 0x00010000 0 0 0) (hex 4 0x11121314) (hex 4 0x81828384))
  pub ad_1_q_1_x_1 : block_scan_write_16_2 (answer (Q + X) 0x345678)
      ≡ wants (operation 9 22 15 17 0x008483 false) (state_of (waiting 0 1 0 22 15 0 2 1 0x00000000 1 0 2) (hex 4 0x11121314) (hex 4 0x81828384))

-- block scan write 24 bits, by AD, Q and X
abbrev pub block_scan_write_24_0 : List ℕ → Called
block_scan_write_24_0 =
    step_of (first_field 2 ++ camac_4 0x02100102 ++ camac_8 0x2DD10938 0xFFFFFFFC ++ literal 0xA1B2C3D4 ++ halt)
    (state_of (waiting 1 2 0 22 14 0 2 1 0x00000000 1 0 2) (hex 4 0x11121314) (hex 12 0x8182838485868788898A8B8C))

abbrev pub block_scan_write_24_1 : List ℕ → Called
block_scan_write_24_1 =
    step_of (first_field 2 ++ camac_4 0x02100102 ++ camac_8 0x2DD10938 0xFFFFFFFC ++ literal 0xA1B2C3D4 ++ halt)
    (state_of (waiting 1 1 0 22 14 0 8 1 0x00000000 1 0 2) (hex 4 0x11121314) (hex 12 0x8182838485868788898A8B8C))

abbrev pub block_scan_write_24_2 : List ℕ → Called
block_scan_write_24_2 =
    step_of (first_field 2 ++ camac_4 0x02100102 ++ camac_8 0x2DD10939 0xFFFFFFFC ++ literal 0xA1B2C3D4 ++ halt)
    (state_of (waiting 1 2 0 22 14 0 2 1 0x00000000 1 0 2) (hex 4 0x11121314) (hex 12 0x8182838485868788898A8B8C))

pub record BlockScanWrite24 : Type 0 where
  pub ad_0_q_0_x_0 : block_scan_write_24_0 (answer 0 0x345678)
      ≡ wants (operation 9 23 0 17 0x878685 false) (state_of (waiting 1 2 0 23 0 0 2 2 0x00030000 1 0 2) (hex 4 0x11121314) (hex 12 0x8182838485868788898A8B8C))
  pub ad_0_q_1_x_0 : block_scan_write_24_0 (answer Q 0x345678)
      ≡ wants (operation 9 23 0 17 0x878685 false) (state_of (waiting 1 2 0 23 0 0 2 2 0x00020000 1 0 2) (hex 4 0x11121314) (hex 12 0x8182838485868788898A8B8C))
  pub ad_0_q_0_x_1 : block_scan_write_24_0 (answer X 0x345678)
      ≡ wants (operation 9 23 0 17 0x878685 false) (state_of (waiting 1 2 0 23 0 0 2 2 0x00010000 1 0 2) (hex 4 0x11121314) (hex 12 0x8182838485868788898A8B8C))
  pub last_word_ad_0_q_0_x_1 : block_scan_write_24_1 (answer X 0x345678)
      ≡ wants (operation 9 23 0 17 0x8B8A89 false) (state_of (waiting 1 1 0 23 0 0 8 2 0x00010000 1 0 2) (hex 4 0x11121314) (hex 12 0x8182838485868788898A8B8C))
  pub ad_0_q_1_x_1 : block_scan_write_24_0 (answer (Q + X) 0x345678)
      ≡ wants (operation 9 22 15 17 0x8B8A89 false) (state_of (waiting 1 1 0 22 15 0 8 2 0x00000000 1 4 4) (hex 4 0x11121314) (hex 12 0x8182838485868788898A8B8C))
  pub last_word_ad_0_q_1_x_1 : block_scan_write_24_1 (answer (Q + X) 0x345678)
      ≡ wants_none (state_of (ended 3 0 0 0 0 4 12 2 0x00000080 1 8 4) (hex 4 0xD4C3B2A1) (hex 12 0x8182838485868788898A8B8C))
  pub ad_1_q_0_x_0 : block_scan_write_24_2 (answer 0 0x345678)
      ≡ wants (operation 9 23 0 17 0x878685 false) (state_of (waiting 1 2 0 23 0 0 2 2 0x00030000 1 0 2) (hex 4 0x11121314) (hex 12 0x8182838485868788898A8B8C))
  pub ad_1_q_1_x_0 : block_scan_write_24_2 (answer Q 0x345678)
      ≡ wants (operation 9 23 0 17 0x878685 false) (state_of (waiting 1 2 0 23 0 0 2 2 0x00020000 1 0 2) (hex 4 0x11121314) (hex 12 0x8182838485868788898A8B8C))
  pub ad_1_q_0_x_1 : block_scan_write_24_2 (answer X 0x345678)
      ≡ wants (operation 9 23 0 17 0x878685 false) (state_of (waiting 1 2 0 23 0 0 2 2 0x00010000 1 0 2) (hex 4 0x11121314) (hex 12 0x8182838485868788898A8B8C))
  pub ad_1_q_1_x_1 : block_scan_write_24_2 (answer (Q + X) 0x345678)
      ≡ wants (operation 9 22 15 17 0x8B8A89 false) (state_of (waiting 1 1 0 22 15 0 8 2 0x00000000 1 4 4) (hex 4 0x11121314) (hex 12 0x8182838485868788898A8B8C))

-- enhanced stop read 16 bits, by AD, Q and X
abbrev pub enhanced_stop_read_16_0 : List ℕ → Called
enhanced_stop_read_16_0 =
    step_of (first_field 2 ++ camac_8 0x0A620942 0xFFFFFFFE ++ literal 0xA1B2C3D4 ++ halt)
    (state_of (waiting 0 2 0 5 3 0 0 0 0x00000000 0 0 0) (hex 8 0x1112131415161718) [])

abbrev pub enhanced_stop_read_16_1 : List ℕ → Called
enhanced_stop_read_16_1 =
    step_of (first_field 2 ++ camac_8 0x0A620942 0xFFFFFFFE ++ literal 0xA1B2C3D4 ++ halt)
    (state_of (waiting 0 1 0 5 3 2 0 0 0x00000000 0 0 0) (hex 8 0x1112131415161718) [])

abbrev pub enhanced_stop_read_16_2 : List ℕ → Called
enhanced_stop_read_16_2 =
    step_of (first_field 2 ++ camac_8 0x0A620943 0xFFFFFFFE ++ literal 0xA1B2C3D4 ++ halt)
    (state_of (waiting 0 2 0 5 3 0 0 0 0x00000000 0 0 0) (hex 8 0x1112131415161718) [])

pub record EnhancedStopRead16 : Type 0 where
  pub ad_0_q_0_x_0 : enhanced_stop_read_16_0 (answer 0 0x345678)
      ≡ wants_none (state_of (ended 0 0 0 0 0 0 0 1 0x80030080 0 0 0) (hex 8 0x1112131415161718) [])
  pub ad_0_q_1_x_0 : enhanced_stop_read_16_0 (answer Q 0x345678)
      ≡ wants_none (state_of (ended 0 0 0 0 0 0 0 1 0x80020080 0 0 0) (hex 8 0x1112131415161718) [])
  pub ad_0_q_0_x_1 : enhanced_stop_read_16_0 (answer X 0x345678)
      ≡ wants_none (state_of (ended 2 0 0 0 0 4 0 1 0x00010080 0 0 0) (hex 8 0xD4C3B2A115161718) [])
  pub last_word_ad_0_q_0_x_1 : enhanced_stop_read_16_1 (answer X 0x345678)
      ≡ wants_none (state_of (ended 2 0 0 0 0 8 0 1 0x00010080 0 0 0) (hex 8 0x11120000D4C3B2A1) [])
  pub ad_0_q_1_x_1 : enhanced_stop_read_16_0 (answer (Q + X) 0x345678)
      ≡ wants (operation 9 5 3 2 0x000000 true) (state_of (waiting 0 1 0 5 3 2 0 1 0x00000000 0 0 2) (hex 8 0x7856131415161718) [])
  pub last_word_ad_0_q_1_x_1 : enhanced_stop_read_16_1 (answer (Q + X) 0x345678)
      ≡ wants_none (state_of (ended 2 0 0 0 0 8 0 1 0x00000080 0 2 2) (hex 8 0x11127856D4C3B2A1) [])
  pub ad_1_q_0_x_0 : enhanced_stop_read_16_2 (answer 0 0x345678)
      ≡ wants_none (state_of (ended 2 0 0 0 0 4 0 1 0x00030080 0 0 0) (hex 8 0xD4C3B2A115161718) [])
  pub ad_1_q_1_x_0 : enhanced_stop_read_16_2 (answer Q 0x345678)
      ≡ wants (operation 9 5 3 2 0x000000 true) (state_of (waiting 0 1 0 5 3 2 0 1 0x00020000 0 0 2) (hex 8 0x7856131415161718) [])
  pub ad_1_q_0_x_1 : enhanced_stop_read_16_2 (answer X 0x345678)
      ≡ wants_none (state_of (ended 2 0 0 0 0 4 0 1 0x00010080 0 0 0) (hex 8 0xD4C3B2A115161718) [])
  pub ad_1_q_1_x_1 : enhanced_stop_read_16_2 (answer (Q + X) 0x345678)
      ≡ wants (operation 9 5 3 2 0x000000 true) (state_of (waiting 0 1 0 5 3 2 0 1 0x00000000 0 0 2) (hex 8 0x7856131415161718) [])

-- enhanced stop read 24 bits, by AD, Q and X
abbrev pub enhanced_stop_read_24_0 : List ℕ → Called
enhanced_stop_read_24_0 =
    step_of (first_field 2 ++ camac_4 0x02000102 ++ camac_8 0x0A620940 0xFFFFFFFC ++ literal 0xA1B2C3D4 ++ halt)
    (state_of (waiting 1 2 0 5 3 2 0 1 0x00000000 0 0 2) (hex 16 0x1112131415161718191A1B1C1D1E1F20) [])

abbrev pub enhanced_stop_read_24_1 : List ℕ → Called
enhanced_stop_read_24_1 =
    step_of (first_field 2 ++ camac_4 0x02000102 ++ camac_8 0x0A620940 0xFFFFFFFC ++ literal 0xA1B2C3D4 ++ halt)
    (state_of (waiting 1 1 0 5 3 8 0 1 0x00000000 0 0 2) (hex 16 0x1112131415161718191A1B1C1D1E1F20) [])

abbrev pub enhanced_stop_read_24_2 : List ℕ → Called
enhanced_stop_read_24_2 =
    step_of (first_field 2 ++ camac_4 0x02000102 ++ camac_8 0x0A620941 0xFFFFFFFC ++ literal 0xA1B2C3D4 ++ halt)
    (state_of (waiting 1 2 0 5 3 2 0 1 0x00000000 0 0 2) (hex 16 0x1112131415161718191A1B1C1D1E1F20) [])

pub record EnhancedStopRead24 : Type 0 where
  pub ad_0_q_0_x_0 : enhanced_stop_read_24_0 (answer 0 0x345678)
      ≡ wants_none (state_of (ended 1 0 0 0 0 2 0 2 0x80030080 0 0 2) (hex 16 0x1112131415161718191A1B1C1D1E1F20) [])
  pub ad_0_q_1_x_0 : enhanced_stop_read_24_0 (answer Q 0x345678)
      ≡ wants_none (state_of (ended 1 0 0 0 0 2 0 2 0x80020080 0 0 2) (hex 16 0x1112131415161718191A1B1C1D1E1F20) [])
  pub ad_0_q_0_x_1 : enhanced_stop_read_24_0 (answer X 0x345678)
      ≡ wants_none (state_of (ended 3 0 0 0 0 8 0 2 0x00010080 0 0 2) (hex 16 0x11120000D4C3B2A1191A1B1C1D1E1F20) [])
  pub last_word_ad_0_q_0_x_1 : enhanced_stop_read_24_1 (answer X 0x345678)
      ≡ wants_none (state_of (ended 3 0 0 0 0 12 0 2 0x00010080 0 0 2) (hex 16 0x1112131415161718D4C3B2A11D1E1F20) [])
  pub ad_0_q_1_x_1 : enhanced_stop_read_24_0 (answer (Q + X) 0x345678)
      ≡ wants (operation 9 5 3 2 0x000000 true) (state_of (waiting 1 1 0 5 3 8 0 2 0x00000000 0 4 4) (hex 16 0x11120000785634C0191A1B1C1D1E1F20) [])
  pub last_word_ad_0_q_1_x_1 : enhanced_stop_read_24_1 (answer (Q + X) 0x345678)
      ≡ wants_none (state_of (ended 3 0 0 0 0 16 0 2 0x00000080 0 8 4) (hex 16 0x1112131415161718785634C0D4C3B2A1) [])
  pub ad_1_q_0_x_0 : enhanced_stop_read_24_2 (answer 0 0x345678)
      ≡ wants_none (state_of (ended 3 0 0 0 0 8 0 2 0x00030080 0 0 2) (hex 16 0x11120000D4C3B2A1191A1B1C1D1E1F20) [])
  pub ad_1_q_1_x_0 : enhanced_stop_read_24_2 (answer Q 0x345678)
      ≡ wants (operation 9 5 3 2 0x000000 true) (state_of (waiting 1 1 0 5 3 8 0 2 0x00020000 0 4 4) (hex 16 0x1112000078563480191A1B1C1D1E1F20) [])
  pub ad_1_q_0_x_1 : enhanced_stop_read_24_2 (answer X 0x345678)
      ≡ wants_none (state_of (ended 3 0 0 0 0 8 0 2 0x00010080 0 0 2) (hex 16 0x11120000D4C3B2A1191A1B1C1D1E1F20) [])
  pub ad_1_q_1_x_1 : enhanced_stop_read_24_2 (answer (Q + X) 0x345678)
      ≡ wants (operation 9 5 3 2 0x000000 true) (state_of (waiting 1 1 0 5 3 8 0 2 0x00000000 0 4 4) (hex 16 0x11120000785634C0191A1B1C1D1E1F20) [])

-- enhanced stop write 16 bits, by AD, Q and X
abbrev pub enhanced_stop_write_16_0 : List ℕ → Called
enhanced_stop_write_16_0 =
    step_of (first_field 2 ++ camac_8 0x0A710942 0xFFFFFFFE ++ literal 0xA1B2C3D4 ++ halt)
    (state_of (waiting 0 2 0 5 3 0 0 0 0x00000000 0 0 0) (hex 4 0x11121314) (hex 4 0x81828384))

abbrev pub enhanced_stop_write_16_1 : List ℕ → Called
enhanced_stop_write_16_1 =
    step_of (first_field 2 ++ camac_8 0x0A710942 0xFFFFFFFE ++ literal 0xA1B2C3D4 ++ halt)
    (state_of (waiting 0 1 0 5 3 0 2 0 0x00000000 0 0 0) (hex 4 0x11121314) (hex 4 0x81828384))

abbrev pub enhanced_stop_write_16_2 : List ℕ → Called
enhanced_stop_write_16_2 =
    step_of (first_field 2 ++ camac_8 0x0A710943 0xFFFFFFFE ++ literal 0xA1B2C3D4 ++ halt)
    (state_of (waiting 0 2 0 5 3 0 0 0 0x00000000 0 0 0) (hex 4 0x11121314) (hex 4 0x81828384))

pub record EnhancedStopWrite16 : Type 0 where
  pub ad_0_q_0_x_0 : enhanced_stop_write_16_0 (answer 0 0x345678)
      ≡ wants_none (state_of (ended 0 0 0 0 0 0 0 1 0x80030080 0 0 0) (hex 4 0x11121314) (hex 4 0x81828384))
  pub ad_0_q_1_x_0 : enhanced_stop_write_16_0 (answer Q 0x345678)
      ≡ wants_none (state_of (ended 0 0 0 0 0 0 0 1 0x80020080 0 0 0) (hex 4 0x11121314) (hex 4 0x81828384))
  pub ad_0_q_0_x_1 : enhanced_stop_write_16_0 (answer X 0x345678)
      ≡ wants_none (state_of (ended 2 0 0 0 0 4 0 1 0x00010080 0 0 0) (hex 4 0xD4C3B2A1) (hex 4 0x81828384))
  pub last_word_ad_0_q_0_x_1 : enhanced_stop_write_16_1 (answer X 0x345678)
      ≡ wants_none (state_of (ended 2 0 0 0 0 4 2 1 0x00010080 0 0 0) (hex 4 0xD4C3B2A1) (hex 4 0x81828384))
  pub ad_0_q_1_x_1 : enhanced_stop_write_16_0 (answer (Q + X) 0x345678)
      ≡ wants (operation 9 5 3 17 0x008483 true) (state_of (waiting 0 1 0 5 3 0 2 1 0x00000000 1 0 2) (hex 4 0x11121314) (hex 4 0x81828384))
  pub last_word_ad_0_q_1_x_1 : enhanced_stop_write_16_1 (answer (Q + X) 0x345678)
      ≡ wants_none (state_of (ended 2 0 0 0 0 4 4 1 0x00000080 1 2 2) (hex 4 0xD4C3B2A1) (hex 4 0x81828384))
  pub ad_1_q_0_x_0 : enhanced_stop_write_16_2 (answer 0 0x345678)
      ≡ wants_none (state_of (ended 2 0 0 0 0 4 0 1 0x00030080 0 0 0) (hex 4 0xD4C3B2A1) (hex 4 0x81828384))
  pub ad_1_q_1_x_0 : enhanced_stop_write_16_2 (answer Q 0x345678)
      ≡ wants (operation 9 5 3 17 0x008483 true) (state_of (waiting 0 1 0 5 3 0 2 1 0x00020000 1 0 2) (hex 4 0x11121314) (hex 4 0x81828384))
  pub ad_1_q_0_x_1 : enhanced_stop_write_16_2 (answer X 0x345678)
      ≡ wants_none (state_of (ended 2 0 0 0 0 4 0 1 0x00010080 0 0 0) (hex 4 0xD4C3B2A1) (hex 4 0x81828384))
  pub ad_1_q_1_x_1 : enhanced_stop_write_16_2 (answer (Q + X) 0x345678)
      ≡ wants (operation 9 5 3 17 0x008483 true) (state_of (waiting 0 1 0 5 3 0 2 1 0x00000000 1 0 2) (hex 4 0x11121314) (hex 4 0x81828384))

-- enhanced stop write 24 bits, by AD, Q and X
abbrev pub enhanced_stop_write_24_0 : List ℕ → Called
enhanced_stop_write_24_0 =
    step_of (first_field 2 ++ camac_4 0x02100102 ++ camac_8 0x0A710940 0xFFFFFFFC ++ literal 0xA1B2C3D4 ++ halt)
    (state_of (waiting 1 2 0 5 3 0 2 1 0x00000000 1 0 2) (hex 4 0x11121314) (hex 12 0x8182838485868788898A8B8C))

abbrev pub enhanced_stop_write_24_1 : List ℕ → Called
enhanced_stop_write_24_1 =
    step_of (first_field 2 ++ camac_4 0x02100102 ++ camac_8 0x0A710940 0xFFFFFFFC ++ literal 0xA1B2C3D4 ++ halt)
    (state_of (waiting 1 1 0 5 3 0 8 1 0x00000000 1 0 2) (hex 4 0x11121314) (hex 12 0x8182838485868788898A8B8C))

abbrev pub enhanced_stop_write_24_2 : List ℕ → Called
enhanced_stop_write_24_2 =
    step_of (first_field 2 ++ camac_4 0x02100102 ++ camac_8 0x0A710941 0xFFFFFFFC ++ literal 0xA1B2C3D4 ++ halt)
    (state_of (waiting 1 2 0 5 3 0 2 1 0x00000000 1 0 2) (hex 4 0x11121314) (hex 12 0x8182838485868788898A8B8C))

pub record EnhancedStopWrite24 : Type 0 where
  pub ad_0_q_0_x_0 : enhanced_stop_write_24_0 (answer 0 0x345678)
      ≡ wants_none (state_of (ended 1 0 0 0 0 0 2 2 0x80030080 1 0 2) (hex 4 0x11121314) (hex 12 0x8182838485868788898A8B8C))
  pub ad_0_q_1_x_0 : enhanced_stop_write_24_0 (answer Q 0x345678)
      ≡ wants_none (state_of (ended 1 0 0 0 0 0 2 2 0x80020080 1 0 2) (hex 4 0x11121314) (hex 12 0x8182838485868788898A8B8C))
  pub ad_0_q_0_x_1 : enhanced_stop_write_24_0 (answer X 0x345678)
      ≡ wants_none (state_of (ended 3 0 0 0 0 4 2 2 0x00010080 1 0 2) (hex 4 0xD4C3B2A1) (hex 12 0x8182838485868788898A8B8C))
  pub last_word_ad_0_q_0_x_1 : enhanced_stop_write_24_1 (answer X 0x345678)
      ≡ wants_none (state_of (ended 3 0 0 0 0 4 8 2 0x00010080 1 0 2) (hex 4 0xD4C3B2A1) (hex 12 0x8182838485868788898A8B8C))
  pub ad_0_q_1_x_1 : enhanced_stop_write_24_0 (answer (Q + X) 0x345678)
      ≡ wants (operation 9 5 3 17 0x8B8A89 true) (state_of (waiting 1 1 0 5 3 0 8 2 0x00000000 1 4 4) (hex 4 0x11121314) (hex 12 0x8182838485868788898A8B8C))
  pub last_word_ad_0_q_1_x_1 : enhanced_stop_write_24_1 (answer (Q + X) 0x345678)
      ≡ wants_none (state_of (ended 3 0 0 0 0 4 12 2 0x00000080 1 8 4) (hex 4 0xD4C3B2A1) (hex 12 0x8182838485868788898A8B8C))
  pub ad_1_q_0_x_0 : enhanced_stop_write_24_2 (answer 0 0x345678)
      ≡ wants_none (state_of (ended 3 0 0 0 0 4 2 2 0x00030080 1 0 2) (hex 4 0xD4C3B2A1) (hex 12 0x8182838485868788898A8B8C))
  pub ad_1_q_1_x_0 : enhanced_stop_write_24_2 (answer Q 0x345678)
      ≡ wants (operation 9 5 3 17 0x8B8A89 true) (state_of (waiting 1 1 0 5 3 0 8 2 0x00020000 1 4 4) (hex 4 0x11121314) (hex 12 0x8182838485868788898A8B8C))
  pub ad_1_q_0_x_1 : enhanced_stop_write_24_2 (answer X 0x345678)
      ≡ wants_none (state_of (ended 3 0 0 0 0 4 2 2 0x00010080 1 0 2) (hex 4 0xD4C3B2A1) (hex 12 0x8182838485868788898A8B8C))
  pub ad_1_q_1_x_1 : enhanced_stop_write_24_2 (answer (Q + X) 0x345678)
      ≡ wants (operation 9 5 3 17 0x8B8A89 true) (state_of (waiting 1 1 0 5 3 0 8 2 0x00000000 1 4 4) (hex 4 0x11121314) (hex 12 0x8182838485868788898A8B8C))

-- enhanced ignore read 16 bits, by AD, Q and X
abbrev pub enhanced_ignore_read_16_0 : List ℕ → Called
enhanced_ignore_read_16_0 =
    step_of (first_field 2 ++ camac_8 0x0A62094A 0xFFFFFFFE ++ literal 0xA1B2C3D4 ++ halt)
    (state_of (waiting 0 2 0 5 3 0 0 0 0x00000000 0 0 0) (hex 8 0x1112131415161718) [])

abbrev pub enhanced_ignore_read_16_1 : List ℕ → Called
enhanced_ignore_read_16_1 =
    step_of (first_field 2 ++ camac_8 0x0A62094A 0xFFFFFFFE ++ literal 0xA1B2C3D4 ++ halt)
    (state_of (waiting 0 1 0 5 3 2 0 0 0x00000000 0 0 0) (hex 8 0x1112131415161718) [])

abbrev pub enhanced_ignore_read_16_2 : List ℕ → Called
enhanced_ignore_read_16_2 =
    step_of (first_field 2 ++ camac_8 0x0A62094B 0xFFFFFFFE ++ literal 0xA1B2C3D4 ++ halt)
    (state_of (waiting 0 2 0 5 3 0 0 0 0x00000000 0 0 0) (hex 8 0x1112131415161718) [])

pub record EnhancedIgnoreRead16 : Type 0 where
  pub ad_0_q_0_x_0 : enhanced_ignore_read_16_0 (answer 0 0x345678)
      ≡ wants_none (state_of (ended 0 0 0 0 0 0 0 1 0x80030080 0 0 0) (hex 8 0x1112131415161718) [])
  pub ad_0_q_1_x_0 : enhanced_ignore_read_16_0 (answer Q 0x345678)
      ≡ wants_none (state_of (ended 0 0 0 0 0 0 0 1 0x80020080 0 0 0) (hex 8 0x1112131415161718) [])
  pub ad_0_q_0_x_1 : enhanced_ignore_read_16_0 (answer X 0x345678)
      ≡ wants (operation 9 5 3 2 0x000000 true) (state_of (waiting 0 1 0 5 3 2 0 1 0x00010000 0 0 2) (hex 8 0x7856131415161718) [])
  pub last_word_ad_0_q_0_x_1 : enhanced_ignore_read_16_1 (answer X 0x345678)
      ≡ wants_none (state_of (ended 2 0 0 0 0 8 0 1 0x00010080 0 2 2) (hex 8 0x11127856D4C3B2A1) [])
  pub ad_0_q_1_x_1 : enhanced_ignore_read_16_0 (answer (Q + X) 0x345678)
      ≡ wants (operation 9 5 3 2 0x000000 true) (state_of (waiting 0 1 0 5 3 2 0 1 0x00000000 0 0 2) (hex 8 0x7856131415161718) [])
  pub last_word_ad_0_q_1_x_1 : enhanced_ignore_read_16_1 (answer (Q + X) 0x345678)
      ≡ wants_none (state_of (ended 2 0 0 0 0 8 0 1 0x00000080 0 2 2) (hex 8 0x11127856D4C3B2A1) [])
  pub ad_1_q_0_x_0 : enhanced_ignore_read_16_2 (answer 0 0x345678)
      ≡ wants (operation 9 5 3 2 0x000000 true) (state_of (waiting 0 1 0 5 3 2 0 1 0x00030000 0 0 2) (hex 8 0x7856131415161718) [])
  pub ad_1_q_1_x_0 : enhanced_ignore_read_16_2 (answer Q 0x345678)
      ≡ wants (operation 9 5 3 2 0x000000 true) (state_of (waiting 0 1 0 5 3 2 0 1 0x00020000 0 0 2) (hex 8 0x7856131415161718) [])
  pub ad_1_q_0_x_1 : enhanced_ignore_read_16_2 (answer X 0x345678)
      ≡ wants (operation 9 5 3 2 0x000000 true) (state_of (waiting 0 1 0 5 3 2 0 1 0x00010000 0 0 2) (hex 8 0x7856131415161718) [])
  pub ad_1_q_1_x_1 : enhanced_ignore_read_16_2 (answer (Q + X) 0x345678)
      ≡ wants (operation 9 5 3 2 0x000000 true) (state_of (waiting 0 1 0 5 3 2 0 1 0x00000000 0 0 2) (hex 8 0x7856131415161718) [])

-- enhanced ignore read 24 bits, by AD, Q and X
abbrev pub enhanced_ignore_read_24_0 : List ℕ → Called
enhanced_ignore_read_24_0 =
    step_of (first_field 2 ++ camac_4 0x02000102 ++ camac_8 0x0A620948 0xFFFFFFFC ++ literal 0xA1B2C3D4 ++ halt)
    (state_of (waiting 1 2 0 5 3 2 0 1 0x00000000 0 0 2) (hex 16 0x1112131415161718191A1B1C1D1E1F20) [])

abbrev pub enhanced_ignore_read_24_1 : List ℕ → Called
enhanced_ignore_read_24_1 =
    step_of (first_field 2 ++ camac_4 0x02000102 ++ camac_8 0x0A620948 0xFFFFFFFC ++ literal 0xA1B2C3D4 ++ halt)
    (state_of (waiting 1 1 0 5 3 8 0 1 0x00000000 0 0 2) (hex 16 0x1112131415161718191A1B1C1D1E1F20) [])

abbrev pub enhanced_ignore_read_24_2 : List ℕ → Called
enhanced_ignore_read_24_2 =
    step_of (first_field 2 ++ camac_4 0x02000102 ++ camac_8 0x0A620949 0xFFFFFFFC ++ literal 0xA1B2C3D4 ++ halt)
    (state_of (waiting 1 2 0 5 3 2 0 1 0x00000000 0 0 2) (hex 16 0x1112131415161718191A1B1C1D1E1F20) [])

pub record EnhancedIgnoreRead24 : Type 0 where
  pub ad_0_q_0_x_0 : enhanced_ignore_read_24_0 (answer 0 0x345678)
      ≡ wants_none (state_of (ended 1 0 0 0 0 2 0 2 0x80030080 0 0 2) (hex 16 0x1112131415161718191A1B1C1D1E1F20) [])
  pub ad_0_q_1_x_0 : enhanced_ignore_read_24_0 (answer Q 0x345678)
      ≡ wants_none (state_of (ended 1 0 0 0 0 2 0 2 0x80020080 0 0 2) (hex 16 0x1112131415161718191A1B1C1D1E1F20) [])
  pub ad_0_q_0_x_1 : enhanced_ignore_read_24_0 (answer X 0x345678)
      ≡ wants (operation 9 5 3 2 0x000000 true) (state_of (waiting 1 1 0 5 3 8 0 2 0x00010000 0 4 4) (hex 16 0x1112000078563440191A1B1C1D1E1F20) [])
  pub last_word_ad_0_q_0_x_1 : enhanced_ignore_read_24_1 (answer X 0x345678)
      ≡ wants_none (state_of (ended 3 0 0 0 0 16 0 2 0x00010080 0 8 4) (hex 16 0x111213141516171878563440D4C3B2A1) [])
  pub ad_0_q_1_x_1 : enhanced_ignore_read_24_0 (answer (Q + X) 0x345678)
      ≡ wants (operation 9 5 3 2 0x000000 true) (state_of (waiting 1 1 0 5 3 8 0 2 0x00000000 0 4 4) (hex 16 0x11120000785634C0191A1B1C1D1E1F20) [])
  pub last_word_ad_0_q_1_x_1 : enhanced_ignore_read_24_1 (answer (Q + X) 0x345678)
      ≡ wants_none (state_of (ended 3 0 0 0 0 16 0 2 0x00000080 0 8 4) (hex 16 0x1112131415161718785634C0D4C3B2A1) [])
  pub ad_1_q_0_x_0 : enhanced_ignore_read_24_2 (answer 0 0x345678)
      ≡ wants (operation 9 5 3 2 0x000000 true) (state_of (waiting 1 1 0 5 3 8 0 2 0x00030000 0 4 4) (hex 16 0x1112000078563400191A1B1C1D1E1F20) [])
  pub ad_1_q_1_x_0 : enhanced_ignore_read_24_2 (answer Q 0x345678)
      ≡ wants (operation 9 5 3 2 0x000000 true) (state_of (waiting 1 1 0 5 3 8 0 2 0x00020000 0 4 4) (hex 16 0x1112000078563480191A1B1C1D1E1F20) [])
  pub ad_1_q_0_x_1 : enhanced_ignore_read_24_2 (answer X 0x345678)
      ≡ wants (operation 9 5 3 2 0x000000 true) (state_of (waiting 1 1 0 5 3 8 0 2 0x00010000 0 4 4) (hex 16 0x1112000078563440191A1B1C1D1E1F20) [])
  pub ad_1_q_1_x_1 : enhanced_ignore_read_24_2 (answer (Q + X) 0x345678)
      ≡ wants (operation 9 5 3 2 0x000000 true) (state_of (waiting 1 1 0 5 3 8 0 2 0x00000000 0 4 4) (hex 16 0x11120000785634C0191A1B1C1D1E1F20) [])

-- enhanced ignore write 16 bits, by AD, Q and X
abbrev pub enhanced_ignore_write_16_0 : List ℕ → Called
enhanced_ignore_write_16_0 =
    step_of (first_field 2 ++ camac_8 0x0A71094A 0xFFFFFFFE ++ literal 0xA1B2C3D4 ++ halt)
    (state_of (waiting 0 2 0 5 3 0 0 0 0x00000000 0 0 0) (hex 4 0x11121314) (hex 4 0x81828384))

abbrev pub enhanced_ignore_write_16_1 : List ℕ → Called
enhanced_ignore_write_16_1 =
    step_of (first_field 2 ++ camac_8 0x0A71094A 0xFFFFFFFE ++ literal 0xA1B2C3D4 ++ halt)
    (state_of (waiting 0 1 0 5 3 0 2 0 0x00000000 0 0 0) (hex 4 0x11121314) (hex 4 0x81828384))

abbrev pub enhanced_ignore_write_16_2 : List ℕ → Called
enhanced_ignore_write_16_2 =
    step_of (first_field 2 ++ camac_8 0x0A71094B 0xFFFFFFFE ++ literal 0xA1B2C3D4 ++ halt)
    (state_of (waiting 0 2 0 5 3 0 0 0 0x00000000 0 0 0) (hex 4 0x11121314) (hex 4 0x81828384))

pub record EnhancedIgnoreWrite16 : Type 0 where
  pub ad_0_q_0_x_0 : enhanced_ignore_write_16_0 (answer 0 0x345678)
      ≡ wants_none (state_of (ended 0 0 0 0 0 0 0 1 0x80030080 0 0 0) (hex 4 0x11121314) (hex 4 0x81828384))
  pub ad_0_q_1_x_0 : enhanced_ignore_write_16_0 (answer Q 0x345678)
      ≡ wants_none (state_of (ended 0 0 0 0 0 0 0 1 0x80020080 0 0 0) (hex 4 0x11121314) (hex 4 0x81828384))
  pub ad_0_q_0_x_1 : enhanced_ignore_write_16_0 (answer X 0x345678)
      ≡ wants (operation 9 5 3 17 0x008483 true) (state_of (waiting 0 1 0 5 3 0 2 1 0x00010000 1 0 2) (hex 4 0x11121314) (hex 4 0x81828384))
  pub last_word_ad_0_q_0_x_1 : enhanced_ignore_write_16_1 (answer X 0x345678)
      ≡ wants_none (state_of (ended 2 0 0 0 0 4 4 1 0x00010080 1 2 2) (hex 4 0xD4C3B2A1) (hex 4 0x81828384))
  pub ad_0_q_1_x_1 : enhanced_ignore_write_16_0 (answer (Q + X) 0x345678)
      ≡ wants (operation 9 5 3 17 0x008483 true) (state_of (waiting 0 1 0 5 3 0 2 1 0x00000000 1 0 2) (hex 4 0x11121314) (hex 4 0x81828384))
  pub last_word_ad_0_q_1_x_1 : enhanced_ignore_write_16_1 (answer (Q + X) 0x345678)
      ≡ wants_none (state_of (ended 2 0 0 0 0 4 4 1 0x00000080 1 2 2) (hex 4 0xD4C3B2A1) (hex 4 0x81828384))
  pub ad_1_q_0_x_0 : enhanced_ignore_write_16_2 (answer 0 0x345678)
      ≡ wants (operation 9 5 3 17 0x008483 true) (state_of (waiting 0 1 0 5 3 0 2 1 0x00030000 1 0 2) (hex 4 0x11121314) (hex 4 0x81828384))
  pub ad_1_q_1_x_0 : enhanced_ignore_write_16_2 (answer Q 0x345678)
      ≡ wants (operation 9 5 3 17 0x008483 true) (state_of (waiting 0 1 0 5 3 0 2 1 0x00020000 1 0 2) (hex 4 0x11121314) (hex 4 0x81828384))
  pub ad_1_q_0_x_1 : enhanced_ignore_write_16_2 (answer X 0x345678)
      ≡ wants (operation 9 5 3 17 0x008483 true) (state_of (waiting 0 1 0 5 3 0 2 1 0x00010000 1 0 2) (hex 4 0x11121314) (hex 4 0x81828384))
  pub ad_1_q_1_x_1 : enhanced_ignore_write_16_2 (answer (Q + X) 0x345678)
      ≡ wants (operation 9 5 3 17 0x008483 true) (state_of (waiting 0 1 0 5 3 0 2 1 0x00000000 1 0 2) (hex 4 0x11121314) (hex 4 0x81828384))

-- enhanced ignore write 24 bits, by AD, Q and X
abbrev pub enhanced_ignore_write_24_0 : List ℕ → Called
enhanced_ignore_write_24_0 =
    step_of (first_field 2 ++ camac_4 0x02100102 ++ camac_8 0x0A710948 0xFFFFFFFC ++ literal 0xA1B2C3D4 ++ halt)
    (state_of (waiting 1 2 0 5 3 0 2 1 0x00000000 1 0 2) (hex 4 0x11121314) (hex 12 0x8182838485868788898A8B8C))

abbrev pub enhanced_ignore_write_24_1 : List ℕ → Called
enhanced_ignore_write_24_1 =
    step_of (first_field 2 ++ camac_4 0x02100102 ++ camac_8 0x0A710948 0xFFFFFFFC ++ literal 0xA1B2C3D4 ++ halt)
    (state_of (waiting 1 1 0 5 3 0 8 1 0x00000000 1 0 2) (hex 4 0x11121314) (hex 12 0x8182838485868788898A8B8C))

abbrev pub enhanced_ignore_write_24_2 : List ℕ → Called
enhanced_ignore_write_24_2 =
    step_of (first_field 2 ++ camac_4 0x02100102 ++ camac_8 0x0A710949 0xFFFFFFFC ++ literal 0xA1B2C3D4 ++ halt)
    (state_of (waiting 1 2 0 5 3 0 2 1 0x00000000 1 0 2) (hex 4 0x11121314) (hex 12 0x8182838485868788898A8B8C))

pub record EnhancedIgnoreWrite24 : Type 0 where
  pub ad_0_q_0_x_0 : enhanced_ignore_write_24_0 (answer 0 0x345678)
      ≡ wants_none (state_of (ended 1 0 0 0 0 0 2 2 0x80030080 1 0 2) (hex 4 0x11121314) (hex 12 0x8182838485868788898A8B8C))
  pub ad_0_q_1_x_0 : enhanced_ignore_write_24_0 (answer Q 0x345678)
      ≡ wants_none (state_of (ended 1 0 0 0 0 0 2 2 0x80020080 1 0 2) (hex 4 0x11121314) (hex 12 0x8182838485868788898A8B8C))
  pub ad_0_q_0_x_1 : enhanced_ignore_write_24_0 (answer X 0x345678)
      ≡ wants (operation 9 5 3 17 0x8B8A89 true) (state_of (waiting 1 1 0 5 3 0 8 2 0x00010000 1 4 4) (hex 4 0x11121314) (hex 12 0x8182838485868788898A8B8C))
  pub last_word_ad_0_q_0_x_1 : enhanced_ignore_write_24_1 (answer X 0x345678)
      ≡ wants_none (state_of (ended 3 0 0 0 0 4 12 2 0x00010080 1 8 4) (hex 4 0xD4C3B2A1) (hex 12 0x8182838485868788898A8B8C))
  pub ad_0_q_1_x_1 : enhanced_ignore_write_24_0 (answer (Q + X) 0x345678)
      ≡ wants (operation 9 5 3 17 0x8B8A89 true) (state_of (waiting 1 1 0 5 3 0 8 2 0x00000000 1 4 4) (hex 4 0x11121314) (hex 12 0x8182838485868788898A8B8C))
  pub last_word_ad_0_q_1_x_1 : enhanced_ignore_write_24_1 (answer (Q + X) 0x345678)
      ≡ wants_none (state_of (ended 3 0 0 0 0 4 12 2 0x00000080 1 8 4) (hex 4 0xD4C3B2A1) (hex 12 0x8182838485868788898A8B8C))
  pub ad_1_q_0_x_0 : enhanced_ignore_write_24_2 (answer 0 0x345678)
      ≡ wants (operation 9 5 3 17 0x8B8A89 true) (state_of (waiting 1 1 0 5 3 0 8 2 0x00030000 1 4 4) (hex 4 0x11121314) (hex 12 0x8182838485868788898A8B8C))
  pub ad_1_q_1_x_0 : enhanced_ignore_write_24_2 (answer Q 0x345678)
      ≡ wants (operation 9 5 3 17 0x8B8A89 true) (state_of (waiting 1 1 0 5 3 0 8 2 0x00020000 1 4 4) (hex 4 0x11121314) (hex 12 0x8182838485868788898A8B8C))
  pub ad_1_q_0_x_1 : enhanced_ignore_write_24_2 (answer X 0x345678)
      ≡ wants (operation 9 5 3 17 0x8B8A89 true) (state_of (waiting 1 1 0 5 3 0 8 2 0x00010000 1 4 4) (hex 4 0x11121314) (hex 12 0x8182838485868788898A8B8C))
  pub ad_1_q_1_x_1 : enhanced_ignore_write_24_2 (answer (Q + X) 0x345678)
      ≡ wants (operation 9 5 3 17 0x8B8A89 true) (state_of (waiting 1 1 0 5 3 0 8 2 0x00000000 1 4 4) (hex 4 0x11121314) (hex 12 0x8182838485868788898A8B8C))

-- enhanced repeat read 16 bits, by AD, Q and X
abbrev pub enhanced_repeat_read_16_0 : List ℕ → Called
enhanced_repeat_read_16_0 =
    step_of (first_field 2 ++ camac_8 0x0A620952 0xFFFFFFFE ++ literal 0xA1B2C3D4 ++ halt)
    (state_of (waiting 0 2 0 5 3 0 0 0 0x00000000 0 0 0) (hex 8 0x1112131415161718) [])

abbrev pub enhanced_repeat_read_16_1 : List ℕ → Called
enhanced_repeat_read_16_1 =
    step_of (first_field 2 ++ camac_8 0x0A620952 0xFFFFFFFE ++ literal 0xA1B2C3D4 ++ halt)
    (state_of (waiting 0 2 1 5 3 0 0 0 0x00000000 0 0 0) (hex 8 0x1112131415161718) [])

abbrev pub enhanced_repeat_read_16_2 : List ℕ → Called
enhanced_repeat_read_16_2 =
    step_of (first_field 2 ++ camac_8 0x0A620952 0xFFFFFFFE ++ literal 0xA1B2C3D4 ++ halt)
    (state_of (waiting 0 1 0 5 3 2 0 0 0x00000000 0 0 0) (hex 8 0x1112131415161718) [])

abbrev pub enhanced_repeat_read_16_3 : List ℕ → Called
enhanced_repeat_read_16_3 =
    step_of (first_field 2 ++ camac_8 0x0A620953 0xFFFFFFFE ++ literal 0xA1B2C3D4 ++ halt)
    (state_of (waiting 0 2 0 5 3 0 0 0 0x00000000 0 0 0) (hex 8 0x1112131415161718) [])

abbrev pub enhanced_repeat_read_16_4 : List ℕ → Called
enhanced_repeat_read_16_4 =
    step_of (first_field 2 ++ camac_8 0x0A620953 0xFFFFFFFE ++ literal 0xA1B2C3D4 ++ halt)
    (state_of (waiting 0 2 1 5 3 0 0 0 0x00000000 0 0 0) (hex 8 0x1112131415161718) [])

pub record EnhancedRepeatRead16 : Type 0 where
  pub ad_0_q_0_x_0 : enhanced_repeat_read_16_0 (answer 0 0x345678)
      ≡ wants_none (state_of (ended 0 0 0 0 0 0 0 1 0x80030080 0 0 0) (hex 8 0x1112131415161718) [])
  pub last_try_ad_0_q_0_x_0 : enhanced_repeat_read_16_1 (answer 0 0x345678)
      ≡ wants_none (state_of (ended 0 0 0 0 0 0 0 1 0xB2030080 0 0 0) (hex 8 0x1112131415161718) [])
  pub ad_0_q_1_x_0 : enhanced_repeat_read_16_0 (answer Q 0x345678)
      ≡ wants_none (state_of (ended 0 0 0 0 0 0 0 1 0x80020080 0 0 0) (hex 8 0x1112131415161718) [])
  pub ad_0_q_0_x_1 : enhanced_repeat_read_16_0 (answer X 0x345678)
      ≡ wants (operation 9 5 3 2 0x000000 true) (state_of (waiting 0 2 1 5 3 0 0 1 0x00010000 0 0 0) (hex 8 0x1112131415161718) [])
  pub last_try_ad_0_q_0_x_1 : enhanced_repeat_read_16_1 (answer X 0x345678)
      ≡ wants_none (state_of (ended 0 0 0 0 0 0 0 1 0xB2010080 0 0 0) (hex 8 0x1112131415161718) [])
  pub last_word_ad_0_q_0_x_1 : enhanced_repeat_read_16_2 (answer X 0x345678)
      ≡ wants (operation 9 5 3 2 0x000000 true) (state_of (waiting 0 1 1 5 3 2 0 1 0x00010000 0 0 0) (hex 8 0x1112131415161718) [])
  pub ad_0_q_1_x_1 : enhanced_repeat_read_16_0 (answer (Q + X) 0x345678)
      ≡ wants (operation 9 5 3 2 0x000000 true) (state_of (waiting 0 1 0 5 3 2 0 1 0x00000000 0 0 2) (hex 8 0x7856131415161718) [])
  pub last_word_ad_0_q_1_x_1 : enhanced_repeat_read_16_2 (answer (Q + X) 0x345678)
      ≡ wants_none (state_of (ended 2 0 0 0 0 8 0 1 0x00000080 0 2 2) (hex 8 0x11127856D4C3B2A1) [])
  pub ad_1_q_0_x_0 : enhanced_repeat_read_16_3 (answer 0 0x345678)
      ≡ wants (operation 9 5 3 2 0x000000 true) (state_of (waiting 0 2 1 5 3 0 0 1 0x00030000 0 0 0) (hex 8 0x1112131415161718) [])
  pub last_try_ad_1_q_0_x_0 : enhanced_repeat_read_16_4 (answer 0 0x345678)
      ≡ wants_none (state_of (ended 0 0 0 0 0 0 0 1 0xB2030080 0 0 0) (hex 8 0x1112131415161718) [])
  pub ad_1_q_1_x_0 : enhanced_repeat_read_16_3 (answer Q 0x345678)
      ≡ wants (operation 9 5 3 2 0x000000 true) (state_of (waiting 0 1 0 5 3 2 0 1 0x00020000 0 0 2) (hex 8 0x7856131415161718) [])
  pub ad_1_q_0_x_1 : enhanced_repeat_read_16_3 (answer X 0x345678)
      ≡ wants (operation 9 5 3 2 0x000000 true) (state_of (waiting 0 2 1 5 3 0 0 1 0x00010000 0 0 0) (hex 8 0x1112131415161718) [])
  pub last_try_ad_1_q_0_x_1 : enhanced_repeat_read_16_4 (answer X 0x345678)
      ≡ wants_none (state_of (ended 0 0 0 0 0 0 0 1 0xB2010080 0 0 0) (hex 8 0x1112131415161718) [])
  pub ad_1_q_1_x_1 : enhanced_repeat_read_16_3 (answer (Q + X) 0x345678)
      ≡ wants (operation 9 5 3 2 0x000000 true) (state_of (waiting 0 1 0 5 3 2 0 1 0x00000000 0 0 2) (hex 8 0x7856131415161718) [])

-- enhanced repeat read 24 bits, by AD, Q and X
abbrev pub enhanced_repeat_read_24_0 : List ℕ → Called
enhanced_repeat_read_24_0 =
    step_of (first_field 2 ++ camac_4 0x02000102 ++ camac_8 0x0A620950 0xFFFFFFFC ++ literal 0xA1B2C3D4 ++ halt)
    (state_of (waiting 1 2 0 5 3 2 0 1 0x00000000 0 0 2) (hex 16 0x1112131415161718191A1B1C1D1E1F20) [])

abbrev pub enhanced_repeat_read_24_1 : List ℕ → Called
enhanced_repeat_read_24_1 =
    step_of (first_field 2 ++ camac_4 0x02000102 ++ camac_8 0x0A620950 0xFFFFFFFC ++ literal 0xA1B2C3D4 ++ halt)
    (state_of (waiting 1 2 1 5 3 2 0 1 0x00000000 0 0 2) (hex 16 0x1112131415161718191A1B1C1D1E1F20) [])

abbrev pub enhanced_repeat_read_24_2 : List ℕ → Called
enhanced_repeat_read_24_2 =
    step_of (first_field 2 ++ camac_4 0x02000102 ++ camac_8 0x0A620950 0xFFFFFFFC ++ literal 0xA1B2C3D4 ++ halt)
    (state_of (waiting 1 1 0 5 3 8 0 1 0x00000000 0 0 2) (hex 16 0x1112131415161718191A1B1C1D1E1F20) [])

abbrev pub enhanced_repeat_read_24_3 : List ℕ → Called
enhanced_repeat_read_24_3 =
    step_of (first_field 2 ++ camac_4 0x02000102 ++ camac_8 0x0A620951 0xFFFFFFFC ++ literal 0xA1B2C3D4 ++ halt)
    (state_of (waiting 1 2 0 5 3 2 0 1 0x00000000 0 0 2) (hex 16 0x1112131415161718191A1B1C1D1E1F20) [])

abbrev pub enhanced_repeat_read_24_4 : List ℕ → Called
enhanced_repeat_read_24_4 =
    step_of (first_field 2 ++ camac_4 0x02000102 ++ camac_8 0x0A620951 0xFFFFFFFC ++ literal 0xA1B2C3D4 ++ halt)
    (state_of (waiting 1 2 1 5 3 2 0 1 0x00000000 0 0 2) (hex 16 0x1112131415161718191A1B1C1D1E1F20) [])

pub record EnhancedRepeatRead24 : Type 0 where
  pub ad_0_q_0_x_0 : enhanced_repeat_read_24_0 (answer 0 0x345678)
      ≡ wants_none (state_of (ended 1 0 0 0 0 2 0 2 0x80030080 0 0 2) (hex 16 0x1112131415161718191A1B1C1D1E1F20) [])
  pub last_try_ad_0_q_0_x_0 : enhanced_repeat_read_24_1 (answer 0 0x345678)
      ≡ wants_none (state_of (ended 1 0 0 0 0 2 0 2 0xB2030080 0 0 2) (hex 16 0x1112131415161718191A1B1C1D1E1F20) [])
  pub ad_0_q_1_x_0 : enhanced_repeat_read_24_0 (answer Q 0x345678)
      ≡ wants_none (state_of (ended 1 0 0 0 0 2 0 2 0x80020080 0 0 2) (hex 16 0x1112131415161718191A1B1C1D1E1F20) [])
  pub ad_0_q_0_x_1 : enhanced_repeat_read_24_0 (answer X 0x345678)
      ≡ wants (operation 9 5 3 2 0x000000 true) (state_of (waiting 1 2 1 5 3 2 0 2 0x00010000 0 0 2) (hex 16 0x1112131415161718191A1B1C1D1E1F20) [])
  pub last_try_ad_0_q_0_x_1 : enhanced_repeat_read_24_1 (answer X 0x345678)
      ≡ wants_none (state_of (ended 1 0 0 0 0 2 0 2 0xB2010080 0 0 2) (hex 16 0x1112131415161718191A1B1C1D1E1F20) [])
  pub last_word_ad_0_q_0_x_1 : enhanced_repeat_read_24_2 (answer X 0x345678)
      ≡ wants (operation 9 5 3 2 0x000000 true) (state_of (waiting 1 1 1 5 3 8 0 2 0x00010000 0 0 2) (hex 16 0x1112131415161718191A1B1C1D1E1F20) [])
  pub ad_0_q_1_x_1 : enhanced_repeat_read_24_0 (answer (Q + X) 0x345678)
      ≡ wants (operation 9 5 3 2 0x000000 true) (state_of (waiting 1 1 0 5 3 8 0 2 0x00000000 0 4 4) (hex 16 0x11120000785634C0191A1B1C1D1E1F20) [])
  pub last_word_ad_0_q_1_x_1 : enhanced_repeat_read_24_2 (answer (Q + X) 0x345678)
      ≡ wants_none (state_of (ended 3 0 0 0 0 16 0 2 0x00000080 0 8 4) (hex 16 0x1112131415161718785634C0D4C3B2A1) [])
  pub ad_1_q_0_x_0 : enhanced_repeat_read_24_3 (answer 0 0x345678)
      ≡ wants (operation 9 5 3 2 0x000000 true) (state_of (waiting 1 2 1 5 3 2 0 2 0x00030000 0 0 2) (hex 16 0x1112131415161718191A1B1C1D1E1F20) [])
  pub last_try_ad_1_q_0_x_0 : enhanced_repeat_read_24_4 (answer 0 0x345678)
      ≡ wants_none (state_of (ended 1 0 0 0 0 2 0 2 0xB2030080 0 0 2) (hex 16 0x1112131415161718191A1B1C1D1E1F20) [])
  pub ad_1_q_1_x_0 : enhanced_repeat_read_24_3 (answer Q 0x345678)
      ≡ wants (operation 9 5 3 2 0x000000 true) (state_of (waiting 1 1 0 5 3 8 0 2 0x00020000 0 4 4) (hex 16 0x1112000078563480191A1B1C1D1E1F20) [])
  pub ad_1_q_0_x_1 : enhanced_repeat_read_24_3 (answer X 0x345678)
      ≡ wants (operation 9 5 3 2 0x000000 true) (state_of (waiting 1 2 1 5 3 2 0 2 0x00010000 0 0 2) (hex 16 0x1112131415161718191A1B1C1D1E1F20) [])
  pub last_try_ad_1_q_0_x_1 : enhanced_repeat_read_24_4 (answer X 0x345678)
      ≡ wants_none (state_of (ended 1 0 0 0 0 2 0 2 0xB2010080 0 0 2) (hex 16 0x1112131415161718191A1B1C1D1E1F20) [])
  pub ad_1_q_1_x_1 : enhanced_repeat_read_24_3 (answer (Q + X) 0x345678)
      ≡ wants (operation 9 5 3 2 0x000000 true) (state_of (waiting 1 1 0 5 3 8 0 2 0x00000000 0 4 4) (hex 16 0x11120000785634C0191A1B1C1D1E1F20) [])

-- sequencer read 16 bits, by AD, Q and X
abbrev pub sequencer_read_16_0 : List ℕ → Called
sequencer_read_16_0 =
    step_of (first_field 2 ++ camac_8 0x3C2C095A 0xFFFFFFFE ++ literal 0xA1B2C3D4 ++ halt)
    (state_of (waiting 0 2 0 30 1 0 0 0 0x00000000 0 0 0) (hex 8 0x1112131415161718) [])

abbrev pub sequencer_read_16_1 : List ℕ → Called
sequencer_read_16_1 =
    step_of (first_field 2 ++ camac_8 0x3C2C095A 0xFFFFFFFE ++ literal 0xA1B2C3D4 ++ halt)
    (state_of (waiting 0 1 0 30 1 2 0 0 0x00000000 0 0 0) (hex 8 0x1112131415161718) [])

abbrev pub sequencer_read_16_2 : List ℕ → Called
sequencer_read_16_2 =
    step_of (first_field 2 ++ camac_8 0x3C2C095B 0xFFFFFFFE ++ literal 0xA1B2C3D4 ++ halt)
    (state_of (waiting 0 2 0 30 1 0 0 0 0x00000000 0 0 0) (hex 8 0x1112131415161718) [])

pub record SequencerRead16 : Type 0 where
  pub ad_0_q_0_x_0 : sequencer_read_16_0 (answer 0 0x345678)
      ≡ wants_none (state_of (ended 0 0 0 0 0 0 0 1 0x80030080 0 0 0) (hex 8 0x1112131415161718) [])
  pub ad_0_q_1_x_0 : sequencer_read_16_0 (answer Q 0x345678)
      ≡ wants_none (state_of (ended 0 0 0 0 0 0 0 1 0x80020080 0 0 0) (hex 8 0x1112131415161718) [])
  pub ad_0_q_0_x_1 : sequencer_read_16_0 (answer X 0x345678)
      ≡ wants (operation 9 30 1 12 0x000000 true) (state_of (waiting 0 1 0 30 1 2 0 1 0x00010000 0 0 2) (hex 8 0x7856131415161718) [])
  pub last_word_ad_0_q_0_x_1 : sequencer_read_16_1 (answer X 0x345678)
      ≡ wants_none (state_of (ended 2 0 0 0 0 8 0 1 0x00010080 0 2 2) (hex 8 0x11127856D4C3B2A1) [])
  pub ad_0_q_1_x_1 : sequencer_read_16_0 (answer (Q + X) 0x345678)
      ≡ wants (operation 9 30 1 12 0x000000 true) (state_of (waiting 0 1 0 30 1 2 0 1 0x00000000 0 0 2) (hex 8 0x7856131415161718) [])
  pub last_word_ad_0_q_1_x_1 : sequencer_read_16_1 (answer (Q + X) 0x345678)
      ≡ wants_none (state_of (ended 2 0 0 0 0 8 0 1 0x00000080 0 2 2) (hex 8 0x11127856D4C3B2A1) [])
  pub ad_1_q_0_x_0 : sequencer_read_16_2 (answer 0 0x345678)
      ≡ wants (operation 9 30 1 12 0x000000 true) (state_of (waiting 0 1 0 30 1 2 0 1 0x00030000 0 0 2) (hex 8 0x7856131415161718) [])
  pub ad_1_q_1_x_0 : sequencer_read_16_2 (answer Q 0x345678)
      ≡ wants (operation 9 30 1 12 0x000000 true) (state_of (waiting 0 1 0 30 1 2 0 1 0x00020000 0 0 2) (hex 8 0x7856131415161718) [])
  pub ad_1_q_0_x_1 : sequencer_read_16_2 (answer X 0x345678)
      ≡ wants (operation 9 30 1 12 0x000000 true) (state_of (waiting 0 1 0 30 1 2 0 1 0x00010000 0 0 2) (hex 8 0x7856131415161718) [])
  pub ad_1_q_1_x_1 : sequencer_read_16_2 (answer (Q + X) 0x345678)
      ≡ wants (operation 9 30 1 12 0x000000 true) (state_of (waiting 0 1 0 30 1 2 0 1 0x00000000 0 0 2) (hex 8 0x7856131415161718) [])

-- sequencer read 24 bits, by AD, Q and X
abbrev pub sequencer_read_24_0 : List ℕ → Called
sequencer_read_24_0 =
    step_of (first_field 2 ++ camac_4 0x02000102 ++ camac_8 0x3C2C0958 0xFFFFFFFC ++ literal 0xA1B2C3D4 ++ halt)
    (state_of (waiting 1 2 0 30 1 2 0 1 0x00000000 0 0 2) (hex 16 0x1112131415161718191A1B1C1D1E1F20) [])

abbrev pub sequencer_read_24_1 : List ℕ → Called
sequencer_read_24_1 =
    step_of (first_field 2 ++ camac_4 0x02000102 ++ camac_8 0x3C2C0958 0xFFFFFFFC ++ literal 0xA1B2C3D4 ++ halt)
    (state_of (waiting 1 1 0 30 1 8 0 1 0x00000000 0 0 2) (hex 16 0x1112131415161718191A1B1C1D1E1F20) [])

abbrev pub sequencer_read_24_2 : List ℕ → Called
sequencer_read_24_2 =
    step_of (first_field 2 ++ camac_4 0x02000102 ++ camac_8 0x3C2C0959 0xFFFFFFFC ++ literal 0xA1B2C3D4 ++ halt)
    (state_of (waiting 1 2 0 30 1 2 0 1 0x00000000 0 0 2) (hex 16 0x1112131415161718191A1B1C1D1E1F20) [])

pub record SequencerRead24 : Type 0 where
  pub ad_0_q_0_x_0 : sequencer_read_24_0 (answer 0 0x345678)
      ≡ wants_none (state_of (ended 1 0 0 0 0 2 0 2 0x80030080 0 0 2) (hex 16 0x1112131415161718191A1B1C1D1E1F20) [])
  pub ad_0_q_1_x_0 : sequencer_read_24_0 (answer Q 0x345678)
      ≡ wants_none (state_of (ended 1 0 0 0 0 2 0 2 0x80020080 0 0 2) (hex 16 0x1112131415161718191A1B1C1D1E1F20) [])
  pub ad_0_q_0_x_1 : sequencer_read_24_0 (answer X 0x345678)
      ≡ wants (operation 9 30 1 12 0x000000 true) (state_of (waiting 1 1 0 30 1 8 0 2 0x00010000 0 4 4) (hex 16 0x1112000078563440191A1B1C1D1E1F20) [])
  pub last_word_ad_0_q_0_x_1 : sequencer_read_24_1 (answer X 0x345678)
      ≡ wants_none (state_of (ended 3 0 0 0 0 16 0 2 0x00010080 0 8 4) (hex 16 0x111213141516171878563440D4C3B2A1) [])
  pub ad_0_q_1_x_1 : sequencer_read_24_0 (answer (Q + X) 0x345678)
      ≡ wants (operation 9 30 1 12 0x000000 true) (state_of (waiting 1 1 0 30 1 8 0 2 0x00000000 0 4 4) (hex 16 0x11120000785634C0191A1B1C1D1E1F20) [])
  pub last_word_ad_0_q_1_x_1 : sequencer_read_24_1 (answer (Q + X) 0x345678)
      ≡ wants_none (state_of (ended 3 0 0 0 0 16 0 2 0x00000080 0 8 4) (hex 16 0x1112131415161718785634C0D4C3B2A1) [])
  pub ad_1_q_0_x_0 : sequencer_read_24_2 (answer 0 0x345678)
      ≡ wants (operation 9 30 1 12 0x000000 true) (state_of (waiting 1 1 0 30 1 8 0 2 0x00030000 0 4 4) (hex 16 0x1112000078563400191A1B1C1D1E1F20) [])
  pub ad_1_q_1_x_0 : sequencer_read_24_2 (answer Q 0x345678)
      ≡ wants (operation 9 30 1 12 0x000000 true) (state_of (waiting 1 1 0 30 1 8 0 2 0x00020000 0 4 4) (hex 16 0x1112000078563480191A1B1C1D1E1F20) [])
  pub ad_1_q_0_x_1 : sequencer_read_24_2 (answer X 0x345678)
      ≡ wants (operation 9 30 1 12 0x000000 true) (state_of (waiting 1 1 0 30 1 8 0 2 0x00010000 0 4 4) (hex 16 0x1112000078563440191A1B1C1D1E1F20) [])
  pub ad_1_q_1_x_1 : sequencer_read_24_2 (answer (Q + X) 0x345678)
      ≡ wants (operation 9 30 1 12 0x000000 true) (state_of (waiting 1 1 0 30 1 8 0 2 0x00000000 0 4 4) (hex 16 0x11120000785634C0191A1B1C1D1E1F20) [])

-- sequencer write 16 bits, by AD, Q and X
abbrev pub sequencer_write_16_0 : List ℕ → Called
sequencer_write_16_0 =
    step_of (first_field 2 ++ camac_8 0x3C4C095A 0xFFFFFFFE ++ literal 0xA1B2C3D4 ++ halt)
    (state_of (waiting 0 2 0 30 2 0 0 0 0x00000000 0 0 0) (hex 4 0x11121314) (hex 4 0x81828384))

abbrev pub sequencer_write_16_1 : List ℕ → Called
sequencer_write_16_1 =
    step_of (first_field 2 ++ camac_8 0x3C4C095A 0xFFFFFFFE ++ literal 0xA1B2C3D4 ++ halt)
    (state_of (waiting 0 1 0 30 2 0 2 0 0x00000000 0 0 0) (hex 4 0x11121314) (hex 4 0x81828384))

abbrev pub sequencer_write_16_2 : List ℕ → Called
sequencer_write_16_2 =
    step_of (first_field 2 ++ camac_8 0x3C4C095B 0xFFFFFFFE ++ literal 0xA1B2C3D4 ++ halt)
    (state_of (waiting 0 2 0 30 2 0 0 0 0x00000000 0 0 0) (hex 4 0x11121314) (hex 4 0x81828384))

pub record SequencerWrite16 : Type 0 where
  pub ad_0_q_0_x_0 : sequencer_write_16_0 (answer 0 0x345678)
      ≡ wants_none (state_of (ended 0 0 0 0 0 0 0 1 0x80030080 0 0 0) (hex 4 0x11121314) (hex 4 0x81828384))
  pub ad_0_q_1_x_0 : sequencer_write_16_0 (answer Q 0x345678)
      ≡ wants_none (state_of (ended 0 0 0 0 0 0 0 1 0x80020080 0 0 0) (hex 4 0x11121314) (hex 4 0x81828384))
  pub ad_0_q_0_x_1 : sequencer_write_16_0 (answer X 0x345678)
      ≡ wants (operation 9 30 2 12 0x008483 true) (state_of (waiting 0 1 0 30 2 0 2 1 0x00010000 1 0 2) (hex 4 0x11121314) (hex 4 0x81828384))
  pub last_word_ad_0_q_0_x_1 : sequencer_write_16_1 (answer X 0x345678)
      ≡ wants_none (state_of (ended 2 0 0 0 0 4 4 1 0x00010080 1 2 2) (hex 4 0xD4C3B2A1) (hex 4 0x81828384))
  pub ad_0_q_1_x_1 : sequencer_write_16_0 (answer (Q + X) 0x345678)
      ≡ wants (operation 9 30 2 12 0x008483 true) (state_of (waiting 0 1 0 30 2 0 2 1 0x00000000 1 0 2) (hex 4 0x11121314) (hex 4 0x81828384))
  pub last_word_ad_0_q_1_x_1 : sequencer_write_16_1 (answer (Q + X) 0x345678)
      ≡ wants_none (state_of (ended 2 0 0 0 0 4 4 1 0x00000080 1 2 2) (hex 4 0xD4C3B2A1) (hex 4 0x81828384))
  pub ad_1_q_0_x_0 : sequencer_write_16_2 (answer 0 0x345678)
      ≡ wants (operation 9 30 2 12 0x008483 true) (state_of (waiting 0 1 0 30 2 0 2 1 0x00030000 1 0 2) (hex 4 0x11121314) (hex 4 0x81828384))
  pub ad_1_q_1_x_0 : sequencer_write_16_2 (answer Q 0x345678)
      ≡ wants (operation 9 30 2 12 0x008483 true) (state_of (waiting 0 1 0 30 2 0 2 1 0x00020000 1 0 2) (hex 4 0x11121314) (hex 4 0x81828384))
  pub ad_1_q_0_x_1 : sequencer_write_16_2 (answer X 0x345678)
      ≡ wants (operation 9 30 2 12 0x008483 true) (state_of (waiting 0 1 0 30 2 0 2 1 0x00010000 1 0 2) (hex 4 0x11121314) (hex 4 0x81828384))
  pub ad_1_q_1_x_1 : sequencer_write_16_2 (answer (Q + X) 0x345678)
      ≡ wants (operation 9 30 2 12 0x008483 true) (state_of (waiting 0 1 0 30 2 0 2 1 0x00000000 1 0 2) (hex 4 0x11121314) (hex 4 0x81828384))

-- sequencer write 24 bits, by AD, Q and X
abbrev pub sequencer_write_24_0 : List ℕ → Called
sequencer_write_24_0 =
    step_of (first_field 2 ++ camac_4 0x02100102 ++ camac_8 0x3C4C0958 0xFFFFFFFC ++ literal 0xA1B2C3D4 ++ halt)
    (state_of (waiting 1 2 0 30 2 0 2 1 0x00000000 1 0 2) (hex 4 0x11121314) (hex 12 0x8182838485868788898A8B8C))

abbrev pub sequencer_write_24_1 : List ℕ → Called
sequencer_write_24_1 =
    step_of (first_field 2 ++ camac_4 0x02100102 ++ camac_8 0x3C4C0958 0xFFFFFFFC ++ literal 0xA1B2C3D4 ++ halt)
    (state_of (waiting 1 1 0 30 2 0 8 1 0x00000000 1 0 2) (hex 4 0x11121314) (hex 12 0x8182838485868788898A8B8C))

abbrev pub sequencer_write_24_2 : List ℕ → Called
sequencer_write_24_2 =
    step_of (first_field 2 ++ camac_4 0x02100102 ++ camac_8 0x3C4C0959 0xFFFFFFFC ++ literal 0xA1B2C3D4 ++ halt)
    (state_of (waiting 1 2 0 30 2 0 2 1 0x00000000 1 0 2) (hex 4 0x11121314) (hex 12 0x8182838485868788898A8B8C))

pub record SequencerWrite24 : Type 0 where
  pub ad_0_q_0_x_0 : sequencer_write_24_0 (answer 0 0x345678)
      ≡ wants_none (state_of (ended 1 0 0 0 0 0 2 2 0x80030080 1 0 2) (hex 4 0x11121314) (hex 12 0x8182838485868788898A8B8C))
  pub ad_0_q_1_x_0 : sequencer_write_24_0 (answer Q 0x345678)
      ≡ wants_none (state_of (ended 1 0 0 0 0 0 2 2 0x80020080 1 0 2) (hex 4 0x11121314) (hex 12 0x8182838485868788898A8B8C))
  pub ad_0_q_0_x_1 : sequencer_write_24_0 (answer X 0x345678)
      ≡ wants (operation 9 30 2 12 0x8B8A89 true) (state_of (waiting 1 1 0 30 2 0 8 2 0x00010000 1 4 4) (hex 4 0x11121314) (hex 12 0x8182838485868788898A8B8C))
  pub last_word_ad_0_q_0_x_1 : sequencer_write_24_1 (answer X 0x345678)
      ≡ wants_none (state_of (ended 3 0 0 0 0 4 12 2 0x00010080 1 8 4) (hex 4 0xD4C3B2A1) (hex 12 0x8182838485868788898A8B8C))
  pub ad_0_q_1_x_1 : sequencer_write_24_0 (answer (Q + X) 0x345678)
      ≡ wants (operation 9 30 2 12 0x8B8A89 true) (state_of (waiting 1 1 0 30 2 0 8 2 0x00000000 1 4 4) (hex 4 0x11121314) (hex 12 0x8182838485868788898A8B8C))
  pub last_word_ad_0_q_1_x_1 : sequencer_write_24_1 (answer (Q + X) 0x345678)
      ≡ wants_none (state_of (ended 3 0 0 0 0 4 12 2 0x00000080 1 8 4) (hex 4 0xD4C3B2A1) (hex 12 0x8182838485868788898A8B8C))
  pub ad_1_q_0_x_0 : sequencer_write_24_2 (answer 0 0x345678)
      ≡ wants (operation 9 30 2 12 0x8B8A89 true) (state_of (waiting 1 1 0 30 2 0 8 2 0x00030000 1 4 4) (hex 4 0x11121314) (hex 12 0x8182838485868788898A8B8C))
  pub ad_1_q_1_x_0 : sequencer_write_24_2 (answer Q 0x345678)
      ≡ wants (operation 9 30 2 12 0x8B8A89 true) (state_of (waiting 1 1 0 30 2 0 8 2 0x00020000 1 4 4) (hex 4 0x11121314) (hex 12 0x8182838485868788898A8B8C))
  pub ad_1_q_0_x_1 : sequencer_write_24_2 (answer X 0x345678)
      ≡ wants (operation 9 30 2 12 0x8B8A89 true) (state_of (waiting 1 1 0 30 2 0 8 2 0x00010000 1 4 4) (hex 4 0x11121314) (hex 12 0x8182838485868788898A8B8C))
  pub ad_1_q_1_x_1 : sequencer_write_24_2 (answer (Q + X) 0x345678)
      ≡ wants (operation 9 30 2 12 0x8B8A89 true) (state_of (waiting 1 1 0 30 2 0 8 2 0x00000000 1 4 4) (hex 4 0x11121314) (hex 12 0x8182838485868788898A8B8C))

-- inline stop 16 bits, by AD, Q and X
abbrev pub inline_stop_16_0 : List ℕ → Called
inline_stop_16_0 =
    step_of (first_field 2 ++ camac_4 0x02000102 ++ camac_8 0x0A710962 0x0000CDEF ++ literal 0xA1B2C3D4 ++ halt)
    (state_of (waiting 1 1 0 5 3 2 0 1 0x00000000 0 0 2) (hex 8 0x1112131415161718) [])

abbrev pub inline_stop_16_1 : List ℕ → Called
inline_stop_16_1 =
    step_of (first_field 2 ++ camac_4 0x02000102 ++ camac_8 0x0A710963 0x0000CDEF ++ literal 0xA1B2C3D4 ++ halt)
    (state_of (waiting 1 1 0 5 3 2 0 1 0x00000000 0 0 2) (hex 8 0x1112131415161718) [])

pub record InlineStop16 : Type 0 where
  pub ad_0_q_0_x_0 : inline_stop_16_0 (answer 0 0x345678)
      ≡ wants_none (state_of (ended 1 0 0 0 0 2 0 2 0x80030080 0 0 2) (hex 8 0x1112131415161718) [])
  pub ad_0_q_1_x_0 : inline_stop_16_0 (answer Q 0x345678)
      ≡ wants_none (state_of (ended 1 0 0 0 0 2 0 2 0x80020080 0 0 2) (hex 8 0x1112131415161718) [])
  pub ad_0_q_0_x_1 : inline_stop_16_0 (answer X 0x345678)
      ≡ wants_none (state_of (ended 1 0 0 0 0 2 0 2 0x70010080 0 0 2) (hex 8 0x1112131415161718) [])
  pub ad_0_q_1_x_1 : inline_stop_16_0 (answer (Q + X) 0x345678)
      ≡ wants_none (state_of (ended 3 0 0 0 0 8 0 2 0x00000080 0 0 2) (hex 8 0x11120000D4C3B2A1) [])
  pub ad_1_q_0_x_0 : inline_stop_16_1 (answer 0 0x345678)
      ≡ wants_none (state_of (ended 1 0 0 0 0 2 0 2 0x70030080 0 0 2) (hex 8 0x1112131415161718) [])
  pub ad_1_q_1_x_0 : inline_stop_16_1 (answer Q 0x345678)
      ≡ wants_none (state_of (ended 3 0 0 0 0 8 0 2 0x00020080 0 0 2) (hex 8 0x11120000D4C3B2A1) [])
  pub ad_1_q_0_x_1 : inline_stop_16_1 (answer X 0x345678)
      ≡ wants_none (state_of (ended 1 0 0 0 0 2 0 2 0x70010080 0 0 2) (hex 8 0x1112131415161718) [])
  pub ad_1_q_1_x_1 : inline_stop_16_1 (answer (Q + X) 0x345678)
      ≡ wants_none (state_of (ended 3 0 0 0 0 8 0 2 0x00000080 0 0 2) (hex 8 0x11120000D4C3B2A1) [])

-- inline stop 24 bits, by AD, Q and X
abbrev pub inline_stop_24_0 : List ℕ → Called
inline_stop_24_0 =
    step_of (first_field 2 ++ camac_4 0x02000102 ++ camac_8 0x0A710960 0x00ABCDEF ++ literal 0xA1B2C3D4 ++ halt)
    (state_of (waiting 1 1 0 5 3 2 0 1 0x00000000 0 0 2) (hex 8 0x1112131415161718) [])

abbrev pub inline_stop_24_1 : List ℕ → Called
inline_stop_24_1 =
    step_of (first_field 2 ++ camac_4 0x02000102 ++ camac_8 0x0A710961 0x00ABCDEF ++ literal 0xA1B2C3D4 ++ halt)
    (state_of (waiting 1 1 0 5 3 2 0 1 0x00000000 0 0 2) (hex 8 0x1112131415161718) [])

pub record InlineStop24 : Type 0 where
  pub ad_0_q_0_x_0 : inline_stop_24_0 (answer 0 0x345678)
      ≡ wants_none (state_of (ended 1 0 0 0 0 2 0 2 0x80030080 0 0 2) (hex 8 0x1112131415161718) [])
  pub ad_0_q_1_x_0 : inline_stop_24_0 (answer Q 0x345678)
      ≡ wants_none (state_of (ended 1 0 0 0 0 2 0 2 0x80020080 0 0 2) (hex 8 0x1112131415161718) [])
  pub ad_0_q_0_x_1 : inline_stop_24_0 (answer X 0x345678)
      ≡ wants_none (state_of (ended 1 0 0 0 0 2 0 2 0x70010080 0 0 2) (hex 8 0x1112131415161718) [])
  pub ad_0_q_1_x_1 : inline_stop_24_0 (answer (Q + X) 0x345678)
      ≡ wants_none (state_of (ended 3 0 0 0 0 8 0 2 0x00000080 0 0 2) (hex 8 0x11120000D4C3B2A1) [])
  pub ad_1_q_0_x_0 : inline_stop_24_1 (answer 0 0x345678)
      ≡ wants_none (state_of (ended 1 0 0 0 0 2 0 2 0x70030080 0 0 2) (hex 8 0x1112131415161718) [])
  pub ad_1_q_1_x_0 : inline_stop_24_1 (answer Q 0x345678)
      ≡ wants_none (state_of (ended 3 0 0 0 0 8 0 2 0x00020080 0 0 2) (hex 8 0x11120000D4C3B2A1) [])
  pub ad_1_q_0_x_1 : inline_stop_24_1 (answer X 0x345678)
      ≡ wants_none (state_of (ended 1 0 0 0 0 2 0 2 0x70010080 0 0 2) (hex 8 0x1112131415161718) [])
  pub ad_1_q_1_x_1 : inline_stop_24_1 (answer (Q + X) 0x345678)
      ≡ wants_none (state_of (ended 3 0 0 0 0 8 0 2 0x00000080 0 0 2) (hex 8 0x11120000D4C3B2A1) [])

-- inline ignore 16 bits, by AD, Q and X
abbrev pub inline_ignore_16_0 : List ℕ → Called
inline_ignore_16_0 =
    step_of (first_field 2 ++ camac_4 0x02000102 ++ camac_8 0x0A71096A 0x0000CDEF ++ literal 0xA1B2C3D4 ++ halt)
    (state_of (waiting 1 1 0 5 3 2 0 1 0x00000000 0 0 2) (hex 8 0x1112131415161718) [])

abbrev pub inline_ignore_16_1 : List ℕ → Called
inline_ignore_16_1 =
    step_of (first_field 2 ++ camac_4 0x02000102 ++ camac_8 0x0A71096B 0x0000CDEF ++ literal 0xA1B2C3D4 ++ halt)
    (state_of (waiting 1 1 0 5 3 2 0 1 0x00000000 0 0 2) (hex 8 0x1112131415161718) [])

pub record InlineIgnore16 : Type 0 where
  pub ad_0_q_0_x_0 : inline_ignore_16_0 (answer 0 0x345678)
      ≡ wants_none (state_of (ended 1 0 0 0 0 2 0 2 0x80030080 0 0 2) (hex 8 0x1112131415161718) [])
  pub ad_0_q_1_x_0 : inline_ignore_16_0 (answer Q 0x345678)
      ≡ wants_none (state_of (ended 1 0 0 0 0 2 0 2 0x80020080 0 0 2) (hex 8 0x1112131415161718) [])
  pub ad_0_q_0_x_1 : inline_ignore_16_0 (answer X 0x345678)
      ≡ wants_none (state_of (ended 3 0 0 0 0 8 0 2 0x00010080 0 0 2) (hex 8 0x11120000D4C3B2A1) [])
  pub ad_0_q_1_x_1 : inline_ignore_16_0 (answer (Q + X) 0x345678)
      ≡ wants_none (state_of (ended 3 0 0 0 0 8 0 2 0x00000080 0 0 2) (hex 8 0x11120000D4C3B2A1) [])
  pub ad_1_q_0_x_0 : inline_ignore_16_1 (answer 0 0x345678)
      ≡ wants_none (state_of (ended 3 0 0 0 0 8 0 2 0x00030080 0 0 2) (hex 8 0x11120000D4C3B2A1) [])
  pub ad_1_q_1_x_0 : inline_ignore_16_1 (answer Q 0x345678)
      ≡ wants_none (state_of (ended 3 0 0 0 0 8 0 2 0x00020080 0 0 2) (hex 8 0x11120000D4C3B2A1) [])
  pub ad_1_q_0_x_1 : inline_ignore_16_1 (answer X 0x345678)
      ≡ wants_none (state_of (ended 3 0 0 0 0 8 0 2 0x00010080 0 0 2) (hex 8 0x11120000D4C3B2A1) [])
  pub ad_1_q_1_x_1 : inline_ignore_16_1 (answer (Q + X) 0x345678)
      ≡ wants_none (state_of (ended 3 0 0 0 0 8 0 2 0x00000080 0 0 2) (hex 8 0x11120000D4C3B2A1) [])

-- inline ignore 24 bits, by AD, Q and X
abbrev pub inline_ignore_24_0 : List ℕ → Called
inline_ignore_24_0 =
    step_of (first_field 2 ++ camac_4 0x02000102 ++ camac_8 0x0A710968 0x00ABCDEF ++ literal 0xA1B2C3D4 ++ halt)
    (state_of (waiting 1 1 0 5 3 2 0 1 0x00000000 0 0 2) (hex 8 0x1112131415161718) [])

abbrev pub inline_ignore_24_1 : List ℕ → Called
inline_ignore_24_1 =
    step_of (first_field 2 ++ camac_4 0x02000102 ++ camac_8 0x0A710969 0x00ABCDEF ++ literal 0xA1B2C3D4 ++ halt)
    (state_of (waiting 1 1 0 5 3 2 0 1 0x00000000 0 0 2) (hex 8 0x1112131415161718) [])

pub record InlineIgnore24 : Type 0 where
  pub ad_0_q_0_x_0 : inline_ignore_24_0 (answer 0 0x345678)
      ≡ wants_none (state_of (ended 1 0 0 0 0 2 0 2 0x80030080 0 0 2) (hex 8 0x1112131415161718) [])
  pub ad_0_q_1_x_0 : inline_ignore_24_0 (answer Q 0x345678)
      ≡ wants_none (state_of (ended 1 0 0 0 0 2 0 2 0x80020080 0 0 2) (hex 8 0x1112131415161718) [])
  pub ad_0_q_0_x_1 : inline_ignore_24_0 (answer X 0x345678)
      ≡ wants_none (state_of (ended 3 0 0 0 0 8 0 2 0x00010080 0 0 2) (hex 8 0x11120000D4C3B2A1) [])
  pub ad_0_q_1_x_1 : inline_ignore_24_0 (answer (Q + X) 0x345678)
      ≡ wants_none (state_of (ended 3 0 0 0 0 8 0 2 0x00000080 0 0 2) (hex 8 0x11120000D4C3B2A1) [])
  pub ad_1_q_0_x_0 : inline_ignore_24_1 (answer 0 0x345678)
      ≡ wants_none (state_of (ended 3 0 0 0 0 8 0 2 0x00030080 0 0 2) (hex 8 0x11120000D4C3B2A1) [])
  pub ad_1_q_1_x_0 : inline_ignore_24_1 (answer Q 0x345678)
      ≡ wants_none (state_of (ended 3 0 0 0 0 8 0 2 0x00020080 0 0 2) (hex 8 0x11120000D4C3B2A1) [])
  pub ad_1_q_0_x_1 : inline_ignore_24_1 (answer X 0x345678)
      ≡ wants_none (state_of (ended 3 0 0 0 0 8 0 2 0x00010080 0 0 2) (hex 8 0x11120000D4C3B2A1) [])
  pub ad_1_q_1_x_1 : inline_ignore_24_1 (answer (Q + X) 0x345678)
      ≡ wants_none (state_of (ended 3 0 0 0 0 8 0 2 0x00000080 0 0 2) (hex 8 0x11120000D4C3B2A1) [])

-- inline repeat 16 bits, by AD, Q and X
abbrev pub inline_repeat_16_0 : List ℕ → Called
inline_repeat_16_0 =
    step_of (first_field 2 ++ camac_4 0x02000102 ++ camac_8 0x0A710972 0x0000CDEF ++ literal 0xA1B2C3D4 ++ halt)
    (state_of (waiting 1 1 0 5 3 2 0 1 0x00000000 0 0 2) (hex 8 0x1112131415161718) [])

abbrev pub inline_repeat_16_1 : List ℕ → Called
inline_repeat_16_1 =
    step_of (first_field 2 ++ camac_4 0x02000102 ++ camac_8 0x0A710972 0x0000CDEF ++ literal 0xA1B2C3D4 ++ halt)
    (state_of (waiting 1 1 1 5 3 2 0 1 0x00000000 0 0 2) (hex 8 0x1112131415161718) [])

abbrev pub inline_repeat_16_2 : List ℕ → Called
inline_repeat_16_2 =
    step_of (first_field 2 ++ camac_4 0x02000102 ++ camac_8 0x0A710973 0x0000CDEF ++ literal 0xA1B2C3D4 ++ halt)
    (state_of (waiting 1 1 0 5 3 2 0 1 0x00000000 0 0 2) (hex 8 0x1112131415161718) [])

abbrev pub inline_repeat_16_3 : List ℕ → Called
inline_repeat_16_3 =
    step_of (first_field 2 ++ camac_4 0x02000102 ++ camac_8 0x0A710973 0x0000CDEF ++ literal 0xA1B2C3D4 ++ halt)
    (state_of (waiting 1 1 1 5 3 2 0 1 0x00000000 0 0 2) (hex 8 0x1112131415161718) [])

pub record InlineRepeat16 : Type 0 where
  pub ad_0_q_0_x_0 : inline_repeat_16_0 (answer 0 0x345678)
      ≡ wants_none (state_of (ended 1 0 0 0 0 2 0 2 0x80030080 0 0 2) (hex 8 0x1112131415161718) [])
  pub last_try_ad_0_q_0_x_0 : inline_repeat_16_1 (answer 0 0x345678)
      ≡ wants_none (state_of (ended 1 0 0 0 0 2 0 2 0xB2030080 0 0 2) (hex 8 0x1112131415161718) [])
  pub ad_0_q_1_x_0 : inline_repeat_16_0 (answer Q 0x345678)
      ≡ wants_none (state_of (ended 1 0 0 0 0 2 0 2 0x80020080 0 0 2) (hex 8 0x1112131415161718) [])
  pub ad_0_q_0_x_1 : inline_repeat_16_0 (answer X 0x345678)
      ≡ wants (operation 9 5 3 17 0x00CDEF false) (state_of (waiting 1 1 1 5 3 2 0 2 0x00010000 0 0 2) (hex 8 0x1112131415161718) [])
  pub last_try_ad_0_q_0_x_1 : inline_repeat_16_1 (answer X 0x345678)
      ≡ wants_none (state_of (ended 1 0 0 0 0 2 0 2 0xB2010080 0 0 2) (hex 8 0x1112131415161718) [])
  pub ad_0_q_1_x_1 : inline_repeat_16_0 (answer (Q + X) 0x345678)
      ≡ wants_none (state_of (ended 3 0 0 0 0 8 0 2 0x00000080 0 0 2) (hex 8 0x11120000D4C3B2A1) [])
  pub ad_1_q_0_x_0 : inline_repeat_16_2 (answer 0 0x345678)
      ≡ wants (operation 9 5 3 17 0x00CDEF false) (state_of (waiting 1 1 1 5 3 2 0 2 0x00030000 0 0 2) (hex 8 0x1112131415161718) [])
  pub last_try_ad_1_q_0_x_0 : inline_repeat_16_3 (answer 0 0x345678)
      ≡ wants_none (state_of (ended 1 0 0 0 0 2 0 2 0xB2030080 0 0 2) (hex 8 0x1112131415161718) [])
  pub ad_1_q_1_x_0 : inline_repeat_16_2 (answer Q 0x345678)
      ≡ wants_none (state_of (ended 3 0 0 0 0 8 0 2 0x00020080 0 0 2) (hex 8 0x11120000D4C3B2A1) [])
  pub ad_1_q_0_x_1 : inline_repeat_16_2 (answer X 0x345678)
      ≡ wants (operation 9 5 3 17 0x00CDEF false) (state_of (waiting 1 1 1 5 3 2 0 2 0x00010000 0 0 2) (hex 8 0x1112131415161718) [])
  pub last_try_ad_1_q_0_x_1 : inline_repeat_16_3 (answer X 0x345678)
      ≡ wants_none (state_of (ended 1 0 0 0 0 2 0 2 0xB2010080 0 0 2) (hex 8 0x1112131415161718) [])
  pub ad_1_q_1_x_1 : inline_repeat_16_2 (answer (Q + X) 0x345678)
      ≡ wants_none (state_of (ended 3 0 0 0 0 8 0 2 0x00000080 0 0 2) (hex 8 0x11120000D4C3B2A1) [])

-- inline repeat 24 bits, by AD, Q and X
abbrev pub inline_repeat_24_0 : List ℕ → Called
inline_repeat_24_0 =
    step_of (first_field 2 ++ camac_4 0x02000102 ++ camac_8 0x0A710970 0x00ABCDEF ++ literal 0xA1B2C3D4 ++ halt)
    (state_of (waiting 1 1 0 5 3 2 0 1 0x00000000 0 0 2) (hex 8 0x1112131415161718) [])

abbrev pub inline_repeat_24_1 : List ℕ → Called
inline_repeat_24_1 =
    step_of (first_field 2 ++ camac_4 0x02000102 ++ camac_8 0x0A710970 0x00ABCDEF ++ literal 0xA1B2C3D4 ++ halt)
    (state_of (waiting 1 1 1 5 3 2 0 1 0x00000000 0 0 2) (hex 8 0x1112131415161718) [])

abbrev pub inline_repeat_24_2 : List ℕ → Called
inline_repeat_24_2 =
    step_of (first_field 2 ++ camac_4 0x02000102 ++ camac_8 0x0A710971 0x00ABCDEF ++ literal 0xA1B2C3D4 ++ halt)
    (state_of (waiting 1 1 0 5 3 2 0 1 0x00000000 0 0 2) (hex 8 0x1112131415161718) [])

abbrev pub inline_repeat_24_3 : List ℕ → Called
inline_repeat_24_3 =
    step_of (first_field 2 ++ camac_4 0x02000102 ++ camac_8 0x0A710971 0x00ABCDEF ++ literal 0xA1B2C3D4 ++ halt)
    (state_of (waiting 1 1 1 5 3 2 0 1 0x00000000 0 0 2) (hex 8 0x1112131415161718) [])

pub record InlineRepeat24 : Type 0 where
  pub ad_0_q_0_x_0 : inline_repeat_24_0 (answer 0 0x345678)
      ≡ wants_none (state_of (ended 1 0 0 0 0 2 0 2 0x80030080 0 0 2) (hex 8 0x1112131415161718) [])
  pub last_try_ad_0_q_0_x_0 : inline_repeat_24_1 (answer 0 0x345678)
      ≡ wants_none (state_of (ended 1 0 0 0 0 2 0 2 0xB2030080 0 0 2) (hex 8 0x1112131415161718) [])
  pub ad_0_q_1_x_0 : inline_repeat_24_0 (answer Q 0x345678)
      ≡ wants_none (state_of (ended 1 0 0 0 0 2 0 2 0x80020080 0 0 2) (hex 8 0x1112131415161718) [])
  pub ad_0_q_0_x_1 : inline_repeat_24_0 (answer X 0x345678)
      ≡ wants (operation 9 5 3 17 0xABCDEF false) (state_of (waiting 1 1 1 5 3 2 0 2 0x00010000 0 0 2) (hex 8 0x1112131415161718) [])
  pub last_try_ad_0_q_0_x_1 : inline_repeat_24_1 (answer X 0x345678)
      ≡ wants_none (state_of (ended 1 0 0 0 0 2 0 2 0xB2010080 0 0 2) (hex 8 0x1112131415161718) [])
  pub ad_0_q_1_x_1 : inline_repeat_24_0 (answer (Q + X) 0x345678)
      ≡ wants_none (state_of (ended 3 0 0 0 0 8 0 2 0x00000080 0 0 2) (hex 8 0x11120000D4C3B2A1) [])
  pub ad_1_q_0_x_0 : inline_repeat_24_2 (answer 0 0x345678)
      ≡ wants (operation 9 5 3 17 0xABCDEF false) (state_of (waiting 1 1 1 5 3 2 0 2 0x00030000 0 0 2) (hex 8 0x1112131415161718) [])
  pub last_try_ad_1_q_0_x_0 : inline_repeat_24_3 (answer 0 0x345678)
      ≡ wants_none (state_of (ended 1 0 0 0 0 2 0 2 0xB2030080 0 0 2) (hex 8 0x1112131415161718) [])
  pub ad_1_q_1_x_0 : inline_repeat_24_2 (answer Q 0x345678)
      ≡ wants_none (state_of (ended 3 0 0 0 0 8 0 2 0x00020080 0 0 2) (hex 8 0x11120000D4C3B2A1) [])
  pub ad_1_q_0_x_1 : inline_repeat_24_2 (answer X 0x345678)
      ≡ wants (operation 9 5 3 17 0xABCDEF false) (state_of (waiting 1 1 1 5 3 2 0 2 0x00010000 0 0 2) (hex 8 0x1112131415161718) [])
  pub last_try_ad_1_q_0_x_1 : inline_repeat_24_3 (answer X 0x345678)
      ≡ wants_none (state_of (ended 1 0 0 0 0 2 0 2 0xB2010080 0 0 2) (hex 8 0x1112131415161718) [])
  pub ad_1_q_1_x_1 : inline_repeat_24_2 (answer (Q + X) 0x345678)
      ≡ wants_none (state_of (ended 3 0 0 0 0 8 0 2 0x00000080 0 0 2) (hex 8 0x11120000D4C3B2A1) [])

-- inline scan 16 bits, by AD, Q and X
abbrev pub inline_scan_16_0 : List ℕ → Called
inline_scan_16_0 =
    step_of (first_field 2 ++ camac_4 0x02000102 ++ camac_8 0x2DD1097A 0x0000CDEF ++ literal 0xA1B2C3D4 ++ halt)
    (state_of (waiting 1 1 0 22 14 2 0 1 0x00000000 0 0 2) (hex 8 0x1112131415161718) [])

abbrev pub inline_scan_16_1 : List ℕ → Called
inline_scan_16_1 =
    step_of (first_field 2 ++ camac_4 0x02000102 ++ camac_8 0x2DD1097B 0x0000CDEF ++ literal 0xA1B2C3D4 ++ halt)
    (state_of (waiting 1 1 0 22 14 2 0 1 0x00000000 0 0 2) (hex 8 0x1112131415161718) [])

pub record InlineScan16 : Type 0 where
  pub ad_0_q_0_x_0 : inline_scan_16_0 (answer 0 0x345678)
      ≡ wants (operation 9 23 0 17 0x00CDEF false) (state_of (waiting 1 1 0 23 0 2 0 2 0x00030000 0 0 2) (hex 8 0x1112131415161718) [])
  pub ad_0_q_1_x_0 : inline_scan_16_0 (answer Q 0x345678)
      ≡ wants (operation 9 23 0 17 0x00CDEF false) (state_of (waiting 1 1 0 23 0 2 0 2 0x00020000 0 0 2) (hex 8 0x1112131415161718) [])
  pub ad_0_q_0_x_1 : inline_scan_16_0 (answer X 0x345678)
      ≡ wants (operation 9 23 0 17 0x00CDEF false) (state_of (waiting 1 1 0 23 0 2 0 2 0x00010000 0 0 2) (hex 8 0x1112131415161718) [])
  pub ad_0_q_1_x_1 : inline_scan_16_0 (answer (Q + X) 0x345678)
      ≡ wants_none (state_of (ended 3 0 0 0 0 8 0 2 0x00000080 0 0 2) (hex 8 0x11120000D4C3B2A1) [])
  pub ad_1_q_0_x_0 : inline_scan_16_1 (answer 0 0x345678)
      ≡ wants (operation 9 23 0 17 0x00CDEF false) (state_of (waiting 1 1 0 23 0 2 0 2 0x00030000 0 0 2) (hex 8 0x1112131415161718) [])
  pub ad_1_q_1_x_0 : inline_scan_16_1 (answer Q 0x345678)
      ≡ wants (operation 9 23 0 17 0x00CDEF false) (state_of (waiting 1 1 0 23 0 2 0 2 0x00020000 0 0 2) (hex 8 0x1112131415161718) [])
  pub ad_1_q_0_x_1 : inline_scan_16_1 (answer X 0x345678)
      ≡ wants (operation 9 23 0 17 0x00CDEF false) (state_of (waiting 1 1 0 23 0 2 0 2 0x00010000 0 0 2) (hex 8 0x1112131415161718) [])
  pub ad_1_q_1_x_1 : inline_scan_16_1 (answer (Q + X) 0x345678)
      ≡ wants_none (state_of (ended 3 0 0 0 0 8 0 2 0x00000080 0 0 2) (hex 8 0x11120000D4C3B2A1) [])

-- inline scan 24 bits, by AD, Q and X
abbrev pub inline_scan_24_0 : List ℕ → Called
inline_scan_24_0 =
    step_of (first_field 2 ++ camac_4 0x02000102 ++ camac_8 0x2DD10978 0x00ABCDEF ++ literal 0xA1B2C3D4 ++ halt)
    (state_of (waiting 1 1 0 22 14 2 0 1 0x00000000 0 0 2) (hex 8 0x1112131415161718) [])

abbrev pub inline_scan_24_1 : List ℕ → Called
inline_scan_24_1 =
    step_of (first_field 2 ++ camac_4 0x02000102 ++ camac_8 0x2DD10979 0x00ABCDEF ++ literal 0xA1B2C3D4 ++ halt)
    (state_of (waiting 1 1 0 22 14 2 0 1 0x00000000 0 0 2) (hex 8 0x1112131415161718) [])

pub record InlineScan24 : Type 0 where
  pub ad_0_q_0_x_0 : inline_scan_24_0 (answer 0 0x345678)
      ≡ wants (operation 9 23 0 17 0xABCDEF false) (state_of (waiting 1 1 0 23 0 2 0 2 0x00030000 0 0 2) (hex 8 0x1112131415161718) [])
  pub ad_0_q_1_x_0 : inline_scan_24_0 (answer Q 0x345678)
      ≡ wants (operation 9 23 0 17 0xABCDEF false) (state_of (waiting 1 1 0 23 0 2 0 2 0x00020000 0 0 2) (hex 8 0x1112131415161718) [])
  pub ad_0_q_0_x_1 : inline_scan_24_0 (answer X 0x345678)
      ≡ wants (operation 9 23 0 17 0xABCDEF false) (state_of (waiting 1 1 0 23 0 2 0 2 0x00010000 0 0 2) (hex 8 0x1112131415161718) [])
  pub ad_0_q_1_x_1 : inline_scan_24_0 (answer (Q + X) 0x345678)
      ≡ wants_none (state_of (ended 3 0 0 0 0 8 0 2 0x00000080 0 0 2) (hex 8 0x11120000D4C3B2A1) [])
  pub ad_1_q_0_x_0 : inline_scan_24_1 (answer 0 0x345678)
      ≡ wants (operation 9 23 0 17 0xABCDEF false) (state_of (waiting 1 1 0 23 0 2 0 2 0x00030000 0 0 2) (hex 8 0x1112131415161718) [])
  pub ad_1_q_1_x_0 : inline_scan_24_1 (answer Q 0x345678)
      ≡ wants (operation 9 23 0 17 0xABCDEF false) (state_of (waiting 1 1 0 23 0 2 0 2 0x00020000 0 0 2) (hex 8 0x1112131415161718) [])
  pub ad_1_q_0_x_1 : inline_scan_24_1 (answer X 0x345678)
      ≡ wants (operation 9 23 0 17 0xABCDEF false) (state_of (waiting 1 1 0 23 0 2 0 2 0x00010000 0 0 2) (hex 8 0x1112131415161718) [])
  pub ad_1_q_1_x_1 : inline_scan_24_1 (answer (Q + X) 0x345678)
      ≡ wants_none (state_of (ended 3 0 0 0 0 8 0 2 0x00000080 0 0 2) (hex 8 0x11120000D4C3B2A1) [])

-- block scan read 24 bits: at a station's last subaddress, in station 23, at its last position
abbrev pub block_scan_read_24_places_0 : List ℕ → Called
block_scan_read_24_places_0 =
    step_of (first_field 2 ++ camac_4 0x02000102 ++ camac_8 0x2DC20938 0xFFFFFFFC ++ literal 0xA1B2C3D4 ++ halt)
    (state_of (waiting 1 2 0 22 15 2 0 1 0x00000000 0 0 2) (hex 16 0x1112131415161718191A1B1C1D1E1F20) [])

abbrev pub block_scan_read_24_places_1 : List ℕ → Called
block_scan_read_24_places_1 =
    step_of (first_field 2 ++ camac_4 0x02000102 ++ camac_8 0x2DC20938 0xFFFFFFFC ++ literal 0xA1B2C3D4 ++ halt)
    (state_of (waiting 1 1 0 22 15 8 0 1 0x00000000 0 0 2) (hex 16 0x1112131415161718191A1B1C1D1E1F20) [])

abbrev pub block_scan_read_24_places_2 : List ℕ → Called
block_scan_read_24_places_2 =
    step_of (first_field 2 ++ camac_4 0x02000102 ++ camac_8 0x2DC20938 0xFFFFFFFC ++ literal 0xA1B2C3D4 ++ halt)
    (state_of (waiting 1 2 0 23 3 2 0 1 0x00000000 0 0 2) (hex 16 0x1112131415161718191A1B1C1D1E1F20) [])

abbrev pub block_scan_read_24_places_3 : List ℕ → Called
block_scan_read_24_places_3 =
    step_of (first_field 2 ++ camac_4 0x02000102 ++ camac_8 0x2DC20938 0xFFFFFFFC ++ literal 0xA1B2C3D4 ++ halt)
    (state_of (waiting 1 1 0 23 3 8 0 1 0x00000000 0 0 2) (hex 16 0x1112131415161718191A1B1C1D1E1F20) [])

abbrev pub block_scan_read_24_places_4 : List ℕ → Called
block_scan_read_24_places_4 =
    step_of (first_field 2 ++ camac_4 0x02000102 ++ camac_8 0x2DC20938 0xFFFFFFFC ++ literal 0xA1B2C3D4 ++ halt)
    (state_of (waiting 1 2 0 23 15 2 0 1 0x00000000 0 0 2) (hex 16 0x1112131415161718191A1B1C1D1E1F20) [])

abbrev pub block_scan_read_24_places_5 : List ℕ → Called
block_scan_read_24_places_5 =
    step_of (first_field 2 ++ camac_4 0x02000102 ++ camac_8 0x2DC20938 0xFFFFFFFC ++ literal 0xA1B2C3D4 ++ halt)
    (state_of (waiting 1 1 0 23 15 8 0 1 0x00000000 0 0 2) (hex 16 0x1112131415161718191A1B1C1D1E1F20) [])

abbrev pub block_scan_read_24_places_6 : List ℕ → Called
block_scan_read_24_places_6 =
    step_of (first_field 2 ++ camac_4 0x02000102 ++ camac_8 0x2DC20939 0xFFFFFFFC ++ literal 0xA1B2C3D4 ++ halt)
    (state_of (waiting 1 2 0 22 15 2 0 1 0x00000000 0 0 2) (hex 16 0x1112131415161718191A1B1C1D1E1F20) [])

abbrev pub block_scan_read_24_places_7 : List ℕ → Called
block_scan_read_24_places_7 =
    step_of (first_field 2 ++ camac_4 0x02000102 ++ camac_8 0x2DC20939 0xFFFFFFFC ++ literal 0xA1B2C3D4 ++ halt)
    (state_of (waiting 1 1 0 22 15 8 0 1 0x00000000 0 0 2) (hex 16 0x1112131415161718191A1B1C1D1E1F20) [])

abbrev pub block_scan_read_24_places_8 : List ℕ → Called
block_scan_read_24_places_8 =
    step_of (first_field 2 ++ camac_4 0x02000102 ++ camac_8 0x2DC20939 0xFFFFFFFC ++ literal 0xA1B2C3D4 ++ halt)
    (state_of (waiting 1 2 0 23 3 2 0 1 0x00000000 0 0 2) (hex 16 0x1112131415161718191A1B1C1D1E1F20) [])

abbrev pub block_scan_read_24_places_9 : List ℕ → Called
block_scan_read_24_places_9 =
    step_of (first_field 2 ++ camac_4 0x02000102 ++ camac_8 0x2DC20939 0xFFFFFFFC ++ literal 0xA1B2C3D4 ++ halt)
    (state_of (waiting 1 1 0 23 3 8 0 1 0x00000000 0 0 2) (hex 16 0x1112131415161718191A1B1C1D1E1F20) [])

abbrev pub block_scan_read_24_places_10 : List ℕ → Called
block_scan_read_24_places_10 =
    step_of (first_field 2 ++ camac_4 0x02000102 ++ camac_8 0x2DC20939 0xFFFFFFFC ++ literal 0xA1B2C3D4 ++ halt)
    (state_of (waiting 1 2 0 23 15 2 0 1 0x00000000 0 0 2) (hex 16 0x1112131415161718191A1B1C1D1E1F20) [])

abbrev pub block_scan_read_24_places_11 : List ℕ → Called
block_scan_read_24_places_11 =
    step_of (first_field 2 ++ camac_4 0x02000102 ++ camac_8 0x2DC20939 0xFFFFFFFC ++ literal 0xA1B2C3D4 ++ halt)
    (state_of (waiting 1 1 0 23 15 8 0 1 0x00000000 0 0 2) (hex 16 0x1112131415161718191A1B1C1D1E1F20) [])

pub record BlockScanRead24Places : Type 0 where
  pub at_22_15_left_2_ad_0_q_0_x_0 : block_scan_read_24_places_0 (answer 0 0x345678)
      ≡ wants (operation 9 23 0 2 0x000000 false) (state_of (waiting 1 2 0 23 0 2 0 2 0x00030000 0 0 2) (hex 16 0x1112131415161718191A1B1C1D1E1F20) [])
  pub at_22_15_left_2_ad_0_q_1_x_0 : block_scan_read_24_places_0 (answer Q 0x345678)
      ≡ wants (operation 9 23 0 2 0x000000 false) (state_of (waiting 1 2 0 23 0 2 0 2 0x00020000 0 0 2) (hex 16 0x1112131415161718191A1B1C1D1E1F20) [])
  pub at_22_15_left_2_ad_0_q_0_x_1 : block_scan_read_24_places_0 (answer X 0x345678)
      ≡ wants (operation 9 23 0 2 0x000000 false) (state_of (waiting 1 2 0 23 0 2 0 2 0x00010000 0 0 2) (hex 16 0x1112131415161718191A1B1C1D1E1F20) [])
  pub at_22_15_left_2_ad_0_q_1_x_1 : block_scan_read_24_places_0 (answer (Q + X) 0x345678)
      ≡ wants (operation 9 23 0 2 0x000000 false) (state_of (waiting 1 1 0 23 0 8 0 2 0x00000000 0 4 4) (hex 16 0x11120000785634C0191A1B1C1D1E1F20) [])
  pub at_22_15_left_1_ad_0_q_0_x_0 : block_scan_read_24_places_1 (answer 0 0x345678)
      ≡ wants (operation 9 23 0 2 0x000000 false) (state_of (waiting 1 1 0 23 0 8 0 2 0x00030000 0 0 2) (hex 16 0x1112131415161718191A1B1C1D1E1F20) [])
  pub at_22_15_left_1_ad_0_q_1_x_0 : block_scan_read_24_places_1 (answer Q 0x345678)
      ≡ wants (operation 9 23 0 2 0x000000 false) (state_of (waiting 1 1 0 23 0 8 0 2 0x00020000 0 0 2) (hex 16 0x1112131415161718191A1B1C1D1E1F20) [])
  pub at_22_15_left_1_ad_0_q_0_x_1 : block_scan_read_24_places_1 (answer X 0x345678)
      ≡ wants (operation 9 23 0 2 0x000000 false) (state_of (waiting 1 1 0 23 0 8 0 2 0x00010000 0 0 2) (hex 16 0x1112131415161718191A1B1C1D1E1F20) [])
  pub at_22_15_left_1_ad_0_q_1_x_1 : block_scan_read_24_places_1 (answer (Q + X) 0x345678)
      ≡ wants_none (state_of (ended 3 0 0 0 0 16 0 2 0x00000080 0 8 4) (hex 16 0x1112131415161718785634C0D4C3B2A1) [])
  pub at_23_3_left_2_ad_0_q_0_x_0 : block_scan_read_24_places_2 (answer 0 0x345678)
      ≡ wants_none (state_of (ended 1 0 0 0 0 2 0 2 0x90430080 0 0 2) (hex 16 0x1112131415161718191A1B1C1D1E1F20) [])
  pub at_23_3_left_2_ad_0_q_1_x_0 : block_scan_read_24_places_2 (answer Q 0x345678)
      ≡ wants_none (state_of (ended 1 0 0 0 0 2 0 2 0x90420080 0 0 2) (hex 16 0x1112131415161718191A1B1C1D1E1F20) [])
  pub at_23_3_left_2_ad_0_q_0_x_1 : block_scan_read_24_places_2 (answer X 0x345678)
      ≡ wants_none (state_of (ended 1 0 0 0 0 2 0 2 0x90410080 0 0 2) (hex 16 0x1112131415161718191A1B1C1D1E1F20) [])
  pub at_23_3_left_2_ad_0_q_1_x_1 : block_scan_read_24_places_2 (answer (Q + X) 0x345678)
      ≡ wants (operation 9 23 4 2 0x000000 false) (state_of (waiting 1 1 0 23 4 8 0 2 0x00000000 0 4 4) (hex 16 0x11120000785634C0191A1B1C1D1E1F20) [])
  pub at_23_3_left_1_ad_0_q_0_x_0 : block_scan_read_24_places_3 (answer 0 0x345678)
      ≡ wants_none (state_of (ended 1 0 0 0 0 8 0 2 0x90430080 0 0 2) (hex 16 0x1112131415161718191A1B1C1D1E1F20) [])
  pub at_23_3_left_1_ad_0_q_1_x_0 : block_scan_read_24_places_3 (answer Q 0x345678)
      ≡ wants_none (state_of (ended 1 0 0 0 0 8 0 2 0x90420080 0 0 2) (hex 16 0x1112131415161718191A1B1C1D1E1F20) [])
  pub at_23_3_left_1_ad_0_q_0_x_1 : block_scan_read_24_places_3 (answer X 0x345678)
      ≡ wants_none (state_of (ended 1 0 0 0 0 8 0 2 0x90410080 0 0 2) (hex 16 0x1112131415161718191A1B1C1D1E1F20) [])
  pub at_23_3_left_1_ad_0_q_1_x_1 : block_scan_read_24_places_3 (answer (Q + X) 0x345678)
      ≡ wants_none (state_of (ended 3 0 0 0 0 16 0 2 0x00000080 0 8 4) (hex 16 0x1112131415161718785634C0D4C3B2A1) [])
  pub at_23_15_left_2_ad_0_q_0_x_0 : block_scan_read_24_places_4 (answer 0 0x345678)
      ≡ wants_none (state_of (ended 1 0 0 0 0 2 0 2 0x90430080 0 0 2) (hex 16 0x1112131415161718191A1B1C1D1E1F20) [])
  pub at_23_15_left_2_ad_0_q_1_x_0 : block_scan_read_24_places_4 (answer Q 0x345678)
      ≡ wants_none (state_of (ended 1 0 0 0 0 2 0 2 0x90420080 0 0 2) (hex 16 0x1112131415161718191A1B1C1D1E1F20) [])
  pub at_23_15_left_2_ad_0_q_0_x_1 : block_scan_read_24_places_4 (answer X 0x345678)
      ≡ wants_none (state_of (ended 1 0 0 0 0 2 0 2 0x90410080 0 0 2) (hex 16 0x1112131415161718191A1B1C1D1E1F20) [])
  pub at_23_15_left_2_ad_0_q_1_x_1 : block_scan_read_24_places_4 (answer (Q + X) 0x345678)
      ≡ wants_none (state_of (ended 1 0 0 0 0 8 0 2 0x90400080 0 4 4) (hex 16 0x11120000785634C0191A1B1C1D1E1F20) [])
  pub at_23_15_left_1_ad_0_q_0_x_0 : block_scan_read_24_places_5 (answer 0 0x345678)
      ≡ wants_none (state_of (ended 1 0 0 0 0 8 0 2 0x90430080 0 0 2) (hex 16 0x1112131415161718191A1B1C1D1E1F20) [])
  pub at_23_15_left_1_ad_0_q_1_x_0 : block_scan_read_24_places_5 (answer Q 0x345678)
      ≡ wants_none (state_of (ended 1 0 0 0 0 8 0 2 0x90420080 0 0 2) (hex 16 0x1112131415161718191A1B1C1D1E1F20) [])
  pub at_23_15_left_1_ad_0_q_0_x_1 : block_scan_read_24_places_5 (answer X 0x345678)
      ≡ wants_none (state_of (ended 1 0 0 0 0 8 0 2 0x90410080 0 0 2) (hex 16 0x1112131415161718191A1B1C1D1E1F20) [])
  pub at_23_15_left_1_ad_0_q_1_x_1 : block_scan_read_24_places_5 (answer (Q + X) 0x345678)
      ≡ wants_none (state_of (ended 3 0 0 0 0 16 0 2 0x00000080 0 8 4) (hex 16 0x1112131415161718785634C0D4C3B2A1) [])
  pub at_22_15_left_2_ad_1_q_0_x_0 : block_scan_read_24_places_6 (answer 0 0x345678)
      ≡ wants (operation 9 23 0 2 0x000000 false) (state_of (waiting 1 2 0 23 0 2 0 2 0x00030000 0 0 2) (hex 16 0x1112131415161718191A1B1C1D1E1F20) [])
  pub at_22_15_left_2_ad_1_q_1_x_0 : block_scan_read_24_places_6 (answer Q 0x345678)
      ≡ wants (operation 9 23 0 2 0x000000 false) (state_of (waiting 1 2 0 23 0 2 0 2 0x00020000 0 0 2) (hex 16 0x1112131415161718191A1B1C1D1E1F20) [])
  pub at_22_15_left_2_ad_1_q_0_x_1 : block_scan_read_24_places_6 (answer X 0x345678)
      ≡ wants (operation 9 23 0 2 0x000000 false) (state_of (waiting 1 2 0 23 0 2 0 2 0x00010000 0 0 2) (hex 16 0x1112131415161718191A1B1C1D1E1F20) [])
  pub at_22_15_left_2_ad_1_q_1_x_1 : block_scan_read_24_places_6 (answer (Q + X) 0x345678)
      ≡ wants (operation 9 23 0 2 0x000000 false) (state_of (waiting 1 1 0 23 0 8 0 2 0x00000000 0 4 4) (hex 16 0x11120000785634C0191A1B1C1D1E1F20) [])
  pub at_22_15_left_1_ad_1_q_0_x_0 : block_scan_read_24_places_7 (answer 0 0x345678)
      ≡ wants (operation 9 23 0 2 0x000000 false) (state_of (waiting 1 1 0 23 0 8 0 2 0x00030000 0 0 2) (hex 16 0x1112131415161718191A1B1C1D1E1F20) [])
  pub at_22_15_left_1_ad_1_q_1_x_0 : block_scan_read_24_places_7 (answer Q 0x345678)
      ≡ wants (operation 9 23 0 2 0x000000 false) (state_of (waiting 1 1 0 23 0 8 0 2 0x00020000 0 0 2) (hex 16 0x1112131415161718191A1B1C1D1E1F20) [])
  pub at_22_15_left_1_ad_1_q_0_x_1 : block_scan_read_24_places_7 (answer X 0x345678)
      ≡ wants (operation 9 23 0 2 0x000000 false) (state_of (waiting 1 1 0 23 0 8 0 2 0x00010000 0 0 2) (hex 16 0x1112131415161718191A1B1C1D1E1F20) [])
  pub at_22_15_left_1_ad_1_q_1_x_1 : block_scan_read_24_places_7 (answer (Q + X) 0x345678)
      ≡ wants_none (state_of (ended 3 0 0 0 0 16 0 2 0x00000080 0 8 4) (hex 16 0x1112131415161718785634C0D4C3B2A1) [])
  pub at_23_3_left_2_ad_1_q_0_x_0 : block_scan_read_24_places_8 (answer 0 0x345678)
      ≡ wants_none (state_of (ended 1 0 0 0 0 2 0 2 0x90430080 0 0 2) (hex 16 0x1112131415161718191A1B1C1D1E1F20) [])
  pub at_23_3_left_2_ad_1_q_1_x_0 : block_scan_read_24_places_8 (answer Q 0x345678)
      ≡ wants_none (state_of (ended 1 0 0 0 0 2 0 2 0x90420080 0 0 2) (hex 16 0x1112131415161718191A1B1C1D1E1F20) [])
  pub at_23_3_left_2_ad_1_q_0_x_1 : block_scan_read_24_places_8 (answer X 0x345678)
      ≡ wants_none (state_of (ended 1 0 0 0 0 2 0 2 0x90410080 0 0 2) (hex 16 0x1112131415161718191A1B1C1D1E1F20) [])
  pub at_23_3_left_2_ad_1_q_1_x_1 : block_scan_read_24_places_8 (answer (Q + X) 0x345678)
      ≡ wants (operation 9 23 4 2 0x000000 false) (state_of (waiting 1 1 0 23 4 8 0 2 0x00000000 0 4 4) (hex 16 0x11120000785634C0191A1B1C1D1E1F20) [])
  pub at_23_3_left_1_ad_1_q_0_x_0 : block_scan_read_24_places_9 (answer 0 0x345678)
      ≡ wants_none (state_of (ended 1 0 0 0 0 8 0 2 0x90430080 0 0 2) (hex 16 0x1112131415161718191A1B1C1D1E1F20) [])
  pub at_23_3_left_1_ad_1_q_1_x_0 : block_scan_read_24_places_9 (answer Q 0x345678)
      ≡ wants_none (state_of (ended 1 0 0 0 0 8 0 2 0x90420080 0 0 2) (hex 16 0x1112131415161718191A1B1C1D1E1F20) [])
  pub at_23_3_left_1_ad_1_q_0_x_1 : block_scan_read_24_places_9 (answer X 0x345678)
      ≡ wants_none (state_of (ended 1 0 0 0 0 8 0 2 0x90410080 0 0 2) (hex 16 0x1112131415161718191A1B1C1D1E1F20) [])
  pub at_23_3_left_1_ad_1_q_1_x_1 : block_scan_read_24_places_9 (answer (Q + X) 0x345678)
      ≡ wants_none (state_of (ended 3 0 0 0 0 16 0 2 0x00000080 0 8 4) (hex 16 0x1112131415161718785634C0D4C3B2A1) [])
  pub at_23_15_left_2_ad_1_q_0_x_0 : block_scan_read_24_places_10 (answer 0 0x345678)
      ≡ wants_none (state_of (ended 1 0 0 0 0 2 0 2 0x90430080 0 0 2) (hex 16 0x1112131415161718191A1B1C1D1E1F20) [])
  pub at_23_15_left_2_ad_1_q_1_x_0 : block_scan_read_24_places_10 (answer Q 0x345678)
      ≡ wants_none (state_of (ended 1 0 0 0 0 2 0 2 0x90420080 0 0 2) (hex 16 0x1112131415161718191A1B1C1D1E1F20) [])
  pub at_23_15_left_2_ad_1_q_0_x_1 : block_scan_read_24_places_10 (answer X 0x345678)
      ≡ wants_none (state_of (ended 1 0 0 0 0 2 0 2 0x90410080 0 0 2) (hex 16 0x1112131415161718191A1B1C1D1E1F20) [])
  pub at_23_15_left_2_ad_1_q_1_x_1 : block_scan_read_24_places_10 (answer (Q + X) 0x345678)
      ≡ wants_none (state_of (ended 1 0 0 0 0 8 0 2 0x90400080 0 4 4) (hex 16 0x11120000785634C0191A1B1C1D1E1F20) [])
  pub at_23_15_left_1_ad_1_q_0_x_0 : block_scan_read_24_places_11 (answer 0 0x345678)
      ≡ wants_none (state_of (ended 1 0 0 0 0 8 0 2 0x90430080 0 0 2) (hex 16 0x1112131415161718191A1B1C1D1E1F20) [])
  pub at_23_15_left_1_ad_1_q_1_x_0 : block_scan_read_24_places_11 (answer Q 0x345678)
      ≡ wants_none (state_of (ended 1 0 0 0 0 8 0 2 0x90420080 0 0 2) (hex 16 0x1112131415161718191A1B1C1D1E1F20) [])
  pub at_23_15_left_1_ad_1_q_0_x_1 : block_scan_read_24_places_11 (answer X 0x345678)
      ≡ wants_none (state_of (ended 1 0 0 0 0 8 0 2 0x90410080 0 0 2) (hex 16 0x1112131415161718191A1B1C1D1E1F20) [])
  pub at_23_15_left_1_ad_1_q_1_x_1 : block_scan_read_24_places_11 (answer (Q + X) 0x345678)
      ≡ wants_none (state_of (ended 3 0 0 0 0 16 0 2 0x00000080 0 8 4) (hex 16 0x1112131415161718785634C0D4C3B2A1) [])

-- block scan write 16 bits: at a station's last subaddress, in station 23, at its last position
abbrev pub block_scan_write_16_places_0 : List ℕ → Called
block_scan_write_16_places_0 =
    step_of (first_field 2 ++ camac_8 0x2DD1093A 0xFFFFFFFE ++ literal 0xA1B2C3D4 ++ halt)
    (state_of (waiting 0 2 0 22 15 0 0 0 0x00000000 0 0 0) (hex 4 0x11121314) (hex 4 0x81828384))

abbrev pub block_scan_write_16_places_1 : List ℕ → Called
block_scan_write_16_places_1 =
    step_of (first_field 2 ++ camac_8 0x2DD1093A 0xFFFFFFFE ++ literal 0xA1B2C3D4 ++ halt)
    (state_of (waiting 0 1 0 22 15 0 2 0 0x00000000 0 0 0) (hex 4 0x11121314) (hex 4 0x81828384))

abbrev pub block_scan_write_16_places_2 : List ℕ → Called
block_scan_write_16_places_2 =
    step_of (first_field 2 ++ camac_8 0x2DD1093A 0xFFFFFFFE ++ literal 0xA1B2C3D4 ++ halt)
    (state_of (waiting 0 2 0 23 3 0 0 0 0x00000000 0 0 0) (hex 4 0x11121314) (hex 4 0x81828384))

abbrev pub block_scan_write_16_places_3 : List ℕ → Called
block_scan_write_16_places_3 =
    step_of (first_field 2 ++ camac_8 0x2DD1093A 0xFFFFFFFE ++ literal 0xA1B2C3D4 ++ halt)
    (state_of (waiting 0 1 0 23 3 0 2 0 0x00000000 0 0 0) (hex 4 0x11121314) (hex 4 0x81828384))

abbrev pub block_scan_write_16_places_4 : List ℕ → Called
block_scan_write_16_places_4 =
    step_of (first_field 2 ++ camac_8 0x2DD1093A 0xFFFFFFFE ++ literal 0xA1B2C3D4 ++ halt)
    (state_of (waiting 0 2 0 23 15 0 0 0 0x00000000 0 0 0) (hex 4 0x11121314) (hex 4 0x81828384))

abbrev pub block_scan_write_16_places_5 : List ℕ → Called
block_scan_write_16_places_5 =
    step_of (first_field 2 ++ camac_8 0x2DD1093A 0xFFFFFFFE ++ literal 0xA1B2C3D4 ++ halt)
    (state_of (waiting 0 1 0 23 15 0 2 0 0x00000000 0 0 0) (hex 4 0x11121314) (hex 4 0x81828384))

pub record BlockScanWrite16Places : Type 0 where
  pub at_22_15_left_2_ad_0_q_0_x_0 : block_scan_write_16_places_0 (answer 0 0x345678)
      ≡ wants (operation 9 23 0 17 0x008281 false) (state_of (waiting 0 2 0 23 0 0 0 1 0x00030000 0 0 0) (hex 4 0x11121314) (hex 4 0x81828384))
  pub at_22_15_left_2_ad_0_q_1_x_0 : block_scan_write_16_places_0 (answer Q 0x345678)
      ≡ wants (operation 9 23 0 17 0x008281 false) (state_of (waiting 0 2 0 23 0 0 0 1 0x00020000 0 0 0) (hex 4 0x11121314) (hex 4 0x81828384))
  pub at_22_15_left_2_ad_0_q_0_x_1 : block_scan_write_16_places_0 (answer X 0x345678)
      ≡ wants (operation 9 23 0 17 0x008281 false) (state_of (waiting 0 2 0 23 0 0 0 1 0x00010000 0 0 0) (hex 4 0x11121314) (hex 4 0x81828384))
  pub at_22_15_left_2_ad_0_q_1_x_1 : block_scan_write_16_places_0 (answer (Q + X) 0x345678)
      ≡ wants (operation 9 23 0 17 0x008483 false) (state_of (waiting 0 1 0 23 0 0 2 1 0x00000000 1 0 2) (hex 4 0x11121314) (hex 4 0x81828384))
  pub at_22_15_left_1_ad_0_q_0_x_0 : block_scan_write_16_places_1 (answer 0 0x345678)
      ≡ wants (operation 9 23 0 17 0x008483 false) (state_of (waiting 0 1 0 23 0 0 2 1 0x00030000 0 0 0) (hex 4 0x11121314) (hex 4 0x81828384))
  pub at_22_15_left_1_ad_0_q_1_x_0 : block_scan_write_16_places_1 (answer Q 0x345678)
      ≡ wants (operation 9 23 0 17 0x008483 false) (state_of (waiting 0 1 0 23 0 0 2 1 0x00020000 0 0 0) (hex 4 0x11121314) (hex 4 0x81828384))
  pub at_22_15_left_1_ad_0_q_0_x_1 : block_scan_write_16_places_1 (answer X 0x345678)
      ≡ wants (operation 9 23 0 17 0x008483 false) (state_of (waiting 0 1 0 23 0 0 2 1 0x00010000 0 0 0) (hex 4 0x11121314) (hex 4 0x81828384))
  pub at_22_15_left_1_ad_0_q_1_x_1 : block_scan_write_16_places_1 (answer (Q + X) 0x345678)
      ≡ wants_none (state_of (ended 2 0 0 0 0 4 4 1 0x00000080 1 2 2) (hex 4 0xD4C3B2A1) (hex 4 0x81828384))
  pub at_23_3_left_2_ad_0_q_0_x_0 : block_scan_write_16_places_2 (answer 0 0x345678)
      ≡ wants_none (state_of (ended 0 0 0 0 0 0 0 1 0x90430080 0 0 0) (hex 4 0x11121314) (hex 4 0x81828384))
  pub at_23_3_left_2_ad_0_q_1_x_0 : block_scan_write_16_places_2 (answer Q 0x345678)
      ≡ wants_none (state_of (ended 0 0 0 0 0 0 0 1 0x90420080 0 0 0) (hex 4 0x11121314) (hex 4 0x81828384))
  pub at_23_3_left_2_ad_0_q_0_x_1 : block_scan_write_16_places_2 (answer X 0x345678)
      ≡ wants_none (state_of (ended 0 0 0 0 0 0 0 1 0x90410080 0 0 0) (hex 4 0x11121314) (hex 4 0x81828384))
  pub at_23_3_left_2_ad_0_q_1_x_1 : block_scan_write_16_places_2 (answer (Q + X) 0x345678)
      ≡ wants (operation 9 23 4 17 0x008483 false) (state_of (waiting 0 1 0 23 4 0 2 1 0x00000000 1 0 2) (hex 4 0x11121314) (hex 4 0x81828384))
  pub at_23_3_left_1_ad_0_q_0_x_0 : block_scan_write_16_places_3 (answer 0 0x345678)
      ≡ wants_none (state_of (ended 0 0 0 0 0 0 2 1 0x90430080 0 0 0) (hex 4 0x11121314) (hex 4 0x81828384))
  pub at_23_3_left_1_ad_0_q_1_x_0 : block_scan_write_16_places_3 (answer Q 0x345678)
      ≡ wants_none (state_of (ended 0 0 0 0 0 0 2 1 0x90420080 0 0 0) (hex 4 0x11121314) (hex 4 0x81828384))
  pub at_23_3_left_1_ad_0_q_0_x_1 : block_scan_write_16_places_3 (answer X 0x345678)
      ≡ wants_none (state_of (ended 0 0 0 0 0 0 2 1 0x90410080 0 0 0) (hex 4 0x11121314) (hex 4 0x81828384))
  pub at_23_3_left_1_ad_0_q_1_x_1 : block_scan_write_16_places_3 (answer (Q + X) 0x345678)
      ≡ wants_none (state_of (ended 2 0 0 0 0 4 4 1 0x00000080 1 2 2) (hex 4 0xD4C3B2A1) (hex 4 0x81828384))
  pub at_23_15_left_2_ad_0_q_0_x_0 : block_scan_write_16_places_4 (answer 0 0x345678)
      ≡ wants_none (state_of (ended 0 0 0 0 0 0 0 1 0x90430080 0 0 0) (hex 4 0x11121314) (hex 4 0x81828384))
  pub at_23_15_left_2_ad_0_q_1_x_0 : block_scan_write_16_places_4 (answer Q 0x345678)
      ≡ wants_none (state_of (ended 0 0 0 0 0 0 0 1 0x90420080 0 0 0) (hex 4 0x11121314) (hex 4 0x81828384))
  pub at_23_15_left_2_ad_0_q_0_x_1 : block_scan_write_16_places_4 (answer X 0x345678)
      ≡ wants_none (state_of (ended 0 0 0 0 0 0 0 1 0x90410080 0 0 0) (hex 4 0x11121314) (hex 4 0x81828384))
  pub at_23_15_left_2_ad_0_q_1_x_1 : block_scan_write_16_places_4 (answer (Q + X) 0x345678)
      ≡ wants_none (state_of (ended 0 0 0 0 0 0 2 1 0x90400080 1 0 2) (hex 4 0x11121314) (hex 4 0x81828384))
  pub at_23_15_left_1_ad_0_q_0_x_0 : block_scan_write_16_places_5 (answer 0 0x345678)
      ≡ wants_none (state_of (ended 0 0 0 0 0 0 2 1 0x90430080 0 0 0) (hex 4 0x11121314) (hex 4 0x81828384))
  pub at_23_15_left_1_ad_0_q_1_x_0 : block_scan_write_16_places_5 (answer Q 0x345678)
      ≡ wants_none (state_of (ended 0 0 0 0 0 0 2 1 0x90420080 0 0 0) (hex 4 0x11121314) (hex 4 0x81828384))
  pub at_23_15_left_1_ad_0_q_0_x_1 : block_scan_write_16_places_5 (answer X 0x345678)
      ≡ wants_none (state_of (ended 0 0 0 0 0 0 2 1 0x90410080 0 0 0) (hex 4 0x11121314) (hex 4 0x81828384))
  pub at_23_15_left_1_ad_0_q_1_x_1 : block_scan_write_16_places_5 (answer (Q + X) 0x345678)
      ≡ wants_none (state_of (ended 2 0 0 0 0 4 4 1 0x00000080 1 2 2) (hex 4 0xD4C3B2A1) (hex 4 0x81828384))

-- single scan read 24 bits: at a station's last subaddress, in station 23, at its last position
abbrev pub single_scan_read_24_places_0 : List ℕ → Called
single_scan_read_24_places_0 =
    step_of (first_field 2 ++ camac_4 0x02000102 ++ camac_4 0x2DC20918 ++ literal 0xA1B2C3D4 ++ halt)
    (state_of (waiting 1 1 0 22 15 2 0 1 0x00000000 0 0 2) (hex 12 0x1112131415161718191A1B1C) [])

abbrev pub single_scan_read_24_places_1 : List ℕ → Called
single_scan_read_24_places_1 =
    step_of (first_field 2 ++ camac_4 0x02000102 ++ camac_4 0x2DC20918 ++ literal 0xA1B2C3D4 ++ halt)
    (state_of (waiting 1 1 0 23 3 2 0 1 0x00000000 0 0 2) (hex 12 0x1112131415161718191A1B1C) [])

abbrev pub single_scan_read_24_places_2 : List ℕ → Called
single_scan_read_24_places_2 =
    step_of (first_field 2 ++ camac_4 0x02000102 ++ camac_4 0x2DC20918 ++ literal 0xA1B2C3D4 ++ halt)
    (state_of (waiting 1 1 0 23 15 2 0 1 0x00000000 0 0 2) (hex 12 0x1112131415161718191A1B1C) [])

pub record SingleScanRead24Places : Type 0 where
  pub at_22_15_left_1_ad_0_q_0_x_0 : single_scan_read_24_places_0 (answer 0 0x345678)
      ≡ wants (operation 9 23 0 2 0x000000 false) (state_of (waiting 1 1 0 23 0 2 0 2 0x00030000 0 0 2) (hex 12 0x1112131415161718191A1B1C) [])
  pub at_22_15_left_1_ad_0_q_1_x_0 : single_scan_read_24_places_0 (answer Q 0x345678)
      ≡ wants (operation 9 23 0 2 0x000000 false) (state_of (waiting 1 1 0 23 0 2 0 2 0x00020000 0 0 2) (hex 12 0x1112131415161718191A1B1C) [])
  pub at_22_15_left_1_ad_0_q_0_x_1 : single_scan_read_24_places_0 (answer X 0x345678)
      ≡ wants (operation 9 23 0 2 0x000000 false) (state_of (waiting 1 1 0 23 0 2 0 2 0x00010000 0 0 2) (hex 12 0x1112131415161718191A1B1C) [])
  pub at_22_15_left_1_ad_0_q_1_x_1 : single_scan_read_24_places_0 (answer (Q + X) 0x345678)
      ≡ wants_none (state_of (ended 3 0 0 0 0 12 0 2 0x00000080 0 4 4) (hex 12 0x11120000785634C0D4C3B2A1) [])
  pub at_23_3_left_1_ad_0_q_0_x_0 : single_scan_read_24_places_1 (answer 0 0x345678)
      ≡ wants_none (state_of (ended 1 0 0 0 0 2 0 2 0x90430080 0 0 2) (hex 12 0x1112131415161718191A1B1C) [])
  pub at_23_3_left_1_ad_0_q_1_x_0 : single_scan_read_24_places_1 (answer Q 0x345678)
      ≡ wants_none (state_of (ended 1 0 0 0 0 2 0 2 0x90420080 0 0 2) (hex 12 0x1112131415161718191A1B1C) [])
  pub at_23_3_left_1_ad_0_q_0_x_1 : single_scan_read_24_places_1 (answer X 0x345678)
      ≡ wants_none (state_of (ended 1 0 0 0 0 2 0 2 0x90410080 0 0 2) (hex 12 0x1112131415161718191A1B1C) [])
  pub at_23_3_left_1_ad_0_q_1_x_1 : single_scan_read_24_places_1 (answer (Q + X) 0x345678)
      ≡ wants_none (state_of (ended 3 0 0 0 0 12 0 2 0x00000080 0 4 4) (hex 12 0x11120000785634C0D4C3B2A1) [])
  pub at_23_15_left_1_ad_0_q_0_x_0 : single_scan_read_24_places_2 (answer 0 0x345678)
      ≡ wants_none (state_of (ended 1 0 0 0 0 2 0 2 0x90430080 0 0 2) (hex 12 0x1112131415161718191A1B1C) [])
  pub at_23_15_left_1_ad_0_q_1_x_0 : single_scan_read_24_places_2 (answer Q 0x345678)
      ≡ wants_none (state_of (ended 1 0 0 0 0 2 0 2 0x90420080 0 0 2) (hex 12 0x1112131415161718191A1B1C) [])
  pub at_23_15_left_1_ad_0_q_0_x_1 : single_scan_read_24_places_2 (answer X 0x345678)
      ≡ wants_none (state_of (ended 1 0 0 0 0 2 0 2 0x90410080 0 0 2) (hex 12 0x1112131415161718191A1B1C) [])
  pub at_23_15_left_1_ad_0_q_1_x_1 : single_scan_read_24_places_2 (answer (Q + X) 0x345678)
      ≡ wants_none (state_of (ended 3 0 0 0 0 12 0 2 0x00000080 0 4 4) (hex 12 0x11120000785634C0D4C3B2A1) [])

-- inline scan 24 bits: at a station's last subaddress, in station 23, at its last position
abbrev pub inline_scan_24_places_0 : List ℕ → Called
inline_scan_24_places_0 =
    step_of (first_field 2 ++ camac_4 0x02000102 ++ camac_8 0x2DD10978 0x00ABCDEF ++ literal 0xA1B2C3D4 ++ halt)
    (state_of (waiting 1 1 0 22 15 2 0 1 0x00000000 0 0 2) (hex 8 0x1112131415161718) [])

abbrev pub inline_scan_24_places_1 : List ℕ → Called
inline_scan_24_places_1 =
    step_of (first_field 2 ++ camac_4 0x02000102 ++ camac_8 0x2DD10978 0x00ABCDEF ++ literal 0xA1B2C3D4 ++ halt)
    (state_of (waiting 1 1 0 23 3 2 0 1 0x00000000 0 0 2) (hex 8 0x1112131415161718) [])

abbrev pub inline_scan_24_places_2 : List ℕ → Called
inline_scan_24_places_2 =
    step_of (first_field 2 ++ camac_4 0x02000102 ++ camac_8 0x2DD10978 0x00ABCDEF ++ literal 0xA1B2C3D4 ++ halt)
    (state_of (waiting 1 1 0 23 15 2 0 1 0x00000000 0 0 2) (hex 8 0x1112131415161718) [])

pub record InlineScan24Places : Type 0 where
  pub at_22_15_left_1_ad_0_q_0_x_0 : inline_scan_24_places_0 (answer 0 0x345678)
      ≡ wants (operation 9 23 0 17 0xABCDEF false) (state_of (waiting 1 1 0 23 0 2 0 2 0x00030000 0 0 2) (hex 8 0x1112131415161718) [])
  pub at_22_15_left_1_ad_0_q_1_x_0 : inline_scan_24_places_0 (answer Q 0x345678)
      ≡ wants (operation 9 23 0 17 0xABCDEF false) (state_of (waiting 1 1 0 23 0 2 0 2 0x00020000 0 0 2) (hex 8 0x1112131415161718) [])
  pub at_22_15_left_1_ad_0_q_0_x_1 : inline_scan_24_places_0 (answer X 0x345678)
      ≡ wants (operation 9 23 0 17 0xABCDEF false) (state_of (waiting 1 1 0 23 0 2 0 2 0x00010000 0 0 2) (hex 8 0x1112131415161718) [])
  pub at_22_15_left_1_ad_0_q_1_x_1 : inline_scan_24_places_0 (answer (Q + X) 0x345678)
      ≡ wants_none (state_of (ended 3 0 0 0 0 8 0 2 0x00000080 0 0 2) (hex 8 0x11120000D4C3B2A1) [])
  pub at_23_3_left_1_ad_0_q_0_x_0 : inline_scan_24_places_1 (answer 0 0x345678)
      ≡ wants_none (state_of (ended 1 0 0 0 0 2 0 2 0x90430080 0 0 2) (hex 8 0x1112131415161718) [])
  pub at_23_3_left_1_ad_0_q_1_x_0 : inline_scan_24_places_1 (answer Q 0x345678)
      ≡ wants_none (state_of (ended 1 0 0 0 0 2 0 2 0x90420080 0 0 2) (hex 8 0x1112131415161718) [])
  pub at_23_3_left_1_ad_0_q_0_x_1 : inline_scan_24_places_1 (answer X 0x345678)
      ≡ wants_none (state_of (ended 1 0 0 0 0 2 0 2 0x90410080 0 0 2) (hex 8 0x1112131415161718) [])
  pub at_23_3_left_1_ad_0_q_1_x_1 : inline_scan_24_places_1 (answer (Q + X) 0x345678)
      ≡ wants_none (state_of (ended 3 0 0 0 0 8 0 2 0x00000080 0 0 2) (hex 8 0x11120000D4C3B2A1) [])
  pub at_23_15_left_1_ad_0_q_0_x_0 : inline_scan_24_places_2 (answer 0 0x345678)
      ≡ wants_none (state_of (ended 1 0 0 0 0 2 0 2 0x90430080 0 0 2) (hex 8 0x1112131415161718) [])
  pub at_23_15_left_1_ad_0_q_1_x_0 : inline_scan_24_places_2 (answer Q 0x345678)
      ≡ wants_none (state_of (ended 1 0 0 0 0 2 0 2 0x90420080 0 0 2) (hex 8 0x1112131415161718) [])
  pub at_23_15_left_1_ad_0_q_0_x_1 : inline_scan_24_places_2 (answer X 0x345678)
      ≡ wants_none (state_of (ended 1 0 0 0 0 2 0 2 0x90410080 0 0 2) (hex 8 0x1112131415161718) [])
  pub at_23_15_left_1_ad_0_q_1_x_1 : inline_scan_24_places_2 (answer (Q + X) 0x345678)
      ≡ wants_none (state_of (ended 3 0 0 0 0 8 0 2 0x00000080 0 0 2) (hex 8 0x11120000D4C3B2A1) [])

-- single stop read 24 bits: ERR, DERR, TPE and LPE, and replies of the kinds 1 to 3, by AD
abbrev pub single_stop_read_24_other_0 : List ℕ → Called
single_stop_read_24_other_0 =
    step_of (first_field 2 ++ camac_4 0x02000102 ++ camac_4 0x0A620900 ++ literal 0xA1B2C3D4 ++ halt)
    (state_of (waiting 1 1 0 5 3 2 0 1 0x00000000 0 0 2) (hex 12 0x1112131415161718191A1B1C) [])

abbrev pub single_stop_read_24_other_1 : List ℕ → Called
single_stop_read_24_other_1 =
    step_of (first_field 2 ++ camac_4 0x02000102 ++ camac_4 0x0A620901 ++ literal 0xA1B2C3D4 ++ halt)
    (state_of (waiting 1 1 0 5 3 2 0 1 0x00000000 0 0 2) (hex 12 0x1112131415161718191A1B1C) [])

pub record SingleStopRead24Other : Type 0 where
  pub ad_0_err : single_stop_read_24_other_0 (answer (Q + X + ERR) 0x345678)
      ≡ wants_none (state_of (ended 1 0 0 0 0 2 0 2 0x40840080 0 0 2) (hex 12 0x1112131415161718191A1B1C) [])
  pub ad_0_err_x_0 : single_stop_read_24_other_0 (answer (Q + ERR) 0x345678)
      ≡ wants_none (state_of (ended 1 0 0 0 0 2 0 2 0x80860080 0 0 2) (hex 12 0x1112131415161718191A1B1C) [])
  pub ad_0_err_q_0 : single_stop_read_24_other_0 (answer (X + ERR) 0x345678)
      ≡ wants_none (state_of (ended 1 0 0 0 0 2 0 2 0x70850080 0 0 2) (hex 12 0x1112131415161718191A1B1C) [])
  pub ad_0_derr : single_stop_read_24_other_0 (answer (Q + X + DERR) 0x345678)
      ≡ wants_none (state_of (ended 3 0 0 0 0 12 0 2 0x04000080 0 4 4) (hex 12 0x11120000785634C0D4C3B2A1) [])
  pub ad_0_tpe : single_stop_read_24_other_0 (answer (Q + X + TPE) 0x345678)
      ≡ wants_none (state_of (ended 1 0 0 0 0 2 0 2 0xA0140080 0 0 2) (hex 12 0x1112131415161718191A1B1C) [])
  pub ad_0_lpe : single_stop_read_24_other_0 (answer (Q + X + LPE) 0x345678)
      ≡ wants_none (state_of (ended 1 0 0 0 0 2 0 2 0xA0240080 0 0 2) (hex 12 0x1112131415161718191A1B1C) [])
  pub ad_0_kind_1 : single_stop_read_24_other_0 (kind 1)
      ≡ wants_none (state_of (ended 1 0 0 0 0 2 0 2 0xB2000080 0 0 2) (hex 12 0x1112131415161718191A1B1C) [])
  pub ad_0_kind_2 : single_stop_read_24_other_0 (kind 2)
      ≡ wants_none (state_of (ended 1 0 0 0 0 2 0 2 0xC0080080 0 0 2) (hex 12 0x1112131415161718191A1B1C) [])
  pub ad_0_kind_3 : single_stop_read_24_other_0 (kind 3)
      ≡ wants_none (state_of (ended 1 0 0 0 0 2 0 2 0xD1000080 0 0 2) (hex 12 0x1112131415161718191A1B1C) [])
  pub ad_1_err : single_stop_read_24_other_1 (answer (Q + X + ERR) 0x345678)
      ≡ wants_none (state_of (ended 3 0 0 0 0 12 0 2 0x00840080 0 4 4) (hex 12 0x11120000785634C0D4C3B2A1) [])
  pub ad_1_err_x_0 : single_stop_read_24_other_1 (answer (Q + ERR) 0x345678)
      ≡ wants_none (state_of (ended 3 0 0 0 0 12 0 2 0x00860080 0 4 4) (hex 12 0x1112000078563480D4C3B2A1) [])
  pub ad_1_err_q_0 : single_stop_read_24_other_1 (answer (X + ERR) 0x345678)
      ≡ wants_none (state_of (ended 1 0 0 0 0 2 0 2 0x70850080 0 0 2) (hex 12 0x1112131415161718191A1B1C) [])
  pub ad_1_derr : single_stop_read_24_other_1 (answer (Q + X + DERR) 0x345678)
      ≡ wants_none (state_of (ended 3 0 0 0 0 12 0 2 0x04000080 0 4 4) (hex 12 0x11120000785634C0D4C3B2A1) [])
  pub ad_1_tpe : single_stop_read_24_other_1 (answer (Q + X + TPE) 0x345678)
      ≡ wants_none (state_of (ended 3 0 0 0 0 12 0 2 0x00140080 0 4 4) (hex 12 0x11120000785634C0D4C3B2A1) [])
  pub ad_1_lpe : single_stop_read_24_other_1 (answer (Q + X + LPE) 0x345678)
      ≡ wants_none (state_of (ended 3 0 0 0 0 12 0 2 0x00240080 0 4 4) (hex 12 0x11120000785634C0D4C3B2A1) [])
  pub ad_1_kind_1 : single_stop_read_24_other_1 (kind 1)
      ≡ wants_none (state_of (ended 1 0 0 0 0 2 0 2 0xB2000080 0 0 2) (hex 12 0x1112131415161718191A1B1C) [])
  pub ad_1_kind_2 : single_stop_read_24_other_1 (kind 2)
      ≡ wants_none (state_of (ended 1 0 0 0 0 2 0 2 0xC0080080 0 0 2) (hex 12 0x1112131415161718191A1B1C) [])
  pub ad_1_kind_3 : single_stop_read_24_other_1 (kind 3)
      ≡ wants_none (state_of (ended 1 0 0 0 0 2 0 2 0xD1000080 0 0 2) (hex 12 0x1112131415161718191A1B1C) [])

-- single ignore read 24 bits: ERR, DERR, TPE and LPE, and replies of the kinds 1 to 3, by AD
abbrev pub single_ignore_read_24_other_0 : List ℕ → Called
single_ignore_read_24_other_0 =
    step_of (first_field 2 ++ camac_4 0x02000102 ++ camac_4 0x0A620908 ++ literal 0xA1B2C3D4 ++ halt)
    (state_of (waiting 1 1 0 5 3 2 0 1 0x00000000 0 0 2) (hex 12 0x1112131415161718191A1B1C) [])

abbrev pub single_ignore_read_24_other_1 : List ℕ → Called
single_ignore_read_24_other_1 =
    step_of (first_field 2 ++ camac_4 0x02000102 ++ camac_4 0x0A620909 ++ literal 0xA1B2C3D4 ++ halt)
    (state_of (waiting 1 1 0 5 3 2 0 1 0x00000000 0 0 2) (hex 12 0x1112131415161718191A1B1C) [])

pub record SingleIgnoreRead24Other : Type 0 where
  pub ad_0_err : single_ignore_read_24_other_0 (answer (Q + X + ERR) 0x345678)
      ≡ wants_none (state_of (ended 1 0 0 0 0 2 0 2 0x40840080 0 0 2) (hex 12 0x1112131415161718191A1B1C) [])
  pub ad_0_err_x_0 : single_ignore_read_24_other_0 (answer (Q + ERR) 0x345678)
      ≡ wants_none (state_of (ended 1 0 0 0 0 2 0 2 0x80860080 0 0 2) (hex 12 0x1112131415161718191A1B1C) [])
  pub ad_0_err_q_0 : single_ignore_read_24_other_0 (answer (X + ERR) 0x345678)
      ≡ wants_none (state_of (ended 1 0 0 0 0 2 0 2 0x40850080 0 0 2) (hex 12 0x1112131415161718191A1B1C) [])
  pub ad_0_derr : single_ignore_read_24_other_0 (answer (Q + X + DERR) 0x345678)
      ≡ wants_none (state_of (ended 3 0 0 0 0 12 0 2 0x04000080 0 4 4) (hex 12 0x11120000785634C0D4C3B2A1) [])
  pub ad_0_tpe : single_ignore_read_24_other_0 (answer (Q + X + TPE) 0x345678)
      ≡ wants_none (state_of (ended 1 0 0 0 0 2 0 2 0xA0140080 0 0 2) (hex 12 0x1112131415161718191A1B1C) [])
  pub ad_0_lpe : single_ignore_read_24_other_0 (answer (Q + X + LPE) 0x345678)
      ≡ wants_none (state_of (ended 1 0 0 0 0 2 0 2 0xA0240080 0 0 2) (hex 12 0x1112131415161718191A1B1C) [])
  pub ad_0_kind_1 : single_ignore_read_24_other_0 (kind 1)
      ≡ wants_none (state_of (ended 1 0 0 0 0 2 0 2 0xB2000080 0 0 2) (hex 12 0x1112131415161718191A1B1C) [])
  pub ad_0_kind_2 : single_ignore_read_24_other_0 (kind 2)
      ≡ wants_none (state_of (ended 1 0 0 0 0 2 0 2 0xC0080080 0 0 2) (hex 12 0x1112131415161718191A1B1C) [])
  pub ad_0_kind_3 : single_ignore_read_24_other_0 (kind 3)
      ≡ wants_none (state_of (ended 1 0 0 0 0 2 0 2 0xD1000080 0 0 2) (hex 12 0x1112131415161718191A1B1C) [])
  pub ad_1_err : single_ignore_read_24_other_1 (answer (Q + X + ERR) 0x345678)
      ≡ wants_none (state_of (ended 3 0 0 0 0 12 0 2 0x00840080 0 4 4) (hex 12 0x11120000785634C0D4C3B2A1) [])
  pub ad_1_err_x_0 : single_ignore_read_24_other_1 (answer (Q + ERR) 0x345678)
      ≡ wants_none (state_of (ended 3 0 0 0 0 12 0 2 0x00860080 0 4 4) (hex 12 0x1112000078563480D4C3B2A1) [])
  pub ad_1_err_q_0 : single_ignore_read_24_other_1 (answer (X + ERR) 0x345678)
      ≡ wants_none (state_of (ended 3 0 0 0 0 12 0 2 0x00850080 0 4 4) (hex 12 0x1112000078563440D4C3B2A1) [])
  pub ad_1_derr : single_ignore_read_24_other_1 (answer (Q + X + DERR) 0x345678)
      ≡ wants_none (state_of (ended 3 0 0 0 0 12 0 2 0x04000080 0 4 4) (hex 12 0x11120000785634C0D4C3B2A1) [])
  pub ad_1_tpe : single_ignore_read_24_other_1 (answer (Q + X + TPE) 0x345678)
      ≡ wants_none (state_of (ended 3 0 0 0 0 12 0 2 0x00140080 0 4 4) (hex 12 0x11120000785634C0D4C3B2A1) [])
  pub ad_1_lpe : single_ignore_read_24_other_1 (answer (Q + X + LPE) 0x345678)
      ≡ wants_none (state_of (ended 3 0 0 0 0 12 0 2 0x00240080 0 4 4) (hex 12 0x11120000785634C0D4C3B2A1) [])
  pub ad_1_kind_1 : single_ignore_read_24_other_1 (kind 1)
      ≡ wants_none (state_of (ended 1 0 0 0 0 2 0 2 0xB2000080 0 0 2) (hex 12 0x1112131415161718191A1B1C) [])
  pub ad_1_kind_2 : single_ignore_read_24_other_1 (kind 2)
      ≡ wants_none (state_of (ended 1 0 0 0 0 2 0 2 0xC0080080 0 0 2) (hex 12 0x1112131415161718191A1B1C) [])
  pub ad_1_kind_3 : single_ignore_read_24_other_1 (kind 3)
      ≡ wants_none (state_of (ended 1 0 0 0 0 2 0 2 0xD1000080 0 0 2) (hex 12 0x1112131415161718191A1B1C) [])

-- single repeat read 24 bits: ERR, DERR, TPE and LPE, and replies of the kinds 1 to 3, by AD
abbrev pub single_repeat_read_24_other_0 : List ℕ → Called
single_repeat_read_24_other_0 =
    step_of (first_field 2 ++ camac_4 0x02000102 ++ camac_4 0x0A620910 ++ literal 0xA1B2C3D4 ++ halt)
    (state_of (waiting 1 1 0 5 3 2 0 1 0x00000000 0 0 2) (hex 12 0x1112131415161718191A1B1C) [])

abbrev pub single_repeat_read_24_other_1 : List ℕ → Called
single_repeat_read_24_other_1 =
    step_of (first_field 2 ++ camac_4 0x02000102 ++ camac_4 0x0A620911 ++ literal 0xA1B2C3D4 ++ halt)
    (state_of (waiting 1 1 0 5 3 2 0 1 0x00000000 0 0 2) (hex 12 0x1112131415161718191A1B1C) [])

pub record SingleRepeatRead24Other : Type 0 where
  pub ad_0_err : single_repeat_read_24_other_0 (answer (Q + X + ERR) 0x345678)
      ≡ wants_none (state_of (ended 1 0 0 0 0 2 0 2 0x40840080 0 0 2) (hex 12 0x1112131415161718191A1B1C) [])
  pub ad_0_err_x_0 : single_repeat_read_24_other_0 (answer (Q + ERR) 0x345678)
      ≡ wants_none (state_of (ended 1 0 0 0 0 2 0 2 0x80860080 0 0 2) (hex 12 0x1112131415161718191A1B1C) [])
  pub ad_0_err_q_0 : single_repeat_read_24_other_0 (answer (X + ERR) 0x345678)
      ≡ wants_none (state_of (ended 1 0 0 0 0 2 0 2 0x40850080 0 0 2) (hex 12 0x1112131415161718191A1B1C) [])
  pub ad_0_derr : single_repeat_read_24_other_0 (answer (Q + X + DERR) 0x345678)
      ≡ wants_none (state_of (ended 3 0 0 0 0 12 0 2 0x04000080 0 4 4) (hex 12 0x11120000785634C0D4C3B2A1) [])
  pub ad_0_tpe : single_repeat_read_24_other_0 (answer (Q + X + TPE) 0x345678)
      ≡ wants_none (state_of (ended 1 0 0 0 0 2 0 2 0xA0140080 0 0 2) (hex 12 0x1112131415161718191A1B1C) [])
  pub ad_0_lpe : single_repeat_read_24_other_0 (answer (Q + X + LPE) 0x345678)
      ≡ wants_none (state_of (ended 1 0 0 0 0 2 0 2 0xA0240080 0 0 2) (hex 12 0x1112131415161718191A1B1C) [])
  pub ad_0_kind_1 : single_repeat_read_24_other_0 (kind 1)
      ≡ wants_none (state_of (ended 1 0 0 0 0 2 0 2 0xB2000080 0 0 2) (hex 12 0x1112131415161718191A1B1C) [])
  pub ad_0_kind_2 : single_repeat_read_24_other_0 (kind 2)
      ≡ wants_none (state_of (ended 1 0 0 0 0 2 0 2 0xC0080080 0 0 2) (hex 12 0x1112131415161718191A1B1C) [])
  pub ad_0_kind_3 : single_repeat_read_24_other_0 (kind 3)
      ≡ wants_none (state_of (ended 1 0 0 0 0 2 0 2 0xD1000080 0 0 2) (hex 12 0x1112131415161718191A1B1C) [])
  pub ad_1_err : single_repeat_read_24_other_1 (answer (Q + X + ERR) 0x345678)
      ≡ wants_none (state_of (ended 3 0 0 0 0 12 0 2 0x00840080 0 4 4) (hex 12 0x11120000785634C0D4C3B2A1) [])
  pub ad_1_err_x_0 : single_repeat_read_24_other_1 (answer (Q + ERR) 0x345678)
      ≡ wants_none (state_of (ended 3 0 0 0 0 12 0 2 0x00860080 0 4 4) (hex 12 0x1112000078563480D4C3B2A1) [])
  pub ad_1_err_q_0 : single_repeat_read_24_other_1 (answer (X + ERR) 0x345678)
      ≡ wants (operation 9 5 3 2 0x000000 false) (state_of (waiting 1 1 1 5 3 2 0 2 0x00850000 0 0 2) (hex 12 0x1112131415161718191A1B1C) [])
  pub ad_1_derr : single_repeat_read_24_other_1 (answer (Q + X + DERR) 0x345678)
      ≡ wants_none (state_of (ended 3 0 0 0 0 12 0 2 0x04000080 0 4 4) (hex 12 0x11120000785634C0D4C3B2A1) [])
  pub ad_1_tpe : single_repeat_read_24_other_1 (answer (Q + X + TPE) 0x345678)
      ≡ wants_none (state_of (ended 3 0 0 0 0 12 0 2 0x00140080 0 4 4) (hex 12 0x11120000785634C0D4C3B2A1) [])
  pub ad_1_lpe : single_repeat_read_24_other_1 (answer (Q + X + LPE) 0x345678)
      ≡ wants_none (state_of (ended 3 0 0 0 0 12 0 2 0x00240080 0 4 4) (hex 12 0x11120000785634C0D4C3B2A1) [])
  pub ad_1_kind_1 : single_repeat_read_24_other_1 (kind 1)
      ≡ wants_none (state_of (ended 1 0 0 0 0 2 0 2 0xB2000080 0 0 2) (hex 12 0x1112131415161718191A1B1C) [])
  pub ad_1_kind_2 : single_repeat_read_24_other_1 (kind 2)
      ≡ wants_none (state_of (ended 1 0 0 0 0 2 0 2 0xC0080080 0 0 2) (hex 12 0x1112131415161718191A1B1C) [])
  pub ad_1_kind_3 : single_repeat_read_24_other_1 (kind 3)
      ≡ wants_none (state_of (ended 1 0 0 0 0 2 0 2 0xD1000080 0 0 2) (hex 12 0x1112131415161718191A1B1C) [])

-- single scan read 24 bits: ERR, DERR, TPE and LPE, and replies of the kinds 1 to 3, by AD
abbrev pub single_scan_read_24_other_0 : List ℕ → Called
single_scan_read_24_other_0 =
    step_of (first_field 2 ++ camac_4 0x02000102 ++ camac_4 0x2DC20918 ++ literal 0xA1B2C3D4 ++ halt)
    (state_of (waiting 1 1 0 22 14 2 0 1 0x00000000 0 0 2) (hex 12 0x1112131415161718191A1B1C) [])

abbrev pub single_scan_read_24_other_1 : List ℕ → Called
single_scan_read_24_other_1 =
    step_of (first_field 2 ++ camac_4 0x02000102 ++ camac_4 0x2DC20919 ++ literal 0xA1B2C3D4 ++ halt)
    (state_of (waiting 1 1 0 22 14 2 0 1 0x00000000 0 0 2) (hex 12 0x1112131415161718191A1B1C) [])

pub record SingleScanRead24Other : Type 0 where
  pub ad_0_err : single_scan_read_24_other_0 (answer (Q + X + ERR) 0x345678)
      ≡ wants_none (state_of (ended 1 0 0 0 0 2 0 2 0x40840080 0 0 2) (hex 12 0x1112131415161718191A1B1C) [])
  pub ad_0_err_x_0 : single_scan_read_24_other_0 (answer (Q + ERR) 0x345678)
      ≡ wants (operation 9 23 0 2 0x000000 false) (state_of (waiting 1 1 0 23 0 2 0 2 0x00860000 0 0 2) (hex 12 0x1112131415161718191A1B1C) [])
  pub ad_0_err_q_0 : single_scan_read_24_other_0 (answer (X + ERR) 0x345678)
      ≡ wants_none (state_of (ended 1 0 0 0 0 2 0 2 0x40850080 0 0 2) (hex 12 0x1112131415161718191A1B1C) [])
  pub ad_0_derr : single_scan_read_24_other_0 (answer (Q + X + DERR) 0x345678)
      ≡ wants_none (state_of (ended 3 0 0 0 0 12 0 2 0x04000080 0 4 4) (hex 12 0x11120000785634C0D4C3B2A1) [])
  pub ad_0_tpe : single_scan_read_24_other_0 (answer (Q + X + TPE) 0x345678)
      ≡ wants_none (state_of (ended 1 0 0 0 0 2 0 2 0xA0140080 0 0 2) (hex 12 0x1112131415161718191A1B1C) [])
  pub ad_0_lpe : single_scan_read_24_other_0 (answer (Q + X + LPE) 0x345678)
      ≡ wants_none (state_of (ended 1 0 0 0 0 2 0 2 0xA0240080 0 0 2) (hex 12 0x1112131415161718191A1B1C) [])
  pub ad_0_kind_1 : single_scan_read_24_other_0 (kind 1)
      ≡ wants_none (state_of (ended 1 0 0 0 0 2 0 2 0xB2000080 0 0 2) (hex 12 0x1112131415161718191A1B1C) [])
  pub ad_0_kind_2 : single_scan_read_24_other_0 (kind 2)
      ≡ wants_none (state_of (ended 1 0 0 0 0 2 0 2 0xC0080080 0 0 2) (hex 12 0x1112131415161718191A1B1C) [])
  pub ad_0_kind_3 : single_scan_read_24_other_0 (kind 3)
      ≡ wants_none (state_of (ended 1 0 0 0 0 2 0 2 0xD1000080 0 0 2) (hex 12 0x1112131415161718191A1B1C) [])
  pub ad_1_err : single_scan_read_24_other_1 (answer (Q + X + ERR) 0x345678)
      ≡ wants_none (state_of (ended 3 0 0 0 0 12 0 2 0x00840080 0 4 4) (hex 12 0x11120000785634C0D4C3B2A1) [])
  pub ad_1_err_x_0 : single_scan_read_24_other_1 (answer (Q + ERR) 0x345678)
      ≡ wants (operation 9 23 0 2 0x000000 false) (state_of (waiting 1 1 0 23 0 2 0 2 0x00860000 0 0 2) (hex 12 0x1112131415161718191A1B1C) [])
  pub ad_1_err_q_0 : single_scan_read_24_other_1 (answer (X + ERR) 0x345678)
      ≡ wants (operation 9 23 0 2 0x000000 false) (state_of (waiting 1 1 0 23 0 2 0 2 0x00850000 0 0 2) (hex 12 0x1112131415161718191A1B1C) [])
  pub ad_1_derr : single_scan_read_24_other_1 (answer (Q + X + DERR) 0x345678)
      ≡ wants_none (state_of (ended 3 0 0 0 0 12 0 2 0x04000080 0 4 4) (hex 12 0x11120000785634C0D4C3B2A1) [])
  pub ad_1_tpe : single_scan_read_24_other_1 (answer (Q + X + TPE) 0x345678)
      ≡ wants_none (state_of (ended 3 0 0 0 0 12 0 2 0x00140080 0 4 4) (hex 12 0x11120000785634C0D4C3B2A1) [])
  pub ad_1_lpe : single_scan_read_24_other_1 (answer (Q + X + LPE) 0x345678)
      ≡ wants_none (state_of (ended 3 0 0 0 0 12 0 2 0x00240080 0 4 4) (hex 12 0x11120000785634C0D4C3B2A1) [])
  pub ad_1_kind_1 : single_scan_read_24_other_1 (kind 1)
      ≡ wants_none (state_of (ended 1 0 0 0 0 2 0 2 0xB2000080 0 0 2) (hex 12 0x1112131415161718191A1B1C) [])
  pub ad_1_kind_2 : single_scan_read_24_other_1 (kind 2)
      ≡ wants_none (state_of (ended 1 0 0 0 0 2 0 2 0xC0080080 0 0 2) (hex 12 0x1112131415161718191A1B1C) [])
  pub ad_1_kind_3 : single_scan_read_24_other_1 (kind 3)
      ≡ wants_none (state_of (ended 1 0 0 0 0 2 0 2 0xD1000080 0 0 2) (hex 12 0x1112131415161718191A1B1C) [])

-- block stop read 24 bits: ERR, DERR, TPE and LPE, and replies of the kinds 1 to 3, by AD
abbrev pub block_stop_read_24_other_0 : List ℕ → Called
block_stop_read_24_other_0 =
    step_of (first_field 2 ++ camac_4 0x02000102 ++ camac_8 0x0A620920 0xFFFFFFFC ++ literal 0xA1B2C3D4 ++ halt)
    (state_of (waiting 1 2 0 5 3 2 0 1 0x00000000 0 0 2) (hex 16 0x1112131415161718191A1B1C1D1E1F20) [])

abbrev pub block_stop_read_24_other_1 : List ℕ → Called
block_stop_read_24_other_1 =
    step_of (first_field 2 ++ camac_4 0x02000102 ++ camac_8 0x0A620921 0xFFFFFFFC ++ literal 0xA1B2C3D4 ++ halt)
    (state_of (waiting 1 2 0 5 3 2 0 1 0x00000000 0 0 2) (hex 16 0x1112131415161718191A1B1C1D1E1F20) [])

pub record BlockStopRead24Other : Type 0 where
  pub ad_0_err : block_stop_read_24_other_0 (answer (Q + X + ERR) 0x345678)
      ≡ wants_none (state_of (ended 1 0 0 0 0 2 0 2 0x40840080 0 0 2) (hex 16 0x1112131415161718191A1B1C1D1E1F20) [])
  pub ad_0_err_x_0 : block_stop_read_24_other_0 (answer (Q + ERR) 0x345678)
      ≡ wants_none (state_of (ended 1 0 0 0 0 2 0 2 0x80860080 0 0 2) (hex 16 0x1112131415161718191A1B1C1D1E1F20) [])
  pub ad_0_err_q_0 : block_stop_read_24_other_0 (answer (X + ERR) 0x345678)
      ≡ wants_none (state_of (ended 1 0 0 0 0 2 0 2 0x40850080 0 0 2) (hex 16 0x1112131415161718191A1B1C1D1E1F20) [])
  pub ad_0_derr : block_stop_read_24_other_0 (answer (Q + X + DERR) 0x345678)
      ≡ wants (operation 9 5 3 2 0x000000 false) (state_of (waiting 1 1 0 5 3 8 0 2 0x04000000 0 4 4) (hex 16 0x11120000785634C0191A1B1C1D1E1F20) [])
  pub ad_0_tpe : block_stop_read_24_other_0 (answer (Q + X + TPE) 0x345678)
      ≡ wants_none (state_of (ended 1 0 0 0 0 2 0 2 0xA0140080 0 0 2) (hex 16 0x1112131415161718191A1B1C1D1E1F20) [])
  pub ad_0_lpe : block_stop_read_24_other_0 (answer (Q + X + LPE) 0x345678)
      ≡ wants_none (state_of (ended 1 0 0 0 0 2 0 2 0xA0240080 0 0 2) (hex 16 0x1112131415161718191A1B1C1D1E1F20) [])
  pub ad_0_kind_1 : block_stop_read_24_other_0 (kind 1)
      ≡ wants_none (state_of (ended 1 0 0 0 0 2 0 2 0xB2000080 0 0 2) (hex 16 0x1112131415161718191A1B1C1D1E1F20) [])
  pub ad_0_kind_2 : block_stop_read_24_other_0 (kind 2)
      ≡ wants_none (state_of (ended 1 0 0 0 0 2 0 2 0xC0080080 0 0 2) (hex 16 0x1112131415161718191A1B1C1D1E1F20) [])
  pub ad_0_kind_3 : block_stop_read_24_other_0 (kind 3)
      ≡ wants_none (state_of (ended 1 0 0 0 0 2 0 2 0xD1000080 0 0 2) (hex 16 0x1112131415161718191A1B1C1D1E1F20) [])
  pub ad_1_err : block_stop_read_24_other_1 (answer (Q + X + ERR) 0x345678)
      ≡ wants (operation 9 5 3 2 0x000000 false) (state_of (waiting 1 1 0 5 3 8 0 2 0x00840000 0 4 4) (hex 16 0x11120000785634C0191A1B1C1D1E1F20) [])
  pub ad_1_err_x_0 : block_stop_read_24_other_1 (answer (Q + ERR) 0x345678)
      ≡ wants (operation 9 5 3 2 0x000000 false) (state_of (waiting 1 1 0 5 3 8 0 2 0x00860000 0 4 4) (hex 16 0x1112000078563480191A1B1C1D1E1F20) [])
  pub ad_1_err_q_0 : block_stop_read_24_other_1 (answer (X + ERR) 0x345678)
      ≡ wants_none (state_of (ended 3 0 0 0 0 8 0 2 0x00850080 0 0 2) (hex 16 0x11120000D4C3B2A1191A1B1C1D1E1F20) [])
  pub ad_1_derr : block_stop_read_24_other_1 (answer (Q + X + DERR) 0x345678)
      ≡ wants (operation 9 5 3 2 0x000000 false) (state_of (waiting 1 1 0 5 3 8 0 2 0x04000000 0 4 4) (hex 16 0x11120000785634C0191A1B1C1D1E1F20) [])
  pub ad_1_tpe : block_stop_read_24_other_1 (answer (Q + X + TPE) 0x345678)
      ≡ wants (operation 9 5 3 2 0x000000 false) (state_of (waiting 1 1 0 5 3 8 0 2 0x00140000 0 4 4) (hex 16 0x11120000785634C0191A1B1C1D1E1F20) [])
  pub ad_1_lpe : block_stop_read_24_other_1 (answer (Q + X + LPE) 0x345678)
      ≡ wants (operation 9 5 3 2 0x000000 false) (state_of (waiting 1 1 0 5 3 8 0 2 0x00240000 0 4 4) (hex 16 0x11120000785634C0191A1B1C1D1E1F20) [])
  pub ad_1_kind_1 : block_stop_read_24_other_1 (kind 1)
      ≡ wants_none (state_of (ended 1 0 0 0 0 2 0 2 0xB2000080 0 0 2) (hex 16 0x1112131415161718191A1B1C1D1E1F20) [])
  pub ad_1_kind_2 : block_stop_read_24_other_1 (kind 2)
      ≡ wants_none (state_of (ended 1 0 0 0 0 2 0 2 0xC0080080 0 0 2) (hex 16 0x1112131415161718191A1B1C1D1E1F20) [])
  pub ad_1_kind_3 : block_stop_read_24_other_1 (kind 3)
      ≡ wants_none (state_of (ended 1 0 0 0 0 2 0 2 0xD1000080 0 0 2) (hex 16 0x1112131415161718191A1B1C1D1E1F20) [])

-- block ignore read 24 bits: ERR, DERR, TPE and LPE, and replies of the kinds 1 to 3, by AD
abbrev pub block_ignore_read_24_other_0 : List ℕ → Called
block_ignore_read_24_other_0 =
    step_of (first_field 2 ++ camac_4 0x02000102 ++ camac_8 0x0A620928 0xFFFFFFFC ++ literal 0xA1B2C3D4 ++ halt)
    (state_of (waiting 1 2 0 5 3 2 0 1 0x00000000 0 0 2) (hex 16 0x1112131415161718191A1B1C1D1E1F20) [])

abbrev pub block_ignore_read_24_other_1 : List ℕ → Called
block_ignore_read_24_other_1 =
    step_of (first_field 2 ++ camac_4 0x02000102 ++ camac_8 0x0A620929 0xFFFFFFFC ++ literal 0xA1B2C3D4 ++ halt)
    (state_of (waiting 1 2 0 5 3 2 0 1 0x00000000 0 0 2) (hex 16 0x1112131415161718191A1B1C1D1E1F20) [])

pub record BlockIgnoreRead24Other : Type 0 where
  pub ad_0_err : block_ignore_read_24_other_0 (answer (Q + X + ERR) 0x345678)
      ≡ wants_none (state_of (ended 1 0 0 0 0 2 0 2 0x40840080 0 0 2) (hex 16 0x1112131415161718191A1B1C1D1E1F20) [])
  pub ad_0_err_x_0 : block_ignore_read_24_other_0 (answer (Q + ERR) 0x345678)
      ≡ wants_none (state_of (ended 1 0 0 0 0 2 0 2 0x80860080 0 0 2) (hex 16 0x1112131415161718191A1B1C1D1E1F20) [])
  pub ad_0_err_q_0 : block_ignore_read_24_other_0 (answer (X + ERR) 0x345678)
      ≡ wants_none (state_of (ended 1 0 0 0 0 2 0 2 0x40850080 0 0 2) (hex 16 0x1112131415161718191A1B1C1D1E1F20) [])
  pub ad_0_derr : block_ignore_read_24_other_0 (answer (Q + X + DERR) 0x345678)
      ≡ wants (operation 9 5 3 2 0x000000 false) (state_of (waiting 1 1 0 5 3 8 0 2 0x04000000 0 4 4) (hex 16 0x11120000785634C0191A1B1C1D1E1F20) [])
  pub ad_0_tpe : block_ignore_read_24_other_0 (answer (Q + X + TPE) 0x345678)
      ≡ wants_none (state_of (ended 1 0 0 0 0 2 0 2 0xA0140080 0 0 2) (hex 16 0x1112131415161718191A1B1C1D1E1F20) [])
  pub ad_0_lpe : block_ignore_read_24_other_0 (answer (Q + X + LPE) 0x345678)
      ≡ wants_none (state_of (ended 1 0 0 0 0 2 0 2 0xA0240080 0 0 2) (hex 16 0x1112131415161718191A1B1C1D1E1F20) [])
  pub ad_0_kind_1 : block_ignore_read_24_other_0 (kind 1)
      ≡ wants_none (state_of (ended 1 0 0 0 0 2 0 2 0xB2000080 0 0 2) (hex 16 0x1112131415161718191A1B1C1D1E1F20) [])
  pub ad_0_kind_2 : block_ignore_read_24_other_0 (kind 2)
      ≡ wants_none (state_of (ended 1 0 0 0 0 2 0 2 0xC0080080 0 0 2) (hex 16 0x1112131415161718191A1B1C1D1E1F20) [])
  pub ad_0_kind_3 : block_ignore_read_24_other_0 (kind 3)
      ≡ wants_none (state_of (ended 1 0 0 0 0 2 0 2 0xD1000080 0 0 2) (hex 16 0x1112131415161718191A1B1C1D1E1F20) [])
  pub ad_1_err : block_ignore_read_24_other_1 (answer (Q + X + ERR) 0x345678)
      ≡ wants (operation 9 5 3 2 0x000000 false) (state_of (waiting 1 1 0 5 3 8 0 2 0x00840000 0 4 4) (hex 16 0x11120000785634C0191A1B1C1D1E1F20) [])
  pub ad_1_err_x_0 : block_ignore_read_24_other_1 (answer (Q + ERR) 0x345678)
      ≡ wants (operation 9 5 3 2 0x000000 false) (state_of (waiting 1 1 0 5 3 8 0 2 0x00860000 0 4 4) (hex 16 0x1112000078563480191A1B1C1D1E1F20) [])
  pub ad_1_err_q_0 : block_ignore_read_24_other_1 (answer (X + ERR) 0x345678)
      ≡ wants (operation 9 5 3 2 0x000000 false) (state_of (waiting 1 1 0 5 3 8 0 2 0x00850000 0 4 4) (hex 16 0x1112000078563440191A1B1C1D1E1F20) [])
  pub ad_1_derr : block_ignore_read_24_other_1 (answer (Q + X + DERR) 0x345678)
      ≡ wants (operation 9 5 3 2 0x000000 false) (state_of (waiting 1 1 0 5 3 8 0 2 0x04000000 0 4 4) (hex 16 0x11120000785634C0191A1B1C1D1E1F20) [])
  pub ad_1_tpe : block_ignore_read_24_other_1 (answer (Q + X + TPE) 0x345678)
      ≡ wants (operation 9 5 3 2 0x000000 false) (state_of (waiting 1 1 0 5 3 8 0 2 0x00140000 0 4 4) (hex 16 0x11120000785634C0191A1B1C1D1E1F20) [])
  pub ad_1_lpe : block_ignore_read_24_other_1 (answer (Q + X + LPE) 0x345678)
      ≡ wants (operation 9 5 3 2 0x000000 false) (state_of (waiting 1 1 0 5 3 8 0 2 0x00240000 0 4 4) (hex 16 0x11120000785634C0191A1B1C1D1E1F20) [])
  pub ad_1_kind_1 : block_ignore_read_24_other_1 (kind 1)
      ≡ wants_none (state_of (ended 1 0 0 0 0 2 0 2 0xB2000080 0 0 2) (hex 16 0x1112131415161718191A1B1C1D1E1F20) [])
  pub ad_1_kind_2 : block_ignore_read_24_other_1 (kind 2)
      ≡ wants_none (state_of (ended 1 0 0 0 0 2 0 2 0xC0080080 0 0 2) (hex 16 0x1112131415161718191A1B1C1D1E1F20) [])
  pub ad_1_kind_3 : block_ignore_read_24_other_1 (kind 3)
      ≡ wants_none (state_of (ended 1 0 0 0 0 2 0 2 0xD1000080 0 0 2) (hex 16 0x1112131415161718191A1B1C1D1E1F20) [])

-- block repeat read 24 bits: ERR, DERR, TPE and LPE, and replies of the kinds 1 to 3, by AD
abbrev pub block_repeat_read_24_other_0 : List ℕ → Called
block_repeat_read_24_other_0 =
    step_of (first_field 2 ++ camac_4 0x02000102 ++ camac_8 0x0A620930 0xFFFFFFFC ++ literal 0xA1B2C3D4 ++ halt)
    (state_of (waiting 1 2 0 5 3 2 0 1 0x00000000 0 0 2) (hex 16 0x1112131415161718191A1B1C1D1E1F20) [])

abbrev pub block_repeat_read_24_other_1 : List ℕ → Called
block_repeat_read_24_other_1 =
    step_of (first_field 2 ++ camac_4 0x02000102 ++ camac_8 0x0A620931 0xFFFFFFFC ++ literal 0xA1B2C3D4 ++ halt)
    (state_of (waiting 1 2 0 5 3 2 0 1 0x00000000 0 0 2) (hex 16 0x1112131415161718191A1B1C1D1E1F20) [])

pub record BlockRepeatRead24Other : Type 0 where
  pub ad_0_err : block_repeat_read_24_other_0 (answer (Q + X + ERR) 0x345678)
      ≡ wants_none (state_of (ended 1 0 0 0 0 2 0 2 0x40840080 0 0 2) (hex 16 0x1112131415161718191A1B1C1D1E1F20) [])
  pub ad_0_err_x_0 : block_repeat_read_24_other_0 (answer (Q + ERR) 0x345678)
      ≡ wants_none (state_of (ended 1 0 0 0 0 2 0 2 0x80860080 0 0 2) (hex 16 0x1112131415161718191A1B1C1D1E1F20) [])
  pub ad_0_err_q_0 : block_repeat_read_24_other_0 (answer (X + ERR) 0x345678)
      ≡ wants_none (state_of (ended 1 0 0 0 0 2 0 2 0x40850080 0 0 2) (hex 16 0x1112131415161718191A1B1C1D1E1F20) [])
  pub ad_0_derr : block_repeat_read_24_other_0 (answer (Q + X + DERR) 0x345678)
      ≡ wants (operation 9 5 3 2 0x000000 false) (state_of (waiting 1 1 0 5 3 8 0 2 0x04000000 0 4 4) (hex 16 0x11120000785634C0191A1B1C1D1E1F20) [])
  pub ad_0_tpe : block_repeat_read_24_other_0 (answer (Q + X + TPE) 0x345678)
      ≡ wants_none (state_of (ended 1 0 0 0 0 2 0 2 0xA0140080 0 0 2) (hex 16 0x1112131415161718191A1B1C1D1E1F20) [])
  pub ad_0_lpe : block_repeat_read_24_other_0 (answer (Q + X + LPE) 0x345678)
      ≡ wants_none (state_of (ended 1 0 0 0 0 2 0 2 0xA0240080 0 0 2) (hex 16 0x1112131415161718191A1B1C1D1E1F20) [])
  pub ad_0_kind_1 : block_repeat_read_24_other_0 (kind 1)
      ≡ wants_none (state_of (ended 1 0 0 0 0 2 0 2 0xB2000080 0 0 2) (hex 16 0x1112131415161718191A1B1C1D1E1F20) [])
  pub ad_0_kind_2 : block_repeat_read_24_other_0 (kind 2)
      ≡ wants_none (state_of (ended 1 0 0 0 0 2 0 2 0xC0080080 0 0 2) (hex 16 0x1112131415161718191A1B1C1D1E1F20) [])
  pub ad_0_kind_3 : block_repeat_read_24_other_0 (kind 3)
      ≡ wants_none (state_of (ended 1 0 0 0 0 2 0 2 0xD1000080 0 0 2) (hex 16 0x1112131415161718191A1B1C1D1E1F20) [])
  pub ad_1_err : block_repeat_read_24_other_1 (answer (Q + X + ERR) 0x345678)
      ≡ wants (operation 9 5 3 2 0x000000 false) (state_of (waiting 1 1 0 5 3 8 0 2 0x00840000 0 4 4) (hex 16 0x11120000785634C0191A1B1C1D1E1F20) [])
  pub ad_1_err_x_0 : block_repeat_read_24_other_1 (answer (Q + ERR) 0x345678)
      ≡ wants (operation 9 5 3 2 0x000000 false) (state_of (waiting 1 1 0 5 3 8 0 2 0x00860000 0 4 4) (hex 16 0x1112000078563480191A1B1C1D1E1F20) [])
  pub ad_1_err_q_0 : block_repeat_read_24_other_1 (answer (X + ERR) 0x345678)
      ≡ wants (operation 9 5 3 2 0x000000 false) (state_of (waiting 1 2 1 5 3 2 0 2 0x00850000 0 0 2) (hex 16 0x1112131415161718191A1B1C1D1E1F20) [])
  pub ad_1_derr : block_repeat_read_24_other_1 (answer (Q + X + DERR) 0x345678)
      ≡ wants (operation 9 5 3 2 0x000000 false) (state_of (waiting 1 1 0 5 3 8 0 2 0x04000000 0 4 4) (hex 16 0x11120000785634C0191A1B1C1D1E1F20) [])
  pub ad_1_tpe : block_repeat_read_24_other_1 (answer (Q + X + TPE) 0x345678)
      ≡ wants (operation 9 5 3 2 0x000000 false) (state_of (waiting 1 1 0 5 3 8 0 2 0x00140000 0 4 4) (hex 16 0x11120000785634C0191A1B1C1D1E1F20) [])
  pub ad_1_lpe : block_repeat_read_24_other_1 (answer (Q + X + LPE) 0x345678)
      ≡ wants (operation 9 5 3 2 0x000000 false) (state_of (waiting 1 1 0 5 3 8 0 2 0x00240000 0 4 4) (hex 16 0x11120000785634C0191A1B1C1D1E1F20) [])
  pub ad_1_kind_1 : block_repeat_read_24_other_1 (kind 1)
      ≡ wants_none (state_of (ended 1 0 0 0 0 2 0 2 0xB2000080 0 0 2) (hex 16 0x1112131415161718191A1B1C1D1E1F20) [])
  pub ad_1_kind_2 : block_repeat_read_24_other_1 (kind 2)
      ≡ wants_none (state_of (ended 1 0 0 0 0 2 0 2 0xC0080080 0 0 2) (hex 16 0x1112131415161718191A1B1C1D1E1F20) [])
  pub ad_1_kind_3 : block_repeat_read_24_other_1 (kind 3)
      ≡ wants_none (state_of (ended 1 0 0 0 0 2 0 2 0xD1000080 0 0 2) (hex 16 0x1112131415161718191A1B1C1D1E1F20) [])

-- block scan read 24 bits: ERR, DERR, TPE and LPE, and replies of the kinds 1 to 3, by AD
abbrev pub block_scan_read_24_other_0 : List ℕ → Called
block_scan_read_24_other_0 =
    step_of (first_field 2 ++ camac_4 0x02000102 ++ camac_8 0x2DC20938 0xFFFFFFFC ++ literal 0xA1B2C3D4 ++ halt)
    (state_of (waiting 1 2 0 22 14 2 0 1 0x00000000 0 0 2) (hex 16 0x1112131415161718191A1B1C1D1E1F20) [])

abbrev pub block_scan_read_24_other_1 : List ℕ → Called
block_scan_read_24_other_1 =
    step_of (first_field 2 ++ camac_4 0x02000102 ++ camac_8 0x2DC20939 0xFFFFFFFC ++ literal 0xA1B2C3D4 ++ halt)
    (state_of (waiting 1 2 0 22 14 2 0 1 0x00000000 0 0 2) (hex 16 0x1112131415161718191A1B1C1D1E1F20) [])

pub record BlockScanRead24Other : Type 0 where
  pub ad_0_err : block_scan_read_24_other_0 (answer (Q + X + ERR) 0x345678)
      ≡ wants_none (state_of (ended 1 0 0 0 0 2 0 2 0x40840080 0 0 2) (hex 16 0x1112131415161718191A1B1C1D1E1F20) [])
  pub ad_0_err_x_0 : block_scan_read_24_other_0 (answer (Q + ERR) 0x345678)
      ≡ wants (operation 9 23 0 2 0x000000 false) (state_of (waiting 1 2 0 23 0 2 0 2 0x00860000 0 0 2) (hex 16 0x1112131415161718191A1B1C1D1E1F20) [])
  pub ad_0_err_q_0 : block_scan_read_24_other_0 (answer (X + ERR) 0x345678)
      ≡ wants_none (state_of (ended 1 0 0 0 0 2 0 2 0x40850080 0 0 2) (hex 16 0x1112131415161718191A1B1C1D1E1F20) [])
  pub ad_0_derr : block_scan_read_24_other_0 (answer (Q + X + DERR) 0x345678)
      ≡ wants (operation 9 22 15 2 0x000000 false) (state_of (waiting 1 1 0 22 15 8 0 2 0x04000000 0 4 4) (hex 16 0x11120000785634C0191A1B1C1D1E1F20) [])
  pub ad_0_tpe : block_scan_read_24_other_0 (answer (Q + X + TPE) 0x345678)
      ≡ wants_none (state_of (ended 1 0 0 0 0 2 0 2 0xA0140080 0 0 2) (hex 16 0x1112131415161718191A1B1C1D1E1F20) [])
  pub ad_0_lpe : block_scan_read_24_other_0 (answer (Q + X + LPE) 0x345678)
      ≡ wants_none (state_of (ended 1 0 0 0 0 2 0 2 0xA0240080 0 0 2) (hex 16 0x1112131415161718191A1B1C1D1E1F20) [])
  pub ad_0_kind_1 : block_scan_read_24_other_0 (kind 1)
      ≡ wants_none (state_of (ended 1 0 0 0 0 2 0 2 0xB2000080 0 0 2) (hex 16 0x1112131415161718191A1B1C1D1E1F20) [])
  pub ad_0_kind_2 : block_scan_read_24_other_0 (kind 2)
      ≡ wants_none (state_of (ended 1 0 0 0 0 2 0 2 0xC0080080 0 0 2) (hex 16 0x1112131415161718191A1B1C1D1E1F20) [])
  pub ad_0_kind_3 : block_scan_read_24_other_0 (kind 3)
      ≡ wants_none (state_of (ended 1 0 0 0 0 2 0 2 0xD1000080 0 0 2) (hex 16 0x1112131415161718191A1B1C1D1E1F20) [])
  pub ad_1_err : block_scan_read_24_other_1 (answer (Q + X + ERR) 0x345678)
      ≡ wants (operation 9 22 15 2 0x000000 false) (state_of (waiting 1 1 0 22 15 8 0 2 0x00840000 0 4 4) (hex 16 0x11120000785634C0191A1B1C1D1E1F20) [])
  pub ad_1_err_x_0 : block_scan_read_24_other_1 (answer (Q + ERR) 0x345678)
      ≡ wants (operation 9 23 0 2 0x000000 false) (state_of (waiting 1 2 0 23 0 2 0 2 0x00860000 0 0 2) (hex 16 0x1112131415161718191A1B1C1D1E1F20) [])
  pub ad_1_err_q_0 : block_scan_read_24_other_1 (answer (X + ERR) 0x345678)
      ≡ wants (operation 9 23 0 2 0x000000 false) (state_of (waiting 1 2 0 23 0 2 0 2 0x00850000 0 0 2) (hex 16 0x1112131415161718191A1B1C1D1E1F20) [])
  pub ad_1_derr : block_scan_read_24_other_1 (answer (Q + X + DERR) 0x345678)
      ≡ wants (operation 9 22 15 2 0x000000 false) (state_of (waiting 1 1 0 22 15 8 0 2 0x04000000 0 4 4) (hex 16 0x11120000785634C0191A1B1C1D1E1F20) [])
  pub ad_1_tpe : block_scan_read_24_other_1 (answer (Q + X + TPE) 0x345678)
      ≡ wants (operation 9 22 15 2 0x000000 false) (state_of (waiting 1 1 0 22 15 8 0 2 0x00140000 0 4 4) (hex 16 0x11120000785634C0191A1B1C1D1E1F20) [])
  pub ad_1_lpe : block_scan_read_24_other_1 (answer (Q + X + LPE) 0x345678)
      ≡ wants (operation 9 22 15 2 0x000000 false) (state_of (waiting 1 1 0 22 15 8 0 2 0x00240000 0 4 4) (hex 16 0x11120000785634C0191A1B1C1D1E1F20) [])
  pub ad_1_kind_1 : block_scan_read_24_other_1 (kind 1)
      ≡ wants_none (state_of (ended 1 0 0 0 0 2 0 2 0xB2000080 0 0 2) (hex 16 0x1112131415161718191A1B1C1D1E1F20) [])
  pub ad_1_kind_2 : block_scan_read_24_other_1 (kind 2)
      ≡ wants_none (state_of (ended 1 0 0 0 0 2 0 2 0xC0080080 0 0 2) (hex 16 0x1112131415161718191A1B1C1D1E1F20) [])
  pub ad_1_kind_3 : block_scan_read_24_other_1 (kind 3)
      ≡ wants_none (state_of (ended 1 0 0 0 0 2 0 2 0xD1000080 0 0 2) (hex 16 0x1112131415161718191A1B1C1D1E1F20) [])

-- enhanced stop read 24 bits: ERR, DERR, TPE and LPE, and replies of the kinds 1 to 3, by AD
abbrev pub enhanced_stop_read_24_other_0 : List ℕ → Called
enhanced_stop_read_24_other_0 =
    step_of (first_field 2 ++ camac_4 0x02000102 ++ camac_8 0x0A620940 0xFFFFFFFC ++ literal 0xA1B2C3D4 ++ halt)
    (state_of (waiting 1 2 0 5 3 2 0 1 0x00000000 0 0 2) (hex 16 0x1112131415161718191A1B1C1D1E1F20) [])

abbrev pub enhanced_stop_read_24_other_1 : List ℕ → Called
enhanced_stop_read_24_other_1 =
    step_of (first_field 2 ++ camac_4 0x02000102 ++ camac_8 0x0A620941 0xFFFFFFFC ++ literal 0xA1B2C3D4 ++ halt)
    (state_of (waiting 1 2 0 5 3 2 0 1 0x00000000 0 0 2) (hex 16 0x1112131415161718191A1B1C1D1E1F20) [])

pub record EnhancedStopRead24Other : Type 0 where
  pub ad_0_err : enhanced_stop_read_24_other_0 (answer (Q + X + ERR) 0x345678)
      ≡ wants_none (state_of (ended 1 0 0 0 0 2 0 2 0x40840080 0 0 2) (hex 16 0x1112131415161718191A1B1C1D1E1F20) [])
  pub ad_0_err_x_0 : enhanced_stop_read_24_other_0 (answer (Q + ERR) 0x345678)
      ≡ wants_none (state_of (ended 1 0 0 0 0 2 0 2 0x80860080 0 0 2) (hex 16 0x1112131415161718191A1B1C1D1E1F20) [])
  pub ad_0_err_q_0 : enhanced_stop_read_24_other_0 (answer (X + ERR) 0x345678)
      ≡ wants_none (state_of (ended 1 0 0 0 0 2 0 2 0x40850080 0 0 2) (hex 16 0x1112131415161718191A1B1C1D1E1F20) [])
  pub ad_0_derr : enhanced_stop_read_24_other_0 (answer (Q + X + DERR) 0x345678)
      ≡ wants (operation 9 5 3 2 0x000000 true) (state_of (waiting 1 1 0 5 3 8 0 2 0x04000000 0 4 4) (hex 16 0x11120000785634C0191A1B1C1D1E1F20) [])
  pub ad_0_tpe : enhanced_stop_read_24_other_0 (answer (Q + X + TPE) 0x345678)
      ≡ wants_none (state_of (ended 1 0 0 0 0 2 0 2 0xA0140080 0 0 2) (hex 16 0x1112131415161718191A1B1C1D1E1F20) [])
  pub ad_0_lpe : enhanced_stop_read_24_other_0 (answer (Q + X + LPE) 0x345678)
      ≡ wants_none (state_of (ended 1 0 0 0 0 2 0 2 0xA0240080 0 0 2) (hex 16 0x1112131415161718191A1B1C1D1E1F20) [])
  pub ad_0_kind_1 : enhanced_stop_read_24_other_0 (kind 1)
      ≡ wants_none (state_of (ended 1 0 0 0 0 2 0 2 0xB2000080 0 0 2) (hex 16 0x1112131415161718191A1B1C1D1E1F20) [])
  pub ad_0_kind_2 : enhanced_stop_read_24_other_0 (kind 2)
      ≡ wants_none (state_of (ended 1 0 0 0 0 2 0 2 0xC0080080 0 0 2) (hex 16 0x1112131415161718191A1B1C1D1E1F20) [])
  pub ad_0_kind_3 : enhanced_stop_read_24_other_0 (kind 3)
      ≡ wants_none (state_of (ended 1 0 0 0 0 2 0 2 0xD1000080 0 0 2) (hex 16 0x1112131415161718191A1B1C1D1E1F20) [])
  pub ad_1_err : enhanced_stop_read_24_other_1 (answer (Q + X + ERR) 0x345678)
      ≡ wants (operation 9 5 3 2 0x000000 true) (state_of (waiting 1 1 0 5 3 8 0 2 0x00840000 0 4 4) (hex 16 0x11120000785634C0191A1B1C1D1E1F20) [])
  pub ad_1_err_x_0 : enhanced_stop_read_24_other_1 (answer (Q + ERR) 0x345678)
      ≡ wants (operation 9 5 3 2 0x000000 true) (state_of (waiting 1 1 0 5 3 8 0 2 0x00860000 0 4 4) (hex 16 0x1112000078563480191A1B1C1D1E1F20) [])
  pub ad_1_err_q_0 : enhanced_stop_read_24_other_1 (answer (X + ERR) 0x345678)
      ≡ wants_none (state_of (ended 3 0 0 0 0 8 0 2 0x00850080 0 0 2) (hex 16 0x11120000D4C3B2A1191A1B1C1D1E1F20) [])
  pub ad_1_derr : enhanced_stop_read_24_other_1 (answer (Q + X + DERR) 0x345678)
      ≡ wants (operation 9 5 3 2 0x000000 true) (state_of (waiting 1 1 0 5 3 8 0 2 0x04000000 0 4 4) (hex 16 0x11120000785634C0191A1B1C1D1E1F20) [])
  pub ad_1_tpe : enhanced_stop_read_24_other_1 (answer (Q + X + TPE) 0x345678)
      ≡ wants (operation 9 5 3 2 0x000000 true) (state_of (waiting 1 1 0 5 3 8 0 2 0x00140000 0 4 4) (hex 16 0x11120000785634C0191A1B1C1D1E1F20) [])
  pub ad_1_lpe : enhanced_stop_read_24_other_1 (answer (Q + X + LPE) 0x345678)
      ≡ wants (operation 9 5 3 2 0x000000 true) (state_of (waiting 1 1 0 5 3 8 0 2 0x00240000 0 4 4) (hex 16 0x11120000785634C0191A1B1C1D1E1F20) [])
  pub ad_1_kind_1 : enhanced_stop_read_24_other_1 (kind 1)
      ≡ wants_none (state_of (ended 1 0 0 0 0 2 0 2 0xB2000080 0 0 2) (hex 16 0x1112131415161718191A1B1C1D1E1F20) [])
  pub ad_1_kind_2 : enhanced_stop_read_24_other_1 (kind 2)
      ≡ wants_none (state_of (ended 1 0 0 0 0 2 0 2 0xC0080080 0 0 2) (hex 16 0x1112131415161718191A1B1C1D1E1F20) [])
  pub ad_1_kind_3 : enhanced_stop_read_24_other_1 (kind 3)
      ≡ wants_none (state_of (ended 1 0 0 0 0 2 0 2 0xD1000080 0 0 2) (hex 16 0x1112131415161718191A1B1C1D1E1F20) [])

-- enhanced ignore read 24 bits: ERR, DERR, TPE and LPE, and replies of the kinds 1 to 3, by AD
abbrev pub enhanced_ignore_read_24_other_0 : List ℕ → Called
enhanced_ignore_read_24_other_0 =
    step_of (first_field 2 ++ camac_4 0x02000102 ++ camac_8 0x0A620948 0xFFFFFFFC ++ literal 0xA1B2C3D4 ++ halt)
    (state_of (waiting 1 2 0 5 3 2 0 1 0x00000000 0 0 2) (hex 16 0x1112131415161718191A1B1C1D1E1F20) [])

abbrev pub enhanced_ignore_read_24_other_1 : List ℕ → Called
enhanced_ignore_read_24_other_1 =
    step_of (first_field 2 ++ camac_4 0x02000102 ++ camac_8 0x0A620949 0xFFFFFFFC ++ literal 0xA1B2C3D4 ++ halt)
    (state_of (waiting 1 2 0 5 3 2 0 1 0x00000000 0 0 2) (hex 16 0x1112131415161718191A1B1C1D1E1F20) [])

pub record EnhancedIgnoreRead24Other : Type 0 where
  pub ad_0_err : enhanced_ignore_read_24_other_0 (answer (Q + X + ERR) 0x345678)
      ≡ wants_none (state_of (ended 1 0 0 0 0 2 0 2 0x40840080 0 0 2) (hex 16 0x1112131415161718191A1B1C1D1E1F20) [])
  pub ad_0_err_x_0 : enhanced_ignore_read_24_other_0 (answer (Q + ERR) 0x345678)
      ≡ wants_none (state_of (ended 1 0 0 0 0 2 0 2 0x80860080 0 0 2) (hex 16 0x1112131415161718191A1B1C1D1E1F20) [])
  pub ad_0_err_q_0 : enhanced_ignore_read_24_other_0 (answer (X + ERR) 0x345678)
      ≡ wants_none (state_of (ended 1 0 0 0 0 2 0 2 0x40850080 0 0 2) (hex 16 0x1112131415161718191A1B1C1D1E1F20) [])
  pub ad_0_derr : enhanced_ignore_read_24_other_0 (answer (Q + X + DERR) 0x345678)
      ≡ wants (operation 9 5 3 2 0x000000 true) (state_of (waiting 1 1 0 5 3 8 0 2 0x04000000 0 4 4) (hex 16 0x11120000785634C0191A1B1C1D1E1F20) [])
  pub ad_0_tpe : enhanced_ignore_read_24_other_0 (answer (Q + X + TPE) 0x345678)
      ≡ wants_none (state_of (ended 1 0 0 0 0 2 0 2 0xA0140080 0 0 2) (hex 16 0x1112131415161718191A1B1C1D1E1F20) [])
  pub ad_0_lpe : enhanced_ignore_read_24_other_0 (answer (Q + X + LPE) 0x345678)
      ≡ wants_none (state_of (ended 1 0 0 0 0 2 0 2 0xA0240080 0 0 2) (hex 16 0x1112131415161718191A1B1C1D1E1F20) [])
  pub ad_0_kind_1 : enhanced_ignore_read_24_other_0 (kind 1)
      ≡ wants_none (state_of (ended 1 0 0 0 0 2 0 2 0xB2000080 0 0 2) (hex 16 0x1112131415161718191A1B1C1D1E1F20) [])
  pub ad_0_kind_2 : enhanced_ignore_read_24_other_0 (kind 2)
      ≡ wants_none (state_of (ended 1 0 0 0 0 2 0 2 0xC0080080 0 0 2) (hex 16 0x1112131415161718191A1B1C1D1E1F20) [])
  pub ad_0_kind_3 : enhanced_ignore_read_24_other_0 (kind 3)
      ≡ wants_none (state_of (ended 1 0 0 0 0 2 0 2 0xD1000080 0 0 2) (hex 16 0x1112131415161718191A1B1C1D1E1F20) [])
  pub ad_1_err : enhanced_ignore_read_24_other_1 (answer (Q + X + ERR) 0x345678)
      ≡ wants (operation 9 5 3 2 0x000000 true) (state_of (waiting 1 1 0 5 3 8 0 2 0x00840000 0 4 4) (hex 16 0x11120000785634C0191A1B1C1D1E1F20) [])
  pub ad_1_err_x_0 : enhanced_ignore_read_24_other_1 (answer (Q + ERR) 0x345678)
      ≡ wants (operation 9 5 3 2 0x000000 true) (state_of (waiting 1 1 0 5 3 8 0 2 0x00860000 0 4 4) (hex 16 0x1112000078563480191A1B1C1D1E1F20) [])
  pub ad_1_err_q_0 : enhanced_ignore_read_24_other_1 (answer (X + ERR) 0x345678)
      ≡ wants (operation 9 5 3 2 0x000000 true) (state_of (waiting 1 1 0 5 3 8 0 2 0x00850000 0 4 4) (hex 16 0x1112000078563440191A1B1C1D1E1F20) [])
  pub ad_1_derr : enhanced_ignore_read_24_other_1 (answer (Q + X + DERR) 0x345678)
      ≡ wants (operation 9 5 3 2 0x000000 true) (state_of (waiting 1 1 0 5 3 8 0 2 0x04000000 0 4 4) (hex 16 0x11120000785634C0191A1B1C1D1E1F20) [])
  pub ad_1_tpe : enhanced_ignore_read_24_other_1 (answer (Q + X + TPE) 0x345678)
      ≡ wants (operation 9 5 3 2 0x000000 true) (state_of (waiting 1 1 0 5 3 8 0 2 0x00140000 0 4 4) (hex 16 0x11120000785634C0191A1B1C1D1E1F20) [])
  pub ad_1_lpe : enhanced_ignore_read_24_other_1 (answer (Q + X + LPE) 0x345678)
      ≡ wants (operation 9 5 3 2 0x000000 true) (state_of (waiting 1 1 0 5 3 8 0 2 0x00240000 0 4 4) (hex 16 0x11120000785634C0191A1B1C1D1E1F20) [])
  pub ad_1_kind_1 : enhanced_ignore_read_24_other_1 (kind 1)
      ≡ wants_none (state_of (ended 1 0 0 0 0 2 0 2 0xB2000080 0 0 2) (hex 16 0x1112131415161718191A1B1C1D1E1F20) [])
  pub ad_1_kind_2 : enhanced_ignore_read_24_other_1 (kind 2)
      ≡ wants_none (state_of (ended 1 0 0 0 0 2 0 2 0xC0080080 0 0 2) (hex 16 0x1112131415161718191A1B1C1D1E1F20) [])
  pub ad_1_kind_3 : enhanced_ignore_read_24_other_1 (kind 3)
      ≡ wants_none (state_of (ended 1 0 0 0 0 2 0 2 0xD1000080 0 0 2) (hex 16 0x1112131415161718191A1B1C1D1E1F20) [])

-- enhanced repeat read 24 bits: ERR, DERR, TPE and LPE, and replies of the kinds 1 to 3, by AD
abbrev pub enhanced_repeat_read_24_other_0 : List ℕ → Called
enhanced_repeat_read_24_other_0 =
    step_of (first_field 2 ++ camac_4 0x02000102 ++ camac_8 0x0A620950 0xFFFFFFFC ++ literal 0xA1B2C3D4 ++ halt)
    (state_of (waiting 1 2 0 5 3 2 0 1 0x00000000 0 0 2) (hex 16 0x1112131415161718191A1B1C1D1E1F20) [])

abbrev pub enhanced_repeat_read_24_other_1 : List ℕ → Called
enhanced_repeat_read_24_other_1 =
    step_of (first_field 2 ++ camac_4 0x02000102 ++ camac_8 0x0A620951 0xFFFFFFFC ++ literal 0xA1B2C3D4 ++ halt)
    (state_of (waiting 1 2 0 5 3 2 0 1 0x00000000 0 0 2) (hex 16 0x1112131415161718191A1B1C1D1E1F20) [])

pub record EnhancedRepeatRead24Other : Type 0 where
  pub ad_0_err : enhanced_repeat_read_24_other_0 (answer (Q + X + ERR) 0x345678)
      ≡ wants_none (state_of (ended 1 0 0 0 0 2 0 2 0x40840080 0 0 2) (hex 16 0x1112131415161718191A1B1C1D1E1F20) [])
  pub ad_0_err_x_0 : enhanced_repeat_read_24_other_0 (answer (Q + ERR) 0x345678)
      ≡ wants_none (state_of (ended 1 0 0 0 0 2 0 2 0x80860080 0 0 2) (hex 16 0x1112131415161718191A1B1C1D1E1F20) [])
  pub ad_0_err_q_0 : enhanced_repeat_read_24_other_0 (answer (X + ERR) 0x345678)
      ≡ wants_none (state_of (ended 1 0 0 0 0 2 0 2 0x40850080 0 0 2) (hex 16 0x1112131415161718191A1B1C1D1E1F20) [])
  pub ad_0_derr : enhanced_repeat_read_24_other_0 (answer (Q + X + DERR) 0x345678)
      ≡ wants (operation 9 5 3 2 0x000000 true) (state_of (waiting 1 1 0 5 3 8 0 2 0x04000000 0 4 4) (hex 16 0x11120000785634C0191A1B1C1D1E1F20) [])
  pub ad_0_tpe : enhanced_repeat_read_24_other_0 (answer (Q + X + TPE) 0x345678)
      ≡ wants_none (state_of (ended 1 0 0 0 0 2 0 2 0xA0140080 0 0 2) (hex 16 0x1112131415161718191A1B1C1D1E1F20) [])
  pub ad_0_lpe : enhanced_repeat_read_24_other_0 (answer (Q + X + LPE) 0x345678)
      ≡ wants_none (state_of (ended 1 0 0 0 0 2 0 2 0xA0240080 0 0 2) (hex 16 0x1112131415161718191A1B1C1D1E1F20) [])
  pub ad_0_kind_1 : enhanced_repeat_read_24_other_0 (kind 1)
      ≡ wants_none (state_of (ended 1 0 0 0 0 2 0 2 0xB2000080 0 0 2) (hex 16 0x1112131415161718191A1B1C1D1E1F20) [])
  pub ad_0_kind_2 : enhanced_repeat_read_24_other_0 (kind 2)
      ≡ wants_none (state_of (ended 1 0 0 0 0 2 0 2 0xC0080080 0 0 2) (hex 16 0x1112131415161718191A1B1C1D1E1F20) [])
  pub ad_0_kind_3 : enhanced_repeat_read_24_other_0 (kind 3)
      ≡ wants_none (state_of (ended 1 0 0 0 0 2 0 2 0xD1000080 0 0 2) (hex 16 0x1112131415161718191A1B1C1D1E1F20) [])
  pub ad_1_err : enhanced_repeat_read_24_other_1 (answer (Q + X + ERR) 0x345678)
      ≡ wants (operation 9 5 3 2 0x000000 true) (state_of (waiting 1 1 0 5 3 8 0 2 0x00840000 0 4 4) (hex 16 0x11120000785634C0191A1B1C1D1E1F20) [])
  pub ad_1_err_x_0 : enhanced_repeat_read_24_other_1 (answer (Q + ERR) 0x345678)
      ≡ wants (operation 9 5 3 2 0x000000 true) (state_of (waiting 1 1 0 5 3 8 0 2 0x00860000 0 4 4) (hex 16 0x1112000078563480191A1B1C1D1E1F20) [])
  pub ad_1_err_q_0 : enhanced_repeat_read_24_other_1 (answer (X + ERR) 0x345678)
      ≡ wants (operation 9 5 3 2 0x000000 true) (state_of (waiting 1 2 1 5 3 2 0 2 0x00850000 0 0 2) (hex 16 0x1112131415161718191A1B1C1D1E1F20) [])
  pub ad_1_derr : enhanced_repeat_read_24_other_1 (answer (Q + X + DERR) 0x345678)
      ≡ wants (operation 9 5 3 2 0x000000 true) (state_of (waiting 1 1 0 5 3 8 0 2 0x04000000 0 4 4) (hex 16 0x11120000785634C0191A1B1C1D1E1F20) [])
  pub ad_1_tpe : enhanced_repeat_read_24_other_1 (answer (Q + X + TPE) 0x345678)
      ≡ wants (operation 9 5 3 2 0x000000 true) (state_of (waiting 1 1 0 5 3 8 0 2 0x00140000 0 4 4) (hex 16 0x11120000785634C0191A1B1C1D1E1F20) [])
  pub ad_1_lpe : enhanced_repeat_read_24_other_1 (answer (Q + X + LPE) 0x345678)
      ≡ wants (operation 9 5 3 2 0x000000 true) (state_of (waiting 1 1 0 5 3 8 0 2 0x00240000 0 4 4) (hex 16 0x11120000785634C0191A1B1C1D1E1F20) [])
  pub ad_1_kind_1 : enhanced_repeat_read_24_other_1 (kind 1)
      ≡ wants_none (state_of (ended 1 0 0 0 0 2 0 2 0xB2000080 0 0 2) (hex 16 0x1112131415161718191A1B1C1D1E1F20) [])
  pub ad_1_kind_2 : enhanced_repeat_read_24_other_1 (kind 2)
      ≡ wants_none (state_of (ended 1 0 0 0 0 2 0 2 0xC0080080 0 0 2) (hex 16 0x1112131415161718191A1B1C1D1E1F20) [])
  pub ad_1_kind_3 : enhanced_repeat_read_24_other_1 (kind 3)
      ≡ wants_none (state_of (ended 1 0 0 0 0 2 0 2 0xD1000080 0 0 2) (hex 16 0x1112131415161718191A1B1C1D1E1F20) [])

-- sequencer read 24 bits: ERR, DERR, TPE and LPE, and replies of the kinds 1 to 3, by AD
abbrev pub sequencer_read_24_other_0 : List ℕ → Called
sequencer_read_24_other_0 =
    step_of (first_field 2 ++ camac_4 0x02000102 ++ camac_8 0x3C2C0958 0xFFFFFFFC ++ literal 0xA1B2C3D4 ++ halt)
    (state_of (waiting 1 2 0 30 1 2 0 1 0x00000000 0 0 2) (hex 16 0x1112131415161718191A1B1C1D1E1F20) [])

abbrev pub sequencer_read_24_other_1 : List ℕ → Called
sequencer_read_24_other_1 =
    step_of (first_field 2 ++ camac_4 0x02000102 ++ camac_8 0x3C2C0959 0xFFFFFFFC ++ literal 0xA1B2C3D4 ++ halt)
    (state_of (waiting 1 2 0 30 1 2 0 1 0x00000000 0 0 2) (hex 16 0x1112131415161718191A1B1C1D1E1F20) [])

pub record SequencerRead24Other : Type 0 where
  pub ad_0_err : sequencer_read_24_other_0 (answer (Q + X + ERR) 0x345678)
      ≡ wants_none (state_of (ended 1 0 0 0 0 2 0 2 0x40840080 0 0 2) (hex 16 0x1112131415161718191A1B1C1D1E1F20) [])
  pub ad_0_err_x_0 : sequencer_read_24_other_0 (answer (Q + ERR) 0x345678)
      ≡ wants_none (state_of (ended 1 0 0 0 0 2 0 2 0x80860080 0 0 2) (hex 16 0x1112131415161718191A1B1C1D1E1F20) [])
  pub ad_0_err_q_0 : sequencer_read_24_other_0 (answer (X + ERR) 0x345678)
      ≡ wants_none (state_of (ended 1 0 0 0 0 2 0 2 0x40850080 0 0 2) (hex 16 0x1112131415161718191A1B1C1D1E1F20) [])
  pub ad_0_derr : sequencer_read_24_other_0 (answer (Q + X + DERR) 0x345678)
      ≡ wants (operation 9 30 1 12 0x000000 true) (state_of (waiting 1 1 0 30 1 8 0 2 0x04000000 0 4 4) (hex 16 0x11120000785634C0191A1B1C1D1E1F20) [])
  pub ad_0_tpe : sequencer_read_24_other_0 (answer (Q + X + TPE) 0x345678)
      ≡ wants_none (state_of (ended 1 0 0 0 0 2 0 2 0xA0140080 0 0 2) (hex 16 0x1112131415161718191A1B1C1D1E1F20) [])
  pub ad_0_lpe : sequencer_read_24_other_0 (answer (Q + X + LPE) 0x345678)
      ≡ wants_none (state_of (ended 1 0 0 0 0 2 0 2 0xA0240080 0 0 2) (hex 16 0x1112131415161718191A1B1C1D1E1F20) [])
  pub ad_0_kind_1 : sequencer_read_24_other_0 (kind 1)
      ≡ wants_none (state_of (ended 1 0 0 0 0 2 0 2 0xB2000080 0 0 2) (hex 16 0x1112131415161718191A1B1C1D1E1F20) [])
  pub ad_0_kind_2 : sequencer_read_24_other_0 (kind 2)
      ≡ wants_none (state_of (ended 1 0 0 0 0 2 0 2 0xC0080080 0 0 2) (hex 16 0x1112131415161718191A1B1C1D1E1F20) [])
  pub ad_0_kind_3 : sequencer_read_24_other_0 (kind 3)
      ≡ wants_none (state_of (ended 1 0 0 0 0 2 0 2 0xD1000080 0 0 2) (hex 16 0x1112131415161718191A1B1C1D1E1F20) [])
  pub ad_1_err : sequencer_read_24_other_1 (answer (Q + X + ERR) 0x345678)
      ≡ wants (operation 9 30 1 12 0x000000 true) (state_of (waiting 1 1 0 30 1 8 0 2 0x00840000 0 4 4) (hex 16 0x11120000785634C0191A1B1C1D1E1F20) [])
  pub ad_1_err_x_0 : sequencer_read_24_other_1 (answer (Q + ERR) 0x345678)
      ≡ wants (operation 9 30 1 12 0x000000 true) (state_of (waiting 1 1 0 30 1 8 0 2 0x00860000 0 4 4) (hex 16 0x1112000078563480191A1B1C1D1E1F20) [])
  pub ad_1_err_q_0 : sequencer_read_24_other_1 (answer (X + ERR) 0x345678)
      ≡ wants (operation 9 30 1 12 0x000000 true) (state_of (waiting 1 1 0 30 1 8 0 2 0x00850000 0 4 4) (hex 16 0x1112000078563440191A1B1C1D1E1F20) [])
  pub ad_1_derr : sequencer_read_24_other_1 (answer (Q + X + DERR) 0x345678)
      ≡ wants (operation 9 30 1 12 0x000000 true) (state_of (waiting 1 1 0 30 1 8 0 2 0x04000000 0 4 4) (hex 16 0x11120000785634C0191A1B1C1D1E1F20) [])
  pub ad_1_tpe : sequencer_read_24_other_1 (answer (Q + X + TPE) 0x345678)
      ≡ wants (operation 9 30 1 12 0x000000 true) (state_of (waiting 1 1 0 30 1 8 0 2 0x00140000 0 4 4) (hex 16 0x11120000785634C0191A1B1C1D1E1F20) [])
  pub ad_1_lpe : sequencer_read_24_other_1 (answer (Q + X + LPE) 0x345678)
      ≡ wants (operation 9 30 1 12 0x000000 true) (state_of (waiting 1 1 0 30 1 8 0 2 0x00240000 0 4 4) (hex 16 0x11120000785634C0191A1B1C1D1E1F20) [])
  pub ad_1_kind_1 : sequencer_read_24_other_1 (kind 1)
      ≡ wants_none (state_of (ended 1 0 0 0 0 2 0 2 0xB2000080 0 0 2) (hex 16 0x1112131415161718191A1B1C1D1E1F20) [])
  pub ad_1_kind_2 : sequencer_read_24_other_1 (kind 2)
      ≡ wants_none (state_of (ended 1 0 0 0 0 2 0 2 0xC0080080 0 0 2) (hex 16 0x1112131415161718191A1B1C1D1E1F20) [])
  pub ad_1_kind_3 : sequencer_read_24_other_1 (kind 3)
      ≡ wants_none (state_of (ended 1 0 0 0 0 2 0 2 0xD1000080 0 0 2) (hex 16 0x1112131415161718191A1B1C1D1E1F20) [])

-- inline stop 24 bits: ERR, DERR, TPE and LPE, and replies of the kinds 1 to 3, by AD
abbrev pub inline_stop_24_other_0 : List ℕ → Called
inline_stop_24_other_0 =
    step_of (first_field 2 ++ camac_4 0x02000102 ++ camac_8 0x0A710960 0x00ABCDEF ++ literal 0xA1B2C3D4 ++ halt)
    (state_of (waiting 1 1 0 5 3 2 0 1 0x00000000 0 0 2) (hex 8 0x1112131415161718) [])

abbrev pub inline_stop_24_other_1 : List ℕ → Called
inline_stop_24_other_1 =
    step_of (first_field 2 ++ camac_4 0x02000102 ++ camac_8 0x0A710961 0x00ABCDEF ++ literal 0xA1B2C3D4 ++ halt)
    (state_of (waiting 1 1 0 5 3 2 0 1 0x00000000 0 0 2) (hex 8 0x1112131415161718) [])

pub record InlineStop24Other : Type 0 where
  pub ad_0_err : inline_stop_24_other_0 (answer (Q + X + ERR) 0x345678)
      ≡ wants_none (state_of (ended 1 0 0 0 0 2 0 2 0x40840080 0 0 2) (hex 8 0x1112131415161718) [])
  pub ad_0_err_x_0 : inline_stop_24_other_0 (answer (Q + ERR) 0x345678)
      ≡ wants_none (state_of (ended 1 0 0 0 0 2 0 2 0x80860080 0 0 2) (hex 8 0x1112131415161718) [])
  pub ad_0_err_q_0 : inline_stop_24_other_0 (answer (X + ERR) 0x345678)
      ≡ wants_none (state_of (ended 1 0 0 0 0 2 0 2 0x70850080 0 0 2) (hex 8 0x1112131415161718) [])
  pub ad_0_derr : inline_stop_24_other_0 (answer (Q + X + DERR) 0x345678)
      ≡ wants_none (state_of (ended 3 0 0 0 0 8 0 2 0x04000080 0 0 2) (hex 8 0x11120000D4C3B2A1) [])
  pub ad_0_tpe : inline_stop_24_other_0 (answer (Q + X + TPE) 0x345678)
      ≡ wants_none (state_of (ended 1 0 0 0 0 2 0 2 0xA0140080 0 0 2) (hex 8 0x1112131415161718) [])
  pub ad_0_lpe : inline_stop_24_other_0 (answer (Q + X + LPE) 0x345678)
      ≡ wants_none (state_of (ended 1 0 0 0 0 2 0 2 0xA0240080 0 0 2) (hex 8 0x1112131415161718) [])
  pub ad_0_kind_1 : inline_stop_24_other_0 (kind 1) ≡ wants_none (state_of (ended 1 0 0 0 0 2 0 2 0xB2000080 0 0 2) (hex 8 0x1112131415161718) [])
  pub ad_0_kind_2 : inline_stop_24_other_0 (kind 2) ≡ wants_none (state_of (ended 1 0 0 0 0 2 0 2 0xC0080080 0 0 2) (hex 8 0x1112131415161718) [])
  pub ad_0_kind_3 : inline_stop_24_other_0 (kind 3) ≡ wants_none (state_of (ended 1 0 0 0 0 2 0 2 0xD1000080 0 0 2) (hex 8 0x1112131415161718) [])
  pub ad_1_err : inline_stop_24_other_1 (answer (Q + X + ERR) 0x345678)
      ≡ wants_none (state_of (ended 3 0 0 0 0 8 0 2 0x00840080 0 0 2) (hex 8 0x11120000D4C3B2A1) [])
  pub ad_1_err_x_0 : inline_stop_24_other_1 (answer (Q + ERR) 0x345678)
      ≡ wants_none (state_of (ended 3 0 0 0 0 8 0 2 0x00860080 0 0 2) (hex 8 0x11120000D4C3B2A1) [])
  pub ad_1_err_q_0 : inline_stop_24_other_1 (answer (X + ERR) 0x345678)
      ≡ wants_none (state_of (ended 1 0 0 0 0 2 0 2 0x70850080 0 0 2) (hex 8 0x1112131415161718) [])
  pub ad_1_derr : inline_stop_24_other_1 (answer (Q + X + DERR) 0x345678)
      ≡ wants_none (state_of (ended 3 0 0 0 0 8 0 2 0x04000080 0 0 2) (hex 8 0x11120000D4C3B2A1) [])
  pub ad_1_tpe : inline_stop_24_other_1 (answer (Q + X + TPE) 0x345678)
      ≡ wants_none (state_of (ended 3 0 0 0 0 8 0 2 0x00140080 0 0 2) (hex 8 0x11120000D4C3B2A1) [])
  pub ad_1_lpe : inline_stop_24_other_1 (answer (Q + X + LPE) 0x345678)
      ≡ wants_none (state_of (ended 3 0 0 0 0 8 0 2 0x00240080 0 0 2) (hex 8 0x11120000D4C3B2A1) [])
  pub ad_1_kind_1 : inline_stop_24_other_1 (kind 1) ≡ wants_none (state_of (ended 1 0 0 0 0 2 0 2 0xB2000080 0 0 2) (hex 8 0x1112131415161718) [])
  pub ad_1_kind_2 : inline_stop_24_other_1 (kind 2) ≡ wants_none (state_of (ended 1 0 0 0 0 2 0 2 0xC0080080 0 0 2) (hex 8 0x1112131415161718) [])
  pub ad_1_kind_3 : inline_stop_24_other_1 (kind 3) ≡ wants_none (state_of (ended 1 0 0 0 0 2 0 2 0xD1000080 0 0 2) (hex 8 0x1112131415161718) [])

-- inline ignore 24 bits: ERR, DERR, TPE and LPE, and replies of the kinds 1 to 3, by AD
abbrev pub inline_ignore_24_other_0 : List ℕ → Called
inline_ignore_24_other_0 =
    step_of (first_field 2 ++ camac_4 0x02000102 ++ camac_8 0x0A710968 0x00ABCDEF ++ literal 0xA1B2C3D4 ++ halt)
    (state_of (waiting 1 1 0 5 3 2 0 1 0x00000000 0 0 2) (hex 8 0x1112131415161718) [])

abbrev pub inline_ignore_24_other_1 : List ℕ → Called
inline_ignore_24_other_1 =
    step_of (first_field 2 ++ camac_4 0x02000102 ++ camac_8 0x0A710969 0x00ABCDEF ++ literal 0xA1B2C3D4 ++ halt)
    (state_of (waiting 1 1 0 5 3 2 0 1 0x00000000 0 0 2) (hex 8 0x1112131415161718) [])

pub record InlineIgnore24Other : Type 0 where
  pub ad_0_err : inline_ignore_24_other_0 (answer (Q + X + ERR) 0x345678)
      ≡ wants_none (state_of (ended 1 0 0 0 0 2 0 2 0x40840080 0 0 2) (hex 8 0x1112131415161718) [])
  pub ad_0_err_x_0 : inline_ignore_24_other_0 (answer (Q + ERR) 0x345678)
      ≡ wants_none (state_of (ended 1 0 0 0 0 2 0 2 0x80860080 0 0 2) (hex 8 0x1112131415161718) [])
  pub ad_0_err_q_0 : inline_ignore_24_other_0 (answer (X + ERR) 0x345678)
      ≡ wants_none (state_of (ended 1 0 0 0 0 2 0 2 0x40850080 0 0 2) (hex 8 0x1112131415161718) [])
  pub ad_0_derr : inline_ignore_24_other_0 (answer (Q + X + DERR) 0x345678)
      ≡ wants_none (state_of (ended 3 0 0 0 0 8 0 2 0x04000080 0 0 2) (hex 8 0x11120000D4C3B2A1) [])
  pub ad_0_tpe : inline_ignore_24_other_0 (answer (Q + X + TPE) 0x345678)
      ≡ wants_none (state_of (ended 1 0 0 0 0 2 0 2 0xA0140080 0 0 2) (hex 8 0x1112131415161718) [])
  pub ad_0_lpe : inline_ignore_24_other_0 (answer (Q + X + LPE) 0x345678)
      ≡ wants_none (state_of (ended 1 0 0 0 0 2 0 2 0xA0240080 0 0 2) (hex 8 0x1112131415161718) [])
  pub ad_0_kind_1 : inline_ignore_24_other_0 (kind 1) ≡ wants_none (state_of (ended 1 0 0 0 0 2 0 2 0xB2000080 0 0 2) (hex 8 0x1112131415161718) [])
  pub ad_0_kind_2 : inline_ignore_24_other_0 (kind 2) ≡ wants_none (state_of (ended 1 0 0 0 0 2 0 2 0xC0080080 0 0 2) (hex 8 0x1112131415161718) [])
  pub ad_0_kind_3 : inline_ignore_24_other_0 (kind 3) ≡ wants_none (state_of (ended 1 0 0 0 0 2 0 2 0xD1000080 0 0 2) (hex 8 0x1112131415161718) [])
  pub ad_1_err : inline_ignore_24_other_1 (answer (Q + X + ERR) 0x345678)
      ≡ wants_none (state_of (ended 3 0 0 0 0 8 0 2 0x00840080 0 0 2) (hex 8 0x11120000D4C3B2A1) [])
  pub ad_1_err_x_0 : inline_ignore_24_other_1 (answer (Q + ERR) 0x345678)
      ≡ wants_none (state_of (ended 3 0 0 0 0 8 0 2 0x00860080 0 0 2) (hex 8 0x11120000D4C3B2A1) [])
  pub ad_1_err_q_0 : inline_ignore_24_other_1 (answer (X + ERR) 0x345678)
      ≡ wants_none (state_of (ended 3 0 0 0 0 8 0 2 0x00850080 0 0 2) (hex 8 0x11120000D4C3B2A1) [])
  pub ad_1_derr : inline_ignore_24_other_1 (answer (Q + X + DERR) 0x345678)
      ≡ wants_none (state_of (ended 3 0 0 0 0 8 0 2 0x04000080 0 0 2) (hex 8 0x11120000D4C3B2A1) [])
  pub ad_1_tpe : inline_ignore_24_other_1 (answer (Q + X + TPE) 0x345678)
      ≡ wants_none (state_of (ended 3 0 0 0 0 8 0 2 0x00140080 0 0 2) (hex 8 0x11120000D4C3B2A1) [])
  pub ad_1_lpe : inline_ignore_24_other_1 (answer (Q + X + LPE) 0x345678)
      ≡ wants_none (state_of (ended 3 0 0 0 0 8 0 2 0x00240080 0 0 2) (hex 8 0x11120000D4C3B2A1) [])
  pub ad_1_kind_1 : inline_ignore_24_other_1 (kind 1) ≡ wants_none (state_of (ended 1 0 0 0 0 2 0 2 0xB2000080 0 0 2) (hex 8 0x1112131415161718) [])
  pub ad_1_kind_2 : inline_ignore_24_other_1 (kind 2) ≡ wants_none (state_of (ended 1 0 0 0 0 2 0 2 0xC0080080 0 0 2) (hex 8 0x1112131415161718) [])
  pub ad_1_kind_3 : inline_ignore_24_other_1 (kind 3) ≡ wants_none (state_of (ended 1 0 0 0 0 2 0 2 0xD1000080 0 0 2) (hex 8 0x1112131415161718) [])

-- inline repeat 24 bits: ERR, DERR, TPE and LPE, and replies of the kinds 1 to 3, by AD
abbrev pub inline_repeat_24_other_0 : List ℕ → Called
inline_repeat_24_other_0 =
    step_of (first_field 2 ++ camac_4 0x02000102 ++ camac_8 0x0A710970 0x00ABCDEF ++ literal 0xA1B2C3D4 ++ halt)
    (state_of (waiting 1 1 0 5 3 2 0 1 0x00000000 0 0 2) (hex 8 0x1112131415161718) [])

abbrev pub inline_repeat_24_other_1 : List ℕ → Called
inline_repeat_24_other_1 =
    step_of (first_field 2 ++ camac_4 0x02000102 ++ camac_8 0x0A710971 0x00ABCDEF ++ literal 0xA1B2C3D4 ++ halt)
    (state_of (waiting 1 1 0 5 3 2 0 1 0x00000000 0 0 2) (hex 8 0x1112131415161718) [])

pub record InlineRepeat24Other : Type 0 where
  pub ad_0_err : inline_repeat_24_other_0 (answer (Q + X + ERR) 0x345678)
      ≡ wants_none (state_of (ended 1 0 0 0 0 2 0 2 0x40840080 0 0 2) (hex 8 0x1112131415161718) [])
  pub ad_0_err_x_0 : inline_repeat_24_other_0 (answer (Q + ERR) 0x345678)
      ≡ wants_none (state_of (ended 1 0 0 0 0 2 0 2 0x80860080 0 0 2) (hex 8 0x1112131415161718) [])
  pub ad_0_err_q_0 : inline_repeat_24_other_0 (answer (X + ERR) 0x345678)
      ≡ wants_none (state_of (ended 1 0 0 0 0 2 0 2 0x40850080 0 0 2) (hex 8 0x1112131415161718) [])
  pub ad_0_derr : inline_repeat_24_other_0 (answer (Q + X + DERR) 0x345678)
      ≡ wants_none (state_of (ended 3 0 0 0 0 8 0 2 0x04000080 0 0 2) (hex 8 0x11120000D4C3B2A1) [])
  pub ad_0_tpe : inline_repeat_24_other_0 (answer (Q + X + TPE) 0x345678)
      ≡ wants_none (state_of (ended 1 0 0 0 0 2 0 2 0xA0140080 0 0 2) (hex 8 0x1112131415161718) [])
  pub ad_0_lpe : inline_repeat_24_other_0 (answer (Q + X + LPE) 0x345678)
      ≡ wants_none (state_of (ended 1 0 0 0 0 2 0 2 0xA0240080 0 0 2) (hex 8 0x1112131415161718) [])
  pub ad_0_kind_1 : inline_repeat_24_other_0 (kind 1) ≡ wants_none (state_of (ended 1 0 0 0 0 2 0 2 0xB2000080 0 0 2) (hex 8 0x1112131415161718) [])
  pub ad_0_kind_2 : inline_repeat_24_other_0 (kind 2) ≡ wants_none (state_of (ended 1 0 0 0 0 2 0 2 0xC0080080 0 0 2) (hex 8 0x1112131415161718) [])
  pub ad_0_kind_3 : inline_repeat_24_other_0 (kind 3) ≡ wants_none (state_of (ended 1 0 0 0 0 2 0 2 0xD1000080 0 0 2) (hex 8 0x1112131415161718) [])
  pub ad_1_err : inline_repeat_24_other_1 (answer (Q + X + ERR) 0x345678)
      ≡ wants_none (state_of (ended 3 0 0 0 0 8 0 2 0x00840080 0 0 2) (hex 8 0x11120000D4C3B2A1) [])
  pub ad_1_err_x_0 : inline_repeat_24_other_1 (answer (Q + ERR) 0x345678)
      ≡ wants_none (state_of (ended 3 0 0 0 0 8 0 2 0x00860080 0 0 2) (hex 8 0x11120000D4C3B2A1) [])
  pub ad_1_err_q_0 : inline_repeat_24_other_1 (answer (X + ERR) 0x345678)
      ≡ wants (operation 9 5 3 17 0xABCDEF false) (state_of (waiting 1 1 1 5 3 2 0 2 0x00850000 0 0 2) (hex 8 0x1112131415161718) [])
  pub ad_1_derr : inline_repeat_24_other_1 (answer (Q + X + DERR) 0x345678)
      ≡ wants_none (state_of (ended 3 0 0 0 0 8 0 2 0x04000080 0 0 2) (hex 8 0x11120000D4C3B2A1) [])
  pub ad_1_tpe : inline_repeat_24_other_1 (answer (Q + X + TPE) 0x345678)
      ≡ wants_none (state_of (ended 3 0 0 0 0 8 0 2 0x00140080 0 0 2) (hex 8 0x11120000D4C3B2A1) [])
  pub ad_1_lpe : inline_repeat_24_other_1 (answer (Q + X + LPE) 0x345678)
      ≡ wants_none (state_of (ended 3 0 0 0 0 8 0 2 0x00240080 0 0 2) (hex 8 0x11120000D4C3B2A1) [])
  pub ad_1_kind_1 : inline_repeat_24_other_1 (kind 1) ≡ wants_none (state_of (ended 1 0 0 0 0 2 0 2 0xB2000080 0 0 2) (hex 8 0x1112131415161718) [])
  pub ad_1_kind_2 : inline_repeat_24_other_1 (kind 2) ≡ wants_none (state_of (ended 1 0 0 0 0 2 0 2 0xC0080080 0 0 2) (hex 8 0x1112131415161718) [])
  pub ad_1_kind_3 : inline_repeat_24_other_1 (kind 3) ≡ wants_none (state_of (ended 1 0 0 0 0 2 0 2 0xD1000080 0 0 2) (hex 8 0x1112131415161718) [])

-- inline scan 24 bits: ERR, DERR, TPE and LPE, and replies of the kinds 1 to 3, by AD
abbrev pub inline_scan_24_other_0 : List ℕ → Called
inline_scan_24_other_0 =
    step_of (first_field 2 ++ camac_4 0x02000102 ++ camac_8 0x2DD10978 0x00ABCDEF ++ literal 0xA1B2C3D4 ++ halt)
    (state_of (waiting 1 1 0 22 14 2 0 1 0x00000000 0 0 2) (hex 8 0x1112131415161718) [])

abbrev pub inline_scan_24_other_1 : List ℕ → Called
inline_scan_24_other_1 =
    step_of (first_field 2 ++ camac_4 0x02000102 ++ camac_8 0x2DD10979 0x00ABCDEF ++ literal 0xA1B2C3D4 ++ halt)
    (state_of (waiting 1 1 0 22 14 2 0 1 0x00000000 0 0 2) (hex 8 0x1112131415161718) [])

pub record InlineScan24Other : Type 0 where
  pub ad_0_err : inline_scan_24_other_0 (answer (Q + X + ERR) 0x345678)
      ≡ wants_none (state_of (ended 1 0 0 0 0 2 0 2 0x40840080 0 0 2) (hex 8 0x1112131415161718) [])
  pub ad_0_err_x_0 : inline_scan_24_other_0 (answer (Q + ERR) 0x345678)
      ≡ wants (operation 9 23 0 17 0xABCDEF false) (state_of (waiting 1 1 0 23 0 2 0 2 0x00860000 0 0 2) (hex 8 0x1112131415161718) [])
  pub ad_0_err_q_0 : inline_scan_24_other_0 (answer (X + ERR) 0x345678)
      ≡ wants_none (state_of (ended 1 0 0 0 0 2 0 2 0x40850080 0 0 2) (hex 8 0x1112131415161718) [])
  pub ad_0_derr : inline_scan_24_other_0 (answer (Q + X + DERR) 0x345678)
      ≡ wants_none (state_of (ended 3 0 0 0 0 8 0 2 0x04000080 0 0 2) (hex 8 0x11120000D4C3B2A1) [])
  pub ad_0_tpe : inline_scan_24_other_0 (answer (Q + X + TPE) 0x345678)
      ≡ wants_none (state_of (ended 1 0 0 0 0 2 0 2 0xA0140080 0 0 2) (hex 8 0x1112131415161718) [])
  pub ad_0_lpe : inline_scan_24_other_0 (answer (Q + X + LPE) 0x345678)
      ≡ wants_none (state_of (ended 1 0 0 0 0 2 0 2 0xA0240080 0 0 2) (hex 8 0x1112131415161718) [])
  pub ad_0_kind_1 : inline_scan_24_other_0 (kind 1) ≡ wants_none (state_of (ended 1 0 0 0 0 2 0 2 0xB2000080 0 0 2) (hex 8 0x1112131415161718) [])
  pub ad_0_kind_2 : inline_scan_24_other_0 (kind 2) ≡ wants_none (state_of (ended 1 0 0 0 0 2 0 2 0xC0080080 0 0 2) (hex 8 0x1112131415161718) [])
  pub ad_0_kind_3 : inline_scan_24_other_0 (kind 3) ≡ wants_none (state_of (ended 1 0 0 0 0 2 0 2 0xD1000080 0 0 2) (hex 8 0x1112131415161718) [])
  pub ad_1_err : inline_scan_24_other_1 (answer (Q + X + ERR) 0x345678)
      ≡ wants_none (state_of (ended 3 0 0 0 0 8 0 2 0x00840080 0 0 2) (hex 8 0x11120000D4C3B2A1) [])
  pub ad_1_err_x_0 : inline_scan_24_other_1 (answer (Q + ERR) 0x345678)
      ≡ wants (operation 9 23 0 17 0xABCDEF false) (state_of (waiting 1 1 0 23 0 2 0 2 0x00860000 0 0 2) (hex 8 0x1112131415161718) [])
  pub ad_1_err_q_0 : inline_scan_24_other_1 (answer (X + ERR) 0x345678)
      ≡ wants (operation 9 23 0 17 0xABCDEF false) (state_of (waiting 1 1 0 23 0 2 0 2 0x00850000 0 0 2) (hex 8 0x1112131415161718) [])
  pub ad_1_derr : inline_scan_24_other_1 (answer (Q + X + DERR) 0x345678)
      ≡ wants_none (state_of (ended 3 0 0 0 0 8 0 2 0x04000080 0 0 2) (hex 8 0x11120000D4C3B2A1) [])
  pub ad_1_tpe : inline_scan_24_other_1 (answer (Q + X + TPE) 0x345678)
      ≡ wants_none (state_of (ended 3 0 0 0 0 8 0 2 0x00140080 0 0 2) (hex 8 0x11120000D4C3B2A1) [])
  pub ad_1_lpe : inline_scan_24_other_1 (answer (Q + X + LPE) 0x345678)
      ≡ wants_none (state_of (ended 3 0 0 0 0 8 0 2 0x00240080 0 0 2) (hex 8 0x11120000D4C3B2A1) [])
  pub ad_1_kind_1 : inline_scan_24_other_1 (kind 1) ≡ wants_none (state_of (ended 1 0 0 0 0 2 0 2 0xB2000080 0 0 2) (hex 8 0x1112131415161718) [])
  pub ad_1_kind_2 : inline_scan_24_other_1 (kind 2) ≡ wants_none (state_of (ended 1 0 0 0 0 2 0 2 0xC0080080 0 0 2) (hex 8 0x1112131415161718) [])
  pub ad_1_kind_3 : inline_scan_24_other_1 (kind 3) ≡ wants_none (state_of (ended 1 0 0 0 0 2 0 2 0xD1000080 0 0 2) (hex 8 0x1112131415161718) [])

-- several causes at once: the greatest code wins
abbrev pub causes_in_a_stop_single_0 : List ℕ → Called
causes_in_a_stop_single_0 =
    step_of (first_field 2 ++ camac_4 0x02000102 ++ camac_4 0x0A620900 ++ literal 0xA1B2C3D4 ++ halt)
    (state_of (waiting 1 1 0 5 3 2 0 1 0x00000000 0 0 2) (hex 12 0x1112131415161718191A1B1C) [])

abbrev pub causes_in_a_stop_single_1 : List ℕ → Called
causes_in_a_stop_single_1 =
    step_of (first_field 2 ++ camac_4 0x02000102 ++ camac_4 0x0A620901 ++ literal 0xA1B2C3D4 ++ halt)
    (state_of (waiting 1 1 0 5 3 2 0 1 0x00000000 0 0 2) (hex 12 0x1112131415161718191A1B1C) [])

pub record CausesInAStopSingle : Type 0 where
  pub ad_0_none : causes_in_a_stop_single_0 (answer 0 0x345678)
      ≡ wants_none (state_of (ended 1 0 0 0 0 2 0 2 0x80030080 0 0 2) (hex 12 0x1112131415161718191A1B1C) [])
  pub ad_0_q : causes_in_a_stop_single_0 (answer Q 0x345678)
      ≡ wants_none (state_of (ended 1 0 0 0 0 2 0 2 0x80020080 0 0 2) (hex 12 0x1112131415161718191A1B1C) [])
  pub ad_0_x : causes_in_a_stop_single_0 (answer X 0x345678)
      ≡ wants_none (state_of (ended 1 0 0 0 0 2 0 2 0x70010080 0 0 2) (hex 12 0x1112131415161718191A1B1C) [])
  pub ad_0_q_x : causes_in_a_stop_single_0 (answer (Q + X) 0x345678)
      ≡ wants_none (state_of (ended 3 0 0 0 0 12 0 2 0x00000080 0 4 4) (hex 12 0x11120000785634C0D4C3B2A1) [])
  pub ad_0_err : causes_in_a_stop_single_0 (answer ERR 0x345678)
      ≡ wants_none (state_of (ended 1 0 0 0 0 2 0 2 0x80870080 0 0 2) (hex 12 0x1112131415161718191A1B1C) [])
  pub ad_0_q_err : causes_in_a_stop_single_0 (answer (Q + ERR) 0x345678)
      ≡ wants_none (state_of (ended 1 0 0 0 0 2 0 2 0x80860080 0 0 2) (hex 12 0x1112131415161718191A1B1C) [])
  pub ad_0_x_err : causes_in_a_stop_single_0 (answer (X + ERR) 0x345678)
      ≡ wants_none (state_of (ended 1 0 0 0 0 2 0 2 0x70850080 0 0 2) (hex 12 0x1112131415161718191A1B1C) [])
  pub ad_0_q_x_err : causes_in_a_stop_single_0 (answer (Q + X + ERR) 0x345678)
      ≡ wants_none (state_of (ended 1 0 0 0 0 2 0 2 0x40840080 0 0 2) (hex 12 0x1112131415161718191A1B1C) [])
  pub ad_0_lpe : causes_in_a_stop_single_0 (answer LPE 0x345678)
      ≡ wants_none (state_of (ended 1 0 0 0 0 2 0 2 0xA0270080 0 0 2) (hex 12 0x1112131415161718191A1B1C) [])
  pub ad_0_q_lpe : causes_in_a_stop_single_0 (answer (Q + LPE) 0x345678)
      ≡ wants_none (state_of (ended 1 0 0 0 0 2 0 2 0xA0260080 0 0 2) (hex 12 0x1112131415161718191A1B1C) [])
  pub ad_0_x_lpe : causes_in_a_stop_single_0 (answer (X + LPE) 0x345678)
      ≡ wants_none (state_of (ended 1 0 0 0 0 2 0 2 0xA0250080 0 0 2) (hex 12 0x1112131415161718191A1B1C) [])
  pub ad_0_q_x_lpe : causes_in_a_stop_single_0 (answer (Q + X + LPE) 0x345678)
      ≡ wants_none (state_of (ended 1 0 0 0 0 2 0 2 0xA0240080 0 0 2) (hex 12 0x1112131415161718191A1B1C) [])
  pub ad_0_err_lpe : causes_in_a_stop_single_0 (answer (ERR + LPE) 0x345678)
      ≡ wants_none (state_of (ended 1 0 0 0 0 2 0 2 0xA0A70080 0 0 2) (hex 12 0x1112131415161718191A1B1C) [])
  pub ad_0_q_err_lpe : causes_in_a_stop_single_0 (answer (Q + ERR + LPE) 0x345678)
      ≡ wants_none (state_of (ended 1 0 0 0 0 2 0 2 0xA0A60080 0 0 2) (hex 12 0x1112131415161718191A1B1C) [])
  pub ad_0_x_err_lpe : causes_in_a_stop_single_0 (answer (X + ERR + LPE) 0x345678)
      ≡ wants_none (state_of (ended 1 0 0 0 0 2 0 2 0xA0A50080 0 0 2) (hex 12 0x1112131415161718191A1B1C) [])
  pub ad_0_q_x_err_lpe : causes_in_a_stop_single_0 (answer (Q + X + ERR + LPE) 0x345678)
      ≡ wants_none (state_of (ended 1 0 0 0 0 2 0 2 0xA0A40080 0 0 2) (hex 12 0x1112131415161718191A1B1C) [])
  pub ad_1_none : causes_in_a_stop_single_1 (answer 0 0x345678)
      ≡ wants_none (state_of (ended 1 0 0 0 0 2 0 2 0x70030080 0 0 2) (hex 12 0x1112131415161718191A1B1C) [])
  pub ad_1_q : causes_in_a_stop_single_1 (answer Q 0x345678)
      ≡ wants_none (state_of (ended 3 0 0 0 0 12 0 2 0x00020080 0 4 4) (hex 12 0x1112000078563480D4C3B2A1) [])
  pub ad_1_x : causes_in_a_stop_single_1 (answer X 0x345678)
      ≡ wants_none (state_of (ended 1 0 0 0 0 2 0 2 0x70010080 0 0 2) (hex 12 0x1112131415161718191A1B1C) [])
  pub ad_1_q_x : causes_in_a_stop_single_1 (answer (Q + X) 0x345678)
      ≡ wants_none (state_of (ended 3 0 0 0 0 12 0 2 0x00000080 0 4 4) (hex 12 0x11120000785634C0D4C3B2A1) [])
  pub ad_1_err : causes_in_a_stop_single_1 (answer ERR 0x345678)
      ≡ wants_none (state_of (ended 1 0 0 0 0 2 0 2 0x70870080 0 0 2) (hex 12 0x1112131415161718191A1B1C) [])
  pub ad_1_q_err : causes_in_a_stop_single_1 (answer (Q + ERR) 0x345678)
      ≡ wants_none (state_of (ended 3 0 0 0 0 12 0 2 0x00860080 0 4 4) (hex 12 0x1112000078563480D4C3B2A1) [])
  pub ad_1_x_err : causes_in_a_stop_single_1 (answer (X + ERR) 0x345678)
      ≡ wants_none (state_of (ended 1 0 0 0 0 2 0 2 0x70850080 0 0 2) (hex 12 0x1112131415161718191A1B1C) [])
  pub ad_1_q_x_err : causes_in_a_stop_single_1 (answer (Q + X + ERR) 0x345678)
      ≡ wants_none (state_of (ended 3 0 0 0 0 12 0 2 0x00840080 0 4 4) (hex 12 0x11120000785634C0D4C3B2A1) [])
  pub ad_1_lpe : causes_in_a_stop_single_1 (answer LPE 0x345678)
      ≡ wants_none (state_of (ended 1 0 0 0 0 2 0 2 0x70270080 0 0 2) (hex 12 0x1112131415161718191A1B1C) [])
  pub ad_1_q_lpe : causes_in_a_stop_single_1 (answer (Q + LPE) 0x345678)
      ≡ wants_none (state_of (ended 3 0 0 0 0 12 0 2 0x00260080 0 4 4) (hex 12 0x1112000078563480D4C3B2A1) [])
  pub ad_1_x_lpe : causes_in_a_stop_single_1 (answer (X + LPE) 0x345678)
      ≡ wants_none (state_of (ended 1 0 0 0 0 2 0 2 0x70250080 0 0 2) (hex 12 0x1112131415161718191A1B1C) [])
  pub ad_1_q_x_lpe : causes_in_a_stop_single_1 (answer (Q + X + LPE) 0x345678)
      ≡ wants_none (state_of (ended 3 0 0 0 0 12 0 2 0x00240080 0 4 4) (hex 12 0x11120000785634C0D4C3B2A1) [])
  pub ad_1_err_lpe : causes_in_a_stop_single_1 (answer (ERR + LPE) 0x345678)
      ≡ wants_none (state_of (ended 1 0 0 0 0 2 0 2 0x70A70080 0 0 2) (hex 12 0x1112131415161718191A1B1C) [])
  pub ad_1_q_err_lpe : causes_in_a_stop_single_1 (answer (Q + ERR + LPE) 0x345678)
      ≡ wants_none (state_of (ended 3 0 0 0 0 12 0 2 0x00A60080 0 4 4) (hex 12 0x1112000078563480D4C3B2A1) [])
  pub ad_1_x_err_lpe : causes_in_a_stop_single_1 (answer (X + ERR + LPE) 0x345678)
      ≡ wants_none (state_of (ended 1 0 0 0 0 2 0 2 0x70A50080 0 0 2) (hex 12 0x1112131415161718191A1B1C) [])
  pub ad_1_q_x_err_lpe : causes_in_a_stop_single_1 (answer (Q + X + ERR + LPE) 0x345678)
      ≡ wants_none (state_of (ended 3 0 0 0 0 12 0 2 0x00A40080 0 4 4) (hex 12 0x11120000785634C0D4C3B2A1) [])

-- several causes at once: the greatest code wins
abbrev pub causes_in_a_stop_block_0 : List ℕ → Called
causes_in_a_stop_block_0 =
    step_of (first_field 2 ++ camac_4 0x02000102 ++ camac_8 0x0A620920 0xFFFFFFFC ++ literal 0xA1B2C3D4 ++ halt)
    (state_of (waiting 1 2 0 5 3 2 0 1 0x00000000 0 0 2) (hex 16 0x1112131415161718191A1B1C1D1E1F20) [])

abbrev pub causes_in_a_stop_block_1 : List ℕ → Called
causes_in_a_stop_block_1 =
    step_of (first_field 2 ++ camac_4 0x02000102 ++ camac_8 0x0A620921 0xFFFFFFFC ++ literal 0xA1B2C3D4 ++ halt)
    (state_of (waiting 1 2 0 5 3 2 0 1 0x00000000 0 0 2) (hex 16 0x1112131415161718191A1B1C1D1E1F20) [])

pub record CausesInAStopBlock : Type 0 where
  pub ad_0_none : causes_in_a_stop_block_0 (answer 0 0x345678)
      ≡ wants_none (state_of (ended 1 0 0 0 0 2 0 2 0x80030080 0 0 2) (hex 16 0x1112131415161718191A1B1C1D1E1F20) [])
  pub ad_0_q : causes_in_a_stop_block_0 (answer Q 0x345678)
      ≡ wants_none (state_of (ended 1 0 0 0 0 2 0 2 0x80020080 0 0 2) (hex 16 0x1112131415161718191A1B1C1D1E1F20) [])
  pub ad_0_x : causes_in_a_stop_block_0 (answer X 0x345678)
      ≡ wants_none (state_of (ended 3 0 0 0 0 8 0 2 0x00010080 0 0 2) (hex 16 0x11120000D4C3B2A1191A1B1C1D1E1F20) [])
  pub ad_0_q_x : causes_in_a_stop_block_0 (answer (Q + X) 0x345678)
      ≡ wants (operation 9 5 3 2 0x000000 false) (state_of (waiting 1 1 0 5 3 8 0 2 0x00000000 0 4 4) (hex 16 0x11120000785634C0191A1B1C1D1E1F20) [])
  pub ad_0_err : causes_in_a_stop_block_0 (answer ERR 0x345678)
      ≡ wants_none (state_of (ended 1 0 0 0 0 2 0 2 0x80870080 0 0 2) (hex 16 0x1112131415161718191A1B1C1D1E1F20) [])
  pub ad_0_q_err : causes_in_a_stop_block_0 (answer (Q + ERR) 0x345678)
      ≡ wants_none (state_of (ended 1 0 0 0 0 2 0 2 0x80860080 0 0 2) (hex 16 0x1112131415161718191A1B1C1D1E1F20) [])
  pub ad_0_x_err : causes_in_a_stop_block_0 (answer (X + ERR) 0x345678)
      ≡ wants_none (state_of (ended 1 0 0 0 0 2 0 2 0x40850080 0 0 2) (hex 16 0x1112131415161718191A1B1C1D1E1F20) [])
  pub ad_0_q_x_err : causes_in_a_stop_block_0 (answer (Q + X + ERR) 0x345678)
      ≡ wants_none (state_of (ended 1 0 0 0 0 2 0 2 0x40840080 0 0 2) (hex 16 0x1112131415161718191A1B1C1D1E1F20) [])
  pub ad_0_lpe : causes_in_a_stop_block_0 (answer LPE 0x345678)
      ≡ wants_none (state_of (ended 1 0 0 0 0 2 0 2 0xA0270080 0 0 2) (hex 16 0x1112131415161718191A1B1C1D1E1F20) [])
  pub ad_0_q_lpe : causes_in_a_stop_block_0 (answer (Q + LPE) 0x345678)
      ≡ wants_none (state_of (ended 1 0 0 0 0 2 0 2 0xA0260080 0 0 2) (hex 16 0x1112131415161718191A1B1C1D1E1F20) [])
  pub ad_0_x_lpe : causes_in_a_stop_block_0 (answer (X + LPE) 0x345678)
      ≡ wants_none (state_of (ended 1 0 0 0 0 2 0 2 0xA0250080 0 0 2) (hex 16 0x1112131415161718191A1B1C1D1E1F20) [])
  pub ad_0_q_x_lpe : causes_in_a_stop_block_0 (answer (Q + X + LPE) 0x345678)
      ≡ wants_none (state_of (ended 1 0 0 0 0 2 0 2 0xA0240080 0 0 2) (hex 16 0x1112131415161718191A1B1C1D1E1F20) [])
  pub ad_0_err_lpe : causes_in_a_stop_block_0 (answer (ERR + LPE) 0x345678)
      ≡ wants_none (state_of (ended 1 0 0 0 0 2 0 2 0xA0A70080 0 0 2) (hex 16 0x1112131415161718191A1B1C1D1E1F20) [])
  pub ad_0_q_err_lpe : causes_in_a_stop_block_0 (answer (Q + ERR + LPE) 0x345678)
      ≡ wants_none (state_of (ended 1 0 0 0 0 2 0 2 0xA0A60080 0 0 2) (hex 16 0x1112131415161718191A1B1C1D1E1F20) [])
  pub ad_0_x_err_lpe : causes_in_a_stop_block_0 (answer (X + ERR + LPE) 0x345678)
      ≡ wants_none (state_of (ended 1 0 0 0 0 2 0 2 0xA0A50080 0 0 2) (hex 16 0x1112131415161718191A1B1C1D1E1F20) [])
  pub ad_0_q_x_err_lpe : causes_in_a_stop_block_0 (answer (Q + X + ERR + LPE) 0x345678)
      ≡ wants_none (state_of (ended 1 0 0 0 0 2 0 2 0xA0A40080 0 0 2) (hex 16 0x1112131415161718191A1B1C1D1E1F20) [])
  pub ad_1_none : causes_in_a_stop_block_1 (answer 0 0x345678)
      ≡ wants_none (state_of (ended 3 0 0 0 0 8 0 2 0x00030080 0 0 2) (hex 16 0x11120000D4C3B2A1191A1B1C1D1E1F20) [])
  pub ad_1_q : causes_in_a_stop_block_1 (answer Q 0x345678)
      ≡ wants (operation 9 5 3 2 0x000000 false) (state_of (waiting 1 1 0 5 3 8 0 2 0x00020000 0 4 4) (hex 16 0x1112000078563480191A1B1C1D1E1F20) [])
  pub ad_1_x : causes_in_a_stop_block_1 (answer X 0x345678)
      ≡ wants_none (state_of (ended 3 0 0 0 0 8 0 2 0x00010080 0 0 2) (hex 16 0x11120000D4C3B2A1191A1B1C1D1E1F20) [])
  pub ad_1_q_x : causes_in_a_stop_block_1 (answer (Q + X) 0x345678)
      ≡ wants (operation 9 5 3 2 0x000000 false) (state_of (waiting 1 1 0 5 3 8 0 2 0x00000000 0 4 4) (hex 16 0x11120000785634C0191A1B1C1D1E1F20) [])
  pub ad_1_err : causes_in_a_stop_block_1 (answer ERR 0x345678)
      ≡ wants_none (state_of (ended 3 0 0 0 0 8 0 2 0x00870080 0 0 2) (hex 16 0x11120000D4C3B2A1191A1B1C1D1E1F20) [])
  pub ad_1_q_err : causes_in_a_stop_block_1 (answer (Q + ERR) 0x345678)
      ≡ wants (operation 9 5 3 2 0x000000 false) (state_of (waiting 1 1 0 5 3 8 0 2 0x00860000 0 4 4) (hex 16 0x1112000078563480191A1B1C1D1E1F20) [])
  pub ad_1_x_err : causes_in_a_stop_block_1 (answer (X + ERR) 0x345678)
      ≡ wants_none (state_of (ended 3 0 0 0 0 8 0 2 0x00850080 0 0 2) (hex 16 0x11120000D4C3B2A1191A1B1C1D1E1F20) [])
  pub ad_1_q_x_err : causes_in_a_stop_block_1 (answer (Q + X + ERR) 0x345678)
      ≡ wants (operation 9 5 3 2 0x000000 false) (state_of (waiting 1 1 0 5 3 8 0 2 0x00840000 0 4 4) (hex 16 0x11120000785634C0191A1B1C1D1E1F20) [])
  pub ad_1_lpe : causes_in_a_stop_block_1 (answer LPE 0x345678)
      ≡ wants_none (state_of (ended 3 0 0 0 0 8 0 2 0x00270080 0 0 2) (hex 16 0x11120000D4C3B2A1191A1B1C1D1E1F20) [])
  pub ad_1_q_lpe : causes_in_a_stop_block_1 (answer (Q + LPE) 0x345678)
      ≡ wants (operation 9 5 3 2 0x000000 false) (state_of (waiting 1 1 0 5 3 8 0 2 0x00260000 0 4 4) (hex 16 0x1112000078563480191A1B1C1D1E1F20) [])
  pub ad_1_x_lpe : causes_in_a_stop_block_1 (answer (X + LPE) 0x345678)
      ≡ wants_none (state_of (ended 3 0 0 0 0 8 0 2 0x00250080 0 0 2) (hex 16 0x11120000D4C3B2A1191A1B1C1D1E1F20) [])
  pub ad_1_q_x_lpe : causes_in_a_stop_block_1 (answer (Q + X + LPE) 0x345678)
      ≡ wants (operation 9 5 3 2 0x000000 false) (state_of (waiting 1 1 0 5 3 8 0 2 0x00240000 0 4 4) (hex 16 0x11120000785634C0191A1B1C1D1E1F20) [])
  pub ad_1_err_lpe : causes_in_a_stop_block_1 (answer (ERR + LPE) 0x345678)
      ≡ wants_none (state_of (ended 3 0 0 0 0 8 0 2 0x00A70080 0 0 2) (hex 16 0x11120000D4C3B2A1191A1B1C1D1E1F20) [])
  pub ad_1_q_err_lpe : causes_in_a_stop_block_1 (answer (Q + ERR + LPE) 0x345678)
      ≡ wants (operation 9 5 3 2 0x000000 false) (state_of (waiting 1 1 0 5 3 8 0 2 0x00A60000 0 4 4) (hex 16 0x1112000078563480191A1B1C1D1E1F20) [])
  pub ad_1_x_err_lpe : causes_in_a_stop_block_1 (answer (X + ERR + LPE) 0x345678)
      ≡ wants_none (state_of (ended 3 0 0 0 0 8 0 2 0x00A50080 0 0 2) (hex 16 0x11120000D4C3B2A1191A1B1C1D1E1F20) [])
  pub ad_1_q_x_err_lpe : causes_in_a_stop_block_1 (answer (Q + X + ERR + LPE) 0x345678)
      ≡ wants (operation 9 5 3 2 0x000000 false) (state_of (waiting 1 1 0 5 3 8 0 2 0x00A40000 0 4 4) (hex 16 0x11120000785634C0191A1B1C1D1E1F20) [])

-- several causes at once: the greatest code wins
abbrev pub causes_on_a_last_try_0 : List ℕ → Called
causes_on_a_last_try_0 =
    step_of (first_field 2 ++ camac_4 0x02000102 ++ camac_4 0x0A620910 ++ literal 0xA1B2C3D4 ++ halt)
    (state_of (waiting 1 1 1 5 3 2 0 1 0x00000000 0 0 2) (hex 12 0x1112131415161718191A1B1C) [])

abbrev pub causes_on_a_last_try_1 : List ℕ → Called
causes_on_a_last_try_1 =
    step_of (first_field 2 ++ camac_4 0x02000102 ++ camac_4 0x0A620911 ++ literal 0xA1B2C3D4 ++ halt)
    (state_of (waiting 1 1 1 5 3 2 0 1 0x00000000 0 0 2) (hex 12 0x1112131415161718191A1B1C) [])

pub record CausesOnALastTry : Type 0 where
  pub ad_0_none : causes_on_a_last_try_0 (answer 0 0x345678)
      ≡ wants_none (state_of (ended 1 0 0 0 0 2 0 2 0xB2030080 0 0 2) (hex 12 0x1112131415161718191A1B1C) [])
  pub ad_0_q : causes_on_a_last_try_0 (answer Q 0x345678)
      ≡ wants_none (state_of (ended 1 0 0 0 0 2 0 2 0x80020080 0 0 2) (hex 12 0x1112131415161718191A1B1C) [])
  pub ad_0_x : causes_on_a_last_try_0 (answer X 0x345678)
      ≡ wants_none (state_of (ended 1 0 0 0 0 2 0 2 0xB2010080 0 0 2) (hex 12 0x1112131415161718191A1B1C) [])
  pub ad_0_q_x : causes_on_a_last_try_0 (answer (Q + X) 0x345678)
      ≡ wants_none (state_of (ended 3 0 0 0 0 12 0 2 0x00000080 0 4 4) (hex 12 0x11120000785634C0D4C3B2A1) [])
  pub ad_0_err : causes_on_a_last_try_0 (answer ERR 0x345678)
      ≡ wants_none (state_of (ended 1 0 0 0 0 2 0 2 0xB2870080 0 0 2) (hex 12 0x1112131415161718191A1B1C) [])
  pub ad_0_q_err : causes_on_a_last_try_0 (answer (Q + ERR) 0x345678)
      ≡ wants_none (state_of (ended 1 0 0 0 0 2 0 2 0x80860080 0 0 2) (hex 12 0x1112131415161718191A1B1C) [])
  pub ad_0_x_err : causes_on_a_last_try_0 (answer (X + ERR) 0x345678)
      ≡ wants_none (state_of (ended 1 0 0 0 0 2 0 2 0xB2850080 0 0 2) (hex 12 0x1112131415161718191A1B1C) [])
  pub ad_0_q_x_err : causes_on_a_last_try_0 (answer (Q + X + ERR) 0x345678)
      ≡ wants_none (state_of (ended 1 0 0 0 0 2 0 2 0x40840080 0 0 2) (hex 12 0x1112131415161718191A1B1C) [])
  pub ad_0_lpe : causes_on_a_last_try_0 (answer LPE 0x345678)
      ≡ wants_none (state_of (ended 1 0 0 0 0 2 0 2 0xB2270080 0 0 2) (hex 12 0x1112131415161718191A1B1C) [])
  pub ad_0_q_lpe : causes_on_a_last_try_0 (answer (Q + LPE) 0x345678)
      ≡ wants_none (state_of (ended 1 0 0 0 0 2 0 2 0xA0260080 0 0 2) (hex 12 0x1112131415161718191A1B1C) [])
  pub ad_0_x_lpe : causes_on_a_last_try_0 (answer (X + LPE) 0x345678)
      ≡ wants_none (state_of (ended 1 0 0 0 0 2 0 2 0xB2250080 0 0 2) (hex 12 0x1112131415161718191A1B1C) [])
  pub ad_0_q_x_lpe : causes_on_a_last_try_0 (answer (Q + X + LPE) 0x345678)
      ≡ wants_none (state_of (ended 1 0 0 0 0 2 0 2 0xA0240080 0 0 2) (hex 12 0x1112131415161718191A1B1C) [])
  pub ad_0_err_lpe : causes_on_a_last_try_0 (answer (ERR + LPE) 0x345678)
      ≡ wants_none (state_of (ended 1 0 0 0 0 2 0 2 0xB2A70080 0 0 2) (hex 12 0x1112131415161718191A1B1C) [])
  pub ad_0_q_err_lpe : causes_on_a_last_try_0 (answer (Q + ERR + LPE) 0x345678)
      ≡ wants_none (state_of (ended 1 0 0 0 0 2 0 2 0xA0A60080 0 0 2) (hex 12 0x1112131415161718191A1B1C) [])
  pub ad_0_x_err_lpe : causes_on_a_last_try_0 (answer (X + ERR + LPE) 0x345678)
      ≡ wants_none (state_of (ended 1 0 0 0 0 2 0 2 0xB2A50080 0 0 2) (hex 12 0x1112131415161718191A1B1C) [])
  pub ad_0_q_x_err_lpe : causes_on_a_last_try_0 (answer (Q + X + ERR + LPE) 0x345678)
      ≡ wants_none (state_of (ended 1 0 0 0 0 2 0 2 0xA0A40080 0 0 2) (hex 12 0x1112131415161718191A1B1C) [])
  pub ad_1_none : causes_on_a_last_try_1 (answer 0 0x345678)
      ≡ wants_none (state_of (ended 1 0 0 0 0 2 0 2 0xB2030080 0 0 2) (hex 12 0x1112131415161718191A1B1C) [])
  pub ad_1_q : causes_on_a_last_try_1 (answer Q 0x345678)
      ≡ wants_none (state_of (ended 3 0 0 0 0 12 0 2 0x00020080 0 4 4) (hex 12 0x1112000078563480D4C3B2A1) [])
  pub ad_1_x : causes_on_a_last_try_1 (answer X 0x345678)
      ≡ wants_none (state_of (ended 1 0 0 0 0 2 0 2 0xB2010080 0 0 2) (hex 12 0x1112131415161718191A1B1C) [])
  pub ad_1_q_x : causes_on_a_last_try_1 (answer (Q + X) 0x345678)
      ≡ wants_none (state_of (ended 3 0 0 0 0 12 0 2 0x00000080 0 4 4) (hex 12 0x11120000785634C0D4C3B2A1) [])
  pub ad_1_err : causes_on_a_last_try_1 (answer ERR 0x345678)
      ≡ wants_none (state_of (ended 1 0 0 0 0 2 0 2 0xB2870080 0 0 2) (hex 12 0x1112131415161718191A1B1C) [])
  pub ad_1_q_err : causes_on_a_last_try_1 (answer (Q + ERR) 0x345678)
      ≡ wants_none (state_of (ended 3 0 0 0 0 12 0 2 0x00860080 0 4 4) (hex 12 0x1112000078563480D4C3B2A1) [])
  pub ad_1_x_err : causes_on_a_last_try_1 (answer (X + ERR) 0x345678)
      ≡ wants_none (state_of (ended 1 0 0 0 0 2 0 2 0xB2850080 0 0 2) (hex 12 0x1112131415161718191A1B1C) [])
  pub ad_1_q_x_err : causes_on_a_last_try_1 (answer (Q + X + ERR) 0x345678)
      ≡ wants_none (state_of (ended 3 0 0 0 0 12 0 2 0x00840080 0 4 4) (hex 12 0x11120000785634C0D4C3B2A1) [])
  pub ad_1_lpe : causes_on_a_last_try_1 (answer LPE 0x345678)
      ≡ wants_none (state_of (ended 1 0 0 0 0 2 0 2 0xB2270080 0 0 2) (hex 12 0x1112131415161718191A1B1C) [])
  pub ad_1_q_lpe : causes_on_a_last_try_1 (answer (Q + LPE) 0x345678)
      ≡ wants_none (state_of (ended 3 0 0 0 0 12 0 2 0x00260080 0 4 4) (hex 12 0x1112000078563480D4C3B2A1) [])
  pub ad_1_x_lpe : causes_on_a_last_try_1 (answer (X + LPE) 0x345678)
      ≡ wants_none (state_of (ended 1 0 0 0 0 2 0 2 0xB2250080 0 0 2) (hex 12 0x1112131415161718191A1B1C) [])
  pub ad_1_q_x_lpe : causes_on_a_last_try_1 (answer (Q + X + LPE) 0x345678)
      ≡ wants_none (state_of (ended 3 0 0 0 0 12 0 2 0x00240080 0 4 4) (hex 12 0x11120000785634C0D4C3B2A1) [])
  pub ad_1_err_lpe : causes_on_a_last_try_1 (answer (ERR + LPE) 0x345678)
      ≡ wants_none (state_of (ended 1 0 0 0 0 2 0 2 0xB2A70080 0 0 2) (hex 12 0x1112131415161718191A1B1C) [])
  pub ad_1_q_err_lpe : causes_on_a_last_try_1 (answer (Q + ERR + LPE) 0x345678)
      ≡ wants_none (state_of (ended 3 0 0 0 0 12 0 2 0x00A60080 0 4 4) (hex 12 0x1112000078563480D4C3B2A1) [])
  pub ad_1_x_err_lpe : causes_on_a_last_try_1 (answer (X + ERR + LPE) 0x345678)
      ≡ wants_none (state_of (ended 1 0 0 0 0 2 0 2 0xB2A50080 0 0 2) (hex 12 0x1112131415161718191A1B1C) [])
  pub ad_1_q_x_err_lpe : causes_on_a_last_try_1 (answer (Q + X + ERR + LPE) 0x345678)
      ≡ wants_none (state_of (ended 3 0 0 0 0 12 0 2 0x00A40080 0 4 4) (hex 12 0x11120000785634C0D4C3B2A1) [])

-- several causes at once: the greatest code wins
abbrev pub causes_at_a_last_position_0 : List ℕ → Called
causes_at_a_last_position_0 =
    step_of (first_field 2 ++ camac_4 0x02000102 ++ camac_8 0x2DC20938 0xFFFFFFFC ++ literal 0xA1B2C3D4 ++ halt)
    (state_of (waiting 1 2 0 23 15 2 0 1 0x00000000 0 0 2) (hex 16 0x1112131415161718191A1B1C1D1E1F20) [])

abbrev pub causes_at_a_last_position_1 : List ℕ → Called
causes_at_a_last_position_1 =
    step_of (first_field 2 ++ camac_4 0x02000102 ++ camac_8 0x2DC20939 0xFFFFFFFC ++ literal 0xA1B2C3D4 ++ halt)
    (state_of (waiting 1 2 0 23 15 2 0 1 0x00000000 0 0 2) (hex 16 0x1112131415161718191A1B1C1D1E1F20) [])

pub record CausesAtALastPosition : Type 0 where
  pub ad_0_none : causes_at_a_last_position_0 (answer 0 0x345678)
      ≡ wants_none (state_of (ended 1 0 0 0 0 2 0 2 0x90430080 0 0 2) (hex 16 0x1112131415161718191A1B1C1D1E1F20) [])
  pub ad_0_q : causes_at_a_last_position_0 (answer Q 0x345678)
      ≡ wants_none (state_of (ended 1 0 0 0 0 2 0 2 0x90420080 0 0 2) (hex 16 0x1112131415161718191A1B1C1D1E1F20) [])
  pub ad_0_x : causes_at_a_last_position_0 (answer X 0x345678)
      ≡ wants_none (state_of (ended 1 0 0 0 0 2 0 2 0x90410080 0 0 2) (hex 16 0x1112131415161718191A1B1C1D1E1F20) [])
  pub ad_0_q_x : causes_at_a_last_position_0 (answer (Q + X) 0x345678)
      ≡ wants_none (state_of (ended 1 0 0 0 0 8 0 2 0x90400080 0 4 4) (hex 16 0x11120000785634C0191A1B1C1D1E1F20) [])
  pub ad_0_err : causes_at_a_last_position_0 (answer ERR 0x345678)
      ≡ wants_none (state_of (ended 1 0 0 0 0 2 0 2 0x90C70080 0 0 2) (hex 16 0x1112131415161718191A1B1C1D1E1F20) [])
  pub ad_0_q_err : causes_at_a_last_position_0 (answer (Q + ERR) 0x345678)
      ≡ wants_none (state_of (ended 1 0 0 0 0 2 0 2 0x90C60080 0 0 2) (hex 16 0x1112131415161718191A1B1C1D1E1F20) [])
  pub ad_0_x_err : causes_at_a_last_position_0 (answer (X + ERR) 0x345678)
      ≡ wants_none (state_of (ended 1 0 0 0 0 2 0 2 0x90C50080 0 0 2) (hex 16 0x1112131415161718191A1B1C1D1E1F20) [])
  pub ad_0_q_x_err : causes_at_a_last_position_0 (answer (Q + X + ERR) 0x345678)
      ≡ wants_none (state_of (ended 1 0 0 0 0 2 0 2 0x90C40080 0 0 2) (hex 16 0x1112131415161718191A1B1C1D1E1F20) [])
  pub ad_0_lpe : causes_at_a_last_position_0 (answer LPE 0x345678)
      ≡ wants_none (state_of (ended 1 0 0 0 0 2 0 2 0xA0670080 0 0 2) (hex 16 0x1112131415161718191A1B1C1D1E1F20) [])
  pub ad_0_q_lpe : causes_at_a_last_position_0 (answer (Q + LPE) 0x345678)
      ≡ wants_none (state_of (ended 1 0 0 0 0 2 0 2 0xA0660080 0 0 2) (hex 16 0x1112131415161718191A1B1C1D1E1F20) [])
  pub ad_0_x_lpe : causes_at_a_last_position_0 (answer (X + LPE) 0x345678)
      ≡ wants_none (state_of (ended 1 0 0 0 0 2 0 2 0xA0650080 0 0 2) (hex 16 0x1112131415161718191A1B1C1D1E1F20) [])
  pub ad_0_q_x_lpe : causes_at_a_last_position_0 (answer (Q + X + LPE) 0x345678)
      ≡ wants_none (state_of (ended 1 0 0 0 0 2 0 2 0xA0640080 0 0 2) (hex 16 0x1112131415161718191A1B1C1D1E1F20) [])
  pub ad_0_err_lpe : causes_at_a_last_position_0 (answer (ERR + LPE) 0x345678)
      ≡ wants_none (state_of (ended 1 0 0 0 0 2 0 2 0xA0E70080 0 0 2) (hex 16 0x1112131415161718191A1B1C1D1E1F20) [])
  pub ad_0_q_err_lpe : causes_at_a_last_position_0 (answer (Q + ERR + LPE) 0x345678)
      ≡ wants_none (state_of (ended 1 0 0 0 0 2 0 2 0xA0E60080 0 0 2) (hex 16 0x1112131415161718191A1B1C1D1E1F20) [])
  pub ad_0_x_err_lpe : causes_at_a_last_position_0 (answer (X + ERR + LPE) 0x345678)
      ≡ wants_none (state_of (ended 1 0 0 0 0 2 0 2 0xA0E50080 0 0 2) (hex 16 0x1112131415161718191A1B1C1D1E1F20) [])
  pub ad_0_q_x_err_lpe : causes_at_a_last_position_0 (answer (Q + X + ERR + LPE) 0x345678)
      ≡ wants_none (state_of (ended 1 0 0 0 0 2 0 2 0xA0E40080 0 0 2) (hex 16 0x1112131415161718191A1B1C1D1E1F20) [])
  pub ad_1_none : causes_at_a_last_position_1 (answer 0 0x345678)
      ≡ wants_none (state_of (ended 1 0 0 0 0 2 0 2 0x90430080 0 0 2) (hex 16 0x1112131415161718191A1B1C1D1E1F20) [])
  pub ad_1_q : causes_at_a_last_position_1 (answer Q 0x345678)
      ≡ wants_none (state_of (ended 1 0 0 0 0 2 0 2 0x90420080 0 0 2) (hex 16 0x1112131415161718191A1B1C1D1E1F20) [])
  pub ad_1_x : causes_at_a_last_position_1 (answer X 0x345678)
      ≡ wants_none (state_of (ended 1 0 0 0 0 2 0 2 0x90410080 0 0 2) (hex 16 0x1112131415161718191A1B1C1D1E1F20) [])
  pub ad_1_q_x : causes_at_a_last_position_1 (answer (Q + X) 0x345678)
      ≡ wants_none (state_of (ended 1 0 0 0 0 8 0 2 0x90400080 0 4 4) (hex 16 0x11120000785634C0191A1B1C1D1E1F20) [])
  pub ad_1_err : causes_at_a_last_position_1 (answer ERR 0x345678)
      ≡ wants_none (state_of (ended 1 0 0 0 0 2 0 2 0x90C70080 0 0 2) (hex 16 0x1112131415161718191A1B1C1D1E1F20) [])
  pub ad_1_q_err : causes_at_a_last_position_1 (answer (Q + ERR) 0x345678)
      ≡ wants_none (state_of (ended 1 0 0 0 0 2 0 2 0x90C60080 0 0 2) (hex 16 0x1112131415161718191A1B1C1D1E1F20) [])
  pub ad_1_x_err : causes_at_a_last_position_1 (answer (X + ERR) 0x345678)
      ≡ wants_none (state_of (ended 1 0 0 0 0 2 0 2 0x90C50080 0 0 2) (hex 16 0x1112131415161718191A1B1C1D1E1F20) [])
  pub ad_1_q_x_err : causes_at_a_last_position_1 (answer (Q + X + ERR) 0x345678)
      ≡ wants_none (state_of (ended 1 0 0 0 0 8 0 2 0x90C40080 0 4 4) (hex 16 0x11120000785634C0191A1B1C1D1E1F20) [])
  pub ad_1_lpe : causes_at_a_last_position_1 (answer LPE 0x345678)
      ≡ wants_none (state_of (ended 1 0 0 0 0 2 0 2 0x90670080 0 0 2) (hex 16 0x1112131415161718191A1B1C1D1E1F20) [])
  pub ad_1_q_lpe : causes_at_a_last_position_1 (answer (Q + LPE) 0x345678)
      ≡ wants_none (state_of (ended 1 0 0 0 0 2 0 2 0x90660080 0 0 2) (hex 16 0x1112131415161718191A1B1C1D1E1F20) [])
  pub ad_1_x_lpe : causes_at_a_last_position_1 (answer (X + LPE) 0x345678)
      ≡ wants_none (state_of (ended 1 0 0 0 0 2 0 2 0x90650080 0 0 2) (hex 16 0x1112131415161718191A1B1C1D1E1F20) [])
  pub ad_1_q_x_lpe : causes_at_a_last_position_1 (answer (Q + X + LPE) 0x345678)
      ≡ wants_none (state_of (ended 1 0 0 0 0 8 0 2 0x90640080 0 4 4) (hex 16 0x11120000785634C0191A1B1C1D1E1F20) [])
  pub ad_1_err_lpe : causes_at_a_last_position_1 (answer (ERR + LPE) 0x345678)
      ≡ wants_none (state_of (ended 1 0 0 0 0 2 0 2 0x90E70080 0 0 2) (hex 16 0x1112131415161718191A1B1C1D1E1F20) [])
  pub ad_1_q_err_lpe : causes_at_a_last_position_1 (answer (Q + ERR + LPE) 0x345678)
      ≡ wants_none (state_of (ended 1 0 0 0 0 2 0 2 0x90E60080 0 0 2) (hex 16 0x1112131415161718191A1B1C1D1E1F20) [])
  pub ad_1_x_err_lpe : causes_at_a_last_position_1 (answer (X + ERR + LPE) 0x345678)
      ≡ wants_none (state_of (ended 1 0 0 0 0 2 0 2 0x90E50080 0 0 2) (hex 16 0x1112131415161718191A1B1C1D1E1F20) [])
  pub ad_1_q_x_err_lpe : causes_at_a_last_position_1 (answer (Q + X + ERR + LPE) 0x345678)
      ≡ wants_none (state_of (ended 1 0 0 0 0 8 0 2 0x90E40080 0 4 4) (hex 16 0x11120000785634C0191A1B1C1D1E1F20) [])
