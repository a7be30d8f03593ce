-- Document 01's cases K1 to K12 and its worked run of camrun, as equations over the definitions. Lists are given as bytes.
use Rattle.std.specs.Prelude.{ℕ, ◌*◌, ◌≡◌, true, false, List, [], ◌∷◌, ◌++◌, replicate, Ok}
use Rattle.base.specs.Refusals.{not_refused}
use Rattle.qmodes.specs.Scan.{positions, stations}
use Rattle.camac.specs.Words.{words_of, direction_of, position_of, decode_of}
use Rattle.qmodes.specs.declared.modes.QMode.TheVariants.{Stop, Ignore, Scan}
use Rattle.camac.specs.declared.words.Transfer.TheVariants.{Single, Block}
use Rattle.camac.specs.declared.words.Command.{Command}
use Rattle.camac.specs.declared.words.Direction.{Direction}
use Rattle.camac.specs.declared.words.Direction.TheVariants.{Incoming}
use Rattle.packing.specs.Packing.{bytes_of}
use Rattle.walk.specs.Admission.{admit_of, numbers_of}
use Rattle.reply.specs.Status.{code_in}
use Rattle.calls.specs.Calls.{start_of, RunThrough, run_of}

-- Fields -----------------------------------------------------------------------------------------------------------------

-- the first field, with R
abbrev pub first_field : ℕ → List ℕ
first_field limit = 0x01 ∷ 4 ∷ 0 ∷ 1 ∷ 0 ∷ bytes_of false limit

-- CAMAC instructions of one longword and of two
abbrev pub single : ℕ → List ℕ
single first = 0x10 ∷ 4 ∷ 0 ∷ bytes_of true first

abbrev pub block : ℕ → ℕ → List ℕ
block first second = 0x10 ∷ 8 ∷ 0 ∷ bytes_of true first ++ bytes_of true second

abbrev pub jump : ℕ → List ℕ
jump target = 0x20 ∷ 2 ∷ 0 ∷ bytes_of false target

abbrev pub literal : ℕ → List ℕ
literal v = 0x21 ∷ 4 ∷ 0 ∷ bytes_of true v

abbrev pub halt : List ℕ
halt = 0x2F ∷ 0 ∷ 0 ∷ []

-- First longwords of K7 to K9, with K1's crate, N, A and F: "transfer mode 6–5; Q-mode 4–3; bit 1 set for 16-bit words"
abbrev pub single16 : ℕ
single16 = 0x02000102

abbrev pub single24 : ℕ
single24 = 0x02000100

abbrev pub block16 : ℕ
block16 = 0x02000122

abbrev pub repeat_block16 : ℕ
repeat_block16 = 0x02000132

-- What is said of them ---------------------------------------------------------------------------------------------------

-- the numbers of admission, with buffers that no case here outgrows: number and place of a refusal, W, B, O
abbrev pub admission : List ℕ → List ℕ
admission list = numbers_of (admit_of list 65536 65536)

-- the longwords of a field of some length decode to a command; its direction, its words wanted
pub record Decodes (len first second : ℕ) (c : Command) (d : Direction) (n : ℕ) : Type 0 where
  pub command : decode_of len first second ≡ Ok c
  pub direction : direction_of c.transfer ≡ d
  pub words : words_of c.transfer ≡ n

-- K3 to K6: "2DC03E38h is a scan, crate 62, N 22, A 14, 24-bit", of n words
abbrev pub scan_of : ℕ → Command
scan_of n = record {
  transfer = Block Scan (record { crate_number = 62; station = 22; subaddress = 14; function = 0 }) n;
  wide = true;
  ad = false;
}

pub record ScanCase (second n worst : ℕ) : Type 0 where
  pub decodes : Decodes 8 0x2DC03E38 second (scan_of n) Incoming n
  pub positions_18 : positions (position_of (scan_of n).transfer) ≡ 18
  pub stations_2 : stations (position_of (scan_of n).transfer) ≡ 2
  pub counts : admission (first_field 1 ++ block 0x2DC03E38 second ++ halt) ≡ 0 ∷ 0 ∷ worst ∷ n * 4 ∷ 0 ∷ []

-- camrun's files run.lst and run.rep; run.out is empty
abbrev pub run_list : List ℕ
run_list = 0x01 ∷ 0x04 ∷ 0x00 ∷ 0x01 ∷ 0x00 ∷ 0x03 ∷ 0x00 ∷ 0x10 ∷ 0x04 ∷ 0x00 ∷ 0x02 ∷ 0x01 ∷ 0x00 ∷ 0x02 ∷ 0x2F ∷ 0x00 ∷ 0x00 ∷ []

abbrev pub run_replies : List ℕ
run_replies = 0x00 ∷ 0x03 ∷ 0x00 ∷ 0x00 ∷ 0x34 ∷ 0x12 ∷ 0x00 ∷ 0x00 ∷ []

-- "with 65,536 zero incoming bytes"
abbrev pub zeros : List ℕ
zeros = replicate 65536 0

pub record RunEnds (x : RunThrough) : Type 0 where
  pub not_refused_lem : x.refusal ≡ not_refused
  pub taken : x.taken ≡ 1
  pub ended : x.state.run.ended ≡ true
  pub code : code_in x.state.run.status ≡ 0
  pub status : x.state.run.status ≡ 0x00000080
  pub operations : x.state.run.operations ≡ 1
  pub mark : x.state.run.marks.incoming ≡ 2
  pub bytes : x.state.incoming ≡ 0x34 ∷ 0x12 ∷ replicate 65534 0

-- The cases --------------------------------------------------------------------------------------------------------------

pub record Cases : Type 0 where
  -- "02000102h: crate 1, N 1, A 0, F 0, single, stop, 16-bit"
  pub k1 : Decodes 4 0x02000102 0
      (record {
        transfer = Single Stop (record { crate_number = 1; station = 1; subaddress = 0; function = 0 });
        wide = false;
        ad = false;
      })
      Incoming 1
  -- "0E40052Ah, FFFFFFFDh: crate 5, N 7, A 2, ignore block, n = 3"
  pub k2 : Decodes 8 0x0E40052A 0xFFFFFFFD
      (record {
        transfer = Block Ignore (record { crate_number = 5; station = 7; subaddress = 2; function = 0 }) 3;
        wide = false;
        ad = false;
      })
      Incoming 3
  -- "P 18, S 2. n = 1, 4, 17, 18 give 2, 5, 18, 18": H is 2, 8, 34, 36
  pub k3 : ScanCase 0xFFFFFFFE 1 2
  pub k4 : ScanCase 0xFFFFFFF8 4 5
  pub k5 : ScanCase 0xFFFFFFDE 17 18
  pub k6 : ScanCase 0xFFFFFFDC 18 18
  -- "n = 19 is refused, 9", at the field's first byte
  pub k6_refused : admission (first_field 1 ++ block 0x2DC03E38 0xFFFFFFDA ++ halt) ≡ 9 ∷ 7 ∷ 0 ∷ 0 ∷ 0 ∷ []
  -- "repeat block, n = 2, R = 3: W 6"
  pub k7 : admission (first_field 3 ++ block repeat_block16 0xFFFFFFFE ++ halt) ≡ 0 ∷ 0 ∷ 6 ∷ 4 ∷ 0 ∷ []
  -- "three 16-bit, one 24-bit, two 16-bit words: B 16"
  pub k8 : admission (first_field 1 ++ block block16 0xFFFFFFFD ++ single single24 ++ block block16 0xFFFFFFFE ++ halt)
      ≡ 0 ∷ 0 ∷ 6 ∷ 16 ∷ 0 ∷ []
  -- "one 16-bit word, a literal: B 8"
  pub k9 : admission (first_field 1 ++ single single16 ++ literal 0x12345678 ++ halt) ≡ 0 ∷ 0 ∷ 1 ∷ 8 ∷ 0 ∷ []
  -- "halt alone: W 0, start ends", with code 0
  pub k10 : admission (first_field 1 ++ halt) ≡ 0 ∷ 0 ∷ 0 ∷ 0 ∷ 0 ∷ []
  pub k10_not_refused : (start_of (first_field 1 ++ halt) [] []).refusal ≡ not_refused
  pub k10_ended : (start_of (first_field 1 ++ halt) [] []).state.run.ended ≡ true
  pub k10_code : code_in (start_of (first_field 1 ++ halt) [] []).state.run.status ≡ 0
  -- "first field alone: 11. Empty file: 2"
  pub k11 : admission (first_field 1) ≡ 11 ∷ 0 ∷ 0 ∷ 0 ∷ 0 ∷ []
  pub k11_empty : admission [] ≡ 2 ∷ 0 ∷ 0 ∷ 0 ∷ 0 ∷ []
  -- "jump to itself: 11"
  pub k12 : admission (first_field 1 ++ jump 0) ≡ 11 ∷ 0 ∷ 0 ∷ 0 ∷ 0 ∷ []
  -- "admitted 1 2 0"; "op 1 1 1 0 0": crate 1, N 1, A 0, F 0; "end 0 00000080 1 2": code, status, operations, incoming mark
  pub camrun_admitted : numbers_of (admit_of run_list 65536 0) ≡ 0 ∷ 0 ∷ 1 ∷ 2 ∷ 0 ∷ []
  pub camrun_operation : (start_of run_list zeros []).wanted ≡ record { crate_number = 1; station = 1; subaddress = 0; function = 0; word = 0; enhanced = false }
  pub camrun_end : RunEnds (run_of run_list zeros [] run_replies)
