-- A list that refusals 1 to 10 don't refuse is sound: every check that could say otherwise came out false. Its try limit is 1 to 65,535,
-- its instructions are at most 4,096, and each is as Sound says.
use Prim.Native.Nat.{ℕ, zero, suc, ◌+◌, ◌%◌, ◌≤◌, ◌<◌}
use mathlib.Core.Path.{◌≡◌, refl, sym, ap, ◌∙◌, subst}
use mathlib.Core.Logic.{◌⊎◌, inl, inr}
use mathlib.Core.Bool.{Bool, true, false, ◌&&◌, ◌||◌, not}
use mathlib.Core.List.{List, [], ◌∷◌}
use mathlib.Core.Option.{Option, none, some}
use native.Mathlib.Omega.{arith}
use borrow.Author.Tests.{leb-true, leb-false, ltb-false, eqb-false, not-false}
use lib.Dec.{leb, ltb, eqb}
use lib.ListN.{length}
use Rattle.std.specs.Prelude.{if◌then◌else◌}
use Rattle.base.specs.Checks.{◌gives◌}
use Rattle.camac.specs.Words.{mode_in, qmode_in, address_in, wide_in, halfwords, block_words, transfer_in, command_in, address_of, words_of, is_scan_in, zero_bit_set, bad_address, bad_mode, bad_count, above_word, bad_second, above_p, camac_fault, decoded_by, decode_of}
use Rattle.qmodes.specs.Modes.{is_scan}
use Rattle.camac.proofs.BitLaws.{command_qmode, command_address}
use Rattle.qmodes.specs.declared.modes.QMode.{QMode}
use Rattle.qmodes.specs.declared.modes.QMode.TheVariants.{Scan}
use Rattle.camac.specs.declared.words.Address.{Address}
use Rattle.camac.specs.declared.words.Transfer.{Transfer}
use Rattle.camac.specs.declared.words.Command.{Command}
use Rattle.base.proofs.Bools.{and_left, and_right, or_false_left, or_false_right, or_first}
use Rattle.base.proofs.Checks.{passed}
use Rattle.base.proofs.Tests.{on}
use Rattle.base.specs.Bytes.{byte_at, short_at, long_at, Bytes}
use Rattle.listfile.specs.Fields.{body_length, next_field, tag_at, first_at, second_at, head_fault, carried_by, body_of, after_head, field_of, first_fault, Field, Fields, faulty, fields, joined, fields_from, first_bad_jump, Program, program, after_jumps, after_fields, after_first, program_of}
use Rattle.listfile.specs.declared.field.Instruction.{Instruction}
use Rattle.listfile.specs.declared.field.Instruction.TheVariants.{Camac, Jump, Literal, Halt}
use Rattle.std.specs.Prelude.{Result, Ok, Err}
use Rattle.listfile.specs.declared.field.Tag.{Tag}
use Rattle.listfile.specs.declared.field.Tag.TheVariants.{CamacTag, JumpTag, LiteralTag, HaltTag, UnknownTag}
use Rattle.listfile.proofs.FirstLaws.{first_limit}
use Rattle.listfile.proofs.FieldLaws.{field_lies}
use Rattle.listfile.proofs.Unrolled.{fields_none, fields_end, fields_on}
use Rattle.listfile.proofs.Sound.{SoundScan, SoundCommand, SoundInstruction, SoundFields}

-- Numbers ----------------------------------------------------------------------------------------------------------------

short_most : (list : List ℕ) (i : ℕ) → Bytes list → short_at list i < 65536
unfolding short_at byte_at
short_most list i hb = omega (arith, hb i, hb (i + 1))

long_most : (list : List ℕ) (i : ℕ) → Bytes list → long_at list i < 4294967296
unfolding long_at
long_most list i hb = omega (arith, short_most list i hb, short_most list (i + 2) hb)

second_most : (list : List ℕ) (at : ℕ) → Bytes list → second_at list at < 4294967296
unfolding second_at
second_most list at hb = go (eqb (body_length list at) 8)
  where
    go : (b : Bool) → (if b then long_at list (at + 7) else 0) < 4294967296
    go true = long_most list (at + 7) hb
    go false = omega arith

-- A CAMAC instruction ----------------------------------------------------------------------------------------------------

-- a block that passes 9 wants 1 to 65,536 words
block_words_lem : (wide : Bool) (second : ℕ) → second < 4294967296 → bad_count wide second ≡ false
    → (1 ≤ block_words wide second) × (block_words wide second ≤ 65536)
unfolding block_words
block_words_lem false second h e =
    let most : halfwords second ≤ 65536 = ltb-false 65536 (halfwords second) (or_false_left _ _ (or_false_right (eqb second 0) _ e)) in
    (omega arith, most)
block_words_lem true second h e =
    let rest : (ltb 65536 (halfwords second) || eqb (halfwords second % 2) 1) ≡ false = or_false_right (eqb second 0) _ e in
    let most : halfwords second ≤ 65536 = ltb-false 65536 (halfwords second) (or_false_left _ _ rest) in
    let even : ¬ (halfwords second % 2 ≡ 1) = eqb-false _ _ (or_false_right (ltb 65536 (halfwords second)) _ rest) in
    (omega arith, omega arith)

transfer_words : (mode : ℕ) (q : QMode) (a : Address) (wide : Bool) (second : ℕ) → second < 4294967296
    → (((eqb mode 1 || eqb mode 2) && bad_count wide second) || (eqb mode 3 && above_word wide second)) ≡ false
    → (1 ≤ words_of (transfer_in mode q a wide second)) × (words_of (transfer_in mode q a wide second) ≤ 65536)
unfolding words_of transfer_in
transfer_words zero q a wide second h e = (omega arith, omega arith)
transfer_words (suc zero) q a wide second h e = block_words_lem wide second h (or_false_left _ _ e)
transfer_words (suc (suc zero)) q a wide second h e = block_words_lem wide second h (or_false_left _ _ e)
transfer_words (suc (suc (suc k))) q a wide second h e = (omega arith, omega arith)

-- a scan that passes 7 and 9
scan_sound : (first : ℕ) (t : Transfer) → address_of t ≡ address_in first → bad_address first ≡ false → (is_scan_in first && above_p t) ≡ false
    → qmode_in first ≡ Scan → SoundScan t
unfolding address_in
scan_sound first t same address far q =
    let n : ℕ = (address_in first).station in
    let crate : ℕ = (address_in first).crate_number in
    let known : Bool = (leb 1 n && leb n 23) || eqb n 30 in
    let scan : is_scan_in first ≡ true = ap is_scan q in
    let station : (not known || (is_scan_in first && eqb n 30)) ≡ false = or_false_right (not (leb 1 crate && leb crate 62)) _ address in
    let other : eqb n 30 ≡ false = rw scan at (or_false_right (not known) _ station) in
    let within : leb 1 n && leb n 23 ≡ true = or_first _ (eqb n 30) other (not-false known (or_false_left _ _ station)) in
    record {
      station_least = rw same (leb-true 1 n (and_left _ _ within));
      station_most = rw same (leb-true n 23 (and_right (leb 1 n) _ within));
      subaddress_most = rw same (omega arith);
      room = ltb-false _ _ (rw scan at far);
    }

command_sound : (len first second : ℕ) → second < 4294967296 → camac_fault len first second ≡ 0 → SoundCommand (command_in first second)
unfolding camac_fault command_in
command_sound len first second h e =
    let t : Transfer = (command_in first second).transfer in
    let nine : Bool = bad_second first second || (is_scan_in first && above_p t) in
    let c = passed (zero_bit_set first gives 6 ∷ bad_address first gives 7 ∷ bad_mode len first gives 8 ∷ nine gives 9 ∷ []) (omega arith) e in
    let address : bad_address first ≡ false = c.1.0 in
    let not-nine : nine ≡ false = c.1.1.1.0 in
    let words = transfer_words (mode_in first) (qmode_in first) (address_in first) (wide_in first) second h (or_false_left _ _ not-nine) in
    record {
      words_least = words.0;
      words_most = words.1;
      scan = λ q. scan_sound first t (command_address first second) address (or_false_right (bad_second first second) _ not-nine)
          (sym (command_qmode first second) ∙ q);
    }

decode_sound : (len first second : ℕ) (c : Command) → second < 4294967296 → decode_of len first second ≡ Ok c → SoundCommand c
unfolding decode_of
decode_sound len first second c h e = go (camac_fault len first second) refl e
  where
    go : (n : ℕ) → camac_fault len first second ≡ n → decoded_by n (command_in first second) ≡ Ok c → SoundCommand c
    go zero q e = let same : command_in first second ≡ c = cc in subst SoundCommand same (command_sound len first second h q)
    go (suc n) q e = let z : ◌≡◌ {A = ℕ} 0 1 = cc in absurd (omega arith)

-- One field --------------------------------------------------------------------------------------------------------------

body_sound : (tag : Tag) (list : List ℕ) (at : ℕ) (i : Instruction) → Bytes list → body_of tag list at ≡ Ok i → SoundInstruction i
unfolding body_of
body_sound CamacTag list at i hb e = go (decode_of (body_length list at) (first_at list at) (second_at list at)) refl e
  where
    go : (x : Result Command ℕ) → decode_of (body_length list at) (first_at list at) (second_at list at) ≡ x → carried_by x ≡ Ok i → SoundInstruction i
    go (Ok c) q e =
        let same : Camac c ≡ i = cc in
        subst SoundInstruction same (decode_sound (body_length list at) (first_at list at) (second_at list at) c (second_most list at hb) q)
    go (Err n) q e = let z : ◌≡◌ {A = ℕ} 0 1 = cc in absurd (omega arith)
body_sound JumpTag list at i hb e = let same : Jump (short_at list (at + 3)) ≡ i = cc in subst SoundInstruction same tt
body_sound LiteralTag list at i hb e = let same : Literal (long_at list (at + 3)) ≡ i = cc in subst SoundInstruction same tt
body_sound HaltTag list at i hb e = let same : Halt ≡ i = cc in subst SoundInstruction same tt
body_sound UnknownTag list at i hb e = let z : ◌≡◌ {A = ℕ} 0 1 = cc in absurd (omega arith)

field_sound : (list : List ℕ) (at count : ℕ) (i : Instruction) → Bytes list → field_of list at count ≡ Ok i → SoundInstruction i
unfolding field_of
field_sound list at count i hb e = go (head_fault list at count) e
  where
    go : (n : ℕ) → after_head n (body_of (tag_at list at) list at) ≡ Ok i → SoundInstruction i
    go zero e = body_sound (tag_at list at) list at i hb e
    go (suc n) e = let z : ◌≡◌ {A = ℕ} 0 1 = cc in absurd (omega arith)

-- All fields -------------------------------------------------------------------------------------------------------------

-- what stands behind a row of fields whose first is at `at`
record FieldThen (list : List ℕ) (at count : ℕ) (rest : Fields) (fs : List Field) : Type 0 where
  instruction : Instruction
  others : List Field
  read : field_of list at count ≡ Ok instruction
  after : rest ≡ fields others
  row : record { place = at; instruction = instruction } ∷ others ≡ fs

field_then : (list : List ℕ) (at count : ℕ) (rest : Fields) (fs : List Field) → joined at (field_of list at count) rest ≡ fields fs
    → FieldThen list at count rest fs
field_then list at count rest fs e = go (field_of list at count) refl rest refl e
  where
    go : (x : Result Instruction ℕ) → field_of list at count ≡ x → (y : Fields) → rest ≡ y → joined at x y ≡ fields fs → FieldThen list at count rest fs
    go (Ok i) p (faulty r) q e = let z : ◌≡◌ {A = ℕ} 0 1 = cc in absurd (omega arith)
    go (Ok i) p (fields others) q e = record { instruction = i; others = others; read = p; after = q; row = cc }
    go (Err n) p y q e = let z : ◌≡◌ {A = ℕ} 0 1 = cc in absurd (omega arith)

-- the fields from a place on: none there, or one and those behind it
fields_cases : (fuel : ℕ) (list : List ℕ) (at count : ℕ) (fs : List Field) → fields_from (suc fuel) list at count ≡ fields fs
    → (fs ≡ []) ⊎ FieldThen list at count (fields_from fuel list (next_field list at) (count + 1)) fs
fields_cases fuel list at count fs e =
    on (leb (length list) at)
    (λ h. inl (let none : fields [] ≡ fields fs = sym (fields_end fuel list at count (leb-true _ _ h)) ∙ e in cc))
    (λ h. inr (field_then list at count _ fs (sym (fields_on fuel list at count (leb-false _ _ h)) ∙ e)))

fields_sound : (fuel : ℕ) (list : List ℕ) (at count : ℕ) (fs : List Field) → Bytes list → fields_from fuel list at count ≡ fields fs → SoundFields fs
fields_sound zero list at count fs hb e = let n = sym (fields_none list at count) ∙ e in let z : ◌≡◌ {A = ℕ} 0 1 = cc in absurd (omega arith)
fields_sound (suc fuel) list at count fs hb e =
    go (fields_cases fuel list at count fs e) (λ gs. fields_sound fuel list (next_field list at) (count + 1) gs hb)
  where
    go : (fs ≡ []) ⊎ FieldThen list at count (fields_from fuel list (next_field list at) (count + 1)) fs
        → ((gs : List Field) → fields_from fuel list (next_field list at) (count + 1) ≡ fields gs → SoundFields gs) → SoundFields fs
    go (inl none_left) ih = subst SoundFields (sym none_left) tt
    go (inr x) ih = subst SoundFields x.row (field_sound list at count x.instruction hb x.read, ih x.others x.after)

fields_count : (fuel : ℕ) (list : List ℕ) (at count : ℕ) (fs : List Field) → count ≤ 4096 → fields_from fuel list at count ≡ fields fs
    → count + length fs ≤ 4096
fields_count zero list at count fs h e = let n = sym (fields_none list at count) ∙ e in let z : ◌≡◌ {A = ℕ} 0 1 = cc in absurd (omega arith)
fields_count (suc fuel) list at count fs h e =
    go (fields_cases fuel list at count fs e) (λ gs. fields_count fuel list (next_field list at) (count + 1) gs)
  where
    go : (fs ≡ []) ⊎ FieldThen list at count (fields_from fuel list (next_field list at) (count + 1)) fs
        → ((gs : List Field) → count + 1 ≤ 4096 → fields_from fuel list (next_field list at) (count + 1) ≡ fields gs → count + 1 + length gs ≤ 4096)
        → count + length fs ≤ 4096
    go (inl none_left) ih = rw none_left (omega arith)
    go (inr x) ih =
        let below : count < 4096 = (field_lies list at count x.instruction x.read).few in
        let others : count + 1 + length x.others ≤ 4096 = ih x.others (omega arith) x.after in
        rw (← x.row) (omega arith)

-- The list ---------------------------------------------------------------------------------------------------------------

-- a program's try limit stands in the first field, which passed 2, and its fields are those behind it
record Listing (list : List ℕ) (p : Program) : Type 0 where
  limit : short_at list 5 ≡ p.limit
  limit_least : 1 ≤ short_at list 5
  rest : fields_from (length list) list 7 0 ≡ fields p.fields

listing : (list : List ℕ) (p : Program) → program_of list ≡ program p → Listing list p
unfolding program_of
listing list p e = at_first (first_fault list) refl e
  where
    at_jumps : (fs : List Field) → fields_from (length list) list 7 0 ≡ fields fs → first_fault list ≡ 0 → (x : Option ℕ)
        → after_jumps (short_at list 5) fs x ≡ program p → Listing list p
    at_jumps fs q c none e =
        let same : record { limit = short_at list 5; fields = fs } ≡ p = cc in
        record {
          limit = ap (λ (p : Program). p.limit) same;
          limit_least = first_limit list c;
          rest = q ∙ ap (λ (p : Program). fields p.fields) same;
        }
    at_jumps fs q c (some place) e = let z : ◌≡◌ {A = ℕ} 0 1 = cc in absurd (omega arith)

    at_fields : (x : Fields) → fields_from (length list) list 7 0 ≡ x → first_fault list ≡ 0 → after_fields (short_at list 5) x ≡ program p
        → Listing list p
    at_fields (faulty r) q c e = let z : ◌≡◌ {A = ℕ} 0 1 = cc in absurd (omega arith)
    at_fields (fields fs) q c e = at_jumps fs q c (first_bad_jump (length fs) fs) e

    at_first : (n : ℕ) → first_fault list ≡ n → after_first n list ≡ program p → Listing list p
    at_first zero c e = at_fields (fields_from (length list) list 7 0) refl c e
    at_first (suc n) c e = let z : ◌≡◌ {A = ℕ} 0 1 = cc in absurd (omega arith)

pub program_sound : (list : List ℕ) (p : Program) → Bytes list → program_of list ≡ program p
    → (1 ≤ p.limit) × ((p.limit < 65536) × SoundFields p.fields)
program_sound list p hb e =
    let x = listing list p e in (
      omega (arith, x.limit, x.limit_least),
      (omega (arith, x.limit, short_most list 5 hb), fields_sound (length list) list 7 0 p.fields hb x.rest),
    )

pub program_count : (list : List ℕ) (p : Program) → program_of list ≡ program p → length p.fields ≤ 4096
program_count list p e = omega (arith, fields_count (length list) list 7 0 p.fields (omega arith) (listing list p e).rest)
