-- The parts of an instruction decoded, by the bits of its longwords. The transfer mode decides which words and buffer it has; F's 8-bit and
-- 16-bit lie side by side in the first longword; refusal 8 leaves no inline instruction but a write, and of sequencer mode F 12 alone.
use Prim.Native.Nat.{ℕ, zero, suc, ◌+◌, ◌*◌, ◌/◌, ◌%◌, ◌^◌, ◌≤◌, ◌<◌}
use mathlib.Core.Path.{◌≡◌, refl, sym, ap, ◌∙◌, subst}
use mathlib.Core.Bool.{Bool, true, false, ◌&&◌, ◌||◌, not, and-false}
use mathlib.Core.List.{[], ◌∷◌}
use native.Mathlib.Omega.{arith}
use borrow.Author.Tests.{eq-eqb, ne_eqb, lt-ltb, le-ltb, eqb-true, eqb-false, not-false}
use lib.Dec.{eqb}
use Rattle.std.specs.Prelude.{if◌then◌else◌}
use Rattle.base.specs.Checks.{◌gives◌, bit}
use Rattle.base.proofs.Bools.{and_left, and_right, or_false_left, or_false_right}
use Rattle.base.proofs.Checks.{passed}
use Rattle.base.proofs.Tests.{on}
use Rattle.qmodes.specs.Scan.{positions}
use Rattle.camac.specs.Words.{mode_in, is_block_in, qmode_bits, qmode_numbered, is_sequencer_in, qmode_in, address_in, wide_in, ad_in, is_control, is_write, block_words, transfer_in, command_in, qmode_of, address_of, words_of, direction_by, direction_by_a, enhanced_direction, direction_of, is_scan_in, zero_bit_set, bad_address, is_sequencer_at, bad_enhanced, bad_mode, bad_second, above_p, camac_fault}
use Rattle.camac.specs.model.Bits.{Passes}
use Rattle.qmodes.specs.declared.modes.QMode.{QMode}
use Rattle.camac.specs.declared.words.Address.{Address}
use Rattle.camac.specs.declared.words.Transfer.TheVariants.{Single}
use Rattle.camac.specs.declared.words.Direction.{Direction}
use Rattle.camac.specs.declared.words.Direction.TheVariants.{Incoming, Outgoing, Neither}

-- Parts of the instruction -----------------------------------------------------------------------------------------------------

pub command_qmode : (first second : ℕ) → qmode_of (command_in first second).transfer ≡ qmode_in first
unfolding command_in qmode_of transfer_in
command_qmode first second = go (mode_in first) (qmode_in first) (address_in first) (wide_in first)
  where
    go : (mode : ℕ) (q : QMode) (a : Address) (wide : Bool) → qmode_of (transfer_in mode q a wide second) ≡ q
    go zero q a wide = refl
    go (suc zero) q a wide = refl
    go (suc (suc zero)) q a wide = refl
    go (suc (suc (suc k))) q a wide = refl

pub command_address : (first second : ℕ) → address_of (command_in first second).transfer ≡ address_in first
unfolding command_in address_of transfer_in
command_address first second = go (mode_in first) (qmode_in first) (address_in first) (wide_in first)
  where
    go : (mode : ℕ) (q : QMode) (a : Address) (wide : Bool) → address_of (transfer_in mode q a wide second) ≡ a
    go zero q a wide = refl
    go (suc zero) q a wide = refl
    go (suc (suc zero)) q a wide = refl
    go (suc (suc (suc k))) q a wide = refl

pub command_wide : (first second : ℕ) → (command_in first second).wide ≡ wide_in first
unfolding command_in
command_wide first second = refl

pub command_ad : (first second : ℕ) → (command_in first second).ad ≡ ad_in first
unfolding command_in
command_ad first second = refl

pub command_words : (first second : ℕ)
    → words_of (command_in first second).transfer ≡ (if is_block_in first then block_words (wide_in first) second else 1)
unfolding command_in words_of transfer_in
command_words first second = go (mode_in first) (qmode_in first) (address_in first) (wide_in first)
  where
    go : (mode : ℕ) (q : QMode) (a : Address) (wide : Bool)
        → words_of (transfer_in mode q a wide second) ≡ (if eqb mode 1 || eqb mode 2 then block_words wide second else 1)
    go zero q a wide = refl
    go (suc zero) q a wide = refl
    go (suc (suc zero)) q a wide = refl
    go (suc (suc (suc k))) q a wide = rw (ne_eqb (suc (suc (suc k))) 1 (λ e. omega arith), ne_eqb (suc (suc (suc k))) 2 (λ e. omega arith))

pub command_few : (first second : ℕ) → words_of (command_in first second).transfer ≤ 4294967296
unfolding block_words
command_few first second = rw (command_words first second) (go (is_block_in first) (wide_in first))
  where
    go : (block wide : Bool) → (if block then block_words wide second else 1) ≤ 4294967296
    go true true = omega arith
    go true false = omega arith
    go false wide = omega arith

-- the direction by the transfer mode
abbrev direction_in : ℕ → Address → Direction
direction_in zero a = direction_by a.function
direction_in (suc zero) a = direction_by a.function
direction_in (suc (suc zero)) a = enhanced_direction a
direction_in (suc (suc (suc k))) a = Neither

command_direction : (first second mode : ℕ) → mode_in first ≡ mode
    → direction_of (command_in first second).transfer ≡ direction_in mode (address_in first)
unfolding command_in direction_of transfer_in
command_direction first second mode m =
    go (mode_in first) (qmode_in first) (address_in first) (wide_in first) (omega arith) ∙ ap (λ (k : ℕ). direction_in k (address_in first)) m
  where
    go : (mode : ℕ) (q : QMode) (a : Address) (wide : Bool) → mode < 4 → direction_of (transfer_in mode q a wide second) ≡ direction_in mode a
    go zero q a wide h = refl
    go (suc zero) q a wide h = refl
    go (suc (suc zero)) q a wide h = refl
    go (suc (suc (suc zero))) q a wide h = refl
    go (suc (suc (suc (suc k)))) q a wide h = absurd (omega arith)

-- whatever the second longword
pub direction_second : (first second : ℕ) → direction_of (command_in first second).transfer ≡ direction_of (command_in first 0).transfer
direction_second first second = command_direction first second (mode_in first) refl ∙ sym (command_direction first 0 (mode_in first) refl)

mode_bits : (first : ℕ) → mode_in first ≡ first / 32 % 2 + first / 64 % 2 * 2
mode_bits first = omega arith

-- transfer mode and Q-mode as one number
pub both_bits : (first mode q : ℕ) → (mode < 4) × (q < 4) → eqb (first / 8 % 16) (mode * 4 + q) ≡ eqb (mode_in first) mode && eqb (qmode_bits first) q
both_bits first mode q h =
    on (eqb (mode_in first) mode)
    (λ m. on (eqb (qmode_bits first) q)
    (λ e. let a = eqb-true (mode_in first) mode m in let b = eqb-true (qmode_bits first) q e in
    rw (m, e, eq-eqb (first / 8 % 16) (mode * 4 + q) (omega (arith, both))))
    (λ e. rw (m, e, ne_eqb (first / 8 % 16) (mode * 4 + q) (λ x. eqb-false (qmode_bits first) q e (omega (arith, both))))))
    (λ m. rw (m, ne_eqb (first / 8 % 16) (mode * 4 + q) (λ x. eqb-false (mode_in first) mode m (omega (arith, both)))))
  where
    both : first / 8 % 16 ≡ first / 32 % 4 * 4 + first / 8 % 4
    both = omega arith

-- By the function ----------------------------------------------------------------------------------------------------------

-- of an enhanced block whose function is no control
pub by_function : (a : Address) → is_control a.function ≡ false → enhanced_direction a ≡ direction_by a.function
by_function a e =
    subst (λ (b : Bool). (if b then direction_by_a a.subaddress else direction_by a.function) ≡ direction_by a.function) (sym e) refl

-- F's 8-bit and 16-bit lie side by side
module _ (first : ℕ) where
  control : first / 524288 % 2 ≡ 1 → is_control (address_in first).function ≡ true
  unfolding address_in
  control e = eq-eqb (first / 65536 % 32 / 8 % 2) 1 (omega arith)

  no_control : first / 524288 % 2 ≡ 0 → is_control (address_in first).function ≡ false
  unfolding address_in
  no_control e = ne_eqb (first / 65536 % 32 / 8 % 2) 1 (λ q. omega arith)

  enhanced_data : first / 524288 % 2 ≡ 0 → enhanced_direction (address_in first) ≡ direction_by (address_in first).function
  enhanced_data e = by_function (address_in first) (no_control e)

  write_data : first / 524288 % 4 ≡ 2 → first / 524288 % 2 ≡ 0
  write_data e = omega arith

  -- neither bit
  read_direction : first / 524288 % 4 ≡ 0 → direction_by (address_in first).function ≡ Incoming
  unfolding address_in
  read_direction e =
      let sixteen : eqb (first / 65536 % 32 / 16 % 2) 1 ≡ false = ne_eqb (first / 65536 % 32 / 16 % 2) 1 (λ q. omega arith) in
      rw (no_control (omega arith), sixteen)

  -- the 16-bit alone
  write_direction : first / 524288 % 4 ≡ 2 → direction_by (address_in first).function ≡ Outgoing
  unfolding address_in
  write_direction e =
      let sixteen : eqb (first / 65536 % 32 / 16 % 2) 1 ≡ true = eq-eqb (first / 65536 % 32 / 16 % 2) 1 (omega arith) in
      rw (no_control (omega arith), sixteen)

-- What a field that passed shows ---------------------------------------------------------------------------------------------

passes_zero : (len first second : ℕ) → camac_fault len first second ≡ 0 → zero_bit_set first ≡ false
unfolding camac_fault
passes_zero len first second e =
    (passed (
    zero_bit_set first gives 6
    ∷ bad_address first gives 7
    ∷ bad_mode len first gives 8
    ∷ (bad_second first second || (is_scan_in first && above_p (command_in first second).transfer)) gives 9
    ∷ []
    ) (omega arith) e).0

bit_none : (x : ℕ) → x < 2 → ¬ (x % 2 ≡ 1) → x ≡ 0
bit_none zero h e = refl
bit_none (suc zero) h e = absurd (e refl)
bit_none (suc (suc x)) h e = absurd (omega arith)

-- bits 31 and 30 are zero
pub passes_top : (first : ℕ) → Passes first → first < 2 ^ 32 → first < 2 ^ 30
passes_top first p h =
    let zeros : zero_bit_set first ≡ false = passes_zero p.len first p.second p.right in
    let high : ¬ (first / 2 ^ 31 % 2 ≡ 1) = eqb-false _ _ (or_false_left (bit 31 first) _ zeros) in
    let next : ¬ (first / 2 ^ 30 % 2 ≡ 1) = eqb-false _ _ (or_false_left (bit 30 first) _ (or_false_right (bit 31 first) _ zeros)) in
    let two : first / 2 ^ 31 < 2 = omega arith in
    let none = bit_none (first / 2 ^ 31) two high in
    let lower : first / 2 ^ 30 < 2 = omega arith in
    let nought = bit_none (first / 2 ^ 30) lower next in
    omega arith

passes_mode : (len first second : ℕ) → camac_fault len first second ≡ 0 → bad_mode len first ≡ false
unfolding camac_fault
passes_mode len first second e =
    (passed (
    zero_bit_set first gives 6
    ∷ bad_address first gives 7
    ∷ bad_mode len first gives 8
    ∷ (bad_second first second || (is_scan_in first && above_p (command_in first second).transfer)) gives 9
    ∷ []
    ) (omega arith) e).1.1.0

-- two longwords wherever it is no single
pub passes_long : (len first second : ℕ) → camac_fault len first second ≡ 0 → ¬ (mode_in first ≡ 0) → len ≡ 8
passes_long len first second e m =
    let length : eqb len (if eqb (mode_in first) 0 then 4 else 8) ≡ true = not-false _ (or_false_left _ _ (passes_mode len first second e)) in
    eqb-true len 8 (rw (ne_eqb (mode_in first) 0 m) at length)

module _ (first : ℕ) (p : Passes first) where
  no_block_fault : (eqb (mode_in first) 2 && bad_enhanced first || (eqb (mode_in first) 3 && not (is_write (address_in first).function))) ≡ false
  no_block_fault =
      let length : Bool = not (eqb p.len (if eqb (mode_in first) 0 then 4 else 8)) in
      let control : Bool = eqb (mode_in first) 1 && is_control (address_in first).function in
      or_false_right control _ (or_false_right length _ (passes_mode p.len first p.second p.right))

  passes_enhanced : mode_in first ≡ 2 → bad_enhanced first ≡ false
  passes_enhanced m =
      subst (λ (b : Bool). (b && bad_enhanced first) ≡ false) (eq-eqb (mode_in first) 2 m)
      (or_false_left (eqb (mode_in first) 2 && bad_enhanced first) _ no_block_fault)

  passes_inline : mode_in first ≡ 3 → is_write (address_in first).function ≡ true
  passes_inline m =
      not-false _ (rw (eq-eqb (mode_in first) 3 m) at (or_false_right (eqb (mode_in first) 2 && bad_enhanced first) _ no_block_fault))

  inline_bit : mode_in first ≡ 3 → first / 65536 % 32 / 16 % 2 ≡ 1
  unfolding address_in
  inline_bit m = eqb-true _ _ (and_right (not (is_control (address_in first).function)) _ (passes_inline m))

  -- the list sequencer's F is 12
  sequencer_function : is_sequencer_in first ≡ true → first / 65536 % 32 ≡ 12
  unfolding address_in
  sequencer_function e =
      let enhanced : mode_in first ≡ 2 = eqb-true _ _ (and_left _ _ e) in
      let at : is_sequencer_at (address_in first) ≡ true = not-false _ (rw e at (passes_enhanced enhanced)) in
      eqb-true _ _ (and_left _ _ (and_right (eqb (address_in first).station 30) _ at))

  -- so that a read is none
  pub read_qmode : first / 524288 % 4 ≡ 0 → qmode_in first ≡ qmode_numbered (qmode_bits first)
  read_qmode e =
      on (is_sequencer_in first)
      (λ s. let f : first / 65536 % 32 ≡ 12 = sequencer_function s in absurd (omega arith))
      (λ s. rw s)

-- Numbers of words -------------------------------------------------------------------------------------------------------------

-- a mode that is neither single nor inline
pub block_mode : (first : ℕ) → ¬ (mode_in first ≡ 0) → ¬ (mode_in first ≡ 3) → is_block_in first ≡ true
block_mode first a b = go (mode_in first) refl (omega arith)
  where
    go : (mode : ℕ) → mode_in first ≡ mode → mode < 4 → is_block_in first ≡ true
    go zero m h = absurd (a m)
    go (suc zero) m h = rw m
    go (suc (suc zero)) m h = rw m
    go (suc (suc (suc zero))) m h = absurd (b m)
    go (suc (suc (suc (suc k)))) m h = absurd (omega arith)

pub block_long : (first : ℕ) → is_block_in first ≡ true → ¬ (mode_in first ≡ 0)
block_long first b m = let n : false ≡ true = rw m at b in let z : ◌≡◌ {A = ℕ} 0 1 = cc in omega arith

-- every position has itself left, so that one word is never above P
one_within : (first second : ℕ) → is_block_in first ≡ false → above_p (command_in first second).transfer ≡ false
unfolding positions address_in
one_within first second b =
    rw (command_words first second, command_address first second, b)
    (le-ltb (positions (record { station = (address_in first).station; subaddress = (address_in first).subaddress })) 1 (omega arith))

-- n above P is asked of a standard block alone: any other scan has one word, and the list sequencer is no scan
pub scan_clause : (first second : ℕ)
    → is_scan_in first && above_p (command_in first second).transfer
    ≡ (eqb (mode_in first) 1 && eqb (qmode_bits first) 3) && above_p (command_in first second).transfer
scan_clause first second = go (mode_in first) (qmode_bits first) refl refl (omega arith) (omega arith)
  where
    goal : Type 0
    goal =
        is_scan_in first && above_p (command_in first second).transfer
        ≡ (eqb (mode_in first) 1 && eqb (qmode_bits first) 3) && above_p (command_in first second).transfer

    one : is_block_in first ≡ false → goal
    one b = rw (one_within first second b) (and-false (is_scan_in first) ∙ sym (and-false (eqb (mode_in first) 1 && eqb (qmode_bits first) 3)))

    go : (mode q : ℕ) → mode_in first ≡ mode → qmode_bits first ≡ q → mode < 4 → q < 4 → goal
    go zero q m e h k = one (rw m)
    go (suc (suc (suc zero))) q m e h k = one (rw m)
    go (suc zero) zero m e h k = rw (m, e)
    go (suc zero) (suc zero) m e h k = rw (m, e)
    go (suc zero) (suc (suc zero)) m e h k = rw (m, e)
    go (suc zero) (suc (suc (suc zero))) m e h k = rw (m, e)
    go (suc (suc zero)) zero m e h k = rw (m, e)
    go (suc (suc zero)) (suc zero) m e h k = rw (m, e)
    go (suc (suc zero)) (suc (suc zero)) m e h k = rw (m, e)
    go (suc (suc zero)) (suc (suc (suc zero))) m e h k = rw (m, e)
    go (suc zero) (suc (suc (suc (suc q)))) m e h k = absurd (omega arith)
    go (suc (suc zero)) (suc (suc (suc (suc q)))) m e h k = absurd (omega arith)
    go (suc (suc (suc (suc mode)))) q m e h k = absurd (omega arith)

-- A single --------------------------------------------------------------------------------------------------------------------

pub single_second : (first second : ℕ) → mode_in first ≡ 0
    → record { transfer = Single (qmode_numbered (qmode_bits first)) (address_in first); wide = wide_in first; ad = ad_in first } ≡ command_in first second
unfolding command_in transfer_in
single_second first second m = rw m

pub single_fault : (len first second : ℕ) → zero_bit_set first ≡ false → bad_address first ≡ false → mode_in first ≡ 0
    → camac_fault len first second ≡ (if eqb len 4 then 0 else 8)
unfolding camac_fault
single_fault len first second z a m =
    on (eqb len 4)
    (λ e. rw (z, a, one_within first second (rw m), and-false (is_scan_in first), m, e))
    (λ e. rw (z, a, m, e))

-- The direction --------------------------------------------------------------------------------------------------------------

module _ (first second : ℕ) where
  pub reads_in : Passes first → first / 524288 % 4 ≡ 0 → direction_of (command_in first second).transfer ≡ Incoming
  reads_in p e = go (mode_in first) refl (omega arith)
    where
      go : (mode : ℕ) → mode_in first ≡ mode → mode < 4 → direction_of (command_in first second).transfer ≡ Incoming
      go zero m h = command_direction first second 0 m ∙ read_direction first e
      go (suc zero) m h = command_direction first second 1 m ∙ read_direction first e
      go (suc (suc zero)) m h = command_direction first second 2 m ∙ enhanced_data first (omega arith) ∙ read_direction first e
      go (suc (suc (suc zero))) m h = let set = inline_bit first p m in absurd (omega arith)
      go (suc (suc (suc (suc k)))) m h = absurd (omega arith)

  -- modes 0 and 1
  standard : first / 64 % 2 ≡ 0 → direction_of (command_in first second).transfer ≡ direction_by (address_in first).function
  standard e = go (mode_in first) refl (omega arith)
    where
      go : (mode : ℕ) → mode_in first ≡ mode → mode < 4 → direction_of (command_in first second).transfer ≡ direction_by (address_in first).function
      go zero m h = command_direction first second 0 m
      go (suc zero) m h = command_direction first second 1 m
      go (suc (suc zero)) m h = absurd (omega arith)
      go (suc (suc (suc k))) m h = absurd (omega arith)

  pub standard_none : first / 64 % 2 ≡ 0 → first / 524288 % 2 ≡ 1 → direction_of (command_in first second).transfer ≡ Neither
  standard_none b e = standard b ∙ rw (control first e)

  pub standard_out : first / 64 % 2 ≡ 0 → first / 524288 % 4 ≡ 2 → direction_of (command_in first second).transfer ≡ Outgoing
  standard_out b e = standard b ∙ write_direction first e

  pub inline_none : first / 64 % 2 ≡ 1 → first / 32 % 2 ≡ 1 → direction_of (command_in first second).transfer ≡ Neither
  inline_none b e = command_direction first second 3 (omega (arith, mode_bits first))

  pub enhanced_out : first / 64 % 2 ≡ 1 → first / 32 % 2 ≡ 0 → first / 524288 % 4 ≡ 2
      → direction_of (command_in first second).transfer ≡ Outgoing
  enhanced_out b e f = command_direction first second 2 (omega (arith, mode_bits first)) ∙ enhanced_data first (write_data first f) ∙ write_direction first f

  pub sequencer_in : first / 64 % 2 ≡ 1 → first / 32 % 2 ≡ 0 → first / 524288 % 2 ≡ 1 → first / 2097152 % 16 < 2
      → direction_of (command_in first second).transfer ≡ Incoming
  unfolding address_in
  sequencer_in b e f a = command_direction first second 2 (omega (arith, mode_bits first)) ∙ rw (control first f, lt-ltb _ _ a)

  pub sequencer_out : first / 64 % 2 ≡ 1 → first / 32 % 2 ≡ 0 → first / 524288 % 2 ≡ 1 → 2 ≤ first / 2097152 % 16
      → direction_of (command_in first second).transfer ≡ Outgoing
  unfolding address_in
  sequencer_out b e f a = command_direction first second 2 (omega (arith, mode_bits first)) ∙ rw (control first f, le-ltb _ _ a)
