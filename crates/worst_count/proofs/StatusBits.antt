-- Flags that gather stay among the bits that a waiting record's status may have: `and` with a mask goes through `or`. All flags lie
-- below bit 27 and above bit 7, so that the code and bit 7 of an ended record can be read off its status.
use Prim.Native.Nat.{ℕ, ◌+◌, ◌*◌, ◌/◌, ◌%◌, ◌^◌, ◌≤◌, ◌<◌, min, max}
use mathlib.Core.Path.{◌≡◌, refl, sym, ap, ap₂, ◌∙◌}
use mathlib.Core.Bool.{Bool, true, false, ◌||◌, not}
use native.Mathlib.Omega.{arith}
use borrow.Author.Tests.{eq-eqb, ne_eqb}
use lib.Arith.{bin_ind}
use lib.Bits.{bit_and, bit_or, and_step, or_step, or_shr, and_shr, and_zero_l, and_zero_r, and_le_r, or_zero_l, or_lt, or_mod, and_mod}
use Rattle.std.specs.Prelude.{if◌then◌else◌}
use Rattle.base.specs.Checks.{bit}
use Rattle.camac.specs.Words.{qmode_of}
use Rattle.camac.specs.declared.words.Command.{Command}
use Rattle.qmodes.specs.Modes.{spent, scan_leaves}
use Rattle.reply.specs.Status.{flags_of, code_in, waiting_bits}
use Rattle.qmodes.specs.declared.modes.Answer.{Answer}
use Rattle.reply.specs.declared.records.Record.{Record}
use Rattle.reply.specs.declared.replies.Reply.{Reply}
use Rattle.reply.specs.declared.replies.Reply.TheVariants.{Answered, Timeout, NotRecognised, NoSync}

-- Bits of a mask ---------------------------------------------------------------------------------------------------------

and_odd : (a b : ℕ) → bit_and a b % 2 ≡ min (a % 2) (b % 2)
and_odd a b = omega (arith, and_step a b)

or_odd : (a b : ℕ) → bit_or a b % 2 ≡ max (a % 2) (b % 2)
or_odd a b = omega (arith, or_step a b)

digit : (x y z : ℕ) → min (max x y) z ≡ max (min x z) (min y z)
digit x y z = omega arith

and_or : (m a b : ℕ) → bit_and (bit_or a b) m ≡ bit_or (bit_and a m) (bit_and b m)
and_or m a b = bin_ind (λ (n : ℕ). (b m : ℕ) → bit_and (bit_or n b) m ≡ bit_or (bit_and n m) (bit_and b m))
    (λ b m. refl)
    (λ n ih b m. and_step (bit_or n b) m
    ∙ ap₂ (λ (x y : ℕ). x * 2 + y)
    (ap (λ (x : ℕ). bit_and x (m / 2)) (or_shr n b 1) ∙ ih (b / 2) (m / 2)
    ∙ ap₂ (λ (x y : ℕ). bit_or x y) (sym (and_shr n m 1)) (sym (and_shr b m 1)))
    (ap (λ (x : ℕ). min x (m % 2)) (or_odd n b) ∙ digit (n % 2) (b % 2) (m % 2)
    ∙ ap₂ (λ (x y : ℕ). max x y) (sym (and_odd n m)) (sym (and_odd b m)))
    ∙ sym (or_step (bit_and n m) (bit_and b m))) a b m

-- s has only bits of m
pub record Only (m s : ℕ) : Type 0 where
  pub same : bit_and s m ≡ s

pub only_le : (m s : ℕ) → Only m s → s ≤ m
only_le m s e = omega (arith, e.same, and_le_r s m)

pub only_or : {m s t : ℕ} → Only m s → Only m t → Only m (bit_or s t)
only_or {m} {s} {t} p q = record { same = and_or m s t ∙ ap₂ (λ (x y : ℕ). bit_or x y) p.same q.same }

only_if : {m v : ℕ} (t : Bool) → Only m v → Only m (if t then v else 0)
only_if true p = p
only_if {m} false p = record { same = and_zero_l m }

-- an answer at which no tries are spent and no scan leaves has only flags that a waiting record's status may have
pub flags_only : (limit : ℕ) (c : Command) (r : Record) (a : Answer) → spent limit (qmode_of c.transfer) a r.tries ≡ false
    → scan_leaves (qmode_of c.transfer) a r.position r.left ≡ false → Only waiting_bits (flags_of limit c r (Answered a))
unfolding flags_of
flags_only limit c r a hs hv = rw (hs, hv)
    (one a.derr refl (one a.err refl (one a.lpe refl (one a.tpe refl
    (one (a.tpe || (a.lpe || a.err)) refl (one (not a.x) refl (one (not a.q) refl (record { same = refl }))))))))
  where
    one : {v : ℕ} (t : Bool) → bit_and v waiting_bits ≡ v → {s : ℕ} → Only waiting_bits s → Only waiting_bits (bit_or (if t then v else 0) s)
    one t e h = only_or (only_if t (record { same = e })) h

-- Code and bit 7 ---------------------------------------------------------------------------------------------------------

-- below bit 27 and above bit 7: neither a code nor bit 7
pub record Clear (s : ℕ) : Type 0 where
  pub low : s < 134217728
  pub high : s % 256 ≡ 0

pub clear_zero : Clear 0
clear_zero = record { low = omega arith; high = refl }

clear_or : {a b : ℕ} → Clear a → Clear b → Clear (bit_or a b)
clear_or {a} {b} p q = record { low = or_lt 27 a b p.low q.low; high = or_mod a b 8 ∙ ap₂ bit_or p.high q.high }

pub only_clear : (s : ℕ) → Only waiting_bits s → Clear s
only_clear s o = record {
  low = omega (arith, only_le waiting_bits s o);
  high = ap (λ (x : ℕ). x % 256) (sym o.same) ∙ and_mod s waiting_bits 8 ∙ and_zero_r (s % 256);
}

clear_flags : (limit : ℕ) (c : Command) (r : Record) (x : Reply) → Clear (flags_of limit c r x)
unfolding flags_of
clear_flags limit c r NoSync = record { low = omega arith; high = refl }
clear_flags limit c r NotRecognised = record { low = omega arith; high = refl }
clear_flags limit c r Timeout = record { low = omega arith; high = refl }
clear_flags limit c r (Answered a) =
    one a.derr (omega arith) refl (one (spent limit (qmode_of c.transfer) a r.tries) (omega arith) refl
    (one a.err (omega arith) refl (one (scan_leaves (qmode_of c.transfer) a r.position r.left) (omega arith) refl
    (one a.lpe (omega arith) refl (one a.tpe (omega arith) refl (one (a.tpe || (a.lpe || a.err)) (omega arith) refl
    (one (not a.x) (omega arith) refl (one (not a.q) (omega arith) refl clear_zero))))))))
  where
    one : {v : ℕ} (t : Bool) → v < 134217728 → v % 256 ≡ 0 → {s : ℕ} → Clear s → Clear (bit_or (if t then v else 0) s)
    one true l h p = clear_or (record { low = l; high = h }) p
    one false l h p = clear_or clear_zero p

-- the status with a reply's flags
pub clear_gathered : (limit : ℕ) (c : Command) (r : Record) (x : Reply) → Clear r.status → Clear (bit_or r.status (flags_of limit c r x))
clear_gathered limit c r x p = clear_or p (clear_flags limit c r x)

module _ (s : ℕ) (p : Clear s) where
  pub clear_code : code_in s ≡ 0
  clear_code = omega (arith, p.low)

  pub clear_bit : bit 7 s ≡ false
  clear_bit = ne_eqb (s / 2 ^ 7 % 2) 1 (λ e. omega (arith, p.high))

  -- the status that an ended record has
  pub ended_code : (code : ℕ) → code_in (bit_or s (code * 2 ^ 28 + 2 ^ 7)) ≡ code
  ended_code code =
      let low : s / 2 ^ 28 ≡ 0 = omega (arith, p.low) in
      let high : (code * 2 ^ 28 + 2 ^ 7) / 2 ^ 28 ≡ code = omega arith in
      or_shr s (code * 2 ^ 28 + 2 ^ 7) 28 ∙ ap₂ bit_or low high ∙ or_zero_l code

  pub ended_bit : (code : ℕ) → bit 7 (bit_or s (code * 2 ^ 28 + 2 ^ 7)) ≡ true
  ended_bit code = eq-eqb (bit_or s (code * 2 ^ 28 + 2 ^ 7) / 2 ^ 7 % 2) 1
      (omega (arith, or_shr s (code * 2 ^ 28 + 2 ^ 7) 7, or_odd (s / 2 ^ 7) ((code * 2 ^ 28 + 2 ^ 7) / 2 ^ 7)))
