-- What code reads of a row of replies and stores of it: the answers before the first reply of another kind, the words among them, their bytes and
-- their status bits. Nothing here is a rule of document 01.
use Rattle.std.specs.Prelude.{ℕ, zero, suc, ◌+◌, ◌*◌, ◌/◌, ◌%◌, ◌≤◌, ◌<◌, ◌≡◌, Bool, true, false, ◌||◌, not, List, [], ◌∷◌, eqb, length, get_or, take, drop, Option, Some, None, if◌then◌else◌}
use Rattle.std.specs.Int.Bits.{bit_and, bit_or, bit_xor}
use Rattle.std.proofs.lemmas.List.Edits.{sets as written}
use Rattle.base.specs.Bytes.{long_bytes, quad_at}
use Rattle.qmodes.specs.declared.modes.Answer.{Answer}
use Rattle.packing.specs.Packing.{mark_after_words, stored}
use Rattle.reply.specs.Replies.{is_formed, replies_in, all_formed}
use Rattle.reply.specs.Status.{◌sets◌, bits_of}
use Rattle.reply.specs.Effect.{longword_of}
use Rattle.reply.specs.declared.replies.Reply.TheVariants.{Answered as AnsweredReply}

-- The row ----------------------------------------------------------------------------------------------------------------

-- the row from a place on has only replies
pub record FormedFrom (row : List ℕ) (at : ℕ) : Type 0 where
  pub formed : all_formed (replies_in (drop at row)) ≡ true
  pub within : at ≤ length row

-- the first k replies of a row are answers
abbrev pub AnswersTo : List ℕ → ℕ → Type 0
AnswersTo row k = (j : ℕ) → j < k → get_or row (j * 8) 0 ≡ 0

-- a row of replies, the first k of them answers
pub record Answered (row : List ℕ) (k : ℕ) : Type 0 where
  pub formed : all_formed (replies_in row) ≡ true
  pub within : k * 8 ≤ length row
  pub kinds : AnswersTo row k

-- what reading a row says
abbrev pub ReadAs : List ℕ → Option ℕ → Type 0
ReadAs row None = all_formed (replies_in row) ≡ false
ReadAs row (Some k) = Answered row k

-- of the replies before number `to`, those from `from` on are formed
abbrev pub FormedOver : List ℕ → ℕ → ℕ → Type 0
FormedOver row from to = (j : ℕ) → j < to → from ≤ j → is_formed (take 8 (drop (j * 8) row)) ≡ true

-- and those of them before number k are answers
abbrev pub AnswersOver : List ℕ → ℕ → ℕ → ℕ → Type 0
AnswersOver row from to k = (j : ℕ) → j < to → from ≤ j → j < k → get_or row (j * 8) 0 ≡ 0

-- what reading a stretch of a row says, with `most` answers found before it
abbrev pub StretchReadAs : List ℕ → ℕ → ℕ → ℕ → Option ℕ → Type 0
StretchReadAs row from to most None = all_formed (replies_in row) ≡ false
StretchReadAs row from to most (Some k) = (k ≤ most) × (FormedOver row from to × AnswersOver row from to k)

-- the bits of k replies, some of them negated, gathered, from number `from` on
unfoldable pub bits_over : ℕ → List ℕ → ℕ → ℕ → ℕ
bits_over negated row from zero = 0
bits_over negated row from (suc k) = bit_or (bits_over negated row from k) (bit_xor (quad_at row ((from + k) * 8)) negated)

-- Words ------------------------------------------------------------------------------------------------------------------

-- the answer with these flags and this data
abbrev pub answer_by : ℕ → ℕ → Answer
answer_by f word = record {
  q = eqb (f % 2) 1;
  x = eqb (f / 2 % 2) 1;
  err = eqb (f / 4 % 2) 1;
  derr = eqb (f / 8 % 2) 1;
  tpe = eqb (f / 16 % 2) 1;
  lpe = eqb (f / 32 % 2) 1;
  word = word;
}

-- the data of the answer at a place of the row, and the longword that it is stored as
abbrev pub data_in : List ℕ → ℕ → ℕ
data_in row at = get_or row (at + 4) 0 + get_or row (at + 5) 0 * 256 + get_or row (at + 6) 0 * 65536

unfoldable pub longword_in : List ℕ → ℕ → ℕ
longword_in row at = longword_of (AnsweredReply (answer_by (get_or row (at + 1) 0) (data_in row at)))

-- the flags of reply number j
abbrev pub flags_at : List ℕ → ℕ → ℕ
flags_at row j = get_or row (j * 8 + 1) 0

-- the first k answers from number `from` on are words by a mask: of the flags in it, just Q and X are set
abbrev pub WordsAt : ℕ → List ℕ → ℕ → ℕ → Type 0
WordsAt mask row from k = (j : ℕ) → j < k → bit_and (flags_at row (from + j)) mask ≡ mask % 4

-- whether an answer is a word, and the buffer with it where it is one
abbrev pub WideTaken : ℕ → List ℕ → ℕ → ℕ → List ℕ → Bool → List ℕ → Type 0
WideTaken mask row k to before isWord after =
    (isWord ≡ eqb (bit_and (flags_at row k) mask) (mask % 4))
    × (after ≡ (if isWord then written before to (long_bytes (longword_in row (k * 8))) else before))

-- the incoming buffer after k words read, the first of them at `mark`
unfoldable pub words_stored : Bool → List ℕ → ℕ → ℕ → ℕ → List ℕ → List ℕ
words_stored wide row from mark zero buffer = buffer
words_stored wide row from mark (suc k) buffer =
    stored wide (longword_in row ((from + k) * 8)) (mark_after_words wide k mark) (words_stored wide row from mark k buffer)

-- Flags ------------------------------------------------------------------------------------------------------------------

-- the status bits of an answer that is no cause
abbrev pub bits_by : Answer → ℕ
bits_by a = bits_of (
    a.derr sets 26
    ∷ a.err sets 23
    ∷ a.lpe sets 21
    ∷ a.tpe sets 20
    ∷ (a.tpe || (a.lpe || a.err)) sets 18
    ∷ not a.x sets 17
    ∷ not a.q sets 16
    ∷ [])

unfoldable pub flag_bits : ℕ → ℕ
flag_bits f = bits_by (answer_by f 0)

-- the status bits of k replies' flags, gathered, from number `from` on
unfoldable pub gathered_bits : List ℕ → ℕ → ℕ → ℕ
gathered_bits row from zero = 0
gathered_bits row from (suc k) = bit_or (gathered_bits row from k) (flag_bits (flags_at row (from + k)))

-- the same of flags in which Q and X are negated, so that each of six sets a status bit
unfoldable pub raised_bits : ℕ → ℕ
raised_bits g =
    bit_or (bit_and g 51 * 65536)
    (bit_or (bit_and g 4 * 2097152) (bit_or (bit_and g 8 * 8388608) (if eqb (bit_and g 52) 0 then 0 else 262144)))
