-- Replies (document 01, "One operation, one reply", first paragraph; refusal 22).
use Rattle.std.specs.Prelude.{ℕ, zero, suc, ◌+◌, ◌*◌, Bool, true, false, ◌||◌, List, [], ◌∷◌, ltb, eqb, length, take, drop, if◌then◌else◌}
use Rattle.std.proofs.Math.Option.{Option, none, some}
use Rattle.base.specs.Checks.{all_of, bit}
use Rattle.base.specs.Bytes.{byte_at}
use Rattle.qmodes.specs.declared.modes.Answer.{Answer}
use Rattle.reply.specs.declared.replies.Reply.{Reply}
use Rattle.reply.specs.declared.replies.Reply.TheVariants.{Answered, Timeout, NotRecognised, NoSync}

-- "Byte 1 bits: 0 Q, 1 X, 2 ERR, 3 DERR (delayed error), 4 TPE and 5 LPE"; "bytes 4–6 data"
unfoldable pub answer_in : List ℕ → Answer
answer_in bytes = record {
  q = bit 0 (byte_at bytes 1);
  x = bit 1 (byte_at bytes 1);
  err = bit 2 (byte_at bytes 1);
  derr = bit 3 (byte_at bytes 1);
  tpe = bit 4 (byte_at bytes 1);
  lpe = bit 5 (byte_at bytes 1);
  word = byte_at bytes 4 + byte_at bytes 5 * 256 + byte_at bytes 6 * 65536;
}

-- "Byte 0, kind: 0 answer, 1 timeout, 2 address not recognised, 3 no sync"
abbrev pub of_kind : ℕ → Answer → Option Reply
of_kind zero a = some (Answered a)
of_kind (suc zero) a = some Timeout
of_kind (suc (suc zero)) a = some NotRecognised
of_kind (suc (suc (suc zero))) a = some NoSync
of_kind (suc (suc (suc (suc k)))) a = none

-- "Kinds 1 to 3 have every other byte zero": bytes 2, 3 and 7 are zero in every kind
abbrev pub others_zero : List ℕ → Bool
others_zero bytes =
    all_of (eqb (byte_at bytes 1) 0 ∷ eqb (byte_at bytes 4) 0 ∷ eqb (byte_at bytes 5) 0 ∷ eqb (byte_at bytes 6) 0 ∷ [])

-- "A reply is 8 bytes"; bits "6 and 7 zero. Bytes 2, 3 and 7 zero"
unfoldable pub has_form : List ℕ → Bool
has_form bytes = all_of (
    eqb (length bytes) 8
    ∷ ltb (byte_at bytes 1) 64
    ∷ eqb (byte_at bytes 2) 0
    ∷ eqb (byte_at bytes 3) 0
    ∷ eqb (byte_at bytes 7) 0
    ∷ (eqb (byte_at bytes 0) 0 || others_zero bytes)
    ∷ [])

-- the reply that bytes are; none for a "reply not formed as above"
unfoldable pub reply_of : List ℕ → Option Reply
reply_of bytes = if has_form bytes then of_kind (byte_at bytes 0) (answer_in bytes) else none

abbrev pub is_some_reply : Option Reply → Bool
is_some_reply none = false
is_some_reply (some r) = true

abbrev pub is_formed : List ℕ → Bool
is_formed bytes = is_some_reply (reply_of bytes)

-- A row of replies, cut into pieces of 8 bytes: where its length is "not a multiple of 8", the last piece is no reply. A piece has at
-- least one byte, so that fuel for each byte suffices; the laws of proofs/Rows cut a row without it.
unfoldable pub cut_row : ℕ → List ℕ → List (List ℕ)
cut_row zero row = []
cut_row (suc fuel) [] = []
cut_row (suc fuel) (b ∷ row) = take 8 (b ∷ row) ∷ cut_row fuel (drop 8 (b ∷ row))

unfoldable pub replies_in : List ℕ → List (List ℕ)
replies_in row = cut_row (length row) row

unfoldable pub all_formed : List (List ℕ) → Bool
all_formed [] = true
all_formed (r ∷ rs) = if is_formed r then all_formed rs else false
