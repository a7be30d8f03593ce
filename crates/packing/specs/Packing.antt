-- Fill marks and the bytes of words (document 01, "Packing"; the driver manual's "Data FIFO Register").
use Rattle.std.specs.Prelude.{ℕ, zero, suc, ◌+◌, ◌*◌, ◌%◌, Bool, true, false, List, ◌++◌, replicate, get_or, if◌then◌else◌}
use Rattle.std.proofs.lemmas.List.Edits.{sets}
use Rattle.base.specs.Bytes.{short_bytes, long_bytes}

-- "If the mark modulo 4 is 2, two zero bytes come first": before a 24-bit word or a literal. "The fill mark is always even, so the aligned mark
-- is mark + mark modulo 4" (E3). "The pad bytes and every answer are as before" (E3): for an even mark these are the same, pad_as_before in
-- proofs/MarkFacts
unfoldable pub pad_at : Bool → ℕ → ℕ
pad_at wide mark = if wide then mark % 4 else 0

-- where the word itself goes, behind its pad: "the least multiple of 4 not below an even mark" (E3), computed so that "no branch in packing may
-- depend on the mark's remainder" (E3)
unfoldable pub aligned_mark : Bool → ℕ → ℕ
aligned_mark wide mark = mark + pad_at wide mark

-- "A 16-bit word takes two bytes"; "A 24-bit word or literal takes four"
unfoldable pub width_of : Bool → ℕ
width_of wide = if wide then 4 else 2

-- the fill mark after one word: "each has a fill mark, the bytes used so far"; "No pad follows the last word"
unfoldable pub mark_after : Bool → ℕ → ℕ
mark_after wide mark = aligned_mark wide mark + width_of wide

-- the fill mark after n words, one after the other
unfoldable pub mark_after_words : Bool → ℕ → ℕ → ℕ
mark_after_words wide zero mark = mark
mark_after_words wide (suc n) mark = mark_after wide (mark_after_words wide n mark)

-- "low byte first; it is the low 16 bits of the data": the four bytes of a longword, or the two of its low 16 bits
abbrev pub bytes_of : Bool → ℕ → List ℕ
bytes_of true v = long_bytes v
bytes_of false v = short_bytes v

-- a longword, or the low 16 bits of one, "at the fill mark", its pad "written together with that word and not before"; every other
-- byte of the buffer stays
unfoldable pub stored : Bool → ℕ → ℕ → List ℕ → List ℕ
stored wide v mark buffer = sets buffer mark (replicate (pad_at wide mark) 0 ++ bytes_of wide v)

-- "Outgoing words lie by the same rule; pad bytes and top bytes are ignored": the word that lies at the mark
unfoldable pub word_at : Bool → ℕ → List ℕ → ℕ
word_at wide mark buffer =
    let at : ℕ = aligned_mark wide mark in
    get_or buffer at 0 + get_or buffer (at + 1) 0 * 256 + (if wide then get_or buffer (at + 2) 0 * 65536 else 0)
