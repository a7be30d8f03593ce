-- What a read gives stands behind what the reads before it gave.
use Rattle.std.proofs.Common.{◌≡◌, ℕ, ◌+◌, ◌-◌, ◌≤◌, List, ◌++◌, rules, length, take, sym, ap, ◌∙◌, subst, length-take-le}
use Rattle.std.proofs.lemmas.List.{take-append-le}
use Rattle.std.proofs.Math.Seq.{take-append-add}
use Rattle.std.specs.Io.KnownBytes.{Consumes}
use Rattle.std.proofs.KnownBytes.{Consumes-trans}
use borrow.Rule.Slice.PartMut.{put_mid, post_of}
use Rattle.files.proofs.read_start.Goals as goal

-- the first bytes, and n of those that were put behind them
take-put_mid : (at k n : ℕ) (xs ys : List ℕ) → at ≤ length xs → n ≤ length ys → take (at + n) (put_mid at k xs ys) ≡ take at xs ++ take n ys
take-put_mid at k n xs ys within fits =
    let rest = ys ++ post_of at k xs in
    ap (λ m. take (m + n) (take at xs ++ rest)) (sym (length-take-le at xs within)) ∙ take-append-add (take at xs) rest n
    ∙ ap (λ l. take at xs ++ l) (take-append-le n ys (post_of at k xs) fits)

pub loop-size-preserved : goal.loop-size-preserved
loop-size-preserved g c =
    let at = c.loop-size.size in
    let joined = take-put_mid at (length c.loop-size.room - at) c.in-Ok.more c.loop-size.room c.read.new.buf c.loop-size.invariant.1 c.in-Ok.ensures.bound.0 in
    (search rules, search rules, subst (Consumes _ _) (sym joined) (Consumes-trans _ _ _ _ _ c.loop-size.invariant.2 c.in-Ok.ensures.bytes.0))
