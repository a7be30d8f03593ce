-- A scan and a repeat end: each answer that does not end them lowers the most still possible by at least one (`answer_progress`), and while
-- they are not over that is at least one (`most_some`), so that a row as long as what was possible at first has one that ends them.
use Prim.Native.Nat.{ℕ, ◌≤◌}
use mathlib.Core.Path.{◌≡◌, refl, sym}
use mathlib.Core.Bool.{Bool, true, false, true≢false}
use mathlib.Core.List.{List, [], ◌∷◌}
use native.Mathlib.Omega.{arith}
use borrow.Author.Tests.{eqb-false, leb-true, leb-false}
use lib.Dec.{eqb, leb}
use lib.ListN.{length}
use Rattle.qmodes.specs.Scan.{stations, positions}
use Rattle.qmodes.specs.Modes.{done, left_after, spent, scan_leaves, tries_after, position_after, most_left}
use Rattle.qmodes.specs.Ends.{over, ScanEnds, RepeatEnds}
use Rattle.qmodes.specs.declared.modes.QMode.{QMode}
use Rattle.qmodes.specs.declared.modes.QMode.TheVariants.{Repeat, Scan}
use Rattle.qmodes.specs.declared.modes.Answer.{Answer}
use Rattle.qmodes.specs.declared.scan.ScanPosition.{ScanPosition}
use Rattle.base.proofs.Tests.{on}
use Rattle.qmodes.proofs.ScanFalls.{scan_within, scan_over}
use Rattle.qmodes.proofs.MostFalls.{TriesOk, PositionOk, Progress, finished, closed, going, most_some, answer_progress}

module _ (limit : ℕ) (q : QMode) (from : ScanPosition) where
  words_end : (answers : List Answer) (p : ScanPosition) (left tries : ℕ) → 1 ≤ left → TriesOk limit q tries → PositionOk q from p
      → most_left limit q p left tries 0 ≤ length answers → over limit q answers p left tries ≡ true
  unfolding over
  words_end [] p left tries some ht hp h = absurd (omega (arith, most_some limit q from p left tries 0 some ht hp))
  words_end (a ∷ answers) p left tries some ht hp h =
      on (eqb (left_after q (done q a) left) 0) (λ e. rw e)
      (λ e. on (spent limit q a tries) (λ f. rw (e, f))
      (λ f. on (scan_leaves q a p left) (λ g. rw (e, f, g))
      (λ g. rw (e, f, g)
      (more (done q a) (eqb-false _ _ e) (answer_progress limit q from p left tries 0 a some ht hp f g) (words_end answers)))))
    where
      more : (is_done : Bool) → ¬ (left_after q is_done left ≡ 0) → Progress false limit q from p left tries 0 is_done
          → ((p' : ScanPosition) (left' tries' : ℕ) → 1 ≤ left' → TriesOk limit q tries' → PositionOk q from p'
          → most_left limit q p' left' tries' 0 ≤ length answers → over limit q answers p' left' tries' ≡ true)
          → over limit q answers (position_after q is_done p) (left_after q is_done left) (tries_after q is_done tries) ≡ true
      more true e (finished d one near) ih = absurd (e (omega arith))
      more false e (finished d one near) ih = absurd (true≢false (sym d))
      more true e (closed s d h near) ih = absurd (true≢false d)
      more false e (closed s d h near) ih = absurd (e (rw h))
      more is_done e (going some tried position room near) ih = ih _ _ _ some tried position (omega arith)

pub scan_ends : ScanEnds
unfolding positions stations
scan_ends limit p n answers hn ha some h =
    words_end limit Scan p answers p n 0 some refl (record { station = hn; subaddress = ha; onward = omega arith })
    (on (leb n (positions p)) (λ e. omega (arith, scan_within limit p n 0 (leb-true _ _ e)))
    (λ e. omega (arith, scan_over limit p n 0 (leb-false _ _ e), leb-false n (positions p) e)))

pub repeat_ends : RepeatEnds
unfolding most_left
repeat_ends limit p n answers hl some h = words_end limit Repeat p answers p n 0 some (omega arith) refl (omega arith)
