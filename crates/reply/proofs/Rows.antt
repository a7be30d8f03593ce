-- A row of replies cut without fuel: an empty row has none, and any other has its first eight bytes and the replies behind them,
-- because each piece takes a byte at least, so that fuel for each byte suffices.
use Prim.Native.Nat.{ℕ, zero, suc, ◌≤◌, ◌<◌}
use mathlib.Core.Path.{◌≡◌, refl, ap}
use mathlib.Core.List.{List, [], ◌∷◌}
use native.Mathlib.Omega.{arith}
use lib.ListN.{length, take, drop, length-drop}
use Rattle.reply.specs.Replies.{cut_row, replies_in}

-- any fuel that is large enough cuts the row in the same pieces
cut_same : (m n : ℕ) (row : List ℕ) → length row ≤ m → length row ≤ n → cut_row m row ≡ cut_row n row
unfolding cut_row
cut_same zero zero row f g = refl
cut_same zero (suc n) [] f g = refl
cut_same zero (suc n) (b ∷ row) f g = absurd (omega arith)
cut_same (suc m) zero [] f g = refl
cut_same (suc m) zero (b ∷ row) f g = absurd (omega arith)
cut_same (suc m) (suc n) [] f g = refl
cut_same (suc m) (suc n) (b ∷ row) f g =
    ap (λ (rs : List (List ℕ)). take 8 (b ∷ row) ∷ rs)
    (cut_same m n (drop 8 (b ∷ row)) (omega (arith, length-drop 8 (b ∷ row))) (omega (arith, length-drop 8 (b ∷ row))))

pub replies_none : replies_in [] ≡ []
unfolding replies_in cut_row
replies_none = refl

pub replies_more : (row : List ℕ) → 0 < length row → replies_in row ≡ take 8 row ∷ replies_in (drop 8 row)
unfolding replies_in cut_row
replies_more [] h = absurd (omega arith)
replies_more (b ∷ row) h =
    ap (λ (rs : List (List ℕ)). take 8 (b ∷ row) ∷ rs)
    (cut_same (length row) (length (drop 8 (b ∷ row))) (drop 8 (b ∷ row)) (omega (arith, length-drop 8 (b ∷ row))) (omega arith))
