-- `top_bits` has the two top bits of each of 64 flags, by trying all of them.
use Prim.Native.Nat.{ℕ, zero, suc, ◌+◌, ◌/◌, ◌%◌, ◌^◌}
use mathlib.Core.Path.{◌≡◌, refl}
use mathlib.Core.Bool.{Bool, true}
use mathlib.Core.List.{List, [], ◌∷◌}
use borrow.Author.Tests.{eqb-true}
use lib.Bits.{bit_xor}
use lib.Dec.{eqb}
use lib.ListN.{get_or}
use Rattle.std.specs.Prelude.{if◌then◌else◌}
use Rattle.row.proofs.Tried.{all_below, tried}
use Rattle.row.proofs.tops.top_bits.Goals as goal

-- the same four top bits, whatever the other flags
fours : ℕ → List ℕ
fours zero = []
fours (suc n) = 0xc0000000 ∷ 0x40000000 ∷ 0x80000000 ∷ 0 ∷ fours n

abbrev right : ℕ → Bool
right f = eqb (get_or (fours 16) (bit_xor f 3) 0) ((if eqb (f / 2 % 2) 1 then 2 ^ 30 else 0) + (if eqb (f % 2) 1 then 2 ^ 31 else 0))

all_right : all_below 64 right ≡ true
unfolding all_below fours
all_right = refl

pub invariant_of-result : goal.invariant_of-result
unfolding fours
invariant_of-result c = record { right = record { top = λ f h. eqb-true _ _ (tried 64 right all_right f h) } }
