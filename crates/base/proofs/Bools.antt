-- Tests joined by `&&` and `||`: what a joined test says of its parts, and what its parts say of it. Each is a case split on a part.
use mathlib.Core.Path.{◌≡◌, refl, sym, ◌∙◌}
use mathlib.Core.Logic.{◌⊎◌, inl, inr}
use mathlib.Core.Bool.{Bool, true, false, ◌&&◌, ◌||◌, not, true≢false, false≢true}

-- parts of a joined test
pub and_left : (a b : Bool) → a && b ≡ true → a ≡ true
and_left true b e = refl
and_left false b e = e

pub and_right : (a b : Bool) → a && b ≡ true → b ≡ true
and_right true b e = e
and_right false b e = absurd (false≢true e)

pub and_not_left : (a : Bool) {b : Bool} → b ≡ false → a && not b ≡ false → a ≡ false
and_not_left true {b = true} p e = p
and_not_left true {b = false} p e = e
and_not_left false p e = refl

pub or_cases : (a b : Bool) → a || b ≡ true → (a ≡ true) ⊎ (b ≡ true)
or_cases true b e = inl refl
or_cases false b e = inr e

pub or_first : (a b : Bool) → b ≡ false → a || b ≡ true → a ≡ true
or_first true b p e = refl
or_first false b p e = absurd (false≢true (sym p ∙ e))

pub or_false_left : (a b : Bool) → a || b ≡ false → a ≡ false
or_false_left true b e = e
or_false_left false b e = refl

pub or_false_right : (a b : Bool) → a || b ≡ false → b ≡ false
or_false_right true b e = absurd (true≢false e)
or_false_right false b e = e

-- a joined test from its parts
pub both : {a b : Bool} → a ≡ true → b ≡ true → a && b ≡ true
both {a = true} p q = q
both {a = false} p q = p

pub or_left : {a : Bool} (b : Bool) → a ≡ true → a || b ≡ true
or_left {a = true} b p = p
or_left {a = false} b p = absurd (false≢true p)

pub or_right : (a : Bool) {b : Bool} → b ≡ true → a || b ≡ true
or_right true p = refl
or_right false p = p
