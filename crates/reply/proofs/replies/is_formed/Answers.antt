-- `is_formed` is `is_formed`: bytes 2, 3 and 7 are zero in every kind; then an answer's flags are below 64, and other kinds have zeros alone.
use Prim.Native.Nat.{ℕ}
use mathlib.Core.Path.{◌≡◌, refl, sym, ap, ◌∙◌}
use mathlib.Core.Bool.{Bool, true, false, ◌&&◌, ◌||◌, and-true, and-false, and_assoc, true≢false, false≢true}
use mathlib.Core.List.{List}
use borrow.Author.Tests.{eq-eqb, ne_eqb, eqb-true}
use lib.Dec.{leb, ltb, eqb}
use lib.ListN.{length}
use Rattle.base.specs.Bytes.{byte_at}
use Rattle.base.proofs.Bools.{and_left, and_right}
use Rattle.reply.specs.Replies.{has_form, is_formed}
use Rattle.reply.proofs.ReplyFacts.{formed_is}
use Rattle.reply.proofs.replies.is_formed.Goals as goal

-- tests in the order of the code and of the definition: flags below 64, flags zero, bytes, kind
others-agree :
    (f z a b c k : Bool) → (z ≡ true → f ≡ true) → (((k && z) && a) && b) && c ≡ (f && (z && (a && (b && c)))) && k
others-agree f z a b c false h = sym (simp and-false)
others-agree true z a b c true h = simp (and-true, and_assoc)
others-agree false true a b c true h = absurd (false≢true (h refl))
others-agree false false a b c true h = refl

one-fails : (f a b c o k : Bool) → (a && b) && c ≡ false → false ≡ (f && (a && (b && (c && o)))) && k
one-fails false a b c o k n = refl
one-fails true false b c o k n = refl
one-fails true true false c o k n = refl
one-fails true true true false o k n = refl
one-fails true true true true o k n = absurd (true≢false n)

module _ (bytes : List ℕ) (eight : length bytes ≡ 8) where
  abbrev zero : ℕ → Bool
  zero i = eqb (byte_at bytes i) 0

  abbrev rest : Bool
  rest = (zero 2 && zero 3) && zero 7

  abbrev others : Bool
  others = zero 1 && (zero 4 && (zero 5 && zero 6))

  form-is : rest ≡ true → is_formed bytes ≡ (ltb (byte_at bytes 1) 64 && (zero 0 || others)) && leb (byte_at bytes 0) 3
  unfolding has_form
  form-is z =
      formed_is bytes
      ∙ simp (
        eq-eqb (length bytes) 8 eight,
        and_left (zero 2) (zero 3) (and_left (zero 2 && zero 3) (zero 7) z),
        and_right (zero 2) (zero 3) (and_left (zero 2 && zero 3) (zero 7) z),
        and_right (zero 2 && zero 3) (zero 7) z,
        and-true,
      )

  an-answer : rest ≡ true → byte_at bytes 0 ≡ 0 → ltb (byte_at bytes 1) 64 ≡ is_formed bytes
  an-answer z e = sym (form-is z ∙ simp (e, and-true))

  another :
      rest ≡ true → (byte_at bytes 0 ≡ 0 → ⊥)
      → (((leb (byte_at bytes 0) 3 && zero 1) && zero 4) && zero 5) && zero 6
      ≡ is_formed bytes
  another z n =
      others-agree (ltb (byte_at bytes 1) 64) (zero 1) (zero 4) (zero 5) (zero 6) (leb (byte_at bytes 0) 3) (λ e. ap (λ (x : ℕ). ltb x 64) (eqb-true (byte_at bytes 1) 0 e))
      ∙ sym (form-is z ∙ simp (ne_eqb (byte_at bytes 0) 0 n))

  unformed-rest : rest ≡ false → false ≡ is_formed bytes
  unfolding has_form
  unformed-rest n =
      one-fails (ltb (byte_at bytes 1) 64) (zero 2) (zero 3) (zero 7) (zero 0 || others) (leb (byte_at bytes 0) 3) n
      ∙ sym (formed_is bytes ∙ simp (eq-eqb (length bytes) 8 eight, and-true))

pub returns-then-kind-eq0 : goal.returns-then-kind-eq0
unfolding byte_at
returns-then-kind-eq0 c = an-answer _ c.told-bytes c.if-second-third.true c.if-kind-eq0.true

pub returns-then-second-third : goal.returns-then-second-third
unfolding byte_at
returns-then-second-third c = another _ c.told-bytes c.if-second-third.true c.if-kind-eq0.false

pub returns : goal.returns
unfolding byte_at
returns c = unformed-rest _ c.told-bytes c.if-second-third.false
