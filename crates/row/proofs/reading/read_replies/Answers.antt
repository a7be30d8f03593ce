-- `read_replies` reads replies one by one. The loop's invariant: those passed are formed, and of them those before `first` are answers.
use Prim.Native.Nat.{ℕ, ◌*◌, ◌<◌, ◌≤◌}
use mathlib.Core.Path.{◌≡◌, sym, ◌∙◌}
use mathlib.Core.Bool.{true}
use native.Mathlib.Omega.{arith}
use borrow.Author.Count.{below_more}
use lib.ListN.{get_or, take, drop}
use Rattle.reply.specs.Replies.{is_formed}
use Rattle.row.proofs.ReadLaws.{one_unformed}
use Rattle.row.proofs.reading.read_replies.Goals as goal

pub loop-j-init : goal.loop-j-init
loop-j-init c = (omega arith, λ j l f. absurd (omega arith), λ j l f b. absurd (omega arith))

pub overflow_mul-j : goal.overflow_mul-j
overflow_mul-j c = omega arith

pub is_formed_at-requires : goal.is_formed_at-requires
is_formed_at-requires c = omega arith

pub returns-then-not-is_formed_at : goal.returns-then-not-is_formed_at
returns-then-not-is_formed_at c =
    let a = c.args in
    one_unformed a.row.now c.loop-j.j (omega arith) (sym c.is_formed_at.ensures ∙ c.if-not-is_formed_at.true)

pub answers_with-first-requires : goal.answers_with-first-requires
answers_with-first-requires c = omega arith

pub loop-j-preserved : goal.loop-j-preserved
loop-j-preserved c =
    let a = c.args in
    let at = c.loop-j.j in
    let i = c.loop-j.invariant in
    let e = c.answers_with-first.ensures in (
      omega (arith, e.0),
      below_more (λ (j : ℕ). a.from ≤ j → is_formed (take 8 (drop (j * 8) a.row.now)) ≡ true) at i.1
          (λ f. sym c.is_formed_at.ensures ∙ c.if-not-is_formed_at.false),
      below_more (λ (j : ℕ). a.from ≤ j → j < c.answers_with-first.result → get_or a.row.now (j * 8) 0 ≡ 0) at
          (λ j l f b. i.2 j l f (omega (arith, e.0))) (λ f b. e.1 b),
    )

pub returns : goal.returns
returns c =
    let i = c.loop-j.invariant in (i.0, (λ j l f. i.1 j (omega arith) f, λ j l f b. i.2 j (omega arith) f b))
