-- `words_at` is `words_of` the field's instruction: a block has a second longword, which lies in the list; any other wants one word.
use Prim.Native.Nat.{ℕ}
use mathlib.Core.Path.{sym, ap, ◌∙◌}
use native.Mathlib.Omega.{arith}
use Rattle.camac.specs.Words.{is_block_in, command_in, words_of}
use Rattle.camac.proofs.BitLaws.{command_words}
use Rattle.listfile.specs.Fields.{second_at}
use Rattle.listfile.proofs.PartLaws.{block_inside, block_second}
use Rattle.listfile.proofs.parts.words_at.Goals as goal

pub overflow_add-at : goal.overflow_add-at
overflow_add-at c =
    omega (arith, block_inside _ _ c.requires.0 c.requires.1.0 (ap is_block_in (sym c.requires.1.1) ∙ sym c.is_block.ensures ∙ c.if-is_block.true))

pub whole_at-requires : goal.whole_at-requires
whole_at-requires c =
    omega (arith, block_inside _ _ c.requires.0 c.requires.1.0 (ap is_block_in (sym c.requires.1.1) ∙ sym c.is_block.ensures ∙ c.if-is_block.true))

pub returns-then-is_block : goal.returns-then-is_block
returns-then-is_block c =
    c.words_in.ensures
    ∙ ap (λ (second : ℕ). words_of (command_in c.args.first second).transfer)
    (c.whole_at.ensures ∙ sym (block_second _ _ c.requires.0 c.requires.1.0 (ap is_block_in (sym c.requires.1.1) ∙ sym c.is_block.ensures ∙ c.if-is_block.true)))

pub returns : goal.returns
returns c = rw (command_words c.args.first (second_at c.args.list.now c.args.at), ← c.is_block.ensures, c.if-is_block.false)
