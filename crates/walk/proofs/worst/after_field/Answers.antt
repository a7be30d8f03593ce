-- `after_field` is `after_command` of the field's instruction: each part is what the bits say of it.
use Prim.Native.Nat.{◌^◌, ◌≤◌}
use mathlib.Core.Path.{sym}
use native.Mathlib.Omega.{arith}
use Rattle.camac.proofs.BitLaws.{command_few}
use Rattle.listfile.specs.Fields.{second_at}
use Rattle.walk.proofs.SumLaws.{field_sums}
use Rattle.walk.proofs.worst.after_field.Goals as goal

pub worst_words-requires : goal.worst_words-requires
worst_words-requires c =
    let few : c.words_at-words.result ≤ 2 ^ 32 =
    omega (arith, command_few c.first_at-first.result (second_at c.args.list.now c.args.at), c.words_at-words.ensures) in
    (c.requires.0, omega arith)

pub added_by-requires : goal.added_by-requires
added_by-requires c =
    let few : c.words_at-words.result ≤ 2 ^ 32 =
    omega (arith, command_few c.first_at-first.result (second_at c.args.list.now c.args.at), c.words_at-words.ensures) in
    (few, c.requires.1.1.1)

pub returns : goal.returns
returns c =
    let start = c.args in
    let second = second_at start.list.now start.at in
    rw (c.added_by.ensures, ← c.first_at-first.ensures.0)
    (field_sums start.limit c.first_at-first.result second start.s _ _ _ _ _ _ c.qmode_in.ensures
    (c.start_in.ensures second) c.is_wide-wide.ensures c.words_at-words.ensures c.worst_words.ensures.0
    (sym (c.direction_in.ensures second)))
