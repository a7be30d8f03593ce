-- `check_list` answers as `program_of` by the laws of ListLaws: first field, pass, jumps, in that order; the table is the pass's.
use mathlib.Core.Path.{sym, ap, ◌∙◌}
use native.Mathlib.Omega.{arith}
use Rattle.std.proofs.lemmas.Result.{err_from_is_err_and}
use Rattle.base.specs.Refusals.{number_or_0}
use Rattle.listfile.proofs.FirstLaws.{first_long}
use Rattle.listfile.proofs.ListLaws.{list_first, list_fields, list_jumps, list_program, table_counted}
use Rattle.listfile.proofs.check.check_list.Goals as goal

pub returns-in_err-check_first : goal.returns-in_err-check_first
returns-in_err-check_first c =
    let e = err_from_is_err_and c.from_residual.result c.from_residual.ensures.1 in
    rw e.1 (list_first _ _ _ (sym (ap number_or_0 c.in_err-check_first.was) ∙ c.check_first.ensures) e.2, tt)

pub pass_fields-requires : goal.pass_fields-requires
pass_fields-requires c = first_long _ (sym c.check_first.ensures ∙ ap number_or_0 c.in_ok-check_first.was)

pub returns-in_err-extent : goal.returns-in_err-extent
returns-in_err-extent c =
    let first = sym (ap number_or_0 c.in_ok-check_first.was) ∙ c.check_first.ensures in
    let e = err_from_is_err_and c.from_residual-in_err-extent.result c.from_residual-in_err-extent.ensures.1 in
    rw (e.1, e.2) (list_fields _ first _ c.pass_fields.ensures.0 _ c.in_err-extent.was, tt)

pub bad_jump-requires : goal.bad_jump-requires
bad_jump-requires c =
    let t = table_counted _ _ _ _ c.in_ok-extent.was c.pass_fields.ensures.1 in
    (omega (arith, t.0), (t.1.0, t.1.1))

pub returns-in-Some : goal.returns-in-Some
returns-in-Some c =
    let first = sym (ap number_or_0 c.in_ok-check_first.was) ∙ c.check_first.ensures in
    (list_jumps _ first _ c.pass_fields.ensures.0 _ c.in_ok-extent.was _ c.bad_jump.ensures _ c.in-Some.is, tt)

pub returns : goal.returns
returns c =
    let first = sym (ap number_or_0 c.in_ok-check_first.was) ∙ c.check_first.ensures in
    let table = table_counted _ _ _ _ c.in_ok-extent.was c.pass_fields.ensures.1 in (
      list_program _ first _ c.pass_fields.ensures.0 _ c.in_ok-extent.was _ c.bad_jump.ensures _ c.short_at.ensures.0 c.in_default.is,
      (table.0, (c.short_at.ensures.1, table.1.0)),
    )
