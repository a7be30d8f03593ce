-- `is_row` is `is_row`. The loop's invariant: the demands so far, and those from here on, come out as the whole row.
use mathlib.Core.Path.{sym, ap, ◌∙◌}
use mathlib.Core.Bool.{Bool, ◌&&◌}
use mathlib.Core.List.{map}
use native.Mathlib.Omega.{arith}
use Prim.Native.Nat.{◌+◌}
use lib.ListN.{drop}
use Rattle.demands.specs.Demands.{are_crates}
use Rattle.demands.proofs.RowLaws.{demand_in, judging_next, judging_end, judged_row, odd_row}
use Rattle.demands.proofs.row.is_row.Goals as goal

pub returns-then-row-ne0 : goal.returns-then-row-ne0
returns-then-row-ne0 c = odd_row _ (λ e. omega (arith, c.if-row-ne0.true))

pub loop-crate_number-preserved : goal.loop-crate_number-preserved
loop-crate_number-preserved c =
    let i = c.loop-crate_number.crate_number-index in
    let pairs = c.as_chunks.result.0.now in
    ap (λ (b : Bool). (c.loop-crate_number.are && b) && are_crates (map demand_in (drop (i + 1) pairs))) c.is_crate-are.ensures
    ∙ sym (judging_next pairs i c.loop-crate_number.are c.loop-crate_number-test.true)
    ∙ c.loop-crate_number.invariant

pub returns : goal.returns
returns c =
    judging_end _ _ c.loop-crate_number.are c.loop-crate_number-test.false
    ∙ c.loop-crate_number.invariant
    ∙ judged_row c.args.row.now c.if-row-ne0.false c.as_chunks.ensures.front
