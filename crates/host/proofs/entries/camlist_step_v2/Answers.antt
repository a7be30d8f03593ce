-- `camlist_step_v2` meets its contract: the step of the record that its numbers give, or of one that fits no list.
use Rattle.std.proofs.Common.{rules}
use mathlib.Core.Path.{ap, ◌∙◌}
use Rattle.calls.specs.declared.Yield.{Yield}
use Rattle.host.specs.Numbers.{Leaving}
use Rattle.host.specs.model.Given.{numbers_by}
use Rattle.host.proofs.TooWide.{run_mapped, step_leaves}
use Rattle.host.proofs.entries.camlist_step_v2.Goals as goal

pub returns : goal.returns
returns c =
    let mapped = run_mapped (λ (y : Yield). y.run) _ _ _ c.map.ensures.cases (λ x v q. search (rules, q.said-raw)) in
    let all = step_leaves c.args.list.now c.args.«record».now c.args.incoming.now c.args.outgoing.now _
    c.record_of.ensures _ _ _ _ c.args.reply.now _ c.step-outcome.ensures.yields c.call_numbers.ensures
    (c.numbers_after.ensures ∙ ap (numbers_by c.args.«record».now) mapped) in record {
      answer = ap (λ (l : Leaving). l.answer) all;
      «record» = ap (λ (l : Leaving). l.run) all;
      incoming = ap (λ (l : Leaving). l.incoming) all;
      outgoing = ap (λ (l : Leaving). l.outgoing) all;
    }
