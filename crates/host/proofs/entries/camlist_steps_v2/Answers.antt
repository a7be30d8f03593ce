-- `camlist_steps_v2` meets its contract: the steps from the record that its numbers give, or of one that fits no list.
use Rattle.std.proofs.Common.{rules}
use mathlib.Core.Path.{ap, ◌∙◌}
use Rattle.calls.specs.declared.Stepped.{Stepped}
use Rattle.host.specs.Numbers.{Leaving}
use Rattle.host.specs.model.Given.{numbers_by}
use Rattle.host.proofs.TooWide.{run_mapped, steps_leave}
use Rattle.host.proofs.entries.camlist_steps_v2.Goals as goal

pub returns : goal.returns
returns c =
    let mapped = run_mapped (λ (y : Stepped). y.run) _ _ _ c.map.ensures.cases (λ x v q. search (rules, q.said-raw)) in
    let all = steps_leave c.args.list.now c.args.«record».now c.args.incoming.now c.args.outgoing.now _
    c.record_of.ensures _ _ _ _ c.args.replies.now _ c.steps-outcome.ensures.steps c.steps_numbers.ensures
    (c.numbers_after.ensures ∙ ap (numbers_by c.args.«record».now) mapped) in record {
      answer = ap (λ (l : Leaving). l.answer) all;
      «record» = ap (λ (l : Leaving). l.run) all;
      incoming = ap (λ (l : Leaving). l.incoming) all;
      outgoing = ap (λ (l : Leaving). l.outgoing) all;
    }
