use Rattle.std.proofs.Common.{Err, sym, ap, ◌∙◌}
use Rattle.std.proofs.lemmas.Result.{err_from_is_err_and}
use Rattle.fixed.specs.Values.{values}
use Rattle.tables.specs.Rules.{output_keeps, trigger_keeps}
use Rattle.checked.specs.Gathering.{making}
use Rattle.checked.specs.Judging.{all_triggers, first_fault, passed_on}
use Rattle.checked.specs.Views.{output_of, said, trigger_of}
use Rattle.checked.proofs.Judgement.{judged_said}
use Rattle.checked.proofs.Saying.{inputs_said}
use Rattle.checked.proofs.gathered.Gathered.judge.Goals as goal

pub returns-in_err-judge : goal.returns-in_err-judge
returns-in_err-judge c rest =
    let g = c.args.self.now in
    let t = said g.parts in
    let all = all_triggers (making g) rest in
    let p = err_from_is_err_and c.from_residual.result c.from_residual.ensures.1 in
    ap (λ r. passed_on r rest) (p.1 ∙ ap Err p.2)
    ∙ c.in_err-judge.ensures all
    ∙ (λ i. first_fault (λ m o. output_keeps t m (output_of o)) ((c.len.ensures.count ∙ sym (inputs_said g.parts)) i) (c.as_slice-outputs.ensures.values i) (c.as_slice.ensures.values i) all)
    ∙ judged_said output_of (output_keeps t) _ (values g.parts.outputs) (values g.output_places) all

pub returns : goal.returns
returns c rest =
    let g = c.args.self.now in
    let t = said g.parts in
    let all = all_triggers (making g) rest in
    c.judge-2.ensures rest
    ∙ (λ i. first_fault (λ _ o. trigger_keeps t (trigger_of o)) 0 (c.as_slice-2.ensures.values i) (c.as_slice-3.ensures.values i) rest)
    ∙ judged_said trigger_of (λ _. trigger_keeps t) 0 (values g.parts.triggers) (values g.trigger_places) rest
    ∙ c.in_ok-judge.ensures all
    ∙ (λ i. first_fault (λ m o. output_keeps t m (output_of o)) ((c.len.ensures.count ∙ sym (inputs_said g.parts)) i) (c.as_slice-outputs.ensures.values i) (c.as_slice.ensures.values i) all)
    ∙ judged_said output_of (output_keeps t) _ (values g.parts.outputs) (values g.output_places) all
