use Rattle.std.proofs.Common.{◌+◌, inl, inr, ◌∙◌}
use Rattle.checked.specs.Views.{said}
use Rattle.checked.proofs.Judgement.{judged_all}
use Rattle.checked.proofs.judge.judge.Goals as goal

pub returns : goal.returns
returns g c rest =
    let pairs = c.loop-i.i-iterator.iter in
    judged_all (g.T.Judged.keeps (said c.args.parts.now)) (c.args.me + c.loop-i.i-iterator.count) pairs.a.rest.now pairs.b.rest.now rest
    (elim c.in-None.ensures.steps.0 [ inl x ↦ inl x.1.0 | inr y ↦ inr y.1.0 ])
    ∙ c.loop-i.invariant.0 rest
