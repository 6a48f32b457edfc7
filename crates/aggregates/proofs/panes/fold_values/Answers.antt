use Rattle.std.proofs.Common.{◌≡◌, ◌≤◌, length, ap, ◌∙◌, take_all, arith}
use Rattle.aggregates.specs.Folds.{fold}
use Rattle.aggregates.proofs.Folds.{folded}
use Rattle.aggregates.proofs.Smalls.{small_places}
use Rattle.aggregates.proofs.panes.fold_values.Goals as goal

pub returns : goal.returns
returns g c =
    let m = g.P.Aggregate in
    let laws = g.met.P.Aggregate.laws in
    let values = c.args.values.now in
    let i = c.loop-value.invariant in
    let past : length values ≤ c.loop-value.value-index = omega arith in
    let turned = rw take_all at i.0 in
    let all : c.loop-value.all ≡ fold m.neutral m.mapped m.joined values = turned ∙ folded m.neutral m.mapped m.joined laws values in
    record {
      value = all;
      exact = λ few. ap m.finished all ∙ g.met.P.Aggregate.exact values few (small_places values (λ k h. i.1 k (omega arith)));
    }
