use Rattle.std.proofs.Common.{◌≡◌, sym, ap, ◌∙◌, rules}
use Rattle.std.proofs.lemmas.Iterator.{YieldsList-from_slice}
use Rattle.std.proofs.lemmas.Iterator.Consumers.{fold_from_yields_List}
use Rattle.aggregates.specs.Folds.{join_of}
use Rattle.aggregates.proofs.Folds.{fold_pieces, folded}
use Rattle.aggregates.proofs.panes.join_all.Goals as goal

pub returns : goal.returns
returns g c =
    let m = g.P.Aggregate in
    let laws = g.met.P.Aggregate.laws in
    let panes = c.args.panes.now in
    let turned = fold_from_yields_List _ m.joined _ _ c.fold.ensures.ran (YieldsList-from_slice panes (cc)) (λ a x b q k. search rules) in
    let all : c.fold.result ≡ join_of m.neutral m.joined panes = turned ∙ rw c.neutral.ensures (folded m.neutral (λ p. p) m.joined laws panes) in
    record {
      value = all;
      pieces = λ pieces held. all ∙ ap (join_of m.neutral m.joined) held ∙ sym (fold_pieces m.neutral m.mapped m.joined laws pieces);
    }
