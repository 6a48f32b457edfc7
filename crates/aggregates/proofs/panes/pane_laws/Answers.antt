use Rattle.std.proofs.Common.{[], ◌∷◌, ◌++◌, sym}
use Rattle.aggregates.specs.Folds.{fold}
use Rattle.aggregates.proofs.Folds.{fold_pieces, fold_push}
use Rattle.aggregates.proofs.Slides.{slid_map, newest_map}
use Rattle.aggregates.proofs.panes.pane_laws.Goals as goal

pub returns : goal.returns
returns g c =
    let m = g.P.Aggregate in
    let laws = g.met.P.Aggregate.laws in
    let folded = fold m.neutral m.mapped m.joined in
    record {
      splits = fold_pieces m.neutral m.mapped m.joined laws;
      slides = λ pieces. sym (slid_map folded [] pieces);
      gains = λ v pieces. sym (newest_map folded [] (λ piece. piece ++ v ∷ []) (λ p. m.joined p (m.mapped v)) (λ piece. fold_push m.neutral m.mapped m.joined laws piece v) pieces);
    }
