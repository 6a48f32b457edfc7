-- The laws of the value that is picked of all.
use Rattle.std.proofs.Common.{◌≡◌, List, ℤ, Some, None, refl, ◌∙◌}
use Rattle.aggregates.specs.Figures.{figure_of}
use Rattle.aggregates.specs.Folds.{Joins}
use Rattle.aggregates.specs.Partials.{extremes}
use Rattle.aggregates.specs.Picks.{either}
use Rattle.aggregates.specs.FoldLaws.{joins_wrapped, fold_map}
use Rattle.aggregates.specs.PickLaws.{either_joins, best_fold}

module _ (P : Type 0) (pick : ℤ → ℤ → ℤ) (pick_assoc : (a b c : ℤ) → pick (pick a b) c ≡ pick a (pick b c)) where
  pub extreme_joins : Joins (extremes {P = P} pick).neutral (extremes {P = P} pick).joined
  extreme_joins = joins_wrapped (λ o. record { best = o; by = record {} }) (λ x. x.best) (λ x. refl) (λ o. refl) (either_joins pick pick_assoc)

  pub extreme_exact : (xs : List ℤ) → figure_of (extremes {P = P} pick) xs ≡ (extremes {P = P} pick).whole xs
  extreme_exact xs = fold_map (extremes {P = P} pick) None Some (either pick) (λ x. x.best) refl (λ v. refl) (λ x y. refl) xs ∙ best_fold pick pick_assoc xs
