-- The laws of averages, from those of sums and counts.
use Rattle.std.proofs.Common.{◌≡◌, cond, eqb, List, [], ◌∷◌, length, ℤ, pos, Some, None, refl, ap, ◌∙◌, ap₂, arith}
use lib.Signed.{quot_z}
use Rattle.std.proofs.lemmas.Bool.{cond-false, ne_eqb}
use Rattle.aggregates.specs.Figures.{figure_of}
use Rattle.aggregates.specs.Folds.{Joins}
use Rattle.aggregates.specs.Wholes.{clamped, Few, Small}
use Rattle.aggregates.specs.Partials.{averages, counts, sums}
use Rattle.aggregates.specs.CountLaws.{count_joins, count_fits}
use Rattle.aggregates.specs.FoldLaws.{fold_map}
use Rattle.aggregates.specs.SumLaws.{sum_joins, sum_fits}

pub average_joins : Joins averages.neutral averages.joined
average_joins = record {
  left = λ x i. record { sum = sum_joins.left x.sum i; count = count_joins.left x.count i };
  right = λ x i. record { sum = sum_joins.right x.sum i; count = count_joins.right x.count i };
  assoc = λ x y z i. record {
    sum = sum_joins.assoc x.sum y.sum z.sum i;
    count = count_joins.assoc x.count y.count z.count i;
  };
}

pub average_exact : (xs : List ℤ) → Few xs → Small xs → figure_of averages xs ≡ averages.whole xs
average_exact [] few small = refl
average_exact (x ∷ xs) few small =
    let n = ap (λ c. c.n) (fold_map averages counts.neutral counts.mapped counts.joined (λ a. a.count) refl (λ v. refl) (λ y z. refl) (x ∷ xs)) ∙ count_fits (x ∷ xs) few in
    let z = ap (λ s. s.total) (fold_map averages sums.neutral sums.mapped sums.joined (λ a. a.sum) refl (λ v. refl) (λ y z. refl) (x ∷ xs)) ∙ sum_fits (x ∷ xs) few small in
    ap₂ (λ k t. cond (eqb k 0) None (Some (clamped (quot_z t (pos k))))) n z ∙ cond-false (eqb (length (x ∷ xs)) 0) _ _ (ne_eqb (length (x ∷ xs)) 0 (λ e. omega arith))
