-- The laws of the largest value.
use Rattle.std.proofs.Common.{◌≡◌, List, ℤ}
use Rattle.std.specs.Int.{int_max}
use Rattle.aggregates.specs.Figures.{figure_of}
use Rattle.aggregates.specs.Folds.{Joins}
use Rattle.aggregates.specs.Partials.{largests}
use Rattle.aggregates.specs.ExtremeLaws.{extreme_joins, extreme_exact}
use Rattle.aggregates.specs.PickLaws.{max_assoc}

pub largest_joins : Joins largests.neutral largests.joined
largest_joins = extreme_joins _ int_max max_assoc

pub largest_exact : (xs : List ℤ) → figure_of largests xs ≡ largests.whole xs
largest_exact = extreme_exact _ int_max max_assoc
