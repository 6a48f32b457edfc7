-- The laws of the smallest value.
use Rattle.std.proofs.Common.{◌≡◌, List, ℤ}
use Rattle.std.specs.Int.{int_min}
use Rattle.aggregates.specs.Figures.{figure_of}
use Rattle.aggregates.specs.Folds.{Joins}
use Rattle.aggregates.specs.Partials.{smallests}
use Rattle.aggregates.specs.ExtremeLaws.{extreme_joins, extreme_exact}
use Rattle.aggregates.specs.PickLaws.{min_assoc}

pub smallest_joins : Joins smallests.neutral smallests.joined
smallest_joins = extreme_joins _ int_min min_assoc

pub smallest_exact : (xs : List ℤ) → figure_of smallests xs ≡ smallests.whole xs
smallest_exact = extreme_exact _ int_min min_assoc
