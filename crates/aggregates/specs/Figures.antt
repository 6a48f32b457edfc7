-- Partials and figures of a list of values, for any aggregate.
use Rattle.std.specs.Prelude.{List, ℤ, Option}
use Rattle.aggregates.specs.declared.aggregate.Aggregate.{Ghosts}
use Rattle.aggregates.specs.Folds.{fold}

abbrev pub partial_of : {M : Type 0} → Ghosts M → List ℤ → M
partial_of a xs = fold a.neutral a.mapped a.joined xs

abbrev pub figure_of : {M : Type 0} → Ghosts M → List ℤ → Option ℤ
figure_of a xs = a.finished (partial_of a xs)
