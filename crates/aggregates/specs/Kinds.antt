-- The kinds of aggregate: their numbers, and their figures of a list of values.
use Rattle.std.specs.Prelude.{◌≡◌, ◌≢◌, ℕ, List, ℤ, Option, Result, MatchResult}
use Rattle.aggregates.specs.Figures.{figure_of}
use Rattle.aggregates.specs.Partials.{averages, counts, largests, smallests, sums}
use Rattle.aggregates.specs.declared.kind.Kind.{Kind}
use Rattle.aggregates.specs.declared.kind.Kind.TheVariants.{Count, Sum, Smallest, Largest, Average}
use Rattle.aggregates.specs.declared.kind.UnknownKind.{UnknownKind}

abbrev pub number : Kind → ℕ
number Count = 1
number Sum = 2
number Smallest = 3
number Largest = 4
number Average = 5

-- the kind with this number, or an error with the number, which no kind has
abbrev pub Decodes : ℕ → Result Kind UnknownKind → Type 0
Decodes n r = MatchResult r (λ kind. number kind ≡ n) (λ e. (e.0 ≡ n) × ((kind : Kind) → number kind ≢ n))

-- read off partials
abbrev pub kind_figure : Kind → List ℤ → Option ℤ
kind_figure Count xs = figure_of counts xs
kind_figure Sum xs = figure_of sums xs
kind_figure Smallest xs = figure_of smallests xs
kind_figure Largest xs = figure_of largests xs
kind_figure Average xs = figure_of averages xs

-- in whole numbers without a bound, clamped
abbrev pub kind_whole : Kind → List ℤ → Option ℤ
kind_whole Count xs = counts.whole xs
kind_whole Sum xs = sums.whole xs
kind_whole Smallest xs = smallests.whole xs
kind_whole Largest xs = largests.whole xs
kind_whole Average xs = averages.whole xs
