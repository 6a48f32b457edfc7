-- Worked cases as one table, and the test that each of them passes.
use Rattle.std.specs.Prelude.{Bool, ◌&&◌, List, [], ◌∷◌, ℤ, pos, negsuc, Some, None, Option}
use Rattle.std.specs.List.{list_all}
use Rattle.std.specs.Option.{option_eq}
use Rattle.std.specs.Ordering.{int_eq}
use Rattle.aggregates.specs.Kinds.{kind_figure, kind_whole}
use Rattle.aggregates.specs.declared.kind.Kind.{Kind}
use Rattle.aggregates.specs.declared.kind.Kind.TheVariants.{Count, Sum, Smallest, Largest, Average}

-- the figure that a kind gives of a list of values; negsuc n is -(n + 1)
pub data Case : Type 0 where
  gives : Kind → List ℤ → Option ℤ → Case

abbrev pub passes : Case → Bool
passes (gives k xs a) = option_eq int_eq (kind_figure k xs) a && option_eq int_eq (kind_whole k xs) a

abbrev pub all_pass : List Case → Bool
all_pass cs = list_all passes cs

abbrev pub worked_cases : List Case
worked_cases =
    gives Count [] (Some (pos 0))
    ∷ gives Sum [] (Some (pos 0))
    ∷ gives Smallest [] None
    ∷ gives Largest [] None
    ∷ gives Average [] None
    ∷ gives Count (pos 7 ∷ negsuc 8 ∷ pos 7 ∷ []) (Some (pos 3))
    ∷ gives Sum (pos 7 ∷ negsuc 8 ∷ pos 7 ∷ []) (Some (pos 5))
    ∷ gives Smallest (pos 7 ∷ negsuc 8 ∷ pos 7 ∷ []) (Some (negsuc 8))
    ∷ gives Largest (pos 7 ∷ negsuc 8 ∷ pos 7 ∷ []) (Some (pos 7))
    ∷ gives Average (pos 7 ∷ negsuc 8 ∷ pos 7 ∷ []) (Some (pos 1))
    ∷ gives Average (negsuc 2 ∷ pos 0 ∷ []) (Some (negsuc 0))
    ∷ gives Average (negsuc 0 ∷ pos 0 ∷ []) (Some (pos 0))
    ∷ gives Sum (pos 2147483647 ∷ pos 2147483647 ∷ []) (Some (pos 2147483647))
    ∷ gives Sum (negsuc 2147483647 ∷ negsuc 2147483647 ∷ []) (Some (negsuc 2147483647))
    ∷ gives Sum (pos 2147483647 ∷ pos 2147483647 ∷ negsuc 2147483647 ∷ []) (Some (pos 2147483646))
    ∷ gives Average (pos 2147483647 ∷ pos 2147483647 ∷ []) (Some (pos 2147483647))
    ∷ gives Average (negsuc 2147483647 ∷ negsuc 2147483647 ∷ []) (Some (negsuc 2147483647))
    ∷ []
