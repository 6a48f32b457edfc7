-- The picked value is one of the values, and the first of them in its order.
use Rattle.std.proofs.Common.{◌≡◌, ◌⊎◌, List, [], ◌∷◌, ℤ, sym, refl, subst, ⊎_elim, arith}
use Rattle.std.specs.Int.{int_min, int_max}
use Rattle.std.specs.List.{ContainsAt as Has}
use Rattle.std.proofs.ByRecursion.{has_get_or, has_append_right, folded_min_z_bounds, folded_min_z_reached, folded_max_z_bounds, folded_max_z_reached}
use Rattle.aggregates.specs.Picks.{best, Least, Greatest}

-- a picked value is the first one or one of the others
reached : (x : ℤ) (xs : List ℤ) (r : ℤ) → (r ≡ x) ⊎ Has xs r → Has (x ∷ xs) r
reached x xs r = ⊎_elim (λ e. subst (Has (x ∷ xs)) (sym e) (has_get_or (x ∷ xs) 0 x (omega arith))) (has_append_right (x ∷ []) xs r)

pub min_least : Least (best int_min)
min_least [] = refl
min_least (x ∷ xs) = (reached x xs _ (folded_min_z_reached x xs _ refl), folded_min_z_bounds x xs _ refl)

pub max_greatest : Greatest (best int_max)
max_greatest [] = refl
max_greatest (x ∷ xs) = (reached x xs _ (folded_max_z_reached x xs _ refl), folded_max_z_bounds x xs _ refl)
