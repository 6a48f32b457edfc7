-- The laws of picking one of some values.
use Rattle.std.proofs.Common.{◌≡◌, List, [], ◌∷◌, ℤ, Some, None, fold as folded, Option, sym, refl, ap, ◌∙◌, arith}
use Rattle.std.specs.Int.{int_min, int_max}
use Rattle.std.proofs.lemmas.Int.{ints}
use Rattle.aggregates.specs.Folds.{Joins, fold}
use Rattle.aggregates.specs.Picks.{either, best}

pub min_assoc : (a b c : ℤ) → int_min (int_min a b) c ≡ int_min a (int_min b c)
min_assoc a b c = grind (arith, ints)

pub max_assoc : (a b c : ℤ) → int_max (int_max a b) c ≡ int_max a (int_max b c)
max_assoc a b c = grind (arith, ints)

module _ (pick : ℤ → ℤ → ℤ) (pick_assoc : (a b c : ℤ) → pick (pick a b) c ≡ pick a (pick b c)) where
  either_right : (o : Option ℤ) → either pick o None ≡ o
  either_right None = refl
  either_right (Some a) = refl

  either_assoc : (a b c : Option ℤ) → either pick (either pick a b) c ≡ either pick a (either pick b c)
  either_assoc None b c = refl
  either_assoc (Some a) None c = refl
  either_assoc (Some a) (Some b) None = refl
  either_assoc (Some a) (Some b) (Some c) = ap Some (pick_assoc a b c)

  pub either_joins : Joins None (either pick)
  either_joins = record { left = λ o. refl; right = either_right; assoc = either_assoc }

  picked_first : (a x : ℤ) (xs : List ℤ) → pick a (folded pick x xs) ≡ folded pick (pick a x) xs
  picked_first a x [] = refl
  picked_first a x (y ∷ ys) = picked_first a (pick x y) ys ∙ ap (λ z. folded pick z ys) (sym (pick_assoc a x y))

  pub best_fold : (xs : List ℤ) → fold None Some (either pick) xs ≡ best pick xs
  best_fold [] = refl
  best_fold (x ∷ []) = refl
  best_fold (x ∷ y ∷ ys) = ap (either pick (Some x)) (best_fold (y ∷ ys)) ∙ ap Some (picked_first x y ys)
