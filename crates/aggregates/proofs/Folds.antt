-- What the laws of a join give of folds.
use Rattle.std.specs.List.{fold as folded_left}
use Rattle.std.proofs.Common.{◌≡◌, List, [], ◌∷◌, ◌++◌, map, sym, refl, ap, ◌∙◌}
use mathlib.Core.List.{flatten}
use Rattle.aggregates.specs.Folds.{Joins, fold, join_of}

module _ {V M : Type 0} (neutral : M) (of : V → M) (join : M → M → M) (laws : Joins neutral join) where
  pub fold_append : (xs ys : List V) → fold neutral of join (xs ++ ys) ≡ join (fold neutral of join xs) (fold neutral of join ys)
  fold_append [] ys = sym (laws.left (fold neutral of join ys))
  fold_append (x ∷ xs) ys = ap (join (of x)) (fold_append xs ys) ∙ sym (laws.assoc (of x) (fold neutral of join xs) (fold neutral of join ys))

  pub fold_push : (xs : List V) (v : V) → fold neutral of join (xs ++ v ∷ []) ≡ join (fold neutral of join xs) (of v)
  fold_push xs v = fold_append xs (v ∷ []) ∙ ap (join (fold neutral of join xs)) (laws.right (of v))

  -- the partials joined from the first on
  joined_on : (xs : List V) (all : M) → folded_left (λ a x. join a (of x)) all xs ≡ join all (fold neutral of join xs)
  joined_on [] all = sym (laws.right all)
  joined_on (x ∷ xs) all = joined_on xs (join all (of x)) ∙ laws.assoc all (of x) (fold neutral of join xs)

  pub folded : (xs : List V) → folded_left (λ a x. join a (of x)) neutral xs ≡ fold neutral of join xs
  folded xs = joined_on xs neutral ∙ laws.left (fold neutral of join xs)

  -- a list that is cut into pieces
  pub fold_pieces : (pieces : List (List V)) → fold neutral of join (flatten pieces) ≡ join_of neutral join (map (fold neutral of join) pieces)
  unfolding flatten
  fold_pieces [] = refl
  fold_pieces (p ∷ ps) = fold_append p (flatten ps) ∙ ap (join (fold neutral of join p)) (fold_pieces ps)
