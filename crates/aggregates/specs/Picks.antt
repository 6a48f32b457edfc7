-- The smallest and the largest of some values.
use Rattle.std.specs.Prelude.{◌≡◌, List, [], ◌∷◌, ℤ, ◌≤ℤ◌, Some, None, fold, Option}
use Rattle.std.specs.List.{ContainsAt as Has, AllByRecursion}

-- one of two values, where both are there
abbrev pub either : (ℤ → ℤ → ℤ) → Option ℤ → Option ℤ → Option ℤ
either pick None b = b
either pick (Some a) None = Some a
either pick (Some a) (Some b) = Some (pick a b)

-- one of all values, picked from the first on
abbrev pub best : (ℤ → ℤ → ℤ) → List ℤ → Option ℤ
best pick [] = None
best pick (x ∷ xs) = Some (fold pick x xs)

-- one of the values, which comes before each of them in an order
abbrev pub First : (ℤ → ℤ → Type 0) → List ℤ → Option ℤ → Type 0
First before xs None = xs ≡ []
First before xs (Some m) = Has xs m × AllByRecursion (λ x. before m x) xs

abbrev pub Least : (List ℤ → Option ℤ) → Type 0
Least figure = (xs : List ℤ) → First (λ m x. m ≤ℤ x) xs (figure xs)

abbrev pub Greatest : (List ℤ → Option ℤ) → Type 0
Greatest figure = (xs : List ℤ) → First (λ m x. x ≤ℤ m) xs (figure xs)
