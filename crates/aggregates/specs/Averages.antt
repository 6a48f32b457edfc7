-- The average of some values in whole numbers, clamped.
use Rattle.std.specs.Prelude.{List, [], ◌∷◌, length, ℤ, pos, Some, None, Option, int_div}
use Rattle.aggregates.specs.Wholes.{clamped, sumZ}

-- the sum over the number of values, rounded toward zero
abbrev pub mean : List ℤ → Option ℤ
mean [] = None
mean (x ∷ xs) = Some (clamped (int_div (sumZ (x ∷ xs)) (pos (length (x ∷ xs)))))
