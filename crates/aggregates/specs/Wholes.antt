-- Lists of values in whole numbers without a bound.
use Rattle.std.specs.Prelude.{◌≡◌, ◌^◌, ◌<◌, ◌≤◌, List, [], ◌∷◌, length, ℤ, pos, ◌+ℤ◌, Option}
use Rattle.std.specs.Int.Signed.{mag}
use Rattle.std.specs.Int.{saturate_to_bits}
use Rattle.aggregates.specs.Folds.{fold}

-- the nearest number of 32 signed bits
abbrev pub clamped : ℤ → ℤ
clamped z = saturate_to_bits 31 z

abbrev pub sumZ : List ℤ → ℤ
sumZ [] = pos 0
sumZ (x ∷ xs) = x +ℤ sumZ xs

-- so few values that no sum or count of them wraps
abbrev pub Few : List ℤ → Type 0
Few xs = length xs ≤ 2000000000

-- each value is a number of 32 signed bits
abbrev pub Small : List ℤ → Type 0
Small [] = Unit {0}
Small (x ∷ xs) = (mag x < 2 ^ 31) × Small xs

-- the partials of few and small values finish to what whole numbers give
abbrev pub Exact : {M : Type 0} → M → (ℤ → M) → (M → M → M) → (M → Option ℤ) → (List ℤ → Option ℤ) → Type 0
Exact neutral of join finished whole = (xs : List ℤ) → Few xs → Small xs → finished (fold neutral of join xs) ≡ whole xs
