-- Lists whose elements fit 32 signed bits.
use Rattle.std.proofs.Common.{ℕ, suc, ◌<◌, List, [], ◌∷◌, length, get_or, ℤ, pos, arith, w32, SFits}
use Rattle.aggregates.specs.Wholes.{Small}

pub small_places : (xs : List ℤ) → ((k : ℕ) → k < length xs → SFits w32 (get_or xs k (pos 0))) → Small xs
small_places [] fits = tt
small_places (x ∷ xs) fits = ((fits 0 (omega arith)).sfits, small_places xs (λ k h. fits (suc k) (omega arith)))
