-- Judging elements one after another, each with its place.
use Rattle.std.proofs.Common.{◌≡◌, ℕ, ◌+◌, ◌⊎◌, Bool, inl, inr, List, [], ◌∷◌, map, length, Result, refl, ap, arith}
use Rattle.tables.specs.Kinds.{Table}
use Rattle.tables.specs.Tables.{Refusal, sure}
use Rattle.checked.specs.Judging.{first_fault}

-- nothing is left to be judged
pub judged_all : {X : Type 0} (keeps : ℕ → X → Bool) (me : ℕ) (xs : List X) (places : List ℕ) (rest : Result Table Refusal) → (length xs ≡ 0) ⊎ (length places ≡ 0) → rest ≡ first_fault keeps me xs places rest
judged_all keeps me [] places rest end = refl
judged_all keeps me (x ∷ xs) [] rest end = refl
judged_all keeps me (x ∷ xs) (place ∷ places) rest (inl none) = absurd (omega arith)
judged_all keeps me (x ∷ xs) (place ∷ places) rest (inr none) = absurd (omega arith)

-- elements are judged by what they say
pub judged_said : {X Y : Type 0} (f : X → Y) (keeps : ℕ → Y → Bool) (me : ℕ) (xs : List X) (places : List ℕ) (rest : Result Table Refusal) → first_fault (λ m x. keeps m (f x)) me xs places rest ≡ first_fault keeps me (map f xs) places rest
judged_said f keeps me [] places rest = refl
judged_said f keeps me (x ∷ xs) [] rest = refl
judged_said f keeps me (x ∷ xs) (place ∷ places) rest = ap (sure (keeps me (f x)) 5 place) (judged_said f keeps (me + 1) xs places rest)
