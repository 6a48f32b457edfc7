-- Operations come to the same where what they look up is the same.
use Rattle.std.proofs.Common.{◌≡◌, List, [], ◌∷◌, ℤ, refl, ap, ◌∙◌}
use Rattle.std.specs.List.{AllByRecursion as All}
use Rattle.tables.specs.declared.op.Op.{Op}
use Rattle.tables.specs.declared.op.Op.TheVariants.{Number, Now, Past, Held, Window, Add, Subtract, Multiply, Less, Equal, Choose}
use Rattle.records.specs.Working.{Looks, top, work, worked, works}

-- what one operation looks up is the same
abbrev pub SameLook : Looks → Looks → Op → Type 0
SameLook j k (Number v) = Unit {0}
SameLook j k (Now s) = j.now_of s ≡ k.now_of s
SameLook j k (Past s back d) = j.past_of s back d ≡ k.past_of s back d
SameLook j k (Held s d) = j.held_of s d ≡ k.held_of s d
SameLook j k (Window s a u d) = j.window_of s a u d ≡ k.window_of s a u d
SameLook j k Add = Unit {0}
SameLook j k Subtract = Unit {0}
SameLook j k Multiply = Unit {0}
SameLook j k Less = Unit {0}
SameLook j k Equal = Unit {0}
SameLook j k Choose = Unit {0}

work_same : (j k : Looks) (o : Op) (st : List ℤ) → SameLook j k o → work j o st ≡ work k o st
work_same j k (Number v) st h = refl
work_same j k (Now s) st h = ap (λ v. v ∷ st) h
work_same j k (Past s back d) st h = ap (λ v. v ∷ st) h
work_same j k (Held s d) st h = ap (λ v. v ∷ st) h
work_same j k (Window s a u d) st h = ap (λ v. v ∷ st) h
work_same j k Add st h = refl
work_same j k Subtract st h = refl
work_same j k Multiply st h = refl
work_same j k Less st h = refl
work_same j k Equal st h = refl
work_same j k Choose st h = refl

works_same : (j k : Looks) (os : List Op) (st : List ℤ) → All (SameLook j k) os → works j os st ≡ works k os st
works_same j k [] st h = refl
works_same j k (o ∷ os) st h = ap (works j os) (work_same j k o st h.0) ∙ works_same j k os (work k o st) h.1

pub worked_same : (j k : Looks) (os : List Op) → All (SameLook j k) os → worked j os ≡ worked k os
worked_same j k os h = ap top (works_same j k os [] h)
