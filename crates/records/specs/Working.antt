-- Operations, worked first to last on a stack, whatever they look up.
use Rattle.std.specs.Prelude.{ℕ, Bool, true, false, cond, List, [], ◌∷◌, ℤ, pos, negsuc, ◌+ℤ◌, ◌-ℤ◌, ◌*ℤ◌, Some, None, Option, ◌==◌, int_lt, nat_lt}
use Rattle.aggregates.specs.declared.kind.Kind.{Kind}
use Rattle.aggregates.specs.Kinds.{kind_whole}
use Rattle.aggregates.specs.Wholes.{clamped}
use Rattle.tables.specs.declared.op.Op.{Op}
use Rattle.tables.specs.declared.op.Op.TheVariants.{Number, Now, Past, Held, Window, Add, Subtract, Multiply, Less, Equal, Choose}

-- what operations look up: past and held with a default, a window with its kind, duration and default
pub record Looks : Type 0 where
  pub now_of : ℕ → ℤ
  pub past_of : (s back : ℕ) → ℤ → ℤ
  pub held_of : ℕ → ℤ → ℤ
  pub window_of : ℕ → Kind → ℕ → ℤ → ℤ

-- a value, or the default
abbrev pub or_else : ℤ → Option ℤ → ℤ
or_else default None = default
or_else default (Some v) = v

-- a window that is read at d: its default while d is less than its duration, and where the covered values have no aggregate
abbrev pub windowed : Kind → (d duration : ℕ) → (default : ℤ) → (covered : List ℤ) → ℤ
windowed k d duration default vs = cond (nat_lt d duration) default (or_else default (kind_whole k vs))

-- 1 or 0
abbrev pub truth : Bool → ℤ
truth true = pos 1
truth false = pos 0

-- the number is 0
abbrev pub is_zero : ℤ → Bool
is_zero (pos n) = n == 0
is_zero (negsuc n) = false

-- the numbers are equal
abbrev pub same : ℤ → ℤ → Bool
same (pos a) (pos b) = a == b
same (pos a) (negsuc b) = false
same (negsuc a) (pos b) = false
same (negsuc a) (negsuc b) = a == b

-- the topmost two values of a stack are replaced by one; the lower operand comes first
abbrev pub two : (ℤ → ℤ → ℤ) → List ℤ → List ℤ
two f [] = []
two f (b ∷ []) = []
two f (b ∷ (a ∷ st)) = f a b ∷ st

-- the topmost three: a where c is not 0, else b
abbrev pub chosen : List ℤ → List ℤ
chosen [] = []
chosen (b ∷ []) = []
chosen (b ∷ (a ∷ [])) = []
chosen (b ∷ (a ∷ (c ∷ st))) = cond (is_zero c) b a ∷ st

-- one operation on a stack, whose topmost value stands first; sums, differences and products are exact and then clamped to 32 signed bits
abbrev pub work : Looks → Op → List ℤ → List ℤ
work k (Number v) st = v ∷ st
work k (Now s) st = k.now_of s ∷ st
work k (Past s back d) st = k.past_of s back d ∷ st
work k (Held s d) st = k.held_of s d ∷ st
work k (Window s a u d) st = k.window_of s a u d ∷ st
work k Add st = two (λ a b. clamped (a +ℤ b)) st
work k Subtract st = two (λ a b. clamped (a -ℤ b)) st
work k Multiply st = two (λ a b. clamped (a *ℤ b)) st
work k Less st = two (λ a b. truth (int_lt a b)) st
work k Equal st = two (λ a b. truth (same a b)) st
work k Choose st = chosen st

-- one operation after the other
abbrev pub works : Looks → List Op → List ℤ → List ℤ
works k [] st = st
works k (o ∷ os) st = works k os (work k o st)

-- the topmost value, or 0
abbrev pub top : List ℤ → ℤ
top [] = pos 0
top (x ∷ xs) = x

-- what operations come to
abbrev pub worked : Looks → List Op → ℤ
worked k os = top (works k os [])
