-- What chains of iterators answer, in the words of the specs.
use Rattle.std.proofs.Common.{◌≡◌, ℕ, ◌+◌, ◌≤◌, Some, None, ltb, sym, Bool, true, false, cond, List, [], ◌∷◌, fold, length, map, filter, sum_by, ◌||◌, ◌&&◌, ⊎_elim, refl, ap, ◌∙◌, arith}
use Rattle.std.specs.List.{list_all, list_any, position_or_len}
use Rattle.std.specs.Option.{unwrap_or}
use Rattle.std.proofs.lemmas.Bool.{cases_lt, cond-false, cond-true, le-ltb, lt-ltb}
use Rattle.std.proofs.lemmas.List.Recursion.{is_position_or_len}
use lib.Bits.{bit_or}
use Rattle.tables.specs.declared.op.Op.{Op}
use Rattle.tables.specs.Plans as plans
use Rattle.tables.specs.Rules as rules
use Rattle.tables.specs.Reading.{windows_in}
use Rattle.tables.specs.Tables as tables
use Rattle.checked.specs.declared.element.Output.{Output}
use Rattle.checked.proofs.Ordering.{position_low}
use Rattle.checked.specs.Planning.{position}
use Rattle.checked.specs.Views.{output_of}

pub any_is : {X : Type 0} (f : X → Bool) (xs : List X) → list_any f xs ≡ rules.any f xs
any_is f [] = refl
any_is f (x ∷ xs) = ap (λ b. f x || b) (any_is f xs)

pub all_is : {X : Type 0} (f : X → Bool) (xs : List X) → list_all f xs ≡ rules.all f xs
all_is f [] = refl
all_is f (x ∷ xs) = ap (λ b. f x && b) (all_is f xs)

pub joins_are : (me streams : ℕ) (os : List Op) → fold (λ s o. bit_or s (plans.joins me o)) streams os ≡ plans.all_joins me streams os
joins_are me streams [] = refl
joins_are me streams (o ∷ os) = joins_are me (bit_or streams (plans.joins me o)) os

pub events_are : (os : List Output) → length (filter (λ o. plans.is_event o.pace) os) ≡ plans.events (map output_of os)
events_are [] = refl
events_are (o ∷ os) = by (plans.is_event o.pace) (events_are os)
  where
    by : (b : Bool) → length (filter (λ o. plans.is_event o.pace) os) ≡ plans.events (map output_of os)
        → length (cond b (o ∷ filter (λ o. plans.is_event o.pace) os) (filter (λ o. plans.is_event o.pace) os)) ≡ cond b 1 0 + plans.events (map output_of os)
    by true e = omega (arith, e)
    by false e = omega (arith, e)

windows_from : (n : ℕ) (os : List Op) → fold (λ a o. a + windows_in o) n os ≡ n + tables.windows_of os
windows_from n [] = omega arith
windows_from n (o ∷ os) = omega (arith, windows_from (n + windows_in o) os)

pub windows_are : (os : List Op) → sum_by windows_in os ≡ tables.windows_of os
windows_are os = omega (arith, windows_from 0 os)

-- where an output goes, as a search for the first that ranks above it
pub position_is : (rank : ℕ → ℕ) (a : ℕ) (xs : List ℕ) → position_or_len (λ b. ltb (rank a) (rank b)) xs ≡ position rank a xs
position_is rank a xs = sym (is_position_or_len (position rank a) (λ b. ltb (rank a) (rank b)) refl (λ x ys. refl) xs)

first_or_all : (p n : ℕ) → p ≤ n → unwrap_or (cond (ltb p n) (Some p) None) n ≡ p
first_or_all p n low =
    ⊎_elim
    (λ less. ap (λ o. unwrap_or o n) (cond-true _ _ _ (lt-ltb p n less)))
    (λ full. ap (λ o. unwrap_or o n) (cond-false _ _ _ (le-ltb p n full)) ∙ omega (arith, low, full))
    (cases_lt p n)

pub first_above : (rank : ℕ → ℕ) (a : ℕ) (xs : List ℕ)
    → unwrap_or (cond (ltb (position_or_len (λ b. ltb (rank a) (rank b)) xs) (length xs)) (Some (position_or_len (λ b. ltb (rank a) (rank b)) xs)) None) (length xs) ≡ position rank a xs
first_above rank a xs =
    ap (λ p. unwrap_or (cond (ltb p (length xs)) (Some p) None) (length xs)) (position_is rank a xs) ∙ first_or_all (position rank a xs) (length xs) (position_low rank a xs)
