-- What stands in lists, from the front.
use Rattle.std.proofs.Common.{◌≡◌, ◌⊎◌, List, [], ◌∷◌, Contains, sym, inl, inr, ⊎_elim, arith}
use Rattle.std.proofs.lemmas.List.Elements.{Contains-append_cases, Contains-append_right, Contains-push_cases}

pub member_none : {X : Type 0} (x : X) → Contains [] x → ⊥
member_none x i = let lt = i.1 in omega arith

pub member_cases : {X : Type 0} (x y : X) (ys : List X) → Contains (y ∷ ys) x → (x ≡ y) ⊎ Contains ys x
member_cases x y ys i =
    ⊎_elim (λ h. ⊎_elim (λ n. absurd (member_none x n)) (λ e. inl (sym e)) (Contains-push_cases [] y x h)) (λ h. inr h) (Contains-append_cases (y ∷ []) ys x i)

pub member_first : {X : Type 0} (x y : X) (ys : List X) → x ≡ y → Contains (y ∷ ys) x
member_first x y ys e = (0, omega arith, sym e)

pub member_rest : {X : Type 0} (x y : X) (ys : List X) → Contains ys x → Contains (y ∷ ys) x
member_rest x y ys i = Contains-append_right (y ∷ []) ys x i
