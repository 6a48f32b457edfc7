-- More places than values: two places have one value.
use Rattle.std.proofs.Common.{◌≡◌, ℕ, zero, suc, ◌<◌, ◌≤◌, cond, eqb, ◌⊎◌, sym, ap, ◌∙◌, inl, inr, ⊎_elim, arith}
use Rattle.std.proofs.lemmas.Bool.{cases_eq, cond-false, cond-true, eq-eqb, ne_eqb}

pub record Twice (f : ℕ → ℕ) (n : ℕ) : Type 0 where
  pub one : ℕ
  pub two : ℕ
  pub order : one < two
  pub low : two ≤ n
  pub same : f one ≡ f two

-- the value stands at one of the first k places, or at none
among : (f : ℕ → ℕ) (v k : ℕ) → ((i : ℕ) × (i < k) × (f i ≡ v)) ⊎ ((i : ℕ) → i < k → f i ≡ v → ⊥)
among f v zero = inr (λ i lt e. omega arith)
among f v (suc k) =
    ⊎_elim
    (λ h. inl (h.0, (let lt = h.1 in omega arith), h.2))
    (λ none. ⊎_elim
    (λ e. inl (k, omega arith, e))
    (λ ne. inr (λ i lt e. ⊎_elim (λ same. ne (ap f (sym same) ∙ e)) (λ other. none i (omega arith) e) (cases_eq i k)))
    (cases_eq (f k) v))
    (among f v k)

-- where g is f but for the value m, in the stead of which it has one that stands at none of the first places, two places with one value by g have one by f
moved_back : (m v : ℕ) (f g : ℕ → ℕ) → ((i : ℕ) → f i ≡ m → g i ≡ v) → ((i : ℕ) → (f i ≡ m → ⊥) → g i ≡ f i) → ((i : ℕ) → i < suc m → f i ≡ v → ⊥) → Twice g m → Twice f (suc m)
moved_back m v f g moved stays none t = record { one = i; two = j; order = t.order; low = omega arith; same = by (cases_eq (f i) m) (cases_eq (f j) m) }
  where
    i : ℕ
    i = t.one

    j : ℕ
    j = t.two

    first : i < suc m
    first = let a = t.order in let b = t.low in omega arith

    second : j < suc m
    second = let b = t.low in omega arith

    by : (f i ≡ m) ⊎ (f i ≡ m → ⊥) → (f j ≡ m) ⊎ (f j ≡ m → ⊥) → f i ≡ f j
    by (inl a) (inl b) = a ∙ sym b
    by (inl a) (inr d) = absurd (none j second (sym (stays j d) ∙ sym t.same ∙ moved i a))
    by (inr c) (inl b) = absurd (none i first (sym (stays i c) ∙ t.same ∙ moved j b))
    by (inr c) (inr d) = sym (stays i c) ∙ t.same ∙ stays j d

pub pigeons : (n : ℕ) (f : ℕ → ℕ) → ((i : ℕ) → i ≤ n → f i < n) → Twice f n
pigeons zero f low = absurd (let h = low 0 (omega arith) in omega arith)
pigeons (suc m) f low =
    -- the last place's value takes the place of the greatest, so that one value fewer is left
    let v : ℕ = f (suc m) in
    let g : ℕ → ℕ = λ i. cond (eqb (f i) m) v (f i) in
    let moved : (i : ℕ) → f i ≡ m → g i ≡ v = λ i e. cond-true _ _ _ (eq-eqb (f i) m e) in
    let stays : (i : ℕ) → (f i ≡ m → ⊥) → g i ≡ f i = λ i d. cond-false _ _ _ (ne_eqb (f i) m d) in
    ⊎_elim
    (λ h. record { one = h.0; two = suc m; order = h.1; low = omega arith; same = h.2 })
    (λ none. moved_back m v f g moved stays none (pigeons m g (λ i le.
    let here = low i (omega arith) in
    let last = low (suc m) (omega arith) in
    ⊎_elim
    (λ e. let a = moved i e in let d : v ≡ m → ⊥ = (λ same. none i (omega arith) (e ∙ sym same)) in omega arith)
    (λ d. let a = stays i d in omega arith)
    (cases_eq (f i) m))))
    (among f v (suc m))
