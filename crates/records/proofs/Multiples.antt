-- Multiples of a period, about the next deadline.
use Rattle.std.proofs.Common.{◌≡◌, ℕ, zero, suc, ◌+◌, ◌*◌, ◌/◌, ◌%◌, ◌<◌, ◌≤◌, Bool, true, List, [], ◌∷◌, length, get_or, sym, ap, ◌∙◌, ⊎_elim, mul-le-mul_right, div-mul-le_self, arith}
use native.Mathlib.Nat.{lt-div-mul-add, mod-add-div', mul-mod_left}
use Rattle.std.proofs.lemmas.Bool.{both_ways, cases_lt, eq-eqb, or_left, or_right}
use Rattle.tables.specs.declared.op.Pace.TheVariants.{Every}
use Rattle.tables.specs.Kinds.{Table}
use Rattle.tables.specs.Rules.{any, nothing, output_at}
use Rattle.records.specs.Coming.{Next}
use Rattle.records.specs.Schedule.{due, due_by, is_deadline}
use Rattle.records.proofs.Nexts.{next_multiple}

any_at : {X : Type 0} (f : X → Bool) (xs : List X) (i : ℕ) (d : X) → i < length xs → f (get_or xs i d) ≡ true → any f xs ≡ true
any_at f [] i d lt e = absurd (omega arith)
any_at f (x ∷ xs) zero d lt e = or_left (f x) (any f xs) e
any_at f (x ∷ xs) (suc i) d lt e = or_right (f x) (any f xs) (any_at f xs i d (omega arith) e)

module _ (t : Table) (o p : ℕ) (lt : o < length t.outputs) (pace : (output_at t o).pace ≡ Every p) where
  multiple_is : (c : ℕ) → c % p ≡ 0 → is_deadline t c ≡ true
  multiple_is c e = any_at (due c) t.outputs o nothing lt (ap (due_by c) pace ∙ eq-eqb (c % p) 0 e)

  module _ (d x : ℕ) (next : Next t d x) (some : 0 < p) where
    at_most : x ≤ d / p * p + p
    at_most = ⊎_elim
        (λ low. absurd (both_ways _ (next.free (d / p * p + p) (lt-div-mul-add some) low) (multiple_is (d / p * p + p) (ap (λ n. n % p) (sym (next_multiple (d / p) p)) ∙ mul-mod_left (d / p + 1) p))))
        (λ le. le)
        (cases_lt (d / p * p + p) x)

    -- where the next deadline is a multiple, it is the next one
    pub on_next : x % p ≡ 0 → x ≡ d / p * p + p
    on_next e =
        let whole = mod-add-div' x p in
        let below = div-mul-le_self d p in
        let up = next.above in
        let most = at_most in
        ⊎_elim
        (λ less. let k : d / p + 1 ≤ x / p = omega arith in omega (arith, mul-le-mul_right p k, next_multiple (d / p) p))
        (λ le. absurd (omega (arith, mul-le-mul_right p le)))
        (cases_lt (d / p) (x / p))

    -- where it is none, the last multiple is still the same
    pub off_next : (x % p ≡ 0 → ⊥) → x / p * p ≡ d / p * p
    off_next apart =
        let whole = mod-add-div' x p in
        let below = div-mul-le_self d p in
        let up = next.above in
        let most = at_most in
        let above : x < x / p * p + p = lt-div-mul-add some in
        ⊎_elim
        (λ less.
        let k : d / p + 1 ≤ x / p = omega arith in
        let u = mul-le-mul_right p k in
        let e : x % p ≡ 0 = omega (arith, next_multiple (d / p) p) in
        absurd (apart e))
        (λ le.
        ⊎_elim
        (λ less. let k : x / p + 1 ≤ d / p = omega arith in absurd (omega (arith, mul-le-mul_right p k, next_multiple (x / p) p)))
        (λ ge. let e : x / p ≡ d / p = omega arith in ap (λ q. q * p) e)
        (cases_lt (x / p) (d / p)))
        (cases_lt (d / p) (x / p))
