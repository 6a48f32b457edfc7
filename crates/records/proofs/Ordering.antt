-- Outputs that are worked out one by one in the order of evaluation solve their rule.
use Rattle.std.proofs.Common.{◌≡◌, ℕ, zero, suc, ◌<◌, ◌≤◌, Bool, true, false, cond, ltb, ◌⊎◌, List, [], ◌∷◌, length, get_or, set, replicate, sym, refl, ap, ◌∙◌, subst, inl, inr, ⊎_elim, arith}
use Rattle.std.proofs.ByRecursion.{All-weaker}
use Rattle.std.proofs.lemmas.List.{get_or_past, get_or-replicate, get_or-set_other, get_or-set_same, length-replicate, length-set}
use Rattle.std.proofs.lemmas.Bool.{cases_Bool, cases_eq, cases_lt, ltb-true, ltb-false}
use Rattle.std.specs.List.{AllByRecursion as All}
use Rattle.tables.specs.Plans.{insert, ranked}
use Rattle.records.specs.Memory.{one_by_one}
use Rattle.records.proofs.Rounds.{LooksLower, Solves}

abbrev pub In : ℕ → List ℕ → Type 0
In o [] = ⊥
In o (p ∷ ps) = (o ≡ p) ⊎ In o ps

-- by rank, and no output twice
abbrev pub Ordered : (rank : ℕ → ℕ) → List ℕ → Type 0
Ordered rank [] = Unit {0}
Ordered rank (o ∷ os) = All (λ s. (s ≡ o → ⊥) × (rank o ≤ rank s)) os × Ordered rank os

module _ (rank : ℕ → ℕ) where
  insert_all : (P : ℕ → Type 0) (a : ℕ) (bs : List ℕ) → P a → All P bs → All P (insert rank a bs)
  insert_all P a [] p h = (p, tt)
  insert_all P a (b ∷ bs) p h = by (ltb (rank a) (rank b)) (insert_all P a bs p h.1)
    where
      by : (c : Bool) → All P (insert rank a bs) → All P (cond c (a ∷ b ∷ bs) (b ∷ insert rank a bs))
      by true more = (p, h)
      by false more = (h.0, more)

  insert_ordered : (a : ℕ) (bs : List ℕ) → All (λ b. b ≡ a → ⊥) bs → Ordered rank bs → Ordered rank (insert rank a bs)
  insert_ordered a [] apart h = (tt, tt)
  insert_ordered a (b ∷ bs) apart h = by (ltb (rank a) (rank b)) refl (insert_ordered a bs apart.1 h.1)
    where
      both : (bs : List ℕ) → rank a < rank b → All (λ s. s ≡ a → ⊥) bs → All (λ s. (s ≡ b → ⊥) × (rank b ≤ rank s)) bs → All (λ s. (s ≡ a → ⊥) × (rank a ≤ rank s)) bs
      both [] lt p q = tt
      both (s ∷ ss) lt p q = let up = q.0.1 in ((p.0, omega arith), both ss lt p.1 q.1)

      by : (c : Bool) → ltb (rank a) (rank b) ≡ c → Ordered rank (insert rank a bs) → Ordered rank (cond c (a ∷ b ∷ bs) (b ∷ insert rank a bs))
      by true e more = let lt = ltb-true (rank a) (rank b) e in (((apart.0, omega arith), both bs lt apart.1 h.0), h)
      by false e more = (insert_all (λ s. (s ≡ b → ⊥) × (rank b ≤ rank s)) a bs ((λ same. apart.0 (sym same)), ltb-false (rank a) (rank b) e) h.0, more)

  in_insert : (a o : ℕ) (bs : List ℕ) → (o ≡ a) ⊎ In o bs → In o (insert rank a bs)
  in_insert a o [] (inl e) = inl e
  in_insert a o [] (inr h) = absurd h
  in_insert a o (b ∷ bs) h = by (ltb (rank a) (rank b)) (in_insert a o bs) h
    where
      by : (c : Bool) → ((o ≡ a) ⊎ In o bs → In o (insert rank a bs)) → (o ≡ a) ⊎ In o (b ∷ bs) → In o (cond c (a ∷ b ∷ bs) (b ∷ insert rank a bs))
      by true more h = h
      by false more (inl e) = inr (more (inl e))
      by false more (inr (inl e)) = inl e
      by false more (inr (inr h)) = inr (more (inr h))

  ranked_low : (n : ℕ) → All (λ o. o < n) (ranked rank n)
  ranked_low zero = tt
  ranked_low (suc n) = insert_all (λ o. o < suc n) n (ranked rank n) (omega arith) (All-weaker _ _ (λ o lt. omega arith) (ranked rank n) (ranked_low n))

  pub ranked_ordered : (n : ℕ) → Ordered rank (ranked rank n)
  ranked_ordered zero = tt
  ranked_ordered (suc n) = insert_ordered n (ranked rank n) (All-weaker _ _ (λ o lt e. omega arith) (ranked rank n) (ranked_low n)) (ranked_ordered n)

  pub in_ranked : (n o : ℕ) → o < n → In o (ranked rank n)
  in_ranked zero o lt = absurd (omega arith)
  in_ranked (suc n) o lt = in_insert n o (ranked rank n) (⊎_elim (λ low. inr (in_ranked n o low)) (λ le. inl (omega arith)) (cases_lt o n))

-- one by one
module _ {X : Type 0} (none : X) (rule : List X → ℕ → X) where
  untouched : (os : List ℕ) (vs : List X) (s : ℕ) → All (λ o. o ≡ s → ⊥) os → get_or (one_by_one rule os vs) s none ≡ get_or vs s none
  untouched [] vs s h = refl
  untouched (o ∷ os) vs s h =
      untouched os (set vs o (rule vs o)) s h.1 ∙ get_or-set_other vs o s (rule vs o) none (λ e. h.0 (sym e))

  long : (os : List ℕ) (vs : List X) → length (one_by_one rule os vs) ≡ length vs
  long [] vs = refl
  long (o ∷ os) vs = long os (set vs o (rule vs o)) ∙ length-set vs o (rule vs o)

  -- where the rule gives nothing, nothing stays
  module _ (active : ℕ → Bool) (idle : (vs : List X) (o : ℕ) → active o ≡ false → rule vs o ≡ none) where
    stays : (os : List ℕ) (vs : List X) (s : ℕ) → active s ≡ false → get_or vs s none ≡ none → get_or (one_by_one rule os vs) s none ≡ none
    stays [] vs s off z = z
    stays (o ∷ os) vs s off z = stays os (set vs o (rule vs o)) s off (⊎_elim same other (cases_eq s o))
      where
        same : s ≡ o → get_or (set vs o (rule vs o)) s none ≡ none
        same e = ⊎_elim
            (λ lt. ap (λ n. get_or (set vs o (rule vs o)) n none) e ∙ get_or-set_same vs o (rule vs o) none lt ∙ idle vs o (ap active (sym e) ∙ off))
            (λ le. get_or_past _ s none (omega (arith, length-set vs o (rule vs o))))
            (cases_lt o (length vs))

        other : (s ≡ o → ⊥) → get_or (set vs o (rule vs o)) s none ≡ none
        other ne = get_or-set_other vs o s (rule vs o) none ne ∙ z

    module _ (size : ℕ) (level rank : ℕ → ℕ) (lower : LooksLower none rule size level)
        (along : (o s : ℕ) → active o ≡ true → active s ≡ true → rank o ≤ rank s → level o ≤ level s) where
      found : (os : List ℕ) (vs : List X) → length vs ≡ size → ((s : ℕ) → active s ≡ false → get_or vs s none ≡ none) → Ordered rank os
          → (o : ℕ) → o < size → active o ≡ true → In o os → get_or (one_by_one rule os vs) o none ≡ rule (one_by_one rule os vs) o
      found [] vs e z r o lt on i = absurd i
      found (p ∷ os) vs e z r o lt on (inr i) =
          found os (set vs p (rule vs p)) (length-set vs p (rule vs p) ∙ e) (λ s off. stays (p ∷ []) vs s off (z s off)) r.1 o lt on i
      found (p ∷ os) vs e z r o lt on (inl is) = subst (λ q. Ordered rank (q ∷ os) → get_or (one_by_one rule (q ∷ os) vs) o none ≡ rule (one_by_one rule (q ∷ os) vs) o) is here r
        where
          here : Ordered rank (o ∷ os) → get_or (one_by_one rule (o ∷ os) vs) o none ≡ rule (one_by_one rule (o ∷ os) vs) o
          here r =
              untouched os (set vs o (rule vs o)) o (All-weaker _ _ (λ s h. h.0) os r.0)
              ∙ get_or-set_same vs o (rule vs o) none (omega arith)
              ∙ lower o lt vs (one_by_one rule (o ∷ os) vs) (λ s low. ⊎_elim (λ act. sym (before s low act)) (λ off. z s off ∙ sym (stays (o ∷ os) vs s off (z s off))) (cases_Bool (active s)))
            where
              before : (s : ℕ) → level s < level o → active s ≡ true → get_or (one_by_one rule (o ∷ os) vs) s none ≡ get_or vs s none
              before s low act = untouched (o ∷ os) vs s
                  ((λ same. omega (arith, ap level same)), All-weaker _ _ (λ x h same. omega (arith, along o x on (ap active same ∙ act) h.1, ap level same)) os r.0)

      pub one_by_one_solves : (os : List ℕ) → Ordered rank os → ((o : ℕ) → o < size → active o ≡ true → In o os) → Solves none rule size (one_by_one rule os (replicate size none))
      one_by_one_solves os ordered all = record {
        size_is = long os _ ∙ length-replicate size none;
        each_is = λ o lt. ⊎_elim
            (λ on. found os _ (length-replicate size none) (λ s off. blank s) ordered o lt on (all o lt on))
            (λ off. stays os _ o off (blank o) ∙ sym (idle _ o off))
            (cases_Bool (active o));
      }
        where
          blank : (s : ℕ) → get_or (replicate size none) s none ≡ none
          blank s = ⊎_elim (λ lt. get_or-replicate size s none none lt) (λ le. get_or_past _ s none (omega (arith, length-replicate size none))) (cases_lt s size)
