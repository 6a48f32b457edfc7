-- Deadlines over a range, and what a later time adds to them.
use Rattle.std.proofs.Common.{◌≡◌, ℕ, zero, suc, ◌+◌, ◌-◌, ◌<◌, ◌≤◌, max, Bool, true, false, cond, List, [], ◌∷◌, ◌++◌, length, sym, refl, ap, ◌∙◌, ⊎_elim, arith}
use Rattle.std.proofs.lemmas.List.{append-nil, length-append, nil_from_length}
use Rattle.std.proofs.lemmas.Bool.{cases_lt}
use Rattle.std.specs.List.{AllByRecursion as All}
use Rattle.tables.specs.Kinds.{Table}
use Rattle.records.specs.Alike.{deadlines_to, due_to}
use Rattle.records.specs.Coming.{Free, Next}
use Rattle.records.specs.Schedule.{deadlines, is_deadline, last_of, missing}

nil_left : {X : Type 0} (xs ys : List X) → xs ++ ys ≡ [] → xs ≡ []
nil_left [] ys e = refl
nil_left (x ∷ xs) ys e = let z : ◌≡◌ {A = ℕ} 0 1 = cc in absurd (omega arith)

pub last_append : (d : ℕ) (xs ys : List ℕ) → last_of d (xs ++ ys) ≡ last_of (last_of d xs) ys
last_append d [] ys = refl
last_append d (x ∷ xs) ys = last_append x xs ys

-- each is the least deadline above the one before it
abbrev pub Consecutive : Table → ℕ → List ℕ → Type 0
Consecutive t d [] = Unit {0}
Consecutive t d (x ∷ xs) = Next t d x × Consecutive t x xs

module _ (t : Table) where
  at_length : (a b m n : ℕ) → a ≡ b → m ≡ n → deadlines t a m ≡ deadlines t b n
  at_length a b m n p q = ap (λ x. deadlines t x m) p ∙ ap (deadlines t b) q

  -- one range after another
  pub both : (a m n : ℕ) → deadlines t a (m + n) ≡ deadlines t a m ++ deadlines t (a + m) n
  both a zero n = at_length a (a + 0) (0 + n) n (omega arith) (omega arith)
  both a (suc m) n =
      let rest : deadlines t (a + 1) (m + n) ≡ deadlines t (a + 1) m ++ deadlines t (a + suc m) n =
      both (a + 1) m n ∙ ap (λ l. deadlines t (a + 1) m ++ l) (at_length (a + 1 + m) (a + suc m) n n (omega arith) refl) in
      at_length a a (suc m + n) (suc (m + n)) refl (omega arith) ∙ by (is_deadline t a) rest
    where
      by : (b : Bool) → deadlines t (a + 1) (m + n) ≡ deadlines t (a + 1) m ++ deadlines t (a + suc m) n
          → cond b (a ∷ deadlines t (a + 1) (m + n)) (deadlines t (a + 1) (m + n)) ≡ cond b (a ∷ deadlines t (a + 1) m) (deadlines t (a + 1) m) ++ deadlines t (a + suc m) n
      by true rest = ap (λ l. a ∷ l) rest
      by false rest = rest

  -- no deadline lies between d and a
  free_more : (a d : ℕ) → Free t d a → is_deadline t a ≡ false → Free t d (a + 1)
  free_more a d free off c lo hi = ⊎_elim (λ lt. free c lo lt) (λ le. let same : a ≡ c = omega arith in ap (is_deadline t) (sym same) ∙ off) (cases_lt c a)

  pub consecutive : (n a d : ℕ) → d < a → Free t d a → Consecutive t d (deadlines t a n)
  consecutive zero a d h free = tt
  consecutive (suc n) a d h free = by (is_deadline t a) refl (consecutive n (a + 1))
    where
      by : (b : Bool) → is_deadline t a ≡ b → ((c : ℕ) → c < a + 1 → Free t c (a + 1) → Consecutive t c (deadlines t (a + 1) n)) → Consecutive t d (cond b (a ∷ deadlines t (a + 1) n) (deadlines t (a + 1) n))
      by true e more = (record { above = h; is = e; free = free }, more a (omega arith) (λ c lo hi. absurd (omega arith)))
      by false e more = more d (omega arith) (free_more a d free e)

  pub free_after : (n a d : ℕ) → d < a → Free t d a → Free t (last_of d (deadlines t a n)) (a + n)
  free_after zero a d h free c lo hi = free c lo (omega arith)
  free_after (suc n) a d h free c lo hi = by (is_deadline t a) refl (free_after n (a + 1)) lo
    where
      by : (b : Bool) → is_deadline t a ≡ b → ((k : ℕ) → k < a + 1 → Free t k (a + 1) → Free t (last_of k (deadlines t (a + 1) n)) (a + 1 + n))
          → last_of d (cond b (a ∷ deadlines t (a + 1) n) (deadlines t (a + 1) n)) < c → is_deadline t c ≡ false
      by true e more lo = more a (omega arith) (λ k low high. absurd (omega arith)) c lo (omega arith)
      by false e more lo = more d (omega arith) (free_more a d free e) c lo (omega arith)

  pub deadlines_low : (n a m : ℕ) → a + n ≤ m → All (λ x. x < m) (deadlines t a n)
  deadlines_low zero a m h = tt
  deadlines_low (suc n) a m h = by (is_deadline t a) (deadlines_low n (a + 1) m (omega arith))
    where
      by : (b : Bool) → All (λ x. x < m) (deadlines t (a + 1) n) → All (λ x. x < m) (cond b (a ∷ deadlines t (a + 1) n) (deadlines t (a + 1) n))
      by true more = (omega arith, more)
      by false more = more

  last_low : (n a d : ℕ) → d < a → last_of d (deadlines t a n) < a + n
  last_low zero a d h = omega arith
  last_low (suc n) a d h = by (is_deadline t a) (last_low n (a + 1))
    where
      by : (b : Bool) → ((c : ℕ) → c < a + 1 → last_of c (deadlines t (a + 1) n) < a + 1 + n) → last_of d (cond b (a ∷ deadlines t (a + 1) n) (deadlines t (a + 1) n)) < a + suc n
      by true more = omega (arith, more a (omega arith))
      by false more = omega (arith, more d (omega arith))

  -- nothing stands between the last deadline of a range and the range's end
  none_after : (n a d : ℕ) → d < a → deadlines t (d + 1) (a - 1 - d) ≡ [] → deadlines t (last_of d (deadlines t a n) + 1) (a + n - 1 - last_of d (deadlines t a n)) ≡ []
  none_after zero a d h e = at_length _ _ _ (a - 1 - d) refl (omega arith) ∙ e
  none_after (suc n) a d h e = by (is_deadline t a) refl (none_after n (a + 1))
    where
      end : (k : ℕ) → a + 1 + n - 1 - k ≡ a + suc n - 1 - k
      end k = omega arith

      by : (b : Bool) → is_deadline t a ≡ b
          → ((c : ℕ) → c < a + 1 → deadlines t (c + 1) (a + 1 - 1 - c) ≡ [] → deadlines t (last_of c (deadlines t (a + 1) n) + 1) (a + 1 + n - 1 - last_of c (deadlines t (a + 1) n)) ≡ [])
          → deadlines t (last_of d (cond b (a ∷ deadlines t (a + 1) n) (deadlines t (a + 1) n)) + 1) (a + suc n - 1 - last_of d (cond b (a ∷ deadlines t (a + 1) n) (deadlines t (a + 1) n))) ≡ []
      by true is more = at_length _ _ _ _ refl (sym (end _)) ∙ more a (omega arith) (at_length (a + 1) (a + 1) (a + 1 - 1 - a) 0 refl (omega arith))
      by false is more =
          let l : a + 1 - 1 - d ≡ (a - 1 - d) + 1 = omega arith in
          let s : d + 1 + (a - 1 - d) ≡ a = omega arith in
          at_length _ _ _ _ refl (sym (end _))
          ∙ more d (omega arith)
          (ap (deadlines t (d + 1)) l ∙ both (d + 1) (a - 1 - d) 1 ∙ ap (λ x. x ++ deadlines t (d + 1 + (a - 1 - d)) 1) e
          ∙ ap (λ x. deadlines t x 1) s ∙ ap (λ b. cond b (a ∷ []) []) is)

  -- what a time adds to those less than the greatest time before it
  pub all_more : (g m : ℕ) → deadlines_to t (max g m) ≡ deadlines_to t g ++ missing t (last_of 0 (deadlines_to t g)) m
  all_more g m =
      ⊎_elim
      (λ lt.
      let n : m - 1 - d ≡ (g - 1 - d) + (m - 1 - (g - 1)) = omega (arith, low) in
      let s : d + 1 + (g - 1 - d) ≡ 1 + (g - 1) = omega (arith, low) in
      let u : max g m - 1 ≡ (g - 1) + (m - 1 - (g - 1)) = omega arith in
      ap (deadlines t 1) u ∙ both 1 (g - 1) (m - 1 - (g - 1))
      ∙ ap (λ l. deadlines_to t g ++ l) (sym (ap (deadlines t (d + 1)) n ∙ both (d + 1) (g - 1 - d) (m - 1 - (g - 1)) ∙ ap (λ x. x ++ deadlines t (d + 1 + (g - 1 - d)) (m - 1 - (g - 1))) gap ∙ ap (λ x. deadlines t x (m - 1 - (g - 1))) s)))
      (λ le.
      let n : g - 1 - d ≡ (m - 1 - d) + (g - 1 - d - (m - 1 - d)) = omega arith in
      let u : max g m - 1 ≡ g - 1 = omega arith in
      ap (deadlines t 1) u ∙ sym (append-nil (deadlines_to t g))
      ∙ ap (λ l. deadlines_to t g ++ l) (sym (nil_left (deadlines t (d + 1) (m - 1 - d)) _ (sym (both (d + 1) (m - 1 - d) (g - 1 - d - (m - 1 - d))) ∙ ap (deadlines t (d + 1)) (sym n) ∙ gap))))
      (cases_lt g m)
    where
      d : ℕ
      d = last_of 0 (deadlines_to t g)

      low : d < 1 + (g - 1)
      low = last_low (g - 1) 1 0 (omega arith)

      gap : deadlines t (d + 1) (g - 1 - d) ≡ []
      gap = at_length _ _ (g - 1 - d) (1 + (g - 1) - 1 - d) refl (omega arith) ∙ none_after (g - 1) 1 0 (omega arith) refl

  -- equally many deadlines are equal deadlines
  pub same_due : (g h : ℕ) → due_to t g ≡ due_to t h → deadlines_to t g ≡ deadlines_to t h
  same_due g h e = ⊎_elim (λ lt. by g h (omega arith) e) (λ le. sym (by h g le (sym e))) (cases_lt g h)
    where
      by : (g h : ℕ) → g ≤ h → due_to t g ≡ due_to t h → deadlines_to t g ≡ deadlines_to t h
      by g h le e =
          let n : h - 1 ≡ (g - 1) + (h - 1 - (g - 1)) = omega arith in
          let s = ap (deadlines t 1) n ∙ both 1 (g - 1) (h - 1 - (g - 1)) in
          let l = ap length s ∙ length-append (deadlines_to t g) (deadlines t (1 + (g - 1)) (h - 1 - (g - 1))) in
          let z : length (deadlines t (1 + (g - 1)) (h - 1 - (g - 1))) ≡ 0 = omega arith in
          sym (s ∙ ap (λ x. deadlines_to t g ++ x) (nil_from_length _ z) ∙ append-nil (deadlines_to t g))
