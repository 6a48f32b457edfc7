-- Panes are consecutive slices of the values that a stream had, with their times.
use Rattle.std.proofs.Common.{◌≡◌, ℕ, zero, suc, ◌+◌, ◌-◌, ◌*◌, ◌<◌, ◌≤◌, cond, ◌&&◌, ltb, leb, List, [], ◌∷◌, ◌++◌, length, get_or, set, replicate, ℤ, sym, refl, ap, ◌∙◌, ⊎_elim, append_assoc, suc-mul, zero-mul, arith}
use mathlib.Core.List.{flatten}
use Rattle.std.proofs.lemmas.List.{append-nil, get_or_at, length_push, set_at}
use Rattle.std.proofs.lemmas.Bool.{and_from, and_left, and_right, cases_lt, cond-false, cond-true, le-leb, le-ltb, lt-leb, lt-ltb}
use Rattle.aggregates.specs.Folds.{at_newest, slid}

-- a value with its time; lists of them have the latest first
pub record Stamp : Type 0 where
  pub time : ℕ
  pub value : ℤ

-- the values with times above low and at most high, oldest first
abbrev pub between : (low high : ℕ) → List Stamp → List ℤ
between low high [] = []
between low high (x ∷ xs) = between low high xs ++ cond (ltb low x.time && leb x.time high) (x.value ∷ []) []

abbrev pub Under : ℕ → List Stamp → Type 0
Under m [] = Unit {0}
Under m (x ∷ xs) = (x.time ≤ m) × Under m xs

abbrev pub Sorted : List Stamp → Type 0
Sorted [] = Unit {0}
Sorted (x ∷ xs) = Under x.time xs × Sorted xs

-- m panes of length p that end at c, oldest first
abbrev pub older : (c p m : ℕ) → List Stamp → List (List ℤ)
older c p zero xs = []
older c p (suc m) xs = between (c - suc m * p) (c - m * p) xs ∷ older c p m xs

-- and then the newest, up to r
abbrev pub slices : (c p m r : ℕ) → List Stamp → List (List ℤ)
slices c p m r xs = older c p m xs ++ (between c r xs ∷ [])

-- ONE STAMP

module _ (low high : ℕ) (x : Stamp) (xs : List Stamp) where
  kept : low < x.time → x.time ≤ high → between low high (x ∷ xs) ≡ between low high xs ++ (x.value ∷ [])
  kept a b = ap (λ l. between low high xs ++ l) (cond-true _ _ _ (and_from _ _ (lt-ltb low x.time a) (le-leb x.time high b)))

  too_low : x.time ≤ low → between low high (x ∷ xs) ≡ between low high xs
  too_low a = ap (λ l. between low high xs ++ l) (cond-false _ _ _ (and_left _ _ (le-ltb low x.time a))) ∙ append-nil (between low high xs)

  too_high : high < x.time → between low high (x ∷ xs) ≡ between low high xs
  too_high a = ap (λ l. between low high xs ++ l) (cond-false _ _ _ (and_right _ _ (lt-leb x.time high a))) ∙ append-nil (between low high xs)

pub under_more : (m n : ℕ) (xs : List Stamp) → m ≤ n → Under m xs → Under n xs
under_more m n [] le u = tt
under_more m n (x ∷ xs) le u = let h = u.0 in (omega arith, under_more m n xs le u.1)

none_between : (low high : ℕ) (xs : List Stamp) → Under low xs → between low high xs ≡ []
none_between low high [] u = refl
none_between low high (x ∷ xs) u = too_low low high x xs u.0 ∙ none_between low high xs u.1

empty_between : (low high : ℕ) (xs : List Stamp) → high ≤ low → between low high xs ≡ []
empty_between low high [] h = refl
empty_between low high (x ∷ xs) h =
    ⊎_elim (λ over. too_high low high x xs over) (λ le. too_low low high x xs (omega arith)) (cases_lt high x.time) ∙ empty_between low high xs h

-- no time is above m, so that more than m makes no difference
pub raised : (low m high : ℕ) (xs : List Stamp) → m ≤ high → Under m xs → between low high xs ≡ between low m xs
raised low m high [] le u = refl
raised low m high (x ∷ xs) le u =
    let h = u.0 in
    ap (λ b. between low high xs ++ cond (ltb low x.time && b) (x.value ∷ []) []) (le-leb x.time high (omega arith) ∙ sym (le-leb x.time m h))
    ∙ ap (λ l. l ++ cond (ltb low x.time && leb x.time m) (x.value ∷ []) []) (raised low m high xs le u.1)

split : (low mid high : ℕ) (xs : List Stamp) → low ≤ mid → mid ≤ high → Sorted xs → between low high xs ≡ between low mid xs ++ between mid high xs
split low mid high [] a b s = refl
split low mid high (x ∷ xs) a b s =
    let more = split low mid high xs a b s.1 in
    ⊎_elim
    (λ over.
    ⊎_elim
    (λ out. too_high low high x xs out ∙ more ∙ sym (ap (λ l. l ++ between mid high (x ∷ xs)) (too_high low mid x xs over) ∙ ap (λ l. between low mid xs ++ l) (too_high mid high x xs out)))
    (λ within.
    kept low high x xs (omega arith) within ∙ ap (λ l. l ++ (x.value ∷ [])) more ∙ append_assoc (between low mid xs) (between mid high xs) (x.value ∷ [])
    ∙ sym (ap (λ l. l ++ between mid high (x ∷ xs)) (too_high low mid x xs over) ∙ ap (λ l. between low mid xs ++ l) (kept mid high x xs over within)))
    (cases_lt high x.time))
    (λ le.
    let u = under_more x.time mid xs le s.0 in
    let none : between mid high (x ∷ xs) ≡ [] = none_between mid high (x ∷ xs) (le, u) in
    raised low mid high (x ∷ xs) b (le, u) ∙ sym (append-nil (between low mid (x ∷ xs))) ∙ ap (λ l. between low mid (x ∷ xs) ++ l) (sym none))
    (cases_lt mid x.time)

-- ALL PANES

older_flat : (m c p : ℕ) (xs : List Stamp) → Sorted xs → flatten (older c p m xs) ≡ between (c - m * p) c xs
unfolding flatten
older_flat zero c p xs s = let z : c ≤ c - 0 * p = omega (arith, zero-mul p) in sym (empty_between (c - 0 * p) c xs z)
older_flat (suc m) c p xs s =
    ap (λ l. between (c - suc m * p) (c - m * p) xs ++ l) (older_flat m c p xs s)
    ∙ sym (split (c - suc m * p) (c - m * p) c xs (omega (arith, suc-mul m p)) (omega arith) s)

flatten_push : (ls : List (List ℤ)) (l : List ℤ) → flatten (ls ++ (l ∷ [])) ≡ flatten ls ++ l
unfolding flatten
flatten_push [] l = append-nil l
flatten_push (x ∷ ls) l = ap (λ y. x ++ y) (flatten_push ls l) ∙ sym (append_assoc x (flatten ls) l)

-- at the next multiple d of the period all panes together are what the window covers
pub slices_cover : (m c p r d : ℕ) (xs : List Stamp) → d ≡ c + p → r ≤ d → Sorted xs → Under r xs → flatten (slices c p m r xs) ≡ between (d - suc m * p) d xs
slices_cover m c p r d xs e le s u =
    let low : c - m * p ≡ d - suc m * p = omega (arith, suc-mul m p) in
    flatten_push (older c p m xs) (between c r xs)
    ∙ ap (λ l. l ++ between c r xs) (older_flat m c p xs s ∙ ap (λ k. between k c xs) low)
    ∙ ap (λ l. between (d - suc m * p) c xs ++ l) (sym (raised c r d xs le u))
    ∙ sym (split (d - suc m * p) c d xs (omega (arith, suc-mul m p)) (omega arith) s)

older_next : (m c p : ℕ) (xs : List Stamp) → older (c + p) p (suc m) xs ≡ older c p m xs ++ (between c (c + p) xs ∷ [])
older_next zero c p xs =
    let low : c + p - 1 * p ≡ c = omega (arith, one p) in
    let high : c + p - 0 * p ≡ c + p = omega (arith, zero-mul p) in
    ap (λ k. between k (c + p - 0 * p) xs ∷ []) low ∙ ap (λ k. between c k xs ∷ []) high
  where
    one : (p : ℕ) → 1 * p ≡ p
    one p = omega arith
older_next (suc m) c p xs =
    let low : c + p - suc (suc m) * p ≡ c - suc m * p = omega (arith, suc-mul (suc m) p) in
    let high : c + p - suc m * p ≡ c - m * p = omega (arith, suc-mul m p) in
    ap (λ l. between (c + p - suc (suc m) * p) (c + p - suc m * p) xs ∷ l) (older_next m c p xs)
    ∙ ap (λ k. between k (c + p - suc m * p) xs ∷ (older c p m xs ++ (between c (c + p) xs ∷ []))) low
    ∙ ap (λ k. between (c - suc m * p) k xs ∷ (older c p m xs ++ (between c (c + p) xs ∷ []))) high

-- then they slide
pub slices_slide : (m c p r d : ℕ) (xs : List Stamp) → d ≡ c + p → r ≤ d → Under r xs → slid [] (slices c p m r xs) ≡ slices d p m r xs
slices_slide zero c p r d xs e le u = ap (λ l. l ∷ []) (sym (none_between d r xs (under_more r d xs le u)))
slices_slide (suc m) c p r d xs e le u =
    ap (λ l. (older c p m xs ++ (l ∷ [])) ++ ([] ∷ [])) (sym (raised c r d xs le u))
    ∙ ap (λ k. (older c p m xs ++ (between c k xs ∷ [])) ++ ([] ∷ [])) e
    ∙ ap (λ l. l ++ ([] ∷ [])) (sym (older_next m c p xs))
    ∙ ap (λ k. older k p (suc m) xs ++ ([] ∷ [])) (sym e)
    ∙ ap (λ l. older d p (suc m) xs ++ (l ∷ [])) (sym (none_between d r xs (under_more r d xs le u)))

newest_push : {M : Type 0} (default : M) (f : M → M) (ys : List M) (z : M) → at_newest default f (ys ++ (z ∷ [])) ≡ ys ++ (f z ∷ [])
newest_push default f ys z =
    let n : length (ys ++ (z ∷ [])) - 1 ≡ length ys = omega (arith, length_push ys z) in
    ap (λ k. set (ys ++ (z ∷ [])) k (f (get_or (ys ++ (z ∷ [])) k default))) n
    ∙ ap (λ v. set (ys ++ (z ∷ [])) (length ys) (f v)) (get_or_at ys z [] default (length ys) refl)
    ∙ set_at ys z [] (f z) (length ys) refl

older_same : (m c p : ℕ) (x : Stamp) (xs : List Stamp) → c < x.time → older c p m (x ∷ xs) ≡ older c p m xs
older_same zero c p x xs h = refl
older_same (suc m) c p x xs h =
    ap (λ l. l ∷ older c p m (x ∷ xs)) (too_high (c - suc m * p) (c - m * p) x xs (omega arith))
    ∙ ap (λ l. between (c - suc m * p) (c - m * p) xs ∷ l) (older_same m c p x xs h)

-- a value that is later than the last multiple joins the newest pane
pub slices_gain : (m c p r : ℕ) (x : Stamp) (xs : List Stamp) → c < x.time → r ≤ x.time → Under r xs
    → at_newest [] (λ l. l ++ (x.value ∷ [])) (slices c p m r xs) ≡ slices c p m x.time (x ∷ xs)
slices_gain m c p r x xs h le u =
    newest_push [] (λ l. l ++ (x.value ∷ [])) (older c p m xs) (between c r xs)
    ∙ ap (λ l. older c p m xs ++ ((l ++ (x.value ∷ [])) ∷ [])) (sym (raised c r x.time xs le u))
    ∙ ap (λ l. older c p m xs ++ (l ∷ [])) (sym (kept c x.time x xs h (omega arith)))
    ∙ ap (λ l. l ++ (between c x.time (x ∷ xs) ∷ [])) (sym (older_same m c p x xs h))

-- a time without a value makes no difference
pub slices_raise : (m c p r high : ℕ) (xs : List Stamp) → r ≤ high → Under r xs → slices c p m r xs ≡ slices c p m high xs
slices_raise m c p r high xs le u = ap (λ l. older c p m xs ++ (l ∷ [])) (sym (raised c r high xs le u))

-- at the start all are empty
pub slices_none : (m c p r : ℕ) → replicate (suc m) [] ≡ slices c p m r []
slices_none zero c p r = refl
slices_none (suc m) c p r = ap (λ l. [] ∷ l) (slices_none m c p r)
