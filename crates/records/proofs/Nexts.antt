-- The next deadline, and what is still to come of a record.
use Rattle.std.proofs.Common.{◌≡◌, ℕ, zero, suc, ◌+◌, ◌-◌, ◌*◌, ◌/◌, ◌%◌, ◌<◌, ◌≤◌, min, Bool, true, false, cond, ◌||◌, eqb, ltb, leb, List, [], ◌∷◌, ◌++◌, map, Some, None, Option, sym, refl, ap, ◌∙◌, subst, ⊎_elim, mul-le-mul_right, add-mul, one-mul, div-mul-le_self, arith}
use native.Mathlib.Nat.{lt-div-mul-add, mod-add-div', mul-mod_left}
use Rattle.std.proofs.ByRecursion.{All-weaker}
use Rattle.std.proofs.lemmas.Bool.{and_parts, cases_lt, cond-true, eq-eqb, leb-true, ltb-true, ne_eqb, or_cases, or_from, or_left, or_right}
use Rattle.std.specs.List.{AllByRecursion as All}
use Rattle.items.specs.declared.item.Item.{Item}
use Rattle.items.specs.declared.item.Item.TheVariants.{Marked, Read}
use Rattle.items.specs.declared.item.Mark.{Mark}
use Rattle.items.specs.declared.item.Reading.{Reading}
use Rattle.items.specs.Items.{time_of}
use Rattle.tables.specs.declared.op.Pace.{Pace}
use Rattle.tables.specs.declared.op.Pace.TheVariants.{Event, Every}
use Rattle.tables.specs.Kinds.{Output, Table}
use Rattle.tables.specs.Rules.{any}
use Rattle.tables.specs.Sound.{is_pace, sound}
use Rattle.records.specs.declared.entry.Entry.{Entry}
use Rattle.records.specs.declared.entry.Letter.TheVariants.{L}
use Rattle.records.specs.Coming.{Comings, Free, IsNext, Next, Reached, coming, next, next_by, next_of, sooner}
use Rattle.records.specs.Entries.{Frame}
use Rattle.records.specs.Reference.{entry, fill, then}
use Rattle.records.specs.Schedule.{deadline_frame, deadlines, due, due_by, is_deadline, is_late, last_R, last_of, letter_of, missing, reading_frame, schedule_from}
use Rattle.records.proofs.Ranges.{both}
use Rattle.records.proofs.Soundness.{outputs_whole}

-- ONE PERIOD

pub next_multiple : (q p : ℕ) → (q + 1) * p ≡ q * p + p
next_multiple q p = add-mul q 1 p ∙ ap (λ x. q * p + x) (one-mul p)

above : (d p : ℕ) → 0 < p → d < (d / p + 1) * p
above d p h = rw next_multiple (lt-div-mul-add h)

on : (d p : ℕ) → eqb ((d / p + 1) * p % p) 0 ≡ true
on d p = eq-eqb _ 0 (mul-mod_left (d / p + 1) p)

off : (d p c : ℕ) → d < c → c < (d / p + 1) * p → eqb (c % p) 0 ≡ false
off d p c lo hi = ne_eqb (c % p) 0 (λ e.
    let whole = mod-add-div' c p in
    let below = div-mul-le_self d p in
    ⊎_elim
    (λ lt. let k : d / p + 1 ≤ c / p = omega arith in omega (arith, mul-le-mul_right p k))
    (λ le. omega (arith, mul-le-mul_right p le))
    (cases_lt (d / p) (c / p)))

-- ALL OUTPUTS

-- the least number above d that passes
abbrev Least : (ℕ → Bool) → ℕ → Option ℕ → Type 0
Least f d None = (c : ℕ) → d < c → f c ≡ false
Least f d (Some n) = (d < n) × (f n ≡ true) × ((c : ℕ) → d < c → c < n → f c ≡ false)

abbrev pub Positive : Pace → Type 0
Positive Event = Unit {0}
Positive (Every p) = 0 < p

module _ (d : ℕ) (os : List Output) where
  joined : (p : ℕ) (rest : Option ℕ) → 0 < p → Least (λ c. any (due c) os) d rest → Least (λ c. due_by c (Every p) || any (due c) os) d (Some (sooner ((d / p + 1) * p) rest))
  joined p None h is = (above d p h, or_left _ _ (on d p), λ c lo hi. or_from _ _ (off d p c lo hi) (is c lo))
  joined p (Some n) h is =
      let u = above d p h in
      let v = is.0 in
      ⊎_elim
      (λ lt.
      let e : min ((d / p + 1) * p) n ≡ (d / p + 1) * p = omega arith in
      subst (λ k. Least (λ c. due_by c (Every p) || any (due c) os) d (Some k)) (sym e)
      (u, or_left _ _ (on d p), λ c lo hi. or_from _ _ (off d p c lo hi) (is.2 c lo (omega arith))))
      (λ le.
      let e : min ((d / p + 1) * p) n ≡ n = omega arith in
      subst (λ k. Least (λ c. due_by c (Every p) || any (due c) os) d (Some k)) (sym e)
      (v, or_right _ _ is.1, λ c lo hi. or_from _ _ (off d p c lo (omega arith)) (is.2 c lo hi)))
      (cases_lt ((d / p + 1) * p) n)

  by_pace : (p : Pace) (rest : Option ℕ) → Positive p → Least (λ c. any (due c) os) d rest → Least (λ c. due_by c p || any (due c) os) d (next_by d p rest)
  by_pace Event rest h is = is
  by_pace (Every p) rest h is = joined p rest h is

next_least_of : (d : ℕ) (os : List Output) → All (λ o. Positive o.pace) os → Least (λ c. any (due c) os) d (next_of d os)
next_least_of d [] h = λ c lo. refl
next_least_of d (o ∷ os) h = by_pace d os o.pace (next_of d os) h.0 (next_least_of d os h.1)

positive_pace : (p : Pace) → is_pace p ≡ true → Positive p
positive_pace Event e = tt
positive_pace (Every p) e = leb-true 1 p (and_parts _ _ e).0

module _ (t : Table) (whole : sound t ≡ true) where
  pub positive : All (λ o. Positive o.pace) t.outputs
  positive = All-weaker _ _ (λ o e. positive_pace o.pace (and_parts _ _ e).0) t.outputs (outputs_whole t whole)

  pub next_least : (d : ℕ) → IsNext t d (next t d)
  next_least d = by (next t d) (next_least_of d t.outputs positive)
    where
      by : (n : Option ℕ) → Least (is_deadline t) d n → IsNext t d n
      by None h = h
      by (Some n) h = record { above = h.0; is = h.1; free = h.2 }

-- WHAT IS TO COME

free_none : (t : Table) (n a : ℕ) → ((c : ℕ) → a ≤ c → c < a + n → is_deadline t c ≡ false) → deadlines t a n ≡ []
free_none t zero a h = refl
free_none t (suc n) a h =
    ap (λ b. cond b (a ∷ deadlines t (a + 1) n) (deadlines t (a + 1) n)) (h a (omega arith) (omega arith))
    ∙ free_none t n (a + 1) (λ c lo hi. h c (omega arith) (omega arith))

free_missing : (t : Table) (d m : ℕ) → Free t d m → missing t d m ≡ []
free_missing t d m h = free_none t (m - 1 - d) (d + 1) (λ c lo hi. h c (omega arith) (omega arith))

first_missing : (t : Table) (d m n : ℕ) → Next t d n → n < m → missing t d m ≡ n ∷ missing t n m
first_missing t d m n is lt =
    let above = is.above in
    let l : m - 1 - d ≡ (n - 1 - d) + suc (m - 1 - n) = omega arith in
    let s : d + 1 + (n - 1 - d) ≡ n = omega arith in
    ap (deadlines t (d + 1)) l ∙ both t (d + 1) (n - 1 - d) (suc (m - 1 - n))
    ∙ ap (λ x. x ++ deadlines t (d + 1 + (n - 1 - d)) (suc (m - 1 - n))) (free_missing t d n is.free)
    ∙ ap (λ x. deadlines t x (suc (m - 1 - n))) s
    ∙ ap (λ b. cond b (n ∷ deadlines t (n + 1) (m - 1 - n)) (deadlines t (n + 1) (m - 1 - n))) is.is

-- the frames that an item adds by itself, and what stands after them, where the deadlines ds come first
abbrev own_from : Table → (d r : ℕ) → Item → List Item → List ℕ → List Frame
own_from t d r (Marked m) xs ds = map (deadline_frame t) ds ++ schedule_from t (last_of d ds) r xs
own_from t d r (Read x) xs ds =
    let l = letter_of t (last_of d ds) r x in
    map (deadline_frame t) ds ++ (reading_frame t l x ∷ schedule_from t (last_of d ds) (last_R l r x.time) xs)

own_is : (t : Table) (d r : ℕ) (x : Item) (xs : List Item) → schedule_from t d r (x ∷ xs) ≡ own_from t d r x xs (missing t d (time_of x))
own_is t d r (Marked m) xs = refl
own_is t d r (Read x) xs = refl

own_cons : (t : Table) (d r n : ℕ) (x : Item) (xs : List Item) (ds : List ℕ) → own_from t d r x xs (n ∷ ds) ≡ deadline_frame t n ∷ own_from t n r x xs ds
own_cons t d r n (Marked m) xs ds = refl
own_cons t d r n (Read x) xs ds = refl

module _ (t : Table) (whole : sound t ≡ true) where
  reached_free : (d m : ℕ) → Reached (next t d) m → Free t d m
  reached_free d m = by (next t d) (next_least t whole d)
    where
      by : (n : Option ℕ) → IsNext t d n → Reached n m → Free t d m
      by None is h c lo hi = is c lo
      by (Some n) is h c lo hi = is.free c lo (omega arith)

  deadline_first : (before : List Entry) (d r n : ℕ) (x : Item) (xs : List Item) → next t d ≡ Some n → n < time_of x
      → coming t before d r (x ∷ xs) ≡ then (entry t before (deadline_frame t n)) (λ e. coming t (e ∷ before) n r (x ∷ xs))
  deadline_first before d r n x xs e lt =
      let is : Next t d n = subst (IsNext t d) e (next_least t whole d) in
      ap (fill t before) (own_is t d r x xs ∙ ap (own_from t d r x xs) (first_missing t d (time_of x) n is lt) ∙ own_cons t d r n x xs _ ∙ ap (λ fs. deadline_frame t n ∷ fs) (sym (own_is t n r x xs)))

  mark_adds : (before : List Entry) (d r : ℕ) (m : Mark) (xs : List Item) → Reached (next t d) m.time → coming t before d r (Marked m ∷ xs) ≡ coming t before d r xs
  mark_adds before d r m xs h = ap (λ ds. fill t before (map (deadline_frame t) ds ++ schedule_from t (last_of d ds) r xs)) (free_missing t d m.time (reached_free d m.time h))

  reading_adds : (before : List Entry) (d r : ℕ) (x : Reading) (xs : List Item) → Reached (next t d) x.time
      → coming t before d r (Read x ∷ xs)
      ≡ then (entry t before (reading_frame t (letter_of t d r x) x)) (λ e. coming t (e ∷ before) d (last_R (letter_of t d r x) r x.time) xs)
  reading_adds before d r x xs h =
      ap
      (λ ds. fill t before (map (deadline_frame t) ds ++ (reading_frame t (letter_of t (last_of d ds) r x) x ∷ schedule_from t (last_of d ds) (last_R (letter_of t (last_of d ds) r x) r x.time) xs)))
      (free_missing t d x.time (reached_free d x.time h))

  late_reached : (d r time : ℕ) → Reached (next t d) r → is_late d r time ≡ true → Reached (next t d) time
  late_reached d r time h late = by (next t d) (next_least t whole d) h
    where
      by : (n : Option ℕ) → IsNext t d n → Reached n r → Reached n time
      by None is h = tt
      by (Some n) is h = let up = is.above in ⊎_elim (λ a. let le = leb-true time d a in omega arith) (λ b. let lt = ltb-true time r b in omega arith) (or_cases (leb time d) (ltb time r) late)

  late_adds : (before : List Entry) (d r : ℕ) (x : Reading) (xs : List Item) → Reached (next t d) r → is_late d r x.time ≡ true
      → coming t before d r (Read x ∷ xs) ≡ then (entry t before (reading_frame t L x)) (λ e. coming t (e ∷ before) d r xs)
  late_adds before d r x xs h late =
      reading_adds before d r x xs (late_reached d r x.time h late)
      ∙ ap (λ l. then (entry t before (reading_frame t l x)) (λ e. coming t (e ∷ before) d (last_R l r x.time) xs)) (cond-true _ _ _ late)

  still_reached : (d r n : ℕ) → Reached (next t d) r → next t d ≡ Some n → Reached (next t n) r
  still_reached d r n h e = by (next t n) (next_least t whole n)
    where
      low : r ≤ n
      low = subst (λ o. Reached o r) e h

      by : (o : Option ℕ) → IsNext t n o → Reached o r
      by None is = tt
      by (Some m) is = let up = is.above in omega (arith, low)

  pub comings : Comings t
  comings = record {
    next_least = next_least t whole;
    deadline_first = deadline_first;
    mark_adds = mark_adds;
    reading_adds = reading_adds;
    late_adds = late_adds;
    still_reached = still_reached;
  }
