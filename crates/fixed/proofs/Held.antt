-- What arrays hold after a slice is copied into them, and after a value more.
use Rattle.std.proofs.Common.{◌≡◌, ℕ, ◌+◌, ◌-◌, ◌<◌, ◌≤◌, List, [], ◌∷◌, ◌++◌, length, ltb, min, take, drop, set, replicate, sym, refl, ap, ap₂, ◌∙◌, subst, ⊎_elim, arith, length-take-le}
use borrow.Rule.Slice.PartMut.{post_of, put_mid}
use Rattle.std.proofs.Math.Seq.{drop-append_seam, take-append_seam}
use Rattle.std.proofs.lemmas.List.{append_assoc, drop-append-le, drop-drop, drop-replicate, drop-set-lt, drop-take, drop_all, length-append, length-drop, length-replicate, length-set, take_all, take_at, take-append-drop, take-append-le, take-take}
use Rattle.std.proofs.lemmas.Bool.{cases_lt, cond-true, lt-ltb}
use Rattle.fixed.specs.declared.blank.Blank.{Ghosts}
use Rattle.fixed.specs.declared.vec.FixedVec.{FixedVec}
use Rattle.fixed.specs.Pushing.{inserted, pushed}
use Rattle.fixed.specs.Values.{values}

-- the array of a list
abbrev pub filled : {A : Type 0} → A → ℕ → List A → List A
filled blank n xs = xs ++ replicate (n - length xs) blank

-- count values stand in the array, and blanks behind them
pub record Holds {A : Type 0} (blank : A) (n : ℕ) (items : List A) (count : ℕ) : Type 0 where
  pub few : count ≤ n
  pub long : length items ≡ n
  pub behind : drop count items ≡ replicate (n - count) blank

pub length_held : {A : Type 0} {blank : A} {n : ℕ} {items : List A} {count : ℕ} → Holds blank n items count → length (take count items) ≡ count
length_held {items = items} {count = count} h = length-take-le count items (rw h.long h.few)

pub filled_held : {A : Type 0} {blank : A} {n : ℕ} {items : List A} {count : ℕ} → Holds blank n items count → filled blank n (take count items) ≡ items
filled_held {items = items} {count = count} h = rw (length_held h, ← h.behind) (take-append-drop count items)

-- what a vector's array holds
pub held : {T : Type 0} {n : ℕ} {b : Ghosts T} (v : FixedVec T n b) → Holds b.blank n v.items v.count
held v = record { few = v.few; long = v.long; behind = v.behind }

-- a list at the start of an array of blanks, and what stands behind it
pub start_long : {A : Type 0} (blank : A) (n : ℕ) (xs : List A) (count : ℕ) → length xs ≡ count → count ≤ n → length (xs ++ drop count (replicate n blank)) ≡ n
start_long b n xs c long few =
    let behind : length (drop c (replicate n b)) ≡ n - c = length-drop c (replicate n b) ∙ ap (λ k. k - c) (length-replicate n b) in
    length-append xs (drop c (replicate n b)) ∙ omega (arith, behind, long)

pub start_behind : {A : Type 0} (filler blank : A) (n : ℕ) (xs : List A) (count : ℕ) → length xs ≡ count → filler ≡ blank → drop count (xs ++ drop count (replicate n filler)) ≡ replicate (n - count) blank
start_behind f b n xs c long is =
    ap (λ k. drop k (xs ++ drop c (replicate n f))) (sym long) ∙ drop-append_seam xs (drop c (replicate n f)) ∙ drop-replicate c n f ∙ ap (replicate (n - c)) is

-- the array of a list holds it
pub filled_holds : {A : Type 0} (b : A) (n : ℕ) (xs : List A) (count : ℕ) → length xs ≡ count → count ≤ n → Holds b n (filled b n xs) count
filled_holds b n xs count long few =
    subst (λ k. Holds b n (xs ++ k) count) (drop-replicate count n b ∙ ap (λ k. replicate (n - k) b) (sym long))
    (record { few = few; long = start_long b n xs count long few; behind = start_behind b b n xs count long refl })

-- the first blank behind the values gives way to a value
pub push_held : {T : Type 0} {n : ℕ} {b : Ghosts T} (v : FixedVec T n b) → v.count < n → (a : T) → Holds b.blank n (set v.items v.count a) (v.count + 1)
push_held {n = n} {b = b} v room a =
    record {
      few = omega (arith, room);
      long = length-set v.items v.count a ∙ v.long;
      behind =
          drop-set-lt (v.count + 1) v.items v.count a (omega arith)
          ∙ sym (drop-drop 1 v.count v.items)
          ∙ ap (drop 1) v.behind
          ∙ drop-replicate 1 (n - v.count) b.blank
          ∙ ap (λ k. replicate k b.blank) (omega arith);
    }

-- a value that stands behind the others in an array is turned to a place among them
module _ {A : Type 0} (b : A) (n : ℕ) (items : List A) (count : ℕ) (h : Holds b n items count) (xs : List A) (a : A) (seen : take count items ≡ xs ++ (a ∷ [])) (p : ℕ) (inside : p ≤ length xs) where
  abbrev moved : List A
  moved = take (count - p) (drop p items)

  more : count ≡ length xs + 1
  more = sym (length_held h) ∙ ap length seen ∙ length-append xs (a ∷ [])

  length_with : length (take p xs ++ (a ∷ drop p xs)) ≡ count
  length_with =
      let before = length-take-le p xs inside in
      let after = length-drop p xs in
      omega (arith, length-append (take p xs) (a ∷ drop p xs), more)

  moved_is : moved ≡ drop p xs ++ (a ∷ [])
  moved_is =
      sym (drop-take p (count - p) items)
      ∙ ap (λ k. drop p (take k items)) (omega (arith, more))
      ∙ ap (drop p) seen
      ∙ drop-append-le p xs (a ∷ []) inside

  before_it : take p items ≡ take p xs
  before_it = sym (take-take p count items (omega (arith, more))) ∙ ap (take p) seen ∙ take-append-le p xs (a ∷ []) inside

  insert_held : (turned : List A) → turned ≡ drop (length moved - 1) moved ++ take (length moved - 1) moved → put_mid p (count - p) items turned ≡ filled b n (take p xs ++ (a ∷ drop p xs))
  insert_held turned is =
      let size : length moved - 1 ≡ length (drop p xs) = ap (λ l. length l - 1) moved_is ∙ ap (λ k. k - 1) (length-append (drop p xs) (a ∷ [])) ∙ omega arith in
      let turn : turned ≡ a ∷ drop p xs =
      is
      ∙ (λ i. drop (size i) (moved_is i) ++ take (size i) (moved_is i))
      ∙ ap₂ (λ l r. l ++ r) (drop-append_seam (drop p xs) (a ∷ [])) (take-append_seam (drop p xs) (a ∷ [])) in
      let end : post_of p (count - p) items ≡ replicate (n - count) b = drop-drop (count - p) p items ∙ ap (λ k. drop k items) (omega (arith, more)) ∙ h.behind in
      (λ i. before_it i ++ (turn i ++ end i))
      ∙ sym (append_assoc (take p xs) (a ∷ drop p xs) (replicate (n - count) b))
      ∙ ap (λ k. (take p xs ++ (a ∷ drop p xs)) ++ replicate (n - k) b) (sym length_with)

  -- the values then
  insert_seen : (at : ℕ) → p ≡ min at (length xs) → take count (filled b n (take p xs ++ (a ∷ drop p xs))) ≡ inserted n at a xs
  insert_seen at is =
      let all = take_at (take p xs ++ (a ∷ drop p xs)) (replicate (n - length (take p xs ++ (a ∷ drop p xs))) b) count length_with in
      let free = cond-true (ltb (length xs) n) (take at xs ++ (a ∷ drop at xs)) xs (lt-ltb _ _ (omega (arith, more, h.few))) in
      all
      ∙ ⊎_elim
      (λ low. ap (λ k. take k xs ++ (a ∷ drop k xs)) (omega (arith, is)))
      (λ high. let all = take_all at xs (omega arith) in let none = drop_all at xs (omega arith) in let all' = take_all p xs (omega (arith, is)) in let none' = drop_all p xs (omega (arith, is)) in (λ i. (all' ∙ sym all) i ++ (a ∷ (none' ∙ sym none) i)))
      (cases_lt at (length xs))
      ∙ sym free

-- a value that was pushed where there is room is turned to a place among those before it
module _ {T : Type 0} {n : ℕ} {b : Ghosts T} (v w : FixedVec T n b) (a : T) (room : length (values v) < n) (pushes : values w ≡ pushed n a (values v)) (at p : ℕ) (is : p ≡ min at v.count) (turned : List T)
    (turns : turned ≡ drop (length (take (w.count - p) (drop p w.items)) - 1) (take (w.count - p) (drop p w.items)) ++ take (length (take (w.count - p) (drop p w.items)) - 1) (take (w.count - p) (drop p w.items))) where
  all_seen : values w ≡ values v ++ (a ∷ [])
  all_seen = pushes ∙ take_all n (values v ++ (a ∷ [])) (omega (arith, length-append (values v) (a ∷ []), room))

  among : p ≤ length (values v)
  among = omega (arith, length_held (held v), is)

  array : put_mid p (w.count - p) w.items turned ≡ filled b.blank n (take p (values v) ++ (a ∷ drop p (values v)))
  array = insert_held b.blank n w.items w.count (held w) (values v) a all_seen p among turned turns

  pub turned_held : Holds b.blank n (put_mid p (w.count - p) w.items turned) w.count
  turned_held = subst (λ l. Holds b.blank n l w.count) (sym array) (filled_holds b.blank n _ w.count (length_with b.blank n w.items w.count (held w) (values v) a all_seen p among) w.few)

  pub turned_seen : take w.count (put_mid p (w.count - p) w.items turned) ≡ inserted n at a (values v)
  turned_seen = ap (take w.count) array ∙ insert_seen b.blank n w.items w.count (held w) (values v) a all_seen p among at (is ∙ ap (min at) (sym (length_held (held v))))
