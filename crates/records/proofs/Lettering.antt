-- The letters of readings, by all entries before them.
use Rattle.std.proofs.Common.{◌≡◌, ℕ, ◌+◌, ◌^◌, ◌<◌, ◌≤◌, Bool, true, false, cond, not, ltb, leb, ◌⊎◌, List, [], ◌∷◌, length, sym, refl, ap, ◌∙◌, subst, inl, inr, ⊎_elim, arith}
use Rattle.std.proofs.lemmas.Bool.{both_ways, le-leb, leb-true, lt-ltb, ltb-true, ltb-false, not-true, or_cases, or_left, or_parts, or_right}
use Rattle.items.specs.declared.item.Item.{Item}
use Rattle.tables.specs.Kinds.{Table}
use Rattle.tables.specs.Rules.{below}
use Rattle.records.specs.declared.entry.Entry.{Entry}
use Rattle.records.specs.declared.entry.Letter.{Letter}
use Rattle.records.specs.declared.entry.Letter.TheVariants.{R, D, L, S}
use Rattle.records.specs.Entries.{sign}
use Rattle.records.specs.Equations.{Everywhere}
use Rattle.records.specs.Laws.{Late, Lettered, SomeWith}
use Rattle.records.specs.Reference.{entry, reference}
use Rattle.records.specs.Schedule.{deadline_frame, is_late, is_strange, last_R, letter_of, reading_frame}
use Rattle.records.proofs.Levels.{below_at}
use Rattle.records.proofs.Walking.{Walks, walk}

-- the greatest time of the entries with a letter, or 0
record Top (l : Letter) (before : List Entry) (m : ℕ) : Type 0 where
  reached : (m ≡ 0) ⊎ SomeWith l (λ x. m ≤ x) before
  most : (n : ℕ) → SomeWith l (λ x. n ≤ x) before → n ≤ m

record Tops (before : List Entry) (d r : ℕ) : Type 0 where
  top_D : Top D before d
  top_R : Top R before r

weaker : (l : Letter) (P Q : ℕ → Type 0) → ((n : ℕ) → P n → Q n) → (r : List Entry) → SomeWith l P r → SomeWith l Q r
weaker l P Q h [] s = s
weaker l P Q h (e ∷ r) (inl s) = inl (s.0, h e.time s.1)
weaker l P Q h (e ∷ r) (inr s) = inr (weaker l P Q h r s)

late_there : (before : List Entry) (d r time : ℕ) → Tops before d r → is_late d r time ≡ true → Late before time
late_there before d r time tops e =
    ⊎_elim
    (λ a.
    let le = leb-true time d a in
    ⊎_elim (λ z. inl (omega arith)) (λ s. inr (inl (weaker D _ _ (λ n h. omega arith) before s))) tops.top_D.reached)
    (λ b.
    let lt = ltb-true time r b in
    ⊎_elim (λ z. absurd (omega arith)) (λ s. inr (inr (weaker R _ _ (λ n h. omega arith) before s))) tops.top_R.reached)
    (or_cases (leb time d) (ltb time r) e)

late_back : (before : List Entry) (d r time : ℕ) → Tops before d r → Late before time → is_late d r time ≡ true
late_back before d r time tops (inl z) = or_left (leb time d) (ltb time r) (le-leb time d (omega arith))
late_back before d r time tops (inr (inl s)) = or_left (leb time d) (ltb time r) (le-leb time d (tops.top_D.most time s))
late_back before d r time tops (inr (inr s)) =
    let lt : time + 1 ≤ r = tops.top_R.most (time + 1) (weaker R _ _ (λ n h. omega arith) before s) in
    or_right (leb time d) (ltb time r) (lt-ltb time r (omega arith))

top_kept : (l : Letter) (before : List Entry) (m : ℕ) (e : Entry) → (e.letter ≡ l → ⊥) → Top l before m → Top l (e ∷ before) m
top_kept l before m e apart top = record {
  reached = ⊎_elim (λ z. inl z) (λ s. inr (inr s)) top.reached;
  most = λ n s. ⊎_elim (λ here. absurd (apart here.0)) (λ there. top.most n there) s;
}

top_new : (l : Letter) (before : List Entry) (m : ℕ) (e : Entry) → e.letter ≡ l → m ≤ e.time → Top l before m → Top l (e ∷ before) e.time
top_new l before m e is le top = record {
  reached = inr (inl (is, omega arith));
  most = λ n s. ⊎_elim (λ here. here.1) (λ there. let low = top.most n there in omega arith) s;
}

-- letters are apart
apart : (a b : Letter) → (◌≡◌ {A = ℕ} (sign a) (sign b) → ⊥) → a ≡ b → ⊥
apart a b h e = h (ap sign e)

module _ (t : Table) where
  lettered : (before : List Entry) (d r : ℕ) (e : Entry) → Tops before d r
      → e.letter ≡ cond (is_late d r e.time) L (cond (is_strange (length t.inputs) e.mask) S R) → Lettered t before e
  lettered before d r e tops = by (is_late d r e.time) (is_strange (length t.inputs) e.mask) refl refl
    where
      by : (a b : Bool) → is_late d r e.time ≡ a → is_strange (length t.inputs) e.mask ≡ b → e.letter ≡ cond a L (cond b S R) → Lettered t before e
      by true b p q is = record {
        late = λ own. ((λ l. late_there before d r e.time tops p), (λ h. is));
        strange = λ own. ((λ s. absurd (apart L S (λ z. omega arith) (sym is ∙ s))), (λ h. absurd (h.0 (late_there before d r e.time tops p))));
      }
      by false true p q is = record {
        late = λ own. ((λ l. absurd (apart S L (λ z. omega arith) (sym is ∙ l))), (λ h. absurd (both_ways _ p (late_back before d r e.time tops h))));
        strange = λ own. ((λ s. ((λ h. both_ways _ p (late_back before d r e.time tops h)), q)), (λ h. is));
      }
      by false false p q is = record {
        late = λ own. ((λ l. absurd (apart R L (λ z. omega arith) (sym is ∙ l))), (λ h. absurd (both_ways _ p (late_back before d r e.time tops h))));
        strange = λ own. ((λ s. absurd (apart R S (λ z. omega arith) (sym is ∙ s))), (λ h. absurd (both_ways _ q h.1)));
      }

  -- after a reading, the greatest times are those that the schedule goes on with
  after : (before : List Entry) (d r : ℕ) (e : Entry) → Tops before d r
      → e.letter ≡ cond (is_late d r e.time) L (cond (is_strange (length t.inputs) e.mask) S R) → Tops (e ∷ before) d (last_R e.letter r e.time)
  after before d r e tops is = subst (λ l. Tops (e ∷ before) d (last_R l r e.time)) (sym is) (by (is_late d r e.time) (is_strange (length t.inputs) e.mask) refl is)
    where
      idle : (l : Letter) → e.letter ≡ l → (l ≡ D → ⊥) → (l ≡ R → ⊥) → Tops (e ∷ before) d r
      idle l is no-D no-R = record { top_D = top_kept D before d e (λ h. no-D (sym is ∙ h)) tops.top_D; top_R = top_kept R before r e (λ h. no-R (sym is ∙ h)) tops.top_R }

      by : (a b : Bool) → is_late d r e.time ≡ a → e.letter ≡ cond a L (cond b S R) → Tops (e ∷ before) d (last_R (cond a L (cond b S R)) r e.time)
      by true b p is = idle L is (apart L D (λ z. omega arith)) (apart L R (λ z. omega arith))
      by false true p is = idle S is (apart S D (λ z. omega arith)) (apart S R (λ z. omega arith))
      by false false p is =
          let low = ltb-false e.time r (or_parts (leb e.time d) (ltb e.time r) p).1 in
          record { top_D = top_kept D before d e (λ h. apart R D (λ z. omega arith) (sym is ∙ h)) tops.top_D; top_R = top_new R before r e is low tops.top_R }

  pub letters : (xs : List Item) → Everywhere (Lettered t) (reference t xs)
  letters xs = walk t Tops (Lettered t) steps xs (record { top_D = record { reached = inl refl; most = λ n s. absurd s }; top_R = record { reached = inl refl; most = λ n s. absurd s } })
    where
      steps : Walks t Tops (Lettered t)
      steps = record {
        deadline = λ before d r x tops is low.
            let e = entry t before (deadline_frame t x) in
            let up = is.above in (
              record { late = λ own. absurd (own refl); strange = λ own. absurd (own refl) },
              record { top_D = top_new D before d e refl (omega arith) tops.top_D; top_R = top_kept R before r e (apart D R (λ z. omega arith)) tops.top_R },
            );
        reading = λ before d r x tops free.
            let e = entry t before (reading_frame t (letter_of t d r x) x) in
            (lettered before d r e tops refl, after before d r e tops refl);
      }

-- MASKS

agree : Bool → Bool → Bool
agree true b = b
agree false b = not b

agree_is : (a b : Bool) → agree a b ≡ true → a ≡ b
unfolding agree
agree_is true b e = sym e
agree_is false b e = sym (not-true b e)

-- one computed test over all masks, and all numbers of inputs
agrees : (count mask : ℕ) → Bool
agrees count mask = agree (is_strange count mask) (leb (2 ^ count) mask)

all_masks : below (λ count. below (agrees count) 256) 9 ≡ true
unfolding agree agrees
all_masks = refl

pub beyond : (count mask : ℕ) → count ≤ 8 → mask < 256 → is_strange count mask ≡ leb (2 ^ count) mask
unfolding agrees
beyond count mask c m = agree_is _ _ (below_at (agrees count) 256 mask (below_at (λ n. below (agrees n) 256) 9 count all_masks (omega arith)) m)
