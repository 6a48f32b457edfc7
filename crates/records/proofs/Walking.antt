-- What holds from entry to entry holds everywhere in a record.
use Rattle.std.proofs.Common.{◌≡◌, ℕ, ◌+◌, ◌-◌, ◌^◌, ◌<◌, List, [], ◌∷◌, ◌++◌, map, reverse, sym, refl, ap, ◌∙◌, subst, ⊎_elim, append_assoc, arith}
use Rattle.std.proofs.lemmas.List.{append-nil, reverse-append}
use Rattle.std.proofs.lemmas.Bool.{cases_lt}
use Rattle.std.specs.List.{AllByRecursion as All}
use Rattle.items.specs.declared.item.Item.{Item}
use Rattle.items.specs.declared.item.Item.TheVariants.{Marked, Read}
use Rattle.items.specs.declared.item.Reading.{Reading}
use Rattle.tables.specs.Kinds.{Table}
use Rattle.records.specs.declared.entry.Entry.{Entry}
use Rattle.records.specs.Coming.{Free, Next}
use Rattle.records.specs.Entries.{Frame, frame_of}
use Rattle.records.specs.Equations.{Everywhere}
use Rattle.records.specs.Reference.{entry, fill, reference}
use Rattle.records.specs.Schedule.{deadline_frame, deadlines, last_R, last_of, letter_of, missing, reading_frame, schedule_from}
use Rattle.records.proofs.Ranges.{Consecutive, consecutive, deadlines_low, free_after}

-- of each entry after those before it, latest first
abbrev pub Chain : (List Entry → Entry → Type 0) → (before r : List Entry) → Type 0
Chain P before [] = Unit {0}
Chain P before (e ∷ r) = P before e × Chain P (e ∷ before) r

turned : (x : Entry) (xs before : List Entry) → reverse xs ++ (x ∷ before) ≡ reverse (x ∷ xs) ++ before
turned x xs before = sym (append_assoc (reverse xs) (x ∷ []) before) ∙ ap (λ y. y ++ before) (sym (reverse-append (x ∷ []) xs))

module _ (P : List Entry → Entry → Type 0) where
  at_place : (pre r before : List Entry) (e : Entry) (post : List Entry) → Chain P before r → r ≡ pre ++ (e ∷ post) → P (reverse pre ++ before) e
  at_place [] [] before e post k is = let z : ◌≡◌ {A = ℕ} 0 1 = cc in absurd (omega arith)
  at_place (p ∷ pre) [] before e post k is = let z : ◌≡◌ {A = ℕ} 0 1 = cc in absurd (omega arith)
  at_place [] (x ∷ r) before e post k is = let first : x ≡ e = cc in subst (P before) first k.0
  at_place (p ∷ pre) (x ∷ r) before e post k is =
      let first : x ≡ p = cc in
      let rest : r ≡ pre ++ (e ∷ post) = cc in
      let there = at_place pre r (x ∷ before) e post k.1 rest in
      subst (λ b. P b e) (ap (λ y. reverse pre ++ (y ∷ before)) first ∙ turned p pre before) there

  pub everywhere : (r : List Entry) → Chain P [] r → Everywhere P r
  everywhere r k earlier e later is = subst (λ b. P b e) (append-nil (reverse earlier)) (at_place earlier r [] e later k is)

  from_places : (r pre : List Entry) → Everywhere P (pre ++ r) → Chain P (reverse pre) r
  from_places [] pre h = tt
  from_places (e ∷ r) pre h = (
    h pre e r refl,
    subst (λ b. Chain P b r) (reverse-append pre (e ∷ []))
        (from_places r (pre ++ (e ∷ [])) (λ before e' after is. h before e' after (sym (append_assoc pre (e ∷ []) r) ∙ is))),
  )

  pub chain : (r : List Entry) → Everywhere P r → Chain P [] r
  chain r h = from_places r [] h

pub fill_frames : (t : Table) (fs : List Frame) (before : List Entry) → map frame_of (fill t before fs) ≡ fs
fill_frames t [] before = refl
fill_frames t (f ∷ fs) before = ap (λ l. f ∷ l) (fill_frames t fs (entry t before f ∷ before))

pub fill_append : (t : Table) (fs gs : List Frame) (before : List Entry) → fill t before (fs ++ gs) ≡ fill t before fs ++ fill t (reverse (fill t before fs) ++ before) gs
fill_append t [] gs before = refl
fill_append t (f ∷ fs) gs before =
    let e = entry t before f in
    ap (λ l. e ∷ l) (fill_append t fs gs (e ∷ before) ∙ ap (λ b. fill t (e ∷ before) fs ++ fill t b gs) (turned e (fill t (e ∷ before) fs) before))

-- a walk along the entries that items make: what holds of the record so far, with the times of its last D and R, is handed on, and P holds of each entry
pub record Walks (t : Table) (Q : List Entry → ℕ → ℕ → Type 0) (P : List Entry → Entry → Type 0) : Type 0 where
  pub deadline : (before : List Entry) (d r x : ℕ) → Q before d r → Next t d x → x < 2 ^ 40
      → P before (entry t before (deadline_frame t x)) × Q (entry t before (deadline_frame t x) ∷ before) x r
  pub reading : (before : List Entry) (d r : ℕ) (x : Reading) → Q before d r → Free t d x.time
      → P before (entry t before (reading_frame t (letter_of t d r x) x)) × Q (entry t before (reading_frame t (letter_of t d r x) x) ∷ before) d (last_R (letter_of t d r x) r x.time)

module _ (t : Table) (Q : List Entry → ℕ → ℕ → Type 0) (P : List Entry → Entry → Type 0) (steps : Walks t Q P) where
  past_deadlines : (ds : List ℕ) (fs : List Frame) (before : List Entry) (d r : ℕ) → Consecutive t d ds → All (λ x. x < 2 ^ 40) ds → Q before d r
      → ((later : List Entry) → Q later (last_of d ds) r → Chain P later (fill t later fs)) → Chain P before (fill t before (map (deadline_frame t) ds ++ fs))
  past_deadlines [] fs before d r up low q rest = rest before q
  past_deadlines (x ∷ ds) fs before d r up low q rest =
      let here = steps.deadline before d r x q up.0 low.0 in
      (here.0, past_deadlines ds fs (entry t before (deadline_frame t x) ∷ before) x r up.1 low.1 here.1 rest)

  free_none : (d : ℕ) → Free t d (d + 1)
  free_none d c lo hi = absurd (omega arith)

  -- deadlines less than a time are times
  missing_low : (d time : ℕ) → time < 2 ^ 40 → All (λ x. x < 2 ^ 40) (missing t d time)
  missing_low d time h = ⊎_elim (λ lt. deadlines_low t (time - 1 - d) (d + 1) (2 ^ 40) (omega arith)) (λ le. let z : time - 1 - d ≡ 0 = omega arith in subst (λ n. All (λ x. x < 2 ^ 40) (deadlines t (d + 1) n)) (sym z) tt) (cases_lt d time)

  walk_from : (xs : List Item) (before : List Entry) (d r : ℕ) → Q before d r → Chain P before (fill t before (schedule_from t d r xs))
  walk_from [] before d r q = tt
  walk_from (Marked m ∷ xs) before d r q =
      past_deadlines (missing t d m.time) _ before d r (consecutive t (m.time - 1 - d) (d + 1) d (omega arith) (free_none d)) (missing_low d m.time m.timely) q
      (λ later q'. walk_from xs later _ r q')
  walk_from (Read x ∷ xs) before d r q =
      let ds = missing t d x.time in
      past_deadlines ds _ before d r (consecutive t (x.time - 1 - d) (d + 1) d (omega arith) (free_none d)) (missing_low d x.time x.timely) q
      (λ later q'.
      let free : Free t (last_of d ds) x.time = λ c lo hi. free_after t (x.time - 1 - d) (d + 1) d (omega arith) (free_none d) c lo (omega arith) in
      let here = steps.reading later (last_of d ds) r x q' free in
      (here.0, walk_from xs (entry t later (reading_frame t (letter_of t (last_of d ds) r x) x) ∷ later) _ _ here.1))

  pub walk : (xs : List Item) → Q [] 0 0 → Everywhere P (reference t xs)
  walk xs q = everywhere P (reference t xs) (walk_from xs [] 0 0 q)
