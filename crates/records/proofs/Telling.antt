-- Schedules are equal exactly where the items are alike. What a list of items tells is read off its schedule, and makes the schedule.
use Rattle.std.proofs.Common.{◌≡◌, ℕ, max, Bool, true, false, cond, List, [], ◌∷◌, ◌++◌, map, length, drop, sym, refl, ap, ◌∙◌, append_assoc, arith}
use Rattle.std.proofs.lemmas.List.{append-nil, drop_at, map-append}
use Rattle.items.proofs.Making.{reading_is}
use Rattle.items.specs.declared.item.Item.{Item}
use Rattle.items.specs.declared.item.Item.TheVariants.{Marked, Read}
use Rattle.items.specs.declared.item.Reading.{Reading}
use Rattle.items.specs.Items.{reading_of}
use Rattle.tables.specs.Kinds.{Table}
use Rattle.records.specs.declared.entry.Letter.{Letter}
use Rattle.records.specs.declared.entry.Letter.TheVariants.{R, D, L, S}
use Rattle.records.specs.Alike.{Alike, deadlines_to, due_to, greatest, greatest_at, readings}
use Rattle.records.specs.Entries.{Frame}
use Rattle.records.specs.Laws.{Iff, marked}
use Rattle.records.specs.Schedule.{deadline_frame, is_late, is_strange, last_R, last_of, letter_of, missing, reading_frame, schedule, schedule_from}
use Rattle.records.proofs.Ranges.{all_more, last_append, same_due}

-- the deadlines that have passed at a reading, and at the end
data Told : Type 0 where
  at_reading : List ℕ → Reading → Told
  at_end : List ℕ → Told

-- what items tell, where g is the greatest time before
abbrev told : Table → ℕ → List Item → List Told
told t g [] = at_end (deadlines_to t g) ∷ []
told t g (Marked m ∷ xs) = told t (max g m.time) xs
told t g (Read x ∷ xs) = at_reading (deadlines_to t (max g x.time)) x ∷ told t (max g x.time) xs

-- what frames tell, where `done` has the deadlines before
abbrev noted : Letter → List ℕ → Frame → List Told → List Told
noted R done f rest = at_reading done (reading_of f.time f.mask f.inputs) ∷ rest
noted D done f rest = rest
noted L done f rest = at_reading done (reading_of f.time f.mask f.inputs) ∷ rest
noted S done f rest = at_reading done (reading_of f.time f.mask f.inputs) ∷ rest

abbrev seen : List ℕ → List Frame → List Told
seen done [] = at_end done ∷ []
seen done (f ∷ fs) = noted f.letter done f (seen (done ++ marked f.letter f.time []) fs)

-- a reading's letter is never D
pub data Own : Letter → Type 0 where
  is_R : Own R
  is_L : Own L
  is_S : Own S

pub own : (t : Table) (d r : ℕ) (x : Reading) → Own (letter_of t d r x)
own t d r x = by (is_late d r x.time) (is_strange (length t.inputs) x.mask)
  where
    by : (a b : Bool) → Own (cond a L (cond b S R))
    by true b = is_L
    by false true = is_S
    by false false = is_R

module _ (t : Table) where
  seen_own : {l : Letter} → Own l → (done : List ℕ) (x : Reading) (fs : List Frame) → seen done (reading_frame t l x ∷ fs) ≡ at_reading done x ∷ seen done fs
  seen_own k done x fs = by k ∙ ap (λ y. at_reading done y ∷ seen done fs) (sym (reading_is x x.values (sym x.blank)))
    where
      by : {l : Letter} → Own l → seen done (reading_frame t l x ∷ fs) ≡ at_reading done (reading_of x.time x.mask x.values) ∷ seen done fs
      by is_R = ap (λ l. at_reading done (reading_of x.time x.mask x.values) ∷ seen l fs) (append-nil done)
      by is_L = ap (λ l. at_reading done (reading_of x.time x.mask x.values) ∷ seen l fs) (append-nil done)
      by is_S = ap (λ l. at_reading done (reading_of x.time x.mask x.values) ∷ seen l fs) (append-nil done)

  seen_deadlines : (ds done : List ℕ) (fs : List Frame) → seen done (map (deadline_frame t) ds ++ fs) ≡ seen (done ++ ds) fs
  seen_deadlines [] done fs = ap (λ l. seen l fs) (sym (append-nil done))
  seen_deadlines (d ∷ ds) done fs = seen_deadlines ds (done ++ d ∷ []) fs ∙ ap (λ l. seen l fs) (append_assoc done (d ∷ []) ds)

  -- d is the last deadline less than g
  abbrev At : ℕ → ℕ → Type 0
  At d g = d ≡ last_of 0 (deadlines_to t g)

  at_more : (d g m : ℕ) → At d g → At (last_of d (missing t d m)) (max g m)
  at_more d g m a =
      ap (λ e. last_of e (missing t e m)) a
      ∙ sym (last_append 0 (deadlines_to t g) _) ∙ ap (last_of 0) (sym (all_more t g m))

  all_at : (d g m : ℕ) → At d g → deadlines_to t g ++ missing t d m ≡ deadlines_to t (max g m)
  all_at d g m a = ap (λ e. deadlines_to t g ++ missing t e m) a ∙ sym (all_more t g m)

  seen_back : (xs : List Item) (d r g : ℕ) → At d g → seen (deadlines_to t g) (schedule_from t d r xs) ≡ told t g xs
  seen_back [] d r g a = refl
  seen_back (Marked m ∷ xs) d r g a =
      seen_deadlines (missing t d m.time) (deadlines_to t g) _
      ∙ ap (λ l. seen l (schedule_from t (last_of d (missing t d m.time)) r xs)) (all_at d g m.time a)
      ∙ seen_back xs _ r (max g m.time) (at_more d g m.time a)
  seen_back (Read x ∷ xs) d r g a =
      let ds = missing t d x.time in
      let l = letter_of t (last_of d ds) r x in
      let fs = schedule_from t (last_of d ds) (last_R l r x.time) xs in
      seen_deadlines ds (deadlines_to t g) (reading_frame t l x ∷ fs)
      ∙ ap (λ l. seen l (reading_frame t (letter_of t (last_of d ds) r x) x ∷ fs)) (all_at d g x.time a)
      ∙ seen_own (own t (last_of d ds) r x) (deadlines_to t (max g x.time)) x fs
      ∙ ap (λ l. at_reading (deadlines_to t (max g x.time)) x ∷ l) (seen_back xs _ _ (max g x.time) (at_more d g x.time a))

  -- the schedule, from what was told; `done` has the deadlines that have a D
  abbrev build : List ℕ → ℕ → List Told → List Frame
  build done r [] = []
  build done r (at_end c ∷ rest) = map (deadline_frame t) (drop (length done) c)
  build done r (at_reading c x ∷ rest) =
      map (deadline_frame t) (drop (length done) c)
      ++ (reading_frame t (letter_of t (last_of 0 c) r x) x ∷ build c (last_R (letter_of t (last_of 0 c) r x) r x.time) rest)

  -- marks only make more deadlines wait for the next reading or the end
  built : (xs : List Item) (done waits : List ℕ) (d r g : ℕ) → At d g → done ++ waits ≡ deadlines_to t g
      → map (deadline_frame t) waits ++ schedule_from t d r xs ≡ build done r (told t g xs)
  built [] done waits d r g a e =
      append-nil (map (deadline_frame t) waits) ∙ ap (map (deadline_frame t)) (sym (drop_at done waits (length done) refl) ∙ ap (drop (length done)) e)
  built (Marked m ∷ xs) done waits d r g a e =
      let ds = missing t d m.time in
      sym (append_assoc (map (deadline_frame t) waits) (map (deadline_frame t) ds) _)
      ∙ ap (λ l. l ++ schedule_from t (last_of d ds) r xs) (sym (map-append (deadline_frame t) waits ds))
      ∙ built xs done (waits ++ ds) (last_of d ds) r (max g m.time) (at_more d g m.time a)
      (sym (append_assoc done waits ds) ∙ ap (λ l. l ++ ds) e ∙ all_at d g m.time a)
  built (Read x ∷ xs) done waits d r g a e =
      let ds = missing t d x.time in
      let g' = max g x.time in
      let a' = at_more d g x.time a in
      let l = letter_of t (last_of d ds) r x in
      let here : waits ++ ds ≡ drop (length done) (deadlines_to t g') =
      sym (drop_at done (waits ++ ds) (length done) refl) ∙ ap (drop (length done)) (sym (append_assoc done waits ds) ∙ ap (λ l. l ++ ds) e ∙ all_at d g x.time a) in
      let later = built xs (deadlines_to t g') [] (last_of d ds) (last_R l r x.time) g' a' (append-nil _) in
      sym (append_assoc (map (deadline_frame t) waits) (map (deadline_frame t) ds) _)
      ∙ ap (λ k. k ++ (reading_frame t l x ∷ schedule_from t (last_of d ds) (last_R l r x.time) xs)) (sym (map-append (deadline_frame t) waits ds) ∙ ap (map (deadline_frame t)) here)
      ∙ ap (λ k. map (deadline_frame t) (drop (length done) (deadlines_to t g')) ++ (reading_frame t l x ∷ k)) later
      ∙ ap (λ k. map (deadline_frame t) (drop (length done) (deadlines_to t g')) ++ (reading_frame t (letter_of t k r x) x ∷ build (deadlines_to t g') (last_R (letter_of t k r x) r x.time) (told t g' xs))) a'

-- the parts of what was told
abbrev readings_told : List Told → List Reading
readings_told [] = []
readings_told (at_reading c x ∷ rest) = x ∷ readings_told rest
readings_told (at_end c ∷ rest) = readings_told rest

abbrev dues_told : List Told → List ℕ
dues_told [] = []
dues_told (at_reading c x ∷ rest) = length c ∷ dues_told rest
dues_told (at_end c ∷ rest) = dues_told rest

abbrev end_told : List Told → List ℕ
end_told [] = []
end_told (at_reading c x ∷ rest) = end_told rest
end_told (at_end c ∷ rest) = c

abbrev zipped : List Reading → List (List ℕ) → List ℕ → List Told
zipped [] cs end = at_end end ∷ []
zipped (x ∷ xs) [] end = []
zipped (x ∷ xs) (c ∷ cs) end = at_reading c x ∷ zipped xs cs end

module _ (t : Table) where
  readings_are : (xs : List Item) (g : ℕ) → readings_told (told t g xs) ≡ readings xs
  readings_are [] g = refl
  readings_are (Marked m ∷ xs) g = readings_are xs (max g m.time)
  readings_are (Read x ∷ xs) g = ap (λ l. x ∷ l) (readings_are xs (max g x.time))

  dues_are : (xs : List Item) (g : ℕ) → dues_told (told t g xs) ≡ map (due_to t) (greatest_at g xs)
  dues_are [] g = refl
  dues_are (Marked m ∷ xs) g = dues_are xs (max g m.time)
  dues_are (Read x ∷ xs) g = ap (λ l. due_to t (max g x.time) ∷ l) (dues_are xs (max g x.time))

  end_is : (xs : List Item) (g : ℕ) → end_told (told t g xs) ≡ deadlines_to t (greatest g xs)
  end_is [] g = refl
  end_is (Marked m ∷ xs) g = end_is xs (max g m.time)
  end_is (Read x ∷ xs) g = end_is xs (max g x.time)

  zipped_is : (xs : List Item) (g : ℕ) → told t g xs ≡ zipped (readings xs) (map (deadlines_to t) (greatest_at g xs)) (deadlines_to t (greatest g xs))
  zipped_is [] g = refl
  zipped_is (Marked m ∷ xs) g = zipped_is xs (max g m.time)
  zipped_is (Read x ∷ xs) g = ap (λ l. at_reading (deadlines_to t (max g x.time)) x ∷ l) (zipped_is xs (max g x.time))

  same_dues : (gs hs : List ℕ) → map (due_to t) gs ≡ map (due_to t) hs → map (deadlines_to t) gs ≡ map (deadlines_to t) hs
  same_dues [] [] e = refl
  same_dues [] (h ∷ hs) e = let z : ◌≡◌ {A = ℕ} 0 1 = cc in absurd (omega arith)
  same_dues (g ∷ gs) [] e = let z : ◌≡◌ {A = ℕ} 0 1 = cc in absurd (omega arith)
  same_dues (g ∷ gs) (h ∷ hs) e =
      let first : due_to t g ≡ due_to t h = cc in
      let rest : map (due_to t) gs ≡ map (due_to t) hs = cc in
      ap (λ c. c ∷ map (deadlines_to t) gs) (same_due t g h first) ∙ ap (λ l. deadlines_to t h ∷ l) (same_dues gs hs rest)

  tells : (xs : List Item) → seen [] (schedule t xs) ≡ told t 0 xs
  tells xs = seen_back t xs 0 0 0 refl

  pub equal_schedules : (xs ys : List Item) → Iff (schedule t xs ≡ schedule t ys) (Alike t xs ys)
  equal_schedules xs ys = (
    (λ e.
        let same : told t 0 xs ≡ told t 0 ys = sym (tells xs) ∙ ap (seen []) e ∙ tells ys in
        record {
          same_readings = sym (readings_are xs 0) ∙ ap readings_told same ∙ readings_are ys 0;
          due_at_readings = sym (dues_are xs 0) ∙ ap dues_told same ∙ dues_are ys 0;
          due_at_end = ap length (sym (end_is xs 0) ∙ ap end_told same ∙ end_is ys 0);
        }),
    (λ a.
        let same : told t 0 xs ≡ told t 0 ys =
        zipped_is xs 0
        ∙ ap (λ rs. zipped rs (map (deadlines_to t) (greatest_at 0 xs)) (deadlines_to t (greatest 0 xs))) a.same_readings
        ∙ ap (λ cs. zipped (readings ys) cs (deadlines_to t (greatest 0 xs))) (same_dues _ _ a.due_at_readings)
        ∙ ap (zipped (readings ys) (map (deadlines_to t) (greatest_at 0 ys))) (same_due t _ _ a.due_at_end)
        ∙ sym (zipped_is ys 0) in
        built t xs [] [] 0 0 0 refl refl ∙ ap (build t [] 0) same ∙ sym (built t ys [] [] 0 0 0 refl refl)),
  )

-- the times of the frames D
abbrev pub deadlines_framed : List Frame → List ℕ
deadlines_framed [] = []
deadlines_framed (f ∷ fs) = marked f.letter f.time (deadlines_framed fs)

end_seen : (fs : List Frame) (done : List ℕ) → end_told (seen done fs) ≡ done ++ deadlines_framed fs
end_seen [] done = sym (append-nil done)
end_seen (f ∷ fs) done = by f.letter (end_seen fs)
  where
    by : (l : Letter) → ((done : List ℕ) → end_told (seen done fs) ≡ done ++ deadlines_framed fs) → end_told (noted l done f (seen (done ++ marked l f.time []) fs)) ≡ done ++ marked l f.time (deadlines_framed fs)
    by R more = ap (λ l. end_told (seen l fs)) (append-nil done) ∙ more done
    by D more = more (done ++ f.time ∷ []) ∙ append_assoc done (f.time ∷ []) (deadlines_framed fs)
    by L more = ap (λ l. end_told (seen l fs)) (append-nil done) ∙ more done
    by S more = ap (λ l. end_told (seen l fs)) (append-nil done) ∙ more done

pub scheduled_deadlines : (t : Table) (xs : List Item) → deadlines_framed (schedule t xs) ≡ deadlines_to t (greatest 0 xs)
scheduled_deadlines t xs = sym (end_seen (schedule t xs) []) ∙ ap end_told (tells t xs) ∙ end_is t xs 0

-- more items only add
begins_from : (t : Table) (d r : ℕ) (xs ys : List Item) → (more : List Frame) × (schedule_from t d r (xs ++ ys) ≡ schedule_from t d r xs ++ more)
begins_from t d r [] ys = (schedule_from t d r ys, refl)
begins_from t d r (Marked m ∷ xs) ys =
    let ds = missing t d m.time in
    let b = begins_from t (last_of d ds) r xs ys in
    (b.0, ap (λ l. map (deadline_frame t) ds ++ l) b.1 ∙ sym (append_assoc (map (deadline_frame t) ds) _ _))
begins_from t d r (Read x ∷ xs) ys =
    let ds = missing t d x.time in
    let l = letter_of t (last_of d ds) r x in
    let b = begins_from t (last_of d ds) (last_R l r x.time) xs ys in
    (b.0, ap (λ k. map (deadline_frame t) ds ++ (reading_frame t l x ∷ k)) b.1 ∙ sym (append_assoc (map (deadline_frame t) ds) _ _))

pub schedule_begins : (t : Table) (xs ys : List Item) → (more : List Frame) × (schedule t (xs ++ ys) ≡ schedule t xs ++ more)
schedule_begins t xs ys = begins_from t 0 0 xs ys
