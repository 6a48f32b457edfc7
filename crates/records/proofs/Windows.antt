-- The panes of a window, as a record goes on, and what they give.
use Rattle.std.proofs.Common.{◌≡◌, ℕ, suc, ◌-◌, ◌*◌, ◌/◌, ◌%◌, ◌<◌, ◌≤◌, Bool, true, false, cond, ◌&&◌, eqb, ltb, leb, List, [], ◌∷◌, ◌++◌, length, replicate, ℤ, sym, refl, ap, ◌∙◌, div-mul-le_self, mul-div_cancel, arith}
use native.Mathlib.Nat.{mod-add-div'}
use mathlib.Core.List.{flatten}
use Rattle.std.proofs.lemmas.List.{append-nil, length-append}
use Rattle.std.proofs.lemmas.Bool.{eqb-false, eqb-true, lt-ltb}
use Rattle.std.specs.List.{AllByRecursion as All}
use Rattle.aggregates.specs.AverageLaws.{average_exact}
use Rattle.aggregates.specs.CountLaws.{count_exact}
use Rattle.aggregates.specs.LargestLaws.{largest_exact}
use Rattle.aggregates.specs.SmallestLaws.{smallest_exact}
use Rattle.aggregates.specs.SumLaws.{sum_exact}
use Rattle.aggregates.specs.declared.kind.Kind.{Kind}
use Rattle.aggregates.specs.declared.kind.Kind.TheVariants.{Count, Sum, Smallest, Largest, Average}
use Rattle.aggregates.specs.Folds.{at_newest, slid}
use Rattle.aggregates.specs.Kinds.{kind_figure, kind_whole}
use Rattle.aggregates.specs.Wholes.{Few, Small}
use Rattle.items.specs.declared.item.Reading.{Reading}
use Rattle.items.specs.Values.{has}
use Rattle.tables.specs.declared.op.Pace.TheVariants.{Every}
use Rattle.tables.specs.Kinds.{Table}
use Rattle.tables.specs.Plans.{Slot}
use Rattle.tables.specs.Rules.{output_at}
use Rattle.records.specs.declared.entry.Entry.{Entry}
use Rattle.records.specs.declared.entry.Letter.TheVariants.{R}
use Rattle.records.specs.Coming.{Next}
use Rattle.records.specs.Entries.{Frame, frame_of, is_R}
use Rattle.records.specs.Lookups.{active_in, covered, value_in}
use Rattle.records.specs.Memory.{pane_count, panes, period_of}
use Rattle.records.specs.Reference.{entry}
use Rattle.records.specs.Schedule.{deadline_frame, due, due_by, reading_frame}
use Rattle.records.proofs.Fitting.{Fit}
use Rattle.records.proofs.Multiples.{off_next, on_next}
use Rattle.records.proofs.Slicing.{Sorted, Stamp, Under, between, slices, slices_cover, slices_gain, slices_none, slices_raise, slices_slide, under_more}
use Rattle.records.proofs.Waking.{deadline_active}

-- FIGURES

small : (xs : List ℤ) → All Fit xs → Small xs
small [] h = tt
small (x ∷ xs) h = (h.0, small xs h.1)

-- few numbers of 32 bits lose nothing
pub figure_whole : (k : Kind) (xs : List ℤ) → Few xs → All Fit xs → kind_figure k xs ≡ kind_whole k xs
figure_whole Count xs few h = count_exact xs few
figure_whole Sum xs few h = sum_exact xs few (small xs h)
figure_whole Smallest xs few h = smallest_exact xs
figure_whole Largest xs few h = largest_exact xs
figure_whole Average xs few h = average_exact xs few (small xs h)

-- STAMPS

module _ (t : Table) where
  -- the values of a stream in R entries, with their times
  abbrev pub stamps : List Entry → ℕ → List Stamp
  stamps [] s = []
  stamps (e ∷ r) s = cond (is_R e.letter && active_in t (frame_of e) s) (record { time = e.time; value = value_in t (frame_of e) e.values s } ∷ stamps r s) (stamps r s)

  covered_is : (before : List Entry) (s low high : ℕ) → covered t before s low high ≡ between low high (stamps before s)
  covered_is [] s low high = refl
  covered_is (e ∷ r) s low high = by (is_R e.letter) (active_in t (frame_of e) s) (covered_is r s low high)
    where
      by : (a b : Bool) → covered t r s low high ≡ between low high (stamps r s)
          → covered t r s low high ++ cond (a && (b && (ltb low e.time && leb e.time high))) (value_in t (frame_of e) e.values s ∷ []) []
          ≡ between low high (cond (a && b) (record { time = e.time; value = value_in t (frame_of e) e.values s } ∷ stamps r s) (stamps r s))
      by true true more = ap (λ l. l ++ cond (ltb low e.time && leb e.time high) (value_in t (frame_of e) e.values s ∷ []) []) more
      by true false more = append-nil (covered t r s low high) ∙ more
      by false b more = append-nil (covered t r s low high) ∙ more

  pub covered_few : (before : List Entry) (s low high : ℕ) → length (covered t before s low high) ≤ length before
  covered_few [] s low high = omega arith
  covered_few (e ∷ r) s low high =
      let more = covered_few r s low high in
      by (is_R e.letter && (active_in t (frame_of e) s && (ltb low e.time && leb e.time high))) more
    where
      by : (b : Bool) → length (covered t r s low high) ≤ length r → length (covered t r s low high ++ cond b (value_in t (frame_of e) e.values s ∷ []) []) ≤ suc (length r)
      by true more = omega (arith, length-append (covered t r s low high) (value_in t (frame_of e) e.values s ∷ []))
      by false more = omega (arith, ap length (append-nil (covered t r s low high)))

-- PANES

-- a window of a periodic output, with m + 1 panes of its period p
pub record Slotted (t : Table) (w : Slot) (p m : ℕ) : Type 0 where
  pub low : w.output < length t.outputs
  pub pace_is : (output_at t w.output).pace ≡ Every p
  pub some : 0 < p
  pub long : w.duration ≡ suc m * p

-- the panes are the slices of the stamps up to now, where d is the time of the last D, and r that of the last R
abbrev pub Sliced : Table → List Entry → (d r : ℕ) → Type 0
Sliced t before d r = (w : Slot) (p m : ℕ) → Slotted t w p m → panes t w before ≡ slices (d / p * p) p m r (stamps t before w.stream)

pub sliced_none : (t : Table) → Sliced t [] 0 0
sliced_none t w p m s =
    let some = s.some in
    let n : pane_count t w ≡ suc m = ap (λ q. w.duration / period_of q) s.pace_is ∙ ap (λ u. u / p) s.long ∙ whole p m some in
    ap (λ k. replicate k []) n ∙ slices_none m (0 / p * p) p 0
  where
    whole : (p m : ℕ) → 0 < p → suc m * p / p ≡ suc m
    whole p m some = mul-div_cancel (suc m) some

module _ (t : Table) (before : List Entry) (d r : ℕ) (sliced : Sliced t before d r) (under : (s : ℕ) → Under r (stamps t before s)) where
  -- at a deadline
  module _ (x : ℕ) (next : Next t d x) (reached : r ≤ x) where
    has_due : (w : Slot) (p m : ℕ) → Slotted t w p m → has (deadline_frame t x).active w.output ≡ eqb (x % p) 0
    has_due w p m s =
        deadline_active t x w.output
        ∙ ap (λ b. b && due x (output_at t w.output)) (lt-ltb w.output (length t.outputs) s.low)
        ∙ ap (due_by x) s.pace_is

    pub covers : ((s : ℕ) → Sorted (stamps t before s)) → (w : Slot) (p m : ℕ) → Slotted t w p m → has (deadline_frame t x).active w.output ≡ true
        → flatten (panes t w before) ≡ covered t before w.stream (x - w.duration) x
    covers sorted w p m s on =
        let is = on_next t w.output p s.low s.pace_is d x next s.some (eqb-true (x % p) 0 (sym (has_due w p m s) ∙ on)) in
        ap flatten (sliced w p m s)
        ∙ slices_cover m (d / p * p) p r x (stamps t before w.stream) is reached (sorted w.stream) (under w.stream)
        ∙ ap (λ u. between (x - u) x (stamps t before w.stream)) (sym s.long)
        ∙ sym (covered_is t before w.stream (x - w.duration) x)

    pub sliced_deadline : Sliced t (entry t before (deadline_frame t x) ∷ before) x r
    sliced_deadline w p m s =
        ap (λ b. cond b (slid [] (panes t w before)) (panes t w before)) (has_due w p m s)
        ∙ by (eqb (x % p) 0) refl
      where
        by : (b : Bool) → eqb (x % p) 0 ≡ b → cond b (slid [] (panes t w before)) (panes t w before) ≡ slices (x / p * p) p m r (stamps t before w.stream)
        by true e =
            let z : x % p ≡ 0 = eqb-true (x % p) 0 e in
            let whole : x ≡ x / p * p = omega (arith, mod-add-div' x p) in
            ap (slid []) (sliced w p m s)
            ∙ slices_slide m (d / p * p) p r x (stamps t before w.stream) (on_next t w.output p s.low s.pace_is d x next s.some z) reached (under w.stream)
            ∙ ap (λ c. slices c p m r (stamps t before w.stream)) whole
        by false e =
            sliced w p m s
            ∙ ap (λ c. slices c p m r (stamps t before w.stream)) (sym (off_next t w.output p s.low s.pace_is d x next s.some (eqb-false (x % p) 0 e)))

  -- at a reading
  pub sliced_reading : (x : Reading) → d < x.time → r ≤ x.time → Sliced t (entry t before (reading_frame t R x) ∷ before) d x.time
  sliced_reading x lo hi w p m s = by (active_in t f w.stream)
    where
      f : Frame
      f = reading_frame t R x

      v : ℤ
      v = value_in t f (entry t before f).values w.stream

      by : (b : Bool) → cond b (at_newest [] (λ l. l ++ (v ∷ [])) (panes t w before)) (panes t w before)
          ≡ slices (d / p * p) p m x.time (cond b (record { time = x.time; value = v } ∷ stamps t before w.stream) (stamps t before w.stream))
      by true =
          ap (at_newest [] (λ l. l ++ (v ∷ []))) (sliced w p m s)
          ∙ slices_gain m (d / p * p) p r (record { time = x.time; value = v }) (stamps t before w.stream) (omega (arith, div-mul-le_self d p)) hi (under w.stream)
      by false = sliced w p m s ∙ slices_raise m (d / p * p) p r x.time (stamps t before w.stream) hi (under w.stream)

-- TIMES

-- after a reading the stamps are still in order, and none is later
pub sorted_reading : (t : Table) (before : List Entry) (r : ℕ) (x : Reading) → r ≤ x.time → ((s : ℕ) → Sorted (stamps t before s)) → ((s : ℕ) → Under r (stamps t before s))
    → (s : ℕ) → Sorted (stamps t (entry t before (reading_frame t R x) ∷ before) s) × Under x.time (stamps t (entry t before (reading_frame t R x) ∷ before) s)
sorted_reading t before r x hi sorted under s = by (active_in t (reading_frame t R x) s)
  where
    v : ℤ
    v = value_in t (reading_frame t R x) (entry t before (reading_frame t R x)).values s

    by : (b : Bool) → Sorted (cond b (record { time = x.time; value = v } ∷ stamps t before s) (stamps t before s)) × Under x.time (cond b (record { time = x.time; value = v } ∷ stamps t before s) (stamps t before s))
    by true = let u = under_more r x.time (stamps t before s) hi (under s) in ((u, sorted s), (omega arith, u))
    by false = (sorted s, under_more r x.time (stamps t before s) hi (under s))
