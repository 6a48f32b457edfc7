-- All values of a record are numbers of 32 signed bits.
use Rattle.std.proofs.Common.{◌≡◌, ℕ, zero, suc, ◌-◌, ◌^◌, ◌<◌, ◌≤◌, Bool, true, false, cond, ◌&&◌, ltb, leb, List, [], ◌∷◌, map, length, get_or, replicate, ℤ, pos, negsuc, ◌+ℤ◌, ◌-ℤ◌, ◌*ℤ◌, Some, None, Option, sym, refl, ap, subst, ⊎_elim, arith, w32, of_z}
use borrow.Author.Gap.{read_sfits}
use lib.Signed.{lt_z, mag}
use Rattle.std.proofs.ByRecursion.{All-append, All-get_or, all-has, All-map}
use Rattle.std.proofs.lemmas.List.{get_or_past, length-map}
use Rattle.std.proofs.lemmas.Bool.{and_parts, cases_lt, ltb-true}
use Rattle.std.specs.List.{range_with_len, AllByRecursion as All}
use Rattle.aggregates.proofs.Picks.{max_greatest, min_least}
use Rattle.aggregates.specs.declared.kind.Kind.{Kind}
use Rattle.aggregates.specs.declared.kind.Kind.TheVariants.{Count, Sum, Smallest, Largest, Average}
use Rattle.aggregates.specs.Kinds.{kind_whole}
use Rattle.aggregates.specs.Picks.{First}
use Rattle.aggregates.specs.Wholes.{clamped}
use Rattle.items.specs.declared.item.Item.{Item}
use Rattle.items.specs.declared.item.Reading.{Reading}
use Rattle.items.specs.Values.{cut, has, inputs, kept}
use Rattle.tables.specs.declared.op.Op.{Op}
use Rattle.tables.specs.declared.op.Op.TheVariants.{Number, Now, Past, Held, Window, Add, Subtract, Multiply, Less, Equal, Choose}
use Rattle.tables.specs.Kinds.{Table}
use Rattle.tables.specs.Reading.{fits, within}
use Rattle.tables.specs.Rules.{all, nothing, output_at}
use Rattle.tables.specs.Sound.{is_byte, is_op, is_output, is_pace, is_text, is_value, sound}
use Rattle.records.specs.declared.entry.Entry.{Entry}
use Rattle.records.specs.declared.entry.Letter.{Letter}
use Rattle.records.specs.declared.entry.Letter.TheVariants.{R, D, L, S}
use Rattle.records.specs.Entries.{Fits, Frame, frame_of, is_R}
use Rattle.records.specs.Equations.{Everywhere, is_lit, looks, result}
use Rattle.records.specs.Lookups.{active_in, covered, history, value_in}
use Rattle.records.specs.Reference.{entry, reference}
use Rattle.records.specs.Schedule.{active_by, awake, deadline_frame, due, letter_of, reading_frame, rounds}
use Rattle.records.specs.Working.{Looks, chosen, is_zero, or_else, same, top, truth, two, windowed, work, works}
use Rattle.records.proofs.Binary.{bits_fit}
use Rattle.records.proofs.Solving.{awake_solves, values_solve}
use Rattle.records.proofs.Soundness.{each, outputs_few, outputs_whole, triggers_few}
use Rattle.records.proofs.Walking.{walk}

-- 32 signed bits
abbrev pub Fit : ℤ → Type 0
Fit v = mag v < 2 ^ 31

pub fit_at : (xs : List ℤ) (i : ℕ) (d : ℤ) → Fit d → All Fit xs → Fit (get_or xs i d)
fit_at xs i d default h = ⊎_elim (λ lt. All-get_or Fit xs i d lt h) (λ le. subst Fit (sym (get_or_past xs i d le)) default) (cases_lt i (length xs))

zero_fit : Fit (pos 0)
zero_fit = omega arith

clamped_fit : (z : ℤ) → Fit (clamped z)
clamped_fit (pos n) = omega arith
clamped_fit (negsuc n) = omega arith

value_fit : (v : ℤ) → is_value v ≡ true → Fit v
value_fit (pos n) e = ltb-true n (2 ^ 31) e
value_fit (negsuc n) e = ltb-true n (2 ^ 31) e

cond_fit : (b : Bool) (x y : ℤ) → Fit x → Fit y → Fit (cond b x y)
cond_fit true x y p q = p
cond_fit false x y p q = q

-- OPERATIONS

record FitLooks (k : Looks) : Type 0 where
  now_fit : (s : ℕ) → Fit (k.now_of s)
  past_fit : (s back : ℕ) (d : ℤ) → Fit d → Fit (k.past_of s back d)
  held_fit : (s : ℕ) (d : ℤ) → Fit d → Fit (k.held_of s d)
  window_fit : (s : ℕ) (a : Kind) (u : ℕ) (d : ℤ) → Fit d → Fit (k.window_of s a u d)

two_fit : (f : ℤ → ℤ → ℤ) → ((a b : ℤ) → Fit (f a b)) → (st : List ℤ) → All Fit st → All Fit (two f st)
two_fit f h [] s = tt
two_fit f h (b ∷ []) s = tt
two_fit f h (b ∷ (a ∷ st)) s = (h a b, s.1.1)

chosen_fit : (st : List ℤ) → All Fit st → All Fit (chosen st)
chosen_fit [] s = tt
chosen_fit (b ∷ []) s = tt
chosen_fit (b ∷ (a ∷ [])) s = tt
chosen_fit (b ∷ (a ∷ (c ∷ st))) s = (cond_fit (is_zero c) b a s.0 s.1.0, s.1.1.1)

truth_fit : (b : Bool) → Fit (truth b)
truth_fit true = omega arith
truth_fit false = omega arith

work_fit : (k : Looks) → FitLooks k → (o : Op) → is_op o ≡ true → (st : List ℤ) → All Fit st → All Fit (work k o st)
work_fit k l (Number v) e st s = (value_fit v e, s)
work_fit k l (Now x) e st s = (l.now_fit x, s)
work_fit k l (Past x back d) e st s = (l.past_fit x back d (value_fit d (and_parts (within 1 8 back) (is_value d) (and_parts (is_byte x) (within 1 8 back && is_value d) e).1).1), s)
work_fit k l (Held x d) e st s = (l.held_fit x d (value_fit d (and_parts _ _ e).1), s)
work_fit k l (Window x a u d) e st s = (l.window_fit x a u d (value_fit d (and_parts (ltb u (2 ^ 32)) (is_value d) (and_parts (is_byte x) (ltb u (2 ^ 32) && is_value d) e).1).1), s)
work_fit k l Add e st s = two_fit _ (λ a b. clamped_fit (a +ℤ b)) st s
work_fit k l Subtract e st s = two_fit _ (λ a b. clamped_fit (a -ℤ b)) st s
work_fit k l Multiply e st s = two_fit _ (λ a b. clamped_fit (a *ℤ b)) st s
work_fit k l Less e st s = two_fit _ (λ a b. truth_fit (lt_z a b)) st s
work_fit k l Equal e st s = two_fit _ (λ a b. truth_fit (same a b)) st s
work_fit k l Choose e st s = chosen_fit st s

works_fit : (k : Looks) → FitLooks k → (os : List Op) → All (λ o. is_op o ≡ true) os → (st : List ℤ) → All Fit st → All Fit (works k os st)
works_fit k l [] h st s = s
works_fit k l (o ∷ os) h st s = works_fit k l os h.1 (work k o st) (work_fit k l o h.0 st s)

top_fit : (st : List ℤ) → All Fit st → Fit (top st)
top_fit [] s = zero_fit
top_fit (x ∷ xs) s = s.0

-- AGGREGATES

abbrev FitOrNone : Option ℤ → Type 0
FitOrNone None = Unit {0}
FitOrNone (Some v) = Fit v

first_fit : (before : ℤ → ℤ → Type 0) (xs : List ℤ) (o : Option ℤ) → All Fit xs → First before xs o → FitOrNone o
first_fit before xs None h f = tt
first_fit before xs (Some m) h f = all-has Fit xs m h f.0

whole_fit : (k : Kind) (xs : List ℤ) → All Fit xs → FitOrNone (kind_whole k xs)
whole_fit Count xs h = clamped_fit (pos (length xs))
whole_fit Sum xs h = clamped_fit _
whole_fit Smallest xs h = first_fit _ xs _ h (min_least xs)
whole_fit Largest xs h = first_fit _ xs _ h (max_greatest xs)
whole_fit Average [] h = tt
whole_fit Average (x ∷ xs) h = clamped_fit _

windowed_fit : (k : Kind) (d u : ℕ) (default : ℤ) (xs : List ℤ) → Fit default → All Fit xs → Fit (windowed k d u default xs)
windowed_fit k d u default xs p h = cond_fit (ltb d u) default _ p (by (kind_whole k xs) (whole_fit k xs h))
  where
    by : (o : Option ℤ) → FitOrNone o → Fit (or_else default o)
    by None f = p
    by (Some v) f = f

-- ENTRIES

pub record FitEntry (e : Entry) : Type 0 where
  pub ins_fit : All Fit e.inputs
  pub outs_fit : All Fit e.values

module _ (t : Table) where
  value_in_fit : (f : Frame) (vs : List ℤ) (s : ℕ) → All Fit f.inputs → All Fit vs → Fit (value_in t f vs s)
  value_in_fit f vs s p q = cond_fit (ltb s (length t.inputs)) _ _ (fit_at f.inputs s (pos 0) zero_fit p) (fit_at vs (s - length t.inputs) (pos 0) zero_fit q)

  entry_value_fit : (e : Entry) (s : ℕ) → FitEntry e → Fit (value_in t (frame_of e) e.values s)
  entry_value_fit e s h = value_in_fit (frame_of e) e.values s h.ins_fit h.outs_fit

  history_fit : (before : List Entry) (s : ℕ) → All FitEntry before → All Fit (history t before s)
  history_fit [] s h = tt
  history_fit (e ∷ r) s h = by (active_in t (frame_of e) s) (history_fit r s h.1)
    where
      by : (b : Bool) → All Fit (history t r s) → All Fit (cond b (value_in t (frame_of e) e.values s ∷ history t r s) (history t r s))
      by true more = (entry_value_fit e s h.0, more)
      by false more = more

  pub covered_fit : (before : List Entry) (s low high : ℕ) → All FitEntry before → All Fit (covered t before s low high)
  covered_fit [] s low high h = tt
  covered_fit (e ∷ r) s low high h =
      All-append Fit (covered t r s low high) _ (covered_fit r s low high h.1)
      (by (is_R e.letter && (active_in t (frame_of e) s && (ltb low e.time && leb e.time high))))
    where
      by : (b : Bool) → All Fit (cond b (value_in t (frame_of e) e.values s ∷ []) [])
      by true = (entry_value_fit e s h.0, tt)
      by false = tt

  looks_fit : (before : List Entry) (f : Frame) (vs : List ℤ) → All FitEntry before → All Fit f.inputs → All Fit vs → FitLooks (looks t before f vs)
  looks_fit before f vs h p q = record {
    now_fit = λ s. value_in_fit f vs s p q;
    past_fit = λ s back d default. fit_at (history t before s) (back - 1) d default (history_fit before s h);
    held_fit = λ s d default. cond_fit (active_in t f s) _ _ (value_in_fit f vs s p q) (fit_at (history t before s) 0 d default (history_fit before s h));
    window_fit = λ s a u d default. windowed_fit a f.time u d _ default (covered_fit before s (f.time - u) f.time h);
  }

  module _ (whole : sound t ≡ true) where
    pub ops_whole : (o : ℕ) → All (λ op. is_op op ≡ true) (output_at t o).ops
    ops_whole o = ⊎_elim here beyond (cases_lt o (length t.outputs))
      where
        among : (a b c d e : Bool) → (a && (b && (c && (d && e)))) ≡ true → d ≡ true
        among a b c d e h = (and_parts d e (and_parts c _ (and_parts b _ (and_parts a _ h).1).1).1).0

        here : o < length t.outputs → All (λ op. is_op op ≡ true) (output_at t o).ops
        here lt =
            let made = All-get_or (λ x. is_output x ≡ true) t.outputs o nothing lt (outputs_whole t whole) in
            each is_op (output_at t o).ops
            (among (is_pace (output_at t o).pace) (is_text 33 16 (output_at t o).name) (within 1 16 (length (output_at t o).ops)) (all is_op (output_at t o).ops) (fits 0 (output_at t o).ops) made)

        beyond : length t.outputs ≤ o → All (λ op. is_op op ≡ true) (output_at t o).ops
        beyond le = subst (λ x. All (λ op. is_op op ≡ true) x.ops) (sym (get_or_past t.outputs o nothing le)) tt

    module _ (before : List Entry) (f : Frame) (h : All FitEntry before) (p : All Fit f.inputs) where
      result_fit : (vs : List ℤ) (o : ℕ) → All Fit vs → Fit (result t before f vs o)
      result_fit vs o q = cond_fit (has f.active o) _ _ (top_fit _ (works_fit (looks t before f vs) (looks_fit before f vs h p q) (output_at t o).ops (ops_whole o) [] tt)) zero_fit

      rounds_fit : (n : ℕ) → All Fit (rounds (result t before f) 16 n)
      rounds_fit zero = tt
      rounds_fit (suc n) = All-map Fit (result t before f (rounds (result t before f) 16 n)) (range_with_len 0 16) (every (range_with_len 0 16) (rounds_fit n))
        where
          every : (os : List ℕ) → All Fit (rounds (result t before f) 16 n) → All (λ o. Fit (result t before f (rounds (result t before f) 16 n) o)) os
          every [] q = tt
          every (o ∷ os) q = (result_fit (rounds (result t before f) 16 n) o q, every os q)

      pub entry_fit : FitEntry (entry t before f)
      entry_fit = record { ins_fit = p; outs_fit = rounds_fit 16 }

-- FRAMES

pub zeros_fit : (n : ℕ) → All Fit (replicate n (pos 0))
zeros_fit zero = tt
zeros_fit (suc n) = (zero_fit, zeros_fit n)

pub reading_fit : (x : Reading) → All Fit x.values
unfolding cut
reading_fit x = subst (All Fit) x.blank (All-map Fit (λ i. kept x.mask i (get_or x.values i (pos 0))) inputs (every inputs))
  where
    every : (is : List ℕ) → All (λ i. Fit (kept x.mask i (get_or x.values i (pos 0)))) is
    every [] = tt
    every (i ∷ is) = (cond_fit (has x.mask i) _ _ (read_sfits w32 (of_z w32 (get_or x.values i (pos 0)))).sfits zero_fit, every is)

reading_long : (x : Reading) → length x.values ≡ 8
unfolding cut
reading_long x = ap length (sym x.blank)

-- ALL ENTRIES

module _ (t : Table) (whole : sound t ≡ true) where
  entry_fits : (before : List Entry) (f : Frame) → All FitEntry before → All Fit f.inputs → length f.inputs ≡ 8 → f.time < 2 ^ 40 → f.mask < 2 ^ 8 → f.active < 2 ^ 16 → Fits (entry t before f)
  entry_fits before f h p long timely octet active = record {
    time_fits = timely;
    mask_fits = octet;
    inputs_long = long;
    inputs_fit = p;
    active_fits = active;
    values_long = (values_solve t whole before f).size_is;
    values_fit = (entry_fit t whole before f h p).outs_fit;
    lit_fits = bits_fit _ 8 (let n = length-map t.triggers (is_lit t f (entry t before f).values) in let few = triggers_few t whole in omega arith);
  }

  active_fits : (mask : ℕ) (l : Letter) → active_by t mask l < 2 ^ 16
  active_fits mask R = bits_fit (awake t mask) 16 (let n = (awake_solves t whole mask).size_is in let few = outputs_few t whole in omega arith)
  active_fits mask D = omega arith
  active_fits mask L = omega arith
  active_fits mask S = omega arith

  pub all_fit : (xs : List Item) → Everywhere (λ before e. Fits e) (reference t xs)
  all_fit xs = walk t (λ before d r. All FitEntry before) (λ before e. Fits e) (record {
    deadline = λ before d r x h next low.
        let few = outputs_few t whole in
        let n = length-map t.outputs (due x) in (
          entry_fits before (deadline_frame t x) h (zeros_fit 8) refl low (omega arith) (bits_fit (map (due x) t.outputs) 16 (omega arith)),
          (entry_fit t whole before (deadline_frame t x) h (zeros_fit 8), h),
        );
    reading = λ before d r x h free.
        let l = letter_of t d r x in (
          entry_fits before (reading_frame t l x) h (reading_fit x) (reading_long x) x.timely x.octet (active_fits x.mask l),
          (entry_fit t whole before (reading_frame t l x) h (reading_fit x), h),
        );
  }) xs tt
