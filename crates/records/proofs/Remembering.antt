-- Rows and panes suffice: what is recalled of a record gives its next entry.
use Rattle.std.proofs.Common.{◌≡◌, ℕ, suc, ◌+◌, ◌-◌, ◌*◌, ◌/◌, ◌%◌, ◌<◌, ◌≤◌, Bool, true, false, cond, not, ◌&&◌, eqb, ltb, leb, List, [], ◌∷◌, length, get_or, take, replicate, ℤ, pos, sym, refl, ap, ◌∙◌, subst, ⊎_elim, arith}
use native.Mathlib.Nat.{mod-add-div'}
use mathlib.Core.List.{flatten}
use Rattle.std.proofs.ByRecursion.{All-get_or}
use Rattle.std.proofs.lemmas.List.{get_or-take, take-take}
use Rattle.std.proofs.lemmas.Bool.{and_parts, both_ways, cases_lt, cond-false, eqb-true, leb-true, leb-false, ltb-true, ltb-false, or_parts}
use Rattle.std.specs.List.{AllByRecursion as All}
use Rattle.aggregates.specs.declared.kind.Kind.{Kind}
use Rattle.aggregates.specs.Kinds.{kind_figure}
use Rattle.items.specs.declared.item.Reading.{Reading}
use Rattle.items.specs.Values.{has}
use Rattle.tables.specs.declared.op.Op.{Op}
use Rattle.tables.specs.declared.op.Op.TheVariants.{Number, Now, Past, Held, Window, Add, Subtract, Multiply, Less, Equal, Choose}
use Rattle.tables.specs.declared.op.Pace.{Pace}
use Rattle.tables.specs.declared.op.Pace.TheVariants.{Event, Every}
use Rattle.tables.specs.Kinds.{Table}
use Rattle.tables.specs.Plans.{Slot, layer_number, order, rank, rank_in}
use Rattle.tables.specs.Reading.{within}
use Rattle.tables.specs.Rules.{all, divides, driven, may, nothing, output_at, pace_of, spans, streams}
use Rattle.tables.specs.Sound.{is_byte, is_op, is_value, sound}
use Rattle.records.specs.declared.entry.Entry.{Entry}
use Rattle.records.specs.declared.entry.Letter.{Letter}
use Rattle.records.specs.declared.entry.Letter.TheVariants.{R, D, L, S}
use Rattle.records.specs.Coming.{Free, Next}
use Rattle.records.specs.Entries.{Frame, frame_of}
use Rattle.records.specs.Entries as entries
use Rattle.records.specs.Equations.{looks, result}
use Rattle.records.specs.Laws.{Active, active_by_rule}
use Rattle.records.specs.Lookups.{active_in, covered, history, value_in}
use Rattle.records.specs.Memory.{memory, one_by_one, panes, recalled, recalled_entry, recalled_result, row}
use Rattle.records.specs.Recalling.{Recalls, Wakes}
use Rattle.records.specs.Reference.{entry, entry_with}
use Rattle.records.specs.Schedule.{active_by, deadline_frame, due_by, is_late, is_strange, last_R, letter_of, reading_frame, stream_active, woken, woken_by}
use Rattle.records.specs.Working.{or_else, worked}
use Rattle.records.proofs.Binary.{no_bit}
use Rattle.records.proofs.Fitting.{FitEntry, covered_fit, entry_fit, ops_whole, reading_fit, zeros_fit}
use Rattle.records.proofs.Levels.{level, level_along}
use Rattle.records.proofs.Looking.{SameLook, worked_same}
use Rattle.records.proofs.Nexts.{Positive, positive}
use Rattle.records.proofs.Ordering.{in_ranked, one_by_one_solves, ranked_ordered}
use Rattle.records.proofs.Rounds.{one_solution}
use Rattle.records.proofs.Slicing.{Sorted, Under}
use Rattle.records.proofs.Solving.{awake_solves, result_lower, values_solve, woken_lower}
use Rattle.records.proofs.Soundness.{rules_kept}
use Rattle.records.proofs.Telling.{Own, is_L, is_R, is_S, own}
use Rattle.records.proofs.Waking.{deadline_active, reading_active}
use Rattle.records.proofs.Walking.{walk}
use Rattle.records.proofs.Windows.{Sliced, Slotted, covered_few, covers, figure_whole, sliced_deadline, sliced_none, sliced_reading, sorted_reading, stamps}

-- ROWS

row_is : (t : Table) (before : List Entry) (s : ℕ) → row t s before ≡ take 9 (history t before s)
row_is t [] s = refl
row_is t (e ∷ r) s = ap (λ l. cond (active_in t (frame_of e) s) (take 9 (v ∷ l)) l) (row_is t r s) ∙ by (active_in t (frame_of e) s)
  where
    v : ℤ
    v = value_in t (frame_of e) e.values s

    by : (b : Bool) → cond b (take 9 (v ∷ take 9 (history t r s))) (take 9 (history t r s)) ≡ take 9 (cond b (v ∷ history t r s) (history t r s))
    by true = ap (λ l. v ∷ l) (take-take 8 9 (history t r s) (omega arith))
    by false = refl

same_row : (t : Table) (before : List Entry) (s n : ℕ) (d : ℤ) → n < 9 → get_or (row t s before) n d ≡ get_or (history t before s) n d
same_row t before s n d lt = ap (λ l. get_or l n d) (row_is t before s) ∙ get_or-take 9 (history t before s) n d lt

-- PACES

abbrev is_event : Pace → Bool
is_event Event = true
is_event (Every p) = false

every_is : (q : Pace) → is_event q ≡ false → (p : ℕ) × (q ≡ Every p)
every_is Event e = absurd (both_ways true e refl)
every_is (Every p) e = (p, refl)

woken_event : (active : ℕ → Bool) (me : ℕ) (q : Pace) (os : List Op) → woken_by active me q os ≡ true → is_event q ≡ true
woken_event active me Event os e = refl
woken_event active me (Every p) os e = absurd (both_ways false refl e)

due_every : (d : ℕ) (q : Pace) → due_by d q ≡ true → is_event q ≡ false
due_every d Event e = absurd (both_ways false refl e)
due_every d (Every p) e = refl

rank_of : (q : Pace) (b : Bool) → is_event q ≡ b → (l : ℕ) → rank q l ≡ cond b l (16 + l)
rank_of Event true e l = refl
rank_of Event false e l = absurd (both_ways true e refl)
rank_of (Every p) true e l = absurd (both_ways false refl e)
rank_of (Every p) false e l = refl

-- outputs of one pace, by rank, are by level
along_paces : (t : Table) (b : Bool) (o s : ℕ) → is_event (output_at t o).pace ≡ b → is_event (output_at t s).pace ≡ b → rank_in t o ≤ rank_in t s → level t o ≤ level t s
along_paces t b o s p q le = level_along t o s (by b (rank_of (output_at t o).pace b p (layer_number t o)) (rank_of (output_at t s).pace b q (layer_number t s)))
  where
    by : (b : Bool) → rank_in t o ≡ cond b (layer_number t o) (16 + layer_number t o) → rank_in t s ≡ cond b (layer_number t s) (16 + layer_number t s) → layer_number t o ≤ layer_number t s
    by true p q = omega arith
    by false p q = omega arith

pub wakes : Wakes
wakes t whole mask =
    one_solution false (woken t mask) (length t.outputs) (level t) (woken_lower t whole mask) _ _ (awake_solves t whole mask)
    (one_by_one_solves false (woken t mask) (λ o. is_event (output_at t o).pace) (λ found o off. idle (stream_active t mask found) (length t.inputs + o) (output_at t o).pace (output_at t o).ops off) (length t.outputs) (level t) (rank_in t) (woken_lower t whole mask)
    (along_paces t true) (order t) (ranked_ordered (rank_in t) (length t.outputs)) (λ o lt on. in_ranked (rank_in t) (length t.outputs) o lt))
  where
    idle : (active : ℕ → Bool) (me : ℕ) (q : Pace) (os : List Op) → is_event q ≡ false → woken_by active me q os ≡ false
    idle active me Event os e = absurd (both_ways true e refl)
    idle active me (Every p) os e = refl

-- ONE ENTRY

abbrev slot : (o s : ℕ) → Kind → (u : ℕ) → Slot
slot o s k u = record { output = o; stream = s; kind = k; duration = u }

-- the panes of the windows of an output have what is covered at d
abbrev PanesRight : Table → List Entry → (d o : ℕ) → Op → Type 0
PanesRight t before d o (Number v) = Unit {0}
PanesRight t before d o (Now s) = Unit {0}
PanesRight t before d o (Past s b v) = Unit {0}
PanesRight t before d o (Held s v) = Unit {0}
PanesRight t before d o (Window s k u v) = flatten (panes t (slot o s k u) before) ≡ covered t before s (d - u) d
PanesRight t before d o Add = Unit {0}
PanesRight t before d o Subtract = Unit {0}
PanesRight t before d o Multiply = Unit {0}
PanesRight t before d o Less = Unit {0}
PanesRight t before d o Equal = Unit {0}
PanesRight t before d o Choose = Unit {0}

module _ (t : Table) (whole : sound t ≡ true) (before : List Entry) (f : Frame) (few : length before ≤ 2000000000) (fit : All FitEntry before) (active : Active t f)
    (right : (o : ℕ) → has f.active o ≡ true → All (PanesRight t before f.time o) (output_at t o).ops) where
  active_parts : (o : ℕ) → has f.active o ≡ true → (o < length t.outputs) × (active_by_rule t f f.letter o ≡ true)
  active_parts o on =
      let parts = and_parts (ltb o (length t.outputs)) (active_by_rule t f f.letter o) (sym (active o) ∙ on) in
      (ltb-true o (length t.outputs) parts.0, parts.1)

  same_look : (vs : List ℤ) (o : ℕ) (op : Op) → is_op op ≡ true → PanesRight t before f.time o op → SameLook (recalled (memory t before) t f vs o) (looks t before f vs) op
  same_look vs o (Number v) e h = tt
  same_look vs o (Now s) e h = refl
  same_look vs o (Past s b d) e h =
      let back = leb-true b 8 (and_parts (leb 1 b) (leb b 8) (and_parts (within 1 8 b) (is_value d) (and_parts (is_byte s) (within 1 8 b && is_value d) e).1).0).1 in
      same_row t before s (b - 1) d (omega arith)
  same_look vs o (Held s d) e h = ap (cond (active_in t f s) (value_in t f vs s)) (same_row t before s 0 d (omega arith))
  same_look vs o (Window s k u d) e h =
      ap (λ l. cond (ltb f.time u) d (or_else d (kind_figure k l))) h
      ∙ ap (λ v. cond (ltb f.time u) d (or_else d v))
      (figure_whole k (covered t before s (f.time - u) f.time) (let n = covered_few t before s (f.time - u) f.time in omega arith) (covered_fit t before s (f.time - u) f.time fit))
  same_look vs o Add e h = tt
  same_look vs o Subtract e h = tt
  same_look vs o Multiply e h = tt
  same_look vs o Less e h = tt
  same_look vs o Equal e h = tt
  same_look vs o Choose e h = tt

  same_looks : (vs : List ℤ) (o : ℕ) (os : List Op) → All (λ op. is_op op ≡ true) os → All (PanesRight t before f.time o) os → All (SameLook (recalled (memory t before) t f vs o) (looks t before f vs)) os
  same_looks vs o [] p q = tt
  same_looks vs o (op ∷ os) p q = (same_look vs o op p.0 q.0, same_looks vs o os p.1 q.1)

  same_result : (vs : List ℤ) (o : ℕ) → recalled_result (memory t before) t f vs o ≡ result t before f vs o
  same_result vs o = by (has f.active o) refl
    where
      by : (b : Bool) → has f.active o ≡ b → cond b (worked (recalled (memory t before) t f vs o) (output_at t o).ops) (pos 0) ≡ cond b (worked (looks t before f vs) (output_at t o).ops) (pos 0)
      by true on = worked_same _ _ (output_at t o).ops (same_looks vs o (output_at t o).ops (ops_whole t whole o) (right o on))
      by false off = refl

  one_pace : (o : ℕ) → has f.active o ≡ true → is_event (output_at t o).pace ≡ entries.is_R f.letter
  one_pace o on = by f.letter (active_parts o on).1
    where
      by : (l : Letter) → active_by_rule t f l o ≡ true → is_event (output_at t o).pace ≡ entries.is_R l
      by R e = woken_event _ _ (output_at t o).pace _ e
      by D e = due_every f.time (output_at t o).pace e
      by L e = absurd (both_ways false refl e)
      by S e = absurd (both_ways false refl e)

  recalls : entry t before f ≡ recalled_entry (memory t before) t f
  recalls =
      ap (entry_with t f)
      (one_solution (pos 0) (result t before f) 16 (level t) (result_lower t whole before f) _ _ (values_solve t whole before f)
      (one_by_one_solves (pos 0) (result t before f) (has f.active) (λ vs o off. cond-false _ _ _ off) 16 (level t) (rank_in t) (result_lower t whole before f)
      (λ o s p q le. along_paces t (entries.is_R f.letter) o s (one_pace o p) (one_pace s q) le)
      (order t) (ranked_ordered (rank_in t) (length t.outputs)) (λ o lt on. in_ranked (rank_in t) (length t.outputs) o (active_parts o on).0))
      ∙ ap (λ rule. one_by_one rule (order t) (replicate 16 (pos 0))) (λ i vs o. sym (same_result vs o) i))

-- ALL ENTRIES

-- what is known of a record so far, with the times d of its last D and r of its last R
record Remembers (t : Table) (before : List Entry) (d r : ℕ) : Type 0 where
  fit : All FitEntry before
  gap : Free t d r
  sorted : (s : ℕ) → Sorted (stamps t before s)
  under : (s : ℕ) → Under r (stamps t before s)
  sliced : Sliced t before d r

abbrev Recalled : Table → List Entry → Entry → Type 0
Recalled t before e = length before ≤ 2000000000 → e ≡ recalled_entry (memory t before) t (frame_of e)

-- where the windows of an output are right, its operations are
each_right : (t : Table) (before : List Entry) (d o : ℕ) (p : Pace)
    → ((s u : ℕ) (k : Kind) (v : ℤ) → may t (length t.inputs + o) p (Window s k u v) ≡ true → flatten (panes t (slot o s k u) before) ≡ covered t before s (d - u) d)
    → (os : List Op) → all (may t (length t.inputs + o) p) os ≡ true → All (PanesRight t before d o) os
each_right t before d o p h [] e = tt
each_right t before d o p h (op ∷ os) e =
    let parts = and_parts (may t (length t.inputs + o) p op) (all (may t (length t.inputs + o) p) os) e in
    (one op parts.0, each_right t before d o p h os parts.1)
  where
    one : (op : Op) → may t (length t.inputs + o) p op ≡ true → PanesRight t before d o op
    one (Number v) e = tt
    one (Now s) e = tt
    one (Past s b v) e = tt
    one (Held s v) e = tt
    one (Window s k u v) e = h s u k v e
    one Add e = tt
    one Subtract e = tt
    one Multiply e = tt
    one Less e = tt
    one Equal e = tt
    one Choose e = tt

-- operations that may stand in an output that is stream `me`, of this pace
module _ (t : Table) (whole : sound t ≡ true) (o : ℕ) (lt : o < length t.outputs) where
  allowed : all (may t (length t.inputs + o) (output_at t o).pace) (output_at t o).ops ≡ true
  allowed = (and_parts _ (driven (length t.inputs + o) (output_at t o).pace (output_at t o).ops) (rules_kept t whole o lt)).0

  spanned : (q : Pace) (s u : ℕ) (k : Kind) (v : ℤ) → may t (length t.inputs + o) q (Window s k u v) ≡ true → spans q (pace_of t s) u ≡ true
  spanned q s u k v e =
      (and_parts (not (eqb s (length t.inputs + o))) (spans q (pace_of t s) u)
      (and_parts (ltb s (streams t)) (not (eqb s (length t.inputs + o)) && spans q (pace_of t s) u) e).1).1

  -- each window of a periodic output is one of panes of its period
  slotted : (p : ℕ) → (output_at t o).pace ≡ Every p → (s u : ℕ) (k : Kind) (v : ℤ) → may t (length t.inputs + o) (Every p) (Window s k u v) ≡ true → Slotted t (slot o s k u) p (u / p - 1)
  slotted p pace s u k v e = by (pace_of t s) (spanned (Every p) s u k v e)
    where
      some : 0 < p
      some = subst Positive pace (All-get_or (λ x. Positive x.pace) t.outputs o nothing lt (positive t whole))

      by : (q : Pace) → spans (Every p) q u ≡ true → Slotted t (slot o s k u) p (u / p - 1)
      by Event h =
          let parts = and_parts (divides p u) (leb 1 (u / p) && leb (u / p) 16) h in
          let none : u % p ≡ 0 = eqb-true (u % p) 0 parts.0 in
          let one = leb-true 1 (u / p) (and_parts (leb 1 (u / p)) (leb (u / p) 16) parts.1).0 in
          let n : u / p ≡ suc (u / p - 1) = omega arith in
          let times : u ≡ u / p * p = omega (arith, mod-add-div' u p) in
          record { low = lt; pace_is = pace; some = some; long = times ∙ ap (λ k. k * p) n }
      by (Every q) h = absurd (both_ways false refl h)

module _ (t : Table) (whole : sound t ≡ true) (before : List Entry) (d r : ℕ) (q : Remembers t before d r) where
  -- a deadline
  module _ (x : ℕ) (next : Next t d x) where
    reached : r ≤ x
    reached = ⊎_elim (λ lt. absurd (both_ways _ (q.gap x next.above lt) next.is)) (λ le. le) (cases_lt x r)

    windows_right : (o : ℕ) → has (deadline_frame t x).active o ≡ true → All (PanesRight t before x o) (output_at t o).ops
    windows_right o on =
        let parts = and_parts (ltb o (length t.outputs)) _ (sym (deadline_active t x o) ∙ on) in
        let lt = ltb-true o (length t.outputs) parts.0 in
        let pace = every_is (output_at t o).pace (due_every x (output_at t o).pace parts.1) in
        each_right t before x o (output_at t o).pace
        (λ s u k v e.
        covers t before d r q.sliced q.under x next reached q.sorted (slot o s k u) pace.0 (u / pace.0 - 1)
        (slotted t whole o lt pace.0 pace.1 s u k v (subst (λ p. may t (length t.inputs + o) p (Window s k u v) ≡ true) pace.1 e)) on)
        (output_at t o).ops (allowed t whole o lt)

    deadline_step : Recalled t before (entry t before (deadline_frame t x)) × Remembers t (entry t before (deadline_frame t x) ∷ before) x r
    deadline_step = (
      (λ few. recalls t whole before (deadline_frame t x) few q.fit (deadline_active t x) windows_right),
      record {
        fit = (entry_fit t whole before (deadline_frame t x) q.fit (zeros_fit 8), q.fit);
        gap = λ c lo hi. absurd (omega (arith, reached));
        sorted = q.sorted;
        under = q.under;
        sliced = sliced_deadline t before d r q.sliced q.under x next reached;
      },
    )

  -- a reading whose cycle runs: no window stands in an event-based output
  module _ (x : Reading) where
    no_span : (p q : Pace) (u : ℕ) → is_event p ≡ true → spans p q u ≡ true → ⊥
    no_span Event q u e h = both_ways false refl h
    no_span (Every p) q u e h = both_ways false refl e

    event_right : (o : ℕ) → has (reading_frame t R x).active o ≡ true → All (PanesRight t before x.time o) (output_at t o).ops
    event_right o on =
        let parts = and_parts (ltb o (length t.outputs)) _ (sym (reading_active t whole is_R x o) ∙ on) in
        let lt = ltb-true o (length t.outputs) parts.0 in
        let event = woken_event _ _ (output_at t o).pace _ parts.1 in
        each_right t before x.time o (output_at t o).pace (λ s u k v e. absurd (no_span (output_at t o).pace (pace_of t s) u event (spanned t whole o lt (output_at t o).pace s u k v e)))
        (output_at t o).ops (allowed t whole o lt)

    idle : {l : Letter} → Own l → ((o : ℕ) → has (active_by t x.mask l) o ≡ false) → Recalled t before (entry t before (reading_frame t l x))
    idle {l} k off few = recalls t whole before (reading_frame t l x) few q.fit (reading_active t whole k x) (λ o on. absurd (both_ways _ (off o) on))

    filled : (l : Letter) → All FitEntry (entry t before (reading_frame t l x) ∷ before)
    filled l = (entry_fit t whole before (reading_frame t l x) q.fit (reading_fit x), q.fit)

    reading_step : {l : Letter} → Own l → (l ≡ R → (d < x.time) × (r ≤ x.time)) → Free t d x.time
        → Recalled t before (entry t before (reading_frame t l x)) × Remembers t (entry t before (reading_frame t l x) ∷ before) d (last_R l r x.time)
    reading_step is_R timely free =
        let times = timely refl in
        let order = sorted_reading t before r x times.1 q.sorted q.under in (
          (λ few. recalls t whole before (reading_frame t R x) few q.fit (reading_active t whole is_R x) event_right),
          record { fit = filled R; gap = free; sorted = λ s. (order s).0; under = λ s. (order s).1; sliced = sliced_reading t before d r q.sliced q.under x times.0 times.1 },
        )
    reading_step is_L timely free = (idle is_L no_bit, record { fit = filled L; gap = q.gap; sorted = q.sorted; under = q.under; sliced = q.sliced })
    reading_step is_S timely free = (idle is_S no_bit, record { fit = filled S; gap = q.gap; sorted = q.sorted; under = q.under; sliced = q.sliced })

-- a reading is taken for an R only where it is not late
timely : (t : Table) (d r : ℕ) (x : Reading) → letter_of t d r x ≡ R → (d < x.time) × (r ≤ x.time)
timely t d r x = by (is_late d r x.time) (is_strange (length t.inputs) x.mask) refl
  where
    by : (a b : Bool) → is_late d r x.time ≡ a → cond a L (cond b S R) ≡ R → (d < x.time) × (r ≤ x.time)
    by true b e is = let z : ◌≡◌ {A = ℕ} 0 1 = cc in absurd (omega arith)
    by false b e is = let parts = or_parts (leb x.time d) (ltb x.time r) e in (leb-false x.time d parts.0, ltb-false x.time r parts.1)

pub recalls_all : Recalls
recalls_all t whole xs =
    walk t (Remembers t) (Recalled t)
    (record {
      deadline = λ before d r x q next low. deadline_step t whole before d r q x next;
      reading = λ before d r x q free. reading_step t whole before d r q x (own t d r x) (timely t d r x) free;
    })
    xs (record { fit = tt; gap = λ c lo hi. absurd (omega arith); sorted = λ s. tt; under = λ s. tt; sliced = sliced_none t })
