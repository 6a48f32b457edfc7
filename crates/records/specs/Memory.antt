-- What has to be remembered of a record to work out its next entry: of each stream its latest nine values, and of each window the values in its panes.
-- A record is looked into from its latest entry back: here lists of entries have the latest first.
use Rattle.std.specs.Prelude.{ℕ, ◌-◌, ◌/◌, cond, List, [], ◌∷◌, ◌++◌, take, replicate, ℤ, pos, nat_lt, slice_index_or, slice_set}
use mathlib.Core.List.{flatten}
use Rattle.aggregates.specs.Folds.{at_newest, slid}
use Rattle.aggregates.specs.Kinds.{kind_figure}
use Rattle.items.specs.Values.{has}
use Rattle.tables.specs.declared.op.Pace.{Pace}
use Rattle.tables.specs.declared.op.Pace.TheVariants.{Event, Every}
use Rattle.tables.specs.Kinds.{Table}
use Rattle.tables.specs.Plans.{Slot, order}
use Rattle.tables.specs.Rules.{output_at}
use Rattle.records.specs.declared.entry.Entry.{Entry}
use Rattle.records.specs.declared.entry.Letter.{Letter}
use Rattle.records.specs.declared.entry.Letter.TheVariants.{R, D, L, S}
use Rattle.records.specs.Entries.{Frame, frame_of}
use Rattle.records.specs.Lookups.{active_in, value_in}
use Rattle.records.specs.Reference.{entry_with}
use Rattle.records.specs.Working.{Looks, or_else, worked}

-- ROWS

-- a cycle in which the stream is active puts its value before the others
abbrev pub row_after : Table → (s : ℕ) → Entry → List ℤ → List ℤ
row_after t s e row = cond (active_in t (frame_of e) s) (take 9 (value_in t (frame_of e) e.values s ∷ row)) row

-- the row of a stream: its latest nine values, latest first
abbrev pub row : Table → (s : ℕ) → List Entry → List ℤ
row t s [] = []
row t s (e ∷ r) = row_after t s e (row t s r)

-- PANES

-- the period of a periodic output
abbrev pub period_of : Pace → ℕ
period_of Event = 0
period_of (Every p) = p

-- a window has one pane for each period of its output
abbrev pub pane_count : Table → Slot → ℕ
pane_count t w = w.duration / period_of (output_at t w.output).pace

-- in a reading's cycle the value of the window's stream, if active, joins the newest pane; after a deadline's cycle in which the window's output is active, the oldest pane goes and an empty one comes
abbrev pub panes_by : Table → Slot → Letter → Entry → List (List ℤ) → List (List ℤ)
panes_by t w R e ps = cond (active_in t (frame_of e) w.stream) (at_newest [] (λ p. p ++ (value_in t (frame_of e) e.values w.stream ∷ [])) ps) ps
panes_by t w D e ps = cond (has e.active w.output) (slid [] ps) ps
panes_by t w L e ps = ps
panes_by t w S e ps = ps

-- the panes after an entry
abbrev pub panes_after : Table → Slot → Entry → List (List ℤ) → List (List ℤ)
panes_after t w e ps = panes_by t w e.letter e ps

-- the panes of a window, oldest first, and in each the values that joined it, oldest first
abbrev pub panes : Table → Slot → List Entry → List (List ℤ)
panes t w [] = replicate (pane_count t w) []
panes t w (e ∷ r) = panes_after t w e (panes t w r)

-- WHAT IS WORKED OUT

-- what is remembered, by stream and by window
pub record Memory : Type 0 where
  pub row_of : ℕ → List ℤ
  pub panes_of : Slot → List (List ℤ)

-- what has to be remembered of a record
abbrev pub memory : Table → List Entry → Memory
memory t r = record { row_of = λ s. row t s r; panes_of = λ w. panes t w r }

-- look-ups of the output `o` into a memory, in the cycle of an entry that has this frame and these values; the memory is as it was before the cycle
abbrev pub recalled : Memory → Table → Frame → List ℤ → (o : ℕ) → Looks
recalled m t f vs o = record {
  now_of = λ s. value_in t f vs s;
  past_of = λ s back d. slice_index_or (m.row_of s) (back - 1) d;
  held_of = λ s d. cond (active_in t f s) (value_in t f vs s) (slice_index_or (m.row_of s) 0 d);
  window_of = λ s k u d. cond (nat_lt f.time u) d (or_else d (kind_figure k (flatten (m.panes_of (record { output = o; stream = s; kind = k; duration = u })))));
}

-- the value of an output from a memory: what its operations come to, and 0 where it is not active
abbrev pub recalled_result : Memory → Table → Frame → List ℤ → (o : ℕ) → ℤ
recalled_result m t f vs o = cond (has f.active o) (worked (recalled m t f vs o) (output_at t o).ops) (pos 0)

-- found by a rule, one output after the other, each from those found so far
abbrev pub one_by_one : {X : Type 0} → (rule : List X → ℕ → X) → List ℕ → List X → List X
one_by_one rule [] vs = vs
one_by_one rule (o ∷ os) vs = one_by_one rule os (slice_set vs o (rule vs o))

-- the entry of a frame, worked out from a memory in the order of evaluation
abbrev pub recalled_entry : Memory → Table → Frame → Entry
recalled_entry m t f = entry_with t f (one_by_one (recalled_result m t f) (order t) (replicate 16 (pos 0)))
