-- The equations that the values of a record keep.
use Rattle.std.specs.Prelude.{◌≡◌, ℕ, ◌-◌, ◌<◌, Bool, cond, not, ◌&&◌, List, ◌∷◌, ◌++◌, map, reverse, length, ℤ, pos, slice_index_or}
use Rattle.items.specs.Values.{has}
use Rattle.tables.specs.Kinds.{Table, Trigger}
use Rattle.tables.specs.Rules.{output_at}
use Rattle.records.specs.declared.entry.Entry.{Entry}
use Rattle.records.specs.Entries.{Frame, bits, frame_of}
use Rattle.records.specs.Lookups.{active_in, covered, history, value_in}
use Rattle.records.specs.Working.{Looks, is_zero, windowed, worked}

-- Look-ups in the cycle of an entry that has this frame and these values, where `before` has the entries before it, latest first.
-- Now is this cycle's value. Past is the value so many extensions before this cycle's. Held is the latest value, this cycle's included.
-- A window covers the times above its duration before the entry's own, up to that.
abbrev pub looks : Table → (before : List Entry) → Frame → List ℤ → Looks
looks t before f vs = record {
  now_of = λ s. value_in t f vs s;
  past_of = λ s back d. slice_index_or (history t before s) (back - 1) d;
  held_of = λ s d. cond (active_in t f s) (value_in t f vs s) (slice_index_or (history t before s) 0 d);
  window_of = λ s k u d. windowed k f.time u d (covered t before s (f.time - u) f.time);
}

-- the value of an output: what its operations come to, and 0 where it is not active
abbrev pub result : Table → (before : List Entry) → Frame → List ℤ → (o : ℕ) → ℤ
result t before f vs o = cond (has f.active o) (worked (looks t before f vs) (output_at t o).ops) (pos 0)

-- a trigger is lit where its output is active and not 0
abbrev pub is_lit : Table → Frame → List ℤ → Trigger → Bool
is_lit t f vs g = has f.active (g.stream - length t.inputs) && not (is_zero (slice_index_or vs (g.stream - length t.inputs) (pos 0)))

-- the trigger bits of an entry that has this frame and these values
abbrev pub lit_in : Table → Frame → List ℤ → ℕ
lit_in t f vs = bits (map (is_lit t f vs) t.triggers)

-- An entry that stands after others, latest first. Its values are worked out over look-ups into itself and those others.
-- Nothing is active in L and S, so that their values are 0.
pub record Holds (t : Table) (before : List Entry) (e : Entry) : Type 0 where
  pub size : length e.values ≡ 16
  pub each : (o : ℕ) → o < 16 → slice_index_or e.values o (pos 0) ≡ result t before (frame_of e) e.values o
  pub lights : e.lit ≡ lit_in t (frame_of e) e.values

-- of each entry of a record, and the entries before it, latest first
abbrev pub Everywhere : (List Entry → Entry → Type 0) → List Entry → Type 0
Everywhere P r = (earlier : List Entry) (e : Entry) (later : List Entry) → r ≡ earlier ++ (e ∷ later) → P (reverse earlier) e

-- the equations of a record: each of its entries holds
abbrev pub Equations : Table → List Entry → Type 0
Equations t r = Everywhere (Holds t) r
