-- What a record says of a stream. A record is looked into from its latest entry back: here lists of entries have the latest first.
use Rattle.std.specs.Prelude.{ℕ, ◌-◌, Bool, cond, ◌&&◌, List, [], ◌∷◌, ◌++◌, length, ℤ, pos, nat_le, nat_lt, slice_index_or}
use Rattle.items.specs.Values.{has}
use Rattle.tables.specs.Kinds.{Table}
use Rattle.records.specs.declared.entry.Entry.{Entry}
use Rattle.records.specs.Entries.{Frame, frame_of, is_R}

-- the stream is active in the cycle of a frame: an input by the mask of a reading
abbrev pub active_in : Table → Frame → ℕ → Bool
active_in t f s = cond (nat_lt s (length t.inputs)) (is_R f.letter && has f.mask s) (has f.active (s - length t.inputs))

-- its value there, by the values of the outputs
abbrev pub value_in : Table → Frame → List ℤ → ℕ → ℤ
value_in t f vs s = cond (nat_lt s (length t.inputs)) (slice_index_or f.inputs s (pos 0)) (slice_index_or vs (s - length t.inputs) (pos 0))

-- the values of the cycles in which the stream was active, latest first
abbrev pub history : Table → List Entry → ℕ → List ℤ
history t [] s = []
history t (e ∷ r) s = cond (active_in t (frame_of e) s) (value_in t (frame_of e) e.values s ∷ history t r s) (history t r s)

-- its values in R entries with times above low and at most high, in the order of the record
abbrev pub covered : Table → List Entry → (s low high : ℕ) → List ℤ
covered t [] s low high = []
covered t (e ∷ r) s low high =
    covered t r s low high
    ++ cond (is_R e.letter && (active_in t (frame_of e) s && (nat_lt low e.time && nat_le e.time high))) (value_in t (frame_of e) e.values s ∷ []) []
