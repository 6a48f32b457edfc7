-- The record that a list of items makes by a table: the one with their schedule that keeps the equations, worked out.
use Rattle.std.specs.Prelude.{List, [], ◌∷◌, ℤ}
use Rattle.items.specs.declared.item.Item.{Item}
use Rattle.tables.specs.Kinds.{Table}
use Rattle.records.specs.declared.entry.Entry.{Entry}
use Rattle.records.specs.Entries.{Frame}
use Rattle.records.specs.Equations.{lit_in, result}
use Rattle.records.specs.Schedule.{rounds, schedule}

-- the entry of a frame and of values
abbrev pub entry_with : Table → Frame → List ℤ → Entry
entry_with t f vs = record { letter = f.letter; time = f.time; mask = f.mask; inputs = f.inputs; active = f.active; values = vs; lit = lit_in t f vs }

-- The entry of a frame that stands after others, latest first. What an output reads stands in a lower layer, of which there are at most 16, so that 16 rounds find all values.
abbrev pub entry : Table → (before : List Entry) → Frame → Entry
entry t before f = entry_with t f (rounds (result t before f) 16 16)

-- an entry, and the rest that it leads to
abbrev pub then : Entry → (Entry → List Entry) → List Entry
then e rest = e ∷ rest e

-- entries one after the other, where `before` has those before them, latest first
abbrev pub fill : Table → (before : List Entry) → List Frame → List Entry
fill t before [] = []
fill t before (f ∷ fs) = then (entry t before f) (λ e. fill t (e ∷ before) fs)

-- the record of a list of items
abbrev pub reference : Table → List Item → List Entry
reference t xs = fill t [] (schedule t xs)
