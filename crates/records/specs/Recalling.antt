-- Rows and panes suffice to work out a record, one output after the other in the order of evaluation.
use Rattle.std.specs.Prelude.{◌≡◌, ℕ, ◌≤◌, true, false, List, length, replicate}
use Rattle.items.specs.declared.item.Item.{Item}
use Rattle.tables.specs.Kinds.{Table}
use Rattle.tables.specs.Plans.{order}
use Rattle.tables.specs.Sound.{sound}
use Rattle.records.specs.Entries.{frame_of}
use Rattle.records.specs.Equations.{Everywhere}
use Rattle.records.specs.Memory.{memory, one_by_one, recalled_entry}
use Rattle.records.specs.Reference.{reference}
use Rattle.records.specs.Schedule.{awake, woken}

-- each entry, up to 2,000,000,000 of them, is what the memory of those before it gives
abbrev pub Recalls : Type 0
Recalls = (t : Table) → sound t ≡ true → (xs : List Item) → Everywhere (λ before e. length before ≤ 2000000000 → e ≡ recalled_entry (memory t before) t (frame_of e)) (reference t xs)

-- the active outputs of a reading's cycle are found so, too
abbrev pub Wakes : Type 0
Wakes = (t : Table) → sound t ≡ true → (mask : ℕ) → awake t mask ≡ one_by_one (woken t mask) (order t) (replicate (length t.outputs) false)
