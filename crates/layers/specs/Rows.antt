-- The items that rows hold.
use Rattle.std.specs.Prelude.{ℕ, List, map, take}
use Rattle.items.specs.declared.item.Item.{Item}
use Rattle.items.specs.declared.item.Row.{Row}
use Rattle.items.specs.Items.{item_of}
use Rattle.layers.specs.declared.rows.Rows.{Rows}

-- the items of the first rows
abbrev pub held : List Row → (used : ℕ) → List Item
held rows used = map item_of (take used rows)

-- the items that are kept
abbrev pub kept : {n : ℕ} → Rows n → List Item
kept r = held r.rows r.used
