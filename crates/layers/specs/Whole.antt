-- Rows that make items.
use Rattle.std.specs.Prelude.{◌≡◌, ℕ, ◌^◌, ◌<◌, Bool, true, not, ◌&&◌, List, ◌==◌, nat_lt, slice_index_or}
use Rattle.items.specs.declared.item.Row.{Row}
use Rattle.items.specs.declared.item.Row.TheVariants.{Marked, Read}

-- the row makes an item
abbrev pub whole : Row → Bool
whole (Marked time) = nat_lt time (2 ^ 40)
whole (Read time mask values) = nat_lt time (2 ^ 40) && not (mask == 0)

-- each of the first rows makes an item
abbrev pub WholeTo : ℕ → List Row → Type 0
WholeTo used rows = (k : ℕ) (d : Row) → k < used → whole (slice_index_or rows k d) ≡ true
