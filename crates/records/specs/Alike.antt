-- What of a list of items decides its record.
use Rattle.std.specs.Prelude.{◌≡◌, ℕ, ◌-◌, max, List, [], ◌∷◌, map, length}
use Rattle.items.specs.declared.item.Item.{Item}
use Rattle.items.specs.declared.item.Item.TheVariants.{Marked, Read}
use Rattle.items.specs.declared.item.Reading.{Reading}
use Rattle.tables.specs.Kinds.{Table}
use Rattle.records.specs.Schedule.{deadlines}

-- the readings among items, in order
abbrev pub readings : List Item → List Reading
readings [] = []
readings (Marked m ∷ xs) = readings xs
readings (Read x ∷ xs) = x ∷ readings xs

-- the greatest time among all items up to each reading, where g is the greatest before
abbrev pub greatest_at : (g : ℕ) → List Item → List ℕ
greatest_at g [] = []
greatest_at g (Marked m ∷ xs) = greatest_at (max g m.time) xs
greatest_at g (Read x ∷ xs) = max g x.time ∷ greatest_at (max g x.time) xs

-- the greatest time among all items
abbrev pub greatest : (g : ℕ) → List Item → ℕ
greatest g [] = g
greatest g (Marked m ∷ xs) = greatest (max g m.time) xs
greatest g (Read x ∷ xs) = greatest (max g x.time) xs

-- the deadlines less than a time, least first
abbrev pub deadlines_to : Table → ℕ → List ℕ
deadlines_to t g = deadlines t 1 (g - 1)

-- Deadlines are due where they are less than the greatest time so far; this is how many.
abbrev pub due_to : Table → ℕ → ℕ
due_to t g = length (deadlines_to t g)

-- the same readings in the same order, with equally many deadlines due at each reading and at the end
pub record Alike (t : Table) (xs ys : List Item) : Type 0 where
  pub same_readings : readings xs ≡ readings ys
  pub due_at_readings : map (due_to t) (greatest_at 0 xs) ≡ map (due_to t) (greatest_at 0 ys)
  pub due_at_end : due_to t (greatest 0 xs) ≡ due_to t (greatest 0 ys)
