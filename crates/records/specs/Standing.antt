-- How far the record of some given items has come.
use Rattle.std.specs.Prelude.{◌≡◌, ℕ, ◌<◌, ◌≤◌, true, false, List, [], ◌∷◌, ◌++◌, reverse, length, Some}
use Rattle.items.specs.declared.item.Item.{Item}
use Rattle.items.specs.declared.item.Item.TheVariants.{Marked, Read}
use Rattle.items.specs.declared.item.Mark.{Mark}
use Rattle.items.specs.declared.item.Reading.{Reading}
use Rattle.items.specs.Items.{time_of}
use Rattle.tables.specs.Kinds.{Table}
use Rattle.tables.specs.Sound.{sound}
use Rattle.records.specs.declared.entry.Entry.{Entry}
use Rattle.records.specs.declared.entry.Letter.TheVariants.{L}
use Rattle.records.specs.Coming.{Reached, coming, next}
use Rattle.records.specs.Entries.{Frame}
use Rattle.records.specs.Memory.{memory, recalled_entry}
use Rattle.records.specs.Reference.{entry, reference}
use Rattle.records.specs.Schedule.{deadline_frame, is_late, last_R, letter_of, reading_frame}

-- Of the record of the given items the entries in `before` are made, latest first, and the pending items are still to add theirs, whatever items are given later.
-- d is the time of the last D, and r that of the last R; no deadline stands before the last R.
pub record Stands (t : Table) (given pending : List Item) (before : List Entry) (d r : ℕ) : Type 0 where
  pub whole : (later : List Item) → reference t (given ++ later) ≡ reverse before ++ coming t before d r (pending ++ later)
  pub reached : Reached (next t d) r

-- the entry of a frame is next: the record stands so with it, and it is what the memory of those before gives
pub record GoesOn (t : Table) (given pending : List Item) (before : List Entry) (f : Frame) (d r : ℕ) : Type 0 where
  pub stands : Stands t given pending (entry t before f ∷ before) d r
  pub recalled : length before ≤ 2000000000 → entry t before f ≡ recalled_entry (memory t before) t f

-- how a record comes to stand
pub record Standings (t : Table) : Type 0 where
  -- at first all given items are pending
  pub start : (given : List Item) → Stands t given given [] 0 0
  -- items that are given later are pending after the others
  pub more : (given pending : List Item) (before : List Entry) (d r : ℕ) (later : List Item) → Stands t given pending before d r → Stands t (given ++ later) (pending ++ later) before d r
  -- the next deadline goes before an item of a later time, which stays pending
  pub deadline : (given pending : List Item) (before : List Entry) (d r n : ℕ) (x : Item) → Stands t given (x ∷ pending) before d r → next t d ≡ Some n → n < time_of x
      → GoesOn t given (x ∷ pending) before (deadline_frame t n) n r
  -- a mark is done where no deadline stands before it
  pub mark : (given pending : List Item) (before : List Entry) (d r : ℕ) (m : Mark) → Stands t given (Marked m ∷ pending) before d r → Reached (next t d) m.time
      → Stands t given pending before d r
  -- and a reading adds its entry
  pub reading : (given pending : List Item) (before : List Entry) (d r : ℕ) (x : Reading) → Stands t given (Read x ∷ pending) before d r → Reached (next t d) x.time
      → GoesOn t given pending before (reading_frame t (letter_of t d r x) x) d (last_R (letter_of t d r x) r x.time)
  -- a late one adds its own at once
  pub late : (given pending : List Item) (before : List Entry) (d r : ℕ) (x : Reading) → Stands t given (Read x ∷ pending) before d r → is_late d r x.time ≡ true
      → GoesOn t given pending before (reading_frame t L x) d r
  -- a reading that is not late is not made so by the deadlines before it
  pub in_time : (d r n time : ℕ) → is_late d r time ≡ false → n < time → is_late n r time ≡ false
  -- the entries made are the first ones of the record, and all of it where none is pending
  pub first : (given pending : List Item) (before : List Entry) (d r : ℕ) → Stands t given pending before d r → (rest : List Entry) × (reference t given ≡ reverse before ++ rest)
  pub all : (given : List Item) (before : List Entry) (d r : ℕ) → Stands t given [] before d r → reference t given ≡ reverse before

-- so every record of a sound table stands
abbrev pub StandingLaws : Type 0
StandingLaws = (t : Table) → sound t ≡ true → Standings t
