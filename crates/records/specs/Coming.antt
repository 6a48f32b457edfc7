-- What is still to come of a record.
use Rattle.std.specs.Prelude.{◌≡◌, ℕ, ◌+◌, ◌*◌, ◌/◌, ◌<◌, ◌≤◌, min, true, false, List, [], ◌∷◌, Some, None, Option}
use Rattle.items.specs.declared.item.Item.{Item}
use Rattle.items.specs.declared.item.Item.TheVariants.{Marked, Read}
use Rattle.items.specs.declared.item.Mark.{Mark}
use Rattle.items.specs.declared.item.Reading.{Reading}
use Rattle.items.specs.Items.{time_of}
use Rattle.tables.specs.declared.op.Pace.{Pace}
use Rattle.tables.specs.declared.op.Pace.TheVariants.{Event, Every}
use Rattle.tables.specs.Kinds.{Output, Table}
use Rattle.tables.specs.Sound.{sound}
use Rattle.records.specs.declared.entry.Entry.{Entry}
use Rattle.records.specs.declared.entry.Letter.TheVariants.{L}
use Rattle.records.specs.Reference.{entry, fill, then}
use Rattle.records.specs.Schedule.{deadline_frame, is_deadline, is_late, last_R, letter_of, reading_frame, schedule_from}

-- no deadline is above d and less than m
abbrev pub Free : Table → (d m : ℕ) → Type 0
Free t d m = (c : ℕ) → d < c → c < m → is_deadline t c ≡ false

-- x is the least deadline above d
pub record Next (t : Table) (d x : ℕ) : Type 0 where
  pub above : d < x
  pub is : is_deadline t x ≡ true
  pub free : Free t d x

-- the lesser of a number and another, if there is another
abbrev pub sooner : ℕ → Option ℕ → ℕ
sooner n None = n
sooner n (Some m) = min n m

-- the next multiple of a period after d, or a sooner one of the rest; an event-based output has none
abbrev pub next_by : ℕ → Pace → Option ℕ → Option ℕ
next_by d Event rest = rest
next_by d (Every p) rest = Some (sooner ((d / p + 1) * p) rest)

-- the least of the next multiples of some outputs' periods
abbrev pub next_of : ℕ → List Output → Option ℕ
next_of d [] = None
next_of d (o ∷ os) = next_by d o.pace (next_of d os)

-- the next deadline after d: the least of the next multiples of all periods
abbrev pub next : Table → ℕ → Option ℕ
next t d = next_of d t.outputs

-- no deadline stands before a time
abbrev pub Reached : Option ℕ → ℕ → Type 0
Reached None time = Unit {0}
Reached (Some n) time = time ≤ n

-- the least deadline above d, or none where no deadline is above d
abbrev pub IsNext : Table → ℕ → Option ℕ → Type 0
IsNext t d None = (c : ℕ) → d < c → is_deadline t c ≡ false
IsNext t d (Some n) = Next t d n

-- what items add to a record, whose entries stand in `before`, latest first, where d is the time of its last D, and r that of its last R
abbrev pub coming : Table → (before : List Entry) → (d r : ℕ) → List Item → List Entry
coming t before d r xs = fill t before (schedule_from t d r xs)

-- one entry after the other
pub record Comings (t : Table) : Type 0 where
  -- the next deadline is the least one
  pub next_least : (d : ℕ) → IsNext t d (next t d)
  -- a deadline that stands before the first item comes first
  pub deadline_first : (before : List Entry) (d r n : ℕ) (x : Item) (xs : List Item) → next t d ≡ Some n → n < time_of x
      → coming t before d r (x ∷ xs) ≡ then (entry t before (deadline_frame t n)) (λ e. coming t (e ∷ before) n r (x ∷ xs))
  -- a mark adds no more
  pub mark_adds : (before : List Entry) (d r : ℕ) (m : Mark) (xs : List Item) → Reached (next t d) m.time
      → coming t before d r (Marked m ∷ xs) ≡ coming t before d r xs
  -- a reading adds one
  pub reading_adds : (before : List Entry) (d r : ℕ) (x : Reading) (xs : List Item) → Reached (next t d) x.time
      → coming t before d r (Read x ∷ xs)
      ≡ then (entry t before (reading_frame t (letter_of t d r x) x)) (λ e. coming t (e ∷ before) d (last_R (letter_of t d r x) r x.time) xs)
  -- a late reading adds nothing else: where no deadline stands before the last R, none stands before a late reading
  pub late_adds : (before : List Entry) (d r : ℕ) (x : Reading) (xs : List Item) → Reached (next t d) r → is_late d r x.time ≡ true
      → coming t before d r (Read x ∷ xs) ≡ then (entry t before (reading_frame t L x)) (λ e. coming t (e ∷ before) d r xs)
  -- and none does after a deadline either
  pub still_reached : (d r n : ℕ) → Reached (next t d) r → next t d ≡ Some n → Reached (next t n) r

-- so every record of a sound table goes on
abbrev pub ComingLaws : Type 0
ComingLaws = (t : Table) → sound t ≡ true → Comings t
