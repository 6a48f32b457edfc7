-- Laws of the record that a list of items makes.
use Rattle.std.specs.Prelude.{◌≡◌, ℕ, ◌+◌, ◌^◌, ◌<◌, ◌≤◌, Bool, true, false, ◌&&◌, ◌⊎◌, List, [], ◌∷◌, ◌++◌, map, length, ◌≢◌, nat_le, nat_lt}
use Rattle.std.specs.List.{AllByRecursion}
use Rattle.items.specs.declared.item.Item.{Item}
use Rattle.items.specs.Values.{has}
use Rattle.tables.specs.Kinds.{Table}
use Rattle.tables.specs.Rules.{output_at}
use Rattle.tables.specs.Sound.{sound}
use Rattle.records.specs.declared.entry.Entry.{Entry}
use Rattle.records.specs.declared.entry.Letter.{Letter}
use Rattle.records.specs.declared.entry.Letter.TheVariants.{R, D, L, S}
use Rattle.records.specs.Alike.{Alike, deadlines_to, greatest}
use Rattle.records.specs.Entries.{Fits, Frame, frame_of}
use Rattle.records.specs.Equations.{Equations, Everywhere}
use Rattle.records.specs.Lookups.{active_in}
use Rattle.records.specs.Reference.{reference}
use Rattle.records.specs.Schedule.{due, is_strange, schedule, woken_by}

-- one exactly where the other
abbrev pub Iff : Type 0 → Type 0 → Type 0
Iff A B = (A → B) × (B → A)

-- LETTERS

-- some entry has the letter, and a time of which P holds
abbrev pub SomeWith : Letter → (ℕ → Type 0) → List Entry → Type 0
SomeWith l P [] = ⊥
SomeWith l P (e ∷ r) = ((e.letter ≡ l) × P e.time) ⊎ SomeWith l P r

-- a time is late after some entries: it is 0, at most the time of a D, or less than that of an R
abbrev pub Late : List Entry → ℕ → Type 0
Late before time = (time ≡ 0) ⊎ (SomeWith D (λ d. time ≤ d) before ⊎ SomeWith R (λ r. time < r) before)

-- of an entry that tells of a reading, after the entries before it: L exactly where it is late, S exactly where it is strange and not late
pub record Lettered (t : Table) (before : List Entry) (e : Entry) : Type 0 where
  pub late : (e.letter ≢ D) → Iff (e.letter ≡ L) (Late before e.time)
  pub strange : (e.letter ≢ D) → Iff (e.letter ≡ S) ((Late before e.time → ⊥) × (is_strange (length t.inputs) e.mask ≡ true))

-- the time of an entry before others, where it is a D
abbrev pub marked : Letter → ℕ → List ℕ → List ℕ
marked R d ds = ds
marked D d ds = d ∷ ds
marked L d ds = ds
marked S d ds = ds

-- the times of the entries D, in the order of the record
abbrev pub deadlines_in : List Entry → List ℕ
deadlines_in [] = []
deadlines_in (e ∷ r) = marked e.letter e.time (deadlines_in r)

-- ACTIVE OUTPUTS

-- an output is active in the cycle of a frame: in R by the other streams that it uses, which are all active in that frame, and in D by its period
abbrev pub active_by_rule : Table → Frame → Letter → (o : ℕ) → Bool
active_by_rule t f R o = woken_by (active_in t f) (length t.inputs + o) (output_at t o).pace (output_at t o).ops
active_by_rule t f D o = due f.time (output_at t o)
active_by_rule t f L o = false
active_by_rule t f S o = false

-- exactly those outputs are active in a frame whose rule says so; bits beyond the outputs are not set
abbrev pub Active : Table → Frame → Type 0
Active t f = (o : ℕ) → has f.active o ≡ (nat_lt o (length t.outputs) && active_by_rule t f f.letter o)

-- for every list of items of a sound table
pub record Laws : Type 0 where
  -- the record has the schedule and keeps the equations
  pub has_schedule : (t : Table) (xs : List Item) → map frame_of (reference t xs) ≡ schedule t xs
  pub keeps_equations : (t : Table) → sound t ≡ true → (xs : List Item) → Equations t (reference t xs)
  -- and no other record does
  pub only_one : (t : Table) → sound t ≡ true → (xs : List Item) (r : List Entry) → map frame_of r ≡ schedule t xs → Equations t r → r ≡ reference t xs
  -- more items only add entries
  pub begins : (t : Table) (xs ys : List Item) → (more : List Entry) × (reference t (xs ++ ys) ≡ reference t xs ++ more)
  -- two records are equal exactly where the items are alike
  pub equal : (t : Table) (xs ys : List Item) → Iff (reference t xs ≡ reference t ys) (Alike t xs ys)
  -- the letters of readings, literally
  pub letters : (t : Table) (xs : List Item) → Everywhere (Lettered t) (reference t xs)
  -- a mask has a bit beyond so many inputs exactly where it is not less than the power of two
  pub beyond : (count mask : ℕ) → count ≤ 8 → mask < 256 → is_strange count mask ≡ nat_le (2 ^ count) mask
  -- there is a D for every deadline less than the greatest time, once, least first
  pub deadlines : (t : Table) (xs : List Item) → deadlines_in (reference t xs) ≡ deadlines_to t (greatest 0 xs)
  -- in each cycle exactly those outputs are active whose rule says so
  pub active : (t : Table) → sound t ≡ true → (xs : List Item) → AllByRecursion (Active t) (schedule t xs)
  -- every entry fits its struct
  pub fits : (t : Table) → sound t ≡ true → (xs : List Item) → Everywhere (λ before e. Fits e) (reference t xs)
