-- Laws between the bytes of tables and what tables say.
use Rattle.std.specs.Prelude.{◌≡◌, ℕ, ◌+◌, ◌<◌, ◌≤◌, true, ◌↔◌, List, length, Some, Ok, Err}
use Rattle.log_laws.specs.Laws.{Octets}
use Rattle.tables.specs.Kinds.{Said, Table}
use Rattle.tables.specs.Layers.{layer_in}
use Rattle.tables.specs.Rules.{no_circle}
use Rattle.tables.specs.Reading.{content}
use Rattle.tables.specs.Sound.{is_whole, keeps_rules, sound}
use Rattle.tables.specs.Tables.{Refusal, content_bytes, read, tag_of, write}
use Rattle.table_laws.specs.Contents.{Wrong}
use Rattle.table_laws.specs.Lawful.{Between, Circle, Lawful, Reads, Sound}
use Rattle.table_laws.specs.Refusals.{Refused}
use Rattle.table_laws.specs.Whole.{is_field, windows_in_field}

-- READING

-- the tag and the bytes are those of the field, which is whole and has no ninth window
abbrev pub Says : (tag windows : ℕ) → List ℕ → Said → Type 0
Says tag windows bytes f = (tag ≡ tag_of f) × (bytes ≡ content_bytes f) × (is_field f ≡ true) × (windows + windows_in_field f ≤ 8)

-- a content is read as a field exactly where it says that field
abbrev pub ContentLaw : Type 0
ContentLaw = (tag windows : ℕ) (bytes : List ℕ) (f : Said) → windows ≤ 8 → Octets bytes → (content tag windows bytes ≡ Ok f) ↔ Says tag windows bytes f

-- it is refused with a number exactly where it is wrong as the number says
abbrev pub ContentRefused : Type 0
ContentRefused = (tag windows number : ℕ) (bytes : List ℕ) → Between 1 5 tag → windows ≤ 8 → Octets bytes → (content tag windows bytes ≡ Err number) ↔ Wrong tag windows number bytes

-- bytes are read as a table exactly where they are those of the table, and it is sound
abbrev pub ReadLaw : Type 0
ReadLaw = (bytes : List ℕ) (t : Table) → Octets bytes → (read bytes ≡ Ok t) ↔ ((bytes ≡ write t) × (sound t ≡ true))

-- what is written of a sound table are bytes, 3,647 at most
abbrev pub WrittenLaw : Type 0
WrittenLaw = (t : Table) → sound t ≡ true → Octets (write t) × (length (write t) ≤ 3647)

-- ACCEPTED

-- the sentences and the test say the same
abbrev pub SoundLaw : Type 0
SoundLaw = (t : Table) → Sound t ↔ (sound t ≡ true)

-- bytes are accepted exactly where they are lawful
abbrev pub Accepted : Type 0
Accepted = (bytes : List ℕ) → Octets bytes → ((t : Table) × (read bytes ≡ Ok t)) ↔ Lawful bytes

-- what is accepted is written as it was
abbrev pub WritesBack : Type 0
WritesBack = (bytes : List ℕ) (t : Table) → Octets bytes → read bytes ≡ Ok t → write t ≡ bytes

-- every sound table is read as it was written
abbrev pub ReadsBack : Type 0
ReadsBack = (t : Table) → Sound t → read (write t) ≡ Ok t

-- sound tables with the same bytes are the same
abbrev pub WrittenOnce : Type 0
WrittenOnce = (t u : Table) → Sound t → Sound u → write t ≡ write u → t ≡ u

-- REFUSED

-- a refusal tells the truth
abbrev pub RefusalTruthful : Type 0
RefusalTruthful = (bytes : List ℕ) (e : Refusal) → Octets bytes → read bytes ≡ Err e → Refused bytes e

-- and no other refusal would: what it says is so only of the refusal that is answered
abbrev pub RefusalTold : Type 0
RefusalTold = (bytes : List ℕ) (e : Refusal) → Octets bytes → Refused bytes e → read bytes ≡ Err e

-- LAYERS

-- the output has a layer, from 1 up to the number of outputs, and above that of every output that it reads
pub record Layered (t : Table) (a : ℕ) : Type 0 where
  pub number : ℕ
  pub is : layer_in t a ≡ Some number
  pub least : 1 ≤ number
  pub most : number ≤ length t.outputs
  pub above : (b : ℕ) → Reads t a b → (lower : ℕ) × (layer_in t b ≡ Some lower) × (lower < number)

-- each output of a sound table is layered
abbrev pub LayersLaw : Type 0
LayersLaw = (t : Table) → Sound t → (a : ℕ) → a < length t.outputs → Layered t a

-- where the parts and the rules are right, the test for circles tells whether there is one
abbrev pub CircleLaw : Type 0
CircleLaw = (t : Table) → is_whole t ≡ true → keeps_rules t ≡ true → (no_circle t ≡ true) ↔ (Circle t → ⊥)
