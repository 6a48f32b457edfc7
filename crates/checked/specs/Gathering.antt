-- A table in the making: the fields so far, added one behind another.
use Rattle.std.specs.Prelude.{◌≡◌, ℕ, ◌+◌, ◌<◌, ◌≤◌, List, [], ◌∷◌, ◌++◌, length, drop, Ok, Err, Result}
use Rattle.fixed.specs.Values.{values}
use Rattle.frames.specs.Frames.{announced, first}
use Rattle.tables.specs.declared.flaw.Refused.{Refused}
use Rattle.tables.specs.Flaws.{number}
use Rattle.tables.specs.Kinds.{Said, Table, input, life, output, trigger}
use Rattle.tables.specs.Tables as tables
use Rattle.tables.specs.Tables.{field, start, windows_of}
use Rattle.table_laws.specs.Placing.{Placed, walk}
use Rattle.table_laws.specs.Whole.{windows_in_field}
use Rattle.checked.specs.declared.gathered.Gathered.{Gathered}
use Rattle.checked.specs.Views.{said}

-- the table so far, how many lives and windows stood, and the first bytes of the fields of outputs and triggers
pub record Making : Type 0 where
  pub table : Table
  pub lives : ℕ
  pub windows : ℕ
  pub outputs_at : List ℕ
  pub triggers_at : List ℕ

abbrev pub nothing : Making
nothing = record { table = record { life = 0; inputs = []; outputs = []; triggers = [] }; lives = 0; windows = 0; outputs_at = []; triggers_at = [] }

-- a table with one field more, behind its others
abbrev pub with_last : Table → Said → Table
with_last t (life n) = record { life = n; inputs = t.inputs; outputs = t.outputs; triggers = t.triggers }
with_last t (input s) = record { life = t.life; inputs = t.inputs ++ (s ∷ []); outputs = t.outputs; triggers = t.triggers }
with_last t (output o) = record { life = t.life; inputs = t.inputs; outputs = t.outputs ++ (o ∷ []); triggers = t.triggers }
with_last t (trigger g) = record { life = t.life; inputs = t.inputs; outputs = t.outputs; triggers = t.triggers ++ (g ∷ []) }

abbrev pub lives_in : Said → ℕ
lives_in (life n) = 1
lives_in (input s) = 0
lives_in (output o) = 0
lives_in (trigger g) = 0

abbrev pub output_place : Said → ℕ → List ℕ
output_place (life n) place = []
output_place (input s) place = []
output_place (output o) place = place ∷ []
output_place (trigger g) place = []

abbrev pub trigger_place : Said → ℕ → List ℕ
trigger_place (life n) place = []
trigger_place (input s) place = []
trigger_place (output o) place = []
trigger_place (trigger g) place = place ∷ []

-- a field more, which began at a place
abbrev pub added : Making → Said → (place : ℕ) → Making
added m f place = record {
  table = with_last m.table f;
  lives = m.lives + lives_in f;
  windows = m.windows + windows_in_field f;
  outputs_at = m.outputs_at ++ output_place f place;
  triggers_at = m.triggers_at ++ trigger_place f place;
}

-- what stood so far
abbrev pub stood : Making → tables.Stood
stood m = record { lives = m.lives; inputs = length m.table.inputs; outputs = length m.table.outputs; triggers = length m.table.triggers; windows = m.windows }

-- there is room for one field more
abbrev pub Room : Making → Said → Type 0
Room m (life n) = m.lives < 1
Room m (input s) = (length m.table.inputs < 8) × (length s ≤ 16)
Room m (output o) = (length m.table.outputs < 16) × (length o.name ≤ 16) × (m.windows + windows_of o.ops ≤ 8)
Room m (trigger g) = (length m.table.triggers < 8) × (length g.message ≤ 32)

-- what the code has gathered
abbrev pub making : Gathered → Making
making g = record {
  table = said g.parts;
  lives = g.lives;
  windows = g.windows;
  outputs_at = values g.output_places;
  triggers_at = values g.trigger_places;
}

-- a refusal by its number
abbrev pub refusal_of : Refused → tables.Refusal
refusal_of e = record { number = number e.flaw; place = e.place }

-- the field at a place was added; or it is refused there
abbrev pub Stepped : (bytes : List ℕ) (at : ℕ) → Making → Result ℕ Refused → Making → Type 0
Stepped bytes at before (Ok size) after = (f : Said) × (field (stood before) (first (drop at bytes)) ≡ Ok f) × (after ≡ added before f at) × (size ≡ 3 + announced (drop at bytes)) × (size ≤ length (drop at bytes))
Stepped bytes at before (Err e) after = (field (stood before) (first (drop at bytes)) ≡ Err (number e.flaw)) × (e.place ≡ at)

-- fields added to nothing, one behind another
abbrev pub all_added : Making → List Placed → Making
all_added m [] = m
all_added m (f ∷ fs) = all_added (added m f.said f.place) fs

-- all fields were added; or the bytes are refused
abbrev pub AllRead : (bytes : List ℕ) → Result Gathered Refused → Type 0
AllRead bytes (Ok g) = (fs : List Placed) × (walk 0 0 start bytes ≡ Ok fs) × (making g ≡ all_added nothing fs)
AllRead bytes (Err e) = walk 0 0 start bytes ≡ Err (refusal_of e)
