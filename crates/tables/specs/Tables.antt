-- A table from its bytes, and its bytes again.
use Rattle.std.specs.Prelude.{ℕ, zero, suc, ◌+◌, Bool, true, false, ◌&&◌, List, [], ◌∷◌, ◌++◌, map, length, ℤ, Some, None, Ok, Err, Option, Result, nat_lt}
use Rattle.std.specs.Int.{w32}
use Rattle.std.proofs.Common.{of_z}
use Rattle.frames.specs.Frames.{Framed, announced, first, low_first}
use Rattle.aggregates.specs.Kinds as kinds
use Rattle.tables.specs.declared.op.Op.{Op}
use Rattle.tables.specs.declared.op.Op.TheVariants.{Number, Now, Past, Held, Window, Add, Subtract, Multiply, Less, Equal, Choose}
use Rattle.tables.specs.declared.op.Pace.{Pace}
use Rattle.tables.specs.declared.op.Pace.TheVariants.{Event, Every}
use Rattle.tables.specs.Kinds.{Said, Table, input, life, output, trigger}
use Rattle.tables.specs.Reading.{content, test, windows_in}
use Rattle.tables.specs.Rules.{no_circle, output_keeps, trigger_keeps}

-- a refusal: its number, and its place
pub record Refusal : Type 0 where
  pub number : ℕ
  pub place : ℕ

-- READING

-- how many fields of each kind stood so far, and how many windows
pub record Stood : Type 0 where
  pub lives : ℕ
  pub inputs : ℕ
  pub outputs : ℕ
  pub triggers : ℕ
  pub windows : ℕ

abbrev pub start : Stood
start = record { lives = 0; inputs = 0; outputs = 0; triggers = 0; windows = 0 }

-- a field of this tag may stand next: life once and first, then 1 to 8 inputs, then outputs, at most 16, then at most 8 triggers; a trigger before any output passes here, since its own place is not the one that is wrong
abbrev pub admits : Stood → (tag : ℕ) → Bool
admits s zero = false
admits s (suc zero) = nat_lt s.lives 1
admits s (suc (suc zero)) = nat_lt 0 s.lives && (nat_lt s.outputs 1 && (nat_lt s.triggers 1 && nat_lt s.inputs 8))
admits s (suc (suc (suc zero))) = nat_lt 0 s.inputs && (nat_lt s.triggers 1 && nat_lt s.outputs 16)
admits s (suc (suc (suc (suc zero)))) = nat_lt 0 s.inputs && (nat_lt s.triggers 1 && nat_lt s.outputs 16)
admits s (suc (suc (suc (suc (suc zero))))) = nat_lt 0 s.lives && nat_lt s.triggers 8
admits s (suc (suc (suc (suc (suc (suc n)))))) = false

abbrev pub windows_of : List Op → ℕ
windows_of [] = 0
windows_of (o ∷ os) = windows_in o + windows_of os

-- what stood with one field more
abbrev pub next : Stood → Said → Stood
next s (life n) = record { lives = s.lives + 1; inputs = s.inputs; outputs = s.outputs; triggers = s.triggers; windows = s.windows }
next s (input name) = record { lives = s.lives; inputs = s.inputs + 1; outputs = s.outputs; triggers = s.triggers; windows = s.windows }
next s (output o) = record { lives = s.lives; inputs = s.inputs; outputs = s.outputs + 1; triggers = s.triggers; windows = s.windows + windows_of o.ops }
next s (trigger g) = record { lives = s.lives; inputs = s.inputs; outputs = s.outputs; triggers = s.triggers + 1; windows = s.windows }

abbrev pub refuse : {X : Type 0} → ℕ → ℕ → Result X Refusal
refuse number place = Err (record { number = number; place = place })

-- what a frame says at this point: 1 where it is cut, 2 where its tag may not stand, else what its content gives
abbrev pub field : Stood → Option Framed → Result Said ℕ
field s None = Err 1
field s (Some f) = test (admits s f.tag) 2 (content f.tag s.windows) f.content

abbrev pub cons : Said → Result (List Said) Refusal → Result (List Said) Refusal
cons f (Ok fs) = Ok (f ∷ fs)
cons f (Err e) = Err e

-- a field before all that follow; or a refusal at its place, after which nothing is looked at
abbrev pub before : Result Said ℕ → (place : ℕ) → (Said → Result (List Said) Refusal) → Result (List Said) Refusal
before (Err number) place rest = refuse number place
before (Ok f) place rest = cons f (rest f)

-- nothing where an output stood, else a refusal at the end of the bytes
abbrev pub ended : Bool → (place : ℕ) → Result (List Said) Refusal
ended true place = Ok []
ended false place = refuse 2 place

-- the fields from a place on, where the first `inside` bytes still belong to the field before
abbrev pub walk : (inside place : ℕ) → Stood → List ℕ → Result (List Said) Refusal
walk inside place s [] = ended (nat_lt 0 s.outputs) place
walk (suc inside) place s (b ∷ bytes) = walk inside (place + 1) s bytes
walk zero place s (b ∷ bytes) = before (field s (first (b ∷ bytes))) place (λ f. walk (2 + announced (b ∷ bytes)) (place + 1) (next s f) bytes)

-- a table from its fields
abbrev pub with_field : Said → Table → Table
with_field (life n) t = record { life = n; inputs = t.inputs; outputs = t.outputs; triggers = t.triggers }
with_field (input s) t = record { life = t.life; inputs = s ∷ t.inputs; outputs = t.outputs; triggers = t.triggers }
with_field (output o) t = record { life = t.life; inputs = t.inputs; outputs = o ∷ t.outputs; triggers = t.triggers }
with_field (trigger g) t = record { life = t.life; inputs = t.inputs; outputs = t.outputs; triggers = g ∷ t.triggers }

abbrev pub gathered : List Said → Table
gathered [] = record { life = 0; inputs = []; outputs = []; triggers = [] }
gathered (f ∷ fs) = with_field f (gathered fs)

-- WRITING

abbrev pub word : ℕ → List ℕ
word n = low_first 4 n

abbrev pub signed : ℤ → List ℕ
signed v = word (of_z w32 v)

abbrev pub op_bytes : Op → List ℕ
op_bytes (Number v) = 1 ∷ signed v
op_bytes (Now s) = 2 ∷ s ∷ []
op_bytes (Past s b d) = 3 ∷ s ∷ b ∷ signed d
op_bytes (Held s d) = 4 ∷ s ∷ signed d
op_bytes (Window s a u d) = 5 ∷ s ∷ kinds.number a ∷ (word u ++ signed d)
op_bytes Add = 6 ∷ []
op_bytes Subtract = 7 ∷ []
op_bytes Multiply = 8 ∷ []
op_bytes Less = 9 ∷ []
op_bytes Equal = 10 ∷ []
op_bytes Choose = 11 ∷ []

abbrev pub ops_bytes : List Op → List ℕ
ops_bytes [] = []
ops_bytes (o ∷ os) = op_bytes o ++ ops_bytes os

abbrev pub period_bytes : Pace → List ℕ
period_bytes Event = []
period_bytes (Every p) = word p

abbrev pub content_bytes : Said → List ℕ
content_bytes (life n) = word n
content_bytes (input s) = s
content_bytes (output o) = period_bytes o.pace ++ (length o.name ∷ (o.name ++ ops_bytes o.ops))
content_bytes (trigger g) = g.stream ∷ g.message

abbrev pub tag_of_pace : Pace → ℕ
tag_of_pace Event = 3
tag_of_pace (Every p) = 4

abbrev pub tag_of : Said → ℕ
tag_of (life n) = 1
tag_of (input s) = 2
tag_of (output o) = tag_of_pace o.pace
tag_of (trigger g) = 5

abbrev pub field_bytes : Said → List ℕ
field_bytes f = tag_of f ∷ (low_first 2 (length (content_bytes f)) ++ content_bytes f)

abbrev pub fields_bytes : List Said → List ℕ
fields_bytes [] = []
fields_bytes (f ∷ fs) = field_bytes f ++ fields_bytes fs

abbrev pub fields : Table → List Said
fields t = life t.life ∷ (map input t.inputs ++ (map output t.outputs ++ map trigger t.triggers))

abbrev pub write : Table → List ℕ
write t = fields_bytes (fields t)

-- JUDGING

-- the field keeps the rules; `me` streams stand before it
abbrev pub keeps : Table → (me : ℕ) → Said → Bool
keeps t me (life n) = true
keeps t me (input s) = true
keeps t me (output o) = output_keeps t me o
keeps t me (trigger g) = trigger_keeps t g

abbrev pub streams_in : Said → ℕ
streams_in (life n) = 0
streams_in (input s) = 1
streams_in (output o) = 1
streams_in (trigger g) = 0

abbrev pub sure : Bool → (number place : ℕ) → Result Table Refusal → Result Table Refusal
sure true number place rest = rest
sure false number place rest = refuse number place

-- 5 at the first field that breaks a rule; after all fields 7 at the table's length where there is a circle
abbrev pub judged : Table → (me place : ℕ) → List Said → Result Table Refusal
judged t me place [] = sure (no_circle t) 7 place (Ok t)
judged t me place (f ∷ fs) = sure (keeps t me f) 5 place (judged t (me + streams_in f) (place + length (field_bytes f)) fs)

abbrev pub whole : Result (List Said) Refusal → Result Table Refusal
whole (Ok fs) = judged (gathered fs) 0 0 fs
whole (Err e) = Err e

-- the table that bytes say, or the number and the place of the refusal
abbrev pub read : List ℕ → Result Table Refusal
read bytes = whole (walk 0 0 start bytes)
