-- What a refusal says of the bytes that it is answered for.
use Rattle.std.specs.Prelude.{◌≡◌, ℕ, ◌+◌, List, [], ◌∷◌, ◌++◌, length}
use Rattle.tables.specs.Kinds.{Said, Table, input, life, output, trigger}
use Rattle.tables.specs.Tables.{Refusal, fields, fields_bytes, start, streams_in, write}
use Rattle.table_laws.specs.Lawful.{Circle, OutputKeeps, TriggerKeeps, WholeTable}
use Rattle.table_laws.specs.Walks.{Breaks, Passes, after}

-- 1, 2, 3, 4 and 6: the fields before the place pass, and what stands there breaks as the number says
pub record FieldBroken (bytes : List ℕ) (e : Refusal) : Type 0 where
  -- the bytes are those of the fields, and then others
  pub passed : List Said
  pub rest : List ℕ
  pub whole : bytes ≡ fields_bytes passed ++ rest
  -- the place is where the others begin
  pub place : e.place ≡ length (fields_bytes passed)
  -- nothing is wrong with the fields, and something is with the others
  pub passes : Passes start passed
  pub breaks : Breaks (after start passed) e.number rest

-- the field keeps the rules on reading; `me` streams stand before it
abbrev pub FieldKeeps : Table → (me : ℕ) → Said → Type 0
FieldKeeps t me (life n) = Unit {0}
FieldKeeps t me (input s) = Unit {0}
FieldKeeps t me (output o) = OutputKeeps t me o
FieldKeeps t me (trigger g) = TriggerKeeps t g

-- each of the fields does
abbrev pub AllKeep : Table → (me : ℕ) → List Said → Type 0
AllKeep t me [] = Unit {0}
AllKeep t me (f ∷ fs) = FieldKeeps t me f × AllKeep t (me + streams_in f) fs

-- how many streams are among them
abbrev pub streams_in_all : List Said → ℕ
streams_in_all [] = 0
streams_in_all (f ∷ fs) = streams_in f + streams_in_all fs

-- 5: the bytes are those of a table that is whole, and the field at the place is its first that breaks a rule on reading
pub record RuleBroken (bytes : List ℕ) (e : Refusal) : Type 0 where
  pub table : Table
  pub whole : bytes ≡ write table
  pub parts : WholeTable table
  -- the fields before it, the field, and the others
  pub before : List Said
  pub field : Said
  pub others : List Said
  pub order : fields table ≡ before ++ (field ∷ others)
  -- those before it keep the rules, and it does not
  pub keep : AllKeep table 0 before
  pub breaks : FieldKeeps table (streams_in_all before) field → ⊥
  -- the place is its first byte
  pub number : e.number ≡ 5
  pub place : e.place ≡ length (fields_bytes before)

-- 7: the bytes are those of a table that is whole and keeps the rules on reading, and there is a circle; the place is their length
pub record CircleFound (bytes : List ℕ) (e : Refusal) : Type 0 where
  pub table : Table
  pub whole : bytes ≡ write table
  pub parts : WholeTable table
  pub keep : AllKeep table 0 (fields table)
  pub circle : Circle table
  pub number : e.number ≡ 7
  pub place : e.place ≡ length bytes

-- the refusal is right for the bytes
pub data Refused (bytes : List ℕ) (e : Refusal) : Type 0 where
  by_field : FieldBroken bytes e → Refused bytes e
  by_rule : RuleBroken bytes e → Refused bytes e
  by_circle : CircleFound bytes e → Refused bytes e
