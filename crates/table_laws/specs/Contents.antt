-- What is wrong with the content of a field.
use Rattle.std.specs.Prelude.{◌≡◌, ℕ, ◌+◌, ◌≤◌, List, ◌∷◌, ◌++◌}
use Rattle.tables.specs.Kinds.{Said, input, life, output, trigger}
use Rattle.tables.specs.Tables.{content_bytes, tag_of}
use Rattle.table_laws.specs.Lawful.{Between, OutputInRange, Stacked, Text, WholeTrigger}
use Rattle.table_laws.specs.Whole.{windows_in_field}

-- the parts of a field are in range, whatever its operations do to the stack
abbrev pub FieldInRange : Said → Type 0
FieldInRange (life n) = Between 1 2000000000 n
FieldInRange (input s) = Text 33 16 s
FieldInRange (output o) = OutputInRange o
FieldInRange (trigger g) = WholeTrigger g

-- and this is what they do to it
abbrev pub StackKept : Said → Type 0
StackKept (life n) = Unit {0}
StackKept (input s) = Unit {0}
StackKept (output o) = Stacked 0 o.ops
StackKept (trigger g) = Unit {0}

-- the bytes are the content of a field in range that has this tag, with so many windows before it
pub record Spells (tag windows : ℕ) (bytes : List ℕ) : Type 0 where
  pub field : Said
  pub tagged : tag ≡ tag_of field
  pub is : bytes ≡ content_bytes field
  pub ranges : FieldInRange field
  -- it has no ninth window
  pub few : windows + windows_in_field field ≤ 8

-- more bytes, or none, would make such a content of these
abbrev pub Begun : (tag windows : ℕ) (bytes : List ℕ) → Type 0
Begun tag windows bytes = (more : List ℕ) × Spells tag windows (bytes ++ more)

-- behind these bytes this one may stand: more would make such a content of them
abbrev pub Follows : (tag windows : ℕ) (front : List ℕ) (byte : ℕ) → Type 0
Follows tag windows front byte = (more : List ℕ) × Spells tag windows (front ++ (byte ∷ more))

-- what the number of its refusal says of a content
pub data Wrong (tag windows number : ℕ) (bytes : List ℕ) : Type 0 where
  -- 3: it ends too early; so far nothing is wrong
  early : number ≡ 3 → Begun tag windows bytes → (Spells tag windows bytes → ⊥) → Wrong tag windows number bytes
  -- 3: it ends too late; behind its first bytes, with which nothing is wrong, no byte may stand
  late : number ≡ 3 → (front : List ℕ) (byte : ℕ) (rest : List ℕ) → bytes ≡ front ++ (byte ∷ rest)
      → Begun tag windows front → ((b : ℕ) → Follows tag windows front b → ⊥) → Wrong tag windows number bytes
  -- 4: a byte is out of range; behind its first bytes another may stand, but this one may not
  off : number ≡ 4 → (front : List ℕ) (byte : ℕ) (rest : List ℕ) → bytes ≡ front ++ (byte ∷ rest)
      → (b : ℕ) → Follows tag windows front b → (Follows tag windows front byte → ⊥) → Wrong tag windows number bytes
  -- 6: only the stack rule is broken
  unfit : number ≡ 6 → (s : Spells tag windows bytes) → (StackKept s.field → ⊥) → Wrong tag windows number bytes
