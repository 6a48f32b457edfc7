-- Fields one after another, and what breaks them.
use Rattle.std.specs.Prelude.{◌≡◌, ℕ, ◌+◌, ◌<◌, ◌≤◌, true, false, List, [], ◌∷◌, length}
use Rattle.log_laws.specs.Breaks.{Begins, EndsEarly}
use Rattle.tables.specs.Kinds.{Said}
use Rattle.tables.specs.Tables.{Stood, admits, field_bytes, next, tag_of}
use Rattle.table_laws.specs.Placing.{Placed}
use Rattle.table_laws.specs.Contents.{Wrong}
use Rattle.table_laws.specs.Whole.{is_field, windows_in_field}

-- fields with their places, the first of them at this one
abbrev pub placed : (place : ℕ) → List Said → List Placed
placed place [] = []
placed place (f ∷ fs) = record { said = f; place = place } ∷ placed (place + length (field_bytes f)) fs

-- what stood once these fields stand, too
abbrev pub after : Stood → List Said → Stood
after s [] = s
after s (f ∷ fs) = after (next s f) fs

-- each field may stand where it stands, is whole, and has no ninth window
abbrev pub Passes : Stood → List Said → Type 0
Passes s [] = Unit {0}
Passes s (f ∷ fs) = (admits s (tag_of f) ≡ true) × (is_field f ≡ true) × (s.windows + windows_in_field f ≤ 8) × Passes (next s f) fs

-- what a refusal's number says of the bytes from its place on, where these fields stood before
pub data Breaks (s : Stood) (number : ℕ) (bytes : List ℕ) : Type 0 where
  -- 1: a field begins, and the bytes end before it does
  cut : number ≡ 1 → 0 < length bytes → EndsEarly bytes → Breaks s number bytes
  -- 2: the field is there, and its tag may not stand at this point
  misplaced : number ≡ 2 → Begins bytes (λ tag content. admits s tag ≡ false) → Breaks s number bytes
  -- 2: the bytes end, and no output stood
  missing : number ≡ 2 → bytes ≡ [] → s.outputs ≡ 0 → Breaks s number bytes
  -- 3, 4 and 6: the field is there, its tag may stand, and its content is wrong as the number says
  wrong : Begins bytes (λ tag content. (admits s tag ≡ true) × Wrong tag s.windows number content) → Breaks s number bytes
