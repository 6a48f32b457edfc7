-- The reader of tables once more, where each field keeps its place, as code that goes on from field to field knows it.
use Rattle.std.specs.Prelude.{ℕ, zero, suc, ◌+◌, Bool, true, false, List, [], ◌∷◌, length, Ok, Err, Result, nat_lt}
use Rattle.frames.specs.Frames.{announced, first}
use Rattle.tables.specs.Kinds.{Said, Table}
use Rattle.tables.specs.Rules.{no_circle}
use Rattle.tables.specs.Tables.{Refusal, Stood, field, keeps, next, refuse, start, streams_in, sure, with_field}

-- a field that was read, and its first byte
pub record Placed : Type 0 where
  pub said : Said
  pub place : ℕ

abbrev pub cons : Placed → Result (List Placed) Refusal → Result (List Placed) Refusal
cons f (Ok fs) = Ok (f ∷ fs)
cons f (Err e) = Err e

-- a field before all that follow; or a refusal at its place, after which nothing is looked at
abbrev pub before : Result Said ℕ → (place : ℕ) → (Said → Result (List Placed) Refusal) → Result (List Placed) Refusal
before (Err number) place rest = refuse number place
before (Ok f) place rest = cons (record { said = f; place = place }) (rest f)

-- nothing where an output stood, else a refusal at the end of the bytes
abbrev pub ended : Bool → (place : ℕ) → Result (List Placed) Refusal
ended true place = Ok []
ended false place = refuse 2 place

-- the fields from a place on, where the first `inside` bytes still belong to the field before
abbrev pub walk : (inside place : ℕ) → Stood → List ℕ → Result (List Placed) Refusal
walk inside place s [] = ended (nat_lt 0 s.outputs) place
walk (suc inside) place s (b ∷ bytes) = walk inside (place + 1) s bytes
walk zero place s (b ∷ bytes) = before (field s (first (b ∷ bytes))) place (λ f. walk (2 + announced (b ∷ bytes)) (place + 1) (next s f) bytes)

-- a table from its fields
abbrev pub gathered : List Placed → Table
gathered [] = record { life = 0; inputs = []; outputs = []; triggers = [] }
gathered (f ∷ fs) = with_field f.said (gathered fs)

-- 5 at the first field that breaks a rule; after all fields 7 at the table's length, `end`, where there is a circle
abbrev pub judged : Table → (end me : ℕ) → List Placed → Result Table Refusal
judged t end me [] = sure (no_circle t) 7 end (Ok t)
judged t end me (f ∷ fs) = sure (keeps t me f.said) 5 f.place (judged t end (me + streams_in f.said) fs)

abbrev pub whole : (end : ℕ) → Result (List Placed) Refusal → Result Table Refusal
whole end (Ok fs) = judged (gathered fs) end 0 fs
whole end (Err e) = Err e

-- the table that bytes say, or the number and the place of the refusal
abbrev pub read_placed : List ℕ → Result Table Refusal
read_placed bytes = whole (length bytes) (walk 0 0 start bytes)
