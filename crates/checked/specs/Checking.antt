-- What is answered about a table.
use Rattle.std.specs.Prelude.{◌≡◌, ℕ, List, Ok, Err, Result}
use Rattle.tables.specs.declared.flaw.Refused.{Refused}
use Rattle.tables.specs.Kinds as kinds
use Rattle.tables.specs.Tables.{Refusal, write}
use Rattle.table_laws.specs.Lawful.{Lawful, Sound}
use Rattle.table_laws.specs.Refusals as refusals
use Rattle.checked.specs.declared.table.Table.{Table}
use Rattle.checked.specs.Gathering.{refusal_of}
use Rattle.checked.specs.Views.{said}

-- what a checked table says
abbrev pub says : Table → kinds.Table
says t = said t.parts

-- a table by what it says, and a refusal by its number and place
abbrev pub told : Result Table Refused → Result kinds.Table Refusal
told (Ok t) = Ok (says t)
told (Err e) = Err (refusal_of e)

-- bytes were refused as the refusal says, which no other would be right in, and they are not lawful
pub record TurnedAway (bytes : List ℕ) (e : Refused) : Type 0 where
  pub truthful : refusals.Refused bytes (refusal_of e)
  pub only : (other : Refusal) → refusals.Refused bytes other → other ≡ refusal_of e
  pub unlawful : Lawful bytes → ⊥

-- bytes were accepted: they are those of the table, which keeps every rule
pub record LetIn (bytes : List ℕ) (t : Table) : Type 0 where
  pub bytes_back : bytes ≡ write (says t)
  pub keeps : Sound (says t)

-- accepted exactly where lawful
abbrev pub Right : (bytes : List ℕ) → Result Table Refused → Type 0
Right bytes (Ok t) = LetIn bytes t
Right bytes (Err e) = TurnedAway bytes e
