-- The rules on reading, for outputs and then for triggers, each with its place.
use Rattle.std.specs.Prelude.{ℕ, ◌+◌, Bool, List, [], ◌∷◌, length, Ok, Err, Result}
use Rattle.tables.specs.declared.flaw.Refused.{Refused}
use Rattle.tables.specs.Kinds.{Table}
use Rattle.tables.specs.Rules.{output_keeps, trigger_keeps}
use Rattle.tables.specs.Tables.{Refusal, sure}
use Rattle.checked.specs.Gathering.{Making, refusal_of}

-- 5 at the place of the first, from the number `me` on, that does not keep the rules; else what follows
abbrev pub first_fault : {X : Type 0} → (keeps : ℕ → X → Bool) → (me : ℕ) → List X → (places : List ℕ) → Result Table Refusal → Result Table Refusal
first_fault keeps me [] places rest = rest
first_fault keeps me (x ∷ xs) [] rest = rest
first_fault keeps me (x ∷ xs) (place ∷ places) rest = sure (keeps me x) 5 place (first_fault keeps (me + 1) xs places rest)

-- what a judgement comes to before what follows
abbrev pub passed_on : Result (Unit {0}) Refused → Result Table Refusal → Result Table Refusal
passed_on (Ok u) rest = rest
passed_on (Err e) rest = Err (refusal_of e)

-- all outputs that were gathered
abbrev pub all_outputs : Making → Result Table Refusal → Result Table Refusal
all_outputs m rest = first_fault (output_keeps m.table) (length m.table.inputs) m.table.outputs m.outputs_at rest

-- all triggers that were gathered
abbrev pub all_triggers : Making → Result Table Refusal → Result Table Refusal
all_triggers m rest = first_fault (λ _. trigger_keeps m.table) 0 m.table.triggers m.triggers_at rest
