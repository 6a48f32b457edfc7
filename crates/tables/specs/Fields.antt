-- What the fields of a table say, where their parts still lie in its bytes.
use Rattle.std.specs.Prelude.{ℕ, List, [], Ok, Err, Result}
use Rattle.std.specs.Borrow.{Bor}
use Rattle.tables.specs.declared.field.Field.{Field}
use Rattle.tables.specs.declared.field.Field.TheVariants.{Life, Input, Output, Trigger}
use Rattle.tables.specs.declared.flaw.Flaw.{Flaw}
use Rattle.tables.specs.declared.op.Op.{Op}
use Rattle.tables.specs.Flaws.{number}
use Rattle.tables.specs.Fronts.{kept}
use Rattle.tables.specs.Kinds.{Said, input, life, output, trigger}
use Rattle.tables.specs.Programs.{all_ops}
use Rattle.tables.specs.Reading.{ranged, some, text, till}

-- a text, of which only that it stands there is kept
abbrev pub stands : List ℕ → Result (Unit {0}) ℕ
stands s = Ok tt

-- whether a text stands there to the field's end, of at most as many bytes
abbrev pub text_to_end : ℕ → ℕ → List ℕ → Result (Unit {0}) ℕ
text_to_end low most = some (till low most stands)

-- an output's name, which stands after its length, and the bytes after it
abbrev pub named : List ℕ → Result (List ℕ × List ℕ) ℕ
named = ranged 1 16 (λ n. text 33 n kept)

-- a text and the bytes after it, and a refusal by its number
abbrev pub parted : Result (Bor (List ℕ) × Bor (List ℕ)) Flaw → Result (List ℕ × List ℕ) ℕ
parted (Ok p) = Ok (p.0.now, p.1.now)
parted (Err f) = Err (number f)

-- none where they are refused
abbrev pub some_ops : Result (List Op) ℕ → List Op
some_ops (Ok os) = os
some_ops (Err e) = []

-- the operations that bytes say, where no window stands before them
abbrev pub ops_in : List ℕ → List Op
ops_in bs = some_ops (all_ops 0 bs)

-- what a field says, wherever its parts lie
abbrev pub shape : Field → Said
shape (Life n) = life n
shape (Input name) = input name.now
shape (Output pace name operations) = output (record { pace = pace; name = name.now; ops = ops_in operations.now })
shape (Trigger stream message) = trigger (record { stream = stream; message = message.now })

-- a field by what it says, and a refusal by its number
abbrev pub said : Result Field Flaw → Result Said ℕ
said (Ok f) = Ok (shape f)
said (Err f) = Err (number f)
