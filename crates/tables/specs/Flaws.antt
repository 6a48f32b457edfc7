-- The numbers by which the refusals of a table are known.
use Rattle.std.specs.Prelude.{ℕ, Ok, Err, Result}
use Rattle.tables.specs.declared.flaw.Flaw.{Flaw}
use Rattle.tables.specs.declared.flaw.Flaw.TheVariants.{Cut, Order, Extent, Range, Reading, Stack, Circle, Short}

abbrev pub number : Flaw → ℕ
number Cut = 1
number Order = 2
number Extent = 3
number Range = 4
number Reading = 5
number Stack = 6
number Circle = 7
number Short = 8

-- an answer with the number in the place of the flaw
abbrev pub numbered : {X : Type 0} → Result X Flaw → Result X ℕ
numbered (Ok x) = Ok x
numbered (Err f) = Err (number f)
