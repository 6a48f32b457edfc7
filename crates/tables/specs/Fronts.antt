-- What is read from the front of bytes.
use Rattle.std.specs.Prelude.{ℕ, List, Ok, Err, Result}
use Rattle.std.specs.Borrow.{Bor}
use Rattle.tables.specs.declared.flaw.Flaw.{Flaw}
use Rattle.tables.specs.Flaws.{number}

-- what was read, and the bytes that are left
abbrev pub kept : {X : Type 0} → X → List ℕ → Result (X × List ℕ) ℕ
kept x rest = Ok (x, rest)

-- an answer with the bytes that are left, and a refusal by its number
abbrev pub front : {X : Type 0} → Result (X × Bor (List ℕ)) Flaw → Result (X × List ℕ) ℕ
front (Ok p) = Ok (p.0, p.1.now)
front (Err f) = Err (number f)
