-- The operations of an output, one after another, and as a program.
use Rattle.std.specs.Prelude.{ℕ, ◌+◌, ◌-◌, cond, ◌&&◌, List, [], ◌∷◌, Some, None, Ok, Err, Option, Result, nat_le, nat_lt}
use Rattle.fixed.specs.Values.{values}
use Rattle.tables.specs.declared.flaw.Flaw.{Flaw}
use Rattle.tables.specs.declared.op.Op.{Op}
use Rattle.tables.specs.declared.op.Program.{Program}
use Rattle.tables.specs.Flaws.{number}
use Rattle.tables.specs.Fronts.{kept}
use Rattle.tables.specs.Reading.{operands, ops}

-- the first operation of some bytes, with w windows before it
abbrev pub first_op : ℕ → List ℕ → Result (Op × List ℕ) ℕ
first_op w [] = Err 3
first_op w (c ∷ bs) = operands w c kept bs

-- all operations of a field's end, with w windows before them
abbrev pub all_ops : ℕ → List ℕ → Result (List Op) ℕ
all_ops w bs = ops 16 w (λ os. Ok os) bs

-- the operations that a program holds
abbrev pub listed : Program → List Op
listed p = values p.ops

-- a program by its operations, and a refusal by its number
abbrev pub told : Result Program Flaw → Result (List Op) ℕ
told (Ok p) = Ok (listed p)
told (Err f) = Err (number f)

-- the height of the stack after an operation that takes t values and leaves one: none where a value is missing, or where a ninth would stand
abbrev pub height_after : (h t : ℕ) → Option ℕ
height_after h t = cond (nat_le t h && nat_lt (h - t) 8) (Some (h - t + 1)) None
