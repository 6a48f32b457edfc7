-- What every checked table keeps, as one test over what the table says: its parts are in range, and it keeps the rules.
use Rattle.std.specs.Prelude.{ℕ, ◌+◌, ◌^◌, Bool, true, ◌&&◌, List, [], ◌∷◌, length, ℤ, pos, negsuc, nat_le, nat_lt}
use Rattle.tables.specs.declared.op.Op.{Op}
use Rattle.tables.specs.declared.op.Op.TheVariants.{Number, Now, Past, Held, Window, Add, Subtract, Multiply, Less, Equal, Choose}
use Rattle.tables.specs.declared.op.Pace.{Pace}
use Rattle.tables.specs.declared.op.Pace.TheVariants.{Event, Every}
use Rattle.tables.specs.Kinds.{Output, Table, Trigger}
use Rattle.tables.specs.Reading.{fits, within}
use Rattle.tables.specs.Rules.{all, no_circle, output_keeps, trigger_keeps}
use Rattle.tables.specs.Tables.{windows_of}

-- from low to 126, each byte, and from 1 to `most` of them
abbrev pub is_text : (low most : ℕ) → List ℕ → Bool
is_text low most s = within 1 most (length s) && all (within low 126) s

abbrev pub is_byte : ℕ → Bool
is_byte n = nat_lt n 256

-- 32 bits in two's complement
abbrev pub is_value : ℤ → Bool
is_value (pos n) = nat_lt n (2 ^ 31)
is_value (negsuc n) = nat_lt n (2 ^ 31)

-- the operands of an operation
abbrev pub is_op : Op → Bool
is_op (Number v) = is_value v
is_op (Now s) = is_byte s
is_op (Past s b d) = is_byte s && (within 1 8 b && is_value d)
is_op (Held s d) = is_byte s && is_value d
is_op (Window s k u d) = is_byte s && (nat_lt u (2 ^ 32) && is_value d)
is_op Add = true
is_op Subtract = true
is_op Multiply = true
is_op Less = true
is_op Equal = true
is_op Choose = true

abbrev pub is_pace : Pace → Bool
is_pace Event = true
is_pace (Every p) = within 1 86400000 p

-- 1 to 16 operations that keep the stack rule
abbrev pub is_output : Output → Bool
is_output o = is_pace o.pace && (is_text 33 16 o.name && (within 1 16 (length o.ops) && (all is_op o.ops && fits 0 o.ops)))

abbrev pub is_trigger : Trigger → Bool
is_trigger g = is_byte g.stream && is_text 32 32 g.message

abbrev pub windows_in_all : List Output → ℕ
windows_in_all [] = 0
windows_in_all (o ∷ os) = windows_of o.ops + windows_in_all os

-- the parts are in range and in number
abbrev pub is_whole : Table → Bool
is_whole t =
    within 1 2000000000 t.life
    && (within 1 8 (length t.inputs)
    && (within 1 16 (length t.outputs)
    && (nat_le (length t.triggers) 8
    && (all (is_text 33 16) t.inputs
    && (all is_output t.outputs
    && (all is_trigger t.triggers
    && nat_le (windows_in_all t.outputs) 8))))))

-- of each output, the first of which is stream `me`
abbrev pub outputs_keep : Table → (me : ℕ) → List Output → Bool
outputs_keep t me [] = true
outputs_keep t me (o ∷ os) = output_keeps t me o && outputs_keep t (me + 1) os

-- the reading rules
abbrev pub keeps_rules : Table → Bool
keeps_rules t = outputs_keep t (length t.inputs) t.outputs && all (trigger_keeps t) t.triggers

abbrev pub sound : Table → Bool
sound t = is_whole t && (keeps_rules t && no_circle t)
