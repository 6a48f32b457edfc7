-- What operations ask: the stream that one reads by now, past or held; and two tests of the rules, by name.
use Rattle.std.specs.Prelude.{ℕ, ◌/◌, Bool, ◌&&◌, List, [], Some, None, Option, nat_le, nat_lt}
use Rattle.tables.specs.declared.op.Op.{Op}
use Rattle.tables.specs.declared.op.Op.TheVariants.{Number, Now, Past, Held, Window, Add, Subtract, Multiply, Less, Equal, Choose}
use Rattle.tables.specs.Kinds.{Table}
use Rattle.tables.specs.Rules.{divides, other, streams}

abbrev pub has_stream : Table → ℕ → Bool
has_stream t s = nat_lt s (streams t)

-- a duration is 1 to 16 panes of a period
abbrev pub has_panes : (period duration : ℕ) → Bool
has_panes period duration = divides period duration && (nat_le 1 (duration / period) && nat_le (duration / period) 16)

-- the stream that an operation reads by now, past or held
abbrev pub asked_stream : Op → Option ℕ
asked_stream (Number v) = None
asked_stream (Now s) = Some s
asked_stream (Past s b d) = Some s
asked_stream (Held s d) = Some s
asked_stream (Window s k u d) = None
asked_stream Add = None
asked_stream Subtract = None
asked_stream Multiply = None
asked_stream Less = None
asked_stream Equal = None
asked_stream Choose = None

-- the output that the output `a` asks by that stream, behind so many inputs: none for an input or itself
abbrev pub other_at : (inputs a : ℕ) → Option ℕ → List ℕ
other_at inputs a None = []
other_at inputs a (Some stream) = other inputs a stream
