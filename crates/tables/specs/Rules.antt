-- The rules on what streams an output and a trigger may name, and circles, as tests.
use Rattle.std.specs.Prelude.{ℕ, zero, suc, ◌+◌, ◌-◌, ◌/◌, ◌%◌, Bool, true, false, cond, not, ◌&&◌, ◌||◌, List, [], ◌∷◌, ◌++◌, length, ◌==◌, nat_le, nat_lt, slice_index_or}
use Rattle.tables.specs.declared.op.Op.{Op}
use Rattle.tables.specs.declared.op.Op.TheVariants.{Number, Now, Past, Held, Window, Add, Subtract, Multiply, Less, Equal, Choose}
use Rattle.tables.specs.declared.op.Pace.{Pace}
use Rattle.tables.specs.declared.op.Pace.TheVariants.{Event, Every}
use Rattle.tables.specs.Kinds.{Output, Table, Trigger}

abbrev pub nothing : Output
nothing = record { pace = Event; name = []; ops = [] }

abbrev pub output_at : Table → ℕ → Output
output_at t a = slice_index_or t.outputs a nothing

abbrev pub streams : Table → ℕ
streams t = length t.inputs + length t.outputs

-- an input, like an event-based output, goes with readings
abbrev pub pace_of : Table → ℕ → Pace
pace_of t s = cond (nat_lt s (length t.inputs)) Event (output_at t (s - length t.inputs)).pace

abbrev pub divides : ℕ → ℕ → Bool
divides p n = n % p == 0

-- an output of the first pace may use now and past on a stream of the second: event-based ones on inputs and event-based outputs, periodic ones on periodic outputs whose period divides theirs
abbrev pub keeps_pace : Pace → Pace → Bool
keeps_pace Event Event = true
keeps_pace Event (Every q) = false
keeps_pace (Every p) Event = false
keeps_pace (Every p) (Every q) = divides q p

-- a window stands in a periodic output, over an input or an event-based output, and has 1 to 16 panes of the period
abbrev pub spans : Pace → Pace → ℕ → Bool
spans Event q duration = false
spans (Every p) Event duration = divides p duration && (nat_le 1 (duration / p) && nat_le (duration / p) 16)
spans (Every p) (Every q) duration = false

-- the operation may stand in the output that is stream `me` and has this pace: the stream that it names exists, it names its own output only by past, and the paces fit
abbrev pub may : Table → (me : ℕ) → Pace → Op → Bool
may t me p (Number v) = true
may t me p (Now s) = nat_lt s (streams t) && (not (s == me) && keeps_pace p (pace_of t s))
may t me p (Past s b d) = nat_lt s (streams t) && (s == me || keeps_pace p (pace_of t s))
may t me p (Held s d) = nat_lt s (streams t) && not (s == me)
may t me p (Window s a u d) = nat_lt s (streams t) && (not (s == me) && spans p (pace_of t s) u)
may t me p Add = true
may t me p Subtract = true
may t me p Multiply = true
may t me p Less = true
may t me p Equal = true
may t me p Choose = true

abbrev pub all : {X : Type 0} → (X → Bool) → List X → Bool
all f [] = true
all f (x ∷ xs) = f x && all f xs

abbrev pub any : {X : Type 0} → (X → Bool) → List X → Bool
any f [] = false
any f (x ∷ xs) = f x || any f xs

-- uses now or past on another stream
abbrev pub meets_other : (me : ℕ) → Op → Bool
meets_other me (Number v) = false
meets_other me (Now s) = not (s == me)
meets_other me (Past s b d) = not (s == me)
meets_other me (Held s d) = false
meets_other me (Window s a u d) = false
meets_other me Add = false
meets_other me Subtract = false
meets_other me Multiply = false
meets_other me Less = false
meets_other me Equal = false
meets_other me Choose = false

-- an event-based output uses now or past on at least one other stream
abbrev pub driven : (me : ℕ) → Pace → List Op → Bool
driven me Event os = any (meets_other me) os
driven me (Every p) os = true

abbrev pub output_keeps : Table → (me : ℕ) → Output → Bool
output_keeps t me o = all (may t me o.pace) o.ops && driven me o.pace o.ops

-- a trigger names an output
abbrev pub trigger_keeps : Table → Trigger → Bool
trigger_keeps t g = nat_le (length t.inputs) g.stream && nat_lt g.stream (streams t)

-- the output that the output `a` asks for its layer where it names the stream, behind so many inputs: none for an input or itself
abbrev pub other : (inputs a stream : ℕ) → List ℕ
other inputs a stream = cond (nat_le inputs stream && not (stream == inputs + a)) ((stream - inputs) ∷ []) []

-- the outputs that an operation reads by now, past or held; windows and an output's own past do not count
abbrev pub asks : (inputs a : ℕ) → Op → List ℕ
asks inputs a (Number v) = []
asks inputs a (Now s) = other inputs a s
asks inputs a (Past s b d) = other inputs a s
asks inputs a (Held s d) = other inputs a s
asks inputs a (Window s k u d) = []
asks inputs a Add = []
asks inputs a Subtract = []
asks inputs a Multiply = []
asks inputs a Less = []
asks inputs a Equal = []
asks inputs a Choose = []

abbrev pub asked : (inputs a : ℕ) → List Op → List ℕ
asked inputs a [] = []
asked inputs a (o ∷ os) = asks inputs a o ++ asked inputs a os

abbrev pub reads : Table → ℕ → List ℕ
reads t a = asked (length t.inputs) a (output_at t a).ops

-- every chain of reads from an output is shorter than this
abbrev pub ends : (ℕ → List ℕ) → ℕ → ℕ → Bool
ends r zero a = false
ends r (suc d) a = all (ends r d) (r a)

abbrev pub below : (ℕ → Bool) → ℕ → Bool
below f zero = true
below f (suc n) = f n && below f n

-- no chain of reads returns to its start: with at most 16 outputs, none is longer than 16
abbrev pub no_circle : Table → Bool
no_circle t = below (ends (reads t) 16) (length t.outputs)
