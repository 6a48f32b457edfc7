-- What a lawful table is, in sentences.
use Rattle.std.specs.Prelude.{◌≡◌, ℕ, suc, ◌+◌, ◌-◌, ◌*◌, ◌^◌, ◌<◌, ◌≤◌, ◌⊎◌, List, length, ℤ, FitsSigned, All, Contains, ◌≢◌, slice_index_or}
use Rattle.std.specs.Int.{w32}
use Rattle.aggregates.specs.declared.kind.Kind.{Kind}
use Rattle.tables.specs.declared.op.Op.{Op}
use Rattle.tables.specs.declared.op.Op.TheVariants.{Number, Now, Past, Held, Window, Add, Subtract, Multiply, Less, Equal, Choose}
use Rattle.tables.specs.declared.op.Pace.{Pace}
use Rattle.tables.specs.declared.op.Pace.TheVariants.{Event, Every}
use Rattle.tables.specs.Kinds.{Output, Table, Trigger}
use Rattle.tables.specs.Reading.{takes}
use Rattle.tables.specs.Rules.{output_at, pace_of, streams}
use Rattle.tables.specs.Sound.{windows_in_all}
use Rattle.tables.specs.Tables.{write}

-- THE PARTS

-- from low to high
abbrev pub Between : (low high n : ℕ) → Type 0
Between low high n = (low ≤ n) × (n ≤ high)

-- 1 to `most` bytes, each from `low` to 126
pub record Text (low most : ℕ) (s : List ℕ) : Type 0 where
  pub long : Between 1 most (length s)
  pub letters : All (Between low 126) s

-- the operands of an operation: streams are bytes, values have 32 bits with a sign
abbrev pub InRange : Op → Type 0
InRange (Number v) = FitsSigned w32 v
InRange (Now s) = s < 256
InRange (Past s back default) = (s < 256) × Between 1 8 back × FitsSigned w32 default
InRange (Held s default) = (s < 256) × FitsSigned w32 default
InRange (Window s kind duration default) = (s < 256) × (duration < 2 ^ 32) × FitsSigned w32 default
InRange Add = Unit {0}
InRange Subtract = Unit {0}
InRange Multiply = Unit {0}
InRange Less = Unit {0}
InRange Equal = Unit {0}
InRange Choose = Unit {0}

-- the operations work on a stack that begins with so many values
pub record Stacked (first : ℕ) (os : List Op) : Type 0 where
  -- how many values it holds after so many operations
  pub height : ℕ → ℕ
  pub begins : height 0 ≡ first
  -- each operation finds the values that it takes
  pub enough : (k : ℕ) → k < length os → takes (slice_index_or os k Add) ≤ height k
  -- and leaves one in their stead
  pub leaves : (k : ℕ) → k < length os → height (suc k) ≡ height k - takes (slice_index_or os k Add) + 1
  -- there is room for eight
  pub room : (k : ℕ) → k < length os → height (suc k) ≤ 8
  -- one is left at the end
  pub ends : height (length os) ≡ 1

-- a period in milliseconds, at most a day
abbrev pub PaceInRange : Pace → Type 0
PaceInRange Event = Unit {0}
PaceInRange (Every period) = Between 1 86400000 period

-- an output but for what its operations do to the stack
pub record OutputInRange (o : Output) : Type 0 where
  -- the period of a periodic one
  pub period : PaceInRange o.pace
  -- its name
  pub named : Text 33 16 o.name
  -- how many operations, and their operands
  pub counted : Between 1 16 (length o.ops)
  pub ranges : All InRange o.ops

-- an output, with its stack
pub record WholeOutput (o : Output) : Type 0 where
  pub parts : OutputInRange o
  pub stack : Stacked 0 o.ops

-- a trigger
pub record WholeTrigger (g : Trigger) : Type 0 where
  pub stream : g.stream < 256
  pub message : Text 32 32 g.message

-- every part is in its range, and there are neither too few of a kind nor too many
pub record WholeTable (t : Table) : Type 0 where
  -- how many entries a monitor may make
  pub life : Between 1 2000000000 t.life
  -- how many of each kind, and how many windows in all outputs together
  pub inputs : Between 1 8 (length t.inputs)
  pub outputs : Between 1 16 (length t.outputs)
  pub triggers : length t.triggers ≤ 8
  pub windows : windows_in_all t.outputs ≤ 8
  -- each of them
  pub each_input : All (Text 33 16) t.inputs
  pub each_output : All WholeOutput t.outputs
  pub each_trigger : All WholeTrigger t.triggers

-- THE RULES ON READING

-- the operation uses the stream by now or past
abbrev pub Meets : Op → (stream : ℕ) → Type 0
Meets x s = (x ≡ Now s) ⊎ ((back : ℕ) × (default : ℤ) × (x ≡ Past s back default))

-- by now, past or held
abbrev pub Asks : Op → (stream : ℕ) → Type 0
Asks x s = Meets x s ⊎ ((default : ℤ) × (x ≡ Held s default))

-- by any operation
abbrev pub Names : Op → (stream : ℕ) → Type 0
Names x s = Asks x s ⊎ ((kind : Kind) × (duration : ℕ) × (default : ℤ) × (x ≡ Window s kind duration default))

-- the operation x may stand in the output that is stream `me` and goes at this pace
pub record OpKeeps (t : Table) (me : ℕ) (pace : Pace) (x : Op) : Type 0 where
  -- a stream that is named exists
  pub exists : (s : ℕ) → Names x s → s < streams t
  -- an output reads itself only by past
  pub itself : Names x me → (back : ℕ) × (default : ℤ) × (x ≡ Past me back default)
  -- an event-based output uses now and past only on inputs, event-based outputs and itself
  pub events : (s : ℕ) → pace ≡ Event → Meets x s → (s ≡ me) ⊎ (pace_of t s ≡ Event)
  -- a periodic output uses now and past only on itself and on periodic outputs whose period divides its own
  pub periods : (s period : ℕ) → pace ≡ Every period → Meets x s → (s ≡ me) ⊎ ((other : ℕ) × (times : ℕ) × (pace_of t s ≡ Every other) × (period ≡ times * other))
  -- a window stands in a periodic output, over an input or an event-based output, and lasts 1 to 16 periods
  pub windows : (s : ℕ) (kind : Kind) (duration : ℕ) (default : ℤ) → x ≡ Window s kind duration default
      → (period : ℕ) × (panes : ℕ) × (pace ≡ Every period) × (pace_of t s ≡ Event) × Between 1 16 panes × (duration ≡ panes * period)

-- the output that is stream `me` keeps the rules
pub record OutputKeeps (t : Table) (me : ℕ) (o : Output) : Type 0 where
  pub each : All (OpKeeps t me o.pace) o.ops
  -- an event-based output uses now or past on at least one other stream
  pub driven : o.pace ≡ Event → (x : Op) × (s : ℕ) × Contains o.ops x × Meets x s × (s ≢ me)

-- a trigger names an output
abbrev pub TriggerKeeps : Table → Trigger → Type 0
TriggerKeeps t g = (length t.inputs ≤ g.stream) × (g.stream < streams t)

-- CIRCLES

-- the output a reads another, b, by now, past or held
pub record Reads (t : Table) (a b : ℕ) : Type 0 where
  -- both exist, and they differ
  pub one : a < length t.outputs
  pub two : b < length t.outputs
  pub apart : b ≡ a → ⊥
  -- an operation of a is such a read
  pub by : (x : Op) × Contains (output_at t a).ops x × Asks x (length t.inputs + b)

-- a chain of reads that returns to its start
pub record Circle (t : Table) : Type 0 where
  -- outputs in a row, from the start to the end
  pub chain : ℕ → ℕ
  pub start : ℕ
  pub end : ℕ
  -- at least one read
  pub some : start < end
  -- back at the same output
  pub returns : chain start ≡ chain end
  -- each reads the next
  pub goes : (k : ℕ) → start ≤ k → k < end → Reads t (chain k) (chain (suc k))

-- ALL OF IT

-- its parts are right, it keeps the rules on reading, and there is no circle
pub record Sound (t : Table) : Type 0 where
  pub parts : WholeTable t
  -- the outputs are the streams after the inputs
  pub outputs : (a : ℕ) → a < length t.outputs → OutputKeeps t (length t.inputs + a) (output_at t a)
  pub triggers : All (TriggerKeeps t) t.triggers
  pub no_circle : Circle t → ⊥

-- bytes are lawful where they are a sound table's: its life, its inputs, its outputs and its triggers, each in a frame
abbrev pub Lawful : List ℕ → Type 0
Lawful bytes = (t : Table) × (bytes ≡ write t) × Sound t
