-- The schedule: which frames a list of items makes. All but the inputs of a frame follows from times and masks.
-- Streams count from 0, inputs first, then outputs.
use Rattle.std.specs.Prelude.{ℕ, zero, suc, ◌+◌, ◌-◌, Bool, true, false, cond, ◌&&◌, ◌||◌, List, [], ◌∷◌, ◌++◌, map, length, replicate, pos, ◌==◌, nat_le, nat_lt, slice_index_or}
use Rattle.std.specs.List.{range_with_len}
use Rattle.items.specs.declared.item.Item.{Item}
use Rattle.items.specs.declared.item.Item.TheVariants.{Marked, Read}
use Rattle.items.specs.declared.item.Reading.{Reading}
use Rattle.items.specs.Values.{has, inputs}
use Rattle.tables.specs.declared.op.Op.{Op}
use Rattle.tables.specs.declared.op.Op.TheVariants.{Number, Now, Past, Held, Window, Add, Subtract, Multiply, Less, Equal, Choose}
use Rattle.tables.specs.declared.op.Pace.{Pace}
use Rattle.tables.specs.declared.op.Pace.TheVariants.{Event, Every}
use Rattle.tables.specs.Kinds.{Output, Table}
use Rattle.tables.specs.Rules.{all, any, divides, output_at}
use Rattle.records.specs.declared.entry.Letter.{Letter}
use Rattle.records.specs.declared.entry.Letter.TheVariants.{R, D, L, S}
use Rattle.records.specs.Entries.{Frame, bits}

-- DEADLINES

-- an output of this pace is due at d
abbrev pub due_by : ℕ → Pace → Bool
due_by d Event = false
due_by d (Every p) = divides p d

-- an output is due at d: it is periodic, and its period divides d
abbrev pub due : ℕ → Output → Bool
due d o = due_by d o.pace

-- a deadline is a positive multiple of some output's period; this tests a positive number
abbrev pub is_deadline : Table → ℕ → Bool
is_deadline t d = any (due d) t.outputs

-- the deadlines among so many numbers from one on, least first
abbrev pub deadlines : Table → (from count : ℕ) → List ℕ
deadlines t a zero = []
deadlines t a (suc n) = cond (is_deadline t a) (a ∷ deadlines t (a + 1) n) (deadlines t (a + 1) n)

-- the deadlines above d and less than m
abbrev pub missing : Table → (d m : ℕ) → List ℕ
missing t d m = deadlines t (d + 1) (m - 1 - d)

-- the last of some numbers, or the given one where there are none
abbrev pub last_of : ℕ → List ℕ → ℕ
last_of d [] = d
last_of d (x ∷ xs) = last_of x xs

-- ACTIVE OUTPUTS

-- found in rounds: each round works out all of them anew from what the round before found, the first one from nothing
abbrev pub rounds : {X : Type 0} → (rule : List X → ℕ → X) → (size n : ℕ) → List X
rounds rule size zero = []
rounds rule size (suc n) = map (rule (rounds rule size n)) (range_with_len 0 size)

-- a stream is active in a reading's cycle: an input that the mask has, or an output that is found active
abbrev pub stream_active : Table → (mask : ℕ) → List Bool → ℕ → Bool
stream_active t mask found s = cond (nat_lt s (length t.inputs)) (has mask s) (slice_index_or found (s - length t.inputs) false)

-- the stream that the operation uses by now or past, if any and if not its output's own, is active
abbrev pub is_fed : (active : ℕ → Bool) → (me : ℕ) → Op → Bool
is_fed active me (Number v) = true
is_fed active me (Now s) = s == me || active s
is_fed active me (Past s b d) = s == me || active s
is_fed active me (Held s d) = true
is_fed active me (Window s k u d) = true
is_fed active me Add = true
is_fed active me Subtract = true
is_fed active me Multiply = true
is_fed active me Less = true
is_fed active me Equal = true
is_fed active me Choose = true

-- an output of this pace and with these operations is active where these streams are
abbrev pub woken_by : (active : ℕ → Bool) → (me : ℕ) → Pace → List Op → Bool
woken_by active me Event os = all (is_fed active me) os
woken_by active me (Every p) os = false

-- an output is active in a reading's cycle: it is event-based, and the other streams that it uses by now and past are all active
abbrev pub woken : Table → (mask : ℕ) → List Bool → (o : ℕ) → Bool
woken t mask found o = woken_by (stream_active t mask found) (length t.inputs + o) (output_at t o).pace (output_at t o).ops

-- the active outputs of a reading's cycle; what an output uses stands in a lower layer, of which there are at most 16, so that 16 rounds find all
abbrev pub awake : Table → (mask : ℕ) → List Bool
awake t mask = rounds (woken t mask) (length t.outputs) 16

-- FRAMES

-- the frame of a deadline: no input is active, and every output that is due
abbrev pub deadline_frame : Table → ℕ → Frame
deadline_frame t d = record { letter = D; time = d; mask = 0; inputs = replicate 8 (pos 0); active = bits (map (due d) t.outputs) }

-- d is the time of the last D, and r that of the last R, 0 where there is none.
-- A reading is late where its time is 0, at most a deadline that has a D, or less than the time of a reading before that has an R.
abbrev pub is_late : (d r time : ℕ) → Bool
is_late d r time = nat_le time d || nat_lt time r

-- a reading is strange where its mask has a bit that is beyond so many inputs
abbrev pub is_strange : (count mask : ℕ) → Bool
is_strange count mask = any (λ i. nat_le count i && has mask i) inputs

-- the letter of a reading: late goes before strange
abbrev pub letter_of : Table → (d r : ℕ) → Reading → Letter
letter_of t d r x = cond (is_late d r x.time) L (cond (is_strange (length t.inputs) x.mask) S R)

-- the active outputs of a reading with this letter: none where its cycle does not run
abbrev pub active_by : Table → (mask : ℕ) → Letter → ℕ
active_by t mask R = bits (awake t mask)
active_by t mask D = 0
active_by t mask L = 0
active_by t mask S = 0

-- the frame of a reading with this letter, which carries the whole reading
abbrev pub reading_frame : Table → Letter → Reading → Frame
reading_frame t l x = record { letter = l; time = x.time; mask = x.mask; inputs = x.values; active = active_by t x.mask l }

-- the time of the last R after a reading with this letter
abbrev pub last_R : Letter → (r time : ℕ) → ℕ
last_R R r time = time
last_R D r time = r
last_R L r time = r
last_R S r time = r

-- what items add where d is the time of the last D, and r that of the last R
abbrev pub schedule_from : Table → (d r : ℕ) → List Item → List Frame
schedule_from t d r [] = []
schedule_from t d r (Marked m ∷ xs) =
    let ds = missing t d m.time in
    map (deadline_frame t) ds ++ schedule_from t (last_of d ds) r xs
schedule_from t d r (Read x ∷ xs) =
    let ds = missing t d x.time in
    let l = letter_of t (last_of d ds) r x in
    map (deadline_frame t) ds ++ (reading_frame t l x ∷ schedule_from t (last_of d ds) (last_R l r x.time) xs)

-- Each item in turn adds a D for every deadline less than its time that has none yet. A mark adds no more, and a reading an L, an S or an R.
abbrev pub schedule : Table → List Item → List Frame
schedule t xs = schedule_from t 0 0 xs
