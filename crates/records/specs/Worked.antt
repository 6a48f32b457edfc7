-- Worked cases as one table, and the test that each of them passes.
use Rattle.std.specs.Prelude.{ℕ, Bool, true, false, ◌&&◌, List, [], ◌∷◌, ◌++◌, take, replicate, ℤ, pos, negsuc, ◌==◌}
use Rattle.aggregates.specs.declared.kind.Kind.TheVariants.{Count, Sum, Average}
use Rattle.items.specs.declared.item.Item.{Item}
use Rattle.items.specs.declared.item.Item.TheVariants.{Marked, Read}
use Rattle.items.specs.Items.{mark_of, reading_of}
use Rattle.tables.specs.declared.op.Op.{Op}
use Rattle.tables.specs.declared.op.Op.TheVariants.{Number, Now, Past, Held, Window, Add, Subtract, Multiply, Less, Choose}
use Rattle.tables.specs.declared.op.Pace.{Pace}
use Rattle.tables.specs.declared.op.Pace.TheVariants.{Event, Every}
use Rattle.tables.specs.Kinds.{Output, Table, Trigger}
use Rattle.tables.specs.Sound.{sound}
use Rattle.records.specs.declared.entry.Entry.{Entry}
use Rattle.records.specs.declared.entry.Letter.{Letter}
use Rattle.records.specs.declared.entry.Letter.TheVariants.{R, D, L, S}
use Rattle.records.specs.Entries.{sign}
use Rattle.records.specs.Reference.{reference}
use Rattle.records.specs.Working.{same}

-- the record that a sound table gives of a list of items; negsuc n is -(n + 1)
pub data Case : Type 0 where
  gives : Table → List Item → List Entry → Case

-- the same numbers in the same order
abbrev all_same : List ℤ → List ℤ → Bool
all_same [] [] = true
all_same [] (b ∷ bs) = false
all_same (a ∷ rest) [] = false
all_same (a ∷ rest) (b ∷ bs) = same a b && all_same rest bs

-- equal in each part
abbrev same_entry : Entry → Entry → Bool
same_entry e f =
    (sign e.letter == sign f.letter)
    && (e.time == f.time
    && (e.mask == f.mask
    && (all_same e.inputs f.inputs
    && (e.active == f.active
    && (all_same e.values f.values
    && e.lit == f.lit)))))

-- equal entry by entry
abbrev same_record : List Entry → List Entry → Bool
same_record [] [] = true
same_record [] (f ∷ fs) = false
same_record (e ∷ es) [] = false
same_record (e ∷ es) (f ∷ fs) = same_entry e f && same_record es fs

-- the table is sound, and the record is the one that is written out
abbrev pub passes : Case → Bool
passes (gives t xs r) = sound t && same_record (reference t xs) r

-- of each case
abbrev pub all_pass : List Case → Bool
all_pass [] = true
all_pass (c ∷ cs) = passes c && all_pass cs

-- so many inputs that are named x, and outputs that are named y
abbrev table : (inputs : ℕ) → List Output → List Trigger → Table
table n os gs = record { life = 1000; inputs = replicate n (120 ∷ []); outputs = os; triggers = gs }

-- an output that is named y
abbrev output : Pace → List Op → Output
output p os = record { pace = p; name = 121 ∷ []; ops = os }

-- a trigger on a stream, whose message is m
abbrev trigger : ℕ → Trigger
trigger s = record { stream = s; message = 109 ∷ [] }

-- a mark
abbrev mark : ℕ → Item
mark time = Marked (mark_of time)

-- a reading; the values that are not written out are 0
abbrev reading : (time mask : ℕ) → List ℤ → Item
reading time mask values = Read (reading_of time mask values)

-- the values that are not written out are 0
abbrev line : Letter → (time mask : ℕ) → (inputs : List ℤ) → (active : ℕ) → (values : List ℤ) → (lit : ℕ) → Entry
line l time mask ins active vs lit = record {
  letter = l;
  time = time;
  mask = mask;
  inputs = take 8 (ins ++ replicate 8 (pos 0));
  active = active;
  values = take 16 (vs ++ replicate 16 (pos 0));
  lit = lit;
}

-- one event-based output over one input
abbrev single : List Op → Table
single os = table 1 (output Event os ∷ []) []

-- the average over three panes, in tenths
abbrev average : Table
average = table 1 (output (Every 1000) (Window 0 Average 3000 (pos 80) ∷ []) ∷ []) []

-- a page feed runs blank: more than two sheets in two seconds, and no dots; the lamp is its trigger
abbrev blank_feed : Table
blank_feed = table 2 (output (Every 1000) (Number (pos 2) ∷ Window 0 Count 2000 (pos 0) ∷ Less ∷ Window 1 Sum 2000 (pos 1) ∷ Number (pos 1) ∷ Less ∷ Multiply ∷ []) ∷ []) (trigger 2 ∷ [])

-- a sheet is fed
abbrev sheet : ℕ → Item
sheet time = reading time 1 (pos 1 ∷ [])

-- streams 2 and 3: the sum of both inputs two sums before, and the sum; 4 and 5: the larger of the latest sum and 10, and the latest sum
abbrev mixed : Table
mixed = table 2
    (output Event (Past 3 2 (negsuc 0) ∷ [])
    ∷ output Event (Now 0 ∷ Now 1 ∷ Add ∷ [])
    ∷ output (Every 10) (Number (pos 10) ∷ Now 5 ∷ Less ∷ Now 5 ∷ Number (pos 10) ∷ Choose ∷ [])
    ∷ output (Every 5) (Held 3 (pos 7) ∷ [])
    ∷ [])
    (trigger 3 ∷ trigger 5 ∷ [])

-- tables and items with their records
abbrev pub worked_cases : List Case
worked_cases =
    gives average (reading 500 1 (pos 100 ∷ []) ∷ reading 600 1 (pos 101 ∷ []) ∷ reading 2200 1 (pos 99 ∷ []) ∷ mark 3001 ∷ [])
    (line R 500 1 (pos 100 ∷ []) 0 [] 0
    ∷ line R 600 1 (pos 101 ∷ []) 0 [] 0
    ∷ line D 1000 0 [] 1 (pos 80 ∷ []) 0
    ∷ line D 2000 0 [] 1 (pos 80 ∷ []) 0
    ∷ line R 2200 1 (pos 99 ∷ []) 0 [] 0
    ∷ line D 3000 0 [] 1 (pos 100 ∷ []) 0
    ∷ [])
    ∷ gives (single (Now 0 ∷ Number (pos 65536) ∷ Multiply ∷ [])) (reading 1 1 (pos 65536 ∷ []) ∷ [])
    (line R 1 1 (pos 65536 ∷ []) 1 (pos 2147483647 ∷ []) 0 ∷ [])
    ∷ gives (single (Now 0 ∷ Number (pos 1) ∷ Subtract ∷ [])) (reading 1 1 (negsuc 2147483647 ∷ []) ∷ [])
    (line R 1 1 (negsuc 2147483647 ∷ []) 1 (negsuc 2147483647 ∷ []) 0 ∷ [])
    -- a reading at 0 is late
    ∷ gives (single (Now 0 ∷ [])) (reading 0 1 (pos 9 ∷ []) ∷ reading 1 1 (pos 9 ∷ []) ∷ [])
    (line L 0 1 (pos 9 ∷ []) 0 [] 0 ∷ line R 1 1 (pos 9 ∷ []) 1 (pos 9 ∷ []) 0 ∷ [])
    ∷ gives blank_feed (sheet 300 ∷ sheet 1000 ∷ sheet 1500 ∷ mark 2001 ∷ sheet 2000 ∷ mark 3001 ∷ [])
    (line R 300 1 (pos 1 ∷ []) 0 [] 0
    ∷ line R 1000 1 (pos 1 ∷ []) 0 [] 0
    ∷ line D 1000 0 [] 1 (pos 0 ∷ []) 0
    ∷ line R 1500 1 (pos 1 ∷ []) 0 [] 0
    ∷ line D 2000 0 [] 1 (pos 1 ∷ []) 1
    ∷ line L 2000 1 (pos 1 ∷ []) 0 [] 0
    ∷ line D 3000 0 [] 1 (pos 0 ∷ []) 0
    ∷ [])
    -- the third reading feeds no sum, the fourth names a third input, and the last is earlier than one before it
    ∷ gives mixed (reading 1 3 (pos 4 ∷ pos 5 ∷ []) ∷ reading 5 3 (pos 6 ∷ pos 7 ∷ []) ∷ reading 6 1 (pos 8 ∷ []) ∷ reading 7 6 (pos 0 ∷ pos 1 ∷ pos 2 ∷ []) ∷ reading 9 3 (pos 1 ∷ negsuc 0 ∷ []) ∷ reading 8 3 (pos 1 ∷ pos 1 ∷ []) ∷ mark 11 ∷ [])
    (line R 1 3 (pos 4 ∷ pos 5 ∷ []) 3 (negsuc 0 ∷ pos 9 ∷ []) 1
    ∷ line R 5 3 (pos 6 ∷ pos 7 ∷ []) 3 (negsuc 0 ∷ pos 13 ∷ []) 1
    ∷ line D 5 0 [] 8 (pos 0 ∷ pos 0 ∷ pos 0 ∷ pos 13 ∷ []) 2
    ∷ line R 6 1 (pos 8 ∷ []) 0 [] 0
    ∷ line S 7 6 (pos 0 ∷ pos 1 ∷ pos 2 ∷ []) 0 [] 0
    ∷ line R 9 3 (pos 1 ∷ negsuc 0 ∷ []) 3 (pos 9 ∷ pos 0 ∷ []) 0
    ∷ line L 8 3 (pos 1 ∷ pos 1 ∷ []) 0 [] 0
    ∷ line D 10 0 [] 12 (pos 0 ∷ pos 0 ∷ pos 10 ∷ pos 0 ∷ []) 0
    ∷ [])
    ∷ []
