-- Worked cases of whole tables: bytes, with the number and the place of the refusal, or with 0 where they are lawful.
use Rattle.std.specs.Prelude.{ℕ, Bool, true, false, ◌&&◌, List, [], ◌∷◌, Ok, Err, Result, ◌==◌}
use Rattle.tables.specs.Kinds.{Table}
use Rattle.tables.specs.Tables.{Refusal, read, write}

-- the number of a refusal, 0 for none, its place, and the bytes
pub data Case : Type 0 where
  gives : (number place : ℕ) → List ℕ → Case

abbrev same : List ℕ → List ℕ → Bool
same [] [] = true
same [] (b ∷ bs) = false
same (a ∷ rest) [] = false
same (a ∷ rest) (b ∷ bs) = a == b && same rest bs

-- a lawful table is also written as it was read
abbrev answers : (number place : ℕ) → List ℕ → Result Table Refusal → Bool
answers n p bytes (Ok t) = n == 0 && same (write t) bytes
answers n p bytes (Err e) = n == e.number && p == e.place

abbrev pub passes : Case → Bool
passes (gives n p bytes) = answers n p bytes (read bytes)

abbrev pub all_pass : List Case → Bool
all_pass [] = true
all_pass (c ∷ cs) = passes c && all_pass cs

abbrev pub worked_cases : List Case
worked_cases =
    -- the small table of the format's page
    gives 0 0 (1 ∷ 4 ∷ 0 ∷ 9 ∷ 0 ∷ 0 ∷ 0 ∷ 2 ∷ 1 ∷ 0 ∷ 120 ∷ 3 ∷ 4 ∷ 0 ∷ 1 ∷ 111 ∷ 2 ∷ 0 ∷ 5 ∷ 2 ∷ 0 ∷ 1 ∷ 109 ∷ [])
    ∷
    -- life 0
    gives 4 0 (1 ∷ 4 ∷ 0 ∷ 0 ∷ 0 ∷ 0 ∷ 0 ∷ 2 ∷ 1 ∷ 0 ∷ 120 ∷ 3 ∷ 4 ∷ 0 ∷ 1 ∷ 111 ∷ 2 ∷ 0 ∷ 5 ∷ 2 ∷ 0 ∷ 1 ∷ 109 ∷ [])
    ∷
    -- no output: at the end of the bytes
    gives 2 16 (1 ∷ 4 ∷ 0 ∷ 9 ∷ 0 ∷ 0 ∷ 0 ∷ 2 ∷ 1 ∷ 0 ∷ 120 ∷ 5 ∷ 2 ∷ 0 ∷ 1 ∷ 109 ∷ [])
    ∷
    -- an output that reads itself by now
    gives 5 11 (1 ∷ 4 ∷ 0 ∷ 9 ∷ 0 ∷ 0 ∷ 0 ∷ 2 ∷ 1 ∷ 0 ∷ 120 ∷ 3 ∷ 4 ∷ 0 ∷ 1 ∷ 111 ∷ 2 ∷ 1 ∷ 5 ∷ 2 ∷ 0 ∷ 1 ∷ 109 ∷ [])
    ∷
    -- two values are left on the stack
    gives 6 11 (1 ∷ 4 ∷ 0 ∷ 9 ∷ 0 ∷ 0 ∷ 0 ∷ 2 ∷ 1 ∷ 0 ∷ 120 ∷ 3 ∷ 6 ∷ 0 ∷ 1 ∷ 111 ∷ 2 ∷ 0 ∷ 2 ∷ 0 ∷ 5 ∷ 2 ∷ 0 ∷ 1 ∷ 109 ∷ [])
    ∷
    -- no bytes at all
    gives 2 0 ([])
    ∷
    -- a header that is cut
    gives 1 7 (1 ∷ 4 ∷ 0 ∷ 9 ∷ 0 ∷ 0 ∷ 0 ∷ 2 ∷ [])
    ∷
    -- an input before life
    gives 2 0 (2 ∷ 1 ∷ 0 ∷ 120 ∷ 1 ∷ 4 ∷ 0 ∷ 9 ∷ 0 ∷ 0 ∷ 0 ∷ 3 ∷ 4 ∷ 0 ∷ 1 ∷ 111 ∷ 2 ∷ 0 ∷ [])
    ∷
    -- a name byte out of range
    gives 4 7 (1 ∷ 4 ∷ 0 ∷ 9 ∷ 0 ∷ 0 ∷ 0 ∷ 2 ∷ 1 ∷ 0 ∷ 32 ∷ 3 ∷ 4 ∷ 0 ∷ 1 ∷ 111 ∷ 2 ∷ 0 ∷ [])
    ∷
    -- a name of 17 bytes
    gives 3 7 (1 ∷ 4 ∷ 0 ∷ 9 ∷ 0 ∷ 0 ∷ 0 ∷ 2 ∷ 17 ∷ 0 ∷ 97 ∷ 97 ∷ 97 ∷ 97 ∷ 97 ∷ 97 ∷ 97 ∷ 97 ∷ 97 ∷ 97 ∷ 97 ∷ 97 ∷ 97 ∷ 97 ∷ 97 ∷ 97 ∷ 97 ∷ 3 ∷ 4 ∷ 0 ∷ 1 ∷ 111 ∷ 2 ∷ 0 ∷ [])
    ∷
    -- 16 panes
    gives 0 0 (1 ∷ 4 ∷ 0 ∷ 9 ∷ 0 ∷ 0 ∷ 0 ∷ 2 ∷ 1 ∷ 0 ∷ 120 ∷ 4 ∷ 17 ∷ 0 ∷ 232 ∷ 3 ∷ 0 ∷ 0 ∷ 1 ∷ 119 ∷ 5 ∷ 0 ∷ 1 ∷ 128 ∷ 62 ∷ 0 ∷ 0 ∷ 0 ∷ 0 ∷ 0 ∷ 0 ∷ [])
    ∷
    -- 17 panes
    gives 5 11 (1 ∷ 4 ∷ 0 ∷ 9 ∷ 0 ∷ 0 ∷ 0 ∷ 2 ∷ 1 ∷ 0 ∷ 120 ∷ 4 ∷ 17 ∷ 0 ∷ 232 ∷ 3 ∷ 0 ∷ 0 ∷ 1 ∷ 119 ∷ 5 ∷ 0 ∷ 1 ∷ 104 ∷ 66 ∷ 0 ∷ 0 ∷ 0 ∷ 0 ∷ 0 ∷ 0 ∷ [])
    ∷
    -- two outputs that hold each other: a circle
    gives 7 39 (1 ∷ 4 ∷ 0 ∷ 9 ∷ 0 ∷ 0 ∷ 0 ∷ 2 ∷ 1 ∷ 0 ∷ 120 ∷ 3 ∷ 11 ∷ 0 ∷ 1 ∷ 97 ∷ 4 ∷ 2 ∷ 0 ∷ 0 ∷ 0 ∷ 0 ∷ 2 ∷ 0 ∷ 6 ∷ 3 ∷ 11 ∷ 0 ∷ 1 ∷ 98 ∷ 4 ∷ 1 ∷ 0 ∷ 0 ∷ 0 ∷ 0 ∷ 2 ∷ 0 ∷ 6 ∷ [])
    ∷
    -- a trigger on an input
    gives 5 18 (1 ∷ 4 ∷ 0 ∷ 9 ∷ 0 ∷ 0 ∷ 0 ∷ 2 ∷ 1 ∷ 0 ∷ 120 ∷ 3 ∷ 4 ∷ 0 ∷ 1 ∷ 111 ∷ 2 ∷ 0 ∷ 5 ∷ 2 ∷ 0 ∷ 0 ∷ 109 ∷ [])
    ∷
    -- sheets and dots over two seconds, and a lamp
    gives 0 0 (1 ∷ 4 ∷ 0 ∷ 232 ∷ 3 ∷ 0 ∷ 0 ∷ 2 ∷ 5 ∷ 0 ∷ 115 ∷ 104 ∷ 101 ∷ 101 ∷ 116 ∷ 2 ∷ 4 ∷ 0 ∷ 100 ∷ 111 ∷ 116 ∷ 115 ∷ 4 ∷ 45 ∷ 0 ∷ 232 ∷ 3 ∷ 0 ∷ 0 ∷ 5 ∷ 98 ∷ 108 ∷ 97 ∷ 110 ∷ 107 ∷ 1 ∷ 2 ∷ 0 ∷ 0 ∷ 0 ∷ 5 ∷ 0 ∷ 1 ∷ 208 ∷ 7 ∷ 0 ∷ 0 ∷ 0 ∷ 0 ∷ 0 ∷ 0 ∷ 9 ∷ 5 ∷ 1 ∷ 2 ∷ 208 ∷ 7 ∷ 0 ∷ 0 ∷ 1 ∷ 0 ∷ 0 ∷ 0 ∷ 1 ∷ 1 ∷ 0 ∷ 0 ∷ 0 ∷ 9 ∷ 8 ∷ 5 ∷ 11 ∷ 0 ∷ 2 ∷ 98 ∷ 108 ∷ 97 ∷ 110 ∷ 107 ∷ 32 ∷ 102 ∷ 101 ∷ 101 ∷ 100 ∷ [])
    ∷ []
