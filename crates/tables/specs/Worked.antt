-- Worked cases as one table, and the test that each of them passes; lawful contents with what they say.
use Rattle.std.specs.Prelude.{◌≡◌, ℕ, zero, suc, Bool, true, false, ◌&&◌, List, [], ◌∷◌, ◌++◌, pos, negsuc, Ok, Err, Result, ◌==◌}
use Rattle.aggregates.specs.declared.kind.Kind.TheVariants as kind
use Rattle.tables.specs.declared.op.Op.TheVariants.{Number, Past, Held, Window, Choose}
use Rattle.tables.specs.declared.op.Pace.TheVariants.{Event, Every}
use Rattle.tables.specs.Kinds.{Said, input, life, output, trigger}
use Rattle.tables.specs.Reading.{content}

-- a content under a tag, with as many windows before it: refused with a number, or accepted
pub data Case : Type 0 where
  refuses : ℕ → ℕ → List ℕ → ℕ → Case
  accepts : ℕ → ℕ → List ℕ → Case

-- refused with the number
abbrev refused_with : Result Said ℕ → ℕ → Bool
refused_with (Ok f) n = false
refused_with (Err e) n = e == n

abbrev accepted : Result Said ℕ → Bool
accepted (Ok f) = true
accepted (Err e) = false

-- what the case says is so
abbrev pub passes : Case → Bool
passes (refuses tag w bytes n) = refused_with (content tag w bytes) n
passes (accepts tag w bytes) = accepted (content tag w bytes)

abbrev pub all_pass : List Case → Bool
all_pass [] = true
all_pass (c ∷ cs) = passes c && all_pass cs

-- the bytes, so many times
abbrev repeated : ℕ → List ℕ → List ℕ
repeated zero bytes = []
repeated (suc n) bytes = bytes ++ repeated n bytes

abbrev pub worked_cases : List Case
worked_cases =
    -- the life: 0, 0 with a fifth byte, a lawful one with a fifth byte, a cut one, the greatest, and one more
    refuses 1 0 (0 ∷ 0 ∷ 0 ∷ 0 ∷ []) 4
    ∷ refuses 1 0 (0 ∷ 0 ∷ 0 ∷ 0 ∷ 9 ∷ []) 4
    ∷ refuses 1 0 (1 ∷ 0 ∷ 0 ∷ 0 ∷ 9 ∷ []) 3
    ∷ refuses 1 0 (1 ∷ 0 ∷ 0 ∷ []) 3
    ∷ accepts 1 0 (0 ∷ 148 ∷ 53 ∷ 119 ∷ [])
    ∷ refuses 1 0 (1 ∷ 148 ∷ 53 ∷ 119 ∷ []) 4
    -- the name of an input: none, 16 bytes, a 17th whatever it is, and bytes out of range
    ∷ refuses 2 0 [] 3
    ∷ accepts 2 0 (repeated 16 (33 ∷ []))
    ∷ refuses 2 0 (repeated 16 (33 ∷ []) ++ (0 ∷ [])) 3
    ∷ refuses 2 0 (repeated 17 (33 ∷ [])) 3
    ∷ refuses 2 0 (97 ∷ 32 ∷ []) 4
    ∷ refuses 2 0 (127 ∷ []) 4
    -- a message: none, no stream either, 32 bytes, a 33rd, and a byte out of range
    ∷ refuses 5 0 (1 ∷ []) 3
    ∷ refuses 5 0 [] 3
    ∷ accepts 5 0 (1 ∷ repeated 32 (32 ∷ []))
    ∷ refuses 5 0 (1 ∷ repeated 33 (32 ∷ [])) 3
    ∷ refuses 5 0 (1 ∷ 31 ∷ []) 4
    -- the period of an output: 0, cut, the greatest, and one more
    ∷ refuses 4 0 (0 ∷ 0 ∷ 0 ∷ 0 ∷ 1 ∷ 120 ∷ 2 ∷ 0 ∷ []) 4
    ∷ refuses 4 0 (1 ∷ 0 ∷ 0 ∷ []) 3
    ∷ accepts 4 0 (0 ∷ 92 ∷ 38 ∷ 5 ∷ 1 ∷ 120 ∷ 2 ∷ 0 ∷ [])
    ∷ refuses 4 0 (1 ∷ 92 ∷ 38 ∷ 5 ∷ 1 ∷ 120 ∷ 2 ∷ 0 ∷ []) 4
    -- the name of an output: a length of 0, of 17 and none; a cut name, with a byte out of range before that or not
    ∷ refuses 3 0 (0 ∷ 2 ∷ 0 ∷ []) 4
    ∷ refuses 3 0 (17 ∷ repeated 17 (120 ∷ [])) 4
    ∷ refuses 3 0 [] 3
    ∷ refuses 3 0 (3 ∷ 120 ∷ 32 ∷ []) 4
    ∷ refuses 3 0 (3 ∷ 120 ∷ 120 ∷ []) 3
    -- operations: none, unknown codes, a 17th whatever its code, a cut number
    ∷ refuses 3 0 (1 ∷ 120 ∷ []) 3
    ∷ refuses 3 0 (1 ∷ 120 ∷ 0 ∷ []) 4
    ∷ refuses 3 0 (1 ∷ 120 ∷ 12 ∷ []) 4
    ∷ refuses 3 0 (1 ∷ 120 ∷ repeated 16 (2 ∷ 0 ∷ []) ++ (99 ∷ [])) 3
    ∷ refuses 3 0 (1 ∷ 120 ∷ 1 ∷ 0 ∷ 0 ∷ 0 ∷ []) 3
    -- how far back: 9 and 0 where the default is cut, and 8 where it is cut
    ∷ refuses 3 0 (1 ∷ 120 ∷ 3 ∷ 0 ∷ 9 ∷ 0 ∷ []) 4
    ∷ refuses 3 0 (1 ∷ 120 ∷ 3 ∷ 0 ∷ 0 ∷ 0 ∷ []) 4
    ∷ refuses 3 0 (1 ∷ 120 ∷ 3 ∷ 0 ∷ 8 ∷ 0 ∷ []) 3
    -- windows: the ninth at its code, the eighth cut after it, a ninth in one field, and aggregates that no kind has
    ∷ refuses 3 8 (1 ∷ 120 ∷ 5 ∷ []) 4
    ∷ refuses 3 7 (1 ∷ 120 ∷ 5 ∷ []) 3
    ∷ refuses 3 0 (1 ∷ 120 ∷ repeated 8 (5 ∷ 0 ∷ 1 ∷ repeated 8 (0 ∷ [])) ++ (5 ∷ [])) 4
    ∷ refuses 3 255 (1 ∷ 120 ∷ 5 ∷ []) 4
    ∷ accepts 3 255 (1 ∷ 120 ∷ 2 ∷ 0 ∷ [])
    ∷ refuses 3 0 (1 ∷ 120 ∷ 5 ∷ 0 ∷ 0 ∷ []) 4
    ∷ refuses 3 0 (1 ∷ 120 ∷ 5 ∷ 0 ∷ 6 ∷ []) 4
    -- the stack: a missing value, a ninth value, eight values, two that are left
    ∷ refuses 3 0 (1 ∷ 120 ∷ 6 ∷ []) 6
    ∷ refuses 3 0 (1 ∷ 120 ∷ 2 ∷ 0 ∷ 2 ∷ 0 ∷ 11 ∷ []) 6
    ∷ refuses 3 0 (1 ∷ 120 ∷ repeated 9 (2 ∷ 0 ∷ []) ++ (6 ∷ [])) 6
    ∷ accepts 3 0 (1 ∷ 120 ∷ repeated 8 (2 ∷ 0 ∷ []) ++ repeated 7 (6 ∷ []))
    ∷ refuses 3 0 (1 ∷ 120 ∷ 2 ∷ 0 ∷ 2 ∷ 0 ∷ []) 6
    -- tags that no field has
    ∷ refuses 0 0 [] 2
    ∷ refuses 6 0 [] 2
    ∷ []

-- one lawful content of each tag; negsuc n is -(n + 1)
pub record Lawful : Type 0 where
  pub of_life : content 1 0 (0 ∷ 148 ∷ 53 ∷ 119 ∷ []) ≡ Ok (life 2000000000)
  pub of_input : content 2 0 (97 ∷ 98 ∷ []) ≡ Ok (input (97 ∷ 98 ∷ []))
  pub of_event : content 3 0 (1 ∷ 120 ∷ 1 ∷ 254 ∷ 255 ∷ 255 ∷ 255 ∷ []) ≡ Ok (output (record { pace = Event; name = 120 ∷ []; ops = Number (negsuc 1) ∷ [] }))
  pub of_period : content 4 0 (232 ∷ 3 ∷ 0 ∷ 0 ∷ 1 ∷ 120 ∷ 3 ∷ 0 ∷ 8 ∷ 5 ∷ 0 ∷ 0 ∷ 0 ∷ 4 ∷ 1 ∷ 0 ∷ 0 ∷ 0 ∷ 128 ∷ 5 ∷ 2 ∷ 3 ∷ 255 ∷ 255 ∷ 255 ∷ 255 ∷ 6 ∷ 0 ∷ 0 ∷ 0 ∷ 11 ∷ [])
      ≡ Ok (output (record { pace = Every 1000; name = 120 ∷ []; ops = Past 0 8 (pos 5) ∷ Held 1 (negsuc 2147483647) ∷ Window 2 kind.Smallest 4294967295 (pos 6) ∷ Choose ∷ [] }))
  pub of_trigger : content 5 0 (2 ∷ 104 ∷ 105 ∷ []) ≡ Ok (trigger (record { stream = 2; message = 104 ∷ 105 ∷ [] }))
