-- The parts of an entry that are known before any output has a value, and bits.
use Rattle.std.specs.Prelude.{◌≡◌, ℕ, ◌+◌, ◌*◌, ◌^◌, ◌<◌, Bool, true, false, cond, List, [], ◌∷◌, length, ℤ}
use Rattle.std.specs.Int.Signed.{mag}
use Rattle.std.specs.List.{AllByRecursion}
use Rattle.records.specs.declared.entry.Entry.{Entry}
use Rattle.records.specs.declared.entry.Letter.{Letter}
use Rattle.records.specs.declared.entry.Letter.TheVariants.{R, D, L, S}

-- a letter as a character's code
abbrev pub sign : Letter → ℕ
sign R = 82
sign D = 68
sign L = 76
sign S = 83

-- a frame is an entry without the values of its outputs and without its trigger bits
pub record Frame : Type 0 where
  pub letter : Letter
  pub time : ℕ
  pub mask : ℕ
  pub inputs : List ℤ
  pub active : ℕ

-- the frame of an entry
abbrev pub frame_of : Entry → Frame
frame_of e = record { letter = e.letter; time = e.time; mask = e.mask; inputs = e.inputs; active = e.active }

-- the number whose bit i is set where the test at place i is true
abbrev pub bits : List Bool → ℕ
bits [] = 0
bits (b ∷ bs) = cond b 1 0 + 2 * bits bs

-- a reading whose cycle ran
abbrev pub is_R : Letter → Bool
is_R R = true
is_R D = false
is_R L = false
is_R S = false

-- an entry that the struct has room for
pub record Fits (e : Entry) : Type 0 where
  pub time_fits : e.time < 2 ^ 40
  pub mask_fits : e.mask < 2 ^ 8
  pub inputs_long : length e.inputs ≡ 8
  pub inputs_fit : AllByRecursion (λ v. mag v < 2 ^ 31) e.inputs
  pub active_fits : e.active < 2 ^ 16
  pub values_long : length e.values ≡ 16
  pub values_fit : AllByRecursion (λ v. mag v < 2 ^ 31) e.values
  pub lit_fits : e.lit < 2 ^ 8
