-- Bytes written into a lent buffer.
use Rattle.std.specs.Prelude.{◌≡◌, ℕ, ◌+◌, ◌-◌, ◌≤◌, cond, List, ◌∷◌, ◌++◌, length, take, drop, Ok, Err, Result, nat_le}
use Rattle.frames.specs.Frames.{low_first}
use Rattle.tables.specs.declared.field.Tag.{Tag}
use Rattle.tables.specs.declared.flaw.Refused.{Refused}
use Rattle.tables.specs.Tables.{Refusal, read, refuse}
use Rattle.tables.specs.Tags.{tag_number}
use Rattle.checked.specs.declared.table.Table.{Table}
use Rattle.checked.specs.Checking as checking
use Rattle.checked.specs.Gathering.{refusal_of}
use Rattle.table_writing.specs.declared.writer.Writer.{Writer}

-- the bytes that are written in a buffer, and those behind them
pub record Halves : Type 0 where
  pub done : List ℕ
  pub rest : List ℕ

abbrev pub halves : (at : ℕ) → (buffer : List ℕ) → Halves
halves at buffer = record { done = take at buffer; rest = drop at buffer }

-- with bytes behind the others
abbrev pub with_more : List ℕ → Halves → Halves
with_more bytes h = record { done = h.done ++ bytes; rest = drop (length bytes) h.rest }

-- with a header over the three bytes at a place
abbrev pub headed : (start : ℕ) → Tag → Halves → Halves
headed start tag h = record { done = take start h.done ++ ((tag_number tag ∷ low_first 2 (length h.done - (start + 3))) ++ drop (start + 3) h.done); rest = h.rest }

-- there is room for some bytes
abbrev pub Fits : List ℕ → Writer → Type 0
Fits bytes out = out.at + length bytes ≤ length out.buffer.now

-- bytes were written behind the others
pub record Wrote (bytes : List ℕ) (before now : Writer) : Type 0 where
  pub put : halves now.at now.buffer.now ≡ with_more bytes (halves before.at before.buffer.now)
  pub long : length now.buffer.now ≡ length before.buffer.now
  pub ends : now.at ≡ before.at + length bytes
  pub same : now.buffer.ghost_name ≡ before.buffer.ghost_name

-- a header was written over the three bytes at a place
pub record Headed (start : ℕ) (tag : Tag) (before now : Writer) : Type 0 where
  pub put : halves now.at now.buffer.now ≡ headed start tag (halves before.at before.buffer.now)
  pub long : length now.buffer.now ≡ length before.buffer.now
  pub ends : now.at ≡ before.at
  pub same : now.buffer.ghost_name ≡ before.buffer.ghost_name

-- the answer to writing, and the buffer then: the length, and the bytes at the buffer's start; or 8 at place 0, and nothing is written
abbrev pub put : List ℕ → List ℕ → Result ℕ Refusal × List ℕ
put bytes buffer = cond (nat_le (length bytes) (length buffer)) (Ok (length bytes), bytes ++ drop (length bytes) buffer) (refuse 8 0, buffer)

-- an answer by the number and the place of a refusal
abbrev pub told : Result ℕ Refused → Result ℕ Refusal
told (Ok n) = Ok n
told (Err e) = Err (refusal_of e)

-- whoever reads what was written gets this very table, with its plan
abbrev pub ReadsBack : Table → Result ℕ Refused → (buffer : List ℕ) → Type 0
ReadsBack t (Ok n) buffer = (answer : Result Table Refused) → checking.told answer ≡ read (take n buffer) → answer ≡ Ok t
ReadsBack t (Err e) buffer = Unit {0}
