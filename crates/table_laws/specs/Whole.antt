-- What makes a single field whole.
use Rattle.std.specs.Prelude.{ℕ, Bool}
use Rattle.tables.specs.Kinds.{Said, input, life, output, trigger}
use Rattle.tables.specs.Reading.{within}
use Rattle.tables.specs.Sound.{is_output, is_text, is_trigger}
use Rattle.tables.specs.Tables.{windows_of}

-- its parts are in range, and its operations keep the stack rule
abbrev pub is_field : Said → Bool
is_field (life n) = within 1 2000000000 n
is_field (input s) = is_text 33 16 s
is_field (output o) = is_output o
is_field (trigger g) = is_trigger g

-- how many windows stand in it
abbrev pub windows_in_field : Said → ℕ
windows_in_field (life n) = 0
windows_in_field (input s) = 0
windows_in_field (output o) = windows_of o.ops
windows_in_field (trigger g) = 0
