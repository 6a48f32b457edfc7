use Rattle.std.proofs.Common.{drop, map}
use Rattle.tables.specs.Tables.{fields_bytes}
use Rattle.table_writing.proofs.Writes.{Writing}
use Rattle.table_writing.proofs.fields.put_fields.Given as goal

abbrev pub invariant-loop-field : goal.invariant-loop-field
invariant-loop-field g l = Writing l.fn.out (fields_bytes (map g.T.Content.said l.fields)) l.out (fields_bytes (map g.T.Content.said (drop l.field-index l.fields)))
