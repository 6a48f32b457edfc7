use Rattle.tables.specs.Programs.{listed}
use Rattle.tables.specs.Tables.{ops_bytes}
use Rattle.table_writing.proofs.Writes.{Writing}
use Rattle.table_writing.proofs.ops.put_ops.Given as goal

abbrev pub invariant-loop-op : goal.invariant-loop-op
invariant-loop-op l = Writing l.fn.out (ops_bytes (listed l.program)) l.out (ops_bytes l.op-iterator.rest.now)
