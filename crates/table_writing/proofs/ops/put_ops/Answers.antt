use Rattle.std.proofs.Common.{◌≡◌, ◌∷◌, subst, ap, rules}
use Rattle.tables.specs.Programs.{listed}
use Rattle.tables.specs.Tables.{op_bytes, ops_bytes}
use Rattle.table_writing.proofs.Writes.{Writing, writing_more}
use Rattle.table_writing.proofs.ops.put_ops.Goals as goal

pub loop-op-preserved : goal.loop-op-preserved
loop-op-preserved c =
    let rest = c.next.new.self.rest.now in
    let here : c.loop-op.op-iterator.rest.now ≡ c.in-Some.op.now ∷ rest = search rules in
    writing_more _ _ c.loop-op.out (op_bytes c.in-Some.op.now) (ops_bytes rest) c.put_op.new.out (subst (Writing c.args.out.now (ops_bytes (listed c.args.program.now)) c.loop-op.out) (ap ops_bytes here) c.loop-op.invariant) c.put_op.ensures
