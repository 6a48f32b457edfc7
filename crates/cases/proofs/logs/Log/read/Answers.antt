use Rattle.std.proofs.Common.{rules}
use Rattle.sources.proofs.Fields.{few_items}
use Rattle.cases.proofs.logs.Log.read.Goals as goal

-- a log has no more items than bytes
pub overflow_add-items : goal.overflow_add-items
overflow_add-items c =
    let few = few_items 0 0 c.args.bytes.now in
    search rules
