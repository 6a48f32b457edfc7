use Rattle.checked.proofs.Rights.{right}
use Rattle.checked.proofs.table.Table.read.Goals as goal

pub returns : goal.returns
returns c = record { value = c.from_bytes.ensures; right = right c.args.bytes.now (λ i. (c.type_inv.bytes i).fits) _ c.from_bytes.ensures }
