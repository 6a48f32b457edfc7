use Rattle.std.proofs.Common.{◌-◌, length}
use Rattle.fixed.specs.Values.{values}
use Rattle.tables.proofs.Operations.{Working}
use Rattle.tables.proofs.op.Program.read.Given as goal

abbrev pub invariant-loop-rest : goal.invariant-loop-rest
invariant-loop-rest l = Working l.fn.bytes l.fn.windows (values l.ops) l.rest l.windows

abbrev pub decreases-loop-rest : goal.decreases-loop-rest
decreases-loop-rest l = 16 - length (values l.ops)
