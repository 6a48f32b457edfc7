use Rattle.std.proofs.Common.{length}
use Rattle.sources.specs.Logs.{log, read_from}
use Rattle.log_laws.proofs.Counting.{Counting}
use Rattle.cases.proofs.logs.Log.read.Given as goal

-- the items so far are counted, and the others are left
abbrev pub invariant-loop-end : goal.invariant-loop-end
invariant-loop-end l = Counting (log l.bytes) l.items (read_from l.reader.at l.reader.bytes.now)

abbrev pub decreases-loop-end : goal.decreases-loop-end
decreases-loop-end l = length (read_from l.reader.at l.reader.bytes.now).waits
