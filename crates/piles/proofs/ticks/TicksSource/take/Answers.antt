use Rattle.std.proofs.Common.{arith}
use Rattle.piles.proofs.Ticked.{ticked}
use Rattle.piles.proofs.ticks.TicksSource.take.Goals as goal

pub returns-clause-took : goal.returns-clause-took
returns-clause-took c = ticked _ _ _ (omega arith)
