use Rattle.aggregates.proofs.Picks.{min_least, max_greatest}
use Rattle.aggregates.proofs.kind.extremes.Goals as goal

pub returns : goal.returns
returns c = record { least = min_least; greatest = max_greatest }
