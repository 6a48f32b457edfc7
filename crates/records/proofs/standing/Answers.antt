use Rattle.records.proofs.Going.{standings}
use Rattle.records.proofs.standing.Goals as goal

pub returns : goal.returns
returns c = standings
