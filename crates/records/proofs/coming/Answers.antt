use Rattle.records.proofs.coming.Goals as goal
use Rattle.records.proofs.Nexts.{comings}

pub returns : goal.returns
returns c = comings
