use Rattle.records.proofs.Folding.{keeps_all}
use Rattle.records.proofs.recalling.Goals as goal
use Rattle.records.proofs.Remembering.{recalls_all, wakes}

pub returns : goal.returns
returns c = record { entries = recalls_all; active = wakes; partials = keeps_all }
