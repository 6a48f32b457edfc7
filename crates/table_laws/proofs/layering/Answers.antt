use Rattle.table_laws.proofs.Acceptance.{circle_law, layers_law}
use Rattle.table_laws.proofs.layering.Goals as goal

pub returns : goal.returns
returns c = record { layers = layers_law; circles = circle_law }
