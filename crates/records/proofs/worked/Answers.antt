use Rattle.std.proofs.Common.{refl}
use Rattle.items.specs.Items.{mark_of, reading_of}
use Rattle.items.specs.Values.{cut}
use Rattle.tables.specs.Layers.{layer_in}
use Rattle.records.proofs.worked.Goals as goal

pub returns : goal.returns
unfolding mark_of reading_of cut layer_in
returns c = refl
