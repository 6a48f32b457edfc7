use Rattle.tables.specs.Layers.{layer_in}
use Rattle.checked.proofs.parts.Parts.layer_of.Goals as goal

pub returns : goal.returns
unfolding layer_in
returns c = c.output_layer.ensures.value
