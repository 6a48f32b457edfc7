use Rattle.std.proofs.Common.{◌≡◌, ◌+◌, ◌-◌, ◌*◌, ◌≤◌, length}
use Rattle.tables.specs.Layers.{greatest, layer}
use Rattle.tables.specs.Rules.{asked, reads}
use Rattle.checked.specs.Views.{said}
use Rattle.checked.proofs.parts.Parts.+operation_layer_output_layer.Given as goal

abbrev pub decreases-operation_layer : goal.decreases-operation_layer
decreases-operation_layer l = 2 * l.depth + 1

abbrev pub decreases-output_layer : goal.decreases-output_layer
decreases-output_layer l = 2 * l.depth

abbrev pub invariant-output_layer-loop-op : goal.invariant-output_layer-loop-op
invariant-output_layer-loop-op l =
    (greatest (layer (reads (said l.self)) (l.depth - 1)) (asked (length (said l.self).inputs) l.output l.op-iterator.rest.now) l.top ≡ greatest (layer (reads (said l.self)) (l.depth - 1)) (reads (said l.self) l.output) 0)
    × (l.top ≤ l.depth - 1)
