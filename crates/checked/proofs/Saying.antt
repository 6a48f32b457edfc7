-- What the parts of a table say, by count and by place.
use Rattle.std.proofs.Common.{◌≡◌, ℕ, ◌<◌, ◌≤◌, length, get_or, arith}
use Rattle.std.proofs.lemmas.List.{get_or-map, get_or_past, length-map}
use Rattle.fixed.specs.Values.{values}
use Rattle.tables.specs.Rules.{nothing, output_at}
use Rattle.checked.specs.declared.element.Output.{Output}
use Rattle.checked.specs.declared.parts.Parts.{Parts}
use Rattle.checked.specs.Views.{output_of, said}

module _ (p : Parts) where
  pub inputs_said : length (said p).inputs ≡ length (values p.inputs)
  inputs_said = length-map (values p.inputs) values

  pub outputs_said : length (said p).outputs ≡ length (values p.outputs)
  outputs_said = length-map (values p.outputs) output_of

  pub output_said : (a : ℕ) (d : Output) → a < length (values p.outputs) → output_at (said p) a ≡ output_of (get_or (values p.outputs) a d)
  output_said a d there = get_or-map output_of (values p.outputs) a d nothing there

  pub no_output_said : (a : ℕ) → length (values p.outputs) ≤ a → output_at (said p) a ≡ nothing
  no_output_said a past = get_or_past (said p).outputs a nothing (omega (arith, outputs_said))
