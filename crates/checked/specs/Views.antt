-- What the parts of a table say, wherever they lie.
use Rattle.std.specs.Prelude.{map}
use Rattle.fixed.specs.Values.{values}
use Rattle.tables.specs.Kinds as kinds
use Rattle.tables.specs.Programs.{listed}
use Rattle.checked.specs.declared.element.Output.{Output}
use Rattle.checked.specs.declared.element.Trigger.{Trigger}
use Rattle.checked.specs.declared.parts.Parts.{Parts}

abbrev pub output_of : Output → kinds.Output
output_of o = record { pace = o.pace; name = values o.name; ops = listed o.program }

abbrev pub trigger_of : Trigger → kinds.Trigger
trigger_of g = record { stream = g.stream; message = values g.message }

-- the table that the parts say
abbrev pub said : Parts → kinds.Table
said p = record {
  life = p.life;
  inputs = map values (values p.inputs);
  outputs = map output_of (values p.outputs);
  triggers = map trigger_of (values p.triggers);
}
