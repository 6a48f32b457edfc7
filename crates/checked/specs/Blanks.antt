-- What fills the places of a table's vectors that hold nothing.
use Rattle.aggregates.specs.declared.kind.Kind.TheVariants.{Count}
use Rattle.fixed.specs.Values.{empty}
use Rattle.tables.specs.declared.op.Pace.TheVariants.{Event}
use Rattle.checked.specs.declared.element.Output.{Output}
use Rattle.checked.specs.declared.element.Trigger.{Trigger}
use Rattle.checked.specs.declared.plan.Window.{Window}

abbrev pub blank_output : Output
blank_output = record { pace = Event; name = empty; program = record { ops = empty } }

abbrev pub blank_trigger : Trigger
blank_trigger = record { stream = 0; message = empty }

abbrev pub blank_window : Window
blank_window = record { output = 0; stream = 0; kind = Count; duration = 0 }
