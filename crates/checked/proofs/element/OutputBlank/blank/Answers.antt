use Rattle.tables.specs.declared.op.Pace.TheVariants.{Event}
use Rattle.checked.proofs.element.OutputBlank.blank.Goals as goal

pub returns : goal.returns
returns c = λ i. record { pace = Event; name = c.new.ensures i; program = record { ops = c.new-2.ensures i } }
