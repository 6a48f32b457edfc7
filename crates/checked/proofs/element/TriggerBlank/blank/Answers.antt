use Rattle.checked.proofs.element.TriggerBlank.blank.Goals as goal

pub returns : goal.returns
returns c = λ i. record { stream = 0; message = c.new.ensures i }
