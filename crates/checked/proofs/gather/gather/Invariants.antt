use Rattle.std.proofs.Common.{◌-◌, length}
use Rattle.checked.specs.Gathering.{making}
use Rattle.checked.proofs.Walking.{Walking}
use Rattle.checked.proofs.gather.gather.Given as goal

abbrev pub invariant-loop-at : goal.invariant-loop-at
invariant-loop-at l = Walking l.bytes l.at (making l.gathered)

abbrev pub decreases-loop-at : goal.decreases-loop-at
decreases-loop-at l = length l.bytes - l.at
