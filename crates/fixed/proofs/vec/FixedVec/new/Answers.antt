use Rattle.std.proofs.Common.{refl}
use Rattle.fixed.specs.Values.{empty}
use Rattle.fixed.proofs.Same.{same_values}
use Rattle.fixed.proofs.vec.FixedVec.new.Goals as goal

pub returns : goal.returns
returns g c = same_values g.row.T.coded _ empty refl
