use Rattle.std.proofs.Common.{refl}
use Rattle.std.specs.Int.{int_wrap}
use Rattle.aggregates.proofs.kind.worked.Goals as goal

pub returns : goal.returns
unfolding int_wrap
returns c = refl
