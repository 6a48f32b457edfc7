use Rattle.std.proofs.Common.{rules}
use Rattle.fixed.proofs.Held.{push_held}
use Rattle.fixed.proofs.vec.FixedVec.push.Goals as goal

pub invariant_of-self : goal.invariant_of-self
invariant_of-self g c = let h = push_held c.args.self.now (search rules) c.args.value in record { few = h.few; long = h.long; behind = h.behind }
