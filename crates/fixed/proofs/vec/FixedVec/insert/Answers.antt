use Rattle.std.proofs.Common.{◌<◌, length, rules}
use Rattle.fixed.specs.Values.{values}
use Rattle.fixed.proofs.Held.{turned_held, turned_seen}
use Rattle.fixed.proofs.vec.FixedVec.insert.Goals as goal

pub invariant_of-self : goal.invariant_of-self
invariant_of-self g c =
    let room : length (values c.args.self.now) < g.row.N = search rules in
    let h = turned_held c.args.self.now c.push.new.self c.args.value room c.in_ok-push.ensures.pushes c.args.at c.min-at.result c.min-at.ensures _ c.rotate_right.ensures.after in
    record { few = h.few; long = h.long; behind = h.behind }

pub returns-clause-inserts : goal.returns-clause-inserts
returns-clause-inserts g c =
    let room : length (values c.args.self.now) < g.row.N = search rules in
    turned_seen c.args.self.now c.push.new.self c.args.value room c.in_ok-push.ensures.pushes c.args.at c.min-at.result c.min-at.ensures _ c.rotate_right.ensures.after
