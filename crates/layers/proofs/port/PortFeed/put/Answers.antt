use Rattle.std.proofs.Common.{ap, ◌∙◌, arith}
use Rattle.layers.specs.Layers.{port}
use Rattle.layers.specs.Rows.{held}
use Rattle.layers.proofs.Storing.{held_long, port_put}
use Rattle.layers.proofs.port.PortFeed.put.Goals as goal

pub returns-clause-appends : goal.returns-clause-appends
returns-clause-appends c =
    let r = c.args.self.now.waits in
    ap port c.push.ensures.pushes ∙ port_put c.args.item (held r.rows r.used) (omega (arith, held_long r.rows r.used (omega (arith, r.within, r.long)), r.within))
