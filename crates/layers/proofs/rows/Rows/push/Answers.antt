use Rattle.std.proofs.Common.{◌<◌, rules}
use Rattle.layers.proofs.Storing.{held_push}
use Rattle.layers.proofs.rows.Rows.push.Goals as goal

pub returns-clause-pushes : goal.returns-clause-pushes
returns-clause-pushes g c =
    let r = c.args.self.now in
    let free : r.used < g.row.N = search rules in
    rw c.row.ensures (held_push g.row.N r.rows r.used c.args.item r.long free)
