use Rattle.std.proofs.Common.{◌+◌, length, ap, refl, rules, arith}
use Rattle.std.proofs.lemmas.Result.{err_from_is_err_and}
use Rattle.fixed.specs.Values.{values}
use Rattle.tables.proofs.Operations.{length_more, work_stops, work_more}
use Rattle.tables.proofs.op.Program.read.Goals as goal

pub loop-rest-init : goal.loop-rest-init
loop-rest-init c = rw c.new-ops.ensures (record { few = omega arith; same = refl })

pub returns-in_err-op : goal.returns-in_err-op
returns-in_err-op c =
    let p = err_from_is_err_and c.from_residual.result c.from_residual.ensures.1 in
    rw (p.1, p.2) (work_stops _ _ _ _ _ c.loop-rest.invariant (search rules) (search rules) _ c.in_err-op.ensures)

pub loop-rest-smaller : goal.loop-rest-smaller
loop-rest-smaller c = omega (arith, ap length c.push.ensures.pushes, length_more c.in_ok-op.op (values c.loop-rest.ops) (search rules))

pub loop-rest-preserved : goal.loop-rest-preserved
loop-rest-preserved c =
    work_more _ _ _ _ _ c.loop-rest.invariant (search rules) (search rules) c.in_ok-op.op c.in_ok-op.left.now _ _ c.in_ok-op.ensures
    c.push.ensures.pushes (ap (λ n. c.loop-rest.windows + n) c.windows-windows.ensures)
