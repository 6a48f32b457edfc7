use Rattle.layers.specs.Rows.{held}
use Rattle.layers.proofs.Queueing.{Moving}
use Rattle.layers.proofs.queue.Queue.fill.Given as goal

abbrev pub invariant-loop-moved : goal.invariant-loop-moved
invariant-loop-moved g l =
    let before = l.initial.self in
    Moving (held before.own.rows before.own.used) (g.S.Source.meaning before.below) (g.S.Source.queues before.below) l.moved (held l.self.own.rows l.self.own.used) (g.S.Source.meaning l.self.below) (g.S.Source.queues l.self.below)
