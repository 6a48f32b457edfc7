use Rattle.layers.proofs.Queueing.{gave_own}
use Rattle.layers.proofs.queue.QueueSource.take.Goals as goal

pub returns-in-Some-clause-gave : goal.returns-in-Some-clause-gave
returns-in-Some-clause-gave g c = gave_own _ _ (g.S.Source.meaning c.args.self.now.below) _ c.pop_front.ensures.drops
