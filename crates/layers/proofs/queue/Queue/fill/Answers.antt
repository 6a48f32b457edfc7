use Rattle.std.proofs.Common.{◌≡◌, ◌-◌, ◌<◌, min, length, ◌∙◌, rules, arith}
use Rattle.layers.specs.Rows.{held}
use Rattle.layers.proofs.Queueing.{moving_dry, moving_full, moving_long, moving_more, moving_none}
use Rattle.layers.proofs.Storing.{pushed_free}
use Rattle.layers.proofs.queue.Queue.fill.Goals as goal

pub loop-moved-init : goal.loop-moved-init
loop-moved-init g c = moving_none _ _ _

pub loop-moved-preserved : goal.loop-moved-preserved
loop-moved-preserved g c =
    let before = c.args.self.now.own in
    let own = c.loop-moved.self.own in
    let most : c.min-most.result ≡ min c.args.n (64 - length (held before.rows before.used)) = search rules in
    let more : c.loop-moved.moved < c.min-most.result = c.loop-moved-test.true in
    let free : length (held own.rows own.used) < 64 = omega (arith, moving_long c.loop-moved.invariant, most, more) in
    moving_more c.loop-moved.invariant (held c.push.new.self.rows c.push.new.self.used) _ c.in-Ok.ensures.took c.in-Ok.ensures.gave (c.push.ensures.pushes ∙ pushed_free 64 c.take.new.place (held own.rows own.used) free)

pub returns-in-Err-clause-filled : goal.returns-in-Err-clause-filled
returns-in-Err-clause-filled g c =
    let before = c.args.self.now.own in
    let more : c.loop-moved.moved < min c.args.n (64 - length (held before.rows before.used)) = search rules in
    moving_dry c.loop-moved.invariant c.in-Err.field-0 _ c.args.n more c.in-Err.ensures.took c.in-Err.ensures.gave

pub returns-clause-filled : goal.returns-clause-filled
returns-clause-filled g c =
    let before = c.args.self.now.own in
    let all : c.loop-moved.moved ≡ c.min-most.result = omega arith in
    let most : c.min-most.result ≡ min c.args.n (64 - length (held before.rows before.used)) = search rules in
    moving_full c.loop-moved.invariant c.args.n c.min-most.result all most
