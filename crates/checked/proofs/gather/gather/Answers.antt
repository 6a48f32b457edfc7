use Rattle.std.proofs.Common.{sym, ◌∙◌, arith}
use Rattle.std.proofs.lemmas.List.{length-map}
use Rattle.std.proofs.lemmas.Result.{err_from_is_err_and}
use Rattle.fixed.specs.Values.{values}
use Rattle.checked.specs.Gathering.{making}
use Rattle.checked.specs.Views.{output_of}
use Rattle.checked.proofs.Walking.{walk_ends, walk_more, walk_none, walk_room, walk_start, walk_stops}
use Rattle.checked.proofs.gather.gather.Goals as goal

pub loop-at-init : goal.loop-at-init
loop-at-init c = walk_start c.args.bytes.now (making c.new-gathered.result) c.new-gathered.ensures

pub returns-in_err-at : goal.returns-in_err-at
returns-in_err-at c =
    let p = err_from_is_err_and c.from_residual.result c.from_residual.ensures.1 in
    rw (p.1, p.2) (walk_stops _ _ _ c.loop-at.invariant _ (making c.field.new.self) c.loop-at-test.true c.in_err-at.ensures)

pub overflow_add-at : goal.overflow_add-at
overflow_add-at c =
    let room = walk_room _ _ _ c.loop-at.invariant c.in_ok-at.field-0 (making c.field.new.self) c.loop-at-test.true c.in_ok-at.ensures in
    omega (arith, room.0)

pub loop-at-smaller : goal.loop-at-smaller
loop-at-smaller c =
    let room = walk_room _ _ _ c.loop-at.invariant c.in_ok-at.field-0 (making c.field.new.self) c.loop-at-test.true c.in_ok-at.ensures in
    omega (arith, room.0, room.1)

pub loop-at-preserved : goal.loop-at-preserved
loop-at-preserved c = walk_more _ _ _ c.loop-at.invariant c.in_ok-at.field-0 (making c.field.new.self) c.loop-at-test.true c.in_ok-at.ensures

pub returns-then-len-eq0 : goal.returns-then-len-eq0
returns-then-len-eq0 c = rw c.at.ensures (walk_none _ _ _ c.loop-at.invariant c.len.result c.loop-at-test.false (c.len.ensures.count ∙ sym (length-map (values c.loop-at.gathered.parts.outputs) output_of)) c.if-len-eq0.true)

pub returns : goal.returns
returns c = walk_ends _ _ _ c.loop-at.invariant c.len.result c.loop-at-test.false (c.len.ensures.count ∙ sym (length-map (values c.loop-at.gathered.parts.outputs) output_of)) c.if-len-eq0.false
