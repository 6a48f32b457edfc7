use Rattle.std.proofs.Common.{◌≡◌, ◌+◌, ◌-◌, ◌≤◌, [], ◌∷◌, length, Some, None, sym, ap, ◌∙◌, rules, arith}
use Rattle.std.proofs.lemmas.List.{drop_all}
use Rattle.fixed.specs.Values.{values}
use Rattle.tables.specs.Layers.{greatest, layer, then}
use Rattle.tables.specs.Rules.{asked, asks, reads}
use Rattle.checked.specs.Views.{said}
use Rattle.checked.proofs.Deeper.{deeper, greatest_stops, past_layer}
use Rattle.checked.proofs.parts.Parts.+operation_layer_output_layer.Goals as goal

pub output_layer-returns-clause-value : goal.output_layer-returns-clause-value
output_layer-returns-clause-value t c =
    let p = c.args.self.now in
    let a = c.args.output in
    let f = layer (reads (said p)) (c.args.depth - 1) in
    let none : c.loop-op.op-iterator.rest.now ≡ [] = drop_all 0 c.loop-op.op-iterator.rest.now (omega (arith, c.in-None.ensures.steps.0)) in
    let all : Some c.loop-op.top ≡ greatest f (reads (said p) a) 0 = ap (λ os. greatest f (asked (length (said p).inputs) a os) c.loop-op.top) (sym none) ∙ c.loop-op.invariant.0 in
    ap (λ o. then o (λ n. Some (n + 1))) all ∙ sym (deeper (reads (said p)) c.args.depth a (omega arith))

pub output_layer-returns-in_default-clause-value : goal.output_layer-returns-in_default-clause-value
output_layer-returns-in_default-clause-value t c =
    let past : length (values c.args.self.now.outputs) ≤ c.args.output = search rules in
    sym (past_layer c.args.self.now c.args.depth c.args.output (omega arith) past)

pub output_layer-returns-in_err-operation_layer-clause-value : goal.output_layer-returns-in_err-operation_layer-clause-value
output_layer-returns-in_err-operation_layer-clause-value t c =
    let p = c.args.self.now in
    let a = c.args.output in
    let f = layer (reads (said p)) (c.args.depth - 1) in
    let op = c.in-Some-op.op.now in
    let left = c.next.new.self.rest.now in
    let here : c.loop-op.op-iterator.rest.now ≡ op ∷ left = search rules in
    let none : greatest f (reads (said p) a) 0 ≡ None =
    sym c.loop-op.invariant.0
    ∙ ap (λ os. greatest f (asked (length (said p).inputs) a os) c.loop-op.top) here
    ∙ greatest_stops f (asks (length (said p).inputs) a op) (asked (length (said p).inputs) a left) c.loop-op.top 0 (sym c.in_err-operation_layer.ensures.value) in
    c.from_residual.ensures ∙ sym (deeper (reads (said p)) c.args.depth a (omega arith) ∙ ap (λ o. then o (λ n. Some (n + 1))) none)
