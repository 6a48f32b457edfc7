use Rattle.std.proofs.Common.{◌+◌, ◌<◌, ◌∷◌, [], ◌++◌, map, length, sym, ap, ◌∙◌, subst, add-zero, arith}
use Rattle.std.proofs.lemmas.List.{append-nil, length-map, map_push, take_all}
use Rattle.fixed.specs.Values.{values}
use Rattle.tables.specs.Fields.{ops_in, shape}
use Rattle.tables.specs.Kinds.{input, output, trigger}
use Rattle.tables.specs.Tables.{windows_of}
use Rattle.checked.specs.Gathering.{Room, making}
use Rattle.checked.specs.Views.{output_of, trigger_of}
use Rattle.checked.proofs.Gathers.{added_is, behind, placed}
use Rattle.checked.proofs.gathered.Gathered.add.Goals as goal

pub returns-in-Input : goal.returns-in-Input
returns-in-Input c =
    let g = c.args.self.now in
    let p = g.parts in
    let name = c.in-Input.name.now in
    let room = subst (λ f. Room (making g) (shape f)) c.in-Input.is c.requires in
    let few : length (values p.inputs) < 8 = omega (arith, length-map (values p.inputs) values, room.0) in
    let named = c.starting.ensures ∙ take_all 16 name room.1 in
    let inputs = ap (map values) (c.push.ensures.pushes ∙ behind 8 _ (values p.inputs) few) ∙ map_push values (values p.inputs) _ ∙ ap (λ s. map values (values p.inputs) ++ (s ∷ [])) named in
    rw c.in-Input.is (
    added_is (making g) (input name) c.args.place _ _ _ _ _
    (λ i. record { life = p.life; inputs = inputs i; outputs = map output_of (values p.outputs); triggers = map trigger_of (values p.triggers) })
    (sym (add-zero g.lives)) (sym (add-zero g.windows)) (sym (append-nil (values g.output_places))) (sym (append-nil (values g.trigger_places)))
    )

pub returns-in-Output : goal.returns-in-Output
returns-in-Output c =
    let g = c.args.self.now in
    let p = g.parts in
    let name = c.in-Output.name.now in
    let room = subst (λ f. Room (making g) (shape f)) c.in-Output.is c.requires in
    let few : length (values p.outputs) < 16 = omega (arith, length-map (values p.outputs) output_of, room.0) in
    let named = c.starting-name.ensures ∙ take_all 16 name room.1 in
    let outputs = ap (map output_of) (c.push-in-Output-2.ensures.pushes ∙ behind 16 _ (values p.outputs) few) ∙ map_push output_of (values p.outputs) _ ∙ (λ i. map output_of (values p.outputs) ++ (record { pace = c.in-Output.pace; name = named i; ops = c.program_in-program.ensures i } ∷ [])) in
    rw c.in-Output.is (
    added_is (making g) (output record { pace = c.in-Output.pace; name = name; ops = ops_in c.in-Output.operations.now }) c.args.place _ _ _ _ _
    (λ i. record { life = p.life; inputs = map values (values p.inputs); outputs = outputs i; triggers = map trigger_of (values p.triggers) })
    (sym (add-zero g.lives)) (ap (λ n. g.windows + n) (c.windows_in.ensures ∙ ap windows_of c.program_in-program.ensures))
    (c.push-in-Output.ensures.pushes ∙ behind 16 c.args.place (values g.output_places) (omega (arith, few, g.outputs_placed))) (sym (append-nil (values g.trigger_places)))
    )

pub returns-in-Trigger : goal.returns-in-Trigger
returns-in-Trigger c =
    let g = c.args.self.now in
    let p = g.parts in
    let message = c.in-Trigger.message.now in
    let room = subst (λ f. Room (making g) (shape f)) c.in-Trigger.is c.requires in
    let few : length (values p.triggers) < 8 = omega (arith, length-map (values p.triggers) trigger_of, room.0) in
    let told = c.starting-message.ensures ∙ take_all 32 message room.1 in
    let triggers = ap (map trigger_of) (c.push-in-Trigger-2.ensures.pushes ∙ behind 8 _ (values p.triggers) few) ∙ map_push trigger_of (values p.triggers) _ ∙ (λ i. map trigger_of (values p.triggers) ++ (record { stream = c.in-Trigger.stream; message = told i } ∷ [])) in
    rw c.in-Trigger.is (
    added_is (making g) (trigger record { stream = c.in-Trigger.stream; message = message }) c.args.place _ _ _ _ _
    (λ i. record { life = p.life; inputs = map values (values p.inputs); outputs = map output_of (values p.outputs); triggers = triggers i })
    (sym (add-zero g.lives)) (sym (add-zero g.windows)) (sym (append-nil (values g.output_places)))
    (c.push-in-Trigger.ensures.pushes ∙ behind 8 c.args.place (values g.trigger_places) (omega (arith, few, g.triggers_placed)))
    )

pub invariant_of-self-in-Output : goal.invariant_of-self-in-Output
invariant_of-self-in-Output c =
    let g = c.args.self.now in
    let room = subst (λ f. Room (making g) (shape f)) c.in-Output.is c.requires in
    record {
      once = g.once;
      few = omega (arith, room.2, c.windows_in.ensures, ap windows_of c.program_in-program.ensures);
      outputs_placed = ap length c.push-in-Output.ensures.pushes ∙ placed 16 _ (values g.output_places) _ (values g.parts.outputs) g.outputs_placed ∙ ap length (sym c.push-in-Output-2.ensures.pushes);
      triggers_placed = g.triggers_placed;
    }

pub invariant_of-self-in-Trigger : goal.invariant_of-self-in-Trigger
invariant_of-self-in-Trigger c =
    let g = c.args.self.now in
    record {
      once = g.once;
      few = g.few;
      outputs_placed = g.outputs_placed;
      triggers_placed = ap length c.push-in-Trigger.ensures.pushes ∙ placed 8 _ (values g.trigger_places) _ (values g.parts.triggers) g.triggers_placed ∙ ap length (sym c.push-in-Trigger-2.ensures.pushes);
    }
