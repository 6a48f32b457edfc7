use Rattle.std.proofs.Common.{[], map, subst}
use Rattle.fixed.specs.Values.{values}
use Rattle.tables.specs.Kinds.{input, output, trigger}
use Rattle.tables.specs.Tables.{fields_bytes, write}
use Rattle.checked.specs.Views.{output_of, said, trigger_of}
use Rattle.table_writing.specs.Writing.{Wrote}
use Rattle.table_writing.proofs.Joins.{after_inputs, after_life, after_outputs, after_triggers, inputs_bytes, outputs_bytes, triggers_bytes}
use Rattle.table_writing.proofs.Writes.{writing_room}
use Rattle.table_writing.proofs.write.put_parts.Goals as goal

pub put_fields-requires : goal.put_fields-requires
put_fields-requires c =
    let p = c.args.parts.now in
    let a = c.args.out.now in
    rw c.as_slice.ensures.values (writing_room a (write (said p)) c.put_field.new.out (inputs_bytes p) _ c.requires (after_life p a _ c.put_field.ensures))

pub put_fields-requires-2 : goal.put_fields-requires-2
put_fields-requires-2 c =
    let p = c.args.parts.now in
    let a = c.args.out.now in
    let inputs : Wrote (inputs_bytes p) c.put_field.new.out c.put_fields.new.out = subst (λ xs. Wrote (fields_bytes (map (λ n. input (values n)) xs)) c.put_field.new.out c.put_fields.new.out) c.as_slice.ensures.values c.put_fields.ensures in
    rw c.as_slice-2.ensures.values (writing_room a (write (said p)) c.put_fields.new.out (outputs_bytes p) _ c.requires (after_inputs p a _ c.put_field.ensures _ inputs))

pub put_fields-requires-3 : goal.put_fields-requires-3
put_fields-requires-3 c =
    let p = c.args.parts.now in
    let a = c.args.out.now in
    let inputs : Wrote (inputs_bytes p) c.put_field.new.out c.put_fields.new.out = subst (λ xs. Wrote (fields_bytes (map (λ n. input (values n)) xs)) c.put_field.new.out c.put_fields.new.out) c.as_slice.ensures.values c.put_fields.ensures in
    let outputs : Wrote (outputs_bytes p) c.put_fields.new.out c.put_fields-2.new.out = subst (λ xs. Wrote (fields_bytes (map (λ o. output (output_of o)) xs)) c.put_fields.new.out c.put_fields-2.new.out) c.as_slice-2.ensures.values c.put_fields-2.ensures in
    rw c.as_slice-3.ensures.values (writing_room a (write (said p)) c.put_fields-2.new.out (triggers_bytes p) [] c.requires (after_outputs p a _ c.put_field.ensures _ inputs _ outputs))

pub returns : goal.returns
returns c =
    let p = c.args.parts.now in
    let a = c.args.out.now in
    let inputs : Wrote (inputs_bytes p) c.put_field.new.out c.put_fields.new.out = subst (λ xs. Wrote (fields_bytes (map (λ n. input (values n)) xs)) c.put_field.new.out c.put_fields.new.out) c.as_slice.ensures.values c.put_fields.ensures in
    let outputs : Wrote (outputs_bytes p) c.put_fields.new.out c.put_fields-2.new.out = subst (λ xs. Wrote (fields_bytes (map (λ o. output (output_of o)) xs)) c.put_fields.new.out c.put_fields-2.new.out) c.as_slice-2.ensures.values c.put_fields-2.ensures in
    let triggers : Wrote (triggers_bytes p) c.put_fields-2.new.out c.put_fields-3.new.out = subst (λ xs. Wrote (fields_bytes (map (λ g. trigger (trigger_of g)) xs)) c.put_fields-2.new.out c.put_fields-3.new.out) c.as_slice-3.ensures.values c.put_fields-3.ensures in
    after_triggers p a _ c.put_field.ensures _ inputs _ outputs _ triggers
