use Rattle.std.proofs.Common.{◌+◌, ◌∷◌, drop, map, subst, sym, ap, ◌∙◌}
use Rattle.std.proofs.lemmas.List.{drop_all, drop_more}
use Rattle.tables.specs.Tables.{field_bytes, fields_bytes}
use Rattle.table_writing.proofs.Writes.{Writing, writing_all, writing_more, writing_none, writing_room}
use Rattle.table_writing.proofs.fields.put_fields.Goals as goal

pub loop-field-init : goal.loop-field-init
loop-field-init g c = writing_none _ _

pub put_field-requires : goal.put_field-requires
put_field-requires g c =
    let said = g.T.Content.said in
    let fs = c.args.fields.now in
    let i = c.loop-field.field-index in
    let x = c.field-item.result in
    let here = ap (λ l. fields_bytes (map said l)) (drop_more fs i x c.loop-field-test.true ∙ ap (λ y. y ∷ drop (i + 1) fs) (sym c.field-item.is)) in
    writing_room _ _ c.loop-field.out (field_bytes (said x)) (fields_bytes (map said (drop (i + 1) fs))) c.requires (subst (Writing c.args.out.now (fields_bytes (map said fs)) c.loop-field.out) here c.loop-field.invariant)

pub loop-field-preserved : goal.loop-field-preserved
loop-field-preserved g c =
    let said = g.T.Content.said in
    let fs = c.args.fields.now in
    let i = c.loop-field.field-index in
    let x = c.field-item.result in
    let here = ap (λ l. fields_bytes (map said l)) (drop_more fs i x c.loop-field-test.true ∙ ap (λ y. y ∷ drop (i + 1) fs) (sym c.field-item.is)) in
    writing_more _ _ c.loop-field.out (field_bytes (said x)) (fields_bytes (map said (drop (i + 1) fs))) c.put_field.new.out (subst (Writing c.args.out.now (fields_bytes (map said fs)) c.loop-field.out) here c.loop-field.invariant) c.put_field.ensures

pub returns : goal.returns
returns g c =
    let said = g.T.Content.said in
    let fs = c.args.fields.now in
    let none = ap (λ l. fields_bytes (map said l)) (drop_all c.loop-field.field-index fs c.loop-field-test.false) in
    writing_all _ _ c.loop-field.out (subst (Writing c.args.out.now (fields_bytes (map said fs)) c.loop-field.out) none c.loop-field.invariant)
