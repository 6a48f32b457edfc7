-- The bytes of a table, as those of each kind of field joined.
use Rattle.std.proofs.Common.{◌≡◌, ℕ, List, [], ◌∷◌, ◌++◌, map, subst, sym, refl, ap, ◌∙◌}
use Rattle.std.proofs.lemmas.List.{append_assoc, append-nil}
use Rattle.fixed.specs.Values.{values}
use Rattle.tables.specs.Kinds.{Said, input, life, output, trigger}
use Rattle.tables.specs.Tables.{field_bytes, fields_bytes, write}
use Rattle.checked.specs.declared.parts.Parts.{Parts}
use Rattle.checked.specs.Views.{output_of, said, trigger_of}
use Rattle.table_writing.specs.declared.writer.Writer.{Writer}
use Rattle.table_writing.specs.Writing.{Wrote}
use Rattle.table_writing.proofs.Writes.{Writing, writing_all, writing_more, writing_none}

fields_said : {X Y : Type 0} (g : Y → Said) (f : X → Y) (xs : List X) → fields_bytes (map g (map f xs)) ≡ fields_bytes (map (λ x. g (f x)) xs)
fields_said g f [] = refl
fields_said g f (x ∷ xs) = ap (λ l. field_bytes (g (f x)) ++ l) (fields_said g f xs)

fields_append : (xs ys : List Said) → fields_bytes (xs ++ ys) ≡ fields_bytes xs ++ fields_bytes ys
fields_append [] ys = refl
fields_append (x ∷ xs) ys = ap (λ l. field_bytes x ++ l) (fields_append xs ys) ∙ sym (append_assoc (field_bytes x) (fields_bytes xs) (fields_bytes ys))

module _ (p : Parts) where
  abbrev pub inputs_bytes : List ℕ
  inputs_bytes = fields_bytes (map (λ n. input (values n)) (values p.inputs))

  abbrev pub outputs_bytes : List ℕ
  outputs_bytes = fields_bytes (map (λ o. output (output_of o)) (values p.outputs))

  abbrev pub triggers_bytes : List ℕ
  triggers_bytes = fields_bytes (map (λ g. trigger (trigger_of g)) (values p.triggers))

  pub write_joined : write (said p) ≡ field_bytes (life p.life) ++ (inputs_bytes ++ (outputs_bytes ++ triggers_bytes))
  write_joined =
      let os = map output (said p).outputs in
      let gs = map trigger (said p).triggers in
      let inputs = fields_said input values (values p.inputs) in
      let outputs = fields_said output output_of (values p.outputs) in
      let triggers = fields_said trigger trigger_of (values p.triggers) in
      ap (λ l. field_bytes (life p.life) ++ l) (fields_append (map input (said p).inputs) (os ++ gs) ∙ (λ i. inputs i ++ (fields_append os gs ∙ (λ j. outputs j ++ triggers j)) i))

-- a table's fields are written one kind behind another
module _ (p : Parts) (a b : Writer) (lives : Wrote (field_bytes (life p.life)) a b) where
  pub after_life : Writing a (write (said p)) b (inputs_bytes p ++ (outputs_bytes p ++ triggers_bytes p))
  after_life = writing_more a (write (said p)) a _ _ b (subst (Writing a (write (said p)) a) (write_joined p) (writing_none a (write (said p)))) lives

  module _ (c : Writer) (inputs : Wrote (inputs_bytes p) b c) where
    pub after_inputs : Writing a (write (said p)) c (outputs_bytes p ++ triggers_bytes p)
    after_inputs = writing_more a (write (said p)) b (inputs_bytes p) _ c after_life inputs

    module _ (d : Writer) (outputs : Wrote (outputs_bytes p) c d) where
      pub after_outputs : Writing a (write (said p)) d (triggers_bytes p ++ [])
      after_outputs = subst (Writing a (write (said p)) d) (sym (append-nil (triggers_bytes p))) (writing_more a (write (said p)) c (outputs_bytes p) _ d after_inputs outputs)

      pub after_triggers : (e : Writer) → Wrote (triggers_bytes p) d e → Wrote (write (said p)) a e
      after_triggers e triggers = writing_all a (write (said p)) e (writing_more a (write (said p)) d (triggers_bytes p) [] e after_outputs triggers)
