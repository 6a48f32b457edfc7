-- The fields of a table, gathered one behind another, and judged.
use Rattle.std.proofs.Common.{◌≡◌, ℕ, suc, ◌+◌, List, [], ◌∷◌, ◌++◌, map, length, Ok, Result, sym, refl, ap, ◌∙◌, add-zero, arith}
use Rattle.std.proofs.lemmas.List.{append_assoc, append-nil}
use Rattle.log_laws.specs.Laws.{Octets}
use Rattle.tables.specs.Kinds.{Output, Said, Table, Trigger, input, life, output, trigger}
use Rattle.tables.specs.Rules.{no_circle, output_keeps, trigger_keeps}
use Rattle.tables.specs.Tables.{Refusal, field_bytes, fields, read, start, sure}
use Rattle.table_laws.specs.Placing.{Placed, gathered, judged, walk, whole}
use Rattle.table_laws.proofs.Orders.{fields_pass}
use Rattle.table_laws.proofs.Readings.{gathered_fields, tells_table}
use Rattle.table_laws.proofs.SameReading.{read_same}
use Rattle.table_laws.proofs.Walks.{walk_all}
use Rattle.table_laws.specs.Walks.{placed}
use Rattle.checked.specs.Gathering.{Making, added, all_added, nothing, output_place, trigger_place}
use Rattle.checked.specs.Judging.{all_outputs, all_triggers, first_fault}

-- the places of outputs, and of triggers, among fields
abbrev outputs_at : List Placed → List ℕ
outputs_at [] = []
outputs_at (f ∷ fs) = output_place f.said f.place ++ outputs_at fs

abbrev triggers_at : List Placed → List ℕ
triggers_at [] = []
triggers_at (f ∷ fs) = trigger_place f.said f.place ++ triggers_at fs

-- WHAT IS GATHERED

-- fields that were added stand behind those before, but for the life
record Grown (m n : Making) (fs : List Placed) : Type 0 where
  inputs : n.table.inputs ≡ m.table.inputs ++ (gathered fs).inputs
  outputs : n.table.outputs ≡ m.table.outputs ++ (gathered fs).outputs
  triggers : n.table.triggers ≡ m.table.triggers ++ (gathered fs).triggers
  places : n.outputs_at ≡ m.outputs_at ++ outputs_at fs
  marks : n.triggers_at ≡ m.triggers_at ++ triggers_at fs

grown : (fs : List Placed) (m : Making) → Grown m (all_added m fs) fs
grown [] m =
    record {
      inputs = sym (append-nil m.table.inputs);
      outputs = sym (append-nil m.table.outputs);
      triggers = sym (append-nil m.table.triggers);
      places = sym (append-nil m.outputs_at);
      marks = sym (append-nil m.triggers_at);
    }
grown (f ∷ fs) m = by f.said (grown fs (added m f.said f.place))
  where
    by : (g : Said) → Grown (added m g f.place) (all_added (added m g f.place) fs) fs → Grown m (all_added (added m g f.place) fs) (record { said = g; place = f.place } ∷ fs)
    by g r =
        record {
          inputs = r.inputs ∙ names g;
          outputs = r.outputs ∙ outs g;
          triggers = r.triggers ∙ trigs g;
          places = r.places ∙ append_assoc m.outputs_at (output_place g f.place) (outputs_at fs);
          marks = r.marks ∙ append_assoc m.triggers_at (trigger_place g f.place) (triggers_at fs);
        }
      where
        names : (g : Said) → (added m g f.place).table.inputs ++ (gathered fs).inputs ≡ m.table.inputs ++ (gathered (record { said = g; place = f.place } ∷ fs)).inputs
        names (life n) = refl
        names (input s) = append_assoc m.table.inputs (s ∷ []) (gathered fs).inputs
        names (output o) = refl
        names (trigger x) = refl

        outs : (g : Said) → (added m g f.place).table.outputs ++ (gathered fs).outputs ≡ m.table.outputs ++ (gathered (record { said = g; place = f.place } ∷ fs)).outputs
        outs (life n) = refl
        outs (input s) = refl
        outs (output o) = append_assoc m.table.outputs (o ∷ []) (gathered fs).outputs
        outs (trigger x) = refl

        trigs : (g : Said) → (added m g f.place).table.triggers ++ (gathered fs).triggers ≡ m.table.triggers ++ (gathered (record { said = g; place = f.place } ∷ fs)).triggers
        trigs (life n) = refl
        trigs (input s) = refl
        trigs (output o) = refl
        trigs (trigger x) = append_assoc m.table.triggers (x ∷ []) (gathered fs).triggers

-- fields after the life leave it
life_triggers : (gs : List Trigger) (place : ℕ) (m : Making) → (all_added m (placed place (map trigger gs))).table.life ≡ m.table.life
life_triggers [] place m = refl
life_triggers (g ∷ gs) place m = life_triggers gs (place + length (field_bytes (trigger g))) (added m (trigger g) place)

life_outputs : (os : List Output) (gs : List Trigger) (place : ℕ) (m : Making) → (all_added m (placed place (map output os ++ map trigger gs))).table.life ≡ m.table.life
life_outputs [] gs place m = life_triggers gs place m
life_outputs (o ∷ os) gs place m = life_outputs os gs (place + length (field_bytes (output o))) (added m (output o) place)

life_inputs : (ns : List (List ℕ)) (os : List Output) (gs : List Trigger) (place : ℕ) (m : Making) → (all_added m (placed place (map input ns ++ (map output os ++ map trigger gs)))).table.life ≡ m.table.life
life_inputs [] os gs place m = life_outputs os gs place m
life_inputs (n ∷ ns) os gs place m = life_inputs ns os gs (place + length (field_bytes (input n))) (added m (input n) place)

module _ (t : Table) where
  abbrev all_fields : List Placed
  all_fields = placed 0 (fields t)

  abbrev made : Making
  made = all_added nothing all_fields

  pub made_table : made.table ≡ t
  made_table =
      let g = grown all_fields nothing in
      let is = gathered_fields 0 t in
      λ i. record {
        life = life_inputs t.inputs t.outputs t.triggers (length (field_bytes (life t.life))) (added nothing (life t.life) 0) i;
        inputs = (g.inputs ∙ ap (λ u. u.inputs) is) i;
        outputs = (g.outputs ∙ ap (λ u. u.outputs) is) i;
        triggers = (g.triggers ∙ ap (λ u. u.triggers) is) i;
      }

  -- WHAT IS JUDGED

  module _ (end : ℕ) where
    abbrev last : Result Table Refusal
    last = sure (no_circle t) 7 end (Ok t)

    judged_triggers : (gs : List Trigger) (place me from : ℕ) → judged t end me (placed place (map trigger gs)) ≡ first_fault (λ _. trigger_keeps t) from gs (triggers_at (placed place (map trigger gs))) last
    judged_triggers [] place me from = refl
    judged_triggers (g ∷ gs) place me from = ap (sure (trigger_keeps t g) 5 place) (judged_triggers gs (place + length (field_bytes (trigger g))) (me + 0) (from + 1))

    judged_outputs : (os : List Output) (gs : List Trigger) (place me : ℕ)
        → judged t end me (placed place (map output os ++ map trigger gs))
        ≡ first_fault (output_keeps t) me os (outputs_at (placed place (map output os ++ map trigger gs))) (first_fault (λ _. trigger_keeps t) 0 gs (triggers_at (placed place (map output os ++ map trigger gs))) last)
    judged_outputs [] gs place me = judged_triggers gs place me 0
    judged_outputs (o ∷ os) gs place me = ap (sure (output_keeps t me o) 5 place) (judged_outputs os gs (place + length (field_bytes (output o))) (me + 1))

    judged_inputs : (ns : List (List ℕ)) (os : List Output) (gs : List Trigger) (place me : ℕ)
        → judged t end me (placed place (map input ns ++ (map output os ++ map trigger gs)))
        ≡ first_fault (output_keeps t) (me + length ns) os (outputs_at (placed place (map input ns ++ (map output os ++ map trigger gs)))) (first_fault (λ _. trigger_keeps t) 0 gs (triggers_at (placed place (map input ns ++ (map output os ++ map trigger gs)))) last)
    judged_inputs [] os gs place me = judged_outputs os gs place me ∙ ap (λ m. first_fault (output_keeps t) m os (outputs_at (placed place (map output os ++ map trigger gs))) (first_fault (λ _. trigger_keeps t) 0 gs (triggers_at (placed place (map output os ++ map trigger gs))) last)) (sym (add-zero me))
    judged_inputs (n ∷ ns) os gs place me =
        let there : ℕ = place + length (field_bytes (input n)) in
        let rest : List Placed = placed there (map input ns ++ (map output os ++ map trigger gs)) in
        let far : me + 1 + length ns ≡ me + suc (length ns) = omega arith in
        judged_inputs ns os gs there (me + 1) ∙ ap (λ m. first_fault (output_keeps t) m os (outputs_at rest) (first_fault (λ _. trigger_keeps t) 0 gs (triggers_at rest) last)) far

    -- the fields of a table are judged as the outputs and triggers that were gathered
    pub judged_made : judged t end 0 all_fields ≡ all_outputs made (all_triggers made (sure (no_circle made.table) 7 end (Ok made.table)))
    judged_made =
        let g = grown all_fields nothing in
        judged_inputs t.inputs t.outputs t.triggers (length (field_bytes (life t.life))) 0
        ∙ ap (λ m. first_fault (output_keeps t) m t.outputs (outputs_at all_fields) (first_fault (λ _. trigger_keeps t) 0 t.triggers (triggers_at all_fields) last)) (let e : 0 + length t.inputs ≡ length t.inputs = omega arith in e)
        ∙ (λ i. first_fault (output_keeps (sym made_table i)) (length (sym made_table i).inputs) (sym made_table i).outputs (sym g.places i) (first_fault (λ _. trigger_keeps (sym made_table i)) 0 (sym made_table i).triggers (sym g.marks i) (sure (no_circle (sym made_table i)) 7 end (Ok (sym made_table i)))))

same_ok : {X E : Type 0} (x y : X) → ◌≡◌ {A = Result X E} (Ok x) (Ok y) → x ≡ y
same_ok x y e = cc

-- bytes whose fields were all gathered are read as these are judged
pub read_made : (bytes : List ℕ) (fs : List Placed) (m : Making) → Octets bytes → walk 0 0 start bytes ≡ Ok fs → m ≡ all_added nothing fs
    → read bytes ≡ all_outputs m (all_triggers m (sure (no_circle m.table) 7 (length bytes) (Ok m.table)))
read_made bytes fs m o e is =
    let w = tells_table bytes fs o e in
    let t = w.0 in
    let p = fields_pass t w.2 in
    let same : fs ≡ placed 0 (fields t) = same_ok fs (placed 0 (fields t)) (sym e ∙ ap (walk 0 0 start) w.1 ∙ walk_all (fields t) 0 start p.0 p.1) in
    read_same bytes o ∙ ap (whole (length bytes)) (e ∙ ap Ok same) ∙ ap (λ u. judged u (length bytes) 0 (placed 0 (fields t))) (gathered_fields 0 t) ∙ judged_made t (length bytes)
    ∙ ap (λ n. all_outputs n (all_triggers n (sure (no_circle n.table) 7 (length bytes) (Ok n.table)))) (sym (is ∙ ap (all_added nothing) same))
