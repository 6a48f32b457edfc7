-- Fields that pass one after another, and end with an output behind them, are those of a table.
use Rattle.std.proofs.Common.{◌≡◌, ℕ, ◌+◌, ◌<◌, ◌≤◌, Bool, true, ◌&&◌, ltb, List, [], ◌∷◌, ◌++◌, map, length, refl, ap, ◌∙◌, arith}
use Rattle.std.proofs.lemmas.List.{nil_from_length}
use Rattle.std.proofs.lemmas.Bool.{and_from, and_parts, false≢true, le-leb, leb-true, lt-ltb, ltb-true}
use Rattle.tables.specs.declared.op.Pace.{Pace}
use Rattle.tables.specs.declared.op.Pace.TheVariants.{Event, Every}
use Rattle.tables.specs.Kinds.{Output, Said, Table, Trigger, input, life, output, trigger}
use Rattle.tables.specs.Reading.{within}
use Rattle.tables.specs.Rules.{all}
use Rattle.tables.specs.Sound.{is_output, is_text, is_trigger, is_whole, windows_in_all}
use Rattle.tables.specs.Tables.{Stood, admits, fields, next, start, tag_of, tag_of_pace}
use Rattle.table_laws.specs.Walks.{Passes, after}
use Rattle.table_laws.specs.Whole.{is_field, windows_in_field}
use Rattle.table_laws.proofs.Contents.{within_from, within_parts}

-- THE PARTS OF A TABLE

pub record Whole (t : Table) : Type 0 where
  pub life : within 1 2000000000 t.life ≡ true
  pub inputs : (1 ≤ length t.inputs) × (length t.inputs ≤ 8)
  pub outputs : (1 ≤ length t.outputs) × (length t.outputs ≤ 16)
  pub triggers : length t.triggers ≤ 8
  pub names : all (is_text 33 16) t.inputs ≡ true
  pub wholes : all is_output t.outputs ≡ true
  pub says : all is_trigger t.triggers ≡ true
  pub windows : windows_in_all t.outputs ≤ 8

pub whole_parts : (t : Table) → is_whole t ≡ true → Whole t
whole_parts t e =
    let a = and_parts _ _ e in
    let b = and_parts _ _ a.1 in
    let c = and_parts _ _ b.1 in
    let d = and_parts _ _ c.1 in
    let f = and_parts _ _ d.1 in
    let g = and_parts _ _ f.1 in
    let h = and_parts _ _ g.1 in
    record {
      life = a.0;
      inputs = within_parts 1 8 (length t.inputs) b.0;
      outputs = within_parts 1 16 (length t.outputs) c.0;
      triggers = leb-true (length t.triggers) 8 d.0;
      names = f.0;
      wholes = g.0;
      says = h.0;
      windows = leb-true (windows_in_all t.outputs) 8 h.1;
    }

pub whole_from : (t : Table) → Whole t → is_whole t ≡ true
whole_from t w =
    and_from _ _ w.life
    (and_from _ _ (within_from 1 8 (length t.inputs) w.inputs.0 w.inputs.1)
    (and_from _ _ (within_from 1 16 (length t.outputs) w.outputs.0 w.outputs.1)
    (and_from _ _ (le-leb (length t.triggers) 8 w.triggers)
    (and_from _ _ w.names
    (and_from _ _ w.wholes
    (and_from _ _ w.says (le-leb (windows_in_all t.outputs) 8 w.windows)))))))

-- WHAT MAY STAND NEXT

lt_parts : (a b : ℕ) (x : Bool) → (ltb a b && x) ≡ true → (a < b) × (x ≡ true)
lt_parts a b x e = let p = and_parts (ltb a b) x e in (ltb-true a b p.0, p.1)

lt_from : (a b : ℕ) (x : Bool) → a < b → x ≡ true → (ltb a b && x) ≡ true
lt_from a b x l e = and_from (ltb a b) x (lt-ltb a b l) e

input_parts : (s : Stood) → admits s 2 ≡ true → (s.outputs < 1) × (s.triggers < 1) × (s.inputs < 8)
input_parts s e =
    let p = lt_parts 0 s.lives (ltb s.outputs 1 && (ltb s.triggers 1 && ltb s.inputs 8)) e in
    let q = lt_parts s.outputs 1 (ltb s.triggers 1 && ltb s.inputs 8) p.1 in
    let r = lt_parts s.triggers 1 (ltb s.inputs 8) q.1 in
    (q.0, r.0, ltb-true s.inputs 8 r.1)

input_from : (s : Stood) → 0 < s.lives → s.outputs < 1 → s.triggers < 1 → s.inputs < 8 → admits s 2 ≡ true
input_from s a b c d =
    lt_from 0 s.lives (ltb s.outputs 1 && (ltb s.triggers 1 && ltb s.inputs 8)) a
    (lt_from s.outputs 1 (ltb s.triggers 1 && ltb s.inputs 8) b (lt_from s.triggers 1 (ltb s.inputs 8) c (lt-ltb s.inputs 8 d)))

-- either kind of output
abbrev output_next : Stood → Bool
output_next s = ltb 0 s.inputs && (ltb s.triggers 1 && ltb s.outputs 16)

paced : (s : Stood) (p : Pace) → admits s (tag_of_pace p) ≡ output_next s
paced s Event = refl
paced s (Every n) = refl

output_parts : (s : Stood) (p : Pace) → admits s (tag_of_pace p) ≡ true → (0 < s.inputs) × (s.triggers < 1) × (s.outputs < 16)
output_parts s p e =
    let a = lt_parts 0 s.inputs (ltb s.triggers 1 && ltb s.outputs 16) (rw (paced s p) at e) in
    let b = lt_parts s.triggers 1 (ltb s.outputs 16) a.1 in
    (a.0, b.0, ltb-true s.outputs 16 b.1)

output_from : (s : Stood) (p : Pace) → 0 < s.inputs → s.triggers < 1 → s.outputs < 16 → admits s (tag_of_pace p) ≡ true
output_from s p a b c = rw (paced s p) (lt_from 0 s.inputs (ltb s.triggers 1 && ltb s.outputs 16) a (lt_from s.triggers 1 (ltb s.outputs 16) b (lt-ltb s.outputs 16 c)))

-- FROM FIELDS TO A TABLE

-- the fields are inputs, then outputs, then triggers, with what stood before in no greater number than a table has
record Ordered (s : Stood) (fs : List Said) : Type 0 where
  inputs : List (List ℕ)
  outputs : List Output
  triggers : List Trigger
  is : fs ≡ map input inputs ++ (map output outputs ++ map trigger triggers)
  names : all (is_text 33 16) inputs ≡ true
  wholes : all is_output outputs ≡ true
  says : all is_trigger triggers ≡ true
  few_inputs : s.inputs + length inputs ≤ 8
  inputs_first : 1 ≤ length inputs → (s.outputs ≡ 0) × (s.triggers ≡ 0)
  few_outputs : s.outputs + length outputs ≤ 16
  some_outputs : 1 ≤ s.outputs + length outputs
  outputs_first : 1 ≤ length outputs → (s.triggers ≡ 0) × (1 ≤ s.inputs + length inputs)
  few_triggers : s.triggers + length triggers ≤ 8
  few_windows : s.windows + windows_in_all outputs ≤ 8

empty : {X : Type 0} (xs : List X) → (1 ≤ length xs → ⊥) → xs ≡ []
empty xs h = nil_from_length xs (omega arith)

-- no more of any kind stood than a table has, and life did
record Within (s : Stood) : Type 0 where
  lived : 0 < s.lives
  inputs : s.inputs ≤ 8
  outputs : s.outputs ≤ 16
  triggers : s.triggers ≤ 8
  windows : s.windows ≤ 8

ordered : (fs : List Said) (s : Stood) → Within s → Passes s fs → 0 < (after s fs).outputs → Ordered s fs
ordered [] s b h some =
    let a0 = b.inputs in
    let a1 = b.outputs in
    let a2 = b.triggers in
    let a3 = b.windows in
    record {
      inputs = [];
      outputs = [];
      triggers = [];
      is = refl;
      names = refl;
      wholes = refl;
      says = refl;
      few_inputs = omega arith;
      inputs_first = λ z. absurd (omega arith);
      few_outputs = omega arith;
      some_outputs = omega arith;
      outputs_first = λ z. absurd (omega arith);
      few_triggers = omega arith;
      few_windows = omega arith;
    }
ordered (life n ∷ fs) s b h some = let once = ltb-true s.lives 1 h.0 in let lived = b.lived in absurd (omega arith)
ordered (input n ∷ fs) s b h some =
    let p = input_parts s h.0 in
    let p0 = p.0 in
    let p1 = p.1 in
    let p2 = p.2 in
    let r = ordered fs (next s (input n)) (record { lived = b.lived; inputs = omega arith; outputs = b.outputs; triggers = b.triggers; windows = b.windows }) h.3 some in
    let f = r.few_inputs in
    record {
      inputs = n ∷ r.inputs;
      outputs = r.outputs;
      triggers = r.triggers;
      is = ap (λ l. input n ∷ l) r.is;
      names = and_from (is_text 33 16 n) (all (is_text 33 16) r.inputs) h.1 r.names;
      wholes = r.wholes;
      says = r.says;
      few_inputs = omega arith;
      inputs_first = λ z. (omega arith, omega arith);
      few_outputs = r.few_outputs;
      some_outputs = r.some_outputs;
      outputs_first = λ z. (omega arith, omega arith);
      few_triggers = r.few_triggers;
      few_windows = r.few_windows;
    }
ordered (output o ∷ fs) s b h some =
    let p = output_parts s o.pace h.0 in
    let p0 = p.0 in
    let p1 = p.1 in
    let p2 = p.2 in
    let few = h.2 in
    let a0 = b.inputs in
    let r = ordered fs (next s (output o)) (record { lived = b.lived; inputs = b.inputs; outputs = omega arith; triggers = b.triggers; windows = few }) h.3 some in
    let none : r.inputs ≡ [] = empty r.inputs (λ z. let y = (r.inputs_first z).0 in omega arith) in
    let f2 = r.few_outputs in
    let f4 = r.few_triggers in
    let f5 = r.few_windows in
    record {
      inputs = [];
      outputs = o ∷ r.outputs;
      triggers = r.triggers;
      is = ap (λ l. output o ∷ l) r.is ∙ ap (λ l. output o ∷ (map input l ++ (map output r.outputs ++ map trigger r.triggers))) none;
      names = refl;
      wholes = and_from (is_output o) (all is_output r.outputs) h.1 r.wholes;
      says = r.says;
      few_inputs = omega arith;
      inputs_first = λ z. absurd (omega arith);
      few_outputs = omega arith;
      some_outputs = omega arith;
      outputs_first = λ z. (omega arith, omega arith);
      few_triggers = omega arith;
      few_windows = omega arith;
    }
ordered (trigger g ∷ fs) s b h some =
    let p = lt_parts 0 s.lives (ltb s.triggers 8) h.0 in
    let room = ltb-true s.triggers 8 p.1 in
    let a0 = b.inputs in
    let a1 = b.outputs in
    let a3 = b.windows in
    let r = ordered fs (next s (trigger g)) (record { lived = b.lived; inputs = b.inputs; outputs = b.outputs; triggers = omega arith; windows = b.windows }) h.3 some in
    let no_inputs : r.inputs ≡ [] = empty r.inputs (λ z. let y = (r.inputs_first z).1 in omega arith) in
    let no_outputs : r.outputs ≡ [] = empty r.outputs (λ z. let y = (r.outputs_first z).0 in omega arith) in
    let none : length r.outputs ≡ 0 = ap length no_outputs in
    let f3 = r.some_outputs in
    let f4 = r.few_triggers in
    record {
      inputs = [];
      outputs = [];
      triggers = g ∷ r.triggers;
      is = ap (λ l. trigger g ∷ l) r.is ∙ (λ i. trigger g ∷ (map input (no_inputs i) ++ (map output (no_outputs i) ++ map trigger r.triggers)));
      names = refl;
      wholes = refl;
      says = and_from (is_trigger g) (all is_trigger r.triggers) h.1 r.says;
      few_inputs = omega arith;
      inputs_first = λ z. absurd (omega arith);
      few_outputs = omega arith;
      some_outputs = omega arith;
      outputs_first = λ z. absurd (omega arith);
      few_triggers = omega arith;
      few_windows = omega arith;
    }

pub table_of : (fs : List Said) → Passes start fs → 0 < (after start fs).outputs → (t : Table) × (fs ≡ fields t) × Whole t
table_of [] h some = absurd (omega arith)
table_of (life n ∷ fs) h some =
    let r = ordered fs (next start (life n)) (record { lived = omega arith; inputs = omega arith; outputs = omega arith; triggers = omega arith; windows = omega arith }) h.3 some in
    let f1 = r.few_inputs in
    let f2 = r.few_outputs in
    let f3 = r.some_outputs in
    let f4 = r.few_triggers in
    let f5 = r.few_windows in
    let f6 = (r.outputs_first (omega arith)).1 in (
      record { life = n; inputs = r.inputs; outputs = r.outputs; triggers = r.triggers },
      ap (λ l. life n ∷ l) r.is,
      record { life = h.1; inputs = (omega arith, omega arith); outputs = (omega arith, omega arith); triggers = omega arith; names = r.names; wholes = r.wholes; says = r.says; windows = omega arith },
    )
table_of (input n ∷ fs) h some = absurd (false≢true h.0)
table_of (output o ∷ fs) h some = let none = (output_parts start o.pace h.0).0 in absurd (omega arith)
table_of (trigger g ∷ fs) h some = absurd (false≢true h.0)

-- FROM A TABLE TO FIELDS

-- the fields pass, and an output stood
abbrev Pass : Stood → List Said → Type 0
Pass s fs = Passes s fs × (0 < (after s fs).outputs)

pass_more : (s : Stood) (f : Said) (fs : List Said) → admits s (tag_of f) ≡ true → is_field f ≡ true → s.windows + windows_in_field f ≤ 8 → Pass (next s f) fs → Pass s (f ∷ fs)
pass_more s f fs may whole few p = ((may, whole, few, p.0), p.1)

pass_triggers : (gs : List Trigger) (s : Stood) → 0 < s.lives → 0 < s.outputs → s.triggers + length gs ≤ 8 → s.windows ≤ 8 → all is_trigger gs ≡ true → Pass s (map trigger gs)
pass_triggers [] s lived some few windows h = (tt, some)
pass_triggers (g ∷ gs) s lived some few windows h =
    let p = and_parts (is_trigger g) (all is_trigger gs) h in
    pass_more s (trigger g) (map trigger gs) (lt_from 0 s.lives (ltb s.triggers 8) lived (lt-ltb s.triggers 8 (omega arith))) p.0 (omega arith)
    (pass_triggers gs (next s (trigger g)) lived some (omega arith) windows p.1)

pass_outputs : (os : List Output) (gs : List Trigger) (s : Stood) → 0 < s.lives → 0 < s.inputs → s.triggers ≡ 0 → s.outputs + length os ≤ 16 → 1 ≤ s.outputs + length os → length gs ≤ 8 → s.windows + windows_in_all os ≤ 8
    → all is_output os ≡ true → all is_trigger gs ≡ true → Pass s (map output os ++ map trigger gs)
pass_outputs [] gs s lived ins none few some triggers windows h k = pass_triggers gs s lived (omega arith) (omega arith) (omega arith) k
pass_outputs (o ∷ os) gs s lived ins none few some triggers windows h k =
    let p = and_parts (is_output o) (all is_output os) h in
    pass_more s (output o) (map output os ++ map trigger gs) (output_from s o.pace ins (omega arith) (omega arith)) p.0 (omega arith)
    (pass_outputs os gs (next s (output o)) lived ins none (omega arith) (omega arith) triggers (omega arith) p.1 k)

pass_inputs : (ns : List (List ℕ)) (os : List Output) (gs : List Trigger) (s : Stood) → 0 < s.lives → 1 ≤ s.inputs + length ns → s.inputs + length ns ≤ 8 → s.triggers ≡ 0 → s.outputs ≡ 0 → length os ≤ 16 → 1 ≤ length os → length gs ≤ 8 → s.windows + windows_in_all os ≤ 8
    → all (is_text 33 16) ns ≡ true → all is_output os ≡ true → all is_trigger gs ≡ true → Pass s (map input ns ++ (map output os ++ map trigger gs))
pass_inputs [] os gs s lived some few no-triggers no_outputs few_outputs some_outputs triggers windows n h k = pass_outputs os gs s lived (omega arith) no-triggers (omega arith) (omega arith) triggers windows h k
pass_inputs (i ∷ ns) os gs s lived some few no-triggers no_outputs few_outputs some_outputs triggers windows n h k =
    let p = and_parts (is_text 33 16 i) (all (is_text 33 16) ns) n in
    pass_more s (input i) (map input ns ++ (map output os ++ map trigger gs)) (input_from s lived (omega arith) (omega arith) (omega arith)) p.0 (omega arith)
    (pass_inputs ns os gs (next s (input i)) lived (omega arith) (omega arith) no-triggers no_outputs few_outputs some_outputs triggers windows p.1 h k)

pub fields_pass : (t : Table) → Whole t → Pass start (fields t)
fields_pass t w =
    let some_inputs = w.inputs.0 in
    let few_inputs = w.inputs.1 in
    let windows = w.windows in
    pass_more start (life t.life) (map input t.inputs ++ (map output t.outputs ++ map trigger t.triggers)) refl w.life (omega arith)
    (pass_inputs t.inputs t.outputs t.triggers (next start (life t.life)) (omega arith) (omega arith) (omega arith) refl refl w.outputs.1 w.outputs.0 w.triggers (omega arith) w.names w.wholes w.says)
