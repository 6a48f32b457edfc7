-- The whole reader, with places: what is read is what was written.
use Rattle.std.proofs.Common.{◌≡◌, ℕ, suc, ◌+◌, Bool, true, false, ◌&&◌, List, [], ◌∷◌, ◌++◌, map, length, Ok, Err, Result, sym, refl, ap, ◌∙◌, subst, add-zero, arith}
use Rattle.std.proofs.Math.Bool.{and_assoc}
use Rattle.std.proofs.lemmas.Bool.{and_from, and_parts}
use Rattle.log_laws.specs.Laws.{Octets}
pub use Rattle.tables.proofs.Readers.{never as apart}
use Rattle.tables.specs.Kinds.{Output, Said, Table, Trigger, input, life, output, trigger}
use Rattle.tables.specs.Rules.{all, no_circle, output_keeps, trigger_keeps}
use Rattle.tables.specs.Sound.{is_whole, keeps_rules, outputs_keep, sound}
use Rattle.tables.specs.Tables.{Refusal, field_bytes, fields, fields_bytes, keeps, start, streams_in, sure, with_field, write}
use Rattle.table_laws.specs.Placing.{Placed, gathered, judged, walk, whole, read_placed}
use Rattle.table_laws.specs.Walks.{placed}
use Rattle.table_laws.proofs.Orders.{Whole, fields_pass, table_of, whole_from, whole_parts}
use Rattle.table_laws.proofs.Walks.{Tells, tells, walk_all}

-- FIELDS AND TABLES

gathered_triggers : (gs : List Trigger) (place : ℕ) → gathered (placed place (map trigger gs)) ≡ record { life = 0; inputs = []; outputs = []; triggers = gs }
gathered_triggers [] place = refl
gathered_triggers (g ∷ gs) place = ap (with_field (trigger g)) (gathered_triggers gs (place + length (field_bytes (trigger g))))

gathered_outputs : (os : List Output) (gs : List Trigger) (place : ℕ) → gathered (placed place (map output os ++ map trigger gs)) ≡ record { life = 0; inputs = []; outputs = os; triggers = gs }
gathered_outputs [] gs place = gathered_triggers gs place
gathered_outputs (o ∷ os) gs place = ap (with_field (output o)) (gathered_outputs os gs (place + length (field_bytes (output o))))

gathered_inputs : (ns : List (List ℕ)) (os : List Output) (gs : List Trigger) (place : ℕ) → gathered (placed place (map input ns ++ (map output os ++ map trigger gs))) ≡ record { life = 0; inputs = ns; outputs = os; triggers = gs }
gathered_inputs [] os gs place = gathered_outputs os gs place
gathered_inputs (n ∷ ns) os gs place = ap (with_field (input n)) (gathered_inputs ns os gs (place + length (field_bytes (input n))))

pub gathered_fields : (place : ℕ) (t : Table) → gathered (placed place (fields t)) ≡ t
gathered_fields place t = ap (with_field (life t.life)) (gathered_inputs t.inputs t.outputs t.triggers (place + length (field_bytes (life t.life))))

-- THE RULES, FIELD BY FIELD

abbrev pub kept : Table → (me : ℕ) → List Said → Bool
kept t me [] = true
kept t me (f ∷ fs) = keeps t me f && kept t (me + streams_in f) fs

kept_triggers : (t : Table) (me : ℕ) (gs : List Trigger) → kept t me (map trigger gs) ≡ all (trigger_keeps t) gs
kept_triggers t me [] = refl
kept_triggers t me (g ∷ gs) = ap (λ b. trigger_keeps t g && b) (kept_triggers t (me + 0) gs)

kept_outputs : (t : Table) (me : ℕ) (os : List Output) (gs : List Trigger) → kept t me (map output os ++ map trigger gs) ≡ (outputs_keep t me os && all (trigger_keeps t) gs)
kept_outputs t me [] gs = kept_triggers t me gs
kept_outputs t me (o ∷ os) gs =
    ap (λ b. output_keeps t me o && b) (kept_outputs t (me + 1) os gs) ∙ sym (and_assoc (output_keeps t me o) (outputs_keep t (me + 1) os) (all (trigger_keeps t) gs))

kept_inputs : (t : Table) (me : ℕ) (ns : List (List ℕ)) (fs : List Said) → kept t me (map input ns ++ fs) ≡ kept t (me + length ns) fs
kept_inputs t me [] fs = ap (λ m. kept t m fs) (sym (add-zero me))
kept_inputs t me (n ∷ ns) fs = let far : me + 1 + length ns ≡ me + suc (length ns) = omega arith in kept_inputs t (me + 1) ns fs ∙ ap (λ m. kept t m fs) far

-- the rules, read off the fields, are those of the table
pub kept_fields : (t : Table) → kept t 0 (fields t) ≡ keeps_rules t
kept_fields t =
    let me : 0 + 0 + length t.inputs ≡ length t.inputs = omega arith in
    kept_inputs t (0 + 0) t.inputs (map output t.outputs ++ map trigger t.triggers)
    ∙ ap (λ m. kept t m (map output t.outputs ++ map trigger t.triggers)) me
    ∙ kept_outputs t (length t.inputs) t.outputs t.triggers

-- JUDGING

sure_got : (b : Bool) (number place : ℕ) (r : Result Table Refusal) (t : Table) → sure b number place r ≡ Ok t → (b ≡ true) × (r ≡ Ok t)
sure_got true number place r t e = (refl, e)
sure_got false number place r t e = apart e

judged_got : (t : Table) (end me place : ℕ) (fs : List Said) (u : Table) → judged t end me (placed place fs) ≡ Ok u → (kept t me fs ≡ true) × (no_circle t ≡ true) × (t ≡ u)
judged_got t end me place [] u e = let p = sure_got (no_circle t) 7 end (Ok t) u e in let same = p.1 in (refl, p.0, cc)
judged_got t end me place (f ∷ fs) u e =
    let p = sure_got (keeps t me f) 5 place (judged t end (me + streams_in f) (placed (place + length (field_bytes f)) fs)) u e in
    let q = judged_got t end (me + streams_in f) (place + length (field_bytes f)) fs u p.1 in
    (and_from (keeps t me f) (kept t (me + streams_in f) fs) p.0 q.0, q.1, q.2)

judged_on : (t : Table) (end me place : ℕ) (fs : List Said) → kept t me fs ≡ true → no_circle t ≡ true → judged t end me (placed place fs) ≡ Ok t
judged_on t end me place [] k c = ap (λ b. sure b 7 end (Ok t)) c
judged_on t end me place (f ∷ fs) k c =
    let p = and_parts (keeps t me f) (kept t (me + streams_in f) fs) k in
    ap (λ b. sure b 5 place (judged t end (me + streams_in f) (placed (place + length (field_bytes f)) fs))) p.0 ∙ judged_on t end (me + streams_in f) (place + length (field_bytes f)) fs p.1 c

-- THE WHOLE

pub record SoundParts (t : Table) : Type 0 where
  pub parts : Whole t
  pub rules : keeps_rules t ≡ true
  pub free : no_circle t ≡ true

pub sound_parts : (t : Table) → sound t ≡ true → SoundParts t
sound_parts t e =
    let p = and_parts (is_whole t) (keeps_rules t && no_circle t) e in
    let q = and_parts (keeps_rules t) (no_circle t) p.1 in
    record { parts = whole_parts t p.0; rules = q.0; free = q.1 }

-- a whole table's bytes are read field by field, and judged
pub read_fields : (t : Table) → Whole t → read_placed (write t) ≡ judged t (length (write t)) 0 (placed 0 (fields t))
read_fields t w =
    let p = fields_pass t w in
    ap (whole (length (write t))) (walk_all (fields t) 0 start p.0 p.1) ∙ ap (λ u. judged u (length (write t)) 0 (placed 0 (fields t))) (gathered_fields 0 t)

pub sound_placed : (t : Table) → sound t ≡ true → read_placed (write t) ≡ Ok t
sound_placed t e =
    let s = sound_parts t e in
    read_fields t s.parts ∙ judged_on t (length (write t)) 0 0 (fields t) (kept_fields t ∙ s.rules) s.free

-- bytes whose fields are those of a whole table
pub tells_table : (bs : List ℕ) (ps : List Placed) → Octets bs → walk 0 0 start bs ≡ Ok ps → (t : Table) × (bs ≡ write t) × Whole t
tells_table bs ps o e =
    let w = subst (Tells 0 start bs) e (tells (length bs) 0 start bs (omega arith) (omega arith) o) in
    let q = table_of w.0 w.3 w.4 in
    (q.0, w.2 ∙ ap fields_bytes q.1, q.2)

whole_got : (end : ℕ) (r : Result (List Placed) Refusal) (t : Table) → whole end r ≡ Ok t → (ps : List Placed) × (r ≡ Ok ps)
whole_got end (Ok ps) t e = (ps, refl)
whole_got end (Err n) t e = apart e

pub placed_sound : (bs : List ℕ) (t : Table) → Octets bs → read_placed bs ≡ Ok t → (bs ≡ write t) × (sound t ≡ true)
placed_sound bs t o e =
    let g = whole_got (length bs) (walk 0 0 start bs) t e in
    let w = tells_table bs g.0 o g.1 in
    let u = w.0 in
    let j = judged_got u (length (write u)) 0 0 (fields u) t (sym (read_fields u w.2) ∙ ap read_placed (sym w.1) ∙ e) in
    let it : sound u ≡ true = and_from (is_whole u) (keeps_rules u && no_circle u) (whole_from u w.2) (and_from (keeps_rules u) (no_circle u) (sym (kept_fields u) ∙ j.0) j.1) in
    (w.1 ∙ ap write j.2, ap sound (sym j.2) ∙ it)
