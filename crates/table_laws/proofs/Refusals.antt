-- Refusals and what they say.
use Rattle.std.proofs.Common.{◌≡◌, ℕ, ◌+◌, ◌<◌, ◌≤◌, Bool, true, false, ◌⊎◌, List, [], ◌∷◌, ◌++◌, length, Ok, Err, Result, sym, refl, ap, ◌∙◌, subst, inl, inr, ⊎_elim, add-zero, arith}
use Rattle.std.proofs.lemmas.List.{append-nil, drop_at, length-append}
use Rattle.std.proofs.lemmas.Bool.{and_from, and_parts, both_ways, false_from_ne_true, le-ltb}
use Rattle.log_laws.proofs.Fields.{first_field}
use Rattle.log_laws.proofs.Refused.{cut_none}
use Rattle.log_laws.proofs.Numbers.{octets_drop}
use Rattle.frames.specs.Frames.{announced, first}
use Rattle.log_laws.specs.Breaks.{Begins}
use Rattle.log_laws.specs.Laws.{Octets}
use Rattle.log_laws.specs.Written as logs
use Rattle.tables.specs.Kinds.{Said, Table, input, life, output, trigger}
use Rattle.tables.specs.Rules.{no_circle}
use Rattle.tables.specs.Reading.{content, test}
use Rattle.tables.specs.Tables.{Refusal, Stood, admits, field, field_bytes, fields, fields_bytes, keeps, next, refuse, start, streams_in, sure, write}
use Rattle.table_laws.specs.Placing.{Placed, before, cons, ended, judged, walk, whole, read_placed}
use Rattle.table_laws.specs.Laws.{RefusalTold, RefusalTruthful}
use Rattle.table_laws.specs.Refusals.{AllKeep, FieldBroken, FieldKeeps, Refused, by_circle, by_field, by_rule, streams_in_all}
use Rattle.table_laws.specs.Walks.{Breaks, Passes, after, cut, misplaced, missing, placed, wrong}
use Rattle.table_laws.specs.Whole.{is_field}
use Rattle.table_laws.proofs.Acceptance.{rules_say}
use Rattle.table_laws.proofs.Chains.{circle_found, circle_free}
use Rattle.table_laws.proofs.Bytes.{octets_front}
use Rattle.table_laws.proofs.Faults.{tag_known, told}
use Rattle.table_laws.proofs.Keeping.{output_from, output_says, trigger_decides}
use Rattle.table_laws.proofs.Orders.{Whole, fields_pass}
use Rattle.table_laws.proofs.Readings.{apart, kept, kept_fields, read_fields, tells_table}
use Rattle.table_laws.proofs.SameReading.{read_same}
use Rattle.table_laws.proofs.Sentences.{table_from, table_says}
use Rattle.table_laws.proofs.Sentences as sentences
use Rattle.table_laws.proofs.Walks.{Tells, onto, tells, walk_fields, windows_next}

-- the same refusal
same_refusal : {X : Type 0} {number place : ℕ} {e : Refusal} → ◌≡◌ {A = Result X Refusal} (refuse number place) (Err e) → (number ≡ e.number) × (place ≡ e.place)
same_refusal {number = number} {place = place} {e = e} h = let z : ◌≡◌ {A = Refusal} (record { number = number; place = place }) e = cc in (ap (λ r. r.number) z, ap (λ r. r.place) z)

refusal_is : {X : Type 0} (number place : ℕ) (e : Refusal) → e.number ≡ number → e.place ≡ place → ◌≡◌ {A = Result X Refusal} (refuse number place) (Err e)
refusal_is number place e n p = λ i. Err (record { number = sym n i; place = sym p i })

-- FIELDS

onto_refused : (ps : List Placed) (e : Refusal) → onto ps (Err e) ≡ Err e
onto_refused [] e = refl
onto_refused (p ∷ ps) e = ap (cons p) (onto_refused ps e)

-- what begins with a whole field is refused as that is
walk_refused : (place : ℕ) (s : Stood) (n : ℕ) (bytes : List ℕ) → 0 < length bytes → field s (first bytes) ≡ Err n → walk 0 place s bytes ≡ refuse n place
walk_refused place s n [] some e = absurd (omega arith)
walk_refused place s n (b ∷ bs) some e = ap (λ r. before r place (λ f. walk (2 + announced (b ∷ bs)) (place + 1) (next s f) bs)) e

begun : (bytes : List ℕ) (So : (tag : ℕ) (inner : List ℕ) → Type 0) (b : Begins bytes So) (s : Stood) → (0 < length bytes) × (field s (first bytes) ≡ test (admits s b.tag) 2 (content b.tag s.windows) b.content)
begun bytes So b s = (omega (arith, ap length b.whole), ap (field s) (ap first b.whole ∙ first_field b.tag b.content b.after b.short))

walk_breaks : (place : ℕ) (s : Stood) (n : ℕ) (bytes : List ℕ) → s.windows ≤ 8 → Octets bytes → Breaks s n bytes → walk 0 place s bytes ≡ refuse n place
walk_breaks place s n bytes few o (cut is some early) = walk_refused place s n bytes some (ap (field s) (cut_none bytes early) ∙ ap Err (sym is))
walk_breaks place s n bytes few o (misplaced is b) =
    let g = begun bytes _ b s in
    walk_refused place s n bytes g.0 (g.1 ∙ ap (λ t. test t 2 (content b.tag s.windows) b.content) b.so ∙ ap Err (sym is))
walk_breaks place s n bytes few o (missing is none no_output) =
    ap (walk 0 place s) none ∙ ap (λ t. ended t place) (le-ltb 0 s.outputs (omega arith)) ∙ ap (λ m. refuse m place) (sym is)
walk_breaks place s n bytes few o (wrong b) =
    let g = begun bytes _ b s in
    let known = tag_known s b.tag b.so.0 in
    let inside : Octets b.content = octets_front b.content b.after (octets_drop 3 (logs.field b.tag b.content ++ b.after) (subst Octets b.whole o)) in
    walk_refused place s n bytes g.0
    (g.1 ∙ ap (λ t. test t 2 (content b.tag s.windows) b.content) b.so.0 ∙ told b.tag s.windows few b.content n inside known.0 known.1 b.so.1)

windows_after : (fs : List Said) (s : Stood) → s.windows ≤ 8 → Passes s fs → (after s fs).windows ≤ 8
windows_after [] s few p = few
windows_after (f ∷ fs) s few p = windows_after fs (next s f) (windows_next s f p.2) p.3

field_told : (bytes : List ℕ) (e : Refusal) → Octets bytes → FieldBroken bytes e → read_placed bytes ≡ Err e
field_told bytes e o b =
    let here : ℕ = length (fields_bytes b.passed) in
    let at : e.place ≡ 0 + here = b.place ∙ omega arith in
    let few = windows_after b.passed start (omega arith) b.passes in
    let left : Octets b.rest = subst Octets (drop_at (fields_bytes b.passed) b.rest here refl) (octets_drop here (fields_bytes b.passed ++ b.rest) (subst Octets b.whole o)) in
    ap (whole (length bytes))
    (ap (walk 0 0 start) b.whole
    ∙ walk_fields b.passed 0 start b.rest b.passes
    ∙ ap (onto (placed 0 b.passed)) (walk_breaks (0 + here) (after start b.passed) e.number b.rest few left b.breaks ∙ refusal_is e.number (0 + here) e refl at)
    ∙ onto_refused (placed 0 b.passed) e)

-- RULES

keeps_says : (t : Table) (me : ℕ) (f : Said) → keeps t me f ≡ true → FieldKeeps t me f
keeps_says t me (life n) e = tt
keeps_says t me (input s) e = tt
keeps_says t me (output o) e = output_says t me o e
keeps_says t me (trigger g) e = (trigger_decides t g).0 e

keeps_from : (t : Table) (me : ℕ) (f : Said) → is_field f ≡ true → FieldKeeps t me f → keeps t me f ≡ true
keeps_from t me (life n) w h = refl
keeps_from t me (input s) w h = refl
keeps_from t me (output o) w h = output_from t me o ((sentences.output_decides o).0 w).parts.period h
keeps_from t me (trigger g) w h = (trigger_decides t g).1 h

kept_says : (t : Table) (me : ℕ) (fs : List Said) → kept t me fs ≡ true → AllKeep t me fs
kept_says t me [] e = tt
kept_says t me (f ∷ fs) e = let p = and_parts (keeps t me f) (kept t (me + streams_in f) fs) e in (keeps_says t me f p.0, kept_says t (me + streams_in f) fs p.1)

-- of fields that pass, one that keeps the rules by sentence does by the test
module _ (t : Table) where
  kept_from : (me : ℕ) (fs more : List Said) (s : Stood) → Passes s (fs ++ more) → AllKeep t me fs → kept t me fs ≡ true
  kept_from me [] more s p h = refl
  kept_from me (f ∷ fs) more s p h = and_from (keeps t me f) (kept t (me + streams_in f) fs) (keeps_from t me f p.1 h.0) (kept_from (me + streams_in f) fs more (next s f) p.3 h.1)

whole_at : (fs : List Said) (f : Said) (others : List Said) (s : Stood) → Passes s (fs ++ (f ∷ others)) → is_field f ≡ true
whole_at [] f others s p = p.1
whole_at (g ∷ fs) f others s p = whole_at fs f others (next s g) p.3

-- where the judging stops
record FirstBroken (t : Table) (me place : ℕ) (fs : List Said) (e : Refusal) : Type 0 where
  front : List Said
  field : Said
  others : List Said
  order : fs ≡ front ++ (field ∷ others)
  keep : kept t me front ≡ true
  breaks : keeps t (me + streams_in_all front) field ≡ false
  number : e.number ≡ 5
  at : e.place ≡ place + length (fields_bytes front)

sure_refused : (b : Bool) (number place : ℕ) (r : Result Table Refusal) (e : Refusal) → sure b number place r ≡ Err e → ((b ≡ false) × (number ≡ e.number) × (place ≡ e.place)) ⊎ ((b ≡ true) × (r ≡ Err e))
sure_refused true number place r e h = inr (refl, h)
sure_refused false number place r e h = let z = same_refusal {X = Table} {number = number} {place = place} {e = e} h in inl (refl, z.0, z.1)

judged_refused : (t : Table) (end : ℕ) (fs : List Said) (me place : ℕ) (e : Refusal) → judged t end me (placed place fs) ≡ Err e
    → FirstBroken t me place fs e ⊎ ((kept t me fs ≡ true) × (no_circle t ≡ false) × (e.number ≡ 7) × (e.place ≡ end))
judged_refused t end [] me place e h =
    ⊎_elim (λ p. inr (refl, p.0, sym p.1, sym p.2)) (λ p. apart (sym p.1)) (sure_refused (no_circle t) 7 end (Ok t) e h)
judged_refused t end (f ∷ fs) me place e h =
    let far : ℕ = place + length (field_bytes f) in
    ⊎_elim
    (λ p. inl (record {
      front = [];
      field = f;
      others = fs;
      order = refl;
      keep = refl;
      breaks = ap (λ m. keeps t m f) (add-zero me) ∙ p.0;
      number = sym p.1;
      at = sym p.2 ∙ sym (add-zero place);
    }))
    (λ p. ⊎_elim
    (λ b.
    let at = b.at in
    let sum = length-append (field_bytes f) (fields_bytes b.front) in
    let deep : me + (streams_in f + streams_in_all b.front) ≡ me + streams_in f + streams_in_all b.front = omega arith in
    inl (record {
      front = f ∷ b.front;
      field = b.field;
      others = b.others;
      order = ap (λ l. f ∷ l) b.order;
      keep = and_from (keeps t me f) (kept t (me + streams_in f) b.front) p.0 b.keep;
      breaks = ap (λ m. keeps t m b.field) deep ∙ b.breaks;
      number = b.number;
      at = omega arith;
    }))
    (λ c. inr (and_from (keeps t me f) (kept t (me + streams_in f) fs) p.0 c.0, c.1, c.2, c.3))
    (judged_refused t end fs (me + streams_in f) far e p.1))
    (sure_refused (keeps t me f) 5 place (judged t end (me + streams_in f) (placed far fs)) e h)

judged_broken : (t : Table) (end : ℕ) (front : List Said) (f : Said) (others : List Said) (me place : ℕ) → kept t me front ≡ true → keeps t (me + streams_in_all front) f ≡ false
    → judged t end me (placed place (front ++ (f ∷ others))) ≡ refuse 5 (place + length (fields_bytes front))
judged_broken t end [] f others me place k b =
    ap (λ t'. sure t' 5 place (judged t end (me + streams_in f) (placed (place + length (field_bytes f)) others))) (sym (ap (λ m. keeps t m f) (add-zero me)) ∙ b)
    ∙ ap (λ p. refuse 5 p) (sym (add-zero place))
judged_broken t end (g ∷ front) f others me place k b =
    let far : ℕ = place + length (field_bytes g) in
    let p = and_parts (keeps t me g) (kept t (me + streams_in g) front) k in
    let deep : me + streams_in g + streams_in_all front ≡ me + (streams_in g + streams_in_all front) = omega arith in
    let at : far + length (fields_bytes front) ≡ place + length (field_bytes g ++ fields_bytes front) = omega (arith, length-append (field_bytes g) (fields_bytes front)) in
    ap (λ t'. sure t' 5 place (judged t end (me + streams_in g) (placed far (front ++ (f ∷ others))))) p.0
    ∙ judged_broken t end front f others (me + streams_in g) far p.1 (ap (λ m. keeps t m f) deep ∙ b)
    ∙ ap (λ q. refuse 5 q) at

judged_circle : (t : Table) (end : ℕ) (fs : List Said) (me place : ℕ) → kept t me fs ≡ true → no_circle t ≡ false → judged t end me (placed place fs) ≡ refuse 7 end
judged_circle t end [] me place k c = ap (λ b. sure b 7 end (Ok t)) c
judged_circle t end (f ∷ fs) me place k c =
    let far : ℕ = place + length (field_bytes f) in
    let p = and_parts (keeps t me f) (kept t (me + streams_in f) fs) k in
    ap (λ b. sure b 5 place (judged t end (me + streams_in f) (placed far fs))) p.0 ∙ judged_circle t end fs (me + streams_in f) far p.1 c

-- BOTH WAYS

module _ (bytes : List ℕ) (e : Refusal) where
  rule_truthful : (t : Table) → bytes ≡ write t → Whole t → judged t (length (write t)) 0 (placed 0 (fields t)) ≡ Err e → Refused bytes e
  rule_truthful t is w h =
      let pass = (fields_pass t w).0 in
      ⊎_elim
      (λ b. by_rule (record {
        table = t;
        whole = is;
        parts = table_says t w;
        before = b.front;
        field = b.field;
        others = b.others;
        order = b.order;
        keep = kept_says t 0 b.front b.keep;
        breaks = λ k. both_ways (keeps t (0 + streams_in_all b.front) b.field) b.breaks
            (keeps_from t (0 + streams_in_all b.front) b.field (whole_at b.front b.field b.others start (subst (Passes start) b.order pass))
            (let none : streams_in_all b.front ≡ 0 + streams_in_all b.front = omega arith in subst (λ m. FieldKeeps t m b.field) none k));
        number = b.number;
        place = b.at ∙ omega arith;
      }))
      (λ c. by_circle (record {
        table = t;
        whole = is;
        parts = table_says t w;
        keep = kept_says t 0 (fields t) c.0;
        circle = circle_found t (rules_say t (sym (kept_fields t) ∙ c.0)) w.outputs.1 c.1;
        number = c.2;
        place = c.3 ∙ ap length (sym is);
      }))
      (judged_refused t (length (write t)) (fields t) 0 0 e h)

  walked : (r : Result (List Placed) Refusal) → walk 0 0 start bytes ≡ r → Octets bytes → read_placed bytes ≡ Err e → Refused bytes e
  walked (Ok ps) is o h =
      let w = tells_table bytes ps o is in
      rule_truthful w.0 w.1 w.2 (sym (read_fields w.0 w.2) ∙ ap read_placed (sym w.1) ∙ h)
  walked (Err f) is o h =
      let same : f ≡ e = (let it : Err f ≡ Err e = sym (ap (whole (length bytes)) is) ∙ h in cc) in
      let w = subst (Tells 0 start bytes) is (tells (length bytes) 0 start bytes (omega arith) (omega arith) o) in
      let at = w.3 in
      by_field (subst (FieldBroken bytes) same (record { passed = w.0; rest = w.1; whole = w.2; place = at ∙ omega arith; passes = w.4; breaks = w.5 }))

pub refusal_truthful : RefusalTruthful
refusal_truthful bytes e o h = walked bytes e (walk 0 0 start bytes) refl o (sym (read_same bytes o) ∙ h)

placed_told : (bytes : List ℕ) (e : Refusal) → Octets bytes → Refused bytes e → read_placed bytes ≡ Err e
placed_told bytes e o (by_field b) = field_told bytes e o b
placed_told bytes e o (by_rule b) =
    let t = b.table in
    let w = table_from t b.parts in
    let pass : Passes start (b.before ++ (b.field ∷ b.others)) = subst (Passes start) b.order (fields_pass t w).0 in
    let none : streams_in_all b.before ≡ 0 + streams_in_all b.before = omega arith in
    let broken : keeps t (0 + streams_in_all b.before) b.field ≡ false =
    false_from_ne_true (keeps t (0 + streams_in_all b.before) b.field) (λ k. b.breaks (subst (λ m. FieldKeeps t m b.field) (sym none) (keeps_says t (0 + streams_in_all b.before) b.field k))) in
    ap read_placed b.whole
    ∙ read_fields t w
    ∙ ap (λ fs. judged t (length (write t)) 0 (placed 0 fs)) b.order
    ∙ judged_broken t (length (write t)) b.before b.field b.others 0 0 (kept_from t 0 b.before (b.field ∷ b.others) start pass b.keep) broken
    ∙ refusal_is 5 (0 + length (fields_bytes b.before)) e b.number (b.place ∙ omega arith)
placed_told bytes e o (by_circle b) =
    let t = b.table in
    let w = table_from t b.parts in
    let pass = (fields_pass t w).0 in
    let keep : kept t 0 (fields t) ≡ true = kept_from t 0 (fields t) [] start (subst (Passes start) (sym (append-nil (fields t))) pass) b.keep in
    ap read_placed b.whole
    ∙ read_fields t w
    ∙ judged_circle t (length (write t)) (fields t) 0 0 keep (false_from_ne_true (no_circle t) (λ free. circle_free t free b.circle))
    ∙ refusal_is 7 (length (write t)) e b.number (b.place ∙ ap length b.whole)

pub refusal_told : RefusalTold
refusal_told bytes e o r = read_same bytes o ∙ placed_told bytes e o r
