-- The content of a field, read and written.
use Rattle.std.proofs.Common.{◌≡◌, ℕ, zero, suc, ◌+◌, ◌≤◌, Bool, true, false, leb, List, [], ◌∷◌, ◌++◌, length, Ok, Result, sym, refl, ap, ◌∙◌, subst, arith}
use Rattle.std.proofs.lemmas.Bool.{and_from, and_parts, le-leb, leb-true}
use Rattle.log_laws.specs.Laws.{Octets}
use Rattle.tables.proofs.Readers.{never}
use Rattle.tables.proofs.Texts.{some_on}
use Rattle.tables.specs.declared.op.Op.{Op}
use Rattle.tables.specs.declared.op.Pace.{Pace}
use Rattle.tables.specs.declared.op.Pace.TheVariants.{Event, Every}
use Rattle.tables.specs.Kinds.{Output, Said, input, life, output, trigger}
use Rattle.tables.specs.Reading.{closed, content, fits, ops, outputs, some, test, text, till, with_ops, within}
use Rattle.tables.specs.Rules.{all}
use Rattle.tables.specs.Sound.{is_byte, is_op, is_output, is_pace, is_text, is_trigger}
use Rattle.tables.specs.Tables.{content_bytes, ops_bytes, period_bytes, tag_of, tag_of_pace, windows_of}
use Rattle.tables.specs.Tables as write
use Rattle.table_laws.specs.Laws.{ContentLaw, Says}
use Rattle.table_laws.specs.Whole.{is_field, windows_in_field}
use Rattle.table_laws.proofs.Operands.{ops_got, ops_on, ops_size}
use Rattle.table_laws.proofs.Parts.{Done, byte_got, closed_got, not_known, ranged_got, some_got, test_got, test_on, text_got, text_on, till_got, till_on, word_got, word_on}

pub within_parts : (low high n : ℕ) → within low high n ≡ true → (low ≤ n) × (n ≤ high)
within_parts low high n e = let p = and_parts (leb low n) (leb n high) e in (leb-true low n p.0, leb-true n high p.1)

pub within_from : (low high n : ℕ) → low ≤ n → n ≤ high → within low high n ≡ true
within_from low high n a b = and_from (leb low n) (leb n high) (le-leb low n a) (le-leb n high b)

abbrev pub made : Pace → List ℕ → List Op → Output
made p s os = record { pace = p; name = s; ops = os }

-- an output from its name on
abbrev pub named_bytes : List ℕ → List Op → List ℕ
named_bytes s os = length s ∷ (s ++ ops_bytes os)

-- the parts of an output, each in range
pub record Ranged (o : Output) : Type 0 where
  pub period : is_pace o.pace ≡ true
  pub named : within 1 16 (length o.name) ≡ true
  pub letters : all (within 33 126) o.name ≡ true
  pub counted : within 1 16 (length o.ops) ≡ true
  pub ranges : all is_op o.ops ≡ true

pub output_parts : (o : Output) → is_output o ≡ true → Ranged o × (fits 0 o.ops ≡ true)
output_parts o e =
    let a = and_parts _ _ e in
    let b = and_parts _ _ a.1 in
    let n = and_parts _ _ b.0 in
    let c = and_parts _ _ b.1 in
    let d = and_parts _ _ c.1 in
    (record { period = a.0; named = n.0; letters = n.1; counted = c.0; ranges = d.0 }, d.1)

pub output_from : (o : Output) → Ranged o → fits 0 o.ops ≡ true → is_output o ≡ true
output_from o w stack = and_from _ _ w.period (and_from _ _ (and_from _ _ w.named w.letters) (and_from _ _ w.counted (and_from _ _ w.ranges stack)))

ops_some : (os : List Op) → 1 ≤ length (ops_bytes os) → 1 ≤ length os
ops_some [] some = absurd (omega arith)
ops_some (o ∷ os) some = omega arith

-- the result once all is read
abbrev finish : Pace → List ℕ → List Op → Result Said ℕ
finish p s os = test (fits 0 os) 6 (closed (output (made p s os))) []

-- an output from its name on was read, and judged by the stack rule
record GotOutput (p : Pace) (w : ℕ) (bs : List ℕ) (r : Result Said ℕ) : Type 0 where
  name : List ℕ
  ops : List Op
  is : bs ≡ named_bytes name ops
  fine : is_pace p ≡ true → Ranged (made p name ops)
  few : w + windows_of ops ≤ 8
  on : finish p name ops ≡ r

outputs_got : (p : Pace) (w : ℕ) (bs : List ℕ) (r : Result Said ℕ) → Done r → w ≤ 8 → Octets bs → outputs p w bs ≡ r → GotOutput p w bs r
outputs_got p w bs r z few o e =
    let a = ranged_got 1 16 (λ n. text 33 n (with_ops p w)) bs r z o e in
    let b = text_got 33 a.value (with_ops p w) a.rest r z a.octets a.on in
    let c = some_got (ops 16 w (finish p b.value)) b.rest r z b.on in
    let d = ops_got 16 w (finish p b.value) b.rest r z few b.octets c.1 in
    let long = b.fine.0 in
    let many : 1 ≤ length (ops_bytes d.value) = subst (λ l. 1 ≤ length l) d.is c.0 in
    record {
      name = b.value;
      ops = d.value;
      is = a.is ∙ (λ i. sym long i ∷ (b.is ∙ ap (λ l. b.value ++ l) d.is) i);
      fine = λ pace. record {
        period = pace;
        named = subst (λ n. within 1 16 n ≡ true) (sym long) a.fine;
        letters = b.fine.1;
        counted = within_from 1 16 (length d.value) (ops_some d.value many) d.short;
        ranges = d.fine;
      };
      few = d.few;
      on = d.on;
    }

outputs_on : (p : Pace) (w : ℕ) (s : List ℕ) (os : List Op) → Ranged (made p s os) → w + windows_of os ≤ 8 → outputs p w (named_bytes s os) ≡ finish p s os
outputs_on p w s os h few =
    let counted = within_parts 1 16 (length os) h.counted in
    test_on (within 1 16 (length s)) 4 (text 33 (length s) (with_ops p w)) (s ++ ops_bytes os) h.named
    ∙ text_on 33 s (with_ops p w) (ops_bytes os) h.letters
    ∙ some_on (ops 16 w (finish p s)) (ops_bytes os) (let size = (ops_size os).0 in let some = counted.0 in omega arith)
    ∙ ops_on os 16 w (finish p s) counted.1 h.ranges few

-- THE WHOLE CONTENT

-- the parts of a field are in range
abbrev pub RangedField : Said → Type 0
RangedField (life n) = within 1 2000000000 n ≡ true
RangedField (input s) = is_text 33 16 s ≡ true
RangedField (output o) = Ranged o
RangedField (trigger g) = is_trigger g ≡ true

-- what is left to judge once they are
abbrev pub stacked : Said → Result Said ℕ
stacked (life n) = Ok (life n)
stacked (input s) = Ok (input s)
stacked (output o) = test (fits 0 o.ops) 6 (closed (output o)) []
stacked (trigger g) = Ok (trigger g)

-- the tag and the bytes are those of a field in range, which has no ninth window
pub record Spelled (tag w : ℕ) (bs : List ℕ) (r : Result Said ℕ) : Type 0 where
  pub field : Said
  pub tagged : tag ≡ tag_of field
  pub is : bs ≡ content_bytes field
  pub ranges : RangedField field
  pub few : w + windows_in_field field ≤ 8
  pub on : stacked field ≡ r

spelled_output : (p : Pace) (w : ℕ) (bs : List ℕ) (r : Result Said ℕ) → is_pace p ≡ true → GotOutput p w bs r → (all_bytes : List ℕ) → all_bytes ≡ period_bytes p ++ bs → Spelled (tag_of_pace p) w all_bytes r
spelled_output p w bs r pace g all_bytes is =
    record { field = output (made p g.name g.ops); tagged = refl; is = is ∙ ap (λ l. period_bytes p ++ l) g.is; ranges = g.fine pace; few = g.few; on = g.on }

pub content_got : (tag w : ℕ) (bs : List ℕ) (r : Result Said ℕ) → Done r → w ≤ 8 → Octets bs → content tag w bs ≡ r → Spelled tag w bs r
content_got zero w bs r z few o e = not_known z e
content_got (suc zero) w bs r z few o e =
    let p = word_got (λ n. test (within 1 2000000000 n) 4 (closed (life n))) bs r z o e in
    let t = test_got (within 1 2000000000 p.value) (closed (life p.value)) p.rest r z p.on in
    let c = closed_got (life p.value) p.rest r z t.1 in
    record { field = life p.value; tagged = refl; is = p.is ∙ ap (λ l. write.word p.value ++ l) c.0; ranges = t.0; few = omega arith; on = c.1 }
content_got (suc (suc zero)) w bs r z few o e =
    let s = some_got (till 33 16 (λ s. Ok (input s))) bs r z e in
    let t = till_got 33 16 (λ s. Ok (input s)) bs r z s.1 in
    record { field = input bs; tagged = refl; is = refl; ranges = and_from _ _ (within_from 1 16 (length bs) s.0 t.0) t.1; few = omega arith; on = t.2 }
content_got (suc (suc (suc zero))) w bs r z few o e = spelled_output Event w bs r refl (outputs_got Event w bs r z few o e) bs refl
content_got (suc (suc (suc (suc zero)))) w bs r z few o e =
    let p = word_got (λ p. test (within 1 86400000 p) 4 (outputs (Every p) w)) bs r z o e in
    let t = test_got (within 1 86400000 p.value) (outputs (Every p.value) w) p.rest r z p.on in
    spelled_output (Every p.value) w p.rest r t.0 (outputs_got (Every p.value) w p.rest r z few p.octets t.1) bs p.is
content_got (suc (suc (suc (suc (suc zero))))) w bs r z few o e =
    let p = byte_got (λ s. some (till 32 32 (λ m. Ok (trigger (record { stream = s; message = m }))))) bs r z o e in
    let s = some_got (till 32 32 (λ m. Ok (trigger (record { stream = p.value; message = m })))) p.rest r z p.on in
    let t = till_got 32 32 (λ m. Ok (trigger (record { stream = p.value; message = m }))) p.rest r z s.1 in
    record {
      field = trigger (record { stream = p.value; message = p.rest });
      tagged = refl;
      is = p.is;
      ranges = and_from _ _ p.fine (and_from _ _ (within_from 1 32 (length p.rest) s.0 t.0) t.1);
      few = omega arith;
      on = t.2;
    }
content_got (suc (suc (suc (suc (suc (suc n)))))) w bs r z few o e = not_known z e

output_on : (w : ℕ) (p : Pace) (s : List ℕ) (os : List Op) → Ranged (made p s os) → w + windows_of os ≤ 8 → content (tag_of_pace p) w (period_bytes p ++ named_bytes s os) ≡ finish p s os
output_on w Event s os h few = outputs_on Event w s os h few
output_on w (Every p) s os h few =
    let range = within_parts 1 86400000 p h.period in
    let most = range.1 in
    word_on (λ p. test (within 1 86400000 p) 4 (outputs (Every p) w)) p (named_bytes s os) (omega arith)
    ∙ test_on (within 1 86400000 p) 4 (outputs (Every p) w) (named_bytes s os) h.period
    ∙ outputs_on (Every p) w s os h few

pub content_stacked : (w : ℕ) (f : Said) → RangedField f → w + windows_in_field f ≤ 8 → content (tag_of f) w (content_bytes f) ≡ stacked f
content_stacked w (life n) h few =
    let most = (within_parts 1 2000000000 n h).1 in
    word_on (λ n. test (within 1 2000000000 n) 4 (closed (life n))) n [] (omega arith) ∙ test_on (within 1 2000000000 n) 4 (closed (life n)) [] h
content_stacked w (input s) h few =
    let p = and_parts (within 1 16 (length s)) (all (within 33 126) s) h in
    let long = within_parts 1 16 (length s) p.0 in
    some_on (till 33 16 (λ s. Ok (input s))) s long.0 ∙ till_on 33 16 (λ s. Ok (input s)) s long.1 p.1
content_stacked w (output o) h few = output_on w o.pace o.name o.ops h few
content_stacked w (trigger g) h few =
    let k : List ℕ → Result Said ℕ = λ m. Ok (trigger (record { stream = g.stream; message = m })) in
    let p = (and_parts (is_byte g.stream) (is_text 32 32 g.message) h).1 in
    let q = and_parts (within 1 32 (length g.message)) (all (within 32 126) g.message) p in
    let long = within_parts 1 32 (length g.message) q.0 in
    some_on (till 32 32 k) g.message long.0 ∙ till_on 32 32 k g.message long.1 q.1

-- THE STACK RULE

-- a field in range that keeps the stack rule is whole
pub whole_stacked : (f g : Said) → RangedField f → stacked f ≡ Ok g → (f ≡ g) × (is_field f ≡ true)
whole_stacked (life n) g h e = (cc, h)
whole_stacked (input s) g h e = (cc, h)
whole_stacked (output o) g h e = by (fits 0 o.ops) refl e
  where
    by : (b : Bool) → fits 0 o.ops ≡ b → test b 6 (closed (output o)) [] ≡ Ok g → (output o ≡ g) × (is_output o ≡ true)
    by true fit same = (cc, output_from o h fit)
    by false fit same = never same
whole_stacked (trigger t) g h e = (cc, h)

pub whole_ranged : (f : Said) → is_field f ≡ true → RangedField f × (stacked f ≡ Ok f)
whole_ranged (life n) h = (h, refl)
whole_ranged (input s) h = (h, refl)
whole_ranged (output o) h = let p = output_parts o h in (p.0, test_on (fits 0 o.ops) 6 (closed (output o)) [] p.1)
whole_ranged (trigger g) h = (h, refl)

pub content_says : (tag w : ℕ) (bs : List ℕ) (f : Said) → w ≤ 8 → Octets bs → content tag w bs ≡ Ok f → Says tag w bs f
content_says tag w bs f few o e =
    let s = content_got tag w bs (Ok f) tt few o e in
    let p = whole_stacked s.field f s.ranges s.on in
    subst (Says tag w bs) p.0 (s.tagged, s.is, p.1, s.few)

pub content_on : (w : ℕ) (f : Said) → is_field f ≡ true → w + windows_in_field f ≤ 8 → content (tag_of f) w (content_bytes f) ≡ Ok f
content_on w f h few = let p = whole_ranged f h in content_stacked w f p.0 few ∙ p.1

pub content_law : ContentLaw
content_law tag w bs f few o = (content_says tag w bs f few o, λ p. (λ i. content (p.0 i) w (p.1 i)) ∙ content_on w f p.2 p.3)
