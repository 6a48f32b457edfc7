-- What is written of a sound table are bytes, and not many.
use Rattle.std.proofs.Common.{◌≡◌, ℕ, zero, suc, ◌+◌, ◌*◌, ◌/◌, ◌%◌, ◌^◌, ◌<◌, ◌≤◌, true, ◌&&◌, ltb, List, [], ◌∷◌, ◌++◌, map, length, refl, arith, w32, of_z}
use Rattle.std.proofs.lemmas.List.{length-append}
use Rattle.std.proofs.lemmas.Bool.{and_parts, ltb-true}
use Rattle.aggregates.specs.declared.kind.Kind.{Kind}
use Rattle.aggregates.specs.declared.kind.Kind.TheVariants.{Count, Sum, Smallest, Largest, Average}
use Rattle.aggregates.specs.Kinds as kinds
use Rattle.frames.specs.Frames.{low_first}
use Rattle.log_laws.specs.Laws.{Octets}
use Rattle.tables.specs.declared.op.Op.{Op}
use Rattle.tables.specs.declared.op.Op.TheVariants.{Number, Now, Past, Held, Window, Add, Subtract, Multiply, Less, Equal, Choose}
use Rattle.tables.specs.declared.op.Pace.{Pace}
use Rattle.tables.specs.declared.op.Pace.TheVariants.{Event, Every}
use Rattle.tables.specs.Kinds.{Output, Said, Table, Trigger, input, life, output, trigger}
use Rattle.tables.specs.Reading.{within}
use Rattle.tables.specs.Rules.{all}
use Rattle.tables.specs.Sound.{is_byte, is_op, is_text, is_value, sound}
use Rattle.tables.specs.Tables.{Stood, content_bytes, field_bytes, fields, fields_bytes, next, op_bytes, ops_bytes, period_bytes, start, tag_of, tag_of_pace, write}
use Rattle.table_laws.specs.Laws.{WrittenLaw}
use Rattle.table_laws.specs.Walks.{Passes}
use Rattle.table_laws.specs.Whole.{is_field}
use Rattle.table_laws.proofs.Bytes.{octets_append, octets_more, octets_none}
use Rattle.table_laws.proofs.Contents.{output_parts, within_parts}
use Rattle.table_laws.proofs.Orders.{fields_pass}
use Rattle.table_laws.proofs.Readings.{sound_parts}
use Rattle.table_laws.proofs.Walks.{content_size, most_bytes}

-- BYTES

low_octets : (count n : ℕ) → Octets (low_first count n)
low_octets zero n = octets_none
low_octets (suc count) n = octets_more (n % 256) (low_first count (n / 256)) (omega arith) (low_octets count (n / 256))

text_octets : (low : ℕ) (s : List ℕ) → all (within low 126) s ≡ true → Octets s
text_octets low [] h = octets_none
text_octets low (b ∷ s) h =
    let p = and_parts (within low 126 b) (all (within low 126) s) h in
    let most = (within_parts low 126 b p.0).1 in
    octets_more b s (omega arith) (text_octets low s p.1)

kind_small : (k : Kind) → kinds.number k < 256
kind_small Count = omega arith
kind_small Sum = omega arith
kind_small Smallest = omega arith
kind_small Largest = omega arith
kind_small Average = omega arith

two_octets : (a b : ℕ) (bs : List ℕ) → a < 256 → b < 256 → Octets bs → Octets (a ∷ b ∷ bs)
two_octets a b bs first second o = octets_more a (b ∷ bs) first (octets_more b bs second o)

three_octets : (a b c : ℕ) (bs : List ℕ) → a < 256 → b < 256 → c < 256 → Octets bs → Octets (a ∷ b ∷ c ∷ bs)
three_octets a b c bs first second third o = octets_more a (b ∷ c ∷ bs) first (two_octets b c bs second third o)

op_octets : (o : Op) → is_op o ≡ true → Octets (op_bytes o)
op_octets (Number v) h = octets_more 1 (low_first 4 (of_z w32 v)) (omega arith) (low_octets 4 (of_z w32 v))
op_octets (Now s) h = two_octets 2 s [] (omega arith) (ltb-true s 256 h) octets_none
op_octets (Past s b d) h =
    let p = and_parts (is_byte s) (within 1 8 b && is_value d) h in
    let q = and_parts (within 1 8 b) (is_value d) p.1 in
    let most = (within_parts 1 8 b q.0).1 in
    three_octets 3 s b (low_first 4 (of_z w32 d)) (omega arith) (ltb-true s 256 p.0) (omega arith) (low_octets 4 (of_z w32 d))
op_octets (Held s d) h = two_octets 4 s (low_first 4 (of_z w32 d)) (omega arith) (ltb-true s 256 (and_parts (is_byte s) (is_value d) h).0) (low_octets 4 (of_z w32 d))
op_octets (Window s k u d) h =
    let p = and_parts (is_byte s) (ltb u (2 ^ 32) && is_value d) h in
    three_octets 5 s (kinds.number k) (low_first 4 u ++ low_first 4 (of_z w32 d)) (omega arith) (ltb-true s 256 p.0) (kind_small k) (octets_append (low_first 4 u) (low_first 4 (of_z w32 d)) (low_octets 4 u) (low_octets 4 (of_z w32 d)))
op_octets Add h = octets_more 6 [] (omega arith) octets_none
op_octets Subtract h = octets_more 7 [] (omega arith) octets_none
op_octets Multiply h = octets_more 8 [] (omega arith) octets_none
op_octets Less h = octets_more 9 [] (omega arith) octets_none
op_octets Equal h = octets_more 10 [] (omega arith) octets_none
op_octets Choose h = octets_more 11 [] (omega arith) octets_none

ops_octets : (os : List Op) → all is_op os ≡ true → Octets (ops_bytes os)
ops_octets [] h = octets_none
ops_octets (o ∷ os) h = let p = and_parts (is_op o) (all is_op os) h in octets_append (op_bytes o) (ops_bytes os) (op_octets o p.0) (ops_octets os p.1)

period_octets : (p : Pace) → Octets (period_bytes p)
period_octets Event = octets_none
period_octets (Every p) = low_octets 4 p

content_octets : (f : Said) → is_field f ≡ true → Octets (content_bytes f)
content_octets (life n) h = low_octets 4 n
content_octets (input s) h = text_octets 33 s (and_parts (within 1 16 (length s)) (all (within 33 126) s) h).1
content_octets (output o) h =
    let w = (output_parts o h).0 in
    let few = (within_parts 1 16 (length o.name) w.named).1 in
    octets_append (period_bytes o.pace) (length o.name ∷ (o.name ++ ops_bytes o.ops)) (period_octets o.pace)
    (octets_more (length o.name) (o.name ++ ops_bytes o.ops) (omega arith) (octets_append o.name (ops_bytes o.ops) (text_octets 33 o.name w.letters) (ops_octets o.ops w.ranges)))
content_octets (trigger g) h =
    let p = and_parts (is_byte g.stream) (is_text 32 32 g.message) h in
    octets_more g.stream g.message (ltb-true g.stream 256 p.0) (text_octets 32 g.message (and_parts (within 1 32 (length g.message)) (all (within 32 126) g.message) p.1).1)

pace_small : (p : Pace) → tag_of_pace p < 256
pace_small Event = omega arith
pace_small (Every p) = omega arith

tag_small : (f : Said) → tag_of f < 256
tag_small (life n) = omega arith
tag_small (input s) = omega arith
tag_small (output o) = pace_small o.pace
tag_small (trigger g) = omega arith

fields_octets : (fs : List Said) (s : Stood) → Passes s fs → Octets (fields_bytes fs)
fields_octets [] s h = octets_none
fields_octets (f ∷ fs) s h =
    let inner = content_bytes f in
    octets_append (field_bytes f) (fields_bytes fs)
    (octets_more (tag_of f) (low_first 2 (length inner) ++ inner) (tag_small f) (octets_append (low_first 2 (length inner)) inner (low_octets 2 (length inner)) (content_octets f h.1)))
    (fields_octets fs (next s f) h.3)

pub written_bytes : (t : Table) → sound t ≡ true → Octets (write t)
written_bytes t e = fields_octets (fields t) start (fields_pass t (sound_parts t e).parts).0

-- SIZES

-- the most bytes that fields have
abbrev most_all : List Said → ℕ
most_all [] = 0
most_all (f ∷ fs) = 3 + most_bytes f + most_all fs

fields_size : (fs : List Said) (s : Stood) → Passes s fs → length (fields_bytes fs) ≤ most_all fs
fields_size [] s h = omega arith
fields_size (f ∷ fs) s h =
    let here = content_size f h.1 in
    let others = fields_size fs (next s f) h.3 in
    let sum = length-append (field_bytes f) (fields_bytes fs) in
    omega arith

most_triggers : (gs : List Trigger) → most_all (map trigger gs) ≡ 36 * length gs
most_triggers [] = refl
most_triggers (g ∷ gs) = let others = most_triggers gs in omega arith

most_outputs : (os : List Output) (gs : List Trigger) → most_all (map output os ++ map trigger gs) ≡ 200 * length os + 36 * length gs
most_outputs [] gs = let others = most_triggers gs in omega arith
most_outputs (o ∷ os) gs = let others = most_outputs os gs in omega arith

most_inputs : (ns : List (List ℕ)) (os : List Output) (gs : List Trigger) → most_all (map input ns ++ (map output os ++ map trigger gs)) ≡ 19 * length ns + 200 * length os + 36 * length gs
most_inputs [] os gs = let others = most_outputs os gs in omega arith
most_inputs (n ∷ ns) os gs = let others = most_inputs ns os gs in omega arith

pub written_size : (t : Table) → sound t ≡ true → length (write t) ≤ 3647
written_size t e =
    let w = (sound_parts t e).parts in
    let size = fields_size (fields t) start (fields_pass t w).0 in
    let most = most_inputs t.inputs t.outputs t.triggers in
    let few_inputs = w.inputs.1 in
    let few_outputs = w.outputs.1 in
    let few_triggers = w.triggers in
    omega arith

pub written_law : WrittenLaw
written_law t e = (written_bytes t e, written_size t e)
