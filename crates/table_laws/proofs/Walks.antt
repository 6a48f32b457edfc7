-- The walk over the fields of some bytes.
use Rattle.std.proofs.Common.{◌≡◌, ℕ, zero, suc, ◌+◌, ◌^◌, ◌<◌, ◌≤◌, Bool, true, false, ltb, List, [], ◌∷◌, ◌++◌, length, drop, Some, Ok, Err, Result, sym, refl, ap, ◌∙◌, subst, add-zero, arith}
use Rattle.std.proofs.lemmas.List.{append_assoc, append-nil, drop_at, length-append, length-drop}
use Rattle.std.proofs.lemmas.Bool.{and_parts, lt-ltb, ltb-false, ltb-true}
use Rattle.log_laws.proofs.Fields.{announced_field, first_field}
use Rattle.table_laws.proofs.Framing.{first_cases}
use Rattle.log_laws.proofs.Numbers.{octets_drop}
use Rattle.frames.specs.Frames.{announced, first}
use Rattle.log_laws.specs.Laws.{Octets}
use Rattle.log_laws.specs.Breaks.{Begins}
use Rattle.log_laws.specs.Written as logs
use Rattle.tables.specs.declared.op.Pace.{Pace}
use Rattle.tables.specs.declared.op.Pace.TheVariants.{Event, Every}
use Rattle.tables.specs.Kinds.{Said, input, life, output, trigger}
use Rattle.tables.specs.Reading.{content, test, within}
use Rattle.tables.specs.Rules.{all}
use Rattle.tables.specs.Sound.{is_byte, is_text}
use Rattle.tables.specs.Tables.{Refusal, Stood, admits, content_bytes, field, field_bytes, fields_bytes, next, ops_bytes, period_bytes, refuse, tag_of}
use Rattle.table_laws.specs.Placing.{Placed, before, cons, ended, walk}
use Rattle.table_laws.specs.Laws.{Says}
use Rattle.table_laws.specs.Walks.{Breaks, Passes, after, cut, misplaced, missing, placed, wrong}
use Rattle.table_laws.specs.Whole.{is_field, windows_in_field}
use Rattle.table_laws.proofs.Contents.{content_on, content_says, output_parts, within_parts}
use Rattle.table_laws.proofs.Faults.{tag_known}
use Rattle.table_laws.proofs.Faults as faults
use Rattle.table_laws.proofs.Operands.{ops_size}
use Rattle.table_laws.proofs.Parts.{test_on}

-- SIZES

pub period_size : (p : Pace) → length (period_bytes p) ≤ 4
period_size Event = omega arith
period_size (Every p) = omega arith

-- the most bytes that a content has by its kind
abbrev pub most_bytes : Said → ℕ
most_bytes (life n) = 4
most_bytes (input s) = 16
most_bytes (output o) = 197
most_bytes (trigger g) = 33

pub content_size : (f : Said) → is_field f ≡ true → length (content_bytes f) ≤ most_bytes f
content_size (life n) h = omega arith
content_size (input s) h = (within_parts 1 16 (length s) (and_parts (within 1 16 (length s)) (all (within 33 126) s) h).0).1
content_size (output o) h =
    let w = (output_parts o h).0 in
    let name = (within_parts 1 16 (length o.name) w.named).1 in
    let few = (within_parts 1 16 (length o.ops) w.counted).1 in
    let pace = period_size o.pace in
    let ops = (ops_size o.ops).1 in
    let inner = length-append o.name (ops_bytes o.ops) in
    let outer = length-append (period_bytes o.pace) (length o.name ∷ (o.name ++ ops_bytes o.ops)) in
    omega arith
content_size (trigger g) h =
    let t = (and_parts (is_byte g.stream) (is_text 32 32 g.message) h).1 in
    let long = (within_parts 1 32 (length g.message) (and_parts (within 1 32 (length g.message)) (all (within 32 126) g.message) t).0).1 in
    omega arith

most_small : (f : Said) → most_bytes f ≤ 197
most_small (life n) = omega arith
most_small (input s) = omega arith
most_small (output o) = omega arith
most_small (trigger g) = omega arith

pub content_short : (f : Said) → is_field f ≡ true → length (content_bytes f) < 2 ^ 16
content_short f h = let size = content_size f h in let small = most_small f in omega arith

-- ONE FIELD

-- bytes that belong to the field before are passed over
pub passed : (inside place : ℕ) (s : Stood) (bytes : List ℕ) → inside ≤ length bytes → walk inside place s bytes ≡ walk 0 (place + inside) s (drop inside bytes)
passed zero place s bytes h = ap (λ p. walk 0 p s bytes) (sym (add-zero place))
passed (suc inside) place s [] h = absurd (omega arith)
passed (suc inside) place s (b ∷ bytes) h =
    let next : place + 1 + inside ≡ place + suc inside = omega arith in
    passed inside (place + 1) s bytes (omega arith) ∙ ap (λ p. walk 0 p s (drop inside bytes)) next

-- the walk after the first byte of a whole field
pub walk_next : (place : ℕ) (s : Stood) (b n : ℕ) (bytes : List ℕ) → 2 + n ≤ length bytes → walk (2 + n) (place + 1) s bytes ≡ walk 0 (place + (3 + n)) s (drop (3 + n) (b ∷ bytes))
walk_next place s b n bytes h =
    let next_place : place + 1 + (2 + n) ≡ place + (3 + n) = omega arith in
    let one : suc (2 + n) ≡ 3 + n = omega arith in
    passed (2 + n) (place + 1) s bytes h ∙ (λ i. walk 0 (next_place i) s (drop (one i) (b ∷ bytes)))

-- a field that may stand is walked over
walk_field : (place : ℕ) (s : Stood) (f : Said) (rest : List ℕ) → admits s (tag_of f) ≡ true → is_field f ≡ true → s.windows + windows_in_field f ≤ 8
    → walk 0 place s (field_bytes f ++ rest) ≡ cons (record { said = f; place = place }) (walk 0 (place + length (field_bytes f)) (next s f) rest)
walk_field place s f rest may whole few =
    let bytes : List ℕ = field_bytes f ++ rest in
    let tail : List ℕ = drop 1 bytes in
    let n : ℕ = announced bytes in
    let short = content_short f whole in
    let size = announced_field (tag_of f) (content_bytes f) rest short in
    let long : 3 + n ≡ length (field_bytes f) = omega arith in
    let inside : 2 + n ≤ length tail = omega (arith, length-append (content_bytes f) rest) in
    let is : field s (first bytes) ≡ Ok f =
    ap (field s) (first_field (tag_of f) (content_bytes f) rest short)
    ∙ test_on (admits s (tag_of f)) 2 (content (tag_of f) s.windows) (content_bytes f) may
    ∙ content_on s.windows f whole few in
    let left : drop (3 + n) bytes ≡ rest = drop_at (field_bytes f) rest (3 + n) (sym long) in
    ap (λ r. before r place (λ g. walk (2 + n) (place + 1) (next s g) tail)) is
    ∙ ap (cons (record { said = f; place = place })) (walk_next place (next s f) (tag_of f) n tail inside ∙ (λ i. walk 0 (place + long i) (next s f) (left i)))

-- MANY FIELDS

-- placed fields before all that follows
abbrev pub onto : List Placed → Result (List Placed) Refusal → Result (List Placed) Refusal
onto [] r = r
onto (f ∷ fs) r = cons f (onto fs r)

pub onto_ok : (fs gs : List Placed) → onto fs (Ok gs) ≡ Ok (fs ++ gs)
onto_ok [] gs = refl
onto_ok (f ∷ fs) gs = ap (cons f) (onto_ok fs gs)

-- fields that pass are walked over
pub walk_fields : (fs : List Said) (place : ℕ) (s : Stood) (rest : List ℕ) → Passes s fs → walk 0 place s (fields_bytes fs ++ rest) ≡ onto (placed place fs) (walk 0 (place + length (fields_bytes fs)) (after s fs) rest)
walk_fields [] place s rest p = ap (λ q. walk 0 q s rest) (sym (add-zero place))
walk_fields (f ∷ fs) place s rest p =
    let here : ℕ = length (field_bytes f) in
    let far : place + here + length (fields_bytes fs) ≡ place + length (field_bytes f ++ fields_bytes fs) = omega (arith, length-append (field_bytes f) (fields_bytes fs)) in
    ap (walk 0 place s) (append_assoc (field_bytes f) (fields_bytes fs) rest)
    ∙ walk_field place s f (fields_bytes fs ++ rest) p.0 p.1 p.2
    ∙ ap (cons (record { said = f; place = place })) (walk_fields fs (place + here) (next s f) rest p.3 ∙ ap (λ q. onto (placed (place + here) fs) (walk 0 q (after s (f ∷ fs)) rest)) far)

-- and to the end where an output stood
pub walk_all : (fs : List Said) (place : ℕ) (s : Stood) → Passes s fs → 0 < (after s fs).outputs → walk 0 place s (fields_bytes fs) ≡ Ok (placed place fs)
walk_all fs place s p some =
    ap (walk 0 place s) (sym (append-nil (fields_bytes fs)))
    ∙ walk_fields fs place s [] p
    ∙ ap (λ b. onto (placed place fs) (ended b (place + length (fields_bytes fs)))) (lt-ltb 0 (after s fs).outputs some)
    ∙ onto_ok (placed place fs) []
    ∙ ap Ok (append-nil (placed place fs))

-- WHAT THE WALK TELLS

-- the fields that the bytes are; or the fields before the refusal's place, and what breaks there
abbrev pub Tells : (place : ℕ) (s : Stood) (bytes : List ℕ) → Result (List Placed) Refusal → Type 0
Tells place s bytes (Ok ps) = (fs : List Said) × (ps ≡ placed place fs) × (bytes ≡ fields_bytes fs) × Passes s fs × (0 < (after s fs).outputs)
Tells place s bytes (Err e) = (fs : List Said) × (rest : List ℕ) × (bytes ≡ fields_bytes fs ++ rest) × (e.place ≡ place + length (fields_bytes fs)) × Passes s fs × Breaks (after s fs) e.number rest

pub windows_next : (s : Stood) (f : Said) → s.windows + windows_in_field f ≤ 8 → (next s f).windows ≤ 8
windows_next s (life n) few = omega arith
windows_next s (input n) few = omega arith
windows_next s (output o) few = few
windows_next s (trigger g) few = omega arith

tells_more : (place : ℕ) (s : Stood) (f : Said) (rest : List ℕ) (r : Result (List Placed) Refusal) → admits s (tag_of f) ≡ true → is_field f ≡ true → s.windows + windows_in_field f ≤ 8
    → Tells (place + length (field_bytes f)) (next s f) rest r → Tells place s (field_bytes f ++ rest) (cons (record { said = f; place = place }) r)
tells_more place s f rest (Ok ps) may whole few (fs, is, bytes, pass, some) =
    (f ∷ fs, ap (λ l. record { said = f; place = place } ∷ l) is, ap (λ l. field_bytes f ++ l) bytes, (may, whole, few, pass), some)
tells_more place s f rest (Err e) may whole few (fs, left, bytes, at, pass, breaks) =
    (f ∷ fs, left, ap (λ l. field_bytes f ++ l) bytes ∙ sym (append_assoc (field_bytes f) (fields_bytes fs) left), omega (arith, length-append (field_bytes f) (fields_bytes fs)), (may, whole, few, pass), breaks)

tells_refused : (place : ℕ) (s : Stood) (bytes : List ℕ) (number : ℕ) → Breaks s number bytes → Tells place s bytes (refuse number place)
tells_refused place s bytes number b = ([], bytes, refl, omega arith, tt, b)

module _ (place : ℕ) (s : Stood) (bytes : List ℕ) (tag : ℕ) (inner rest : List ℕ) (whole : bytes ≡ logs.field tag inner ++ rest) (short : length inner < 2 ^ 16) (octets : Octets inner) (few : s.windows ≤ 8) where
  begins : (So : (tag : ℕ) (inner : List ℕ) → Type 0) → So tag inner → Begins bytes So
  begins So so = record { tag = tag; content = inner; after = rest; whole = whole; short = short; so = so }

  tells_content : (r : Result Said ℕ) (on : Said → Result (List Placed) Refusal) → admits s tag ≡ true → content tag s.windows inner ≡ r
      → ((f : Said) → s.windows + windows_in_field f ≤ 8 → Tells (place + length (logs.field tag inner)) (next s f) rest (on f)) → Tells place s bytes (before r place on)
  tells_content (Err n) on may is h = let known = tag_known s tag may in tells_refused place s bytes n (wrong (begins _ (may, faults.wrong tag s.windows few inner octets n known.0 known.1 is)))
  tells_content (Ok f) on may is h =
      let says : Says tag s.windows inner f = content_says tag s.windows inner f few octets is in
      let same : logs.field tag inner ≡ field_bytes f = (λ i. logs.field (says.0 i) (says.1 i)) in
      subst (λ l. Tells place s l (cons (record { said = f; place = place }) (on f))) (sym (whole ∙ ap (λ l. l ++ rest) same))
      (tells_more place s f rest (on f) (ap (admits s) (sym says.0) ∙ may) says.2 says.3 (subst (λ l. Tells (place + length l) (next s f) rest (on f)) same (h f says.3)))

  tells_field : (on : Said → Result (List Placed) Refusal) → ((f : Said) → s.windows + windows_in_field f ≤ 8 → Tells (place + length (logs.field tag inner)) (next s f) rest (on f))
      → Tells place s bytes (before (field s (Some (record { tag = tag; content = inner }))) place on)
  tells_field on h = by (admits s tag) refl
    where
      by : (b : Bool) → admits s tag ≡ b → Tells place s bytes (before (test b 2 (content tag s.windows) inner) place on)
      by true may = tells_content (content tag s.windows inner) on may refl h
      by false may = tells_refused place s bytes 2 (misplaced refl (begins _ may))

pub tells : (most place : ℕ) (s : Stood) (bytes : List ℕ) → length bytes ≤ most → s.windows ≤ 8 → Octets bytes → Tells place s bytes (walk 0 place s bytes)
tells most place s [] h few o = by (ltb 0 s.outputs) refl
  where
    by : (b : Bool) → ltb 0 s.outputs ≡ b → Tells place s [] (ended b place)
    by true some = ([], refl, refl, tt, ltb-true 0 s.outputs some)
    by false none = tells_refused place s [] 2 (missing refl refl (let z = ltb-false 0 s.outputs none in omega arith))
tells zero place s (b ∷ bs) h few o = absurd (omega arith)
tells (suc most) place s (b ∷ bs) h few o =
    let bytes : List ℕ = b ∷ bs in
    let n : ℕ = announced bytes in
    let rest : List ℕ = drop (3 + n) bytes in
    let less : length rest ≤ most = rw (length-drop (3 + n) bytes) (omega arith) in
    let on : Said → Result (List Placed) Refusal = λ f. walk (2 + n) (place + 1) (next s f) bs in
    first_cases bytes (λ r. Tells place s bytes (before (field s r) place on)) o
    (λ early. tells_refused place s bytes 1 (cut refl (omega arith) early))
    (λ tag inner whole short octets.
    let size : n ≡ length inner = ap announced whole ∙ announced_field tag inner rest short in
    let long : suc (length bs) ≡ 3 + (length inner + length rest) = ap length whole ∙ omega (arith, length-append inner rest) in
    let far : place + (3 + n) ≡ place + length (logs.field tag inner) = omega arith in
    tells_field place s bytes tag inner rest whole short octets few on
    (λ f fewer. subst (Tells (place + length (logs.field tag inner)) (next s f) rest) (sym (walk_next place (next s f) b n bs (omega arith) ∙ ap (λ p. walk 0 p (next s f) rest) far))
    (tells most (place + length (logs.field tag inner)) (next s f) rest less (windows_next s f fewer) (octets_drop (3 + n) bytes o))))
