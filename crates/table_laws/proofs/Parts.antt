-- The parts of a field: what a reader of one read, and that it reads what was written.
use Rattle.std.proofs.Common.{◌≡◌, ℕ, zero, suc, ◌-◌, ◌/◌, ◌%◌, ◌^◌, ◌<◌, ◌≤◌, Bool, true, false, cond, eqb, ltb, List, [], ◌∷◌, ◌++◌, length, ℤ, pos, negsuc, Some, None, Ok, Err, Option, Result, sym, refl, ap, ◌∙◌, subst, arith, w32, SFits, to_z, of_z}
use mir.Val.{sel}
use Rattle.std.proofs.lemmas.Int.{of_z-to_z, to_z-of_z}
use Rattle.std.proofs.lemmas.Bool.{and_from, and_parts, eqb-true, lt-ltb, ltb-false, ltb-true}
use Rattle.aggregates.specs.declared.kind.Kind.{Kind}
use Rattle.aggregates.specs.declared.kind.Kind.TheVariants.{Count, Sum, Smallest, Largest, Average}
use Rattle.aggregates.specs.Kinds as kinds
use Rattle.log_laws.proofs.Numbers.{low_number, number_low, number_small}
use Rattle.frames.specs.Frames.{number}
use Rattle.log_laws.specs.Laws.{Octets}
use Rattle.tables.proofs.Aggregates.{kind_is}
use Rattle.tables.specs.Reading.{aggregate, byte, closed, found, given, kind_of, ranged, signed, some, test, text, till, within, word, word_of}
use Rattle.tables.specs.Rules.{all}
use Rattle.tables.specs.Sound.{is_byte, is_value}
use Rattle.tables.specs.Tables as write

-- nothing is wrong with the bytes: a field was read, or only the stack rule is broken
abbrev pub Done : {X : Type 0} → Result X ℕ → Type 0
Done (Ok x) = Unit {0}
Done (Err e) = e ≡ 6

pub not_known : {X Y : Type 0} {r : Result X ℕ} → Done r → Err 2 ≡ r → Y
not_known d e = let z : ◌≡◌ {A = ℕ} 2 6 = subst Done (sym e) d in absurd (omega arith)

pub not_early : {X Y : Type 0} {r : Result X ℕ} → Done r → Err 3 ≡ r → Y
not_early d e = let z : ◌≡◌ {A = ℕ} 3 6 = subst Done (sym e) d in absurd (omega arith)

pub not_off : {X Y : Type 0} {r : Result X ℕ} → Done r → Err 4 ≡ r → Y
not_off d e = let z : ◌≡◌ {A = ℕ} 4 6 = subst Done (sym e) d in absurd (omega arith)

-- a value was read, whose bytes stand in front of others, and reading went on to a result
pub record Got {V X : Type 0} (bytes_of : V → List ℕ) (Fine : V → Type 0) (k : V → List ℕ → Result X ℕ) (bs : List ℕ) (r : Result X ℕ) : Type 0 where
  pub value : V
  pub rest : List ℕ
  pub is : bs ≡ bytes_of value ++ rest
  pub fine : Fine value
  pub octets : Octets rest
  pub on : k value rest ≡ r

abbrev pub single : ℕ → List ℕ
single b = b ∷ []

-- TESTS

pub test_got : {X : Type 0} (b : Bool) (k : List ℕ → Result X ℕ) (bs : List ℕ) (r : Result X ℕ) → Done r → test b 4 k bs ≡ r → (b ≡ true) × (k bs ≡ r)
test_got true k bs r d e = (refl, e)
test_got false k bs r d e = not_off d e

pub test_on : {X : Type 0} (b : Bool) (n : ℕ) (k : List ℕ → Result X ℕ) (bs : List ℕ) → b ≡ true → test b n k bs ≡ k bs
test_on b n k bs e = ap (λ t. test t n k bs) e

pub some_got : {X : Type 0} (k : List ℕ → Result X ℕ) (bs : List ℕ) (r : Result X ℕ) → Done r → some k bs ≡ r → (1 ≤ length bs) × (k bs ≡ r)
some_got k [] r d e = not_early d e
some_got k (b ∷ bs) r d e = (omega arith, e)

pub closed_got : {X : Type 0} (y : X) (bs : List ℕ) (r : Result X ℕ) → Done r → closed y bs ≡ r → (bs ≡ []) × (Ok y ≡ r)
closed_got y [] r d e = (refl, e)
closed_got y (b ∷ bs) r d e = not_early d e

-- NUMBERS

value_read : (n : ℕ) → n < 2 ^ 32 → is_value (to_z w32 n) ≡ true
value_read n small = by (ltb n (2 ^ 31)) refl
  where
    by : (b : Bool) → ltb n (2 ^ 31) ≡ b → is_value (sel b (pos n) (negsuc (2 ^ 32 - suc n))) ≡ true
    by true e = e
    by false e = lt-ltb (2 ^ 32 - suc n) (2 ^ 31) (omega (arith, ltb-false n (2 ^ 31) e))

pub value_fits : (v : ℤ) → is_value v ≡ true → SFits w32 v
value_fits (pos n) e = record { sfits = ltb-true n (2 ^ 31) e }
value_fits (negsuc n) e = record { sfits = ltb-true n (2 ^ 31) e }

pub value_small : (v : ℤ) → is_value v ≡ true → of_z w32 v < 2 ^ 32
value_small (pos n) e = omega (arith, ltb-true n (2 ^ 31) e)
value_small (negsuc n) e = omega arith

found_number : (n : ℕ) (ks : List Kind) (k : Kind) → found n ks ≡ Some k → kinds.number k ≡ n
found_number n [] k e = absurd cc
found_number n (j ∷ js) k e = by (eqb (kinds.number j) n) refl e (found_number n js k)
  where
    by : (b : Bool) → eqb (kinds.number j) n ≡ b → cond b (Some j) (found n js) ≡ Some k → (found n js ≡ Some k → kinds.number k ≡ n) → kinds.number k ≡ n
    by true is same others = let it : j ≡ k = cc in ap kinds.number (sym it) ∙ eqb-true (kinds.number j) n is
    by false is same others = others same

kind_number : (n : ℕ) (k : Kind) → kind_of n ≡ Some k → kinds.number k ≡ n
kind_number n k e = found_number n (Count ∷ Sum ∷ Smallest ∷ Largest ∷ Average ∷ []) k e

module _ {X : Type 0} where
  pub byte_got : (k : ℕ → List ℕ → Result X ℕ) (bs : List ℕ) (r : Result X ℕ) → Done r → Octets bs → byte k bs ≡ r → Got single (λ b. is_byte b ≡ true) k bs r
  byte_got k [] r d o e = not_early d e
  byte_got k (b ∷ bs) r d o e = record { value = b; rest = bs; is = refl; fine = lt-ltb b 256 (o 0); octets = λ i. o (suc i); on = e }

  pub ranged_got : (low high : ℕ) (k : ℕ → List ℕ → Result X ℕ) (bs : List ℕ) (r : Result X ℕ) → Done r → Octets bs → ranged low high k bs ≡ r → Got single (λ b. within low high b ≡ true) k bs r
  ranged_got low high k bs r d o e =
      let p = byte_got (λ b. test (within low high b) 4 (k b)) bs r d o e in
      let t = test_got (within low high p.value) (k p.value) p.rest r d p.on in
      record { value = p.value; rest = p.rest; is = p.is; fine = t.0; octets = p.octets; on = t.1 }

  pub word_got : (k : ℕ → List ℕ → Result X ℕ) (bs : List ℕ) (r : Result X ℕ) → Done r → Octets bs → word k bs ≡ r → Got write.word (λ n. ltb n (2 ^ 32) ≡ true) k bs r
  word_got k [] r d o e = not_early d e
  word_got k (a ∷ []) r d o e = not_early d e
  word_got k (a ∷ b ∷ []) r d o e = not_early d e
  word_got k (a ∷ b ∷ c ∷ []) r d o e = not_early d e
  word_got k (a ∷ b ∷ c ∷ u ∷ l) r d o e =
      let same : word_of a b c u ≡ number 0 4 (a ∷ b ∷ c ∷ u ∷ l) = omega arith in
      let small = number_small 4 (a ∷ b ∷ c ∷ u ∷ l) o in
      let bytes : write.word (word_of a b c u) ≡ a ∷ b ∷ c ∷ u ∷ [] = ap write.word same ∙ low_number 4 (a ∷ b ∷ c ∷ u ∷ l) o (omega arith) in
      record {
        value = word_of a b c u;
        rest = l;
        is = ap (λ bytes. bytes ++ l) (sym bytes);
        fine = lt-ltb (word_of a b c u) (2 ^ 32) (omega arith);
        octets = λ i. o (suc (suc (suc (suc i))));
        on = e;
      }

  pub word_on : (k : ℕ → List ℕ → Result X ℕ) (n : ℕ) (r : List ℕ) → n < 2 ^ 32 → word k (write.word n ++ r) ≡ k n r
  word_on k n r small =
      let same : word_of (n % 256) (n / 256 % 256) (n / 256 / 256 % 256) (n / 256 / 256 / 256 % 256) ≡ number 0 4 (write.word n ++ r) = omega arith in
      ap (λ m. k m r) (same ∙ number_low 4 n r (omega arith))

  pub signed_got : (k : ℤ → List ℕ → Result X ℕ) (bs : List ℕ) (r : Result X ℕ) → Done r → Octets bs → signed k bs ≡ r → Got write.signed (λ v. is_value v ≡ true) k bs r
  signed_got k bs r d o e =
      let p = word_got (λ n. k (to_z w32 n)) bs r d o e in
      let n = p.value in
      let small = ltb-true n (2 ^ 32) p.fine in
      record {
        value = to_z w32 n;
        rest = p.rest;
        is = p.is ∙ ap (λ m. write.word m ++ p.rest) (sym (of_z-to_z w32 n small));
        fine = value_read n small;
        octets = p.octets;
        on = p.on;
      }

  pub signed_on : (k : ℤ → List ℕ → Result X ℕ) (v : ℤ) (r : List ℕ) → is_value v ≡ true → signed k (write.signed v ++ r) ≡ k v r
  signed_on k v r e = word_on (λ n. k (to_z w32 n)) (of_z w32 v) r (value_small v e) ∙ ap (λ z. k z r) (to_z-of_z w32 v (value_fits v e))

  -- AGGREGATES

  given_got : (a : Option Kind) (k : Kind → List ℕ → Result X ℕ) (bs : List ℕ) (r : Result X ℕ) → Done r → given a k bs ≡ r → (j : Kind) × (a ≡ Some j) × (k j bs ≡ r)
  given_got None k bs r d e = not_off d e
  given_got (Some j) k bs r d e = (j, refl, e)

  pub aggregate_got : (k : Kind → List ℕ → Result X ℕ) (bs : List ℕ) (r : Result X ℕ) → Done r → Octets bs → aggregate k bs ≡ r → Got (λ a. single (kinds.number a)) (λ a. Unit {0}) k bs r
  aggregate_got k bs r d o e =
      let p = byte_got (λ a. given (kind_of a) k) bs r d o e in
      let g = given_got (kind_of p.value) k p.rest r d p.on in
      let same = kind_number p.value g.0 g.1 in
      record { value = g.0; rest = p.rest; is = p.is ∙ ap (λ n. n ∷ p.rest) (sym same); fine = tt; octets = p.octets; on = g.2 }

  pub aggregate_on : (k : Kind → List ℕ → Result X ℕ) (a : Kind) (r : List ℕ) → aggregate k (kinds.number a ∷ r) ≡ k a r
  aggregate_on k a r = ap (λ o. given o k r) (sym (kind_is (Some a) (kinds.number a) refl))

  -- TEXTS

  pub text_got : (low n : ℕ) (k : List ℕ → List ℕ → Result X ℕ) (bs : List ℕ) (r : Result X ℕ) → Done r → Octets bs → text low n k bs ≡ r → Got (λ s. s) (λ s. (length s ≡ n) × (all (within low 126) s ≡ true)) k bs r
  text_got low zero k bs r d o e = record { value = []; rest = bs; is = refl; fine = (refl, refl); octets = o; on = e }
  text_got low (suc n) k bs r d o e =
      let p = ranged_got low 126 (λ b. text low n (λ s. k (b ∷ s))) bs r d o e in
      let q = text_got low n (λ s. k (p.value ∷ s)) p.rest r d p.octets p.on in
      record {
        value = p.value ∷ q.value;
        rest = q.rest;
        is = p.is ∙ ap (λ l. p.value ∷ l) q.is;
        fine = (ap suc q.fine.0, and_from _ _ p.fine q.fine.1);
        octets = q.octets;
        on = q.on;
      }

  pub text_on : (low : ℕ) (s : List ℕ) (k : List ℕ → List ℕ → Result X ℕ) (r : List ℕ) → all (within low 126) s ≡ true → text low (length s) k (s ++ r) ≡ k s r
  text_on low [] k r e = refl
  text_on low (b ∷ s) k r e =
      let p = and_parts (within low 126 b) (all (within low 126) s) e in
      test_on (within low 126 b) 4 (text low (length s) (λ s. k (b ∷ s))) (s ++ r) p.0 ∙ text_on low s (λ s. k (b ∷ s)) r p.1

  pub till_got : (low n : ℕ) (k : List ℕ → Result X ℕ) (bs : List ℕ) (r : Result X ℕ) → Done r → till low n k bs ≡ r → (length bs ≤ n) × (all (within low 126) bs ≡ true) × (k bs ≡ r)
  till_got low n k [] r d e = (omega arith, refl, e)
  till_got low zero k (b ∷ bs) r d e = not_early d e
  till_got low (suc n) k (b ∷ bs) r d e =
      let t = test_got (within low 126 b) (till low n (λ s. k (b ∷ s))) bs r d e in
      let q = till_got low n (λ s. k (b ∷ s)) bs r d t.1 in
      let few = q.0 in
      (omega arith, and_from _ _ t.0 q.1, q.2)

  pub till_on : (low n : ℕ) (k : List ℕ → Result X ℕ) (bs : List ℕ) → length bs ≤ n → all (within low 126) bs ≡ true → till low n k bs ≡ k bs
  till_on low n k [] few e = refl
  till_on low zero k (b ∷ bs) few e = absurd (omega arith)
  till_on low (suc n) k (b ∷ bs) few e =
      let p = and_parts (within low 126 b) (all (within low 126) bs) e in
      test_on (within low 126 b) 4 (till low n (λ s. k (b ∷ s))) bs p.0 ∙ till_on low n (λ s. k (b ∷ s)) bs (omega arith) p.1
