-- The operations of an output, read and written.
use Rattle.std.proofs.Common.{◌≡◌, ℕ, zero, suc, ◌+◌, ◌*◌, ◌^◌, ◌≤◌, true, ◌&&◌, ltb, List, [], ◌∷◌, ◌++◌, length, ℤ, Result, refl, ap, ◌∙◌, arith}
use Rattle.std.proofs.lemmas.List.{length-append}
use Rattle.std.proofs.lemmas.Bool.{and_from, and_parts, lt-ltb, ltb-true}
use Rattle.aggregates.specs.declared.kind.Kind.{Kind}
use Rattle.aggregates.specs.Kinds as kinds
use Rattle.log_laws.specs.Laws.{Octets}
use Rattle.tables.specs.declared.op.Op.{Op}
use Rattle.tables.specs.declared.op.Op.TheVariants.{Number, Now, Past, Held, Window, Add, Subtract, Multiply, Less, Equal, Choose}
use Rattle.tables.specs.Reading.{aggregate, byte, operands, ops, ranged, signed, windows_in, within, word}
use Rattle.tables.specs.Rules.{all}
use Rattle.tables.specs.Sound.{is_byte, is_op, is_value}
use Rattle.tables.specs.Tables.{op_bytes, ops_bytes, windows_of}
use Rattle.tables.specs.Tables as write
use Rattle.table_laws.proofs.Parts.{Done, Got, aggregate_got, aggregate_on, byte_got, not_early, not_off, ranged_got, signed_got, signed_on, test_got, test_on, word_got, word_on}

-- an operation that may stand after w windows
abbrev pub Fine : ℕ → Op → Type 0
Fine w o = (is_op o ≡ true) × (w + windows_in o ≤ 8)

-- an operation has 1 to 11 bytes
pub op_size : (o : Op) → (1 ≤ length (op_bytes o)) × (length (op_bytes o) ≤ 11)
op_size (Number v) = (omega arith, omega arith)
op_size (Now s) = (omega arith, omega arith)
op_size (Past s b d) = (omega arith, omega arith)
op_size (Held s d) = (omega arith, omega arith)
op_size (Window s a u d) = (omega arith, omega arith)
op_size Add = (omega arith, omega arith)
op_size Subtract = (omega arith, omega arith)
op_size Multiply = (omega arith, omega arith)
op_size Less = (omega arith, omega arith)
op_size Equal = (omega arith, omega arith)
op_size Choose = (omega arith, omega arith)

pub ops_size : (os : List Op) → (length os ≤ length (ops_bytes os)) × (length (ops_bytes os) ≤ 11 * length os)
ops_size [] = (omega arith, omega arith)
ops_size (o ∷ os) =
    let one = op_size o in
    let others = ops_size os in
    let least = others.0 in
    let most = others.1 in
    let least_one = one.0 in
    let most_one = one.1 in
    let sum = length-append (op_bytes o) (ops_bytes os) in
    (omega arith, omega arith)

module _ {X : Type 0} where
  -- an operation without operands
  bare : (w : ℕ) (o : Op) (k : Op → List ℕ → Result X ℕ) (c : ℕ) (bs : List ℕ) (r : Result X ℕ) → c ∷ bs ≡ op_bytes o ++ bs → is_op o ≡ true → w + windows_in o ≤ 8 → Octets bs → k o bs ≡ r → Got op_bytes (Fine w) k (c ∷ bs) r
  bare w o k c bs r is fine few octets e = record { value = o; rest = bs; is = is; fine = (fine, few); octets = octets; on = e }

  -- a duration and a default
  span_got : (k : ℕ → ℤ → List ℕ → Result X ℕ) (bs : List ℕ) (r : Result X ℕ) → Done r → Octets bs → word (λ u. signed (k u)) bs ≡ r
      → Got {V = ℕ × ℤ} (λ v. write.word v.0 ++ write.signed v.1) (λ v. (ltb v.0 (2 ^ 32) && is_value v.1) ≡ true) (λ v. k v.0 v.1) bs r
  span_got k bs r z o e =
      let u = word_got (λ u. signed (k u)) bs r z o e in
      let d = signed_got (k u.value) u.rest r z u.octets u.on in
      record {
        value = (u.value, d.value);
        rest = d.rest;
        is = u.is ∙ ap (λ l. write.word u.value ++ l) d.is;
        fine = and_from (ltb u.value (2 ^ 32)) (is_value d.value) u.fine d.fine;
        octets = d.octets;
        on = d.on;
      }

  operands_got : (w c : ℕ) (k : Op → List ℕ → Result X ℕ) (bs : List ℕ) (r : Result X ℕ) → Done r → w ≤ 8 → Octets bs → operands w c k bs ≡ r → Got op_bytes (Fine w) k (c ∷ bs) r
  operands_got w zero k bs r z few o e = not_off z e
  operands_got w (suc zero) k bs r z few o e =
      let v = signed_got (λ v. k (Number v)) bs r z o e in
      record { value = Number v.value; rest = v.rest; is = ap (λ l. 1 ∷ l) v.is; fine = (v.fine, omega arith); octets = v.octets; on = v.on }
  operands_got w (suc (suc zero)) k bs r z few o e =
      let s = byte_got (λ s. k (Now s)) bs r z o e in
      record { value = Now s.value; rest = s.rest; is = ap (λ l. 2 ∷ l) s.is; fine = (s.fine, omega arith); octets = s.octets; on = s.on }
  operands_got w (suc (suc (suc zero))) k bs r z few o e =
      let s = byte_got (λ s. ranged 1 8 (λ b. signed (λ d. k (Past s b d)))) bs r z o e in
      let b = ranged_got 1 8 (λ b. signed (λ d. k (Past s.value b d))) s.rest r z s.octets s.on in
      let d = signed_got (λ d. k (Past s.value b.value d)) b.rest r z b.octets b.on in
      record {
        value = Past s.value b.value d.value;
        rest = d.rest;
        is = ap (λ l. 3 ∷ l) (s.is ∙ ap (λ l. s.value ∷ l) (b.is ∙ ap (λ l. b.value ∷ l) d.is));
        fine = (and_from (is_byte s.value) (within 1 8 b.value && is_value d.value) s.fine (and_from (within 1 8 b.value) (is_value d.value) b.fine d.fine), omega arith);
        octets = d.octets;
        on = d.on;
      }
  operands_got w (suc (suc (suc (suc zero)))) k bs r z few o e =
      let s = byte_got (λ s. signed (λ d. k (Held s d))) bs r z o e in
      let d = signed_got (λ d. k (Held s.value d)) s.rest r z s.octets s.on in
      record {
        value = Held s.value d.value;
        rest = d.rest;
        is = ap (λ l. 4 ∷ l) (s.is ∙ ap (λ l. s.value ∷ l) d.is);
        fine = (and_from (is_byte s.value) (is_value d.value) s.fine d.fine, omega arith);
        octets = d.octets;
        on = d.on;
      }
  operands_got w (suc (suc (suc (suc (suc zero))))) k bs r z few o e =
      let t = test_got (ltb w 8) (byte (λ s. aggregate (λ a. word (λ u. signed (λ d. k (Window s a u d)))))) bs r z e in
      let room = ltb-true w 8 t.0 in
      let s = byte_got (λ s. aggregate (λ a. word (λ u. signed (λ d. k (Window s a u d))))) bs r z o t.1 in
      let a = aggregate_got (λ a. word (λ u. signed (λ d. k (Window s.value a u d)))) s.rest r z s.octets s.on in
      let p = span_got (λ u d. k (Window s.value a.value u d)) a.rest r z a.octets a.on in
      let u = p.value.0 in
      let d = p.value.1 in
      record {
        value = Window s.value a.value u d;
        rest = p.rest;
        is = ap (λ l. 5 ∷ l) (s.is ∙ ap (λ l. s.value ∷ l) (a.is ∙ ap (λ l. kinds.number a.value ∷ l) p.is));
        fine = (and_from (is_byte s.value) (ltb u (2 ^ 32) && is_value d) s.fine p.fine, omega arith);
        octets = p.octets;
        on = p.on;
      }
  operands_got w (suc (suc (suc (suc (suc (suc zero)))))) k bs r z few o e = bare w Add k 6 bs r refl refl (omega arith) o e
  operands_got w (suc (suc (suc (suc (suc (suc (suc zero))))))) k bs r z few o e = bare w Subtract k 7 bs r refl refl (omega arith) o e
  operands_got w (suc (suc (suc (suc (suc (suc (suc (suc zero)))))))) k bs r z few o e = bare w Multiply k 8 bs r refl refl (omega arith) o e
  operands_got w (suc (suc (suc (suc (suc (suc (suc (suc (suc zero))))))))) k bs r z few o e = bare w Less k 9 bs r refl refl (omega arith) o e
  operands_got w (suc (suc (suc (suc (suc (suc (suc (suc (suc (suc zero)))))))))) k bs r z few o e = bare w Equal k 10 bs r refl refl (omega arith) o e
  operands_got w (suc (suc (suc (suc (suc (suc (suc (suc (suc (suc (suc zero))))))))))) k bs r z few o e = bare w Choose k 11 bs r refl refl (omega arith) o e
  operands_got w (suc (suc (suc (suc (suc (suc (suc (suc (suc (suc (suc (suc n)))))))))))) k bs r z few o e = not_off z e

  -- operations to the field's end
  pub record AllGot (n w : ℕ) (k : List Op → Result X ℕ) (bs : List ℕ) (r : Result X ℕ) : Type 0 where
    pub value : List Op
    pub is : bs ≡ ops_bytes value
    pub short : length value ≤ n
    pub fine : all is_op value ≡ true
    pub few : w + windows_of value ≤ 8
    pub on : k value ≡ r

  pub ops_got : (n w : ℕ) (k : List Op → Result X ℕ) (bs : List ℕ) (r : Result X ℕ) → Done r → w ≤ 8 → Octets bs → ops n w k bs ≡ r → AllGot n w k bs r
  ops_got n w k [] r z few o e = record { value = []; is = refl; short = omega arith; fine = refl; few = omega arith; on = e }
  ops_got zero w k (b ∷ bs) r z few o e = not_early z e
  ops_got (suc n) w k (b ∷ bs) r z few o e =
      let p = operands_got w b (λ o. ops n (w + windows_in o) (λ os. k (o ∷ os))) bs r z few (λ i. o (suc i)) e in
      let q = ops_got n (w + windows_in p.value) (λ os. k (p.value ∷ os)) p.rest r z p.fine.1 p.octets p.on in
      let short = q.short in
      let windows = q.few in
      record {
        value = p.value ∷ q.value;
        is = p.is ∙ ap (λ l. op_bytes p.value ++ l) q.is;
        short = omega arith;
        fine = and_from (is_op p.value) (all is_op q.value) p.fine.0 q.fine;
        few = omega arith;
        on = q.on;
      }

  op_on : (n w : ℕ) (k : List Op → Result X ℕ) (o : Op) (r : List ℕ) → is_op o ≡ true → w + windows_in o ≤ 8 → ops (suc n) w k (op_bytes o ++ r) ≡ ops n (w + windows_in o) (λ os. k (o ∷ os)) r
  op_on n w k (Number v) r fine few = signed_on (λ v. ops n (w + 0) (λ os. k (Number v ∷ os))) v r fine
  op_on n w k (Now s) r fine few = refl
  op_on n w k (Past s b d) r fine few =
      let p = and_parts (is_byte s) (within 1 8 b && is_value d) fine in
      let q = and_parts (within 1 8 b) (is_value d) p.1 in
      let after : List ℕ = write.signed d ++ r in
      test_on (within 1 8 b) 4 (signed (λ d. ops n (w + 0) (λ os. k (Past s b d ∷ os)))) after q.0
      ∙ signed_on (λ d. ops n (w + 0) (λ os. k (Past s b d ∷ os))) d r q.1
  op_on n w k (Held s d) r fine few = signed_on (λ d. ops n (w + 0) (λ os. k (Held s d ∷ os))) d r (and_parts (is_byte s) (is_value d) fine).1
  op_on n w k (Window s a u d) r fine few =
      let p = and_parts (is_byte s) (ltb u (2 ^ 32) && is_value d) fine in
      let q = and_parts (ltb u (2 ^ 32)) (is_value d) p.1 in
      let on : Kind → ℕ → List ℕ → Result X ℕ = λ a u. signed (λ d. ops n (w + 1) (λ os. k (Window s a u d ∷ os))) in
      let after : List ℕ = write.signed d ++ r in
      test_on (ltb w 8) 4 (byte (λ s. aggregate (λ a. word (λ u. signed (λ d. ops n (w + 1) (λ os. k (Window s a u d ∷ os))))))) (s ∷ kinds.number a ∷ (write.word u ++ after)) (lt-ltb w 8 (omega arith))
      ∙ aggregate_on (λ a. word (on a)) a (write.word u ++ after)
      ∙ word_on (on a) u after (ltb-true u (2 ^ 32) q.0)
      ∙ signed_on (λ d. ops n (w + 1) (λ os. k (Window s a u d ∷ os))) d r q.1
  op_on n w k Add r fine few = refl
  op_on n w k Subtract r fine few = refl
  op_on n w k Multiply r fine few = refl
  op_on n w k Less r fine few = refl
  op_on n w k Equal r fine few = refl
  op_on n w k Choose r fine few = refl

  pub ops_on : (os : List Op) (n w : ℕ) (k : List Op → Result X ℕ) → length os ≤ n → all is_op os ≡ true → w + windows_of os ≤ 8 → ops n w k (ops_bytes os) ≡ k os
  ops_on [] n w k short fine few = refl
  ops_on (o ∷ os) zero w k short fine few = absurd (omega arith)
  ops_on (o ∷ os) (suc n) w k short fine few =
      let p = and_parts (is_op o) (all is_op os) fine in
      op_on n w k o (ops_bytes os) p.0 (omega arith) ∙ ops_on os n (w + windows_in o) (λ os. k (o ∷ os)) (omega arith) p.1 (omega arith)
