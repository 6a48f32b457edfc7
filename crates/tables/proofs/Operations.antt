-- All operations of an output, one after the other.
use Rattle.std.proofs.Common.{◌≡◌, ℕ, zero, suc, ◌+◌, ◌-◌, ◌<◌, ◌≤◌, List, [], ◌∷◌, ◌++◌, length, Ok, Err, Result, sym, refl, ap, ◌∙◌, arith}
use Rattle.std.proofs.lemmas.List.{append_assoc, length_push, take_all}
use Rattle.tables.specs.declared.op.Op.{Op}
use Rattle.fixed.specs.Pushing.{pushed}
use Rattle.tables.specs.Fronts.{kept}
use Rattle.tables.specs.Programs.{all_ops, first_op}
use Rattle.tables.specs.Reading.{operands, ops, windows_in}
use Rattle.tables.proofs.Readers.{never, onward, operands_fewer, operands_onward}

-- the operations after one
abbrev pub next_ops : {Y : Type 0} → (m w : ℕ) → (List Op → Result Y ℕ) → Op → List ℕ → Result Y ℕ
next_ops m w k o = ops m (w + windows_in o) (λ os. k (o ∷ os))

-- goes on with what was read to the end
abbrev pub after : {Y : Type 0} → (List Op → Result Y ℕ) → Result (List Op) ℕ → Result Y ℕ
after k (Ok os) = k os
after k (Err e) = Err e

onward_after : {Y : Type 0} (k : List Op → Result Y ℕ) (f : Op → List ℕ → Result Y ℕ) (g : Op → List ℕ → Result (List Op) ℕ) → ((o : Op) (rest : List ℕ) → f o rest ≡ after k (g o rest)) → (r : Result (Op × List ℕ) ℕ) → onward f r ≡ after k (onward g r)
onward_after k f g same (Ok p) = same p.0 p.1
onward_after k f g same (Err e) = refl

-- operations that are handed on are the operations that are read
pub ops_after : {Y : Type 0} (m w : ℕ) (f : List Op → List Op) (k : List Op → Result Y ℕ) (bs : List ℕ) → ops m w (λ os. k (f os)) bs ≡ after k (ops m w (λ os. Ok (f os)) bs)
ops_after m w f k [] = refl
ops_after zero w f k (c ∷ bs) = refl
ops_after (suc m) w f k (c ∷ bs) =
    let others = (λ (o : Op) (rest : List ℕ). ops_after m (w + windows_in o) (λ os. f (o ∷ os)) k rest) in
    operands_onward w (next_ops m w (λ os. k (f os))) c bs
    ∙ onward_after k (next_ops m w (λ os. k (f os))) (next_ops m w (λ os. Ok (f os))) others (operands w c kept bs)
    ∙ ap (after k) (sym (operands_onward w (next_ops m w (λ os. Ok (f os))) c bs))

onward_ok : {Y : Type 0} (f g : Op → List ℕ → Result Y ℕ) (y : Y) → ((o : Op) (rest : List ℕ) → f o rest ≡ Ok y → g o rest ≡ Ok y) → (r s : Result (Op × List ℕ) ℕ) → ((p : Op × List ℕ) → r ≡ Ok p → s ≡ Ok p) → onward f r ≡ Ok y → onward g s ≡ Ok y
onward_ok f g y on (Ok p) s same e = ap (onward g) (same p refl) ∙ on p.0 p.1 e
onward_ok f g y on (Err n) s same e = never e

-- what is read with some windows before it is read with fewer, too
ops_fewer : {Y : Type 0} (m w v : ℕ) (k : List Op → Result Y ℕ) (bs : List ℕ) (y : Y) → v ≤ w → ops m w k bs ≡ Ok y → ops m v k bs ≡ Ok y
ops_fewer m w v k [] y le e = e
ops_fewer zero w v k (c ∷ bs) y le e = e
ops_fewer (suc m) w v k (c ∷ bs) y le e =
    operands_onward v (next_ops m v k) c bs
    ∙ onward_ok (next_ops m w k) (next_ops m v k) y (λ o rest. ops_fewer m (w + windows_in o) (v + windows_in o) (λ os. k (o ∷ os)) rest y (omega arith)) (operands w c kept bs) (operands v c kept bs)
    (λ p. operands_fewer w v c kept bs p le) (sym (operands_onward w (next_ops m w k) c bs) ∙ e)

pub fewer_windows : (w : ℕ) (bs : List ℕ) (os : List Op) → Ok os ≡ all_ops w bs → Ok os ≡ all_ops 0 bs
fewer_windows w bs os is = sym (ops_fewer 16 w 0 (λ os. Ok os) bs os (omega arith) (sym is))

-- some operations are read, and the others are still to be read from the bytes that are left
pub record Working (bytes : List ℕ) (before : ℕ) (done : List Op) (rest : List ℕ) (w : ℕ) : Type 0 where
  pub few : length done ≤ 16
  pub same : ops (16 - length done) w (λ os. Ok (done ++ os)) rest ≡ all_ops before bytes

-- one operation more
next_read : {Y : Type 0} (m w : ℕ) (k : List Op → Result Y ℕ) (bs : List ℕ) → 0 < m → 0 < length bs → ops m w k bs ≡ onward (next_ops (m - 1) w k) (first_op w bs)
next_read zero w k bs room some = absurd (omega arith)
next_read (suc m) w k [] room some = absurd (omega arith)
next_read (suc m) w k (c ∷ bs) room some =
    let one : m ≡ suc m - 1 = omega arith in
    operands_onward w (next_ops m w k) c bs ∙ ap (λ n. onward (next_ops n w k) (operands w c kept bs)) one

pub length_more : (o : Op) (done : List Op) → length done < 16 → length (pushed 16 o done) ≡ length done + 1
length_more o done room = ap length (take_all 16 (done ++ (o ∷ [])) (omega (arith, length_push done o))) ∙ length_push done o

module _ (bytes : List ℕ) (before : ℕ) (done : List Op) (rest : List ℕ) (w : ℕ) (k : Working bytes before done rest w) (some : 0 < length rest) (room : length done < 16) where
  read_on : onward (next_ops (16 - length done - 1) w (λ os. Ok (done ++ os))) (first_op w rest) ≡ all_ops before bytes
  read_on = sym (next_read (16 - length done) w (λ os. Ok (done ++ os)) rest (omega arith) some) ∙ k.same

  pub work_stops : (e : ℕ) → Err e ≡ first_op w rest → Err e ≡ all_ops before bytes
  work_stops e is = ap (onward (next_ops (16 - length done - 1) w (λ os. Ok (done ++ os)))) is ∙ read_on

  pub work_more : (o : Op) (left : List ℕ) (now : List Op) (v : ℕ) → Ok (o, left) ≡ first_op w rest → now ≡ pushed 16 o done → v ≡ w + windows_in o → Working bytes before now left v
  work_more o left now v is push windows =
      let more : now ≡ done ++ (o ∷ []) = push ∙ take_all 16 (done ++ (o ∷ [])) (omega (arith, length_push done o)) in
      let count : length now ≡ length done + 1 = ap length push ∙ length_more o done room in
      let m : 16 - length now ≡ 16 - length done - 1 = omega arith in
      record {
        few = omega arith;
        same = (λ i. ops (m i) (windows i) (λ os. Ok ((ap (λ l. l ++ os) more ∙ append_assoc done (o ∷ []) os) i)) left) ∙ ap (onward (next_ops (16 - length done - 1) w (λ os. Ok (done ++ os)))) is ∙ read_on;
      }
