-- Where a reader stops: more bytes could have come, or none may stand there, or another byte could.
use Rattle.std.proofs.Common.{◌≡◌, ℕ, zero, suc, ◌+◌, ◌^◌, ◌<◌, ◌≤◌, Bool, true, false, ltb, ◌⊎◌, List, [], ◌∷◌, ◌++◌, ℤ, Some, None, Ok, Err, Option, Result, sym, refl, ap, ◌∙◌, subst, inl, inr, arith, w32, to_z}
use Rattle.aggregates.specs.declared.kind.Kind.{Kind}
use Rattle.aggregates.specs.declared.kind.Kind.TheVariants.{Count}
use Rattle.log_laws.specs.Laws.{Octets}
use Rattle.tables.specs.declared.op.Op.{Op}
use Rattle.tables.specs.declared.op.Op.TheVariants.{Number, Now, Past, Held, Window, Add, Subtract, Multiply, Less, Equal, Choose}
use Rattle.tables.specs.declared.op.Pace.{Pace}
use Rattle.tables.specs.declared.op.Pace.TheVariants.{Event, Every}
use Rattle.tables.proofs.Readers.{never}
use Rattle.tables.specs.Kinds.{Said, input, life, output, trigger}
use Rattle.tables.specs.Reading.{aggregate, byte, closed, content, fits, given, kind_of, operands, ops, outputs, ranged, signed, some, test, text, till, windows_in, with_ops, within, word, word_of}
use Rattle.table_laws.proofs.Bytes.{octets_more, octets_none}
use Rattle.table_laws.proofs.Contents.{made, within_from}
use Rattle.table_laws.proofs.Parts.{Done, not_off}

same_err : {X : Type 0} {m n : ℕ} → ◌≡◌ {A = Result X ℕ} (Err m) (Err n) → m ≡ n
same_err h = cc

module _ {X : Type 0} where
  -- some bytes finish the reading
  pub record Live (k : List ℕ → Result X ℕ) : Type 0 where
    pub more : List ℕ
    pub octets : Octets more
    pub done : Done (k more)

  -- what the number of a refusal says
  pub data Verdict (k : List ℕ → Result X ℕ) (bs : List ℕ) (e : ℕ) : Type 0 where
    -- only the stack rule is broken
    unfit : e ≡ 6 → Verdict k bs e
    -- the bytes end, and others would have finished the reading
    early : e ≡ 3 → (more : List ℕ) → Octets more → Done (k (bs ++ more)) → Verdict k bs e
    -- the bytes go on where none may stand
    late : e ≡ 3 → (front : List ℕ) (b : ℕ) (rest : List ℕ) → bs ≡ front ++ (b ∷ rest) → (more : List ℕ) → Octets more → Done (k (front ++ more)) → ((c : ℕ) (m : List ℕ) → Done (k (front ++ (c ∷ m))) → ⊥) → Verdict k bs e
    -- a byte stands where another may, but not this one
    off : e ≡ 4 → (front : List ℕ) (b : ℕ) (rest : List ℕ) → bs ≡ front ++ (b ∷ rest) → (c : ℕ) → c < 256 → (m : List ℕ) → Octets m → Done (k (front ++ (c ∷ m))) → ((m : List ℕ) → Done (k (front ++ (b ∷ m))) → ⊥) → Verdict k bs e

  -- the reading can be finished, and its refusals say what is so
  pub record Alive (k : List ℕ → Result X ℕ) : Type 0 where
    pub live : Live k
    pub honest : (bs : List ℕ) (e : ℕ) → Octets bs → k bs ≡ Err e → Verdict k bs e

  -- it cannot be finished, since a byte before was out of range
  Dead : (List ℕ → Result X ℕ) → Type 0
  Dead k = (bs : List ℕ) → k bs ≡ Err 4

  -- ONE BYTE

  -- a byte in front of what the next reader says
  pushed : (k j : List ℕ → Result X ℕ) (b : ℕ) → ((x : List ℕ) → k (b ∷ x) ≡ j x) → (bs : List ℕ) (e : ℕ) → Verdict j bs e → Verdict k (b ∷ bs) e
  pushed k j b on bs e (unfit is) = unfit is
  pushed k j b on bs e (early is more o d) = early is more o (subst Done (sym (on (bs ++ more))) d)
  pushed k j b on bs e (late is front c rest whole more o d none) =
      late is (b ∷ front) c rest (ap (λ l. b ∷ l) whole) more o (subst Done (sym (on (front ++ more))) d) (λ c m f. none c m (subst Done (on (front ++ (c ∷ m))) f))
  pushed k j b on bs e (off is front c rest whole a small m o d none) =
      off is (b ∷ front) c rest (ap (λ l. b ∷ l) whole) a small m o (subst Done (sym (on (front ++ (a ∷ m)))) d) (λ m f. none m (subst Done (on (front ++ (c ∷ m))) f))

  -- a first byte, where c may stand, too
  step : (k j : List ℕ → Result X ℕ) (b : ℕ) → ((x : List ℕ) → k (b ∷ x) ≡ j x) → Alive j ⊎ Dead j → (c : ℕ) → c < 256 → (m : List ℕ) → Octets m → Done (k (c ∷ m))
      → (bs : List ℕ) (e : ℕ) → Octets bs → k (b ∷ bs) ≡ Err e → Verdict k (b ∷ bs) e
  unfolding Dead
  step k j b on (inl a) c small m o d bs e ob h = pushed k j b on bs e (a.honest bs e ob (sym (on bs) ∙ h))
  step k j b on (inr dead) c small m o d bs e ob h = off (same_err (sym h ∙ on bs ∙ dead bs)) [] b bs refl c small m o d (λ m f. not_off f (sym (on m ∙ dead m)))

  byte_alive : (k : ℕ → List ℕ → Result X ℕ) → ((b : ℕ) → b < 256 → Alive (k b) ⊎ Dead (k b)) → (c : ℕ) → c < 256 → Live (k c) → Alive (byte k)
  byte_alive k state c small l = record { live = record { more = c ∷ l.more; octets = octets_more c l.more small l.octets; done = l.done }; honest = says }
    where
      says : (bs : List ℕ) (e : ℕ) → Octets bs → byte k bs ≡ Err e → Verdict (byte k) bs e
      says [] e o h = early (same_err (sym h)) (c ∷ l.more) (octets_more c l.more small l.octets) l.done
      says (b ∷ bs) e o h = step (byte k) (k b) b (λ x. refl) (state b (o 0)) c small l.more l.octets l.done bs e (λ i. o (suc i)) h

  any_byte : (k : ℕ → List ℕ → Result X ℕ) → ((b : ℕ) → Alive (k b)) → Alive (byte k)
  any_byte k a = byte_alive k (λ b small. inl (a b)) 0 (omega arith) (a 0).live

  test_state : (b : Bool) (k : List ℕ → Result X ℕ) → Alive k → Alive (test b 4 k) ⊎ Dead (test b 4 k)
  unfolding Dead
  test_state true k a = inl a
  test_state false k a = inr (λ bs. refl)

  test_live : (b : Bool) (k : List ℕ → Result X ℕ) → b ≡ true → Live k → Live (test b 4 k)
  test_live b k e l = subst (λ t. Live (test t 4 k)) (sym e) l

  ranged_alive : (low high : ℕ) (k : ℕ → List ℕ → Result X ℕ) → low ≤ high → low < 256 → ((b : ℕ) → Alive (k b)) → Alive (ranged low high k)
  ranged_alive low high k order small a =
      byte_alive (λ b. test (within low high b) 4 (k b)) (λ b _. test_state (within low high b) (k b) (a b)) low small
      (test_live (within low high low) (k low) (within_from low high low (omega arith) order) (a low).live)

  -- NUMBERS

  -- those whose high byte is 1 can go on
  word_alive : (k : ℕ → List ℕ → Result X ℕ) → ((n : ℕ) → Alive (k n) ⊎ Dead (k n)) → ((n : ℕ) → 2 ^ 24 ≤ n → n < 2 ^ 25 → Live (k n)) → Alive (word k)
  word_alive k state live =
      byte_alive (λ a. byte (λ b. byte (λ c. byte (λ d. k (word_of a b c d))))) (λ a la. inl (two a la)) 0 (omega arith) (two 0 (omega arith)).live
    where
      four : (a b c : ℕ) → a < 256 → b < 256 → c < 256 → Alive (byte (λ d. k (word_of a b c d)))
      four a b c la lb lc = byte_alive (λ d. k (word_of a b c d)) (λ d _. state (word_of a b c d)) 1 (omega arith) (live (word_of a b c 1) (omega arith) (omega arith))

      three : (a b : ℕ) → a < 256 → b < 256 → Alive (byte (λ c. byte (λ d. k (word_of a b c d))))
      three a b la lb = byte_alive (λ c. byte (λ d. k (word_of a b c d))) (λ c lc. inl (four a b c la lb lc)) 0 (omega arith) (four a b 0 la lb (omega arith)).live

      two : (a : ℕ) → a < 256 → Alive (byte (λ b. byte (λ c. byte (λ d. k (word_of a b c d)))))
      two a la = byte_alive (λ b. byte (λ c. byte (λ d. k (word_of a b c d)))) (λ b lb. inl (three a b la lb)) 0 (omega arith) (three a 0 la (omega arith)).live

  any_word : (k : ℕ → List ℕ → Result X ℕ) → ((n : ℕ) → Alive (k n)) → Alive (word k)
  any_word k a = word_alive k (λ n. inl (a n)) (λ n _ _. (a n).live)

  word_within : (high : ℕ) (k : ℕ → List ℕ → Result X ℕ) → 2 ^ 25 ≤ high → ((n : ℕ) → Alive (k n)) → Alive (word (λ n. test (within 1 high n) 4 (k n)))
  word_within high k room a =
      word_alive (λ n. test (within 1 high n) 4 (k n)) (λ n. test_state (within 1 high n) (k n) (a n))
      (λ n low top. test_live (within 1 high n) (k n) (within_from 1 high n (omega arith) (omega arith)) (a n).live)

  any_signed : (k : ℤ → List ℕ → Result X ℕ) → ((v : ℤ) → Alive (k v)) → Alive (signed k)
  any_signed k a = any_word (λ n. k (to_z w32 n)) (λ n. a (to_z w32 n))

  given_state : (o : Option Kind) (k : Kind → List ℕ → Result X ℕ) → ((j : Kind) → Alive (k j)) → Alive (given o k) ⊎ Dead (given o k)
  unfolding Dead
  given_state None k a = inr (λ bs. refl)
  given_state (Some j) k a = inl (a j)

  any_aggregate : (k : Kind → List ℕ → Result X ℕ) → ((j : Kind) → Alive (k j)) → Alive (aggregate k)
  any_aggregate k a = byte_alive (λ n. given (kind_of n) k) (λ n _. given_state (kind_of n) k a) 1 (omega arith) (a Count).live

  -- TEXTS AND ENDS

  closed_alive : (x : X) → Alive (closed x)
  closed_alive x = record { live = record { more = []; octets = octets_none; done = tt }; honest = says }
    where
      says : (bs : List ℕ) (e : ℕ) → Octets bs → closed x bs ≡ Err e → Verdict (closed x) bs e
      says [] e o h = never (sym h)
      says (b ∷ bs) e o h = late (same_err (sym h)) [] b bs refl [] octets_none tt (λ c m d. omega arith)

  text_alive : (low n : ℕ) (k : List ℕ → List ℕ → Result X ℕ) → low ≤ 126 → ((s : List ℕ) → Alive (k s)) → Alive (text low n k)
  text_alive low zero k order a = a []
  text_alive low (suc n) k order a = ranged_alive low 126 (λ b. text low n (λ s. k (b ∷ s))) order (omega arith) (λ b. text_alive low n (λ s. k (b ∷ s)) order (λ s. a (b ∷ s)))

  -- a result that is done is refused by the stack rule alone
  done_unfit : (k : List ℕ → Result X ℕ) (bs : List ℕ) (r : Result X ℕ) (e : ℕ) → Done r → r ≡ Err e → Verdict k bs e
  done_unfit k bs r e d h = unfit (subst Done h d)

  till_alive : (low n : ℕ) (k : List ℕ → Result X ℕ) → low ≤ 126 → ((s : List ℕ) → Done (k s)) → Alive (till low n k)
  till_alive low zero k order done = record { live = record { more = []; octets = octets_none; done = done [] }; honest = says }
    where
      says : (bs : List ℕ) (e : ℕ) → Octets bs → till low zero k bs ≡ Err e → Verdict (till low zero k) bs e
      says [] e o h = done_unfit (till low zero k) [] (k []) e (done []) h
      says (b ∷ bs) e o h = late (same_err (sym h)) [] b bs refl [] octets_none (done []) (λ c m d. omega arith)
  till_alive low (suc n) k order done =
      record { live = record { more = []; octets = octets_none; done = done [] }; honest = says (λ b. till_alive low n (λ s. k (b ∷ s)) order (λ s. done (b ∷ s))) }
    where
      on : ℕ → List ℕ → Result X ℕ
      on b = test (within low 126 b) 4 (till low n (λ s. k (b ∷ s)))

      here : Done (till low (suc n) k (low ∷ []))
      here = subst (λ t. Done (test t 4 (till low n (λ s. k (low ∷ s))) [])) (sym (within_from low 126 low (omega arith) order)) (done (low ∷ []))

      says : ((b : ℕ) → Alive (till low n (λ s. k (b ∷ s)))) → (bs : List ℕ) (e : ℕ) → Octets bs → till low (suc n) k bs ≡ Err e → Verdict (till low (suc n) k) bs e
      says a [] e o h = done_unfit (till low (suc n) k) [] (k []) e (done []) h
      says a (b ∷ bs) e o h = step (till low (suc n) k) (on b) b (λ x. refl) (test_state (within low 126 b) (till low n (λ s. k (b ∷ s))) (a b)) low (omega arith) [] octets_none here bs e (λ i. o (suc i)) h

  some_same : (k : List ℕ → Result X ℕ) (front : List ℕ) (c : ℕ) (m : List ℕ) → some k (front ++ (c ∷ m)) ≡ k (front ++ (c ∷ m))
  some_same k [] c m = refl
  some_same k (b ∷ front) c m = refl

  some_alive : (k : List ℕ → Result X ℕ) → Alive k → (c : ℕ) → c < 256 → (m : List ℕ) → Octets m → Done (k (c ∷ m)) → Alive (some k)
  some_alive k a c small m om d = record { live = record { more = c ∷ m; octets = octets_more c m small om; done = d }; honest = says }
    where
      front_live : (front more : List ℕ) → Octets more → Done (k (front ++ more)) → (l : List ℕ) × Octets l × Done (some k (front ++ l))
      front_live [] more o f = (c ∷ m, octets_more c m small om, d)
      front_live (b ∷ front) more o f = (more, o, f)

      same : (b : ℕ) (bs : List ℕ) (e : ℕ) → Verdict k (b ∷ bs) e → Verdict (some k) (b ∷ bs) e
      same b bs e (unfit is) = unfit is
      same b bs e (early is more o f) = early is more o f
      same b bs e (late is front x rest whole more o f none) =
          let l = front_live front more o f in
          late is front x rest whole l.0 l.1 l.2 (λ y n g. none y n (subst Done (some_same k front y n) g))
      same b bs e (off is front x rest whole y lt n o f none) =
          off is front x rest whole y lt n o (subst Done (sym (some_same k front y n)) f) (λ n g. none n (subst Done (some_same k front x n) g))

      says : (bs : List ℕ) (e : ℕ) → Octets bs → some k bs ≡ Err e → Verdict (some k) bs e
      says [] e o h = early (same_err (sym h)) (c ∷ m) (octets_more c m small om) d
      says (b ∷ bs) e o h = same b bs e (a.honest (b ∷ bs) e o h)

  -- OPERATIONS

  operands_state : (w c : ℕ) (k : Op → List ℕ → Result X ℕ) → ((o : Op) → Alive (k o)) → Alive (operands w c k) ⊎ Dead (operands w c k)
  unfolding Dead
  operands_state w zero k a = inr (λ bs. refl)
  operands_state w (suc zero) k a = inl (any_signed (λ v. k (Number v)) (λ v. a (Number v)))
  operands_state w (suc (suc zero)) k a = inl (any_byte (λ s. k (Now s)) (λ s. a (Now s)))
  operands_state w (suc (suc (suc zero))) k a =
      inl (any_byte (λ s. ranged 1 8 (λ b. signed (λ d. k (Past s b d)))) (λ s. ranged_alive 1 8 (λ b. signed (λ d. k (Past s b d))) (omega arith) (omega arith) (λ b. any_signed (λ d. k (Past s b d)) (λ d. a (Past s b d)))))
  operands_state w (suc (suc (suc (suc zero)))) k a = inl (any_byte (λ s. signed (λ d. k (Held s d))) (λ s. any_signed (λ d. k (Held s d)) (λ d. a (Held s d))))
  operands_state w (suc (suc (suc (suc (suc zero))))) k a =
      test_state (ltb w 8) (byte (λ s. aggregate (λ j. word (λ u. signed (λ d. k (Window s j u d))))))
      (any_byte (λ s. aggregate (λ j. word (λ u. signed (λ d. k (Window s j u d))))) (λ s.
      any_aggregate (λ j. word (λ u. signed (λ d. k (Window s j u d)))) (λ j.
      any_word (λ u. signed (λ d. k (Window s j u d))) (λ u. any_signed (λ d. k (Window s j u d)) (λ d. a (Window s j u d))))))
  operands_state w (suc (suc (suc (suc (suc (suc zero)))))) k a = inl (a Add)
  operands_state w (suc (suc (suc (suc (suc (suc (suc zero))))))) k a = inl (a Subtract)
  operands_state w (suc (suc (suc (suc (suc (suc (suc (suc zero)))))))) k a = inl (a Multiply)
  operands_state w (suc (suc (suc (suc (suc (suc (suc (suc (suc zero))))))))) k a = inl (a Less)
  operands_state w (suc (suc (suc (suc (suc (suc (suc (suc (suc (suc zero)))))))))) k a = inl (a Equal)
  operands_state w (suc (suc (suc (suc (suc (suc (suc (suc (suc (suc (suc zero))))))))))) k a = inl (a Choose)
  operands_state w (suc (suc (suc (suc (suc (suc (suc (suc (suc (suc (suc (suc n)))))))))))) k a = inr (λ bs. refl)

  ops_alive : (n w : ℕ) (k : List Op → Result X ℕ) → ((os : List Op) → Done (k os)) → Alive (ops n w k)
  ops_alive zero w k done = record { live = record { more = []; octets = octets_none; done = done [] }; honest = says }
    where
      says : (bs : List ℕ) (e : ℕ) → Octets bs → ops zero w k bs ≡ Err e → Verdict (ops zero w k) bs e
      says [] e o h = done_unfit (ops zero w k) [] (k []) e (done []) h
      says (b ∷ bs) e o h = late (same_err (sym h)) [] b bs refl [] octets_none (done []) (λ c m d. omega arith)
  ops_alive (suc n) w k done =
      record { live = record { more = []; octets = octets_none; done = done [] }; honest = says (λ o. ops_alive n (w + windows_in o) (λ os. k (o ∷ os)) (λ os. done (o ∷ os))) }
    where
      on : Op → List ℕ → Result X ℕ
      on o = ops n (w + windows_in o) (λ os. k (o ∷ os))

      says : ((o : Op) → Alive (on o)) → (bs : List ℕ) (e : ℕ) → Octets bs → ops (suc n) w k bs ≡ Err e → Verdict (ops (suc n) w k) bs e
      says a [] e o h = done_unfit (ops (suc n) w k) [] (k []) e (done []) h
      says a (b ∷ bs) e o h = step (ops (suc n) w k) (operands w b on) b (λ x. refl) (operands_state w b on a) 6 (omega arith) [] octets_none (done (Add ∷ [])) bs e (λ i. o (suc i)) h

-- CONTENTS

finish_done : (p : Pace) (s : List ℕ) (os : List Op) → Done (test (fits 0 os) 6 (closed (output (made p s os))) [])
finish_done p s os = by (fits 0 os)
  where
    by : (b : Bool) → Done (test b 6 (closed (output (made p s os))) [])
    by true = tt
    by false = refl

outputs_alive : (p : Pace) (w : ℕ) → Alive (outputs p w)
outputs_alive p w =
    ranged_alive 1 16 (λ n. text 33 n (with_ops p w)) (omega arith) (omega arith) (λ n. text_alive 33 n (with_ops p w) (omega arith) (λ s.
    some_alive (ops 16 w (λ os. test (fits 0 os) 6 (closed (output (made p s os))) [])) (ops_alive 16 w (λ os. test (fits 0 os) 6 (closed (output (made p s os))) []) (finish_done p s))
    6 (omega arith) [] octets_none (finish_done p s (Add ∷ []))))

-- to the field's end, at least one byte
to_end_alive : (low n : ℕ) (k : List ℕ → Said) → low ≤ 126 → Alive (some (till low (suc n) (λ s. Ok (k s))))
to_end_alive low n k order =
    some_alive (till low (suc n) (λ s. Ok (k s))) (till_alive low (suc n) (λ s. Ok (k s)) order (λ s. tt)) low (omega arith) [] octets_none
    (subst (λ t. Done (test t 4 (till low n (λ s. Ok (k (low ∷ s)))) [])) (sym (within_from low 126 low (omega arith) order)) tt)

pub content_alive : (tag w : ℕ) → 1 ≤ tag → tag ≤ 5 → Alive (content tag w)
content_alive zero w low high = absurd (omega arith)
content_alive (suc zero) w low high = word_within 2000000000 (λ n. closed (life n)) (omega arith) (λ n. closed_alive (life n))
content_alive (suc (suc zero)) w low high = to_end_alive 33 15 input (omega arith)
content_alive (suc (suc (suc zero))) w low high = outputs_alive Event w
content_alive (suc (suc (suc (suc zero)))) w low high = word_within 86400000 (λ p. outputs (Every p) w) (omega arith) (λ p. outputs_alive (Every p) w)
content_alive (suc (suc (suc (suc (suc zero))))) w low high =
    any_byte (λ s. some (till 32 32 (λ m. Ok (trigger (record { stream = s; message = m }))))) (λ s. to_end_alive 32 31 (λ m. trigger (record { stream = s; message = m })) (omega arith))
content_alive (suc (suc (suc (suc (suc (suc n)))))) w low high = absurd (omega arith)
