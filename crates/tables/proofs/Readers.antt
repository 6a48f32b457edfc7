-- What goes on after a reading from the front.
use Rattle.std.proofs.Common.{◌≡◌, ℕ, zero, suc, ◌≤◌, Bool, true, false, ltb, List, [], ◌∷◌, ℤ, Some, None, Ok, Err, Option, Result, refl, ap, ◌∙◌, arith, w32, to_z}
use Rattle.std.proofs.lemmas.Bool.{lt-ltb, ltb-true}
use Rattle.aggregates.specs.declared.kind.Kind.{Kind}
use Rattle.tables.specs.declared.op.Op.{Op}
use Rattle.tables.specs.declared.op.Op.TheVariants.{Number, Now, Past, Held, Window}
use Rattle.tables.specs.Fronts.{kept}
use Rattle.tables.specs.Reading.{aggregate, byte, given, kind_of, word_of, operands, signed, test, within, word}

-- goes on with what was read
abbrev pub onward : {X Y : Type 0} → (X → List ℕ → Result Y ℕ) → Result (X × List ℕ) ℕ → Result Y ℕ
onward k (Ok p) = k p.0 p.1
onward k (Err e) = Err e

-- a reading that goes on is the same reading, and then what goes on
module _ {X Y : Type 0} (k : X → List ℕ → Result Y ℕ) where
  pub test_onward : (b : Bool) (e : ℕ) (f : List ℕ → Result Y ℕ) (g : List ℕ → Result (X × List ℕ) ℕ) (bs : List ℕ) → f bs ≡ onward k (g bs) → test b e f bs ≡ onward k (test b e g bs)
  test_onward true e f g bs same = same
  test_onward false e f g bs same = refl

  given_onward : (o : Option Kind) (f : Kind → List ℕ → Result Y ℕ) (g : Kind → List ℕ → Result (X × List ℕ) ℕ) (bs : List ℕ) → ((a : Kind) → f a bs ≡ onward k (g a bs)) → given o f bs ≡ onward k (given o g bs)
  given_onward (Some a) f g bs same = same a
  given_onward None f g bs same = refl

  pub byte_onward : (f : ℕ → List ℕ → Result Y ℕ) (g : ℕ → List ℕ → Result (X × List ℕ) ℕ) (bs : List ℕ) → ((b : ℕ) (rest : List ℕ) → f b rest ≡ onward k (g b rest)) → byte f bs ≡ onward k (byte g bs)
  byte_onward f g [] same = refl
  byte_onward f g (b ∷ rest) same = same b rest

  pub word_onward : (f : ℕ → List ℕ → Result Y ℕ) (g : ℕ → List ℕ → Result (X × List ℕ) ℕ) (bs : List ℕ) → ((n : ℕ) (rest : List ℕ) → f n rest ≡ onward k (g n rest)) → word f bs ≡ onward k (word g bs)
  word_onward f g [] same = refl
  word_onward f g (a ∷ []) same = refl
  word_onward f g (a ∷ b ∷ []) same = refl
  word_onward f g (a ∷ b ∷ c ∷ []) same = refl
  word_onward f g (a ∷ b ∷ c ∷ d ∷ rest) same = same (word_of a b c d) rest

-- an operation is read, and then what goes on
module _ {Y : Type 0} (w : ℕ) (k : Op → List ℕ → Result Y ℕ) where
  signed_onward : (o : ℤ → Op) (bs : List ℕ) → signed (λ v. k (o v)) bs ≡ onward k (signed (λ v. kept (o v)) bs)
  signed_onward o bs = word_onward k (λ n. k (o (to_z w32 n))) (λ n. kept (o (to_z w32 n))) bs (λ n rest. refl)

  pub operands_onward : (c : ℕ) (bs : List ℕ) → operands w c k bs ≡ onward k (operands w c kept bs)
  operands_onward zero bs = refl
  operands_onward (suc zero) bs = signed_onward Number bs
  operands_onward (suc (suc zero)) bs = byte_onward k (λ s. k (Now s)) (λ s. kept (Now s)) bs (λ s rest. refl)
  operands_onward (suc (suc (suc zero))) bs =
      byte_onward k _ _ bs
      (λ s r1. byte_onward k _ _ r1
      (λ b r2. test_onward k (within 1 8 b) 4 (signed (λ d. k (Past s b d))) (signed (λ d. kept (Past s b d))) r2 (signed_onward (Past s b) r2)))
  operands_onward (suc (suc (suc (suc zero)))) bs = byte_onward k (λ s. signed (λ d. k (Held s d))) (λ s. signed (λ d. kept (Held s d))) bs (λ s. signed_onward (Held s))
  operands_onward (suc (suc (suc (suc (suc zero))))) bs =
      test_onward k (ltb w 8) 4 _ _ bs
      (byte_onward k _ _ bs
      (λ s r1. byte_onward k _ _ r1
      (λ n r2. given_onward k (kind_of n) _ _ r2
      (λ a. word_onward k (λ u. signed (λ d. k (Window s a u d))) (λ u. signed (λ d. kept (Window s a u d))) r2 (λ u. signed_onward (Window s a u))))))
  operands_onward (suc (suc (suc (suc (suc (suc zero)))))) bs = refl
  operands_onward (suc (suc (suc (suc (suc (suc (suc zero))))))) bs = refl
  operands_onward (suc (suc (suc (suc (suc (suc (suc (suc zero)))))))) bs = refl
  operands_onward (suc (suc (suc (suc (suc (suc (suc (suc (suc zero))))))))) bs = refl
  operands_onward (suc (suc (suc (suc (suc (suc (suc (suc (suc (suc zero)))))))))) bs = refl
  operands_onward (suc (suc (suc (suc (suc (suc (suc (suc (suc (suc (suc zero))))))))))) bs = refl
  operands_onward (suc (suc (suc (suc (suc (suc (suc (suc (suc (suc (suc (suc n)))))))))))) bs = refl

-- no value is a refusal
pub never : {X Y E : Type 0} {e : E} {x : X} → Err e ≡ Ok x → Y
never p = absurd cc

test_weaker : {X : Type 0} (b d : Bool) (e : ℕ) (k : List ℕ → Result X ℕ) (bs : List ℕ) (x : X) → (b ≡ true → d ≡ true) → test b e k bs ≡ Ok x → test d e k bs ≡ Ok x
test_weaker true d e k bs x h is = ap (λ t. test t e k bs) (h refl) ∙ is
test_weaker false d e k bs x h is = never is

-- an operation that is read with some windows before it is read with fewer, too
pub operands_fewer : {X : Type 0} (w v c : ℕ) (k : Op → List ℕ → Result X ℕ) (bs : List ℕ) (x : X) → v ≤ w → operands w c k bs ≡ Ok x → operands v c k bs ≡ Ok x
operands_fewer w v zero k bs x le e = e
operands_fewer w v (suc zero) k bs x le e = e
operands_fewer w v (suc (suc zero)) k bs x le e = e
operands_fewer w v (suc (suc (suc zero))) k bs x le e = e
operands_fewer w v (suc (suc (suc (suc zero)))) k bs x le e = e
operands_fewer w v (suc (suc (suc (suc (suc zero))))) k bs x le e =
    test_weaker (ltb w 8) (ltb v 8) 4 (byte (λ s. aggregate (λ a. word (λ u. signed (λ d. k (Window s a u d)))))) bs x (λ room. let more = ltb-true w 8 room in lt-ltb v 8 (omega arith)) e
operands_fewer w v (suc (suc (suc (suc (suc (suc zero)))))) k bs x le e = e
operands_fewer w v (suc (suc (suc (suc (suc (suc (suc zero))))))) k bs x le e = e
operands_fewer w v (suc (suc (suc (suc (suc (suc (suc (suc zero)))))))) k bs x le e = e
operands_fewer w v (suc (suc (suc (suc (suc (suc (suc (suc (suc zero))))))))) k bs x le e = e
operands_fewer w v (suc (suc (suc (suc (suc (suc (suc (suc (suc (suc zero)))))))))) k bs x le e = e
operands_fewer w v (suc (suc (suc (suc (suc (suc (suc (suc (suc (suc (suc zero))))))))))) k bs x le e = e
operands_fewer w v (suc (suc (suc (suc (suc (suc (suc (suc (suc (suc (suc (suc n)))))))))))) k bs x le e = e
