-- Levels: what an output of a sound table reads stands in a lower level, and there are 16.
use Rattle.std.proofs.Common.{◌≡◌, ℕ, zero, suc, ◌+◌, ◌-◌, ◌<◌, ◌≤◌, max, Bool, true, false, not, ◌&&◌, eqb, leb, List, [], ◌∷◌, ◌++◌, length, Some, None, Option, sym, refl, ap, ◌∙◌, subst, ⊎_elim, arith}
use Rattle.std.proofs.ByRecursion.{All-weaker}
use Rattle.std.proofs.lemmas.List.{get_or_past}
use Rattle.std.proofs.lemmas.Bool.{and_from, and_parts, both_ways, cases_lt, cond-true, eqb-false, le-leb, ne_eqb, not_from_false, not-true}
use Rattle.std.specs.List.{AllByRecursion as All}
use Rattle.tables.specs.declared.op.Op.{Op}
use Rattle.tables.specs.declared.op.Op.TheVariants.{Number, Now, Past, Held, Window, Add, Subtract, Multiply, Less, Equal, Choose}
use Rattle.tables.specs.declared.op.Pace.{Pace}
use Rattle.tables.specs.Kinds.{Table}
use Rattle.tables.proofs.Circles.{has_layers_is}
use Rattle.tables.specs.Layers.{greatest, is_some, layer, layer_in, then}
use Rattle.tables.specs.Rules.{all, asked, asks, below, may, nothing, other, output_at, reads}
use Rattle.tables.specs.Plans.{layer_number, number_or_zero}
use Rattle.tables.specs.Sound.{sound}
use Rattle.records.proofs.Soundness.{circle_free, rules_kept}

-- LAYERS

-- an output has a layer, which is at least 1 and at most n
record HasLayer (found : Option ℕ) (n : ℕ) : Type 0 where
  number : ℕ
  is : found ≡ Some number
  some : 1 ≤ number
  most : number ≤ n

then_parts : (o : Option ℕ) (k : ℕ → Option ℕ) (n : ℕ) → then o k ≡ Some n → (m : ℕ) × (o ≡ Some m) × (k m ≡ Some n)
then_parts None k n e = let z : ◌≡◌ {A = ℕ} 0 1 = cc in absurd (omega arith)
then_parts (Some m) k n e = (m, refl, e)

module _ (f : ℕ → Option ℕ) (some : (a n : ℕ) → f a ≡ Some n → 1 ≤ n) where
  greatest_parts : (bs : List ℕ) (top n : ℕ) → greatest f bs top ≡ Some n → (top ≤ n) × All (λ b. HasLayer (f b) n) bs
  greatest_parts [] top n e = let same : top ≡ n = cc in (omega arith, tt)
  greatest_parts (b ∷ bs) top n e =
      let here = then_parts (f b) (λ m. greatest f bs (max top m)) n e in
      let more = greatest_parts bs (max top here.0) n here.2 in
      let up = more.0 in
      (omega arith, (record { number = here.0; is = here.1; some = some b here.0 here.1; most = omega arith }, more.1))

greatest_more : (f g : ℕ → Option ℕ) → ((a n : ℕ) → f a ≡ Some n → g a ≡ Some n) → (bs : List ℕ) (top n : ℕ) → greatest f bs top ≡ Some n → greatest g bs top ≡ Some n
greatest_more f g h [] top n e = e
greatest_more f g h (b ∷ bs) top n e =
    let here = then_parts (f b) (λ m. greatest f bs (max top m)) n e in
    ap (λ o. then o (λ m. greatest g bs (max top m))) (h b here.0 here.1) ∙ greatest_more f g h bs (max top here.0) n here.2

greatest_few : (f : ℕ → Option ℕ) (most : ℕ) → ((a n : ℕ) → f a ≡ Some n → n ≤ most) → (bs : List ℕ) (top n : ℕ) → top ≤ most → greatest f bs top ≡ Some n → n ≤ most
greatest_few f most few [] top n h e = let same : top ≡ n = cc in omega arith
greatest_few f most few (b ∷ bs) top n h e =
    let here = then_parts (f b) (λ m. greatest f bs (max top m)) n e in
    let low = few b here.0 here.1 in
    greatest_few f most few bs (max top here.0) n (omega arith) here.2

module _ (next : ℕ → List ℕ) where
  layer_parts : (depth a n : ℕ) → layer next (suc depth) a ≡ Some n → (m : ℕ) × (greatest (layer next depth) (next a) 0 ≡ Some m) × (n ≡ m + 1)
  layer_parts depth a n e =
      let here = then_parts (greatest (layer next depth) (next a) 0) (λ m. Some (m + 1)) n e in
      let same : here.0 + 1 ≡ n = cc here.2 in
      (here.0, here.1, sym same)

  layer_some : (depth a n : ℕ) → layer next depth a ≡ Some n → 1 ≤ n
  layer_some zero a n e = let z : ◌≡◌ {A = ℕ} 0 1 = cc in absurd (omega arith)
  layer_some (suc depth) a n e = let same = (layer_parts depth a n e).2 in omega arith

  layer_deeper : (depth a n : ℕ) → layer next depth a ≡ Some n → layer next (suc depth) a ≡ Some n
  layer_deeper zero a n e = let z : ◌≡◌ {A = ℕ} 0 1 = cc in absurd (omega arith)
  layer_deeper (suc depth) a n e =
      let here = layer_parts depth a n e in
      ap (λ o. then o (λ m. Some (m + 1))) (greatest_more (layer next depth) (layer next (suc depth)) (layer_deeper depth) (next a) 0 here.0 here.1)
      ∙ ap Some (sym here.2)

  layer_few : (depth a n : ℕ) → layer next depth a ≡ Some n → n ≤ depth
  layer_few zero a n e = let z : ◌≡◌ {A = ℕ} 0 1 = cc in absurd (omega arith)
  layer_few (suc depth) a n e =
      let here = layer_parts depth a n e in
      let same = here.2 in
      let few = greatest_few (layer next depth) depth (layer_few depth) (next a) 0 here.0 (omega arith) here.1 in
      omega arith

  layer_falls : (depth a n : ℕ) → layer next (suc depth) a ≡ Some n → All (λ b. HasLayer (layer next (suc depth) b) (n - 1)) (next a)
  layer_falls depth a n e =
      let here = layer_parts depth a n e in
      let same : here.0 ≡ n - 1 = omega (arith, here.2) in
      All-weaker _ _
      (λ b h. record { number = h.number; is = layer_deeper depth b h.number h.is; some = h.some; most = omega (arith, h.most) })
      (next a) (greatest_parts (layer next depth) (layer_some depth) (next a) 0 here.0 here.1).1

-- levels count from 0
pub level : Table → ℕ → ℕ
level t a = layer_number t a - 1

some_is : (o : Option ℕ) → is_some o ≡ true → o ≡ Some (number_or_zero o)
some_is None e = absurd (both_ways false refl e)
some_is (Some n) e = refl

pub below_at : (f : ℕ → Bool) (n a : ℕ) → below f n ≡ true → a < n → f a ≡ true
below_at f zero a e h = absurd (omega arith)
below_at f (suc n) a e h =
    let parts = and_parts (f n) (below f n) e in
    ⊎_elim (λ lt. below_at f n a parts.1 lt) (λ le. let same : n ≡ a = omega arith in ap f (sym same) ∙ parts.0) (cases_lt a n)

pub level_few : (t : Table) (a : ℕ) → level t a < 16
unfolding level layer_in
level_few t a = by (layer (reads t) 16 a) refl
  where
    by : (o : Option ℕ) → layer (reads t) 16 a ≡ o → number_or_zero o - 1 < 16
    by None e = omega arith
    by (Some n) e = let few = layer_few (reads t) 16 a n e in omega arith

pub level_along : (t : Table) (a b : ℕ) → layer_number t a ≤ layer_number t b → level t a ≤ level t b
unfolding level
level_along t a b h = omega arith

level_falls : (t : Table) (a : ℕ) → is_some (layer_in t a) ≡ true → All (λ b. level t b < level t a) (reads t a)
unfolding level layer_in
level_falls t a e =
    All-weaker _ _
    (λ b h.
    let same : number_or_zero (layer (reads t) 16 b) ≡ h.number = ap number_or_zero h.is in
    let some = h.some in
    let most = h.most in
    omega arith)
    (reads t a) (layer_falls (reads t) 15 a _ (some_is (layer (reads t) 16 a) e))

-- WHAT AN OPERATION LOOKS AT

-- the outputs that an operation of the output `o` uses by now, past or held, but by past not its own, behind so many inputs
abbrev pub Uses : (P : ℕ → Type 0) → (inputs o : ℕ) → Op → Type 0
Uses P k o (Number v) = Unit {0}
Uses P k o (Now s) = k ≤ s → P (s - k)
Uses P k o (Past s b d) = k ≤ s → (s ≡ k + o → ⊥) → P (s - k)
Uses P k o (Held s d) = k ≤ s → P (s - k)
Uses P k o (Window s a u d) = Unit {0}
Uses P k o Add = Unit {0}
Uses P k o Subtract = Unit {0}
Uses P k o Multiply = Unit {0}
Uses P k o Less = Unit {0}
Uses P k o Equal = Unit {0}
Uses P k o Choose = Unit {0}

other_is : (P : ℕ → Type 0) (k o s : ℕ) → All P (other k o s) → k ≤ s → (s ≡ k + o → ⊥) → P (s - k)
other_is P k o s h le ne =
    let test : (leb k s && not (eqb s (k + o))) ≡ true = and_from _ _ (le-leb k s le) (not_from_false _ (ne_eqb s (k + o) ne)) in
    (subst (All P) (cond-true _ ((s - k) ∷ []) [] test) h).0

split_all : {X : Type 0} (P : X → Type 0) (xs ys : List X) → All P (xs ++ ys) → All P xs × All P ys
split_all P [] ys h = (tt, h)
split_all P (x ∷ xs) ys h = let more = split_all P xs ys h.1 in ((h.0, more.0), more.1)

uses : (P : ℕ → Type 0) (t : Table) (k o : ℕ) (p : Pace) (ops : List Op) → All P (asked k o ops) → all (may t (k + o) p) ops ≡ true → All (Uses P k o) ops
uses P t k o p [] h m = tt
uses P t k o p (op ∷ ops) h m =
    let parts = split_all P (asks k o op) (asked k o ops) h in
    let mays = and_parts (may t (k + o) p op) (all (may t (k + o) p) ops) m in
    (by op parts.0 mays.0, uses P t k o p ops parts.1 mays.1)
  where
    by : (op : Op) → All P (asks k o op) → may t (k + o) p op ≡ true → Uses P k o op
    by (Number v) h m = tt
    by (Now s) h m = λ le. other_is P k o s h le (eqb-false s (k + o) (not-true _ (and_parts _ _ (and_parts _ _ m).1).0))
    by (Past s b d) h m = λ le ne. other_is P k o s h le ne
    by (Held s d) h m = λ le. other_is P k o s h le (eqb-false s (k + o) (not-true _ (and_parts _ _ m).1))
    by (Window s a u d) h m = tt
    by Add h m = tt
    by Subtract h m = tt
    by Multiply h m = tt
    by Less h m = tt
    by Equal h m = tt
    by Choose h m = tt

-- what an output of a sound table uses stands in a lower level
pub uses_lower : (t : Table) → sound t ≡ true → (o : ℕ) → All (Uses (λ b. level t b < level t o) (length t.inputs) o) (output_at t o).ops
uses_lower t e o = ⊎_elim within beyond (cases_lt o (length t.outputs))
  where
    within : o < length t.outputs → All (Uses (λ b. level t b < level t o) (length t.inputs) o) (output_at t o).ops
    within lt =
        let layered = below_at (λ a. is_some (layer_in t a)) (length t.outputs) o (has_layers_is t ∙ circle_free t e) lt in
        uses _ t (length t.inputs) o (output_at t o).pace (output_at t o).ops (level_falls t o layered) (and_parts _ _ (rules_kept t e o lt)).0

    beyond : length t.outputs ≤ o → All (Uses (λ b. level t b < level t o) (length t.inputs) o) (output_at t o).ops
    beyond le = subst (λ x. All (Uses (λ b. level t b < level t o) (length t.inputs) o) x.ops) (sym (get_or_past t.outputs o nothing le)) tt
