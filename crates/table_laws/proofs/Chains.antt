-- Layers and circles.
use Rattle.std.proofs.Common.{◌≡◌, ℕ, zero, suc, ◌+◌, ◌-◌, ◌<◌, ◌≤◌, max, Bool, true, false, ◌⊎◌, List, [], ◌∷◌, length, Contains, Some, None, Option, sym, refl, ap, ◌∙◌, subst, inl, inr, ⊎_elim, arith}
use Rattle.std.proofs.lemmas.Bool.{and_cases, cases_eq, false≢true, true≢false}
use Rattle.std.proofs.lemmas.Bool.Decides.{Decides-below_and}
use Rattle.std.specs.Bool.{Decides}
use Rattle.tables.specs.Kinds.{Table}
use Rattle.tables.proofs.Circles.{has_layers_is}
use Rattle.tables.specs.Layers.{has_layers, greatest, is_some, layer, layer_in, then}
use Rattle.tables.specs.Rules.{below, no_circle, output_at, reads}
use Rattle.table_laws.specs.Lawful.{Circle, OutputKeeps}
use Rattle.table_laws.proofs.Asking.{reads_from, reads_says}
use Rattle.table_laws.proofs.Members.{member_cases, member_first, member_none, member_rest}
use Rattle.table_laws.proofs.Pigeons.{pigeons}

-- OPTIONS

none_some : {X : Type 0} {n : ℕ} → None ≡ Some n → X
none_some e = absurd cc

then_some : (o : Option ℕ) (k : ℕ → Option ℕ) (n : ℕ) → then o k ≡ Some n → (m : ℕ) × (o ≡ Some m) × (k m ≡ Some n)
then_some None k n e = none_some e
then_some (Some m) k n e = (m, refl, e)

then_none : (o : Option ℕ) (k : ℕ → Option ℕ) → then o k ≡ None → (o ≡ None) ⊎ ((m : ℕ) × (k m ≡ None))
then_none None k e = inl refl
then_none (Some m) k e = inr (m, e)

some_says : (o : Option ℕ) → is_some o ≡ true → (n : ℕ) × (o ≡ Some n)
some_says None e = absurd (false≢true e)
some_says (Some n) e = (n, refl)

some_not : (o : Option ℕ) → is_some o ≡ false → o ≡ None
some_not None e = refl
some_not (Some n) e = absurd (true≢false e)

-- THE GREATEST

greatest_above : (f : ℕ → Option ℕ) (bs : List ℕ) (top n : ℕ) → greatest f bs top ≡ Some n → (top ≤ n) × ((b : ℕ) → Contains bs b → (m : ℕ) × (f b ≡ Some m) × (m ≤ n))
greatest_above f [] top n e = let same : top ≡ n = cc in (omega arith, λ b i. absurd (member_none b i))
greatest_above f (a ∷ rest) top n e =
    let p = then_some (f a) (λ m. greatest f rest (max top m)) n e in
    let q = greatest_above f rest (max top p.0) n p.2 in
    let high = q.0 in
    (omega arith, λ b i. ⊎_elim (λ same. (p.0, ap f same ∙ p.1, omega arith)) (q.1 b) (member_cases b a rest i))

greatest_most : (f : ℕ → Option ℕ) (bs : List ℕ) (d top n : ℕ) → ((b m : ℕ) → f b ≡ Some m → m ≤ d) → top ≤ d → greatest f bs top ≡ Some n → n ≤ d
greatest_most f [] d top n h low e = let same : top ≡ n = cc in omega arith
greatest_most f (a ∷ rest) d top n h low e =
    let p = then_some (f a) (λ m. greatest f rest (max top m)) n e in
    let here = h a p.0 p.1 in
    greatest_most f rest d (max top p.0) n h (omega arith) p.2

greatest_more : (f g : ℕ → Option ℕ) → ((b m : ℕ) → f b ≡ Some m → g b ≡ Some m) → (bs : List ℕ) (top n : ℕ) → greatest f bs top ≡ Some n → greatest g bs top ≡ Some n
greatest_more f g h [] top n e = e
greatest_more f g h (a ∷ rest) top n e =
    let p = then_some (f a) (λ m. greatest f rest (max top m)) n e in
    ap (λ o. then o (λ m. greatest g rest (max top m))) (h a p.0 p.1) ∙ greatest_more f g h rest (max top p.0) n p.2

greatest_none : (f : ℕ → Option ℕ) (bs : List ℕ) (top : ℕ) → greatest f bs top ≡ None → (b : ℕ) × Contains bs b × (f b ≡ None)
greatest_none f [] top e = none_some (sym e)
greatest_none f (a ∷ rest) top e =
    ⊎_elim
    (λ none. (a, member_first a a rest refl, none))
    (λ m. let r = greatest_none f rest (max top m.0) m.1 in (r.0, member_rest r.0 a rest r.1, r.2))
    (then_none (f a) (λ m. greatest f rest (max top m)) e)

-- LAYERS

module _ (ask : ℕ → List ℕ) where
  -- the greatest layer below
  under : (d a n : ℕ) → layer ask (suc d) a ≡ Some n → (m : ℕ) × (greatest (layer ask d) (ask a) 0 ≡ Some m) × (m + 1 ≡ n)
  under d a n e =
      let p = then_some (greatest (layer ask d) (ask a) 0) (λ n. Some (n + 1)) n e in
      let last = p.2 in
      (p.0, p.1, cc)

  layer_between : (d a n : ℕ) → layer ask d a ≡ Some n → (1 ≤ n) × (n ≤ d)
  layer_between zero a n e = none_some e
  layer_between (suc d) a n e =
      let p = under d a n e in
      let is = p.2 in
      let most = greatest_most (layer ask d) (ask a) d 0 p.0 (λ b m f. (layer_between d b m f).1) (omega arith) p.1 in
      (omega arith, omega arith)

  layer_above : (d a n b : ℕ) → layer ask (suc d) a ≡ Some n → Contains (ask a) b → (m : ℕ) × (layer ask d b ≡ Some m) × (m < n)
  layer_above d a n b e i =
      let p = under d a n e in
      let is = p.2 in
      let q = (greatest_above (layer ask d) (ask a) 0 p.0 p.1).1 b i in
      let le = q.2 in
      (q.0, q.1, omega arith)

  -- more depth changes no layer
  layer_more : (d a n : ℕ) → layer ask d a ≡ Some n → layer ask (suc d) a ≡ Some n
  layer_more zero a n e = none_some e
  layer_more (suc d) a n e =
      let p = then_some (greatest (layer ask d) (ask a) 0) (λ n. Some (n + 1)) n e in
      ap (λ o. then o (λ n. Some (n + 1))) (greatest_more (layer ask d) (layer ask (suc d)) (layer_more d) (ask a) 0 p.0 p.1) ∙ p.2

  layer_deeper : (k d a n : ℕ) → layer ask d a ≡ Some n → layer ask (k + d) a ≡ Some n
  layer_deeper zero d a n e = let same : d ≡ 0 + d = omega arith in subst (λ m. layer ask m a ≡ Some n) same e
  layer_deeper (suc k) d a n e = let same : suc (k + d) ≡ suc k + d = omega arith in subst (λ m. layer ask m a ≡ Some n) same (layer_more (k + d) a n (layer_deeper k d a n e))

  -- on a circle no depth suffices
  endless : (f : ℕ → ℕ) (i j : ℕ) → i < j → f i ≡ f j → ((k : ℕ) → i ≤ k → k < j → Contains (ask (f k)) (f (suc k))) → (d k n : ℕ) → i ≤ k → k < j → layer ask d (f k) ≡ Some n → ⊥
  endless f i j lt same goes zero k n from to e = none_some e
  endless f i j lt same goes (suc d) k n from to e =
      let p = layer_above d (f k) n (f (suc k)) e (goes k from to) in
      ⊎_elim
      (λ end. endless f i j lt same goes d i p.0 (omega arith) lt (ap (layer ask d) (same ∙ ap f (sym end)) ∙ p.1))
      (λ more. endless f i j lt same goes d (suc k) p.0 (omega arith) (omega arith) p.1)
      (cases_eq (suc k) j)

  abbrev before : ℕ → (ℕ → ℕ) → ℕ → ℕ
  before a f zero = a
  before a f (suc i) = f i

  -- a chain of reads, as long as the depth that did not suffice
  record Chain (most d a : ℕ) : Type 0 where
    chain : ℕ → ℕ
    first : chain 0 ≡ a
    low : (i : ℕ) → i ≤ d → chain i < most
    goes : (i : ℕ) → i < d → Contains (ask (chain i)) (chain (suc i))

  chained : (most : ℕ) → ((a b : ℕ) → a < most → Contains (ask a) b → b < most) → (d a : ℕ) → a < most → layer ask d a ≡ None → Chain most d a
  chained most closed zero a lt e = record { chain = λ i. a; first = refl; low = λ i le. lt; goes = λ i h. absurd (omega arith) }
  chained most closed (suc d) a lt e =
      let n : greatest (layer ask d) (ask a) 0 ≡ None = ⊎_elim (λ n. n) (λ m. none_some (sym m.1)) (then_none (greatest (layer ask d) (ask a) 0) (λ n. Some (n + 1)) e) in
      let h = greatest_none (layer ask d) (ask a) 0 n in
      let c = chained most closed d h.0 (closed a h.0 lt h.1) h.2 in
      record {
        chain = before a c.chain;
        first = refl;
        low = low_at c.chain c.low;
        goes = goes_at c.chain (subst (λ x. Contains (ask a) x) (sym c.first) h.1) c.goes;
      }
    where
      low_at : (f : ℕ → ℕ) → ((i : ℕ) → i ≤ d → f i < most) → (i : ℕ) → i ≤ suc d → before a f i < most
      low_at f h zero le = lt
      low_at f h (suc i) le = h i (omega arith)

      goes_at : (f : ℕ → ℕ) → Contains (ask a) (f 0) → ((i : ℕ) → i < d → Contains (ask (f i)) (f (suc i))) → (i : ℕ) → i < suc d → Contains (ask (before a f i)) (before a f (suc i))
      goes_at f one h zero le = one
      goes_at f one h (suc i) le = h i (omega arith)

-- TABLES

below_decides : (f : ℕ → Bool) (n : ℕ) → Decides (below f n) ((k : ℕ) → k < n → f k ≡ true)
below_decides f n = Decides-below_and f (λ k. f k ≡ true) (below f) (λ k. (λ e. e, λ e. e)) refl (λ _. refl) n

below_not : (f : ℕ → Bool) (n : ℕ) → below f n ≡ false → (k : ℕ) × (k < n) × (f k ≡ false)
below_not f zero e = absurd (true≢false e)
below_not f (suc n) e = ⊎_elim (λ p. (n, omega arith, p)) (λ p. let r = below_not f n p in let lt = r.1 in (r.0, omega arith, r.2)) (and_cases (f n) (below f n) e)

-- a layer for each output excludes circles
layers_free : (t : Table) → has_layers t ≡ true → Circle t → ⊥
unfolding layer_in
layers_free t e c =
    let some = c.some in
    let first = c.goes c.start (omega arith) some in
    let n = some_says (layer_in t (c.chain c.start)) ((below_decides (λ a. is_some (layer_in t a)) (length t.outputs)).0 e (c.chain c.start) first.one) in
    endless (reads t) c.chain c.start c.end some c.returns (λ k from to. reads_from t (c.chain k) (c.chain (suc k)) (c.goes k from to)) 16 c.start n.0 (omega arith) some n.1

pub circle_free : (t : Table) → no_circle t ≡ true → Circle t → ⊥
circle_free t e = layers_free t (has_layers_is t ∙ e)

module _ (t : Table) (keeps : (a : ℕ) → a < length t.outputs → OutputKeeps t (length t.inputs + a) (output_at t a)) where
  -- where a depth of as many as there are outputs does not suffice, there is a circle
  circle_deep : (d a : ℕ) → length t.outputs ≤ d → a < length t.outputs → layer (reads t) d a ≡ None → Circle t
  circle_deep d a many lt e =
      let c = chained (reads t) (length t.outputs) (λ a b lt i. (reads_says t a b lt (keeps a lt) i).two) d a lt e in
      let w = pigeons (length t.outputs) c.chain (λ i le. c.low i (omega arith)) in
      let low = w.low in
      record {
        chain = c.chain;
        start = w.one;
        end = w.two;
        some = w.order;
        returns = w.same;
        goes = λ k from to. reads_says t (c.chain k) (c.chain (suc k)) (c.low k (omega arith)) (keeps (c.chain k) (c.low k (omega arith))) (c.goes k (omega arith));
      }

  pub circle_found : length t.outputs ≤ 16 → no_circle t ≡ false → Circle t
  unfolding layer_in
  circle_found few e =
      let b = below_not (λ a. is_some (layer_in t a)) (length t.outputs) (has_layers_is t ∙ e) in
      circle_deep 16 b.0 few b.1 (some_not (layer_in t b.0) b.2)

  -- without circles each output has a layer, at most as many as there are outputs
  pub layer_low : length t.outputs ≤ 16 → (Circle t → ⊥) → (a : ℕ) → a < length t.outputs → (n : ℕ) × (layer_in t a ≡ Some n) × (n ≤ length t.outputs)
  unfolding layer_in
  layer_low few none a lt = by (layer (reads t) (length t.outputs) a) refl
    where
      by : (o : Option ℕ) → layer (reads t) (length t.outputs) a ≡ o → (n : ℕ) × (layer (reads t) 16 a ≡ Some n) × (n ≤ length t.outputs)
      by None e = absurd (none (circle_deep (length t.outputs) a (omega arith) lt e))
      by (Some n) e =
          let deep : 16 - length t.outputs + length t.outputs ≡ 16 = omega arith in
          (n, subst (λ d. layer (reads t) d a ≡ Some n) deep (layer_deeper (reads t) (16 - length t.outputs) (length t.outputs) a n e), (layer_between (reads t) (length t.outputs) a n e).1)

  pub no_circle_from : length t.outputs ≤ 16 → (Circle t → ⊥) → no_circle t ≡ true
  no_circle_from few none = sym (has_layers_is t) ∙ (below_decides (λ a. is_some (layer_in t a)) (length t.outputs)).1 (λ a lt. ap is_some (layer_low few none a lt).1)

-- a layer is above those of the outputs that are asked
pub layer_over : (t : Table) (a n b : ℕ) → layer_in t a ≡ Some n → Contains (reads t a) b → (m : ℕ) × (layer_in t b ≡ Some m) × (m < n)
unfolding layer_in
layer_over t a n b e i = let p = layer_above (reads t) 15 a n b e i in (p.0, layer_more (reads t) 15 b p.0 p.1, p.2)

pub layer_some : (t : Table) (a n : ℕ) → layer_in t a ≡ Some n → 1 ≤ n
unfolding layer_in
layer_some t a n e = (layer_between (reads t) 16 a n e).0
