-- Folds of one kind of partial by those of another.
use Rattle.std.proofs.Common.{◌≡◌, List, [], ◌∷◌, ℤ, sym, ap, ◌∙◌, ap₂}
use Rattle.aggregates.specs.Figures.{partial_of}
use Rattle.aggregates.specs.Folds.{Joins, fold}
use Rattle.aggregates.specs.declared.aggregate.Aggregate.{Ghosts}

-- a map from an aggregate's partials that keeps the neutral one, values and joins keeps folds
pub fold_map : {M N : Type 0} (a : Ghosts M) (neutral : N) (of : ℤ → N) (join : N → N → N) (h : M → N) → h a.neutral ≡ neutral → ((v : ℤ) → h (a.mapped v) ≡ of v) → ((x y : M) → h (a.joined x y) ≡ join (h x) (h y)) → (vs : List ℤ) → h (partial_of a vs) ≡ fold neutral of join vs
fold_map a neutral of join h start one two [] = start
fold_map a neutral of join h start one two (v ∷ vs) = two (a.mapped v) (partial_of a vs) ∙ ap₂ join (one v) (fold_map a neutral of join h start one two vs)

-- partials that are other ones in a wrap, joined inside it
pub joins_wrapped : {M N : Type 0} {neutral : N} {join : N → N → N} (wrap : N → M) (inner : M → N) → ((x : M) → wrap (inner x) ≡ x) → ((n : N) → inner (wrap n) ≡ n) → Joins neutral join → Joins (wrap neutral) (λ x y. wrap (join (inner x) (inner y)))
joins_wrapped {neutral} {join} wrap inner back forth laws = record {
  left = λ x. ap (λ n. wrap (join n (inner x))) (forth neutral) ∙ ap wrap (laws.left (inner x)) ∙ back x;
  right = λ x. ap (λ n. wrap (join (inner x) n)) (forth neutral) ∙ ap wrap (laws.right (inner x)) ∙ back x;
  assoc = λ x y z. ap (λ n. wrap (join n (inner z))) (forth (join (inner x) (inner y))) ∙ ap wrap (laws.assoc (inner x) (inner y) (inner z)) ∙ ap (λ n. wrap (join (inner x) n)) (sym (forth (join (inner y) (inner z))));
}
