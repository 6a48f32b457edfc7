-- Layers tell whether there is a circle.
use Rattle.std.proofs.Common.{◌≡◌, ℕ, zero, suc, ◌+◌, max, ◌&&◌, List, [], ◌∷◌, length, Some, None, Option, refl, ◌∙◌}
use Rattle.tables.specs.declared.op.Op.{Op}
use Rattle.tables.specs.declared.op.Op.TheVariants.{Number, Now, Past, Held, Window, Add, Subtract, Multiply, Less, Equal, Choose}
use Rattle.tables.specs.Asking.{asked_stream, other_at}
use Rattle.tables.specs.Kinds.{Table}
use Rattle.tables.specs.Layers.{greatest, has_layers, is_some, layer, layer_in, then}
use Rattle.tables.specs.Rules.{all, asks, below, ends, no_circle, reads}

-- what an operation asks goes by the stream that it reads
pub asks_stream : (inputs a : ℕ) (o : Op) → asks inputs a o ≡ other_at inputs a (asked_stream o)
asks_stream inputs a (Number v) = refl
asks_stream inputs a (Now s) = refl
asks_stream inputs a (Past s b d) = refl
asks_stream inputs a (Held s d) = refl
asks_stream inputs a (Window s k u d) = refl
asks_stream inputs a Add = refl
asks_stream inputs a Subtract = refl
asks_stream inputs a Multiply = refl
asks_stream inputs a Less = refl
asks_stream inputs a Equal = refl
asks_stream inputs a Choose = refl

one_more : (o : Option ℕ) → is_some (then o (λ n. Some (n + 1))) ≡ is_some o
one_more None = refl
one_more (Some n) = refl

-- there is a greatest layer exactly where each of the outputs has one
greatest_some : (f : ℕ → Option ℕ) (xs : List ℕ) (top : ℕ) → is_some (greatest f xs top) ≡ all (λ a. is_some (f a)) xs
greatest_some f [] top = refl
greatest_some f (x ∷ xs) top = by (f x) (λ n. greatest_some f xs (max top n))
  where
    by : (o : Option ℕ) → ((n : ℕ) → is_some (greatest f xs (max top n)) ≡ all (λ a. is_some (f a)) xs) → is_some (then o (λ n. greatest f xs (max top n))) ≡ (is_some o && all (λ a. is_some (f a)) xs)
    by None more = refl
    by (Some n) more = more n

-- a layer at a depth is there exactly where every chain of reads is shorter
layer_ends : (r : ℕ → List ℕ) (d a : ℕ) → is_some (layer r d a) ≡ ends r d a
layer_ends r zero a = refl
layer_ends r (suc d) a =
    one_more (greatest (layer r d) (r a) 0)
    ∙ greatest_some (layer r d) (r a) 0
    ∙ (λ i. all (λ b. layer_ends r d b i) (r a))

layers_end : (r : ℕ → List ℕ) (d n : ℕ) → below (λ a. is_some (layer r d a)) n ≡ below (ends r d) n
layers_end r d n i = below (λ a. layer_ends r d a i) n

-- each output has a layer exactly where there is no circle
pub has_layers_is : (t : Table) → has_layers t ≡ no_circle t
unfolding layer_in
has_layers_is t = layers_end (reads t) 16 (length t.outputs)
