-- Layers and circles. An output asks each other output that it reads by now, past or held.
use Rattle.std.specs.Prelude.{ℕ, zero, suc, ◌+◌, max, Bool, true, false, List, [], ◌∷◌, length, Some, None, Option}
use Rattle.tables.specs.Kinds.{Table}
use Rattle.tables.specs.Rules.{below, reads}

-- goes on with a number where there is one
abbrev pub then : Option ℕ → (ℕ → Option ℕ) → Option ℕ
then None k = None
then (Some n) k = k n

-- the greatest of a number and the layers of some outputs; none where one of them has none
abbrev pub greatest : (layer : ℕ → Option ℕ) → List ℕ → (top : ℕ) → Option ℕ
greatest layer [] top = Some top
greatest layer (a ∷ rest) top = then (layer a) (λ n. greatest layer rest (max top n))

-- the layer of the output `a`: one more than the greatest layer among the outputs that it asks, and 1 where it asks none; none where a chain of reads from it is as long as the depth
abbrev pub layer : (asks : ℕ → List ℕ) → (depth a : ℕ) → Option ℕ
layer asks zero a = None
layer asks (suc depth) a = then (greatest (layer asks depth) (asks a) 0) (λ n. Some (n + 1))

abbrev pub is_some : Option ℕ → Bool
is_some None = false
is_some (Some n) = true

-- a table has at most 16 outputs, so a chain of 16 reads returns to an output where it was
unfoldable pub layer_in : Table → ℕ → Option ℕ
layer_in t a = layer (reads t) 16 a

-- each output has a layer, which is so exactly where no chain of reads returns to its start
abbrev pub has_layers : Table → Bool
has_layers t = below (λ a. is_some (layer_in t a)) (length t.outputs)
