-- The layer of an output at a depth that is not 0, and where there is no such output.
use Rattle.std.proofs.Common.{◌≡◌, ℕ, zero, suc, ◌+◌, ◌-◌, ◌<◌, ◌≤◌, List, [], ◌∷◌, ◌++◌, length, max, Some, None, Option, refl, ap, ◌∙◌, arith}
use Rattle.fixed.specs.Values.{values}
use Rattle.tables.specs.Layers.{greatest, layer, then}
use Rattle.tables.specs.Plans.{layer_number, number_or_zero}
use Rattle.tables.specs.Layers.{layer_in}
use Rattle.tables.specs.Rules.{asked, reads}
use Rattle.checked.specs.declared.parts.Parts.{Parts}
use Rattle.checked.specs.Views.{said}
use Rattle.checked.proofs.Saying.{no_output_said}

pub deeper : (asks : ℕ → List ℕ) (depth a : ℕ) → 0 < depth → layer asks depth a ≡ then (greatest (layer asks (depth - 1)) (asks a) 0) (λ n. Some (n + 1))
deeper asks zero a h = absurd (omega arith)
deeper asks (suc d) a h = let e : d ≡ suc d - 1 = omega arith in ap (λ m. then (greatest (layer asks m) (asks a) 0) (λ n. Some (n + 1))) e

pub past_layer : (p : Parts) (depth a : ℕ) → 0 < depth → length (values p.outputs) ≤ a → layer (reads (said p)) depth a ≡ Some 1
past_layer p depth a some past =
    deeper (reads (said p)) depth a some ∙ ap (λ o. then (greatest (layer (reads (said p)) (depth - 1)) (asked (length (said p).inputs) a o.ops) 0) (λ n. Some (n + 1))) (no_output_said p a past)

pub no_layer : (p : Parts) (a : ℕ) → length (values p.outputs) ≤ a → layer_number (said p) a ≡ 1
unfolding layer_in
no_layer p a past = ap number_or_zero (past_layer p 16 a (omega arith) past)

-- where one of the outputs has no layer, none of more is the greatest
pub greatest_stops : (f : ℕ → Option ℕ) (xs ys : List ℕ) (top low : ℕ) → greatest f xs low ≡ None → greatest f (xs ++ ys) top ≡ None
greatest_stops f [] ys top low e = let z : ◌≡◌ {A = ℕ} 0 1 = cc in absurd (omega arith)
greatest_stops f (x ∷ xs) ys top low e = by (f x) (λ n. greatest_stops f xs ys (max top n) (max low n)) e
  where
    by : (o : Option ℕ) → ((n : ℕ) → greatest f xs (max low n) ≡ None → greatest f (xs ++ ys) (max top n) ≡ None) → then o (λ n. greatest f xs (max low n)) ≡ None → then o (λ n. greatest f (xs ++ ys) (max top n)) ≡ None
    by None rest e = refl
    by (Some n) rest e = rest n e
