-- The laws of counts.
use Rattle.std.proofs.Common.{◌≡◌, ◌+◌, ◌%◌, ◌^◌, ◌<◌, List, [], ◌∷◌, length, ℤ, pos, Some, sym, refl, ap, ◌∙◌, add-zero, add_assoc, mod-eq_of_lt, add_comm, zero-add, add-one, arith}
use mathlib.Core.HLevel.{is_prop→PathP}
use native.Mathlib.Nat.{mod-add-mod, add-mod-mod}
use native.Mathlib.Bridge.{le_prop}
use Rattle.aggregates.specs.Figures.{partial_of, figure_of}
use Rattle.aggregates.specs.Folds.{Joins}
use Rattle.aggregates.specs.Partials.{counts}
use Rattle.aggregates.specs.Wholes.{clamped, Few}
use Rattle.aggregates.specs.declared.count.Count.{Count}

-- the number decides, since a ghost field has one proof at most
pub count_same : (x y : Count) → x.n ≡ y.n → x ≡ y
count_same x y e = λ i. record { n = e i; fits = is_prop→PathP (λ j. e j < 2 ^ 32) (λ j. le_prop) x.fits y.fits i }

pub count_joins : Joins counts.neutral counts.joined
count_joins = record {
  left = λ x. count_same _ x (ap (λ k. k % 2 ^ 32) (zero-add x.n) ∙ mod-eq_of_lt x.fits);
  right = λ x. count_same _ x (ap (λ k. k % 2 ^ 32) (add-zero x.n) ∙ mod-eq_of_lt x.fits);
  assoc = λ x y z. count_same _ _ (mod-add-mod (x.n + y.n) (2 ^ 32) z.n ∙ ap (λ k. k % 2 ^ 32) (add_assoc x.n y.n z.n) ∙ sym (add-mod-mod x.n (y.n + z.n) (2 ^ 32)));
}

count_wraps : (xs : List ℤ) → (partial_of counts xs).n ≡ length xs % 2 ^ 32
count_wraps [] = refl
count_wraps (x ∷ xs) = ap (λ k. (1 + k) % 2 ^ 32) (count_wraps xs) ∙ add-mod-mod 1 (length xs) (2 ^ 32) ∙ ap (λ k. k % 2 ^ 32) (add_comm 1 (length xs) ∙ add-one (length xs))

pub count_fits : (xs : List ℤ) → Few xs → (partial_of counts xs).n ≡ length xs
count_fits xs few = count_wraps xs ∙ mod-eq_of_lt (omega arith)

pub count_exact : (xs : List ℤ) → Few xs → figure_of counts xs ≡ counts.whole xs
count_exact xs few = ap (λ k. Some (clamped (pos k))) (count_fits xs few)
