-- The laws of sums.
use Rattle.std.proofs.Common.{◌≡◌, ℕ, suc, ◌+◌, ◌-◌, ◌*◌, ◌^◌, ◌<◌, ◌≤◌, ltb, List, [], ◌∷◌, length, ℤ, pos, negsuc, ◌+ℤ◌, Some, sym, ap, ◌∙◌, arith, lit<, w64}
use mathlib.Core.HLevel.{is_prop→PathP}
use native.Mathlib.Bridge.{le_prop}
use lib.IntN.{sub_ℕ, +ℤ_assoc, +ℤ_idl, +ℤ_idr}
use lib.Signed.{mag}
use Rattle.std.specs.Int.{int_wrap}
use Rattle.std.proofs.lemmas.Int.{int_wrap_fits, int_wrap-add_left, int_wrap-add_right}
use Rattle.std.proofs.lemmas.Bool.{cond_both}
use Rattle.aggregates.specs.Figures.{partial_of, figure_of}
use Rattle.aggregates.specs.Folds.{Joins}
use Rattle.aggregates.specs.Partials.{sums}
use Rattle.aggregates.specs.Wholes.{clamped, Few, Small, sumZ}
use Rattle.aggregates.specs.declared.sum.Sum.{Sum}

-- the total decides, since a ghost field has one proof at most
pub sum_same : (x y : Sum) → x.total ≡ y.total → x ≡ y
sum_same x y e = λ i. record { total = e i; fits = is_prop→PathP (λ j. mag (e j) < 2 ^ 63) (λ j. le_prop) x.fits y.fits i }

unwrapped : (x : Sum) → int_wrap w64 x.total ≡ x.total
unwrapped x = int_wrap_fits w64 x.total (record { sfits = x.fits })

pub sum_joins : Joins sums.neutral sums.joined
sum_joins = record {
  left = λ x. sum_same _ x (ap (int_wrap w64) (+ℤ_idl x.total) ∙ unwrapped x);
  right = λ x. sum_same _ x (ap (int_wrap w64) (+ℤ_idr x.total) ∙ unwrapped x);
  assoc = λ x y z. sum_same _ _ (int_wrap-add_left w64 (x.total +ℤ y.total) z.total ∙ ap (int_wrap w64) (+ℤ_assoc x.total y.total z.total) ∙ sym (int_wrap-add_right w64 x.total (y.total +ℤ z.total)));
}

sum_wraps : (xs : List ℤ) → (partial_of sums xs).total ≡ int_wrap w64 (sumZ xs)
sum_wraps [] = sym (int_wrap_fits w64 (pos 0) (record { sfits = lit< tt }))
sum_wraps (x ∷ xs) = ap (λ y. int_wrap w64 (int_wrap w64 x +ℤ y)) (sum_wraps xs) ∙ int_wrap-add_left w64 x (int_wrap w64 (sumZ xs)) ∙ int_wrap-add_right w64 x (sumZ xs)

mag_sub : (m n : ℕ) → mag (sub_ℕ m n) ≤ m + n
mag_sub m n = cond_both (ltb m n) (negsuc (n - suc m)) (pos (m - n)) (λ z. mag z ≤ m + n) (λ e. omega arith) (λ e. omega arith)

mag_add : (x y : ℤ) → mag (x +ℤ y) ≤ mag x + mag y + 1
mag_add (pos a) (pos b) = omega arith
mag_add (pos a) (negsuc b) = omega (arith, mag_sub a (suc b))
mag_add (negsuc a) (pos b) = omega (arith, mag_sub b (suc a))
mag_add (negsuc a) (negsuc b) = omega arith

sum_bound : (xs : List ℤ) → Small xs → mag (sumZ xs) ≤ length xs * 2 ^ 31
sum_bound [] small = omega arith
sum_bound (x ∷ xs) small = omega (arith, mag_add x (sumZ xs), sum_bound xs small.1)

pub sum_fits : (xs : List ℤ) → Few xs → Small xs → (partial_of sums xs).total ≡ sumZ xs
sum_fits xs few small = sum_wraps xs ∙ int_wrap_fits w64 (sumZ xs) (record { sfits = omega (arith, sum_bound xs small) })

pub sum_exact : (xs : List ℤ) → Few xs → Small xs → figure_of sums xs ≡ sums.whole xs
sum_exact xs few small = ap (λ z. Some (clamped z)) (sum_fits xs few small)
