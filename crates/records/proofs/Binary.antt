-- The bits of a number that is made of tests.
use Rattle.std.proofs.Common.{◌≡◌, ℕ, zero, suc, ◌+◌, ◌*◌, ◌/◌, ◌%◌, ◌^◌, ◌<◌, ◌≤◌, Bool, true, false, cond, eqb, List, [], ◌∷◌, length, get_or, sym, refl, ap, ◌∙◌, div-one, arith, pow_mono}
use native.Mathlib.Nat.{add-mul-mod_self_left, div-div-eq-div-mul, pow-succ', zero-div}
use Rattle.items.specs.Values.{has}
use Rattle.records.specs.Entries.{bits}

pub no_bit : (i : ℕ) → has 0 i ≡ false
no_bit i = ap (λ n. eqb (n % 2) 1) (zero-div (2 ^ i))

pub has_bits : (bs : List Bool) (i : ℕ) → has (bits bs) i ≡ get_or bs i false
has_bits [] zero = refl
has_bits [] (suc i) = no_bit (suc i)
has_bits (b ∷ bs) zero = ap (λ n. eqb (n % 2) 1) (div-one (cond b 1 0 + 2 * bits bs)) ∙ ap (λ n. eqb n 1) (add-mul-mod_self_left (cond b 1 0) 2 (bits bs)) ∙ by b
  where
    by : (b : Bool) → eqb (cond b 1 0 % 2) 1 ≡ b
    by true = refl
    by false = refl
has_bits (b ∷ bs) (suc i) =
    ap (λ n. eqb (n % 2) 1)
    (ap (λ n. (cond b 1 0 + 2 * bits bs) / n) (pow-succ' 2 i)
    ∙ sym (div-div-eq-div-mul (cond b 1 0 + 2 * bits bs) 2 (2 ^ i))
    ∙ ap (λ n. n / 2 ^ i) (half b))
    ∙ has_bits bs i
  where
    half : (b : Bool) → (cond b 1 0 + 2 * bits bs) / 2 ≡ bits bs
    half true = omega arith
    half false = omega arith

-- so many bits
bits_below : (bs : List Bool) → bits bs < 2 ^ length bs
bits_below [] = omega arith
bits_below (b ∷ bs) = rw (pow-succ' 2 (length bs)) (by b (bits_below bs))
  where
    by : (b : Bool) → bits bs < 2 ^ length bs → cond b 1 0 + 2 * bits bs < 2 * 2 ^ length bs
    by true h = omega arith
    by false h = omega arith

pub bits_fit : (bs : List Bool) (n : ℕ) → length bs ≤ n → bits bs < 2 ^ n
bits_fit bs n h = let low = bits_below bs in let more : 2 ^ length bs ≤ 2 ^ n = pow_mono h in omega arith
