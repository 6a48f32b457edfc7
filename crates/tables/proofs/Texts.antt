-- Texts: to a field's end, and as the name of an output.
use Rattle.std.proofs.Common.{◌≡◌, ℕ, zero, suc, ◌<◌, Bool, true, false, ◌&&◌, leb, List, [], ◌∷◌, length, get_or, take, drop, Ok, Err, Result, sym, refl, ap, ◌∙◌, arith}
use Rattle.std.proofs.Math.Dec.{leb-suc-suc, leb-suc-zero, leb-zero}
use Rattle.std.specs.List.{list_all}
use Rattle.tables.specs.Fields.{named, stands, text_to_end}
use Rattle.tables.specs.Fronts.{kept}
use Rattle.tables.specs.Reading.{ranged, some, test, text, till, within}
use Rattle.tables.proofs.Readers.{byte_onward, onward, test_onward}

pub some_on : {X : Type 0} (k : List ℕ → Result X ℕ) (bs : List ℕ) → 0 < length bs → some k bs ≡ k bs
some_on k [] more = absurd (omega arith)
some_on k (b ∷ bs) more = refl

-- first the bytes that are there, at most so many, and then how many there are
till_is : {X : Type 0} (low n : ℕ) (k : List ℕ → Result X ℕ) (bs : List ℕ) → till low n k bs ≡ test (list_all (within low 126) (take n bs)) 4 (test (leb (length bs) n) 3 k) bs
till_is low zero k [] = refl
till_is low (suc n) k [] = rw leb-zero
till_is low zero k (b ∷ bs) = rw leb-suc-zero
till_is low (suc n) k (b ∷ bs) = rw leb-suc-suc (by (within low 126 b) (till_is low n (λ s. k (b ∷ s)) bs ∙ moved (list_all (within low 126) (take n bs)) (leb (length bs) n)))
  where
    moved : (c d : Bool) → test c 4 (test d 3 (λ s. k (b ∷ s))) bs ≡ test c 4 (test d 3 k) (b ∷ bs)
    moved false d = refl
    moved true false = refl
    moved true true = refl

    by : (c : Bool) → till low n (λ s. k (b ∷ s)) bs ≡ test (list_all (within low 126) (take n bs)) 4 (test (leb (length bs) n) 3 k) (b ∷ bs)
        → test c 4 (till low n (λ s. k (b ∷ s))) bs ≡ test (c && list_all (within low 126) (take n bs)) 4 (test (leb (length bs) n) 3 k) (b ∷ bs)
    by false is = refl
    by true is = is

-- a text of so many bytes, likewise
text_is : {X : Type 0} (low n : ℕ) (k : List ℕ → List ℕ → Result X ℕ) (bs : List ℕ) → text low n k bs ≡ test (list_all (within low 126) (take n bs)) 4 (test (leb n (length bs)) 3 (k (take n bs))) (drop n bs)
text_is low zero k [] = refl
text_is low zero k (b ∷ bs) = rw leb-zero
text_is low (suc n) k [] = rw leb-suc-zero
text_is low (suc n) k (b ∷ bs) = rw leb-suc-suc (by (within low 126 b) (text_is low n (λ s. k (b ∷ s)) bs))
  where
    by : (c : Bool) → text low n (λ s. k (b ∷ s)) bs ≡ test (list_all (within low 126) (take n bs)) 4 (test (leb n (length bs)) 3 (k (b ∷ take n bs))) (drop n bs)
        → test c 4 (text low n (λ s. k (b ∷ s))) bs ≡ test (c && list_all (within low 126) (take n bs)) 4 (test (leb n (length bs)) 3 (k (b ∷ take n bs))) (drop n bs)
    by false is = refl
    by true is = is

pub to_end_is : (low n : ℕ) (bs : List ℕ) → 0 < length bs → text_to_end low n bs ≡ test (list_all (within low 126) (take n bs)) 4 (test (leb (length bs) n) 3 stands) bs
to_end_is low n bs more = some_on (till low n stands) bs more ∙ till_is low n stands bs

-- goes on where nothing was refused
abbrev pub passed : {Y : Type 0} → Result Y ℕ → Result (Unit {0}) ℕ → Result Y ℕ
passed y (Ok u) = y
passed y (Err e) = Err e

-- a text that is handed on is the text that was tested
pub to_end_passed : {Y : Type 0} (low n : ℕ) (k : List ℕ → Result Y ℕ) (bs : List ℕ) → some (till low n k) bs ≡ passed (k bs) (text_to_end low n bs)
to_end_passed low n k [] = refl
to_end_passed low n k (b ∷ bs) = till_is low n k (b ∷ bs) ∙ by _ _ ∙ ap (passed (k (b ∷ bs))) (sym (till_is low n stands (b ∷ bs)))
  where
    by : (c d : Bool) → test c 4 (test d 3 k) (b ∷ bs) ≡ passed (k (b ∷ bs)) (test c 4 (test d 3 stands) (b ∷ bs))
    by false d = refl
    by true false = refl
    by true true = refl

pub named_is : (bs rest : List ℕ) → 0 < length bs → rest ≡ drop 1 bs
    → named bs ≡ test (within 1 16 (get_or bs 0 0)) 4 (test (list_all (within 33 126) (take (get_or bs 0 0) rest)) 4 (test (leb (get_or bs 0 0) (length rest)) 3 (kept (take (get_or bs 0 0) rest)))) (drop (get_or bs 0 0) rest)
named_is [] rest more is = absurd (omega arith)
named_is (n ∷ bs) rest more is = rw is (by (within 1 16 n))
  where
    by : (c : Bool) → test c 4 (text 33 n kept) bs ≡ test c 4 (test (list_all (within 33 126) (take n bs)) 4 (test (leb n (length bs)) 3 (kept (take n bs)))) (drop n bs)
    by false = refl
    by true = text_is 33 n kept bs

text_onward : {Y : Type 0} (low n : ℕ) (f : List ℕ → List ℕ) (k : List ℕ → List ℕ → Result Y ℕ) (bs : List ℕ) → text low n (λ s. k (f s)) bs ≡ onward k (text low n (λ s. kept (f s)) bs)
text_onward low zero f k bs = refl
text_onward low (suc n) f k bs =
    byte_onward k _ _ bs (λ b rest. test_onward k (within low 126 b) 4 (text low n (λ s. k (f (b ∷ s)))) (text low n (λ s. kept (f (b ∷ s)))) rest (text_onward low n (λ s. f (b ∷ s)) k rest))

-- a name that is handed on is the name that is read
pub named_onward : {Y : Type 0} (k : List ℕ → List ℕ → Result Y ℕ) (bs : List ℕ) → ranged 1 16 (λ n. text 33 n k) bs ≡ onward k (named bs)
named_onward k bs = byte_onward k _ _ bs (λ n rest. test_onward k (within 1 16 n) 4 (text 33 n k) (text 33 n kept) rest (text_onward 33 n (λ s. s) k rest))
