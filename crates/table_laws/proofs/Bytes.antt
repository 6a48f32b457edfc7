-- Lists of bytes.
use Rattle.std.proofs.Common.{ℕ, zero, suc, ◌<◌, List, [], ◌∷◌, ◌++◌, length, subst, refl, arith}
use Rattle.std.proofs.lemmas.List.{take_at}
use Rattle.log_laws.specs.Laws.{Octets}
use Rattle.log_laws.proofs.Numbers.{octets_take}

pub octets_none : Octets []
octets_none i = omega arith

pub octets_more : (b : ℕ) (bs : List ℕ) → b < 256 → Octets bs → Octets (b ∷ bs)
octets_more b bs small o zero = small
octets_more b bs small o (suc i) = o i

pub octets_append : (xs ys : List ℕ) → Octets xs → Octets ys → Octets (xs ++ ys)
octets_append [] ys p q = q
octets_append (x ∷ xs) ys p q = octets_more x (xs ++ ys) (p 0) (octets_append xs ys (λ i. p (suc i)) q)

pub octets_front : (xs ys : List ℕ) → Octets (xs ++ ys) → Octets xs
octets_front xs ys o = subst Octets (take_at xs ys (length xs) refl) (octets_take (length xs) (xs ++ ys) o)
