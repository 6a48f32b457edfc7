-- The aggregate of a number.
use Rattle.std.proofs.Common.{◌≡◌, ◌≢◌, ℕ, eqb, List, [], ◌∷◌, Some, None, Option, refl, sym, ap, ◌∙◌}
use Rattle.std.proofs.lemmas.Bool.{cond-false, ne_eqb}
use Rattle.aggregates.specs.declared.kind.Kind.{Kind}
use Rattle.aggregates.specs.declared.kind.Kind.TheVariants.{Count, Sum, Smallest, Largest, Average}
use Rattle.aggregates.specs.Kinds as kinds
use Rattle.tables.specs.Reading.{found, kind_of}

numbered_kind : (k : Kind) → Some k ≡ kind_of (kinds.number k)
numbered_kind Count = refl
numbered_kind Sum = refl
numbered_kind Smallest = refl
numbered_kind Largest = refl
numbered_kind Average = refl

no_kind : (n : ℕ) → ((k : Kind) → kinds.number k ≢ n) → None ≡ kind_of n
no_kind n none =
    let missed : (k : Kind) (ks : List Kind) → found n (k ∷ ks) ≡ found n ks = (λ k ks. cond-false (eqb (kinds.number k) n) (Some k) (found n ks) (ne_eqb (kinds.number k) n (none k))) in
    sym (missed Count (Sum ∷ Smallest ∷ Largest ∷ Average ∷ []) ∙ missed Sum (Smallest ∷ Largest ∷ Average ∷ []) ∙ missed Smallest (Largest ∷ Average ∷ []) ∙ missed Largest (Average ∷ []) ∙ missed Average [])

pub kind_is : (r : Option Kind) (n : ℕ) → elim r as (λ _. Type 0) [ Some k ↦ kinds.number k ≡ n | None ↦ ((k : Kind) → kinds.number k ≢ n) ] → r ≡ kind_of n
kind_is (Some k) n e = numbered_kind k ∙ ap kind_of e
kind_is None n none = no_kind n none
