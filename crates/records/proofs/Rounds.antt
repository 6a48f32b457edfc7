-- What is found in rounds solves its rule, and nothing else does, where the rule looks only at lower levels.
use Rattle.std.proofs.Common.{◌≡◌, ℕ, zero, suc, ◌<◌, ◌≤◌, List, [], length, get_or, sym, ◌∙◌, ⊎_elim, zero-add, arith}
use Rattle.std.proofs.lemmas.List.FromFn.{get_or-map-range_with_len, length-map-range_with_len}
use Rattle.std.proofs.lemmas.List.{ext_get_or, get_or_past}
use Rattle.std.proofs.lemmas.Bool.{cases_lt}
use Rattle.records.specs.Schedule.{rounds}

-- the rule, at each place below the size, looks only at places of lower levels
abbrev pub LooksLower : {X : Type 0} → X → (List X → ℕ → X) → (size : ℕ) → (level : ℕ → ℕ) → Type 0
LooksLower {X} none rule size level =
    (o : ℕ) → o < size → (vs ws : List X) → ((s : ℕ) → level s < level o → get_or vs s none ≡ get_or ws s none) → rule vs o ≡ rule ws o

-- the values are as the rule says
pub record Solves {X : Type 0} (none : X) (rule : List X → ℕ → X) (size : ℕ) (vs : List X) : Type 0 where
  pub size_is : length vs ≡ size
  pub each_is : (o : ℕ) → o < size → get_or vs o none ≡ rule vs o

module _ {X : Type 0} (none : X) (rule : List X → ℕ → X) (size : ℕ) (level : ℕ → ℕ) (lower : LooksLower none rule size level) where
  round_at : (n o : ℕ) → o < size → get_or (rounds rule size (suc n)) o none ≡ rule (rounds rule size n) o
  round_at n o lt = get_or-map-range_with_len (rule (rounds rule size n)) 0 size o o none lt (zero-add o)

  round_size : (n : ℕ) → length (rounds rule size (suc n)) ≡ size
  round_size n = length-map-range_with_len (rule (rounds rule size n)) 0 size

  beyond : (n s : ℕ) → size ≤ s → get_or (rounds rule size n) s none ≡ none
  beyond zero s out = get_or_past [] s none (omega arith)
  beyond (suc n) s out = get_or_past (rounds rule size (suc n)) s none (omega (arith, round_size n))

  -- after more rounds than its level, a value stays
  settled : (n o : ℕ) → o < size → level o < n → get_or (rounds rule size (suc n)) o none ≡ get_or (rounds rule size n) o none
  settled zero o lt h = absurd (omega arith)
  settled (suc n) o lt h =
      round_at (suc n) o lt
      ∙ lower o lt (rounds rule size (suc n)) (rounds rule size n)
      (λ s low. ⊎_elim (λ within. settled n s within (omega arith)) (λ out. beyond (suc n) s out ∙ sym (beyond n s out)) (cases_lt s size))
      ∙ sym (round_at n o lt)

  -- so more rounds than levels find all
  pub rounds_solve : (n : ℕ) → ((o : ℕ) → level o < suc n) → Solves none rule size (rounds rule size (suc n))
  rounds_solve n few = record { size_is = round_size n; each_is = λ o lt. sym (settled (suc n) o lt (few o)) ∙ round_at (suc n) o lt }

  below : (n : ℕ) (vs ws : List X) → Solves none rule size vs → Solves none rule size ws → (o : ℕ) → level o < n → get_or vs o none ≡ get_or ws o none
  below zero vs ws p q o h = absurd (omega arith)
  below (suc n) vs ws p q o h =
      ⊎_elim
      (λ lt. p.each_is o lt ∙ lower o lt vs ws (λ s low. below n vs ws p q s (omega arith)) ∙ sym (q.each_is o lt))
      (λ out. get_or_past vs o none (omega (arith, p.size_is)) ∙ sym (get_or_past ws o none (omega (arith, q.size_is))))
      (cases_lt o size)

  pub one_solution : (vs ws : List X) → Solves none rule size vs → Solves none rule size ws → vs ≡ ws
  one_solution vs ws p q = ext_get_or none vs ws (p.size_is ∙ sym q.size_is) (λ o h. below (suc (level o)) vs ws p q o (omega arith))
