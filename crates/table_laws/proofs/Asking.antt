-- What outputs an output asks: the list against the sentence.
use Rattle.std.proofs.Common.{◌≡◌, ℕ, ◌+◌, ◌-◌, ◌<◌, Bool, true, false, cond, not, ◌&&◌, eqb, leb, List, [], ◌∷◌, length, Contains, sym, refl, subst, inl, inr, ⊎_elim, arith}
use Rattle.std.proofs.lemmas.Bool.{and_from, and_parts, false≢true, le-leb, leb-true}
use Rattle.std.proofs.lemmas.List.Elements.{All-contains, Contains-append_cases, Contains-append_left, Contains-append_right}
use Rattle.tables.specs.declared.op.Op.{Op}
use Rattle.tables.specs.declared.op.Op.TheVariants.{Number, Now, Past, Held, Window, Add, Subtract, Multiply, Less, Equal, Choose}
use Rattle.tables.specs.Kinds.{Table}
use Rattle.tables.specs.Rules.{asked, asks, other, output_at, reads}
use Rattle.table_laws.specs.Lawful.{Asks, OpKeeps, OutputKeeps, Reads}
use Rattle.table_laws.proofs.Members.{member_cases, member_first, member_none, member_rest}
use Rattle.table_laws.proofs.Sentences.{differs}

-- ONE STREAM

in_cond : (b : Bool) (x y : ℕ) → Contains (cond b (x ∷ []) []) y → (b ≡ true) × (y ≡ x)
in_cond true x y i = ⊎_elim (λ e. (refl, e)) (λ j. absurd (member_none y j)) (member_cases y x [] i)
in_cond false x y i = absurd (member_none y i)

cond_in : (b : Bool) (x y : ℕ) → b ≡ true → y ≡ x → Contains (cond b (x ∷ []) []) y
cond_in true x y e same = member_first y x [] same
cond_in false x y e same = absurd (false≢true e)

module _ (inputs a : ℕ) where
  other_says : (s b : ℕ) → Contains (other inputs a s) b → (inputs + b ≡ s) × (b ≡ a → ⊥)
  other_says s b h =
      let p = in_cond (leb inputs s && not (eqb s (inputs + a))) (s - inputs) b h in
      let q = and_parts (leb inputs s) (not (eqb s (inputs + a))) p.0 in
      let behind = leb-true inputs s q.0 in
      let is = p.1 in
      let apart = (differs s (inputs + a)).0 q.1 in
      (omega arith, λ e. apart (omega arith))

  other_from : (s b : ℕ) → inputs + b ≡ s → (b ≡ a → ⊥) → Contains (other inputs a s) b
  other_from s b e apart =
      cond_in (leb inputs s && not (eqb s (inputs + a))) (s - inputs) b
      (and_from (leb inputs s) (not (eqb s (inputs + a))) (le-leb inputs s (omega arith)) ((differs s (inputs + a)).1 (λ z. apart (omega arith))))
      (omega arith)

  -- ONE OPERATION

  by_stream : (x : ℕ → Op) (s b : ℕ) → ((r : ℕ) → Asks (x r) r) → Contains (other inputs a s) b → Asks (x s) (inputs + b) × (b ≡ a → ⊥)
  by_stream x s b asks-it h = let p = other_says s b h in (subst (λ r. Asks (x s) r) (sym p.0) (asks-it s), p.1)

  asks_says : (x : Op) (b : ℕ) → Contains (asks inputs a x) b → Asks x (inputs + b) × (b ≡ a → ⊥)
  asks_says (Number v) b h = absurd (member_none b h)
  asks_says (Now s) b h = by_stream Now s b (λ r. inl (inl refl)) h
  asks_says (Past s k d) b h = by_stream (λ r. Past r k d) s b (λ r. inl (inr (k, d, refl))) h
  asks_says (Held s d) b h = by_stream (λ r. Held r d) s b (λ r. inr (d, refl)) h
  asks_says (Window s k u d) b h = absurd (member_none b h)
  asks_says Add b h = absurd (member_none b h)
  asks_says Subtract b h = absurd (member_none b h)
  asks_says Multiply b h = absurd (member_none b h)
  asks_says Less b h = absurd (member_none b h)
  asks_says Equal b h = absurd (member_none b h)
  asks_says Choose b h = absurd (member_none b h)

  asks_from : (x : Op) (b : ℕ) → Asks x (inputs + b) → (b ≡ a → ⊥) → Contains (asks inputs a x) b
  asks_from x b (inl (inl e)) apart = subst (λ y. Contains (asks inputs a y) b) (sym e) (other_from (inputs + b) b refl apart)
  asks_from x b (inl (inr (k, d, e))) apart = subst (λ y. Contains (asks inputs a y) b) (sym e) (other_from (inputs + b) b refl apart)
  asks_from x b (inr (d, e)) apart = subst (λ y. Contains (asks inputs a y) b) (sym e) (other_from (inputs + b) b refl apart)

  -- ALL OPERATIONS

  asked_says : (os : List Op) (b : ℕ) → Contains (asked inputs a os) b → (b ≡ a → ⊥) × ((x : Op) × Contains os x × Asks x (inputs + b))
  asked_says [] b h = absurd (member_none b h)
  asked_says (o ∷ os) b h =
      ⊎_elim
      (λ l. let p = asks_says o b l in (p.1, (o, member_first o o os refl, p.0)))
      (λ r. let p = asked_says os b r in (p.0, (p.1.0, member_rest p.1.0 o os p.1.1, p.1.2)))
      (Contains-append_cases (asks inputs a o) (asked inputs a os) b h)

  asked_from : (os : List Op) (x : Op) (b : ℕ) → Contains os x → Asks x (inputs + b) → (b ≡ a → ⊥) → Contains (asked inputs a os) b
  asked_from [] x b h k apart = absurd (member_none x h)
  asked_from (o ∷ os) x b h k apart =
      ⊎_elim
      (λ e. Contains-append_left (asks inputs a o) (asked inputs a os) b (asks_from o b (subst (λ y. Asks y (inputs + b)) e k) apart))
      (λ r. Contains-append_right (asks inputs a o) (asked inputs a os) b (asked_from os x b r k apart))
      (member_cases x o os h)

-- a read is in the list
pub reads_from : (t : Table) (a b : ℕ) → Reads t a b → Contains (reads t a) b
reads_from t a b r = asked_from (length t.inputs) a (output_at t a).ops r.by.0 b r.by.1 r.by.2 r.apart

-- where the rules are kept, what is in the list is a read
pub reads_says : (t : Table) (a b : ℕ) → a < length t.outputs → OutputKeeps t (length t.inputs + a) (output_at t a) → Contains (reads t a) b → Reads t a b
reads_says t a b lt keeps i =
    let p = asked_says (length t.inputs) a (output_at t a).ops b i in
    let x = p.1.0 in
    let k = All-contains (OpKeeps t (length t.inputs + a) (output_at t a).pace) (output_at t a).ops x keeps.each p.1.1 in
    let there = k.exists (length t.inputs + b) (inl p.1.2) in
    record { one = lt; two = omega arith; apart = p.0; by = p.1 }
