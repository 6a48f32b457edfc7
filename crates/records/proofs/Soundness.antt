-- What the test of a sound table says of its outputs.
use Rattle.std.proofs.Common.{◌≡◌, ℕ, zero, suc, ◌+◌, ◌<◌, ◌≤◌, Bool, true, ◌&&◌, leb, List, [], ◌∷◌, length, get_or, subst, arith}
use Rattle.std.proofs.lemmas.Bool.{and_parts, leb-true}
use Rattle.std.specs.List.{AllByRecursion as All}
use Rattle.tables.specs.Kinds.{Output, Table}
use Rattle.tables.specs.Rules.{all, no_circle, nothing, output_at, output_keeps}
use Rattle.tables.specs.Reading.{within}
use Rattle.tables.specs.Sound.{is_output, is_text, is_trigger, is_whole, keeps_rules, outputs_keep, sound, windows_in_all}

-- what is tested of all holds of each
pub each : {X : Type 0} (f : X → Bool) (xs : List X) → all f xs ≡ true → All (λ x. f x ≡ true) xs
each f [] e = tt
each f (x ∷ xs) e = let parts = and_parts (f x) (all f xs) e in (parts.0, each f xs parts.1)

keeps_at : (t : Table) (os : List Output) (me o : ℕ) → outputs_keep t me os ≡ true → o < length os → output_keeps t (me + o) (get_or os o nothing) ≡ true
keeps_at t [] me o e h = absurd (omega arith)
keeps_at t (x ∷ os) me zero e h = let z : me ≡ me + 0 = omega arith in subst (λ n. output_keeps t n x ≡ true) z (and_parts _ _ e).0
keeps_at t (x ∷ os) me (suc o) e h =
    let z : me + 1 + o ≡ me + suc o = omega arith in
    subst (λ n. output_keeps t n (get_or os o nothing) ≡ true) z (keeps_at t os (me + 1) o (and_parts _ _ e).1 (omega arith))

module _ (t : Table) (whole : sound t ≡ true) where
  pub circle_free : no_circle t ≡ true
  circle_free = (and_parts (keeps_rules t) (no_circle t) (and_parts (is_whole t) (keeps_rules t && no_circle t) whole).1).1

  -- the reading rules
  pub rules_kept : (o : ℕ) → o < length t.outputs → output_keeps t (length t.inputs + o) (output_at t o) ≡ true
  rules_kept o lt =
      let rules = (and_parts (keeps_rules t) (no_circle t) (and_parts (is_whole t) (keeps_rules t && no_circle t) whole).1).0 in
      keeps_at t t.outputs (length t.inputs) o (and_parts _ _ rules).0 lt

  -- the parts in range and in number
  parts : (within 1 16 (length t.outputs) ≡ true) × (leb (length t.triggers) 8 ≡ true) × (all is_output t.outputs ≡ true)
  parts =
      among (within 1 2000000000 t.life) (within 1 8 (length t.inputs)) (within 1 16 (length t.outputs)) (leb (length t.triggers) 8) (all (is_text 33 16) t.inputs)
      (all is_output t.outputs) (all is_trigger t.triggers && leb (windows_in_all t.outputs) 8) (and_parts (is_whole t) (keeps_rules t && no_circle t) whole).0
    where
      among : (a b c d e f rest : Bool) → (a && (b && (c && (d && (e && (f && rest)))))) ≡ true → (c ≡ true) × (d ≡ true) × (f ≡ true)
      among a b c d e f rest h =
          let from_c = and_parts c (d && (e && (f && rest))) (and_parts b _ (and_parts a _ h).1).1 in
          let from_d = and_parts d (e && (f && rest)) from_c.1 in
          (from_c.0, from_d.0, (and_parts f rest (and_parts e _ from_d.1).1).0)

  pub outputs_few : length t.outputs ≤ 16
  outputs_few = leb-true (length t.outputs) 16 (and_parts (leb 1 (length t.outputs)) (leb (length t.outputs) 16) parts.0).1

  pub triggers_few : length t.triggers ≤ 8
  triggers_few = leb-true (length t.triggers) 8 parts.1

  pub outputs_whole : All (λ o. is_output o ≡ true) t.outputs
  outputs_whole = each is_output t.outputs parts.2
