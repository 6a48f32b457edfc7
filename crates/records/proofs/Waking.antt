-- The active outputs of each frame are those whose rule says so.
use Rattle.std.proofs.Common.{◌≡◌, ℕ, ◌+◌, ◌-◌, ◌<◌, Bool, true, false, cond, ◌&&◌, ltb, List, [], ◌∷◌, map, length, get_or, sym, refl, ap, ◌∙◌, arith}
use Rattle.std.proofs.ByRecursion.{All-append}
use Rattle.std.proofs.lemmas.List.{get_or-map, get_or_past, length-map}
use Rattle.std.proofs.lemmas.Bool.{and_right, ltb-true, ltb-false}
use Rattle.std.specs.List.{AllByRecursion as All}
use Rattle.items.specs.declared.item.Item.{Item}
use Rattle.items.specs.declared.item.Item.TheVariants.{Marked, Read}
use Rattle.items.specs.declared.item.Reading.{Reading}
use Rattle.items.specs.Values.{has}
use Rattle.tables.specs.Kinds.{Table}
use Rattle.tables.specs.Rules.{nothing, output_at}
use Rattle.tables.specs.Sound.{sound}
use Rattle.records.specs.declared.entry.Letter.{Letter}
use Rattle.records.specs.declared.entry.Letter.TheVariants.{R}
use Rattle.records.specs.Entries.{Frame}
use Rattle.records.specs.Laws.{Active}
use Rattle.records.specs.Lookups.{active_in}
use Rattle.records.specs.Schedule.{awake, deadline_frame, due, last_of, missing, reading_frame, schedule, schedule_from, stream_active, woken, woken_by}
use Rattle.records.proofs.Binary.{has_bits, no_bit}
use Rattle.records.proofs.Rounds.{Solves}
use Rattle.records.proofs.Solving.{awake_solves}
use Rattle.records.proofs.Telling.{Own, own, is_R, is_L, is_S}

-- a list of tests, one for each of so many outputs
tested : (vs : List Bool) (size : ℕ) (rule : ℕ → Bool) → length vs ≡ size → ((o : ℕ) → o < size → get_or vs o false ≡ rule o) → (o : ℕ) → get_or vs o false ≡ (ltb o size && rule o)
tested vs size rule long each o = by (ltb o size) refl
  where
    by : (b : Bool) → ltb o size ≡ b → get_or vs o false ≡ (b && rule o)
    by true e = each o (ltb-true o size e)
    by false e = get_or_past vs o false (let out = ltb-false o size e in omega arith)

module _ (t : Table) where
  pub deadline_active : (d : ℕ) → Active t (deadline_frame t d)
  deadline_active d o =
      has_bits (map (due d) t.outputs) o
      ∙ tested (map (due d) t.outputs) (length t.outputs) (λ o. due d (output_at t o)) (length-map t.outputs (due d)) (λ o lt. get_or-map (due d) t.outputs o nothing false lt) o

  all_deadlines : (ds : List ℕ) → All (Active t) (map (deadline_frame t) ds)
  all_deadlines [] = tt
  all_deadlines (d ∷ ds) = (deadline_active d, all_deadlines ds)

  module _ (whole : sound t ≡ true) where
    pub reading_active : {l : Letter} → Own l → (x : Reading) → Active t (reading_frame t l x)
    reading_active is_L x o = no_bit o ∙ sym (and_right (ltb o (length t.outputs)) false refl)
    reading_active is_S x o = no_bit o ∙ sym (and_right (ltb o (length t.outputs)) false refl)
    reading_active is_R x o =
        has_bits (awake t x.mask) o
        ∙ tested (awake t x.mask) (length t.outputs) (λ o. woken_by (active_in t f) (length t.inputs + o) (output_at t o).pace (output_at t o).ops) solved.size_is
        (λ o lt. solved.each_is o lt ∙ ap (λ a. woken_by a (length t.inputs + o) (output_at t o).pace (output_at t o).ops) (λ i s. same s i)) o
      where
        f : Frame
        f = reading_frame t R x

        solved : Solves false (woken t x.mask) (length t.outputs) (awake t x.mask)
        solved = awake_solves t whole x.mask

        same : (s : ℕ) → stream_active t x.mask (awake t x.mask) s ≡ active_in t (reading_frame t R x) s
        same s = ap (cond (ltb s (length t.inputs)) (has x.mask s)) (sym (has_bits (awake t x.mask) (s - length t.inputs)))

    active_from : (xs : List Item) (d r : ℕ) → All (Active t) (schedule_from t d r xs)
    active_from [] d r = tt
    active_from (Marked m ∷ xs) d r = All-append (Active t) _ _ (all_deadlines (missing t d m.time)) (active_from xs _ r)
    active_from (Read x ∷ xs) d r =
        All-append (Active t) _ _ (all_deadlines (missing t d x.time))
        (reading_active (own t (last_of d (missing t d x.time)) r x) x, active_from xs _ _)

    pub active : (xs : List Item) → All (Active t) (schedule t xs)
    active xs = active_from xs 0 0
