-- The record has the schedule and keeps the equations, and no other does; more items only add to it; it is decided by what makes items alike.
use Rattle.std.proofs.Common.{◌≡◌, true, List, [], ◌∷◌, ◌++◌, map, sym, refl, ap, ◌∙◌}
use Rattle.items.specs.declared.item.Item.{Item}
use Rattle.tables.specs.Kinds.{Table}
use Rattle.tables.specs.Sound.{sound}
use Rattle.records.specs.declared.entry.Entry.{Entry}
use Rattle.records.specs.Alike.{Alike, deadlines_to, greatest}
use Rattle.records.specs.Entries.{Frame, frame_of}
use Rattle.records.specs.Equations.{Equations, Holds}
use Rattle.records.specs.Laws.{Iff, deadlines_in, marked}
use Rattle.records.specs.Reference.{entry, fill, reference}
use Rattle.records.specs.Schedule.{schedule}
use Rattle.records.proofs.Solving.{entry_holds, one_entry}
use Rattle.records.proofs.Telling.{deadlines_framed, equal_schedules, schedule_begins, scheduled_deadlines}
use Rattle.records.proofs.Walking.{Chain, chain, everywhere, fill_append, fill_frames}

module _ (t : Table) where
  pub has_schedule : (xs : List Item) → map frame_of (reference t xs) ≡ schedule t xs
  has_schedule xs = fill_frames t (schedule t xs) []

  pub begins : (xs ys : List Item) → (more : List Entry) × (reference t (xs ++ ys) ≡ reference t xs ++ more)
  begins xs ys =
      let b = schedule_begins t xs ys in
      (_, ap (fill t []) b.1 ∙ fill_append t (schedule t xs) b.0 [])

  pub equal : (xs ys : List Item) → Iff (reference t xs ≡ reference t ys) (Alike t xs ys)
  equal xs ys = (
    (λ e. (equal_schedules t xs ys).0 (sym (has_schedule xs) ∙ ap (map frame_of) e ∙ has_schedule ys)),
    (λ a. ap (fill t []) ((equal_schedules t xs ys).1 a)),
  )

  framed : (r : List Entry) → deadlines_in r ≡ deadlines_framed (map frame_of r)
  framed [] = refl
  framed (e ∷ r) = ap (marked e.letter e.time) (framed r)

  pub deadlines : (xs : List Item) → deadlines_in (reference t xs) ≡ deadlines_to t (greatest 0 xs)
  deadlines xs = framed (reference t xs) ∙ ap deadlines_framed (has_schedule xs) ∙ scheduled_deadlines t xs

  module _ (whole : sound t ≡ true) where
    fill_holds : (fs : List Frame) (before : List Entry) → Chain (Holds t) before (fill t before fs)
    fill_holds [] before = tt
    fill_holds (f ∷ fs) before = (entry_holds t whole before f, fill_holds fs (entry t before f ∷ before))

    pub keeps_equations : (xs : List Item) → Equations t (reference t xs)
    keeps_equations xs = everywhere (Holds t) (reference t xs) (fill_holds (schedule t xs) [])

    only_fill : (r before : List Entry) → Chain (Holds t) before r → r ≡ fill t before (map frame_of r)
    only_fill [] before k = refl
    only_fill (e ∷ r) before k =
        let is = one_entry t whole before e k.0 in
        ap (λ l. e ∷ l) (only_fill r (e ∷ before) k.1) ∙ ap (λ x. x ∷ fill t (x ∷ before) (map frame_of r)) is

    pub only_one : (xs : List Item) (r : List Entry) → map frame_of r ≡ schedule t xs → Equations t r → r ≡ reference t xs
    only_one xs r s k = only_fill r [] (chain (Holds t) r k) ∙ ap (fill t []) s
