-- Partials of panes, for any aggregate.
use Rattle.std.proofs.Common.{◌≡◌, ℕ, zero, suc, Bool, true, false, cond, List, [], ◌∷◌, ◌++◌, map, replicate, ℤ, sym, refl, ap, ◌∙◌}
use Rattle.aggregates.specs.AverageLaws.{average_joins}
use Rattle.aggregates.specs.CountLaws.{count_joins}
use Rattle.aggregates.proofs.Folds.{fold_pieces, fold_push}
use Rattle.aggregates.specs.LargestLaws.{largest_joins}
use Rattle.aggregates.proofs.Slides.{newest_map, slid_map}
use Rattle.aggregates.specs.SmallestLaws.{smallest_joins}
use Rattle.aggregates.specs.SumLaws.{sum_joins}
use Rattle.aggregates.specs.declared.aggregate.Aggregate.{Ghosts}
use Rattle.aggregates.specs.Figures.{partial_of}
use Rattle.aggregates.specs.Folds.{Joins, join_of}
use Rattle.items.specs.Values.{has}
use Rattle.tables.specs.Kinds.{Table}
use Rattle.tables.specs.Plans.{Slot}
use Rattle.records.specs.declared.entry.Entry.{Entry}
use Rattle.records.specs.declared.entry.Letter.{Letter}
use Rattle.records.specs.declared.entry.Letter.TheVariants.{R, D, L, S}
use Rattle.records.specs.Entries.{frame_of}
use Rattle.records.specs.Lookups.{active_in, value_in}
use Rattle.records.specs.Memory.{pane_count, panes, panes_by}
use Rattle.records.specs.Partials.{Keeps, KeepsAll, partials, partials_by}

map_cond : {X Y : Type 0} (f : X → Y) (b : Bool) (x y : X) → f (cond b x y) ≡ cond b (f x) (f y)
map_cond f true x y = refl
map_cond f false x y = refl

module _ {M : Type 0} (a : Ghosts M) (laws : Joins a.neutral a.joined) where
  blank : (n : ℕ) → replicate n a.neutral ≡ map (partial_of a) (replicate n [])
  blank zero = refl
  blank (suc n) = ap (λ l. a.neutral ∷ l) (blank n)

  after : (t : Table) (w : Slot) (l : Letter) (e : Entry) (ps : List (List ℤ)) → partials_by a t w l e (map (partial_of a) ps) ≡ map (partial_of a) (panes_by t w l e ps)
  after t w R e ps =
      let v = value_in t (frame_of e) e.values w.stream in
      ap (λ l. cond (active_in t (frame_of e) w.stream) l (map (partial_of a) ps))
      (sym (newest_map (partial_of a) [] (λ p. p ++ (v ∷ [])) (λ p. a.joined p (a.mapped v)) (λ p. fold_push a.neutral a.mapped a.joined laws p v) ps))
      ∙ sym (map_cond (map (partial_of a)) (active_in t (frame_of e) w.stream) _ ps)
  after t w D e ps =
      ap (λ l. cond (has e.active w.output) l (map (partial_of a) ps)) (sym (slid_map (partial_of a) [] ps))
      ∙ sym (map_cond (map (partial_of a)) (has e.active w.output) _ ps)
  after t w L e ps = refl
  after t w S e ps = refl

  each : (t : Table) (w : Slot) (r : List Entry) → partials a t w r ≡ map (partial_of a) (panes t w r)
  each t w [] = blank (pane_count t w)
  each t w (e ∷ r) = ap (partials_by a t w e.letter e) (each t w r) ∙ after t w e.letter e (panes t w r)

  keeps : Keeps a
  keeps = record {
    each = each;
    joined = λ t w r. ap (λ ps. a.finished (join_of a.neutral a.joined ps)) (each t w r) ∙ ap a.finished (sym (fold_pieces a.neutral a.mapped a.joined laws (panes t w r)));
  }

pub keeps_all : KeepsAll
keeps_all = record {
  of_counts = keeps _ count_joins;
  of_sums = keeps _ sum_joins;
  of_smallests = keeps _ smallest_joins;
  of_largests = keeps _ largest_joins;
  of_averages = keeps _ average_joins;
}
