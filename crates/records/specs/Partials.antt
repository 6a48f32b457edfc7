-- The panes of a window as partials: what an aggregate keeps of the values in each.
use Rattle.std.specs.Prelude.{◌≡◌, cond, List, [], ◌∷◌, map, replicate}
use mathlib.Core.List.{flatten}
use Rattle.aggregates.specs.Partials.{averages, counts, largests, smallests, sums}
use Rattle.aggregates.specs.declared.aggregate.Aggregate.{Ghosts}
use Rattle.aggregates.specs.Figures.{figure_of, partial_of}
use Rattle.aggregates.specs.Folds.{at_newest, join_of, slid}
use Rattle.items.specs.Values.{has}
use Rattle.tables.specs.Kinds.{Table}
use Rattle.tables.specs.Plans.{Slot}
use Rattle.records.specs.declared.entry.Entry.{Entry}
use Rattle.records.specs.declared.entry.Letter.{Letter}
use Rattle.records.specs.declared.entry.Letter.TheVariants.{R, D, L, S}
use Rattle.records.specs.Entries.{frame_of}
use Rattle.records.specs.Lookups.{active_in, value_in}
use Rattle.records.specs.Memory.{pane_count, panes}

-- as the panes of values change, so do those of partials: a value's partial is joined to the newest, and a neutral one comes for the oldest
abbrev pub partials_by : {M : Type 0} → Ghosts M → Table → Slot → Letter → Entry → List M → List M
partials_by a t w R e ps = cond (active_in t (frame_of e) w.stream) (at_newest a.neutral (λ p. a.joined p (a.mapped (value_in t (frame_of e) e.values w.stream))) ps) ps
partials_by a t w D e ps = cond (has e.active w.output) (slid a.neutral ps) ps
partials_by a t w L e ps = ps
partials_by a t w S e ps = ps

-- the partials of a window, oldest first; lists of entries have the latest first
abbrev pub partials : {M : Type 0} → Ghosts M → Table → Slot → List Entry → List M
partials a t w [] = replicate (pane_count t w) a.neutral
partials a t w (e ∷ r) = partials_by a t w e.letter e (partials a t w r)

-- for an aggregate: the partials are those of the values in the panes, and all joined give the figure of all values
pub record Keeps {M : Type 0} (a : Ghosts M) : Type 0 where
  pub each : (t : Table) (w : Slot) (r : List Entry) → partials a t w r ≡ map (partial_of a) (panes t w r)
  pub joined : (t : Table) (w : Slot) (r : List Entry) → a.finished (join_of a.neutral a.joined (partials a t w r)) ≡ figure_of a (flatten (panes t w r))

-- for all kinds
pub record KeepsAll : Type 0 where
  pub of_counts : Keeps counts
  pub of_sums : Keeps sums
  pub of_smallests : Keeps smallests
  pub of_largests : Keeps largests
  pub of_averages : Keeps averages
