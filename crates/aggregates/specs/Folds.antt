-- Folds of values, and panes, for any kind of partial.
-- A partial is what is kept of some values. The neutral partial is that of no value.
-- A pane is the partial of one stretch of time; the panes of a window stand oldest first.
use Rattle.std.specs.Prelude.{◌≡◌, ◌-◌, List, [], ◌∷◌, ◌++◌, map, length, ℤ, slice_index_or, slice_set}
use mathlib.Core.List.{flatten}

-- the laws of a join
pub record Joins {M : Type 0} (neutral : M) (join : M → M → M) : Type 0 where
  pub left : (x : M) → join neutral x ≡ x
  pub right : (x : M) → join x neutral ≡ x
  pub assoc : (x y z : M) → join (join x y) z ≡ join x (join y z)

-- the partials of the values, joined in order
abbrev pub fold : {V M : Type 0} → M → (V → M) → (M → M → M) → List V → M
fold neutral of join [] = neutral
fold neutral of join (v ∷ vs) = join (of v) (fold neutral of join vs)

-- the panes, joined oldest first
abbrev pub join_of : {M : Type 0} → M → (M → M → M) → List M → M
join_of neutral join ps = fold neutral (λ p. p) join ps

-- the oldest goes, and a new one comes after the newest; of no panes none are left
abbrev pub slid : {M : Type 0} → M → List M → List M
slid new [] = []
slid new (p ∷ ps) = ps ++ new ∷ []

-- the newest is changed; of no panes none is, and the default, which is read then, leaves no trace
abbrev pub at_newest : {M : Type 0} → M → (M → M) → List M → List M
at_newest default f ps = slice_set ps (length ps - 1) (f (slice_index_or ps (length ps - 1) default))

-- Laws of panes that are the folds of consecutive pieces of a list of values.
-- The fold of the whole list is the join of the panes.
abbrev pub Splits : {M : Type 0} → M → (ℤ → M) → (M → M → M) → Type 0
Splits neutral of join = (pieces : List (List ℤ)) → fold neutral of join (flatten pieces) ≡ join_of neutral join (map (fold neutral of join) pieces)

-- To slide the panes is to drop the oldest piece and to begin an empty one.
abbrev pub Slides : {M : Type 0} → M → (ℤ → M) → (M → M → M) → Type 0
Slides neutral of join = (pieces : List (List ℤ)) → slid neutral (map (fold neutral of join) pieces) ≡ map (fold neutral of join) (slid [] pieces)

-- To join a value to the newest pane is to append it to the newest piece.
abbrev pub Gains : {M : Type 0} → M → (ℤ → M) → (M → M → M) → Type 0
Gains neutral of join = (v : ℤ) (pieces : List (List ℤ)) → at_newest neutral (λ p. join p (of v)) (map (fold neutral of join) pieces) ≡ map (fold neutral of join) (at_newest [] (λ piece. piece ++ v ∷ []) pieces)
