-- Sliding panes.
use Rattle.std.proofs.Common.{◌≡◌, ◌-◌, List, [], ◌∷◌, map, length, get_or, set, sym, refl, ap, ◌∙◌}
use lib.ListN.{get_or-map}
use Rattle.std.proofs.lemmas.List.{map-append, map-set, length-map}
use Rattle.aggregates.specs.Folds.{slid, at_newest}

-- a map over panes goes along with their changes
module _ {M N : Type 0} (f : M → N) where
  pub slid_map : (new : M) (ps : List M) → map f (slid new ps) ≡ slid (f new) (map f ps)
  slid_map new [] = refl
  slid_map new (p ∷ ps) = map-append f ps (new ∷ [])

  pub newest_map : (default : M) (g : M → M) (h : N → N) → ((p : M) → f (g p) ≡ h (f p)) → (ps : List M) → map f (at_newest default g ps) ≡ at_newest (f default) h (map f ps)
  newest_map default g h along ps =
      let last = length ps - 1 in
      let same : length (map f ps) ≡ length ps = length-map ps f in
      map-set f ps last (g (get_or ps last default)) ∙ ap (set (map f ps) last) (along (get_or ps last default) ∙ ap h (sym (get_or-map f ps last default))) ∙ sym (ap (λ n. set (map f ps) (n - 1) (h (get_or (map f ps) (n - 1) (f default)))) same)
