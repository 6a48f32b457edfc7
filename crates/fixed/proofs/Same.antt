-- Vectors of the same values are the same.
use Rattle.std.proofs.Common.{ℕ, ◌≡◌, sym, ap, ◌∙◌, length}
use base.Stored.{Coded}
use mathlib.Core.HLevel.{is_prop→PathP}
use Rattle.fixed.specs.contracts.vec.FixedVec as vector
use Rattle.fixed.specs.declared.blank.Blank.{Ghosts}
use Rattle.fixed.specs.declared.vec.FixedVec.{FixedVec}
use Rattle.fixed.specs.Values.{values}
use Rattle.fixed.proofs.Held.{filled, filled_held, held, length_held}

module _ {T : Type 0} (coded : Coded T) {n : ℕ} {b : Ghosts T} where
  pub same_values : (v w : FixedVec T n b) → values v ≡ values w → v ≡ w
  same_values v w e =
      let count : v.count ≡ w.count = sym (length_held (held v)) ∙ ap length e ∙ length_held (held w) in
      let items : v.items ≡ w.items = sym (filled_held (held v)) ∙ ap (filled b.blank n) e ∙ filled_held (held w) in
      λ i. let ghosts = is_prop→PathP (λ j. vector.the_ghost T n b (items j, (count j, tt))) (λ j. vector.the_propositions T n b coded (items j, (count j, tt))) (v.few, (v.long, (v.behind, tt))) (w.few, (w.long, (w.behind, tt))) i in
      record { items = items i; count = count i; few = ghosts.0; long = ghosts.1.0; behind = ghosts.1.1.0 }
