-- One tick.
use Rattle.std.proofs.Common.{◌≡◌, ℕ, zero, suc, ◌+◌, ◌-◌, ◌<◌, ◌∷◌, Ok, sym, refl, arith}
use Rattle.items.specs.declared.item.Item.{Item}
use Rattle.items.specs.declared.item.Item.TheVariants.{Marked}
use Rattle.items.specs.declared.item.Mark.{Mark}
use Rattle.items.specs.Sources.{Took}
use Rattle.items.proofs.Making.{mark_is}
use Rattle.items.proofs.Taking.{took_first}
use Rattle.piles.specs.Ticking.{marks, ticking}

one_tick : (m : Mark) (left : ℕ) → 0 < left → marks m.time left ≡ Marked m ∷ marks (m.time + 1) (left - 1)
one_tick m zero h = absurd (omega arith)
one_tick m (suc left) h =
    let less : left ≡ suc left - 1 = omega arith in
    λ i. Marked (sym (mark_is m) i) ∷ marks (m.time + 1) (less i)

pub ticked : (m : Mark) (left : ℕ) (place : Item) → 0 < left → Took (ticking m.time left) place (Ok tt) (ticking (m.time + 1) (left - 1)) (Marked m)
ticked m left place h = took_first (ticking m.time left) (ticking (m.time + 1) (left - 1)) place (Marked m) (one_tick m left h) refl (omega arith)
