-- What a clock that ticks means.
use Rattle.std.specs.Prelude.{ℕ, zero, suc, ◌+◌, ◌^◌, cond, List, [], ◌∷◌, nat_le}
use Rattle.items.specs.declared.cause.End.TheVariants.{Dry}
use Rattle.items.specs.declared.item.Item.{Item}
use Rattle.items.specs.declared.item.Item.TheVariants.{Marked}
use Rattle.items.specs.Items.{mark_of}
use Rattle.items.specs.Sources.{Meaning}

-- so many marks, each a millisecond after the one before
abbrev pub marks : (next left : ℕ) → List Item
marks next zero = []
marks next (suc left) = Marked (mark_of next) ∷ marks (next + 1) left

abbrev pub ticking : (next left : ℕ) → Meaning
ticking next left = record { waits = marks next left; end = Dry; room = 0 }

-- none where one of them would be no time
abbrev pub ticking_within : (next left : ℕ) → Meaning
ticking_within next left = cond (nat_le (next + left) (2 ^ 40)) (ticking next left) (ticking 0 0)
