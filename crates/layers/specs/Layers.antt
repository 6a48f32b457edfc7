-- What the port means, and what a queue and a cover mean over a source.
use Rattle.std.specs.Prelude.{ℕ, ◌-◌, List, [], ◌++◌, map, length}
use Rattle.items.specs.declared.cause.End.TheVariants.{Dry}
use Rattle.items.specs.declared.item.Item.{Item}
use Rattle.items.specs.Items.{cut_item}
use Rattle.items.specs.Sources.{Meaning, Queued, farther}

-- nothing waits, the end is dry, and there is so much room
abbrev pub empty : ℕ → Meaning
empty room = record { waits = []; end = Dry; room = room }

-- a port has 32 places, and ends dry
abbrev pub port : List Item → Meaning
port waits = record { waits = waits; end = Dry; room = 32 - length waits }

-- a queue's list is its own items, and then those below; its end is the one below, one layer farther; its room is the one below
abbrev pub queue : List Item → Meaning → Meaning
queue own below = record { waits = own ++ below.waits; end = farther below.end; room = below.room }

-- a queue among those of its pile
abbrev pub queued : List Item → Meaning → Queued
queued own below = record { own = own; below = below.waits }

-- a cover cuts each item to its mask; it is no feed, so that it has no room
abbrev pub cover : ℕ → Meaning → Meaning
cover mask below = record { waits = map (cut_item mask) below.waits; end = farther below.end; room = 0 }
