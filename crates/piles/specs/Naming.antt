-- What a layer that keeps a name means.
use Rattle.items.specs.Sources.{Meaning, farther}

-- it hands on what waits below; its end is the one below, one layer farther; it is no feed, so that it has no room
abbrev pub named : Meaning → Meaning
named below = record { waits = below.waits; end = farther below.end; room = 0 }
