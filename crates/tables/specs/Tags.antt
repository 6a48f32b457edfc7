-- The numbers of tags, and what they say of a byte.
use Rattle.std.specs.Prelude.{◌≡◌, ◌≢◌, ℕ, Result, MatchResult}
use Rattle.tables.specs.declared.field.Tag.{Tag}
use Rattle.tables.specs.declared.field.Tag.TheVariants.{Life, Input, Event, Periodic, Trigger}
use Rattle.tables.specs.declared.field.UnknownTag.{UnknownTag}

abbrev pub tag_number : Tag → ℕ
tag_number Life = 1
tag_number Input = 2
tag_number Event = 3
tag_number Periodic = 4
tag_number Trigger = 5

-- the tag that has the number, or an error with a number that no tag has
abbrev pub Decodes : ℕ → Result Tag UnknownTag → Type 0
Decodes n r = MatchResult r (λ tag. tag_number tag ≡ n) (λ e. (e.0 ≡ n) × ((tag : Tag) → tag_number tag ≢ n))
