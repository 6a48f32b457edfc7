use Rattle.std.proofs.Common.{◌≡◌, ◌≢◌, ℕ, zero, suc, false, refl}
use Rattle.tables.specs.declared.field.Tag.{Tag}
use Rattle.tables.specs.declared.field.Tag.TheVariants.{Life, Input, Event, Periodic, Trigger}
use Rattle.tables.specs.Tables.{Stood, admits}
use Rattle.tables.specs.Tags.{tag_number}
use Rattle.checked.specs.Gathering.{making, stood}
use Rattle.checked.proofs.gathered.Gathered.admits.Goals as goal

-- a byte that no tag has
untagged : (s : Stood) (n : ℕ) → ((tag : Tag) → tag_number tag ≢ n) → false ≡ admits s n
untagged s zero none = refl
untagged s (suc zero) none = absurd (none Life refl)
untagged s (suc (suc zero)) none = absurd (none Input refl)
untagged s (suc (suc (suc zero))) none = absurd (none Event refl)
untagged s (suc (suc (suc (suc zero)))) none = absurd (none Periodic refl)
untagged s (suc (suc (suc (suc (suc zero))))) none = absurd (none Trigger refl)
untagged s (suc (suc (suc (suc (suc (suc n)))))) none = refl

pub returns-in_default : goal.returns-in_default
returns-in_default c = untagged (stood (making c.args.self.now)) c.args.tag c.in_default.ensures.1
