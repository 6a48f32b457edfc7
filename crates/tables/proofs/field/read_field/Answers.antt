use Rattle.std.proofs.Common.{◌≡◌, ◌≢◌, ℕ, zero, suc, List, Err, refl, ap, ◌∙◌}
use Rattle.std.proofs.lemmas.Result.{err_from_is_err_and}
use Rattle.tables.specs.declared.field.Tag.{Tag}
use Rattle.tables.specs.declared.field.Tag.TheVariants.{Life, Input, Event, Periodic, Trigger}
use Rattle.tables.specs.Fields.{said}
use Rattle.tables.specs.Flaws.{number}
use Rattle.tables.specs.Reading.{content}
use Rattle.tables.specs.Tags.{tag_number}
use Rattle.tables.proofs.field.read_field.Goals as goal

-- a content under a byte that no tag has
untagged : (n w : ℕ) (bs : List ℕ) → ((tag : Tag) → tag_number tag ≢ n) → Err 2 ≡ content n w bs
untagged zero w bs none = refl
untagged (suc zero) w bs none = absurd (none Life refl)
untagged (suc (suc zero)) w bs none = absurd (none Input refl)
untagged (suc (suc (suc zero))) w bs none = absurd (none Event refl)
untagged (suc (suc (suc (suc zero)))) w bs none = absurd (none Periodic refl)
untagged (suc (suc (suc (suc (suc zero))))) w bs none = absurd (none Trigger refl)
untagged (suc (suc (suc (suc (suc (suc n)))))) w bs none = refl

pub returns-in_err-try_from : goal.returns-in_err-try_from
returns-in_err-try_from c =
    let p = err_from_is_err_and c.from_residual.result c.from_residual.ensures.1 in
    ap said p.1 ∙ ap (λ f. Err (number f)) p.2 ∙ untagged c.args.tag c.args.windows c.args.content.now c.in_err-try_from.ensures.1
