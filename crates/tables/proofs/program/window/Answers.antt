use Rattle.std.proofs.Common.{◌≡◌, ◌<◌, ◌≤◌, ℕ, List, [], ◌∷◌, length, get_or, None, Err, sym, ap, ◌∙◌, refl, rules, arith}
use Rattle.std.proofs.lemmas.Bool.{lt-ltb}
use Rattle.std.proofs.lemmas.Result.{err_from_is_err_and}
use Rattle.std.specs.Option.{ok_or}
use Rattle.tables.specs.declared.flaw.Flaw.TheVariants.{Range}
use Rattle.tables.specs.declared.op.Op.{Op}
use Rattle.tables.specs.Fronts.{kept}
use Rattle.tables.specs.Reading.{kind_of, operands}
use Rattle.tables.proofs.Aggregates.{kind_is}
use Rattle.tables.proofs.program.window.Goals as goal

no_aggregate : (w : ℕ) (bs : List ℕ) → w < 8 → 2 ≤ length bs → None ≡ kind_of (get_or bs 1 0) → Err 4 ≡ operands w 5 (kept {X = Op}) bs
no_aggregate w [] room long none = absurd (omega arith)
no_aggregate w (s ∷ []) room long none = absurd (omega arith)
no_aggregate w (s ∷ n ∷ bs) room long none = rw (lt-ltb w 8 room, ← none) refl

pub returns-in_err-kind : goal.returns-in_err-kind
returns-in_err-kind c =
    let p = err_from_is_err_and c.from_residual.result c.from_residual.ensures.1 in
    let none = c.in_err-kind.ensures.ok_part in
    let is : c.in_err-kind.field-0.0 ≡ Range = cc (c.in_err-kind.ensures.value ∙ ap (λ o. ok_or o Range) none) in
    let unknown = kind_is c.from_number.result _ c.from_number.ensures in
    rw (p.1, p.2, is) (no_aggregate c.args.windows c.args.bytes.now (search rules) (search rules) (sym none ∙ unknown))
