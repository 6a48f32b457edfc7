use Rattle.std.proofs.Common.{refl, rules}
use Rattle.std.proofs.lemmas.List.{take_rest}
use Rattle.std.proofs.lemmas.Result.{err_from_is_err_and}
use Rattle.tables.proofs.Contents.{trigger_passed}
use Rattle.tables.proofs.field.trigger.Goals as goal

pub returns-in_err-text_to_end : goal.returns-in_err-text_to_end
returns-in_err-text_to_end c =
    let p = err_from_is_err_and c.from_residual.result c.from_residual.ensures.1 in
    rw (p.1, p.2, trigger_passed c.args.bytes.now _ (search rules) (take_rest c.args.bytes.now 1), ← c.in_err-text_to_end.ensures) refl

pub returns : goal.returns
returns c = rw (trigger_passed c.args.bytes.now _ (search rules) (take_rest c.args.bytes.now 1), ← c.in_ok-text_to_end.ensures) refl
