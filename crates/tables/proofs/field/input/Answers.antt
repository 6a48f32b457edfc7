use Rattle.std.proofs.Common.{Ok, refl}
use Rattle.std.proofs.lemmas.Result.{err_from_is_err_and}
use Rattle.tables.specs.Kinds as kinds
use Rattle.tables.proofs.Texts.{to_end_passed}
use Rattle.tables.proofs.field.input.Goals as goal

pub returns-in_err-text_to_end : goal.returns-in_err-text_to_end
returns-in_err-text_to_end c =
    let p = err_from_is_err_and c.from_residual.result c.from_residual.ensures.1 in
    rw (p.1, p.2, to_end_passed 33 16 (λ s. Ok (kinds.input s)) c.args.bytes.now, ← c.in_err-text_to_end.ensures) refl

pub returns : goal.returns
returns c = rw (to_end_passed 33 16 (λ s. Ok (kinds.input s)) c.args.bytes.now, ← c.in_ok-text_to_end.ensures) refl
