use Rattle.std.proofs.Common.{rules}
use Rattle.std.proofs.lemmas.Result.{err_from_is_err_and}
use Rattle.tables.proofs.Contents.{output_empty, output_fits, output_stops, output_unfit, output_unnamed}
use Rattle.tables.proofs.field.output.Goals as goal

pub returns-in_err-name : goal.returns-in_err-name
returns-in_err-name c =
    let p = err_from_is_err_and c.from_residual.result c.from_residual.ensures.1 in
    rw (p.1, p.2) (output_unnamed c.args.pace c.args.windows c.args.bytes.now _ c.in_err-name.ensures)

pub returns-then-is_empty : goal.returns-then-is_empty
returns-then-is_empty c = output_empty c.args.pace c.args.windows c.args.bytes.now _ _ c.in_ok-name.ensures (search rules)

pub returns-in_err-program : goal.returns-in_err-program
returns-in_err-program c =
    let p = err_from_is_err_and c.from_residual-in_err-program.result c.from_residual-in_err-program.ensures.1 in
    rw (p.1, p.2) (output_stops c.args.pace c.args.windows c.args.bytes.now _ _ c.in_ok-name.ensures (search rules) _ c.in_err-program.ensures)

pub returns-then-not-fits : goal.returns-then-not-fits
returns-then-not-fits c = output_unfit c.args.pace c.args.windows c.args.bytes.now _ _ c.in_ok-name.ensures (search rules) _ c.in_ok-program.ensures c.if-not-fits.ensures

pub returns : goal.returns
returns c = output_fits c.args.pace c.args.windows c.args.bytes.now _ _ c.in_ok-name.ensures (search rules) _ c.in_ok-program.ensures c.if-not-fits.ensures
