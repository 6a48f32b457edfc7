use Rattle.std.proofs.Common.{◌≡◌, IfSome, rules, arith}
use Rattle.std.specs.Io.Take.{take_limit, take_remaining}
use Rattle.files.proofs.Limits.{all_below_limit}
use Rattle.files.proofs.read_from.Goals as goal

pub returns-clause-whole : goal.returns-clause-whole
returns-clause-whole g c =
    let read : IfSome (take_remaining g.R.Read.remaining c.take.result) (λ xs. c.read_to_end.new.buf.items ≡ xs) = search rules in
    all_below_limit (take_limit c.take.result) _ _ (rw c.take.ensures.inner at read) (omega arith)
