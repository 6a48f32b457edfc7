use Rattle.std.proofs.Common.{◌∙◌, rules, tests}
use Rattle.std.proofs.lemmas.Iterator.{YieldsList-from_slice}
use Rattle.std.proofs.lemmas.Iterator.Search.{any_from_yields_List}
use Rattle.tables.specs.Programs.{listed}
use Rattle.tables.specs.Rules.{meets_other}
use Rattle.checked.proofs.Chains.{any_is}
use Rattle.checked.proofs.rules.any_meets_other.Goals as goal

pub returns : goal.returns
returns c =
    let ops = listed c.args.program.now in
    any_from_yields_List (meets_other c.args.me) _ _ c.any.result c.any.ensures.ran (YieldsList-from_slice ops (search rules)) (λ x b q k. search (rules, tests)) ∙ any_is (meets_other c.args.me) ops
