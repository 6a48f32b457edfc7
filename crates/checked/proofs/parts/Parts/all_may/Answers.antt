use Rattle.std.proofs.Common.{◌∙◌, rules, tests}
use Rattle.std.proofs.lemmas.Iterator.{YieldsList-from_slice}
use Rattle.std.proofs.lemmas.Iterator.Search.{all_from_yields_List}
use Rattle.tables.specs.Programs.{listed}
use Rattle.tables.specs.Rules.{may}
use Rattle.checked.specs.Views.{said}
use Rattle.checked.proofs.Chains.{all_is}
use Rattle.checked.proofs.parts.Parts.all_may.Goals as goal

pub returns : goal.returns
returns c =
    let ops = listed c.args.output.now.program in
    let test = may (said c.args.self.now) c.args.me c.args.output.now.pace in
    all_from_yields_List test _ _ c.all.result c.all.ensures.ran (YieldsList-from_slice ops (search rules)) (λ x b q k. search (rules, tests)) ∙ all_is test ops
