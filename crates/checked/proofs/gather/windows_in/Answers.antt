use Rattle.std.proofs.Common.{◌∙◌, rules}
use Rattle.std.proofs.lemmas.Iterator.{YieldsList-from_map, YieldsList-from_slice}
use Rattle.std.proofs.lemmas.Iterator.Consumers.{YieldsList-at, sum_by_from_yields_List}
use Rattle.tables.specs.Programs.{listed}
use Rattle.tables.specs.Reading.{windows_in}
use Rattle.checked.proofs.Chains.{windows_are}
use Rattle.checked.proofs.gather.windows_in.Goals as goal

pub returns : goal.returns
returns c =
    let ops = listed c.args.program.now in
    sum_by_from_yields_List windows_in ops c.map.result c.sum.result c.sum.ensures.ran (YieldsList-from_map _ windows_in (YieldsList-at c.map.ensures.source (YieldsList-from_slice ops (search rules))) c.map.ensures.closure (λ x r q k. search rules))
    ∙ windows_are ops
