use Rattle.std.proofs.Common.{◌≡◌, ◌+◌, length, Result}
use Rattle.tables.specs.Kinds.{Table}
use Rattle.tables.specs.Tables.{Refusal}
use Rattle.checked.specs.Judging.{first_fault}
use Rattle.checked.specs.Views.{said}
use Rattle.checked.proofs.judge.judge.Given as goal

abbrev pub invariant-loop-i : goal.invariant-loop-i
invariant-loop-i g l =
    let pairs = l.i-iterator.iter in
    ((rest : Result Table Refusal) → first_fault (g.T.Judged.keeps (said l.parts)) (l.me + l.i-iterator.count) pairs.a.rest.now pairs.b.rest.now rest ≡ first_fault (g.T.Judged.keeps (said l.parts)) l.me l.elements l.places rest)
    × (l.i-iterator.count + length pairs.a.rest.now ≡ length l.elements)
