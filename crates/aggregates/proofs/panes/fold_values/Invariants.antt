use Rattle.std.proofs.Common.{◌≡◌, ℕ, ◌<◌, fold, get_or, take, pos, w32, SFits}
use Rattle.aggregates.proofs.panes.fold_values.Given as goal

abbrev pub invariant-loop-value : goal.invariant-loop-value
invariant-loop-value g l =
    let m = g.P.Aggregate in
    (l.all ≡ fold (λ all v. m.joined all (m.mapped v)) m.neutral (take l.value-index l.values))
    × ((k : ℕ) → k < l.value-index → SFits w32 (get_or l.values k (pos 0)))
