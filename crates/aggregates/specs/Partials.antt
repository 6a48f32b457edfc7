-- What the aggregates keep of values: the data of each `impl`.
use Rattle.std.specs.Prelude.{◌+◌, ◌%◌, ◌^◌, length, ℤ, pos, ◌+ℤ◌, Some, None, if◌then◌else◌, int_div, nat_eq}
use Rattle.std.specs.Int.{int_wrap, int_min, int_max, w64}
use Rattle.std.proofs.Common.{mod-lt, lit<}
use Rattle.std.proofs.lemmas.Int.{SFits-int_wrap}
use Rattle.aggregates.specs.Averages.{mean}
use Rattle.aggregates.specs.Picks.{either, best}
use Rattle.aggregates.specs.Wholes.{clamped, sumZ}
use Rattle.aggregates.specs.declared.aggregate.Aggregate.{Ghosts}
use Rattle.aggregates.specs.declared.average.Average.{Average}
use Rattle.aggregates.specs.declared.count.Count.{Count}
use Rattle.aggregates.specs.declared.extreme.Extreme.{Extreme}
use Rattle.aggregates.specs.declared.largest.Max.{Max}
use Rattle.aggregates.specs.declared.smallest.Min.{Min}
use Rattle.aggregates.specs.declared.sum.Sum.{Sum}

abbrev pub counts : Ghosts Count
counts = record {
  mapped = λ _. record { n = 1; fits = lit< tt };
  neutral = record { n = 0; fits = lit< tt };
  joined = λ x y. record { n = (x.n + y.n) % 2 ^ 32; fits = mod-lt (x.n + y.n) (lit< tt) };
  finished = λ x. Some (clamped (pos x.n));
  whole = λ xs. Some (clamped (pos (length xs)));
}

abbrev pub sums : Ghosts Sum
sums = record {
  mapped = λ v. record { total = int_wrap w64 v; fits = (SFits-int_wrap w64 v).sfits };
  neutral = record { total = pos 0; fits = lit< tt };
  joined = λ x y. record {
    total = int_wrap w64 (x.total +ℤ y.total);
    fits = (SFits-int_wrap w64 (x.total +ℤ y.total)).sfits;
  };
  finished = λ x. Some (clamped x.total);
  whole = λ xs. Some (clamped (sumZ xs));
}

-- of the value that is picked of all
abbrev pub extremes : {P : Type 0} → (ℤ → ℤ → ℤ) → Ghosts (Extreme P)
extremes pick = record {
  mapped = λ v. record { best = Some v; by = record {} };
  neutral = record { best = None; by = record {} };
  joined = λ x y. record { best = either pick x.best y.best; by = record {} };
  finished = λ x. x.best;
  whole = best pick;
}

abbrev pub smallests : Ghosts (Extreme Min)
smallests = extremes int_min

abbrev pub largests : Ghosts (Extreme Max)
largests = extremes int_max

abbrev pub averages : Ghosts Average
averages = record {
  mapped = λ v. record { sum = sums.mapped v; count = counts.mapped v };
  neutral = record { sum = sums.neutral; count = counts.neutral };
  joined = λ x y. record { sum = sums.joined x.sum y.sum; count = counts.joined x.count y.count };
  finished = λ x. (if nat_eq x.count.n 0 then None else Some (clamped (int_div x.sum.total (pos x.count.n))));
  whole = mean;
}
