use Rattle.records.proofs.Fitting.{all_fit}
use Rattle.records.proofs.laws.Goals as goal
use Rattle.records.proofs.Lettering.{beyond, letters}
use Rattle.records.proofs.Meaning.{begins, deadlines, equal, has_schedule, keeps_equations, only_one}
use Rattle.records.proofs.Waking.{active}

pub returns : goal.returns
returns c = record {
  has_schedule = has_schedule;
  keeps_equations = keeps_equations;
  only_one = only_one;
  begins = begins;
  equal = equal;
  letters = letters;
  beyond = beyond;
  deadlines = deadlines;
  active = active;
  fits = all_fit;
}
