-- What a vector in fixed memory holds.
use Rattle.std.specs.Prelude.{ℕ, List, take, replicate}
use Rattle.std.proofs.Common.{zero-le, sym, ap}
use Rattle.std.proofs.Math.Nat.{sub-zero}
use Rattle.std.proofs.lemmas.List.{length-replicate}
use Rattle.fixed.specs.declared.blank.Blank.{Ghosts}
use Rattle.fixed.specs.declared.vec.FixedVec.{FixedVec}

-- its values
abbrev pub values : {T : Type 0} {n : ℕ} {b : Ghosts T} → FixedVec T n b → List T
values v = take v.count v.items

-- a vector of no value
abbrev pub empty : {T : Type 0} {n : ℕ} {b : Ghosts T} → FixedVec T n b
empty {n = n} {b = b} = record { items = replicate n b.blank; count = 0; few = zero-le; long = length-replicate n b.blank; behind = ap (λ k. replicate k b.blank) (sym (sub-zero n)) }
