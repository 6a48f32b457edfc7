use Rattle.std.proofs.Common.{◌≡◌}
use Rattle.tables.specs.Programs.{listed}
use Rattle.tables.specs.Reading as reading
use Rattle.tables.proofs.op.Program.fits.Given as goal

abbrev pub invariant-loop-op : goal.invariant-loop-op
invariant-loop-op l = reading.fits l.height l.op-iterator.rest.now ≡ reading.fits 0 (listed l.fn.self)
