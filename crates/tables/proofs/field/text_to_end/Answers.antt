use Rattle.std.proofs.Common.{refl, rules}
use Rattle.std.proofs.lemmas.Bool.{le-leb, lt-leb}
use Rattle.tables.proofs.Texts.{to_end_is}
use Rattle.tables.proofs.field.text_to_end.Goals as goal

pub returns-then-not-in_range : goal.returns-then-not-in_range
returns-then-not-in_range c = rw (to_end_is c.args.low c.args.most c.args.bytes.now (search rules), ← c.if-not-in_range.ensures) refl

pub returns-then-bytes-most : goal.returns-then-bytes-most
returns-then-bytes-most c = rw (to_end_is c.args.low c.args.most c.args.bytes.now (search rules), ← c.if-not-in_range.ensures, lt-leb _ _ c.if-bytes-most.true) refl

pub returns : goal.returns
returns c = rw (to_end_is c.args.low c.args.most c.args.bytes.now (search rules), ← c.if-not-in_range.ensures, le-leb _ _ c.if-bytes-most.false) refl
