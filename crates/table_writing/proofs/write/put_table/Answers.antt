use Rattle.std.proofs.Common.{◌∙◌, rules}
use Rattle.table_writing.proofs.Writes.{wrote_whole}
use Rattle.table_writing.proofs.write.put_table.Goals as goal

pub returns-clause-bytes : goal.returns-clause-bytes
returns-clause-bytes c = search rules ∙ wrote_whole _ _ _ c.put_parts.new.out c.new-out.ensures.start c.new-out.ensures.same.0 c.put_parts.ensures
