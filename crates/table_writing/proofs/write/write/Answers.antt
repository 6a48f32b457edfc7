use Rattle.std.proofs.Common.{◌≤◌, length, rules}
use Rattle.tables.specs.Tables.{write}
use Rattle.checked.specs.Checking.{says}
use Rattle.table_writing.proofs.Backs.{back, put_done}
use Rattle.table_writing.proofs.write.write.Goals as goal

pub returns-clause-value : goal.returns-clause-value
returns-clause-value c =
    let room : length (write (says c.args.table.now)) ≤ length c.args.buffer.now = search rules in
    put_done (write (says c.args.table.now)) c.args.buffer.now _ _ room c.put_table.ensures.size c.put_table.ensures.bytes

pub returns-clause-back : goal.returns-clause-back
returns-clause-back c = back c.args.table.now c.args.buffer.now c.put_table.result c.put_table.new.buffer c.put_table.ensures.size c.put_table.ensures.bytes
