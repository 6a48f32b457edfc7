use Rattle.table_laws.proofs.Contents.{content_law}
use Rattle.table_laws.proofs.SameReading.{read_law}
use Rattle.table_laws.proofs.Written.{written_law}
use Rattle.table_laws.proofs.reading.Goals as goal

pub returns : goal.returns
returns c = record { content = content_law; table = read_law; written = written_law }
