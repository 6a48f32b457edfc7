use Rattle.table_laws.proofs.Acceptance.{accepted, reads_back, sound_law, writes_back, written_once}
use Rattle.table_laws.proofs.accepting.Goals as goal

pub returns : goal.returns
returns c = record { accepted = accepted; writes_back = writes_back; reads_back = reads_back; written_once = written_once; sound = sound_law }
