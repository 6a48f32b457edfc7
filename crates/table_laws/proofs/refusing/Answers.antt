use Rattle.table_laws.proofs.Faults.{content_refused}
use Rattle.table_laws.proofs.Refusals.{refusal_told, refusal_truthful}
use Rattle.table_laws.proofs.refusing.Goals as goal

pub returns : goal.returns
returns c = record { content = content_refused; truthful = refusal_truthful; told = refusal_told }
