-- What the answer to bytes means.
use Rattle.std.proofs.Common.{◌≡◌, ℕ, List, Ok, Err, Result, sym, ◌∙◌}
use Rattle.log_laws.specs.Laws.{Octets}
use Rattle.tables.specs.declared.flaw.Refused.{Refused}
use Rattle.tables.specs.Kinds as kinds
use Rattle.tables.specs.Tables.{Refusal, read}
use Rattle.table_laws.proofs.Acceptance.{accepted, sound_says}
use Rattle.table_laws.proofs.Readings.{apart}
use Rattle.table_laws.proofs.SameReading.{read_sound}
use Rattle.table_laws.proofs.Refusals.{refusal_told, refusal_truthful}
use Rattle.checked.specs.declared.table.Table.{Table}
use Rattle.checked.specs.Checking.{Right, says, told}
use Rattle.checked.specs.Gathering.{refusal_of}

same_refusal : {X : Type 0} (e f : Refusal) → ◌≡◌ {A = Result X Refusal} (Err e) (Err f) → e ≡ f
same_refusal e f p = cc

pub right : (bytes : List ℕ) → Octets bytes → (r : Result Table Refused) → told r ≡ read bytes → Right bytes r
right bytes o (Ok t) is = let s = read_sound bytes (says t) o (sym is) in record { bytes_back = s.0; keeps = sound_says (says t) s.1 }
right bytes o (Err e) is =
    record {
      truthful = refusal_truthful bytes (refusal_of e) o (sym is);
      only = λ other p. same_refusal {X = kinds.Table} other (refusal_of e) (sym (refusal_told bytes other o p) ∙ sym is);
      unlawful = λ l. let a = (accepted bytes o).1 l in apart (is ∙ a.1);
    }
