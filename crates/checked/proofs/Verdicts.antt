-- What the judgement of gathered fields comes to.
use Rattle.std.proofs.Common.{◌≡◌, ℕ, true, false, List, length, Ok, Err, Result, sym, ap, ◌∙◌}
use Rattle.log_laws.specs.Laws.{Octets}
use Rattle.tables.specs.declared.flaw.Refused.{Refused}
use Rattle.tables.specs.Kinds.{Table}
use Rattle.tables.specs.Rules.{no_circle}
use Rattle.tables.specs.Tables.{Refusal, read, refuse, sure}
use Rattle.table_laws.specs.Placing.{whole}
use Rattle.table_laws.proofs.SameReading.{read_same}
use Rattle.checked.specs.declared.gathered.Gathered.{Gathered}
use Rattle.checked.specs.Gathering.{AllRead, making, refusal_of}
use Rattle.checked.specs.Judging.{all_outputs, all_triggers, passed_on}
use Rattle.checked.proofs.Fielding.{read_made}

-- bytes whose fields cannot all be gathered
pub unread : (bytes : List ℕ) (e : Refused) → Octets bytes → AllRead bytes (Err e) → Err (refusal_of e) ≡ read bytes
unread bytes e o is = sym (read_same bytes o ∙ ap (whole (length bytes)) is)

module _ (bytes : List ℕ) (g : Gathered) (o : Octets bytes) (all : AllRead bytes (Ok g)) (r : Result (Unit {0}) Refused)
    (judged : (rest : Result Table Refusal) → passed_on r rest ≡ all_outputs (making g) (all_triggers (making g) rest)) where
  verdict : passed_on r (sure (no_circle (making g).table) 7 (length bytes) (Ok (making g).table)) ≡ read bytes
  verdict = judged (sure (no_circle (making g).table) 7 (length bytes) (Ok (making g).table)) ∙ sym (read_made bytes all.0 (making g) o all.1 all.2)

  pub broken : (e : Refused) → r ≡ Err e → Err (refusal_of e) ≡ read bytes
  broken e is = ap (λ q. passed_on q (sure (no_circle (making g).table) 7 (length bytes) (Ok (making g).table))) (sym is) ∙ verdict

  module _ (is : r ≡ Ok tt) where
    kept : sure (no_circle (making g).table) 7 (length bytes) (Ok (making g).table) ≡ read bytes
    kept = ap (λ q. passed_on q (sure (no_circle (making g).table) 7 (length bytes) (Ok (making g).table))) (sym is) ∙ verdict

    pub circle : no_circle (making g).table ≡ false → refuse 7 (length bytes) ≡ read bytes
    circle c = ap (λ b. sure b 7 (length bytes) (Ok (making g).table)) (sym c) ∙ kept

    pub accepted : no_circle (making g).table ≡ true → Ok (making g).table ≡ read bytes
    accepted c = ap (λ b. sure b 7 (length bytes) (Ok (making g).table)) (sym c) ∙ kept
