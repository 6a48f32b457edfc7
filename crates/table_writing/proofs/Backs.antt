-- What was written, read back.
use Rattle.std.proofs.Common.{◌≡◌, ℕ, ◌<◌, ◌≤◌, List, ◌++◌, length, take, drop, Ok, Err, Result, sym, refl, ap, ◌∙◌}
use Rattle.std.proofs.lemmas.List.{take_at}
use Rattle.std.proofs.lemmas.Bool.{cond-false, cond-true, le-leb, lt-leb}
use Rattle.tables.specs.declared.flaw.Refused.{Refused}
use Rattle.tables.specs.Tables.{Refusal, read, refuse, write}
use Rattle.tables.specs.Kinds as kinds
use Rattle.table_laws.proofs.Readings.{apart}
use Rattle.table_laws.proofs.SameReading.{sound_read}
use Rattle.checked.proofs.SameTables.{tables_say}
use Rattle.checked.specs.declared.table.Table.{Table}
use Rattle.checked.specs.Checking as checking
use Rattle.checked.specs.Checking.{says}
use Rattle.table_writing.specs.Writing.{ReadsBack, put}

pub put_done : (bytes before : List ℕ) (end : ℕ) (after : List ℕ) → length bytes ≤ length before → end ≡ length bytes → after ≡ bytes ++ drop (length bytes) before → ◌≡◌ {A = Result ℕ Refusal × List ℕ} (Ok end, after) (put bytes before)
put_done bytes before end after room long is = (λ i. (Ok (long i), is i)) ∙ sym (cond-true _ _ _ (le-leb (length bytes) (length before) room))

pub put_refused : (bytes before : List ℕ) → length before < length bytes → ◌≡◌ {A = Result ℕ Refusal × List ℕ} (refuse 8 0, before) (put bytes before)
put_refused bytes before short = sym (cond-false _ _ _ (lt-leb (length bytes) (length before) short))

same_ok : {E : Type 0} (t u : kinds.Table) → ◌≡◌ {A = Result kinds.Table E} (Ok t) (Ok u) → t ≡ u
same_ok t u e = cc

-- an answer that says the same table is that table
answered : (t : Table) (answer : Result Table Refused) → checking.told answer ≡ Ok (says t) → answer ≡ Ok t
answered t (Ok u) e = ap Ok (tables_say u t (same_ok {E = Refusal} (says u) (says t) e))
answered t (Err f) e = apart e

pub back : (t : Table) (before : List ℕ) (end : ℕ) (after : List ℕ) → end ≡ length (write (says t)) → after ≡ write (says t) ++ drop (length (write (says t))) before → ReadsBack t (Ok end) after
back t before end after long is answer e =
    let same : take end after ≡ write (says t) = (λ i. take (long i) (is i)) ∙ take_at (write (says t)) (drop (length (write (says t))) before) (length (write (says t))) refl in
    answered t answer (e ∙ ap read same ∙ sound_read (says t) t.lawful)
