use Rattle.std.proofs.Common.{length, Ok, Err, sym, refl, ap, ◌∙◌}
use Rattle.std.proofs.lemmas.Result.{err_from_is_err_and}
use Rattle.table_laws.proofs.SameReading.{read_sound}
use Rattle.checked.specs.Planning.{plan_of}
use Rattle.checked.specs.Views.{said}
use Rattle.checked.proofs.Verdicts.{accepted, broken, circle, unread}
use Rattle.checked.proofs.read.from_bytes.Goals as goal

pub returns-in_err-gathered : goal.returns-in_err-gathered
returns-in_err-gathered c =
    let p = err_from_is_err_and c.from_residual.result c.from_residual.ensures.1 in
    rw (p.1, p.2) (unread c.args.bytes.now c.in_err-gathered.field-0.0 (λ i. (c.type_inv.bytes i).fits) c.in_err-gathered.ensures)

pub returns-in_err-judge : goal.returns-in_err-judge
returns-in_err-judge c =
    let p = err_from_is_err_and c.from_residual-in_err-judge.result c.from_residual-in_err-judge.ensures.1 in
    rw (p.1, p.2) (broken c.args.bytes.now c.in_ok-gathered.gathered (λ i. (c.type_inv.bytes i).fits) c.in_ok-gathered.ensures (Err c.in_err-judge.field-0.0) c.in_err-judge.ensures c.in_err-judge.field-0.0 refl)

pub returns-in_default : goal.returns-in_default
returns-in_default c = rw c.at.ensures (circle c.args.bytes.now c.in_ok-gathered.gathered (λ i. (c.type_inv.bytes i).fits) c.in_ok-gathered.ensures (Ok tt) c.in_ok-judge.ensures refl c.in_default.ensures)

pub invariant_of-result : goal.invariant_of-result
invariant_of-result c =
    let bytes = c.args.bytes.now in
    let parts = c.in_ok-gathered.gathered.parts in
    let is = accepted bytes c.in_ok-gathered.gathered (λ i. (c.type_inv.bytes i).fits) c.in_ok-gathered.ensures (Ok tt) c.in_ok-judge.ensures refl c.in-Some.ensures.0 in
    let s = read_sound bytes (said parts) (λ i. (c.type_inv.bytes i).fits) (sym is) in
    record { lawful = s.1; planned = c.plan-plan.ensures ∙ ap (λ p. plan_of (said p)) c.in-Some.ensures.1; sized = ap length s.0 }

pub returns : goal.returns
returns c = accepted c.args.bytes.now c.in_ok-gathered.gathered (λ i. (c.type_inv.bytes i).fits) c.in_ok-gathered.ensures (Ok tt) c.in_ok-judge.ensures refl c.in-Some.ensures.0
