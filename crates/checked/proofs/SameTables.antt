-- Checked tables that say the same are the same.
use Rattle.std.proofs.Common.{◌≡◌, suc, List, [], ◌∷◌, map, length, sym, refl, ap, ◌∙◌, arith}
use denote.Builtin.{u8}
use denote.Param.{number}
use mathlib.Core.HLevel.{is_prop→PathP}
use Rattle.std.specs.Coded.{codes}
use Rattle.fixed.specs.contracts.blank.U8Blank.TheImpl as octet
use Rattle.fixed.specs.contracts.vec.FixedVec as vector
use Rattle.fixed.specs.Values.{values}
use Rattle.fixed.proofs.Same.{same_values}
use Rattle.tables.specs.Tables.{write}
use Rattle.tables.specs.contracts.op.Op as op
use Rattle.checked.specs.contracts.element.Output as output
use Rattle.checked.specs.contracts.element.Trigger as trigger
use Rattle.checked.specs.contracts.parts.Parts as parts
use Rattle.checked.specs.contracts.plan.Plan as plan
use Rattle.checked.specs.contracts.plan.Window as window
use Rattle.checked.specs.contracts.table.Table as table
use Rattle.checked.specs.declared.element.Output.{Output}
use Rattle.checked.specs.declared.element.Trigger.{Trigger}
use Rattle.checked.specs.declared.parts.Parts.{Parts}
use Rattle.checked.specs.declared.plan.Plan.{Plan}
use Rattle.checked.specs.declared.table.Table.{Table}
use Rattle.checked.specs.Checking.{says}
use Rattle.checked.specs.Planning.{outline, plan_of}
use Rattle.checked.specs.Views.{output_of, said, trigger_of}

-- a map that tells its arguments apart tells lists of them apart
same_map : {X Y : Type 0} (f : X → Y) → ((a b : X) → f a ≡ f b → a ≡ b) → (xs ys : List X) → map f xs ≡ map f ys → xs ≡ ys
same_map f apart [] [] e = refl
same_map f apart [] (y ∷ ys) e = let n : 0 ≡ suc (length (map f ys)) = ap length e in absurd (omega arith)
same_map f apart (x ∷ xs) [] e = let n : suc (length (map f xs)) ≡ 0 = ap length e in absurd (omega arith)
same_map f apart (x ∷ xs) (y ∷ ys) e = λ i. apart x y (head e) i ∷ same_map f apart xs ys (tail e) i
  where
    head : f x ∷ map f xs ≡ f y ∷ map f ys → f x ≡ f y
    head e = cc

    tail : f x ∷ map f xs ≡ f y ∷ map f ys → map f xs ≡ map f ys
    tail e = cc

output_says : (a b : Output) → output_of a ≡ output_of b → a ≡ b
output_says a b e =
    let name = same_values (search codes) a.name b.name (ap (λ o. o.name) e) in
    let ops = same_values (op.the_row).coded a.program.ops b.program.ops (ap (λ o. o.ops) e) in
    λ i. record { pace = (e i).pace; name = name i; program = record { ops = ops i } }

trigger_says : (a b : Trigger) → trigger_of a ≡ trigger_of b → a ≡ b
trigger_says a b e =
    let message = same_values (search codes) a.message b.message (ap (λ g. g.message) e) in
    λ i. record { stream = (e i).stream; message = message i }

pub parts_say : (a b : Parts) → said a ≡ said b → a ≡ b
parts_say a b e =
    let inputs = same_values (vector.the_row u8 (number 16) octet.ghosts).coded a.inputs b.inputs (same_map values (same_values (search codes)) (values a.inputs) (values b.inputs) (ap (λ t. t.inputs) e)) in
    let outputs = same_values (output.the_row).coded a.outputs b.outputs (same_map output_of output_says (values a.outputs) (values b.outputs) (ap (λ t. t.outputs) e)) in
    let triggers = same_values (trigger.the_row).coded a.triggers b.triggers (same_map trigger_of trigger_says (values a.triggers) (values b.triggers) (ap (λ t. t.triggers) e)) in
    λ i. record { life = (e i).life; inputs = inputs i; outputs = outputs i; triggers = triggers i }

-- plans of the same outline are the same
pub same_outline : (a b : Plan) → outline a ≡ outline b → a ≡ b
same_outline a b e =
    let layers = same_values (search codes) a.layers b.layers (ap (λ p. p.layers) e) in
    let order = same_values (search codes) a.order b.order (ap (λ p. p.order) e) in
    let needs = same_values (search codes) a.needs b.needs (ap (λ p. p.needs) e) in
    let windows = same_values (window.the_row).coded a.windows b.windows (ap (λ p. p.windows) e) in
    λ i. record { layers = layers i; order = order i; events = (e i).events; needs = needs i; windows = windows i; over = (e i).over }

-- with their plans and their sizes, which what they say determines
pub tables_say : (a b : Table) → says a ≡ says b → a ≡ b
tables_say a b e =
    let p = parts_say a.parts b.parts e in
    let q = same_outline a.plan b.plan (a.planned ∙ ap plan_of e ∙ sym b.planned) in
    let s = a.sized ∙ ap (λ t. length (write t)) e ∙ sym b.sized in
    λ i. (table.struct).make (p i, (q i, (s i, tt)))
    (is_prop→PathP (λ j. table.the_ghost (p j, (q j, (s j, tt)))) (λ j. table.the_propositions (parts.the_row).coded (plan.the_row).coded (p j, (q j, (s j, tt)))) ((table.struct).ghosts a) ((table.struct).ghosts b) i)
