use Rattle.std.proofs.Common.{◌≡◌, [], ◌∷◌, ◌++◌, subst, rules, of_z, to_z, w32}
use Rattle.aggregates.specs.Kinds.{number}
use Rattle.tables.specs.Tables.{signed, word}
use Rattle.table_writing.specs.Writing.{Wrote}
use Rattle.table_writing.proofs.Writes.{wrote_then}
use Rattle.table_writing.proofs.ops.put_operands.Goals as goal

pub returns-in-Past : goal.returns-in-Past
returns-in-Past c =
    let b = c.put-in-Past.new.self in
    let d = c.put_signed-in-Past.new.self in
    let w = c.in-Past in
    let default : signed (to_z w32 (of_z w32 w.default)) ≡ signed w.default = search rules in
    rw w.is (wrote_then (w.stream ∷ w.back ∷ []) (signed w.default) c.args.out.now b d c.put-in-Past.ensures (subst (λ l. Wrote l b d) default c.put_signed-in-Past.ensures))

pub returns-in-Window : goal.returns-in-Window
returns-in-Window c =
    let a = c.args.out.now in
    let b = c.put-in-Window.new.self in
    let d = c.put_word.new.self in
    let e = c.put_signed-in-Window.new.self in
    let w = c.in-Window in
    let first : Wrote (w.stream ∷ number w.kind ∷ []) a b = subst (λ n. Wrote (w.stream ∷ n ∷ []) a b) c.number.ensures.value c.put-in-Window.ensures in
    let default : signed (to_z w32 (of_z w32 w.default)) ≡ signed w.default = search rules in
    let third : Wrote (signed w.default) d e = subst (λ l. Wrote l d e) default c.put_signed-in-Window.ensures in
    rw w.is (wrote_then (w.stream ∷ number w.kind ∷ []) (word w.duration ++ signed w.default) a b e first (wrote_then (word w.duration) (signed w.default) b d e c.put_word.ensures third))
