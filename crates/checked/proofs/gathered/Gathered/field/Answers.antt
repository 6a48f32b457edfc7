use Rattle.std.proofs.Common.{◌≡◌, drop, length, ◌-◌, take, Some, Ok, sym, ap, ◌∙◌, rules}
use Rattle.std.proofs.lemmas.List.{take_rest}
use Rattle.log_laws.proofs.Numbers.{octets_drop}
use Rattle.frames.specs.Frames.{first, framed}
use Rattle.tables.specs.Fields.{shape}
use Rattle.tables.specs.Reading.{content}
use Rattle.checked.specs.Gathering.{making}
use Rattle.checked.proofs.Steps.{as_content, room, size_is, size_room}
use Rattle.checked.proofs.gathered.Gathered.field.Goals as goal

pub add-requires : goal.add-requires
add-requires c =
    let m = making c.args.self.now in
    let bytes = drop c.args.at c.args.bytes.now in
    let f = framed c.in_ok-frame.frame in
    let seen : Some f ≡ first (take (length c.args.bytes.now - c.args.at) bytes) = search rules in
    let says : Ok (shape c.in_ok-field.field) ≡ content f.tag m.windows f.content = search rules in
    room m bytes f (seen ∙ ap first (take_rest c.args.bytes.now c.args.at)) (sym c.if-not-admits.ensures)
    (octets_drop c.args.at c.args.bytes.now (λ i. (c.type_inv.bytes i).fits)) c.args.self.now.few (shape c.in_ok-field.field) says

pub returns : goal.returns
returns c =
    let m = making c.args.self.now in
    let bytes = drop c.args.at c.args.bytes.now in
    let f = framed c.in_ok-frame.frame in
    let seen : Some f ≡ first (take (length c.args.bytes.now - c.args.at) bytes) = search rules in
    let is = seen ∙ ap first (take_rest c.args.bytes.now c.args.at) in
    let says : Ok (shape c.in_ok-field.field) ≡ content f.tag m.windows f.content = search rules in
    (shape c.in_ok-field.field, as_content m bytes f is (sym c.if-not-admits.ensures) (Ok (shape c.in_ok-field.field)) says, c.add.ensures, c.size.ensures ∙ size_is m bytes f is, rw c.size.ensures (size_room m bytes f is))
