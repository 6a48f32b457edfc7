use Rattle.std.proofs.Common.{◌≡◌, ℕ, ◌<◌, true, false, leb, List, length, get_or, take, drop, Some, None, Option, MatchOption, Bor, refl, rules}
use Rattle.std.proofs.lemmas.Bool.{le-leb, lt-leb}
use Rattle.std.proofs.lemmas.List.{take_rest}
use Rattle.std.specs.List.{IsSplitAt}
use Rattle.std.specs.Option.{ok_or}
use Rattle.tables.specs.declared.flaw.Flaw.TheVariants.{Extent}
use Rattle.tables.specs.Fields.{parted}
use Rattle.tables.specs.Fronts.{kept}
use Rattle.tables.specs.Reading.{test, within}
use Rattle.tables.proofs.Texts.{named_is}
use Rattle.tables.proofs.field.name.Goals as goal
use Rattle.tables.proofs.field.name.Goals.{then-not-contains-via-then-not-contains, then-not-contains-via-else-not-contains+then-not-in_range}

split : (n : ℕ) (bs : List ℕ) (r : Option (Bor (List ℕ) × Bor (List ℕ))) → MatchOption r (length bs < n) (λ p. IsSplitAt bs n p.0.now p.1.now) → parted (ok_or r Extent) ≡ test (leb n (length bs)) 3 (kept (take n bs)) (drop n bs)
split n bs None short = rw (lt-leb n (length bs) short) refl
split n bs (Some p) at = rw (le-leb n (length bs) at.0, at.1, at.2) refl

pub returns-then-not-contains : goal.returns-then-not-contains
returns-then-not-contains c =
    let is = named_is c.args.bytes.now _ (search rules) (take_rest c.args.bytes.now 1) in
    elim c.then-not-contains.branch [
      | then-not-contains-via-then-not-contains w ↦
          let out : within 1 16 (get_or c.args.bytes.now 0 0) ≡ false = search rules in rw (is, out) refl
      | then-not-contains-via-else-not-contains+then-not-in_range w ↦
          let ok : within 1 16 (get_or c.args.bytes.now 0 0) ≡ true = search rules in rw (is, ok, ← w.if-not-in_range.ensures) refl
    ]

pub returns : goal.returns
returns c =
    let is = named_is c.args.bytes.now _ (search rules) (take_rest c.args.bytes.now 1) in
    let ok : within 1 16 (get_or c.args.bytes.now 0 0) ≡ true = search rules in
    rw (is, ok, ← c.if-not-in_range.ensures, c.ok_or.ensures.value) (split _ _ c.split_at_checked.result c.split_at_checked.ensures.cases)
