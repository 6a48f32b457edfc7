-- One field, and all of them.
use Rattle.std.proofs.Common.{◌≡◌, ℕ, ◌+◌, ◌<◌, ◌≤◌, Bool, true, false, cond, ◌&&◌, ltb, leb, List, length, get_or, take, drop, Some, None, Ok, Err, Result, sym, refl, ap, ◌∙◌, subst, arith}
use Rattle.std.proofs.lemmas.Bool.{and_parts, leb-true, ltb-false, ltb-true}
use Rattle.frames.proofs.Framing.{content_long}
use Rattle.log_laws.proofs.Numbers.{octets_drop, octets_take}
use Rattle.frames.specs.Frames.{Framed, announced, first}
use Rattle.log_laws.specs.Laws.{Octets}
use Rattle.tables.specs.declared.op.Pace.{Pace}
use Rattle.tables.specs.declared.op.Pace.TheVariants.{Event, Every}
use Rattle.tables.specs.Kinds.{Said, input, life, output, trigger}
use Rattle.tables.specs.Reading.{content, fits, test, within}
use Rattle.tables.specs.Rules.{all}
use Rattle.tables.specs.Sound.{is_byte, is_op, is_pace, is_text}
use Rattle.tables.specs.Tables.{admits, field, tag_of, tag_of_pace}
use Rattle.table_laws.proofs.Contents.{content_says}
use Rattle.table_laws.specs.Whole.{is_field, windows_in_field}
use Rattle.checked.specs.Gathering.{Making, Room, stood}

pub never : {X Y : Type 0} {e : ℕ} {x : X} → Err e ≡ Ok x → Y
never p = let z : ◌≡◌ {A = ℕ} 0 1 = cc in absurd (omega arith)

-- at most, of a count that is within bounds
most : (low high n : ℕ) → within low high n ≡ true → n ≤ high
most low high n h = leb-true n high (and_parts (leb low n) (leb n high) h).1

-- a text is no longer than it may be
text_short : (high : ℕ) (s : List ℕ) (b : Bool) → (within 1 high (length s) && b) ≡ true → length s ≤ high
text_short high s b h = most 1 high (length s) (and_parts (within 1 high (length s)) b h).0

third : (x y z : Bool) → (x && (y && z)) ≡ true → z ≡ true
third x y z h = (and_parts y z (and_parts x (y && z) h).1).1

-- there is room for a whole field that may stand next
room_of : (m : Making) (f : Said) → admits (stood m) (tag_of f) ≡ true → is_field f ≡ true → m.windows + windows_in_field f ≤ 8 → Room m f
room_of m (life n) may whole few = ltb-true m.lives 1 may
room_of m (input s) may whole few =
    let later = (and_parts (ltb 0 m.lives) (ltb (length m.table.outputs) 1 && (ltb (length m.table.triggers) 1 && ltb (length m.table.inputs) 8)) may).1 in
    let inputs = third (ltb (length m.table.outputs) 1) (ltb (length m.table.triggers) 1) (ltb (length m.table.inputs) 8) later in
    (ltb-true (length m.table.inputs) 8 inputs, text_short 16 s (all (within 33 126) s) whole)
room_of m (output o) may whole few =
    let named = (and_parts (is_text 33 16 o.name) (within 1 16 (length o.ops) && (all is_op o.ops && fits 0 o.ops)) (and_parts (is_pace o.pace) _ whole).1).0 in
    (by o.pace may, text_short 16 o.name (all (within 33 126) o.name) named, few)
  where
    by : (p : Pace) → admits (stood m) (tag_of_pace p) ≡ true → length m.table.outputs < 16
    by Event h = ltb-true (length m.table.outputs) 16 (third (ltb 0 (length m.table.inputs)) (ltb (length m.table.triggers) 1) (ltb (length m.table.outputs) 16) h)
    by (Every p) h = ltb-true (length m.table.outputs) 16 (third (ltb 0 (length m.table.inputs)) (ltb (length m.table.triggers) 1) (ltb (length m.table.outputs) 16) h)
room_of m (trigger g) may whole few =
    let triggers = (and_parts (ltb 0 m.lives) (ltb (length m.table.triggers) 8) may).1 in
    (ltb-true (length m.table.triggers) 8 triggers, text_short 32 g.message (all (within 32 126) g.message) (and_parts (is_byte g.stream) (is_text 32 32 g.message) whole).1)

-- a frame that is there
framed_is : (bytes : List ℕ) (f : Framed) → Some f ≡ first bytes → (f ≡ record { tag = get_or bytes 0 0; content = take (announced bytes) (drop 3 bytes) }) × (3 + announced bytes ≤ length bytes)
framed_is bytes f = by (ltb (length bytes) 3) (ltb (length bytes) (3 + announced bytes)) refl
  where
    there : Framed
    there = record { tag = get_or bytes 0 0; content = take (announced bytes) (drop 3 bytes) }

    by : (short cut : Bool) → ltb (length bytes) (3 + announced bytes) ≡ cut → Some f ≡ cond short None (cond cut None (Some there)) → (f ≡ there) × (3 + announced bytes ≤ length bytes)
    by true cut q e = let z : ◌≡◌ {A = ℕ} 0 1 = cc in absurd (omega arith)
    by false true q e = let z : ◌≡◌ {A = ℕ} 0 1 = cc in absurd (omega arith)
    by false false q e = (cc, ltb-false (length bytes) (3 + announced bytes) q)

module _ (m : Making) (bytes : List ℕ) (f : Framed) (is : Some f ≡ first bytes) where
  abbrev here : Result Said ℕ
  here = field (stood m) (first bytes)

  pub not_admitted : admits (stood m) f.tag ≡ false → here ≡ Err 2
  not_admitted h = ap (field (stood m)) (sym is) ∙ ap (λ b. test b 2 (content f.tag m.windows) f.content) h

  module _ (may : admits (stood m) f.tag ≡ true) where
    pub as_content : (r : Result Said ℕ) → r ≡ content f.tag m.windows f.content → here ≡ r
    as_content r e = ap (field (stood m)) (sym is) ∙ ap (λ b. test b 2 (content f.tag m.windows) f.content) may ∙ sym e

    pub room : Octets bytes → m.windows ≤ 8 → (g : Said) → Ok g ≡ content f.tag m.windows f.content → Room m g
    room o few g e =
        let octets : Octets f.content = subst (λ c. Octets c) (sym (ap (λ x. x.content) (framed_is bytes f is).0)) (octets_take (announced bytes) (drop 3 bytes) (octets_drop 3 bytes o)) in
        let says = content_says f.tag m.windows f.content g few octets (sym e) in
        room_of m g (subst (λ t. admits (stood m) t ≡ true) says.0 may) says.2 says.3

  pub size_is : 3 + length f.content ≡ 3 + announced bytes
  size_is = ap (λ n. 3 + n) (content_long bytes f is)

  pub size_room : 3 + length f.content ≤ length bytes
  size_room = omega (arith, content_long bytes f is, (framed_is bytes f is).1)
