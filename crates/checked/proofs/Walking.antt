-- The loop over all fields.
use Rattle.std.proofs.Common.{◌≡◌, ℕ, ◌+◌, ◌<◌, ◌≤◌, ltb, List, [], ◌∷◌, ◌++◌, length, drop, Ok, Err, Result, sym, refl, ap, ◌∙◌, add-zero, arith}
use Rattle.std.proofs.lemmas.List.{append-nil, drop_all, drop-drop, length-drop, length_push}
use Rattle.std.proofs.lemmas.Bool.{le-ltb, lt-ltb}
use Rattle.frames.specs.Frames.{announced, first}
use Rattle.tables.specs.declared.flaw.Refused.{Refused}
use Rattle.tables.specs.Flaws.{number}
use Rattle.tables.specs.Kinds.{Said, input, life, output, trigger}
use Rattle.tables.specs.Tables.{Refusal, Stood, field, next, refuse, start}
use Rattle.table_laws.specs.Placing.{Placed, before, cons, ended, walk}
use Rattle.table_laws.proofs.Walks.{onto, onto_ok, walk_next}
use Rattle.checked.specs.Gathering.{Making, Stepped, added, all_added, nothing, refusal_of, stood}

onto_push : (fs : List Placed) (f : Placed) (r : Result (List Placed) Refusal) → onto (fs ++ (f ∷ [])) r ≡ onto fs (cons f r)
onto_push [] f r = refl
onto_push (g ∷ fs) f r = ap (cons g) (onto_push fs f r)

onto_err : (fs : List Placed) (e : Refusal) → onto fs (Err e) ≡ Err e
onto_err [] e = refl
onto_err (f ∷ fs) e = ap (cons f) (onto_err fs e)

added_push : (m : Making) (fs : List Placed) (f : Placed) → all_added m (fs ++ (f ∷ [])) ≡ added (all_added m fs) f.said f.place
added_push m [] f = refl
added_push m (g ∷ fs) f = added_push (added m g.said g.place) fs f

-- what stood with one field more
stood_more : (m : Making) (f : Said) (place : ℕ) → stood (added m f place) ≡ next (stood m) f
stood_more m (life n) place = λ i. record { lives = m.lives + 1; inputs = length m.table.inputs; outputs = length m.table.outputs; triggers = length m.table.triggers; windows = add-zero m.windows i }
stood_more m (input s) place = λ i. record { lives = add-zero m.lives i; inputs = length_push m.table.inputs s i; outputs = length m.table.outputs; triggers = length m.table.triggers; windows = add-zero m.windows i }
stood_more m (output o) place = λ i. record { lives = add-zero m.lives i; inputs = length m.table.inputs; outputs = length_push m.table.outputs o i; triggers = length m.table.triggers; windows = (next (stood m) (output o)).windows }
stood_more m (trigger g) place = λ i. record { lives = add-zero m.lives i; inputs = length m.table.inputs; outputs = length m.table.outputs; triggers = length_push m.table.triggers g i; windows = add-zero m.windows i }

-- the walk where a field stands
walk_here : (place : ℕ) (s : Stood) (bytes : List ℕ) (r : Result Said ℕ) → 0 < length bytes → field s (first bytes) ≡ r → walk 0 place s bytes ≡ before r place (λ f. walk (2 + announced bytes) (place + 1) (next s f) (drop 1 bytes))
walk_here place s [] r some is = absurd (omega arith)
walk_here place s (b ∷ bytes) r some is = ap (λ q. before q place (λ f. walk (2 + announced (b ∷ bytes)) (place + 1) (next s f) bytes)) is

walk_past : (place : ℕ) (s : Stood) (bytes : List ℕ) → 3 + announced bytes ≤ length bytes → walk (2 + announced bytes) (place + 1) s (drop 1 bytes) ≡ walk 0 (place + (3 + announced bytes)) s (drop (3 + announced bytes) bytes)
walk_past place s [] room = absurd (omega arith)
walk_past place s (b ∷ bytes) room = walk_next place s b (announced (b ∷ bytes)) bytes (omega arith)

-- some fields were read, and those from a place on are still to be read
pub record Walking (bytes : List ℕ) (at : ℕ) (m : Making) : Type 0 where
  pub within : at ≤ length bytes
  pub read : List Placed
  pub made : m ≡ all_added nothing read
  pub same : walk 0 0 start bytes ≡ onto read (walk 0 at (stood m) (drop at bytes))

pub walk_start : (bytes : List ℕ) (m : Making) → m ≡ nothing → Walking bytes 0 m
walk_start bytes m is = record { within = omega arith; read = []; made = is; same = ap (λ n. walk 0 0 (stood n) bytes) (sym is) }

module _ (bytes : List ℕ) (at : ℕ) (m : Making) (w : Walking bytes at m) where
  some : at < length bytes → 0 < length (drop at bytes)
  some more = let l = length-drop at bytes in omega arith

  pub walk_stops : (e : Refused) (after : Making) → at < length bytes → Stepped bytes at m (Err e) after → walk 0 0 start bytes ≡ Err (refusal_of e)
  walk_stops e after more s =
      w.same ∙ ap (onto w.read) (walk_here at (stood m) (drop at bytes) (Err (number e.flaw)) (some more) s.0) ∙ onto_err w.read (record { number = number e.flaw; place = at }) ∙ (λ i. Err (record { number = number e.flaw; place = sym s.1 i }))

  pub walk_room : (size : ℕ) (after : Making) → at < length bytes → Stepped bytes at m (Ok size) after → (at + size ≤ length bytes) × (3 ≤ size)
  walk_room size after more s = let l = length-drop at bytes in (omega (arith, s.4), omega (arith, s.3))

  pub walk_more : (size : ℕ) (after : Making) → at < length bytes → Stepped bytes at m (Ok size) after → Walking bytes (at + size) after
  walk_more size after more s =
      let f = s.0 in
      let here : Placed = record { said = f; place = at } in
      let room = walk_room size after more s in
      let left = drop at bytes in
      let on : walk 0 at (stood m) left ≡ cons here (walk 0 (at + size) (stood after) (drop (at + size) bytes)) =
      walk_here at (stood m) left (Ok f) (some more) s.1
      ∙ ap (cons here) (walk_past at (next (stood m) f) left (omega (arith, s.3, s.4)) ∙ (λ i. walk 0 (at + sym s.3 i) (sym (ap stood s.2 ∙ stood_more m f at) i) (drop (sym s.3 i) left)) ∙ ap (walk 0 (at + size) (stood after)) (drop-drop size at bytes)) in
      record {
        within = room.0;
        read = w.read ++ (here ∷ []);
        made = s.2 ∙ ap (λ n. added n f at) w.made ∙ sym (added_push nothing w.read here);
        same = w.same ∙ ap (onto w.read) on ∙ sym (onto_push w.read here (walk 0 (at + size) (stood after) (drop (at + size) bytes)));
      }

  abbrev at_end : Result (List Placed) Refusal
  at_end = ended (ltb 0 (length m.table.outputs)) at

  ending : length bytes ≤ at → walk 0 0 start bytes ≡ onto w.read at_end
  ending end = w.same ∙ ap (λ l. onto w.read (walk 0 at (stood m) l)) (drop_all at bytes end)

  pub walk_none : (n : ℕ) → length bytes ≤ at → n ≡ length m.table.outputs → n ≡ 0 → walk 0 0 start bytes ≡ refuse 2 at
  walk_none n end is none = ending end ∙ ap (λ b. onto w.read (ended b at)) (le-ltb 0 (length m.table.outputs) (omega arith)) ∙ onto_err w.read (record { number = 2; place = at })

  pub walk_ends : (n : ℕ) → length bytes ≤ at → n ≡ length m.table.outputs → (n ≡ 0 → ⊥) → (fs : List Placed) × (walk 0 0 start bytes ≡ Ok fs) × (m ≡ all_added nothing fs)
  walk_ends n end is some-output =
      (w.read ++ [], ending end ∙ ap (λ b. onto w.read (ended b at)) (lt-ltb 0 (length m.table.outputs) (omega arith)) ∙ onto_ok w.read [], w.made ∙ ap (all_added nothing) (sym (append-nil w.read)))
