-- The parts of a table: tests against sentences.
use Rattle.std.proofs.Common.{◌≡◌, ℕ, zero, suc, ◌+◌, ◌-◌, ◌^◌, ◌<◌, ◌≤◌, Bool, true, not, ◌&&◌, eqb, ltb, leb, List, [], ◌∷◌, length, get_or, ℤ, pos, negsuc, sym, refl, ◌∙◌, arith, w32, SFits}
use Rattle.std.proofs.lemmas.Bool.{and_from, and_parts, eq-eqb, eqb-true, le-leb, leb-true, lt-ltb, ltb-true}
use Rattle.std.proofs.lemmas.Bool.Decides.{Decides-and, Decides-by_and, Decides-eqb, Decides-like, Decides-ltb, Decides-not}
use Rattle.std.specs.Bool.{Decides}
use Rattle.std.proofs.lemmas.List.Elements.{All-cons, All-head, All-nil, All-tail}
use Rattle.std.specs.List.{All}
use Rattle.tables.specs.declared.op.Op.{Op}
use Rattle.tables.specs.declared.op.Op.TheVariants.{Number, Now, Past, Held, Window, Add, Subtract, Multiply, Less, Equal, Choose}
use Rattle.tables.specs.declared.op.Pace.{Pace}
use Rattle.tables.specs.declared.op.Pace.TheVariants.{Event, Every}
use Rattle.tables.specs.Kinds.{Output, Said, Table, Trigger, input, life, output, trigger}
use Rattle.tables.specs.Reading.{fits, takes, within}
use Rattle.tables.specs.Rules.{all}
use Rattle.tables.specs.Sound.{is_byte, is_op, is_output, is_pace, is_text, is_trigger, is_value}
use Rattle.table_laws.specs.Contents.{FieldInRange}
use Rattle.table_laws.specs.Lawful.{Between, InRange, OutputInRange, PaceInRange, Stacked, Text, WholeOutput, WholeTable, WholeTrigger}
use Rattle.table_laws.proofs.Contents.{Ranged, RangedField, output_from, output_parts, within_from, within_parts}
use Rattle.table_laws.proofs.Orders.{Whole}
use Rattle.table_laws.proofs.Parts.{value_fits}

-- LISTS

pub all_says : {X : Type 0} (test : X → Bool) (P : X → Type 0) → ((x : X) → test x ≡ true → P x) → (xs : List X) → all test xs ≡ true → All P xs
all_says test P h [] e = All-nil P
all_says test P h (x ∷ xs) e = let p = and_parts (test x) (all test xs) e in All-cons P x xs (h x p.0) (all_says test P h xs p.1)

pub all_from : {X : Type 0} (test : X → Bool) (P : X → Type 0) → ((x : X) → P x → test x ≡ true) → (xs : List X) → All P xs → all test xs ≡ true
all_from test P h [] p = refl
all_from test P h (x ∷ xs) p = and_from (test x) (all test xs) (h x (All-head P x xs p)) (all_from test P h xs (All-tail P x xs p))

pub all_decides : {X : Type 0} (test : X → Bool) (P : X → Type 0) → ((x : X) → Decides (test x) (P x)) → (xs : List X) → Decides (all test xs) (All P xs)
all_decides test P each xs = Decides-by_and test P (all test) each refl (λ _ _. refl) xs

-- NUMBERS

pub differs : (s me : ℕ) → Decides (not (eqb s me)) (s ≡ me → ⊥)
differs s me = Decides-not (eqb s me) (Decides-eqb s me)

within_decides : (low high n : ℕ) → Decides (within low high n) (Between low high n)
within_decides low high n = (within_parts low high n, λ r. within_from low high n r.0 r.1)

-- TEXTS AND OPERANDS

text_decides : (low most : ℕ) (s : List ℕ) → Decides (is_text low most s) (Text low most s)
text_decides low most s =
    Decides-like (is_text low most s) (λ p. record { long = p.0; letters = p.1 }) (λ t. (t.long, t.letters))
    (Decides-and (within 1 most (length s)) (all (within low 126) s) (within_decides 1 most (length s)) (all_decides (within low 126) (Between low 126) (within_decides low 126) s))

value_from : (v : ℤ) → SFits w32 v → is_value v ≡ true
value_from (pos n) f = lt-ltb n (2 ^ 31) f.sfits
value_from (negsuc n) f = lt-ltb n (2 ^ 31) f.sfits

value_decides : (v : ℤ) → Decides (is_value v) (SFits w32 v)
value_decides v = (value_fits v, value_from v)

op_decides : (o : Op) → Decides (is_op o) (InRange o)
op_decides (Number v) = value_decides v
op_decides (Now s) = Decides-ltb s 256
op_decides (Past s b d) =
    Decides-like (is_op (Past s b d)) (λ p. (p.0, p.1.0, p.1.1)) (λ r. (r.0, (r.1, r.2)))
    (Decides-and (is_byte s) (within 1 8 b && is_value d) (Decides-ltb s 256) (Decides-and (within 1 8 b) (is_value d) (within_decides 1 8 b) (value_decides d)))
op_decides (Held s d) = Decides-and (is_byte s) (is_value d) (Decides-ltb s 256) (value_decides d)
op_decides (Window s k u d) =
    Decides-like (is_op (Window s k u d)) (λ p. (p.0, p.1.0, p.1.1)) (λ r. (r.0, (r.1, r.2)))
    (Decides-and (is_byte s) (ltb u (2 ^ 32) && is_value d) (Decides-ltb s 256) (Decides-and (ltb u (2 ^ 32)) (is_value d) (Decides-ltb u (2 ^ 32)) (value_decides d)))
op_decides Add = (λ e. tt, λ r. refl)
op_decides Subtract = (λ e. tt, λ r. refl)
op_decides Multiply = (λ e. tt, λ r. refl)
op_decides Less = (λ e. tt, λ r. refl)
op_decides Equal = (λ e. tt, λ r. refl)
op_decides Choose = (λ e. tt, λ r. refl)

-- THE STACK

abbrev before : ℕ → (ℕ → ℕ) → ℕ → ℕ
before h f zero = h
before h f (suc k) = f k

pub stack_says : (h : ℕ) (os : List Op) → fits h os ≡ true → Stacked h os
stack_says h [] e = record { height = λ k. h; begins = refl; enough = λ k lt. absurd (omega arith); leaves = λ k lt. absurd (omega arith); room = λ k lt. absurd (omega arith); ends = eqb-true h 1 e }
stack_says h (o ∷ os) e =
    let p = and_parts (leb (takes o) h) (ltb (h - takes o) 8 && fits (h - takes o + 1) os) e in
    let q = and_parts (ltb (h - takes o) 8) (fits (h - takes o + 1) os) p.1 in
    let r = stack_says (h - takes o + 1) os q.1 in
    let top = ltb-true (h - takes o) 8 q.0 in
    let first = r.begins in
    record {
      height = before h r.height;
      begins = refl;
      enough = enough_at r.height (leb-true (takes o) h p.0) r.enough;
      leaves = leaves_at r.height first r.leaves;
      room = room_at r.height (omega arith) r.room;
      ends = r.ends;
    }
  where
    enough_at : (f : ℕ → ℕ) → takes o ≤ h → ((k : ℕ) → k < length os → takes (get_or os k Add) ≤ f k) → (k : ℕ) → k < suc (length os) → takes (get_or (o ∷ os) k Add) ≤ before h f k
    enough_at f a g zero lt = a
    enough_at f a g (suc k) lt = g k (omega arith)

    leaves_at : (f : ℕ → ℕ) → f 0 ≡ h - takes o + 1 → ((k : ℕ) → k < length os → f (suc k) ≡ f k - takes (get_or os k Add) + 1) → (k : ℕ) → k < suc (length os) → f k ≡ before h f k - takes (get_or (o ∷ os) k Add) + 1
    leaves_at f a g zero lt = a
    leaves_at f a g (suc k) lt = g k (omega arith)

    room_at : (f : ℕ → ℕ) → f 0 ≤ 8 → ((k : ℕ) → k < length os → f (suc k) ≤ 8) → (k : ℕ) → k < suc (length os) → f k ≤ 8
    room_at f a g zero lt = a
    room_at f a g (suc k) lt = g k (omega arith)

pub stack_from : (h : ℕ) (os : List Op) → Stacked h os → fits h os ≡ true
stack_from h [] r = eq-eqb h 1 (sym r.begins ∙ r.ends)
stack_from h (o ∷ os) r =
    let first = r.begins in
    let enough = r.enough 0 (omega arith) in
    let leaves = r.leaves 0 (omega arith) in
    let room = r.room 0 (omega arith) in
    let rest : Stacked (h - takes o + 1) os = record {
      height = λ k. r.height (suc k);
      begins = omega arith;
      enough = λ k lt. r.enough (suc k) (omega arith);
      leaves = λ k lt. r.leaves (suc k) (omega arith);
      room = λ k lt. r.room (suc k) (omega arith);
      ends = r.ends;
    } in
    and_from (leb (takes o) h) (ltb (h - takes o) 8 && fits (h - takes o + 1) os) (le-leb (takes o) h (omega arith))
    (and_from (ltb (h - takes o) 8) (fits (h - takes o + 1) os) (lt-ltb (h - takes o) 8 (omega arith)) (stack_from (h - takes o + 1) os rest))

-- OUTPUTS, TRIGGERS, TABLES

pace_decides : (p : Pace) → Decides (is_pace p) (PaceInRange p)
pace_decides Event = (λ e. tt, λ r. refl)
pace_decides (Every p) = within_decides 1 86400000 p

ranged_says : (o : Output) → Ranged o → OutputInRange o
ranged_says o w = record {
  period = (pace_decides o.pace).0 w.period;
  named = (text_decides 33 16 o.name).0 (and_from (within 1 16 (length o.name)) (all (within 33 126) o.name) w.named w.letters);
  counted = within_parts 1 16 (length o.ops) w.counted;
  ranges = (all_decides is_op InRange op_decides o.ops).0 w.ranges;
}

ranged_from : (o : Output) → OutputInRange o → Ranged o
ranged_from o w =
    let named = and_parts (within 1 16 (length o.name)) (all (within 33 126) o.name) ((text_decides 33 16 o.name).1 w.named) in
    record {
      period = (pace_decides o.pace).1 w.period;
      named = named.0;
      letters = named.1;
      counted = within_from 1 16 (length o.ops) w.counted.0 w.counted.1;
      ranges = (all_decides is_op InRange op_decides o.ops).1 w.ranges;
    }

pub output_decides : (o : Output) → Decides (is_output o) (WholeOutput o)
output_decides o =
    (λ e. (let p = output_parts o e in record { parts = ranged_says o p.0; stack = stack_says 0 o.ops p.1 }), λ w. output_from o (ranged_from o w.parts) (stack_from 0 o.ops w.stack))

trigger_decides : (g : Trigger) → Decides (is_trigger g) (WholeTrigger g)
trigger_decides g =
    Decides-like (is_trigger g) (λ p. record { stream = p.0; message = p.1 }) (λ w. (w.stream, w.message))
    (Decides-and (is_byte g.stream) (is_text 32 32 g.message) (Decides-ltb g.stream 256) (text_decides 32 32 g.message))

-- each kind of field
pub field_says : (f : Said) → RangedField f → FieldInRange f
field_says (life n) r = within_parts 1 2000000000 n r
field_says (input s) r = (text_decides 33 16 s).0 r
field_says (output o) r = ranged_says o r
field_says (trigger g) r = (trigger_decides g).0 r

pub field_from : (f : Said) → FieldInRange f → RangedField f
field_from (life n) r = within_from 1 2000000000 n r.0 r.1
field_from (input s) r = (text_decides 33 16 s).1 r
field_from (output o) r = ranged_from o r
field_from (trigger g) r = (trigger_decides g).1 r

pub table_says : (t : Table) → Whole t → WholeTable t
table_says t w = record {
  life = within_parts 1 2000000000 t.life w.life;
  inputs = w.inputs;
  outputs = w.outputs;
  triggers = w.triggers;
  windows = w.windows;
  each_input = (all_decides (is_text 33 16) (Text 33 16) (text_decides 33 16) t.inputs).0 w.names;
  each_output = (all_decides is_output WholeOutput output_decides t.outputs).0 w.wholes;
  each_trigger = (all_decides is_trigger WholeTrigger trigger_decides t.triggers).0 w.says;
}

pub table_from : (t : Table) → WholeTable t → Whole t
table_from t w = record {
  life = within_from 1 2000000000 t.life w.life.0 w.life.1;
  inputs = w.inputs;
  outputs = w.outputs;
  triggers = w.triggers;
  names = (all_decides (is_text 33 16) (Text 33 16) (text_decides 33 16) t.inputs).1 w.each_input;
  wholes = (all_decides is_output WholeOutput output_decides t.outputs).1 w.each_output;
  says = (all_decides is_trigger WholeTrigger trigger_decides t.triggers).1 w.each_trigger;
  windows = w.windows;
}
