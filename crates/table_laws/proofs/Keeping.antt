-- The rules on reading: tests against sentences.
use Rattle.std.proofs.Common.{◌≡◌, ℕ, zero, suc, ◌+◌, ◌*◌, ◌/◌, ◌%◌, ◌<◌, Bool, true, not, ◌&&◌, ◌||◌, eqb, ltb, leb, ◌⊎◌, List, [], ◌∷◌, length, get_or, ℤ, sym, refl, ap, ◌∙◌, subst, inl, inr, ⊎_elim, add-zero, mul_comm, mul-div_cancel, arith}
use native.Mathlib.Nat.{mod-add-div, mul-mod_left}
use Rattle.std.proofs.lemmas.Bool.{and_from, and_parts, cases_eq, eq-eqb, eqb-true, false≢true, le-leb, leb-true, lt-ltb, ltb-true, or_cases, or_left, or_right}
use Rattle.std.proofs.lemmas.Bool.Decides.{Decides-and, Decides-ltb}
use Rattle.std.specs.Bool.{Decides}
use Rattle.std.proofs.lemmas.List.Elements.{All-head, All-tail}
use Rattle.std.specs.List.{All, Contains}
use Rattle.aggregates.specs.declared.kind.Kind.{Kind}
use Rattle.tables.specs.declared.op.Op.{Op}
use Rattle.tables.specs.declared.op.Op.TheVariants.{Number, Now, Past, Held, Window, Add, Subtract, Multiply, Less, Equal, Choose}
use Rattle.tables.specs.declared.op.Pace.{Pace}
use Rattle.tables.specs.declared.op.Pace.TheVariants.{Event, Every}
use Rattle.tables.specs.Kinds.{Output, Table, Trigger}
use Rattle.tables.specs.Rules.{all, any, divides, driven, keeps_pace, may, meets_other, nothing, output_keeps, pace_of, spans, streams, trigger_keeps}
use Rattle.tables.specs.Sound.{outputs_keep}
use Rattle.table_laws.specs.Lawful.{Between, Meets, Names, OpKeeps, OutputKeeps, PaceInRange, TriggerKeeps, WholeOutput}
use Rattle.table_laws.proofs.Members.{member_cases, member_first, member_none, member_rest}
use Rattle.table_laws.proofs.Sentences.{all_from, all_says, differs}

-- WHAT AN OPERATION NAMES

-- the stream that it names, 0 where it names none
abbrev stream_of : Op → ℕ
stream_of (Number v) = 0
stream_of (Now s) = s
stream_of (Past s b d) = s
stream_of (Held s d) = s
stream_of (Window s k u d) = s
stream_of Add = 0
stream_of Subtract = 0
stream_of Multiply = 0
stream_of Less = 0
stream_of Equal = 0
stream_of Choose = 0

-- 0 for now and past, 1 for held, 2 for a window, 3 where it names no stream
abbrev class : Op → ℕ
class (Number v) = 3
class (Now s) = 0
class (Past s b d) = 0
class (Held s d) = 1
class (Window s k u d) = 2
class Add = 3
class Subtract = 3
class Multiply = 3
class Less = 3
class Equal = 3
class Choose = 3

meets_one : (x : Op) (s : ℕ) → Meets x s → (class x ≡ 0) × (stream_of x ≡ s)
meets_one x s (inl e) = (ap class e, ap stream_of e)
meets_one x s (inr (b, d, e)) = (ap class e, ap stream_of e)

names_one : (x : Op) (s : ℕ) → Names x s → (class x < 3) × (stream_of x ≡ s)
names_one x s (inl (inl m)) = let p = meets_one x s m in let c = p.0 in (omega arith, p.1)
names_one x s (inl (inr (d, e))) = let c = ap class e in (omega arith, ap stream_of e)
names_one x s (inr (k, u, d, e)) = let c = ap class e in (omega arith, ap stream_of e)

-- PACES

abbrev Paced : Pace → Pace → Type 0
Paced p q = (p ≡ Event → q ≡ Event) × ((n : ℕ) → p ≡ Every n → (m : ℕ) × (times : ℕ) × (q ≡ Every m) × (n ≡ times * m))

clash : {X : Type 0} {n : ℕ} → Event ≡ Every n → X
clash e = absurd cc

same_period : (m n : ℕ) → Every m ≡ Every n → m ≡ n
same_period m n e = cc

divides_says : (m n : ℕ) → divides m n ≡ true → n ≡ n / m * m
divides_says m n e = let none = eqb-true (n % m) 0 e in let sum = mod-add-div n m in let turned = mul_comm m (n / m) in omega arith

divides_from : (m n times : ℕ) → n ≡ times * m → divides m n ≡ true
divides_from m n times is = eq-eqb (n % m) 0 (ap (λ x. x % m) is ∙ mul-mod_left times m)

pace_says : (p q : Pace) → keeps_pace p q ≡ true → Paced p q
pace_says Event Event e = (λ z. refl, λ n z. clash z)
pace_says Event (Every q) e = absurd (false≢true e)
pace_says (Every p) Event e = absurd (false≢true e)
pace_says (Every p) (Every q) e = (λ z. clash (sym z), λ n z. (q, p / q, refl, sym (same_period p n z) ∙ divides_says q p e))

pace_from : (p q : Pace) → Paced p q → keeps_pace p q ≡ true
pace_from Event Event h = refl
pace_from Event (Every q) h = clash (sym (h.0 refl))
pace_from (Every p) Event h = clash (h.1 p refl).2
pace_from (Every p) (Every q) h =
    let r = h.1 p refl in
    divides_from q p r.1 (r.3 ∙ ap (λ m. r.1 * m) (sym (same_period q r.0 r.2)))

abbrev Spans : Pace → Pace → ℕ → Type 0
Spans p q duration = (n : ℕ) × (panes : ℕ) × (p ≡ Every n) × (q ≡ Event) × Between 1 16 panes × (duration ≡ panes * n)

spans_says : (p q : Pace) (u : ℕ) → spans p q u ≡ true → Spans p q u
spans_says Event q u e = absurd (false≢true e)
spans_says (Every p) Event u e =
    let a = and_parts (divides p u) (leb 1 (u / p) && leb (u / p) 16) e in
    let b = and_parts (leb 1 (u / p)) (leb (u / p) 16) a.1 in
    (p, u / p, refl, refl, (leb-true 1 (u / p) b.0, leb-true (u / p) 16 b.1), divides_says p u a.0)
spans_says (Every p) (Every q) u e = absurd (false≢true e)

spans_from : (p q : Pace) (u : ℕ) → PaceInRange p → Spans p q u → spans p q u ≡ true
spans_from Event q u f h = clash h.2
spans_from (Every p) Event u f h =
    let panes = h.1 in
    let is : u ≡ panes * p = h.5 ∙ ap (λ n. panes * n) (sym (same_period p h.0 h.2)) in
    let some : 0 < p = f.0 in
    let parts : u / p ≡ panes = ap (λ x. x / p) is ∙ mul-div_cancel panes some in
    let low = h.4.0 in
    let high = h.4.1 in
    and_from (divides p u) (leb 1 (u / p) && leb (u / p) 16) (divides_from p u panes is)
    (and_from (leb 1 (u / p)) (leb (u / p) 16) (le-leb 1 (u / p) (omega arith)) (le-leb (u / p) 16 (omega arith)))
spans_from (Every p) (Every q) u f h = clash (sym h.3)

-- ONE OPERATION

module _ (t : Table) (me : ℕ) (p : Pace) where
  -- the rules by what an operation names, if anything
  ruled : (x : Op) → (class x < 3 → stream_of x < streams t) → (class x < 3 → stream_of x ≡ me → (b : ℕ) × (d : ℤ) × (x ≡ Past me b d))
      → (class x ≡ 0 → (stream_of x ≡ me) ⊎ Paced p (pace_of t (stream_of x)))
      → ((s : ℕ) (k : Kind) (u : ℕ) (d : ℤ) → x ≡ Window s k u d → Spans p (pace_of t s) u) → OpKeeps t me p x
  ruled x exists itself meets windows = record {
    exists = λ s n. (let q = names_one x s n in subst (λ y. y < streams t) q.1 (exists q.0));
    itself = λ n. (let q = names_one x me n in itself q.0 q.1);
    events = λ s e m. (let q = meets_one x s m in ⊎_elim (λ same. inl (sym q.1 ∙ same)) (λ r. inr (ap (pace_of t) (sym q.1) ∙ r.0 e)) (meets q.0));
    periods = λ s n e m.
        (let q = meets_one x s m in
        ⊎_elim (λ same. inl (sym q.1 ∙ same)) (λ r. let w = r.1 n e in inr (w.0, w.1, ap (pace_of t) (sym q.1) ∙ w.2, w.3)) (meets q.0));
    windows = windows;
  }

  no_window : (x : Op) → (class x ≡ 2 → ⊥) → (s : ℕ) (k : Kind) (u : ℕ) (d : ℤ) → x ≡ Window s k u d → Spans p (pace_of t s) u
  no_window x other s k u d e = absurd (other (ap class e))

  silent : (x : Op) → class x ≡ 3 → OpKeeps t me p x
  silent x e = ruled x (λ n. absurd (omega arith)) (λ n. absurd (omega arith)) (λ n. absurd (omega arith)) (no_window x (λ n. omega arith))

  -- a stream other than the output's own
  other : (x : Op) → stream_of x < streams t → (stream_of x ≡ me → ⊥) → (class x ≡ 0 → Paced p (pace_of t (stream_of x)))
      → ((s : ℕ) (k : Kind) (u : ℕ) (d : ℤ) → x ≡ Window s k u d → Spans p (pace_of t s) u) → OpKeeps t me p x
  other x exists apart paced windows = ruled x (λ n. exists) (λ n same. absurd (apart same)) (λ c. inr (paced c)) windows

  may_says : (x : Op) → may t me p x ≡ true → OpKeeps t me p x
  may_says (Number v) e = silent (Number v) refl
  may_says (Now s) e =
      let a = and_parts (ltb s (streams t)) (not (eqb s me) && keeps_pace p (pace_of t s)) e in
      let b = and_parts (not (eqb s me)) (keeps_pace p (pace_of t s)) a.1 in
      other (Now s) (ltb-true s (streams t) a.0) ((differs s me).0 b.0) (λ c. pace_says p (pace_of t s) b.1) (no_window (Now s) (λ n. omega arith))
  may_says (Past s b d) e =
      let a = and_parts (ltb s (streams t)) (eqb s me || keeps_pace p (pace_of t s)) e in
      ruled (Past s b d) (λ n. ltb-true s (streams t) a.0) (λ n same. (b, d, ap (λ z. Past z b d) same))
      (λ c. ⊎_elim (λ same. inl (eqb-true s me same)) (λ q. inr (pace_says p (pace_of t s) q)) (or_cases (eqb s me) (keeps_pace p (pace_of t s)) a.1))
      (no_window (Past s b d) (λ n. omega arith))
  may_says (Held s d) e =
      let a = and_parts (ltb s (streams t)) (not (eqb s me)) e in
      other (Held s d) (ltb-true s (streams t) a.0) ((differs s me).0 a.1) (λ c. absurd (omega arith)) (no_window (Held s d) (λ n. omega arith))
  may_says (Window s k u d) e =
      let a = and_parts (ltb s (streams t)) (not (eqb s me) && spans p (pace_of t s) u) e in
      let b = and_parts (not (eqb s me)) (spans p (pace_of t s) u) a.1 in
      other (Window s k u d) (ltb-true s (streams t) a.0) ((differs s me).0 b.0) (λ c. absurd (omega arith))
      (λ s' k' u' d' same. (let es : s ≡ s' = cc in let eu : u ≡ u' = cc in subst (λ z. Spans p (pace_of t z) u') es (subst (Spans p (pace_of t s)) eu (spans_says p (pace_of t s) u b.1))))
  may_says Add e = silent Add refl
  may_says Subtract e = silent Subtract refl
  may_says Multiply e = silent Multiply refl
  may_says Less e = silent Less refl
  may_says Equal e = silent Equal refl
  may_says Choose e = silent Choose refl

  -- an operation that is not past does not name its own output
  apart : (x : Op) → OpKeeps t me p x → ((b : ℕ) (d : ℤ) → x ≡ Past me b d → ⊥) → Names x (stream_of x) → stream_of x ≡ me → ⊥
  apart x r not-past names same = let q = r.itself (subst (Names x) same names) in not-past q.0 q.1 q.2

  paced : (x : Op) → OpKeeps t me p x → Meets x (stream_of x) → (stream_of x ≡ me → ⊥) → keeps_pace p (pace_of t (stream_of x)) ≡ true
  paced x r m other =
      pace_from p (pace_of t (stream_of x))
      (λ e. ⊎_elim (λ same. absurd (other same)) (λ q. q) (r.events (stream_of x) e m), λ n e. ⊎_elim (λ same. absurd (other same)) (λ q. q) (r.periods (stream_of x) n e m))

  may_from : PaceInRange p → (x : Op) → OpKeeps t me p x → may t me p x ≡ true
  may_from f (Number v) r = refl
  may_from f (Now s) r =
      let ne = apart (Now s) r (λ b d e. cc) (inl (inl (inl refl))) in
      and_from (ltb s (streams t)) (not (eqb s me) && keeps_pace p (pace_of t s)) (lt-ltb s (streams t) (r.exists s (inl (inl (inl refl)))))
      (and_from (not (eqb s me)) (keeps_pace p (pace_of t s)) ((differs s me).1 ne) (paced (Now s) r (inl refl) ne))
  may_from f (Past s b d) r =
      and_from (ltb s (streams t)) (eqb s me || keeps_pace p (pace_of t s)) (lt-ltb s (streams t) (r.exists s (inl (inl (inr (b, d, refl))))))
      (⊎_elim
      (λ same. or_left (eqb s me) (keeps_pace p (pace_of t s)) (eq-eqb s me same))
      (λ ne. or_right (eqb s me) (keeps_pace p (pace_of t s)) (paced (Past s b d) r (inr (b, d, refl)) ne))
      (cases_eq s me))
  may_from f (Held s d) r =
      let ne = apart (Held s d) r (λ b' d' e. cc) (inl (inr (d, refl))) in
      and_from (ltb s (streams t)) (not (eqb s me)) (lt-ltb s (streams t) (r.exists s (inl (inr (d, refl))))) ((differs s me).1 ne)
  may_from f (Window s k u d) r =
      let ne = apart (Window s k u d) r (λ b' d' e. cc) (inr (k, u, d, refl)) in
      and_from (ltb s (streams t)) (not (eqb s me) && spans p (pace_of t s) u) (lt-ltb s (streams t) (r.exists s (inr (k, u, d, refl))))
      (and_from (not (eqb s me)) (spans p (pace_of t s) u) ((differs s me).1 ne) (spans_from p (pace_of t s) u f (r.windows s k u d refl)))
  may_from f Add r = refl
  may_from f Subtract r = refl
  may_from f Multiply r = refl
  may_from f Less r = refl
  may_from f Equal r = refl
  may_from f Choose r = refl

-- OUTPUTS AND TRIGGERS

any_says : {X : Type 0} (test : X → Bool) (xs : List X) → any test xs ≡ true → (x : X) × Contains xs x × (test x ≡ true)
any_says test [] e = absurd (false≢true e)
any_says test (x ∷ xs) e = ⊎_elim (λ h. (x, member_first x x xs refl, h)) (λ h. let r = any_says test xs h in (r.0, member_rest r.0 x xs r.1, r.2)) (or_cases (test x) (any test xs) e)

any_from : {X : Type 0} (test : X → Bool) (xs : List X) (x : X) → Contains xs x → test x ≡ true → any test xs ≡ true
any_from test [] x i e = absurd (member_none x i)
any_from test (y ∷ ys) x i e = ⊎_elim (λ same. or_left (test y) (any test ys) (ap test (sym same) ∙ e)) (λ j. or_right (test y) (any test ys) (any_from test ys x j e)) (member_cases x y ys i)

meets_says : (me : ℕ) (x : Op) → meets_other me x ≡ true → (s : ℕ) × Meets x s × (s ≡ me → ⊥)
meets_says me (Number v) e = absurd (false≢true e)
meets_says me (Now s) e = (s, inl refl, (differs s me).0 e)
meets_says me (Past s b d) e = (s, inr (b, d, refl), (differs s me).0 e)
meets_says me (Held s d) e = absurd (false≢true e)
meets_says me (Window s k u d) e = absurd (false≢true e)
meets_says me Add e = absurd (false≢true e)
meets_says me Subtract e = absurd (false≢true e)
meets_says me Multiply e = absurd (false≢true e)
meets_says me Less e = absurd (false≢true e)
meets_says me Equal e = absurd (false≢true e)
meets_says me Choose e = absurd (false≢true e)

meets_from : (me : ℕ) (x : Op) (s : ℕ) → Meets x s → (s ≡ me → ⊥) → meets_other me x ≡ true
meets_from me x s (inl e) other = ap (meets_other me) e ∙ (differs s me).1 other
meets_from me x s (inr (b, d, e)) other = ap (meets_other me) e ∙ (differs s me).1 other

driven_says : (me : ℕ) (p : Pace) (os : List Op) → driven me p os ≡ true → p ≡ Event → (x : Op) × (s : ℕ) × Contains os x × Meets x s × (s ≡ me → ⊥)
driven_says me Event os e z = let a = any_says (meets_other me) os e in let b = meets_says me a.0 a.2 in (a.0, b.0, a.1, b.1, b.2)
driven_says me (Every p) os e z = clash (sym z)

driven_from : (me : ℕ) (p : Pace) (os : List Op) → (p ≡ Event → (x : Op) × (s : ℕ) × Contains os x × Meets x s × (s ≡ me → ⊥)) → driven me p os ≡ true
driven_from me Event os h = let r = h refl in any_from (meets_other me) os r.0 r.2 (meets_from me r.0 r.1 r.3 r.4)
driven_from me (Every p) os h = refl

pub output_says : (t : Table) (me : ℕ) (o : Output) → output_keeps t me o ≡ true → OutputKeeps t me o
output_says t me o e =
    let a = and_parts (all (may t me o.pace) o.ops) (driven me o.pace o.ops) e in
    record { each = all_says (may t me o.pace) (OpKeeps t me o.pace) (may_says t me o.pace) o.ops a.0; driven = driven_says me o.pace o.ops a.1 }

pub output_from : (t : Table) (me : ℕ) (o : Output) → PaceInRange o.pace → OutputKeeps t me o → output_keeps t me o ≡ true
output_from t me o f r =
    and_from (all (may t me o.pace) o.ops) (driven me o.pace o.ops)
    (all_from (may t me o.pace) (OpKeeps t me o.pace) (may_from t me o.pace f) o.ops r.each) (driven_from me o.pace o.ops r.driven)

pub trigger_decides : (t : Table) (g : Trigger) → Decides (trigger_keeps t g) (TriggerKeeps t g)
trigger_decides t g =
    Decides-and (leb (length t.inputs) g.stream) (ltb g.stream (streams t)) (leb-true (length t.inputs) g.stream, le-leb (length t.inputs) g.stream) (Decides-ltb g.stream (streams t))

-- each of some outputs, the first of which is stream `me`
abbrev OutputsKeep : Table → (me : ℕ) → List Output → Type 0
OutputsKeep t me os = (a : ℕ) → a < length os → OutputKeeps t (me + a) (get_or os a nothing)

pub outputs_says : (t : Table) (me : ℕ) (os : List Output) → outputs_keep t me os ≡ true → OutputsKeep t me os
outputs_says t me [] e a lt = absurd (omega arith)
outputs_says t me (o ∷ os) e zero lt = subst (λ m. OutputKeeps t m o) (sym (add-zero me)) (output_says t me o (and_parts (output_keeps t me o) (outputs_keep t (me + 1) os) e).0)
outputs_says t me (o ∷ os) e (suc a) lt =
    let far : me + 1 + a ≡ me + suc a = omega arith in
    subst (λ m. OutputKeeps t m (get_or os a nothing)) far (outputs_says t (me + 1) os (and_parts (output_keeps t me o) (outputs_keep t (me + 1) os) e).1 a (omega arith))

pub outputs_from : (t : Table) (me : ℕ) (os : List Output) → All WholeOutput os → OutputsKeep t me os → outputs_keep t me os ≡ true
outputs_from t me [] w h = refl
outputs_from t me (o ∷ os) w h =
    let first = subst (λ m. OutputKeeps t m o) (add-zero me) (h 0 (omega arith)) in
    let others : OutputsKeep t (me + 1) os = (λ a lt. let far : me + suc a ≡ me + 1 + a = omega arith in subst (λ m. OutputKeeps t m (get_or os a nothing)) far (h (suc a) (omega arith))) in
    and_from (output_keeps t me o) (outputs_keep t (me + 1) os) (output_from t me o (All-head WholeOutput o os w).parts.period first) (outputs_from t (me + 1) os (All-tail WholeOutput o os w) others)
