-- The contents of outputs and triggers.
use Rattle.std.proofs.Common.{◌≡◌, ℕ, ◌<◌, true, false, List, [], ◌∷◌, length, get_or, drop, Ok, Err, Result, sym, refl, ap, ◌∙◌, arith}
use Rattle.tables.specs.declared.op.Op.{Op}
use Rattle.tables.specs.declared.op.Pace.{Pace}
use Rattle.tables.specs.Fields.{named, ops_in, text_to_end}
use Rattle.tables.specs.Kinds.{Said, output, trigger}
use Rattle.tables.specs.Programs.{all_ops}
use Rattle.tables.specs.Reading.{closed, content, fits, ops, outputs, some, test, with_ops}
use Rattle.tables.proofs.Operations.{after, fewer_windows, ops_after}
use Rattle.tables.proofs.Readers.{onward}
use Rattle.tables.proofs.Texts.{named_onward, passed, some_on, to_end_passed}

some_none : {X : Type 0} (k : List ℕ → Result X ℕ) (bs : List ℕ) → length bs ≡ 0 → Err 3 ≡ some k bs
some_none k [] none = refl
some_none k (b ∷ bs) none = absurd (omega arith)

module _ (p : Pace) (w : ℕ) (bs : List ℕ) where
  unnamed : outputs p w bs ≡ onward (with_ops p w) (named bs)
  unnamed = named_onward (with_ops p w) bs

  pub output_unnamed : (e : ℕ) → Err e ≡ named bs → Err e ≡ outputs p w bs
  output_unnamed e is = rw (unnamed, ← is) refl

  module _ (s rest : List ℕ) (is : Ok (s, rest) ≡ named bs) where
    named_on : outputs p w bs ≡ with_ops p w s rest
    named_on = unnamed ∙ ap (onward (with_ops p w)) (sym is)

    abbrev judged : List Op → Result Said ℕ
    judged os = test (fits 0 os) 6 (closed (output (record { pace = p; name = s; ops = os }))) []

    pub output_empty : length rest ≡ 0 → Err 3 ≡ outputs p w bs
    output_empty none = some_none (ops 16 w judged) rest none ∙ sym named_on

    module _ (more : 0 < length rest) where
      judged_on : outputs p w bs ≡ after judged (all_ops w rest)
      judged_on = named_on ∙ some_on (ops 16 w judged) rest more ∙ ops_after 16 w (λ os. os) judged rest

      pub output_stops : (e : ℕ) → Err e ≡ all_ops w rest → Err e ≡ outputs p w bs
      output_stops e is = rw (judged_on, ← is) refl

      pub output_unfit : (os : List Op) → Ok os ≡ all_ops w rest → false ≡ fits 0 os → Err 6 ≡ outputs p w bs
      output_unfit os is no-fit = rw (judged_on, ← is, ← no-fit) refl

      pub output_fits : (os : List Op) → Ok os ≡ all_ops w rest → true ≡ fits 0 os → Ok (output (record { pace = p; name = s; ops = ops_in rest })) ≡ outputs p w bs
      output_fits os is fit = rw (judged_on, ← is, ← fewer_windows w rest os is, ← fit) refl

-- the stream of a trigger, and its message after it
pub trigger_passed : (bs m : List ℕ) → 0 < length bs → m ≡ drop 1 bs → content 5 0 bs ≡ passed (Ok (trigger (record { stream = get_or bs 0 0; message = m }))) (text_to_end 32 32 m)
trigger_passed [] m more is = absurd (omega arith)
trigger_passed (s ∷ bs) m more is = rw is (to_end_passed 32 32 (λ m. Ok (trigger (record { stream = s; message = m }))) bs)
