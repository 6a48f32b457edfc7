-- The reader with places says the same of bytes as the one without; what is read is what was written.
use Rattle.std.proofs.Common.{◌≡◌, ℕ, zero, suc, ◌+◌, Bool, true, false, ltb, List, [], ◌∷◌, map, length, Ok, Err, Result, sym, refl, ap, ◌∙◌, arith}
use Rattle.std.proofs.lemmas.List.{length-append}
use Rattle.frames.specs.Frames.{announced, first}
use Rattle.log_laws.specs.Laws.{Octets}
use Rattle.tables.specs.Kinds.{Said, Table}
use Rattle.tables.specs.Rules.{no_circle}
use Rattle.tables.specs.Sound.{sound}
use Rattle.tables.specs.Tables.{Refusal, Stood, field, field_bytes, fields_bytes, keeps, next, read, start, streams_in, sure, with_field, write}
use Rattle.tables.specs.Tables as plain
use Rattle.table_laws.specs.Laws.{ReadLaw}
use Rattle.table_laws.specs.Placing.{Placed, before, cons, ended, gathered, judged, read_placed, walk, whole}
use Rattle.table_laws.specs.Walks.{placed}
use Rattle.table_laws.proofs.Readings.{placed_sound, sound_placed}
use Rattle.table_laws.proofs.Walks.{Tells, tells}
use Rattle.table_laws.proofs.Written.{written_bytes}

abbrev unplaced : Result (List Placed) Refusal → Result (List Said) Refusal
unplaced (Ok fs) = Ok (map (λ f. f.said) fs)
unplaced (Err e) = Err e

cons_same : (f : Said) (place : ℕ) (r : Result (List Placed) Refusal) → plain.cons f (unplaced r) ≡ unplaced (cons (record { said = f; place = place }) r)
cons_same f place (Ok fs) = refl
cons_same f place (Err e) = refl

before_same : (r : Result Said ℕ) (place : ℕ) (one : Said → Result (List Said) Refusal) (two : Said → Result (List Placed) Refusal) → ((f : Said) → one f ≡ unplaced (two f)) → plain.before r place one ≡ unplaced (before r place two)
before_same (Err n) place one two same = refl
before_same (Ok f) place one two same = ap (plain.cons f) (same f) ∙ cons_same f place (two f)

ended_same : (b : Bool) (place : ℕ) → plain.ended b place ≡ unplaced (ended b place)
ended_same true place = refl
ended_same false place = refl

walk_same : (inside place : ℕ) (s : Stood) (bytes : List ℕ) → plain.walk inside place s bytes ≡ unplaced (walk inside place s bytes)
walk_same inside place s [] = ended_same (ltb 0 s.outputs) place
walk_same (suc inside) place s (b ∷ bytes) = walk_same inside (place + 1) s bytes
walk_same zero place s (b ∷ bytes) =
    before_same (field s (first (b ∷ bytes))) place
    (λ f. plain.walk (2 + announced (b ∷ bytes)) (place + 1) (next s f) bytes)
    (λ f. walk (2 + announced (b ∷ bytes)) (place + 1) (next s f) bytes)
    (λ f. walk_same (2 + announced (b ∷ bytes)) (place + 1) (next s f) bytes)

-- fields in a row
fields_same : (place : ℕ) (fs : List Said) → map (λ f. f.said) (placed place fs) ≡ fs
fields_same place [] = refl
fields_same place (f ∷ fs) = ap (λ l. f ∷ l) (fields_same (place + length (field_bytes f)) fs)

gathered_same : (place : ℕ) (fs : List Said) → plain.gathered fs ≡ gathered (placed place fs)
gathered_same place [] = refl
gathered_same place (f ∷ fs) = ap (with_field f) (gathered_same (place + length (field_bytes f)) fs)

judged_same : (t : Table) (end me place : ℕ) (fs : List Said) → place + length (fields_bytes fs) ≡ end → plain.judged t me place fs ≡ judged t end me (placed place fs)
judged_same t end me place [] last = let same : place ≡ end = omega arith in ap (λ n. sure (no_circle t) 7 n (Ok t)) same
judged_same t end me place (f ∷ fs) last =
    let far : ℕ = place + length (field_bytes f) in
    let more : far + length (fields_bytes fs) ≡ end = omega (arith, length-append (field_bytes f) (fields_bytes fs)) in
    ap (sure (keeps t me f) 5 place) (judged_same t end (me + streams_in f) far fs more)

module _ (bytes : List ℕ) where
  whole_same : (r : Result (List Placed) Refusal) → Tells 0 start bytes r → plain.whole (unplaced r) ≡ whole (length bytes) r
  whole_same (Err e) t = refl
  whole_same (Ok ps) (fs, is, written, pass, some) =
      let long : 0 + length (fields_bytes fs) ≡ length bytes = omega (arith, ap length written) in
      ap (λ l. plain.whole (Ok (map (λ f. f.said) l))) is
      ∙ ap (λ l. plain.judged (plain.gathered l) 0 0 l) (fields_same 0 fs)
      ∙ ap (λ u. plain.judged u 0 0 fs) (gathered_same 0 fs)
      ∙ judged_same (gathered (placed 0 fs)) (length bytes) 0 0 fs long
      ∙ ap (λ l. whole (length bytes) (Ok l)) (sym is)

  pub read_same : Octets bytes → read bytes ≡ read_placed bytes
  read_same o = ap plain.whole (walk_same 0 0 start bytes) ∙ whole_same (walk 0 0 start bytes) (tells (length bytes) 0 start bytes (omega arith) (omega arith) o)

pub sound_read : (t : Table) → sound t ≡ true → read (write t) ≡ Ok t
sound_read t e = read_same (write t) (written_bytes t e) ∙ sound_placed t e

pub read_sound : (bs : List ℕ) (t : Table) → Octets bs → read bs ≡ Ok t → (bs ≡ write t) × (sound t ≡ true)
read_sound bs t o e = placed_sound bs t o (sym (read_same bs o) ∙ e)

pub read_law : ReadLaw
read_law bs t o = (read_sound bs t o, λ p. ap read p.0 ∙ sound_read t p.1)
