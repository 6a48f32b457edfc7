-- What is gathered, with one field more.
use Rattle.std.proofs.Common.{◌≡◌, ℕ, ◌+◌, ◌<◌, List, [], ◌∷◌, ◌++◌, length, min, sym, ap, ◌∙◌, arith}
use Rattle.std.proofs.lemmas.List.{length-take, length_push, take_all}
use Rattle.fixed.specs.Pushing.{pushed}
use Rattle.tables.specs.Kinds.{Said, Table}
use Rattle.table_laws.specs.Whole.{windows_in_field}
use Rattle.checked.specs.Gathering.{Making, added, lives_in, output_place, trigger_place, with_last}

-- part by part
pub added_is : (m : Making) (f : Said) (place : ℕ) (table : Table) (lives windows : ℕ) (outputs triggers : List ℕ) → table ≡ with_last m.table f → lives ≡ m.lives + lives_in f → windows ≡ m.windows + windows_in_field f
    → outputs ≡ m.outputs_at ++ output_place f place → triggers ≡ m.triggers_at ++ trigger_place f place
    → record { table = table; lives = lives; windows = windows; outputs_at = outputs; triggers_at = triggers } ≡ added m f place
added_is m f place table lives windows outputs triggers t l w o g = λ i. record { table = t i; lives = l i; windows = w i; outputs_at = o i; triggers_at = g i }

-- one more where there is room
pub behind : {X : Type 0} (most : ℕ) (x : X) (xs : List X) → length xs < most → pushed most x xs ≡ xs ++ (x ∷ [])
behind most x xs room = take_all most (xs ++ (x ∷ [])) (omega (arith, length_push xs x))

-- one more as often as in another list that is as long
pub placed : {X Y : Type 0} (most : ℕ) (x : X) (xs : List X) (y : Y) (ys : List Y) → length xs ≡ length ys → length (pushed most x xs) ≡ length (pushed most y ys)
placed most x xs y ys same = length-take most (xs ++ (x ∷ [])) ∙ ap (min most) (length_push xs x ∙ ap (λ n. n + 1) same ∙ sym (length_push ys y)) ∙ sym (length-take most (ys ++ (y ∷ [])))
