-- Items kept as rows; a port's items, and one more.
use Rattle.std.proofs.Common.{◌≡◌, ℕ, ◌+◌, ◌-◌, ◌<◌, ◌≤◌, eqb, List, [], ◌∷◌, ◌++◌, map, length, take, set, sym, ap, ◌∙◌, arith, length-take-le}
use Rattle.std.proofs.lemmas.List.{length-append, length-map, map-append, take_all, take-append-le, take_more_set}
use Rattle.std.proofs.lemmas.Bool.{cond_both, eqb-true, eqb-false}
use Rattle.items.specs.declared.cause.End.TheVariants.{Dry}
use Rattle.items.specs.declared.item.Item.{Item}
use Rattle.items.specs.declared.item.Item.TheVariants as item
use Rattle.items.specs.declared.item.Row.{Row}
use Rattle.items.specs.Items.{item_of, row_of}
use Rattle.items.proofs.Making.{mark_is, reading_is}
use Rattle.items.specs.Sources.{appended, put}
use Rattle.fixed.specs.Pushing.{pushed}
use Rattle.layers.specs.Layers.{port}
use Rattle.layers.specs.Rows.{held}

-- what is kept as a row comes back
item_back : (x : Item) → item_of (row_of x) ≡ x
item_back (item.Marked m) = ap item.Marked (sym (mark_is m))
item_back (item.Read r) = ap item.Read (sym (reading_is r r.values (sym r.blank)))

pub held_long : (rows : List Row) (used : ℕ) → used ≤ length rows → length (held rows used) ≡ used
held_long rows used few = length-map (take used rows) item_of ∙ length-take-le used rows few

-- where a place is free, what is pushed follows the others
pub pushed_free : (n : ℕ) (x : Item) (xs : List Item) → length xs < n → pushed n x xs ≡ xs ++ x ∷ []
pushed_free n x xs free = take_all n (xs ++ x ∷ []) (omega (arith, length-append xs (x ∷ [])))

-- else it is as if nothing was
pushed_full : (n : ℕ) (x : Item) (xs : List Item) → length xs ≡ n → pushed n x xs ≡ xs
pushed_full n x xs full = take-append-le n xs (x ∷ []) (omega arith) ∙ take_all n xs (omega arith)

-- a row more holds its item behind the others
pub held_push : (n : ℕ) (rows : List Row) (used : ℕ) (x : Item) → length rows ≡ n → used < n → held (set rows used (row_of x)) (used + 1) ≡ pushed n x (held rows used)
held_push n rows used x long free =
    ap (map item_of) (take_more_set rows used (row_of x) (omega arith))
    ∙ map-append item_of (take used rows) (row_of x ∷ [])
    ∙ ap (λ y. held rows used ++ y ∷ []) (item_back x)
    ∙ sym (pushed_free n x (held rows used) (omega (arith, held_long rows used (omega arith))))

pub port_put : (x : Item) (waits : List Item) → length waits ≤ 32 → port (pushed 32 x waits) ≡ put (port waits) x
port_put x waits few =
    cond_both (eqb (32 - length waits) 0) (port waits) (appended (port waits) x) (λ m. port (pushed 32 x waits) ≡ m)
    (λ e. ap port (pushed_full 32 x waits (omega (arith, eqb-true (32 - length waits) 0 e))))
    (λ e.
    let free : length waits < 32 = let some = eqb-false (32 - length waits) 0 e in omega arith in
    let room : 32 - length (waits ++ x ∷ []) ≡ 32 - length waits - 1 = omega (arith, length-append waits (x ∷ [])) in
    ap port (pushed_free 32 x waits free) ∙ ap (λ r. record { waits = waits ++ x ∷ []; end = Dry; room = r }) room)
