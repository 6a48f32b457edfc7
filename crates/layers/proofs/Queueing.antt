-- What a queue does to its own items, to the source below and to that source's queues.
use Rattle.std.proofs.Common.{◌≡◌, ℕ, ◌+◌, ◌-◌, ◌<◌, ◌≤◌, min, List, [], ◌∷◌, ◌++◌, length, get_or, take, drop, Some, Ok, Err, sym, refl, ap, ◌∙◌, subst, arith}
use Rattle.std.proofs.lemmas.List.{append_assoc, append-nil, drop-drop, length-append, length-drop, length-take-le, take_more, drop_more}
use Rattle.items.specs.declared.cause.End.{End}
use Rattle.items.specs.declared.item.Item.{Item}
use Rattle.items.specs.Sources.{Filled, Gave, Lost, Meaning, Queued, Took, moved}
use Rattle.items.proofs.Taking.{first_taken, none_taken, room_taken, stays}
use Rattle.layers.specs.Layers.{queued}

lost_none : (most : ℕ) (xs : List Item) → Lost most xs xs
lost_none most xs = (0, omega arith, refl)

gave_none : (most : ℕ) (qs : List Queued) → Gave most qs qs
gave_none most [] = tt
gave_none most (q ∷ qs) = (lost_none most q.own, lost_none most q.below, gave_none most qs)

-- an own item is gone
pub gave_own : (own own' : List Item) (m : Meaning) (qs : List Queued) → own' ≡ drop 1 own → Gave 1 (queued own m ∷ qs) (queued own' m ∷ qs)
gave_own own own' m qs e = ((1, omega arith, e), lost_none 1 m.waits, gave_none 1 qs)

lost_more : (k : ℕ) (xs ys zs : List Item) → Lost k xs ys → Lost 1 ys zs → Lost (k + 1) xs zs
lost_more k xs ys zs a b = (a.0 + b.0, omega (arith, a.1, b.1), b.2 ∙ ap (drop b.0) a.2 ∙ drop-drop b.0 a.0 xs)

gave_more : (k : ℕ) (ps qs rs : List Queued) → Gave k ps qs → Gave 1 qs rs → Gave (k + 1) ps rs
gave_more k [] [] [] a b = tt
gave_more k [] [] (r ∷ rs) a b = b
gave_more k [] (q ∷ qs) rs a b = absurd a
gave_more k (p ∷ ps) [] rs a b = absurd a
gave_more k (p ∷ ps) (q ∷ qs) [] a b = b
gave_more k (p ∷ ps) (q ∷ qs) (r ∷ rs) a b = (lost_more k p.own q.own r.own a.0 b.0, lost_more k p.below q.below r.below a.1 b.1, gave_more k ps qs rs a.2 b.2)

-- a fill of a queue, with the number that it answers
abbrev pub FilledQueue : (n : ℕ) (own : List Item) (m : Meaning) (qs : List Queued) (answer : ℕ) (own' : List Item) (m' : Meaning) (qs' : List Queued) → Type 0
FilledQueue n own m qs answer own' m' qs' = Filled 0 n (queued own m ∷ qs) (Some answer) (queued own' m' ∷ qs')

-- k items have been moved
pub record Moving (own : List Item) (m : Meaning) (qs : List Queued) (k : ℕ) (own' : List Item) (m' : Meaning) (qs' : List Queued) : Type 0 where
  pub some : k ≤ length m.waits
  pub own_is : own' ≡ own ++ take k m.waits
  pub below_is : m'.waits ≡ drop k m.waits
  pub end_same : m'.end ≡ m.end
  pub room_kept : m.room ≤ m'.room
  pub gave : Gave k qs qs'

pub moving_none : (own : List Item) (m : Meaning) (qs : List Queued) → Moving own m qs 0 own m qs
moving_none own m qs = record { some = omega arith; own_is = sym (append-nil own); below_is = refl; end_same = refl; room_kept = omega arith; gave = gave_none 0 qs }

module _ {own : List Item} {m : Meaning} {qs : List Queued} {k : ℕ} {own' : List Item} {m' : Meaning} {qs' : List Queued} (s : Moving own m qs k own' m' qs') where
  pub moving_more : {place left : Item} {m'' : Meaning} (own'' : List Item) (qs'' : List Queued) → Took m' place (Ok tt) m'' left → Gave 1 qs' qs'' → own'' ≡ own' ++ left ∷ [] → Moving own m qs (k + 1) own'' m'' qs''
  moving_more {place} {left} {m''} own'' qs'' t g o =
      let w = first_taken m' m'' place left t in
      let r = room_taken m' m'' place left t in
      let at : drop k m.waits ≡ left ∷ m''.waits = sym s.below_is ∙ w in
      let there : k < length m.waits = omega (arith, simp length-drop at (ap length at)) in
      let d = drop_more m.waits k left there in
      let first_more = take_more m.waits k left there in
      let first : get_or m.waits k left ≡ left = cc in
      record {
        some = omega arith;
        own_is = o ∙ ap (λ o. o ++ (left ∷ [])) s.own_is ∙ append_assoc own (take k m.waits) (left ∷ []) ∙ ap (λ l. own ++ l) (sym (rw first at first_more));
        below_is = cc;
        end_same = t.end_same ∙ s.end_same;
        room_kept = omega (arith, r, s.room_kept);
        gave = gave_more k qs qs' qs'' s.gave g;
      }

  pub moving_long : length own' ≡ length own + k
  moving_long = let h = s.some in ap length s.own_is ∙ length-append own (take k m.waits) ∙ ap (λ j. length own + j) (length-take-le k m.waits h)

  -- as many as could be moved; a last take may have found nothing below
  moving_end : (m'' : Meaning) (qs'' : List Queued) (n : ℕ) → k ≡ moved n (queued own m) → m''.waits ≡ m'.waits → Gave (k + 1) qs qs'' → FilledQueue n own m qs k own' m'' qs''
  moving_end m'' qs'' n e same g =
      let w = m.waits in
      let own_now : own' ≡ own ++ take (moved n (queued own m)) w = s.own_is ∙ ap (λ j. own ++ take j w) e in
      let below_now : m''.waits ≡ drop (moved n (queued own m)) w = same ∙ s.below_is ∙ ap (λ j. drop j w) e in
      (ap Some e, (λ i. record { own = own_now i; below = below_now i }), subst (λ j. Gave (j + 1) qs qs'') e g)

  -- the number asked for was moved, or no place is free
  pub moving_full : (n answer : ℕ) → k ≡ answer → answer ≡ min n (64 - length own) → FilledQueue n own m qs answer own' m' qs'
  moving_full n answer e all =
      let h = s.some in
      subst (λ j. FilledQueue n own m qs j own' m' qs') e
      (moving_end m' qs' n (omega arith) refl (gave_more k qs qs' qs' s.gave (gave_none 1 qs')))

  -- nothing waits below any more
  pub moving_dry : {place left : Item} {m'' : Meaning} (end : End) (qs'' : List Queued) (n : ℕ) → k < min n (64 - length own) → Took m' place (Err end) m'' left → Gave 1 qs' qs'' → FilledQueue n own m qs k own' m'' qs''
  moving_dry {place} {left} {m''} end qs'' n more t g =
      let none = none_taken m' m'' place left end t in
      let all : length m.waits ≤ k = omega (arith, simp length-drop at (ap length (sym s.below_is ∙ none.0))) in
      let h = s.some in
      moving_end m'' qs'' n (omega arith) (stays m' m'' place left end t).waits_same (gave_more k qs qs' qs'' s.gave g)
