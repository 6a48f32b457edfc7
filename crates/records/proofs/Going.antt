-- How the record of given items goes on.
use Rattle.std.proofs.Common.{◌≡◌, ℕ, ◌≤◌, true, ltb, leb, List, [], ◌∷◌, ◌++◌, reverse, length, Some, None, Option, sym, refl, ap, ◌∙◌, subst, append_assoc, arith}
use Rattle.std.proofs.lemmas.List.{append-nil, reverse-append, reverse-reverse}
use Rattle.std.proofs.lemmas.Bool.{lt-leb, or_from, or_parts}
use Rattle.items.specs.declared.item.Item.{Item}
use Rattle.tables.specs.Kinds.{Table}
use Rattle.tables.specs.Sound.{sound}
use Rattle.records.specs.declared.entry.Entry.{Entry}
use Rattle.records.specs.declared.entry.Letter.{Letter}
use Rattle.records.specs.declared.entry.Letter.TheVariants.{R, D, L, S}
use Rattle.records.specs.Coming.{Reached, coming, next}
use Rattle.records.specs.Entries.{Frame}
use Rattle.records.specs.Memory.{memory, recalled_entry}
use Rattle.records.specs.Reference.{entry, reference}
use Rattle.records.specs.Schedule.{deadline_frame, last_R, letter_of, reading_frame}
use Rattle.records.specs.Standing.{GoesOn, Standings, Stands}
use Rattle.records.proofs.Nexts.{comings}
use Rattle.records.proofs.Remembering.{recalls_all}

one_more : (before : List Entry) (e : Entry) (rest : List Entry) → reverse (e ∷ before) ++ rest ≡ reverse before ++ (e ∷ rest)
one_more before e rest = ap (λ l. l ++ rest) (reverse-append (e ∷ []) before) ∙ append_assoc (reverse before) (e ∷ []) rest

module _ (t : Table) (sure : sound t ≡ true) where
  -- an entry that comes next is recalled
  goes_on : (given pending : List Item) (before : List Entry) (f : Frame) (d r : ℕ) → Reached (next t d) r
      → ((later : List Item) → reference t (given ++ later) ≡ reverse before ++ (entry t before f ∷ coming t (entry t before f ∷ before) d r (pending ++ later)))
      → GoesOn t given pending before f d r
  goes_on given pending before f d r reached here = record {
    stands = record { whole = λ later. here later ∙ sym (one_more before (entry t before f) _); reached = reached };
    recalled = λ few.
        let place = recalls_all t sure (given ++ []) (reverse before) (entry t before f) _ (here []) in
        subst (λ b. length b ≤ 2000000000 → entry t before f ≡ recalled_entry (memory t b) t f) (reverse-reverse before) place few;
  }

  still : (d r time : ℕ) (l : Letter) → Reached (next t d) r → Reached (next t d) time → Reached (next t d) (last_R l r time)
  still d r time R p q = q
  still d r time D p q = p
  still d r time L p q = p
  still d r time S p q = p

  more : (given pending : List Item) (before : List Entry) (d r : ℕ) (later : List Item) → Stands t given pending before d r → Stands t (given ++ later) (pending ++ later) before d r
  more given pending before d r later s = record {
    whole = λ last.
        ap (reference t) (append_assoc given later last) ∙ s.whole (later ++ last) ∙ ap (λ xs. reverse before ++ coming t before d r xs) (sym (append_assoc pending later last));
    reached = s.reached;
  }

  pub standings : Standings t
  standings = record {
    start = λ given. record { whole = λ later. refl; reached = by (next t 0) };
    more = more;
    deadline = λ given pending before d r n x s e lt.
        goes_on given (x ∷ pending) before (deadline_frame t n) n r ((comings t sure).still_reached d r n s.reached e)
        (λ later. s.whole later ∙ ap (λ l. reverse before ++ l) ((comings t sure).deadline_first before d r n x (pending ++ later) e lt));
    mark = λ given pending before d r m s h. record {
      whole = λ later. s.whole later ∙ ap (λ l. reverse before ++ l) ((comings t sure).mark_adds before d r m (pending ++ later) h);
      reached = s.reached;
    };
    reading = λ given pending before d r x s h.
        goes_on given pending before (reading_frame t (letter_of t d r x) x) d (last_R (letter_of t d r x) r x.time) (still d r x.time (letter_of t d r x) s.reached h)
        (λ later. s.whole later ∙ ap (λ l. reverse before ++ l) ((comings t sure).reading_adds before d r x (pending ++ later) h));
    late = λ given pending before d r x s e.
        goes_on given pending before (reading_frame t L x) d r s.reached
        (λ later. s.whole later ∙ ap (λ l. reverse before ++ l) ((comings t sure).late_adds before d r x (pending ++ later) s.reached e));
    in_time = λ d r n time e lt. or_from (leb time n) (ltb time r) (lt-leb time n lt) (or_parts (leb time d) (ltb time r) e).1;
    first = λ given pending before d r s. (coming t before d r (pending ++ []), ap (reference t) (sym (append-nil given)) ∙ s.whole []);
    all = λ given before d r s. ap (reference t) (sym (append-nil given)) ∙ s.whole [] ∙ append-nil (reverse before);
  }
    where
      by : (n : Option ℕ) → Reached n 0
      by None = tt
      by (Some n) = omega arith
