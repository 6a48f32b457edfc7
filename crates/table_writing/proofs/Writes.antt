-- Bytes written behind bytes.
use Rattle.std.proofs.Common.{◌≡◌, ℕ, ◌+◌, ◌≤◌, List, [], ◌++◌, length, take, drop, subst, sym, refl, ap, ◌∙◌, arith}
use Rattle.std.proofs.lemmas.List.{append_assoc, append-nil, drop-drop, length-append, take-append-drop}
use Rattle.table_writing.specs.declared.writer.Writer.{Writer}
use Rattle.table_writing.specs.Writing.{Wrote, with_more}

-- bytes, and then others
pub wrote_then : (xs ys : List ℕ) (a b c : Writer) → Wrote xs a b → Wrote ys b c → Wrote (xs ++ ys) a c
wrote_then xs ys a b c p q = record {
  put = q.put ∙ ap (with_more ys) p.put ∙ (λ i. record { done = append_assoc (take a.at a.buffer.now) xs ys i; rest = (drop-drop (length ys) (length xs) (drop a.at a.buffer.now) ∙ ap (λ n. drop n (drop a.at a.buffer.now)) (sym (length-append xs ys))) i });
  long = q.long ∙ p.long;
  ends = omega (arith, q.ends, p.ends, length-append xs ys);
  same = q.same ∙ p.same;
}

pub wrote_none : (a : Writer) → Wrote [] a a
wrote_none a = record { put = (λ i. record { done = sym (append-nil (take a.at a.buffer.now)) i; rest = drop a.at a.buffer.now }); long = refl; ends = omega arith; same = refl }

-- some were written, and the bytes of the others are left to write
pub record Writing (before : Writer) (whole : List ℕ) (now : Writer) (left : List ℕ) : Type 0 where
  pub done : List ℕ
  pub wrote : Wrote done before now
  pub all : done ++ left ≡ whole

pub writing_none : (a : Writer) (whole : List ℕ) → Writing a whole a whole
writing_none a whole = record { done = []; wrote = wrote_none a; all = refl }

module _ (before : Writer) (whole : List ℕ) (now : Writer) where
  pub writing_room : (xs ys : List ℕ) → before.at + length whole ≤ length before.buffer.now → Writing before whole now (xs ++ ys) → now.at + length xs ≤ length now.buffer.now
  writing_room xs ys room w = omega (arith, w.wrote.ends, w.wrote.long, ap length w.all, length-append w.done (xs ++ ys), length-append xs ys, room)

  pub writing_more : (xs ys : List ℕ) (after : Writer) → Writing before whole now (xs ++ ys) → Wrote xs now after → Writing before whole after ys
  writing_more xs ys after w p = record { done = w.done ++ xs; wrote = wrote_then w.done xs before now after w.wrote p; all = append_assoc w.done xs ys ∙ w.all }

  pub writing_all : Writing before whole now [] → Wrote whole before now
  writing_all w = subst (λ l. Wrote l before now) (sym (append-nil w.done) ∙ w.all) w.wrote

-- what is in a buffer that was written from its start on
pub wrote_whole : (bytes old : List ℕ) (a b : Writer) → a.at ≡ 0 → a.buffer.now ≡ old → Wrote bytes a b → b.buffer.now ≡ bytes ++ drop (length bytes) old
wrote_whole bytes old a b start is p = sym (take-append-drop b.at b.buffer.now) ∙ ap (λ h. h.done ++ h.rest) p.put ∙ (λ i. (take (start i) (is i) ++ bytes) ++ drop (length bytes) (drop (start i) (is i)))
