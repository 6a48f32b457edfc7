-- A header over the three bytes at a place.
use Rattle.std.proofs.Common.{◌≡◌, ℕ, ◌+◌, ◌≤◌, List, ◌++◌, length, take, drop, sym, ap, ◌∙◌, arith, length-take-le}
use Rattle.std.proofs.lemmas.List.{append_assoc, drop-append-le, drop_at, length-append, length-drop, take-append-drop, take-append-le, take_at}
use Rattle.table_writing.specs.Writing.{halves}

-- it stands before the place where what is written ends, and the rest is as before
module _ (buffer header : List ℕ) (start at : ℕ) (long : length header ≡ 3) (before : start + 3 ≤ at) (within : at ≤ length buffer) where
  abbrev done : List ℕ
  done = take at buffer

  abbrev with_header : List ℕ
  with_header = take start done ++ (header ++ drop (start + 3) done)

  size : length done ≡ at
  size = length-take-le at buffer within

  pub header_long : length with_header ≡ at
  header_long = omega (arith, size, long, length-append (take start done) (header ++ drop (start + 3) done), length-append header (drop (start + 3) done), length-take-le start done (omega (arith, size)), length-drop (start + 3) done)

  pub header_whole : take start buffer ++ (header ++ drop (start + 3) buffer) ≡ with_header ++ drop at buffer
  header_whole =
      let split = sym (take-append-drop at buffer) in
      let front = ap (take start) split ∙ take-append-le start done (drop at buffer) (omega (arith, size)) in
      let back = ap (drop (start + 3)) split ∙ drop-append-le (start + 3) done (drop at buffer) (omega (arith, size)) in
      (λ i. front i ++ (header ++ back i))
      ∙ ap (λ l. take start done ++ l) (sym (append_assoc header (drop (start + 3) done) (drop at buffer)))
      ∙ sym (append_assoc (take start done) (header ++ drop (start + 3) done) (drop at buffer))

  pub header_halves : halves at (take start buffer ++ (header ++ drop (start + 3) buffer)) ≡ record { done = with_header; rest = drop at buffer }
  header_halves = ap (halves at) header_whole ∙ (λ i. record { done = take_at with_header (drop at buffer) at header_long i; rest = drop_at with_header (drop at buffer) at header_long i })

  pub header_same : length (take start buffer ++ (header ++ drop (start + 3) buffer)) ≡ length buffer
  header_same = ap length header_whole ∙ omega (arith, header_long, length-append with_header (drop at buffer), length-drop at buffer, within)
