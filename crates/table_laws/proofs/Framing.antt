-- A frame at the start of some bytes.
use Rattle.std.proofs.Common.{◌≡◌, ℕ, ◌+◌, ◌^◌, ◌<◌, ◌≤◌, cond, ltb, List, ◌++◌, length, get_or, take, drop, Some, None, Option, inl, inr, arith}
use Rattle.std.proofs.lemmas.List.{length-drop, length-take-le}
use Rattle.std.proofs.lemmas.Bool.{cond_both, ltb-false, ltb-true}
use Rattle.frames.specs.Frames.{Framed, announced, first}
use Rattle.log_laws.specs.Breaks.{EndsEarly}
use Rattle.log_laws.specs.Laws.{Octets}
use Rattle.log_laws.specs.Written.{field}
use Rattle.log_laws.proofs.Fields.{field_first}
use Rattle.log_laws.proofs.Numbers.{octets_drop, octets_take}

-- what is known of the frame at the start: the bytes end before it does, or begin with a whole field
pub first_cases : (bytes : List ℕ) (P : Option Framed → Type 0) → Octets bytes → (EndsEarly bytes → P None)
    → ((tag : ℕ) (content : List ℕ) → bytes ≡ field tag content ++ drop (3 + announced bytes) bytes → length content < 2 ^ 16 → Octets content → P (Some (record { tag = tag; content = content })))
    → P (first bytes)
first_cases bytes P octets early whole =
    cond_both (ltb (length bytes) 3) None (cond (ltb (length bytes) (3 + n)) None (Some f)) P
    (λ e. early (inl (ltb-true (length bytes) 3 e)))
    (λ e. cond_both (ltb (length bytes) (3 + n)) None (Some f) P
    (λ g. early (inr (omega (arith, ltb-true (length bytes) (3 + n) g))))
    (λ g.
    let body : 3 + n ≤ length bytes = ltb-false (length bytes) (3 + n) g in
    let long : length f.content ≡ n = length-take-le n (drop 3 bytes) (rw (length-drop 3 bytes) (omega arith)) in
    let small : n < 2 ^ 16 = omega (arith, octets 1, octets 2) in
    whole f.tag f.content (field_first bytes octets (ltb-false (length bytes) 3 e) body) (omega arith) (octets_take n (drop 3 bytes) (octets_drop 3 bytes octets))))
  where
    n : ℕ
    n = announced bytes

    f : Framed
    f = record { tag = get_or bytes 0 0; content = take n (drop 3 bytes) }
