-- The contents of fields, read from bytes left to right. A reader hands what it read, and the bytes after it, to the next one, so that the leftmost byte at which something is wrong decides; 3 is a field that ends too early or too late, 4 a number or a byte out of range.
use Rattle.std.specs.Prelude.{ℕ, zero, suc, ◌+◌, ◌-◌, ◌*◌, Bool, true, false, cond, ◌&&◌, List, [], ◌∷◌, ℤ, Some, None, Ok, Err, Option, Result, ◌==◌, nat_le, nat_lt}
use Rattle.std.specs.Int.{w32}
use Rattle.std.proofs.Common.{to_z}
use Rattle.aggregates.specs.declared.kind.Kind.{Kind}
use Rattle.aggregates.specs.declared.kind.Kind.TheVariants as kind
use Rattle.aggregates.specs.Kinds as kinds
use Rattle.tables.specs.declared.op.Op.{Op}
use Rattle.tables.specs.declared.op.Op.TheVariants.{Number, Now, Past, Held, Window, Add, Subtract, Multiply, Less, Equal, Choose}
use Rattle.tables.specs.declared.op.Pace.{Pace}
use Rattle.tables.specs.declared.op.Pace.TheVariants.{Event, Every}
use Rattle.tables.specs.Kinds.{Said, input, life, output, trigger}

-- goes on where the test passes, and else refuses with a number
abbrev pub test : {X : Type 0} → Bool → ℕ → (List ℕ → Result X ℕ) → List ℕ → Result X ℕ
test true e k bs = k bs
test false e k bs = Err e

-- a byte has to stand there
abbrev pub byte : {X : Type 0} → (ℕ → List ℕ → Result X ℕ) → List ℕ → Result X ℕ
byte k [] = Err 3
byte k (b ∷ bs) = k b bs

-- the number that four bytes write, low byte first
abbrev pub word_of : ℕ → ℕ → ℕ → ℕ → ℕ
word_of a b c d = a + 256 * b + 65536 * c + 16777216 * d

-- four bytes, low byte first
abbrev pub word : {X : Type 0} → (ℕ → List ℕ → Result X ℕ) → List ℕ → Result X ℕ
word k bs = byte (λ a. byte (λ b. byte (λ c. byte (λ d. k (word_of a b c d))))) bs

-- four bytes in two's complement
abbrev pub signed : {X : Type 0} → (ℤ → List ℕ → Result X ℕ) → List ℕ → Result X ℕ
signed k bs = word (λ n. k (to_z w32 n)) bs

-- from low to high
abbrev pub within : ℕ → ℕ → ℕ → Bool
within low high n = nat_le low n && nat_le n high

-- a byte from low to high
abbrev pub ranged : {X : Type 0} → ℕ → ℕ → (ℕ → List ℕ → Result X ℕ) → List ℕ → Result X ℕ
ranged low high k bs = byte (λ b. test (within low high b) 4 (k b)) bs

-- a text of as many bytes
abbrev pub text : {X : Type 0} → ℕ → ℕ → (List ℕ → List ℕ → Result X ℕ) → List ℕ → Result X ℕ
text low zero k bs = k [] bs
text low (suc n) k bs = ranged low 126 (λ b. text low n (λ s. k (b ∷ s))) bs

-- a text to the field's end, of at most as many bytes
abbrev pub till : {X : Type 0} → ℕ → ℕ → (List ℕ → Result X ℕ) → List ℕ → Result X ℕ
till low n k [] = k []
till low zero k (b ∷ bs) = Err 3
till low (suc n) k (b ∷ bs) = test (within low 126 b) 4 (till low n (λ s. k (b ∷ s))) bs

-- something has to stand there
abbrev pub some : {X : Type 0} → (List ℕ → Result X ℕ) → List ℕ → Result X ℕ
some k [] = Err 3
some k (b ∷ bs) = k (b ∷ bs)

-- nothing may stand there
abbrev pub closed : {X : Type 0} → X → List ℕ → Result X ℕ
closed x [] = Ok x
closed x (b ∷ bs) = Err 3

-- the first of some aggregates that has the number
abbrev pub found : ℕ → List Kind → Option Kind
found n [] = None
found n (k ∷ ks) = cond (kinds.number k == n) (Some k) (found n ks)

-- the aggregate that has the number, 1 to 5
abbrev pub kind_of : ℕ → Option Kind
kind_of n = found n (kind.Count ∷ kind.Sum ∷ kind.Smallest ∷ kind.Largest ∷ kind.Average ∷ [])

-- goes on with an aggregate, and refuses where there is none
abbrev pub given : {X : Type 0} → Option Kind → (Kind → List ℕ → Result X ℕ) → List ℕ → Result X ℕ
given None k bs = Err 4
given (Some a) k bs = k a bs

-- the number of an aggregate
abbrev pub aggregate : {X : Type 0} → (Kind → List ℕ → Result X ℕ) → List ℕ → Result X ℕ
aggregate k bs = byte (λ a. given (kind_of a) k) bs

-- the operands after an operation's code, with w windows before it: a code is 1 to 11, and the ninth window is out of range
abbrev pub operands : {X : Type 0} → ℕ → ℕ → (Op → List ℕ → Result X ℕ) → List ℕ → Result X ℕ
operands w zero k bs = Err 4
operands w (suc zero) k bs = signed (λ v. k (Number v)) bs
operands w (suc (suc zero)) k bs = byte (λ s. k (Now s)) bs
operands w (suc (suc (suc zero))) k bs = byte (λ s. ranged 1 8 (λ b. signed (λ d. k (Past s b d)))) bs
operands w (suc (suc (suc (suc zero)))) k bs = byte (λ s. signed (λ d. k (Held s d))) bs
operands w (suc (suc (suc (suc (suc zero))))) k bs = test (nat_lt w 8) 4 (byte (λ s. aggregate (λ a. word (λ u. signed (λ d. k (Window s a u d)))))) bs
operands w (suc (suc (suc (suc (suc (suc zero)))))) k bs = k Add bs
operands w (suc (suc (suc (suc (suc (suc (suc zero))))))) k bs = k Subtract bs
operands w (suc (suc (suc (suc (suc (suc (suc (suc zero)))))))) k bs = k Multiply bs
operands w (suc (suc (suc (suc (suc (suc (suc (suc (suc zero))))))))) k bs = k Less bs
operands w (suc (suc (suc (suc (suc (suc (suc (suc (suc (suc zero)))))))))) k bs = k Equal bs
operands w (suc (suc (suc (suc (suc (suc (suc (suc (suc (suc (suc zero))))))))))) k bs = k Choose bs
operands w (suc (suc (suc (suc (suc (suc (suc (suc (suc (suc (suc (suc n)))))))))))) k bs = Err 4

-- how many windows an operation is
abbrev pub windows_in : Op → ℕ
windows_in (Number v) = 0
windows_in (Now s) = 0
windows_in (Past s b d) = 0
windows_in (Held s d) = 0
windows_in (Window s a u d) = 1
windows_in Add = 0
windows_in Subtract = 0
windows_in Multiply = 0
windows_in Less = 0
windows_in Equal = 0
windows_in Choose = 0

-- at most n operations, to the field's end, with w windows before them
abbrev pub ops : {X : Type 0} → ℕ → ℕ → (List Op → Result X ℕ) → List ℕ → Result X ℕ
ops n w k [] = k []
ops zero w k (b ∷ bs) = Err 3
ops (suc n) w k (b ∷ bs) = operands w b (λ o. ops n (w + windows_in o) (λ os. k (o ∷ os))) bs

-- how many values an operation takes from the stack; each leaves one
abbrev pub takes : Op → ℕ
takes (Number v) = 0
takes (Now s) = 0
takes (Past s b d) = 0
takes (Held s d) = 0
takes (Window s a u d) = 0
takes Add = 2
takes Subtract = 2
takes Multiply = 2
takes Less = 2
takes Equal = 2
takes Choose = 3

-- the stack never lacks a value, never holds more than eight, and ends with one
abbrev pub fits : ℕ → List Op → Bool
fits h [] = h == 1
fits h (o ∷ os) = nat_le (takes o) h && (nat_lt (h - takes o) 8 && fits (h - takes o + 1) os)

-- an output's operations, after its period and its name; 6 where they break the stack rule
abbrev pub with_ops : Pace → ℕ → List ℕ → List ℕ → Result Said ℕ
with_ops p w s = some (ops 16 w (λ os. test (fits 0 os) 6 (closed (output (record { pace = p; name = s; ops = os }))) []))

-- an output after its period: the length of its name, the name, and the operations
abbrev pub outputs : Pace → ℕ → List ℕ → Result Said ℕ
outputs p w = ranged 1 16 (λ n. text 33 n (with_ops p w))

-- a field's content, by its tag, with w windows before it
abbrev pub content : ℕ → ℕ → List ℕ → Result Said ℕ
content zero w = λ bs. Err 2
content (suc zero) w = word (λ n. test (within 1 2000000000 n) 4 (closed (life n)))
content (suc (suc zero)) w = some (till 33 16 (λ s. Ok (input s)))
content (suc (suc (suc zero))) w = outputs Event w
content (suc (suc (suc (suc zero)))) w = word (λ p. test (within 1 86400000 p) 4 (outputs (Every p) w))
content (suc (suc (suc (suc (suc zero))))) w = byte (λ s. some (till 32 32 (λ m. Ok (trigger (record { stream = s; message = m })))))
content (suc (suc (suc (suc (suc (suc n)))))) w = λ bs. Err 2
