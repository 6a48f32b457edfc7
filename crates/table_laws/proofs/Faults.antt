-- The refusals of a content: what they say, and that no other would say the truth.
use Rattle.std.proofs.Common.{◌≡◌, ℕ, zero, suc, ◌≤◌, Bool, true, false, ◌⊎◌, List, [], ◌∷◌, ◌++◌, Ok, Err, Result, sym, refl, ap, ◌∙◌, subst, inl, inr, ⊎_elim, arith}
use Rattle.std.proofs.lemmas.List.{append_assoc, append-nil}
use Rattle.std.proofs.lemmas.Bool.{false≢true}
use Rattle.log_laws.specs.Laws.{Octets}
use Rattle.tables.proofs.Readers.{never}
use Rattle.tables.specs.Kinds.{Said, input, life, output, trigger}
use Rattle.tables.specs.Reading.{closed, content, fits, test}
use Rattle.tables.specs.Tables.{Stood, admits}
use Rattle.table_laws.specs.Contents.{Begun, Follows, Spells, StackKept, Wrong, early, late, off, unfit}
use Rattle.table_laws.specs.Laws.{ContentRefused}
use Rattle.table_laws.proofs.Bytes.{octets_append, octets_front, octets_more}
use Rattle.table_laws.proofs.Contents.{RangedField, content_got, content_stacked, output_parts, stacked, whole_stacked}
use Rattle.table_laws.proofs.Parts.{Done, not_early}
use Rattle.table_laws.proofs.Sentences.{field_from, field_says, stack_from, stack_says}
use Rattle.table_laws.proofs.Viable.{Verdict, content_alive}
use Rattle.table_laws.proofs.Viable as viable

-- CUTS

-- two cuts of the same bytes: at one place, or one before the other
cuts : (xs : List ℕ) (x : ℕ) (more ys : List ℕ) (y : ℕ) (rest : List ℕ) → xs ++ (x ∷ more) ≡ ys ++ (y ∷ rest) → (xs ≡ ys) ⊎ (((z : List ℕ) × (ys ≡ xs ++ (x ∷ z))) ⊎ ((z : List ℕ) × (xs ≡ ys ++ (y ∷ z))))
cuts [] x more [] y rest e = inl refl
cuts [] x more (b ∷ ys) y rest e = let same : b ≡ x = cc in inr (inl (ys, ap (λ c. c ∷ ys) same))
cuts (a ∷ xs) x more [] y rest e = let same : a ≡ y = cc in inr (inr (xs, ap (λ c. c ∷ xs) same))
cuts (a ∷ xs) x more (b ∷ ys) y rest e =
    let same : a ≡ b = cc in
    let tails : xs ++ (x ∷ more) ≡ ys ++ (y ∷ rest) = cc in
    ⊎_elim
    (λ p. inl (λ i. same i ∷ p i))
    (λ h. ⊎_elim (λ p. inr (inl (p.0, (λ i. sym same i ∷ p.1 i)))) (λ p. inr (inr (p.0, (λ i. same i ∷ p.1 i)))) h)
    (cuts xs x more ys y rest tails)

-- SPELT AND DONE

stacked_done : (f : Said) → Done (stacked f)
stacked_done (life n) = tt
stacked_done (input s) = tt
stacked_done (output o) = by (fits 0 o.ops)
  where
    by : (b : Bool) → Done (test b 6 (closed (output o)) [])
    by true = tt
    by false = refl
stacked_done (trigger g) = tt

-- where the stack rule is broken, and where it is kept
stack_broken : (f : Said) → stacked f ≡ Err 6 → StackKept f → ⊥
stack_broken (life n) e k = never (sym e)
stack_broken (input s) e k = never (sym e)
stack_broken (output o) e k = never (sym e ∙ ap (λ b. test b 6 (closed (output o)) []) (stack_from 0 o.ops k))
stack_broken (trigger g) e k = never (sym e)

stack_kept : (f g : Said) → RangedField f → stacked f ≡ Ok g → StackKept f
stack_kept (life n) g r e = tt
stack_kept (input s) g r e = tt
stack_kept (output o) g r e = stack_says 0 o.ops (output_parts o (whole_stacked (output o) g r e).1).1
stack_kept (trigger t) g r e = tt

module _ (tag w : ℕ) (few : w ≤ 8) where
  spells_stacked : (bs : List ℕ) (s : Spells tag w bs) → content tag w bs ≡ stacked s.field
  spells_stacked bs s = (λ i. content (s.tagged i) w (s.is i)) ∙ content_stacked w s.field (field_from s.field s.ranges) s.few

  spells_done : (bs : List ℕ) → Spells tag w bs → Done (content tag w bs)
  spells_done bs s = subst Done (sym (spells_stacked bs s)) (stacked_done s.field)

  done_spells : (bs : List ℕ) → Octets bs → Done (content tag w bs) → Spells tag w bs
  done_spells bs o d =
      let s = content_got tag w bs (content tag w bs) d few o refl in
      record { field = s.field; tagged = s.tagged; is = s.is; ranges = field_says s.field s.ranges; few = s.few }

  -- TRUE

  module _ (bs : List ℕ) (octets : Octets bs) where
    front_octets : (front : List ℕ) (b : ℕ) (rest : List ℕ) → bs ≡ front ++ (b ∷ rest) → Octets front
    front_octets front b rest is = octets_front front (b ∷ rest) (subst Octets is octets)

    wrong_says : (n : ℕ) → content tag w bs ≡ Err n → Verdict (content tag w) bs n → Wrong tag w n bs
    wrong_says n h (viable.unfit is) =
        let s = content_got tag w bs (Err n) is few octets h in
        unfit is (record { field = s.field; tagged = s.tagged; is = s.is; ranges = field_says s.field s.ranges; few = s.few })
        (stack_broken s.field (s.on ∙ ap Err is))
    wrong_says n h (viable.early is more o d) =
        early is (more, done_spells (bs ++ more) (octets_append bs more octets o) d) (λ s. not_early (spells_done bs s) (sym (h ∙ ap Err is)))
    wrong_says n h (viable.late is front b rest whole more o d none) =
        late is front b rest whole (more, done_spells (front ++ more) (octets_append front more (front_octets front b rest whole) o) d) (λ c f. none c f.0 (spells_done (front ++ (c ∷ f.0)) f.1))
    wrong_says n h (viable.off is front b rest whole c small m o d none) =
        off is front b rest whole c (m, done_spells (front ++ (c ∷ m)) (octets_append front (c ∷ m) (front_octets front b rest whole) (octets_more c m small o)) d)
        (λ f. none f.0 (spells_done (front ++ (b ∷ f.0)) f.1))

    pub wrong : (n : ℕ) → 1 ≤ tag → tag ≤ 5 → content tag w bs ≡ Err n → Wrong tag w n bs
    wrong n low high h = wrong_says n h ((content_alive tag w low high).honest bs n octets h)

  -- TOLD

  -- what goes on behind some bytes goes on behind fewer
  follows_less : (front : List ℕ) (b : ℕ) (x more : List ℕ) → Spells tag w ((front ++ (b ∷ x)) ++ more) → Follows tag w front b
  follows_less front b x more s = (x ++ more, subst (Spells tag w) (append_assoc front (b ∷ x) more) s)

  -- no byte may stand behind the first ones, and some other byte may behind those of another cut
  late_off : (front : List ℕ) (b : ℕ) (rest front' : List ℕ) (b' : ℕ) (rest' : List ℕ) → front ++ (b ∷ rest) ≡ front' ++ (b' ∷ rest')
      → Begun tag w front → ((c : ℕ) → Follows tag w front c → ⊥) → (c : ℕ) → Follows tag w front' c → (Follows tag w front' b' → ⊥) → ⊥
  late_off front b rest front' b' rest' same begun none c f other =
      ⊎_elim
      (λ e. none c (subst (λ l. Follows tag w l c) (sym e) f))
      (λ h. ⊎_elim
      (λ p. none b (follows_less front b p.0 (c ∷ f.0) (subst (λ l. Spells tag w (l ++ (c ∷ f.0))) p.1 f.1)))
      (λ p. other (follows_less front' b' p.0 begun.0 (subst (λ l. Spells tag w (l ++ begun.0)) p.1 begun.1)))
      h)
      (cuts front b rest front' b' rest' same)

  module _ (bs : List ℕ) where
    -- nothing is wrong up to the end, so that each byte may stand where it does
    follows_all : (front : List ℕ) (b : ℕ) (rest : List ℕ) → bs ≡ front ++ (b ∷ rest) → Begun tag w bs → Follows tag w front b
    follows_all front b rest is g = follows_less front b rest g.0 (subst (λ l. Spells tag w (l ++ g.0)) is g.1)

    begun_whole : Spells tag w bs → Begun tag w bs
    begun_whole s = ([], subst (Spells tag w) (sym (append-nil bs)) s)

    -- the number is the only one
    wrong_one : (m n : ℕ) → Wrong tag w m bs → Wrong tag w n bs → m ≡ n
    wrong_one m n (early e g not-it) (early f h not-it') = e ∙ sym f
    wrong_one m n (early e g not-it) (late f front b rest is h none) = e ∙ sym f
    wrong_one m n (early e g not-it) (off f front b rest is c h none) = absurd (none (follows_all front b rest is g))
    wrong_one m n (early e g not-it) (unfit f s k) = absurd (not-it s)
    wrong_one m n (late e front b rest is g none) (early f h not-it') = e ∙ sym f
    wrong_one m n (late e front b rest is g none) (late f front' b' rest' is' h none') = e ∙ sym f
    wrong_one m n (late e front b rest is g none) (off f front' b' rest' is' c h none') = absurd (late_off front b rest front' b' rest' (sym is ∙ is') g none c h none')
    wrong_one m n (late e front b rest is g none) (unfit f s k) = absurd (none b (follows_all front b rest is (begun_whole s)))
    wrong_one m n (off e front b rest is c g none) (early f h not-it') = absurd (none (follows_all front b rest is h))
    wrong_one m n (off e front b rest is c g none) (late f front' b' rest' is' h none') = absurd (late_off front' b' rest' front b rest (sym is' ∙ is) h none' c g none)
    wrong_one m n (off e front b rest is c g none) (off f front' b' rest' is' c' h none') = e ∙ sym f
    wrong_one m n (off e front b rest is c g none) (unfit f s k) = absurd (none (follows_all front b rest is (begun_whole s)))
    wrong_one m n (unfit e s k) (early f h not-it') = absurd (not-it' s)
    wrong_one m n (unfit e s k) (late f front b rest is h none) = absurd (none b (follows_all front b rest is (begun_whole s)))
    wrong_one m n (unfit e s k) (off f front b rest is c h none) = absurd (none (follows_all front b rest is (begun_whole s)))
    wrong_one m n (unfit e s k) (unfit f s' k') = e ∙ sym f

    -- nothing is wrong with what is read
    wrong_not : (n : ℕ) (f : Said) → Octets bs → content tag w bs ≡ Ok f → Wrong tag w n bs → ⊥
    wrong_not n f o h (early e g not-it) = not-it (done_spells bs o (subst Done (sym h) tt))
    wrong_not n f o h (late e front b rest is g none) = none b (follows_all front b rest is (begun_whole (done_spells bs o (subst Done (sym h) tt))))
    wrong_not n f o h (off e front b rest is c g none) = none (follows_all front b rest is (begun_whole (done_spells bs o (subst Done (sym h) tt))))
    wrong_not n f o h (unfit e s k) = k (stack_kept s.field f (field_from s.field s.ranges) (sym (spells_stacked bs s) ∙ h))

    pub told : (n : ℕ) → Octets bs → 1 ≤ tag → tag ≤ 5 → Wrong tag w n bs → content tag w bs ≡ Err n
    told n o low high v = by (content tag w bs) refl
      where
        by : (r : Result Said ℕ) → content tag w bs ≡ r → content tag w bs ≡ Err n
        by (Ok f) is = absurd (wrong_not n f o is v)
        by (Err m) is = is ∙ ap Err (wrong_one m n (wrong bs o m low high is) v)

pub content_refused : ContentRefused
content_refused tag w n bs known few o = (wrong tag w few bs o n known.0 known.1, told tag w few bs n o known.0 known.1)

-- only tags from 1 to 5 may stand
pub tag_known : (s : Stood) (tag : ℕ) → admits s tag ≡ true → (1 ≤ tag) × (tag ≤ 5)
tag_known s zero e = absurd (false≢true e)
tag_known s (suc zero) e = (omega arith, omega arith)
tag_known s (suc (suc zero)) e = (omega arith, omega arith)
tag_known s (suc (suc (suc zero))) e = (omega arith, omega arith)
tag_known s (suc (suc (suc (suc zero)))) e = (omega arith, omega arith)
tag_known s (suc (suc (suc (suc (suc zero))))) e = (omega arith, omega arith)
tag_known s (suc (suc (suc (suc (suc (suc n)))))) e = absurd (false≢true e)
