-- The entry that is worked out of a frame holds, and no other entry of that frame does.
use Rattle.std.proofs.Common.{◌≡◌, ℕ, ◌+◌, ◌-◌, ◌<◌, ◌≤◌, Bool, true, false, cond, ◌&&◌, ◌||◌, eqb, ltb, List, [], ◌∷◌, length, get_or, ℤ, pos, refl, ap, ◌∙◌}
use Rattle.std.proofs.ByRecursion.{All-weaker}
use Rattle.std.proofs.lemmas.Bool.{eqb-false, ltb-false}
use Rattle.std.specs.List.{AllByRecursion as All}
use Rattle.items.specs.Values.{has}
use Rattle.tables.specs.declared.op.Op.{Op}
use Rattle.tables.specs.declared.op.Op.TheVariants.{Number, Now, Past, Held, Window, Add, Subtract, Multiply, Less, Equal, Choose}
use Rattle.tables.specs.declared.op.Pace.{Pace}
use Rattle.tables.specs.declared.op.Pace.TheVariants.{Event, Every}
use Rattle.tables.specs.Kinds.{Table}
use Rattle.tables.specs.Rules.{all, output_at}
use Rattle.tables.specs.Sound.{sound}
use Rattle.records.specs.declared.entry.Entry.{Entry}
use Rattle.records.specs.Entries.{Frame, frame_of}
use Rattle.records.specs.Equations.{Holds, looks, result}
use Rattle.records.specs.Lookups.{active_in, history}
use Rattle.records.specs.Reference.{entry, entry_with}
use Rattle.records.specs.Schedule.{awake, is_fed, rounds, stream_active, woken, woken_by}
use Rattle.records.proofs.Levels.{Uses, level, level_few, uses_lower}
use Rattle.records.proofs.Looking.{SameLook, worked_same}
use Rattle.records.proofs.Rounds.{LooksLower, Solves, one_solution, rounds_solve}

-- a stream behind the inputs, looked up in lists that agree where it stands
by_input : {X : Type 0} (k s : ℕ) (a v w : X) → (k ≤ s → v ≡ w) → cond (ltb s k) a v ≡ cond (ltb s k) a w
by_input k s a v w h = by (ltb s k) refl
  where
    by : (b : Bool) → ltb s k ≡ b → cond b a v ≡ cond b a w
    by true e = refl
    by false e = h (ltb-false s k e)

module _ (t : Table) (whole : sound t ≡ true) where
  -- values
  module _ (before : List Entry) (f : Frame) where
    looks_same : (o : ℕ) (vs ws : List ℤ) → ((s : ℕ) → level t s < level t o → get_or vs s (pos 0) ≡ get_or ws s (pos 0))
        → (op : Op) → Uses (λ b. level t b < level t o) (length t.inputs) o op → SameLook (looks t before f vs) (looks t before f ws) op
    looks_same o vs ws agree (Number v) h = tt
    looks_same o vs ws agree (Now s) h = by_input (length t.inputs) s _ _ _ (λ le. agree (s - length t.inputs) (h le))
    looks_same o vs ws agree (Past s b d) h = refl
    looks_same o vs ws agree (Held s d) h = ap (λ v. cond (active_in t f s) v (get_or (history t before s) 0 d)) (by_input (length t.inputs) s _ _ _ (λ le. agree (s - length t.inputs) (h le)))
    looks_same o vs ws agree (Window s a u d) h = refl
    looks_same o vs ws agree Add h = tt
    looks_same o vs ws agree Subtract h = tt
    looks_same o vs ws agree Multiply h = tt
    looks_same o vs ws agree Less h = tt
    looks_same o vs ws agree Equal h = tt
    looks_same o vs ws agree Choose h = tt

    pub result_lower : LooksLower (pos 0) (result t before f) 16 (level t)
    result_lower o lt vs ws agree =
        ap (λ v. cond (has f.active o) v (pos 0))
        (worked_same (looks t before f vs) (looks t before f ws) (output_at t o).ops (All-weaker _ _ (looks_same o vs ws agree) (output_at t o).ops (uses_lower t whole o)))

    pub values_solve : Solves (pos 0) (result t before f) 16 (rounds (result t before f) 16 16)
    values_solve = rounds_solve (pos 0) (result t before f) 16 (level t) result_lower 15 (level_few t)

    pub entry_holds : Holds t before (entry t before f)
    entry_holds = record { size = values_solve.size_is; each = values_solve.each_is; lights = refl }

  pub one_entry : (before : List Entry) (e : Entry) → Holds t before e → e ≡ entry t before (frame_of e)
  one_entry before e h =
      let f = frame_of e in
      let vs : e.values ≡ (entry t before f).values =
      one_solution (pos 0) (result t before f) 16 (level t) (result_lower before f) _ _ (record { size_is = h.size; each_is = h.each }) (values_solve before f) in
      ap (λ l. record { letter = e.letter; time = e.time; mask = e.mask; inputs = e.inputs; active = e.active; values = e.values; lit = l }) h.lights
      ∙ ap (entry_with t f) vs

  -- activity
  module _ (mask : ℕ) where
    fed_same : (o : ℕ) (vs ws : List Bool) → ((s : ℕ) → level t s < level t o → get_or vs s false ≡ get_or ws s false)
        → (op : Op) → Uses (λ b. level t b < level t o) (length t.inputs) o op
        → is_fed (stream_active t mask vs) (length t.inputs + o) op ≡ is_fed (stream_active t mask ws) (length t.inputs + o) op
    fed_same o vs ws agree (Number v) h = refl
    fed_same o vs ws agree (Now s) h = ap (λ b. eqb s (length t.inputs + o) || b) (by_input (length t.inputs) s _ _ _ (λ le. agree (s - length t.inputs) (h le)))
    fed_same o vs ws agree (Past s b d) h = by (eqb s (length t.inputs + o)) refl
      where
        by : (c : Bool) → eqb s (length t.inputs + o) ≡ c → (c || stream_active t mask vs s) ≡ (c || stream_active t mask ws s)
        by true e = refl
        by false e = by_input (length t.inputs) s _ _ _ (λ le. agree (s - length t.inputs) (h le (eqb-false s (length t.inputs + o) e)))
    fed_same o vs ws agree (Held s d) h = refl
    fed_same o vs ws agree (Window s a u d) h = refl
    fed_same o vs ws agree Add h = refl
    fed_same o vs ws agree Subtract h = refl
    fed_same o vs ws agree Multiply h = refl
    fed_same o vs ws agree Less h = refl
    fed_same o vs ws agree Equal h = refl
    fed_same o vs ws agree Choose h = refl

    all_fed_same : (o : ℕ) (vs ws : List Bool) → ((s : ℕ) → level t s < level t o → get_or vs s false ≡ get_or ws s false)
        → (ops : List Op) → All (Uses (λ b. level t b < level t o) (length t.inputs) o) ops
        → all (is_fed (stream_active t mask vs) (length t.inputs + o)) ops ≡ all (is_fed (stream_active t mask ws) (length t.inputs + o)) ops
    all_fed_same o vs ws agree [] h = refl
    all_fed_same o vs ws agree (op ∷ ops) h =
        ap (λ b. b && all (is_fed (stream_active t mask vs) (length t.inputs + o)) ops) (fed_same o vs ws agree op h.0)
        ∙ ap (λ b. is_fed (stream_active t mask ws) (length t.inputs + o) op && b) (all_fed_same o vs ws agree ops h.1)

    pub woken_lower : LooksLower false (woken t mask) (length t.outputs) (level t)
    woken_lower o lt vs ws agree = by (output_at t o).pace
      where
        by : (p : Pace) → woken_by (stream_active t mask vs) (length t.inputs + o) p (output_at t o).ops ≡ woken_by (stream_active t mask ws) (length t.inputs + o) p (output_at t o).ops
        by Event = all_fed_same o vs ws agree (output_at t o).ops (uses_lower t whole o)
        by (Every p) = refl

    pub awake_solves : Solves false (woken t mask) (length t.outputs) (awake t mask)
    awake_solves = rounds_solve false (woken t mask) (length t.outputs) (level t) woken_lower 15 (level_few t)
