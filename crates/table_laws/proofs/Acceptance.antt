-- Accepted exactly where lawful; layers of sound tables.
use Rattle.std.proofs.Common.{◌≡◌, ℕ, ◌+◌, ◌<◌, true, ◌&&◌, length, Ok, sym, ap, ◌∙◌}
use Rattle.std.proofs.lemmas.Bool.{and_from, and_parts}
use Rattle.tables.specs.Kinds.{Table}
use Rattle.tables.specs.Rules.{all, no_circle, output_at, trigger_keeps}
use Rattle.tables.specs.Sound.{is_whole, keeps_rules, outputs_keep, sound}
use Rattle.tables.specs.Tables.{read}
use Rattle.table_laws.specs.Lawful.{OutputKeeps, Sound, TriggerKeeps}
use Rattle.table_laws.specs.Laws.{Accepted, CircleLaw, LayersLaw, ReadsBack, SoundLaw, WritesBack, WrittenOnce}
use Rattle.table_laws.proofs.Asking.{reads_from}
use Rattle.table_laws.proofs.Chains.{circle_free, layer_low, layer_over, layer_some, no_circle_from}
use Rattle.table_laws.proofs.Keeping.{outputs_from, outputs_says, trigger_decides}
use Rattle.table_laws.proofs.Orders.{whole_from, whole_parts}
use Rattle.table_laws.proofs.Readings.{sound_parts}
use Rattle.table_laws.proofs.SameReading.{read_sound, sound_read}
use Rattle.table_laws.proofs.Sentences.{all_decides, table_from, table_says}

-- the outputs keep the rules
pub rules_say : (t : Table) → keeps_rules t ≡ true → (a : ℕ) → a < length t.outputs → OutputKeeps t (length t.inputs + a) (output_at t a)
rules_say t e = outputs_says t (length t.inputs) t.outputs (and_parts (outputs_keep t (length t.inputs) t.outputs) (all (trigger_keeps t) t.triggers) e).0

pub sound_says : (t : Table) → sound t ≡ true → Sound t
sound_says t e =
    let s = sound_parts t e in
    let r = and_parts (outputs_keep t (length t.inputs) t.outputs) (all (trigger_keeps t) t.triggers) s.rules in
    record {
      parts = table_says t s.parts;
      outputs = rules_say t s.rules;
      triggers = (all_decides (trigger_keeps t) (TriggerKeeps t) (trigger_decides t) t.triggers).0 r.1;
      no_circle = circle_free t s.free;
    }

pub sound_from : (t : Table) → Sound t → sound t ≡ true
sound_from t s =
    let w = table_from t s.parts in
    and_from (is_whole t) (keeps_rules t && no_circle t) (whole_from t w)
    (and_from (keeps_rules t) (no_circle t)
    (and_from (outputs_keep t (length t.inputs) t.outputs) (all (trigger_keeps t) t.triggers)
    (outputs_from t (length t.inputs) t.outputs s.parts.each_output s.outputs)
    ((all_decides (trigger_keeps t) (TriggerKeeps t) (trigger_decides t) t.triggers).1 s.triggers))
    (no_circle_from t s.outputs w.outputs.1 s.no_circle))

pub sound_law : SoundLaw
sound_law t = (sound_from t, sound_says t)

pub accepted : Accepted
accepted bytes o =
    (λ p. (let r = read_sound bytes p.0 o p.1 in (p.0, r.0, sound_says p.0 r.1)), λ p. (p.0, ap read p.1 ∙ sound_read p.0 (sound_from p.0 p.2)))

pub writes_back : WritesBack
writes_back bytes t o e = sym (read_sound bytes t o e).0

pub reads_back : ReadsBack
reads_back t s = sound_read t (sound_from t s)

pub written_once : WrittenOnce
written_once t u s r e = let same : Ok t ≡ Ok u = sym (reads_back t s) ∙ ap read e ∙ reads_back u r in cc

pub layers_law : LayersLaw
layers_law t s a lt =
    let n = layer_low t s.outputs s.parts.outputs.1 s.no_circle a lt in
    record { number = n.0; is = n.1; least = layer_some t a n.0 n.1; most = n.2; above = λ b r. layer_over t a n.0 b n.1 (reads_from t a b r) }

pub circle_law : CircleLaw
circle_law t parts rules = (circle_free t, no_circle_from t (rules_say t rules) (whole_parts t parts).outputs.1)
