-- A document in which nothing is refused means a model that is in range and whose names are of the name grammar.
use Rattle.std.proofs.Common.{◌≡◌, Bool, true, false, cond, leb, List, [], ◌∷◌, ◌++◌, map, All, Option, Some, None, Ok, refl, sym, subst, inl, inr, ◌⊎◌}
use Rattle.std.specs.Prelude.{ℕ, is_some, unwrap_or, codes, ◌≤◌}
use Rattle.std.specs.Str.{bytes_eq}
use Rattle.toml.specs.Data.{Data, string, integer, float, boolean, datetime, array, table, Members}
use Rattle.cl_model.specs.declared.limits.TheConstants.{LEAST_JOBS_OF_BURST, MOST_JOBS_OF_BURST, MOST_TICKS, MOST_REQUIRED, MOST_PRIORITY, MOST_CORES, MOST_STIMULI, MOST_LABELS, MOST_TASKS, MOST_RUNNABLES, MOST_ACCESSES, MOST_CHAINS, MOST_STEPS, MOST_HOPS, MOST_REQUIREMENTS}
use Rattle.cl_model.specs.declared.{chain.{ChainDef.ChainDef, RequirementDef.RequirementDef}, model.SystemModel.SystemModel, place.Place.Place, refusal.{Code.TheVariants.{M2, M3, M4, M5}, Refusal.Refusal}, stimulus.StimulusDef.StimulusDef, task.{RunnableDef.RunnableDef, TaskDef.TaskDef}}
use Rattle.cl_model.specs.{AreNamed.{IsRunnableNamed, IsTaskNamed, IsChainNamed, IsRequirementNamed, AreNamed}, Name.IsName, Place.{section_place, top, at_item, at_sub, at_key, at_spot}, Ranges.{IsKindInRange, IsRunnableInRange, IsTaskInRange, IsChainInRange, IsCountInRange, IsInRange}}
use Rattle.cl_model.specs.Reading.{sections, section_checks, top_keys, is_format, is_version, version_in, document_of, model_checks, model_meaning, model_in, model_of, Checks.{a_name, an_array, a_word, a_table, found_or, meaning_of, value_at, fields_checks, field_checks, a_table_of}}
use Rattle.cl_model.specs.Reading.{Checks.{keys_of, has_only}, Meanings.{text_in, list_of, table_of, word_if}, Tables.{core_fields, core_meaning, label_fields, label_meaning, StimulusForm, stimulus_forms, periodic_form, sporadic_form, burst_form, stimulus_fields, form_checks}}
use Rattle.cl_model.specs.{Reading.Tables.{stimulus_entry_checks, stimulus_meaning, runnable_fields, runnable_meaning, task_fields, task_meaning, chain_fields, chain_meaning, requirement_fields, requirement_meaning}, Refusals.{unless, answer}}
use Rattle.cl_model.specs.declared.place.Key.TheVariants as key
use Rattle.cl_model.specs.declared.place.Part.TheVariants as part
use Rattle.cl_model.proofs.{NoRefusals.{AllNone, all_none}, ReadValues.{number_at_between, number_or_zero_between, number_if_between, name_at, names_at, short, all_good, table_good, fields_none}, Refused.{none_behind, unless_none}}

-- ---- stimuli

abbrev IsForm : Option StimulusForm → Type 0
IsForm o = (o ≡ Some periodic_form) ⊎ ((o ≡ Some sporadic_form) ⊎ (o ≡ Some burst_form))

-- what a word of the later kinds stands for
later : (has is : Bool) → Option StimulusForm
later has is = cond has (cond is (Some burst_form) None) None

later_is : (has : Bool) (word : List ℕ) → meaning_of (cond has ((codes "burst", burst_form) ∷ []) []) word ≡ later has (bytes_eq (codes "burst") word)
unfolding later
later_is true word = refl
later_is false word = refl

chosen : (a b has is : Bool) → is_some (cond a (Some periodic_form) (cond b (Some sporadic_form) (later has is))) ≡ true → IsForm (cond a (Some periodic_form) (cond b (Some sporadic_form) (later has is)))
unfolding later
chosen true b has is h = inl refl
chosen false true has is h = inr (inl refl)
chosen false false true true h = inr (inr refl)
chosen false false true false h = absurd cc
chosen false false false is h = absurd cc

word_known : (version : ℕ) (word : List ℕ) → is_some (meaning_of (stimulus_forms version) word) ≡ true → IsForm (meaning_of (stimulus_forms version) word)
word_known version word =
    rw (later_is (leb 2 version) word) (chosen (bytes_eq (codes "periodic") word) (bytes_eq (codes "sporadic") word) (leb 2 version) (bytes_eq (codes "burst") word))

-- a kind that isn't refused is one of the three
kind_known : (version : ℕ) (place : Place) (d : Data) → a_word (stimulus_forms version) place d ≡ [] → IsForm (meaning_of (stimulus_forms version) (text_in d))
kind_known version place (string word) h = word_known version word (unless_none _ _ place h)
kind_known version place (integer z) h = absurd cc
kind_known version place (float x) h = absurd cc
kind_known version place (boolean b) h = absurd cc
kind_known version place (datetime x) h = absurd cc
kind_known version place (array ds) h = absurd cc
kind_known version place (table ms) h = absurd cc

kind_at_known : (version : ℕ) (place : Place) (o : Option Data) → found_or (unless false M5 place) (a_word (stimulus_forms version) place) o ≡ []
    → IsForm (found_or None (λ d. meaning_of (stimulus_forms version) (text_in d)) o)
kind_at_known version place None h = absurd cc
kind_at_known version place (Some d) h = kind_known version place d h

abbrev FormInRange : Place → Members → Option StimulusForm → Type 0
FormInRange place ms o = form_checks place ms o ≡ [] → IsKindInRange ((unwrap_or o periodic_form).meaning ms)

form_none : (place : Place) (ms : Members) (form : StimulusForm) → form_checks place ms (Some form) ≡ [] → AllNone (map (field_checks place ms) form.fields)
form_none place ms form h =
    all_none (map (field_checks place ms) form.fields) (none_behind (unless (has_only (key.Name ∷ key.Kind ∷ keys_of form.fields) ms) M4 place) _ h)

periodic_in_range : (place : Place) (ms : Members) → FormInRange place ms (Some periodic_form)
periodic_in_range place ms h =
    let none = form_none place ms periodic_form h in (
      number_at_between 1 MOST_TICKS (at_key key.Period place) (value_at key.Period ms) none.0,
      number_or_zero_between MOST_TICKS (at_key key.Offset place) (value_at key.Offset ms) none.1.0,
      number_or_zero_between MOST_TICKS (at_key key.Jitter place) (value_at key.Jitter ms) none.1.1.0,
    )

sporadic_in_range : (place : Place) (ms : Members) → FormInRange place ms (Some sporadic_form)
sporadic_in_range place ms h =
    let none = form_none place ms sporadic_form h in (
      number_at_between 1 MOST_TICKS (at_key key.Least place) (value_at key.Least ms) none.0,
      number_at_between 1 MOST_TICKS (at_key key.Greatest place) (value_at key.Greatest ms) none.1.0,
    )

burst_in_range : (place : Place) (ms : Members) → FormInRange place ms (Some burst_form)
burst_in_range place ms h =
    let none = form_none place ms burst_form h in (
      number_at_between 1 MOST_TICKS (at_key key.Period place) (value_at key.Period ms) none.0,
      number_or_zero_between MOST_TICKS (at_key key.Offset place) (value_at key.Offset ms) none.1.0,
      number_at_between LEAST_JOBS_OF_BURST MOST_JOBS_OF_BURST (at_key key.Count place) (value_at key.Count ms) none.1.1.0,
      number_at_between 1 MOST_TICKS (at_key key.Distance place) (value_at key.Distance ms) none.1.1.1.0,
    )

form_in_range : (place : Place) (ms : Members) (o : Option StimulusForm) → IsForm o → FormInRange place ms o
form_in_range place ms o (inl e) = subst (FormInRange place ms) (sym e) (periodic_in_range place ms)
form_in_range place ms o (inr (inl e)) = subst (FormInRange place ms) (sym e) (sporadic_in_range place ms)
form_in_range place ms o (inr (inr e)) = subst (FormInRange place ms) (sym e) (burst_in_range place ms)

-- what holds of a stimulus that is read
record IsStimulusRead (s : StimulusDef) : Type 0 where
  named : IsName s.name
  in_range : IsKindInRange s.kind

stimulus_read : (version : ℕ) (place : Place) (ms : Members) → stimulus_entry_checks version place ms ≡ [] → IsStimulusRead (stimulus_meaning version ms)
unfolding stimulus_entry_checks stimulus_meaning
stimulus_read version place ms h =
    let form = word_if (stimulus_forms version) key.Kind ms in
    let none = all_none (map (field_checks place ms) (stimulus_fields version) ++ form_checks place ms form ∷ []) h in
    record {
      named = name_at (at_key key.Name place) (value_at key.Name ms) none.0;
      in_range = form_in_range place ms form (kind_at_known version (at_key key.Kind place) (value_at key.Kind ms) none.1.0) none.1.1.0;
    }

-- ---- the other tables

core_read : (place : Place) (ms : Members) → fields_checks core_fields place ms ≡ [] → IsName (core_meaning ms).name
core_read place ms h = name_at (at_key key.Name place) (value_at key.Name ms) (fields_none core_fields place ms h).0

label_read : (place : Place) (ms : Members) → fields_checks label_fields place ms ≡ [] → IsName (label_meaning ms).name
label_read place ms h = name_at (at_key key.Name place) (value_at key.Name ms) (fields_none label_fields place ms h).0

record IsRunnableRead (r : RunnableDef) : Type 0 where
  in_range : IsRunnableInRange r
  named : IsRunnableNamed r

runnable_read : (place : Place) (ms : Members) → fields_checks runnable_fields place ms ≡ [] → IsRunnableRead (runnable_meaning ms)
unfolding runnable_meaning
runnable_read place ms h =
    let none = fields_none runnable_fields place ms h in
    record {
      in_range = record {
        least = number_at_between 1 MOST_TICKS (at_key key.Least place) (value_at key.Least ms) none.1.0;
        greatest = number_at_between 1 MOST_TICKS (at_key key.Greatest place) (value_at key.Greatest ms) none.1.1.0;
        reads = short MOST_ACCESSES at_spot a_name text_in (at_key key.Reads place) (value_at key.Reads ms) none.1.1.1.1.0;
        writes = short MOST_ACCESSES at_spot a_name text_in (at_key key.Writes place) (value_at key.Writes ms) none.1.1.1.1.1.0;
      };
      named = record {
        name = name_at (at_key key.Name place) (value_at key.Name ms) none.0;
        reads = names_at MOST_ACCESSES at_spot (at_key key.Reads place) (value_at key.Reads ms) none.1.1.1.1.0;
        writes = names_at MOST_ACCESSES at_spot (at_key key.Writes place) (value_at key.Writes ms) none.1.1.1.1.1.0;
      };
    }

record IsTaskRead (t : TaskDef) : Type 0 where
  in_range : IsTaskInRange t
  named : IsTaskNamed t

task_read : (place : Place) (ms : Members) → fields_checks task_fields place ms ≡ [] → IsTaskRead (task_meaning ms)
unfolding task_meaning
task_read place ms h =
    let none = fields_none task_fields place ms h in
    let of_runnables = none.1.1.1.1.1.1.0 in
    let runnables = all_good IsRunnableRead (a_table_of runnable_fields) (λ d. runnable_meaning (table_of d))
    (λ p d none. runnable_read p (table_of d) (table_good (fields_checks runnable_fields) p d none))
    MOST_RUNNABLES at_sub (at_key key.Runnable place) (value_at key.Runnable ms) of_runnables in
    record {
      in_range = record {
        priority = (number_at_between 0 MOST_PRIORITY (at_key key.Priority place) (value_at key.Priority ms) none.1.1.1.0).1;
        deadline = number_if_between 1 MOST_TICKS (at_key key.Deadline place) (value_at key.Deadline ms) none.1.1.1.1.1.0;
        count = short MOST_RUNNABLES at_sub (a_table_of runnable_fields) (λ d. runnable_meaning (table_of d)) (at_key key.Runnable place) (value_at key.Runnable ms) of_runnables;
        runnables = λ k d lt. (runnables k d lt).in_range;
      };
      named = record {
        name = name_at (at_key key.Name place) (value_at key.Name ms) none.0;
        core = name_at (at_key key.Core place) (value_at key.Core ms) none.1.0;
        stimulus = name_at (at_key key.Stimulus place) (value_at key.Stimulus ms) none.1.1.0;
        runnables = λ k d lt. (runnables k d lt).named;
      };
    }

record IsChainRead (c : ChainDef) : Type 0 where
  in_range : IsChainInRange c
  named : IsChainNamed c

chain_read : (place : Place) (ms : Members) → fields_checks chain_fields place ms ≡ [] → IsChainRead (chain_meaning ms)
unfolding chain_meaning
chain_read place ms h =
    let none = fields_none chain_fields place ms h in
    record {
      in_range = record {
        runnables = short MOST_STEPS at_spot a_name text_in (at_key key.Runnables place) (value_at key.Runnables ms) none.1.0;
        labels = short MOST_HOPS at_spot a_name text_in (at_key key.Labels place) (value_at key.Labels ms) none.1.1.0;
      };
      named = record {
        name = name_at (at_key key.Name place) (value_at key.Name ms) none.0;
        runnables = names_at MOST_STEPS at_spot (at_key key.Runnables place) (value_at key.Runnables ms) none.1.0;
        labels = names_at MOST_HOPS at_spot (at_key key.Labels place) (value_at key.Labels ms) none.1.1.0;
      };
    }

record IsRequirementRead (r : RequirementDef) : Type 0 where
  most : r.most ≤ MOST_REQUIRED
  named : IsRequirementNamed r

requirement_read : (version : ℕ) (place : Place) (ms : Members) → fields_checks (requirement_fields version) place ms ≡ [] → IsRequirementRead (requirement_meaning version ms)
unfolding requirement_meaning
requirement_read version place ms h =
    let none = fields_none (requirement_fields version) place ms h in
    record {
      most = (number_at_between 0 MOST_REQUIRED (at_key key.Most place) (value_at key.Most ms) none.1.1.1.0).1;
      named = record {
        name = name_at (at_key key.Name place) (value_at key.Name ms) none.0;
        chain = name_at (at_key key.Chain place) (value_at key.Chain ms) none.1.0;
      };
    }

-- ---- the whole document

counts_in_range : (ms : Members) → AllNone (map (section_checks (version_in ms) ms) sections) → IsCountInRange (model_meaning ms)
unfolding model_meaning
counts_in_range ms none = record {
  cores = short MOST_CORES at_item (a_table_of core_fields) (λ d. core_meaning (table_of d)) (section_place part.Core) (value_at key.Core ms) none.0;
  stimuli = short MOST_STIMULI at_item (a_table (stimulus_entry_checks (version_in ms))) (λ d. stimulus_meaning (version_in ms) (table_of d)) (section_place part.Stimulus) (value_at key.Stimulus ms) none.1.0;
  labels = short MOST_LABELS at_item (a_table_of label_fields) (λ d. label_meaning (table_of d)) (section_place part.Label) (value_at key.Label ms) none.1.1.0;
  tasks = short MOST_TASKS at_item (a_table_of task_fields) (λ d. task_meaning (table_of d)) (section_place part.Task) (value_at key.Task ms) none.1.1.1.0;
  chains = short MOST_CHAINS at_item (a_table_of chain_fields) (λ d. chain_meaning (table_of d)) (section_place part.Chain) (value_at key.Chain ms) none.1.1.1.1.0;
  requirements = short MOST_REQUIREMENTS at_item (a_table_of (requirement_fields (version_in ms))) (λ d. requirement_meaning (version_in ms) (table_of d)) (section_place part.Requirement) (value_at key.Requirement ms) none.1.1.1.1.1.0;
}

-- what holds of each entry of each section
record AreRead (model : SystemModel) : Type 0 where
  cores : All (λ core. IsName core.name) model.cores
  stimuli : All IsStimulusRead model.stimuli
  labels : All (λ label. IsName label.name) model.labels
  tasks : All IsTaskRead model.tasks
  chains : All IsChainRead model.chains
  requirements : All IsRequirementRead model.requirements

-- each entry of a section is good where its table is
entries_good : {X : Type 0} (P : X → Type 0) (asked : Place → Members → List Refusal) (meaning : Members → X) → ((place : Place) (ms : Members) → asked place ms ≡ [] → P (meaning ms))
    → (limit : ℕ) (place : Place) (o : Option Data) → found_or [] (an_array limit at_item (a_table asked) place) o ≡ [] → All P (found_or [] (λ d. map (λ entry. meaning (table_of entry)) (list_of d)) o)
entries_good P asked meaning good limit place o h =
    all_good P (a_table asked) (λ d. meaning (table_of d)) (λ p d none. good p (table_of d) (table_good asked p d none)) limit at_item place o h

sections_read : (ms : Members) → AllNone (map (section_checks (version_in ms) ms) sections) → AreRead (model_meaning ms)
unfolding model_meaning
sections_read ms none = record {
  cores = entries_good (λ core. IsName core.name) (fields_checks core_fields) core_meaning core_read MOST_CORES (section_place part.Core) (value_at key.Core ms) none.0;
  stimuli = entries_good IsStimulusRead (stimulus_entry_checks (version_in ms)) (stimulus_meaning (version_in ms)) (stimulus_read (version_in ms)) MOST_STIMULI (section_place part.Stimulus) (value_at key.Stimulus ms) none.1.0;
  labels = entries_good (λ label. IsName label.name) (fields_checks label_fields) label_meaning label_read MOST_LABELS (section_place part.Label) (value_at key.Label ms) none.1.1.0;
  tasks = entries_good IsTaskRead (fields_checks task_fields) task_meaning task_read MOST_TASKS (section_place part.Task) (value_at key.Task ms) none.1.1.1.0;
  chains = entries_good IsChainRead (fields_checks chain_fields) chain_meaning chain_read MOST_CHAINS (section_place part.Chain) (value_at key.Chain ms) none.1.1.1.1.0;
  requirements = entries_good IsRequirementRead (fields_checks (requirement_fields (version_in ms))) (requirement_meaning (version_in ms)) (requirement_read (version_in ms)) MOST_REQUIREMENTS (section_place part.Requirement) (value_at key.Requirement ms) none.1.1.1.1.1.0;
}

sections_none : (ms : Members) → model_checks ms ≡ [] → AllNone (map (section_checks (version_in ms) ms) sections)
unfolding model_checks
sections_none ms h = all_none (map (section_checks (version_in ms) ms) sections)
    (none_behind (unless (has_only top_keys ms) M4 top) _
    (none_behind (unless (is_version (value_at key.Version ms)) M3 (at_key key.Version top)) _
    (none_behind (unless (is_format (value_at key.Format ms)) M2 (at_key key.Format top)) _ h)))

pub model_in_range : (ms : Members) → model_checks ms ≡ [] → IsInRange (model_meaning ms)
model_in_range ms h =
    let read = sections_read ms (sections_none ms h) in
    record {
      counts = counts_in_range ms (sections_none ms h);
      stimuli = λ k d lt. (read.stimuli k d lt).in_range;
      tasks = λ k d lt. (read.tasks k d lt).in_range;
      chains = λ k d lt. (read.chains k d lt).in_range;
      requirements = λ k d lt. (read.requirements k d lt).most;
    }

pub model_named : (ms : Members) → model_checks ms ≡ [] → AreNamed (model_meaning ms)
model_named ms h =
    let read = sections_read ms (sections_none ms h) in
    record {
      cores = read.cores;
      stimuli = λ k d lt. (read.stimuli k d lt).named;
      labels = read.labels;
      tasks = λ k d lt. (read.tasks k d lt).named;
      chains = λ k d lt. (read.chains k d lt).named;
      requirements = λ k d lt. (read.requirements k d lt).named;
    }

-- ---- the reading of bytes

-- what holds of each meaning that is refused nothing holds of a model that is read
read_has : (P : SystemModel → Type 0) → ((ms : Members) → model_checks ms ≡ [] → P (model_meaning ms)) → (found : Option Members) (model : SystemModel) → model_in found ≡ Ok model → P model
read_has P good None model is = absurd cc
read_has P good (Some ms) model is = answered (model_checks ms) (good ms) is
  where
    answered : (checks : List Refusal) → (checks ≡ [] → P (model_meaning ms)) → answer checks (model_meaning ms) ≡ Ok model → P model
    answered [] holds same = let e : model_meaning ms ≡ model = cc in subst P e (holds refl)
    answered (refusal ∷ others) holds same = absurd cc

pub read_in_range : (bytes : List ℕ) (model : SystemModel) → model_of bytes ≡ Ok model → IsInRange model
unfolding model_of
read_in_range bytes = read_has IsInRange model_in_range (document_of bytes)

pub read_named : (bytes : List ℕ) (model : SystemModel) → model_of bytes ≡ Ok model → AreNamed model
unfolding model_of
read_named bytes = read_has AreNamed model_named (document_of bytes)
