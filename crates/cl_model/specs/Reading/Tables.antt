-- The tables of a model file, versions 1 to 3: the keys of each in reading order, and what it means. Times are in
-- ticks.
use Rattle.std.specs.Prelude.{ℕ, nat_le, if◌then◌else◌, List, [], ◌∷◌, ◌++◌, map, Option, Some, None, codes}
use Rattle.toml.specs.Data.{Members}
use Rattle.cl_model.specs.declared.{limits.TheConstants.{MOST_TICKS, MOST_REQUIRED, MOST_PRIORITY, MOST_RUNNABLES, MOST_ACCESSES, MOST_STEPS, MOST_HOPS, LEAST_JOBS_OF_BURST, MOST_JOBS_OF_BURST}, place.Place.Place, refusal.{Code.TheVariants.M4, Refusal.Refusal}, model.CoreDef.CoreDef}
use Rattle.cl_model.specs.declared.{model.LabelDef.LabelDef, stimulus.{StimulusDef.StimulusDef, StimulusKind.{StimulusKind, TheVariants.{Periodic, Sporadic, Burst}}}, task.{AccessKind.{AccessKind, TheVariants.{Explicit, Implicit, Timed}}, RunnableDef.RunnableDef, TaskDef.TaskDef}}
use Rattle.cl_model.specs.{declared.chain.{LengthKind.TheVariants.{Reaction, Age, Reduced}, RequirementKind.{RequirementKind, TheVariants.{Length, Delay}}, ChainDef.ChainDef, RequirementDef.RequirementDef}, Reading.Checks.{Check, a_name, a_word, a_number, a_boolean, names, an_array}}
use Rattle.cl_model.specs.{Reading.{Checks.{a_table_of, Field, required, optional, field_checks, keys_of, has_only}, Meanings.{text_at, number_at, number_or, number_if, is_set, word_if, word_at, names_at, tables_at}}, Place.at_sub, Refusals.{unless, in_order}}
use Rattle.cl_model.specs.declared.place.Key.TheVariants as key

-- a time from 1 up, and one from 0 up
abbrev pub a_time : Check
a_time = a_number 1 MOST_TICKS

abbrev pub a_time_or_zero : Check
a_time_or_zero = a_number 0 MOST_TICKS

-- ---- cores and labels

-- the keys of a core, and what they mean
abbrev pub core_fields : List Field
core_fields = required key.Name a_name ∷ []

abbrev pub core_meaning : Members → CoreDef
core_meaning ms = record { name = text_at key.Name ms }

-- the keys of a label, and what they mean
abbrev pub label_fields : List Field
label_fields = required key.Name a_name ∷ []

abbrev pub label_meaning : Members → LabelDef
label_meaning ms = record { name = text_at key.Name ms }

-- ---- stimuli

-- a kind of stimulus: its keys after `name` and `kind`, and what they mean
pub record StimulusForm : Type 0 where
  pub fields : List Field
  pub meaning : Members → StimulusKind

-- a periodic stimulus
abbrev pub periodic_form : StimulusForm
periodic_form = record {
  fields = required key.Period a_time ∷ optional key.Offset a_time_or_zero ∷ optional key.Jitter a_time_or_zero ∷ [];
  meaning = λ ms. Periodic (number_at key.Period ms) (number_or 0 key.Offset ms) (number_or 0 key.Jitter ms);
}

-- a sporadic stimulus
abbrev pub sporadic_form : StimulusForm
sporadic_form = record {
  fields = required key.Least a_time ∷ required key.Greatest a_time ∷ [];
  meaning = λ ms. Sporadic (number_at key.Least ms) (number_at key.Greatest ms);
}

-- a burst stimulus
abbrev pub burst_form : StimulusForm
burst_form = record {
  fields =
      required key.Period a_time
      ∷ optional key.Offset a_time_or_zero
      ∷ required key.Count (a_number LEAST_JOBS_OF_BURST MOST_JOBS_OF_BURST)
      ∷ required key.Distance a_time
      ∷ [];
  meaning = λ ms. Burst (number_at key.Period ms) (number_or 0 key.Offset ms) (number_at key.Count ms) (number_at key.Distance ms);
}

-- the kinds of stimulus that version 2 adds, by their words
abbrev pub later_forms : (version : ℕ) → List (List ℕ × StimulusForm)
later_forms version = if nat_le 2 version then (codes "burst", burst_form) ∷ [] else []

-- the kinds of stimulus of a version, by their words
abbrev pub stimulus_forms : (version : ℕ) → List (List ℕ × StimulusForm)
stimulus_forms version = (codes "periodic", periodic_form) ∷ (codes "sporadic", sporadic_form) ∷ later_forms version

-- the keys that every stimulus has
abbrev pub stimulus_fields : (version : ℕ) → List Field
stimulus_fields version = required key.Name a_name ∷ required key.Kind (a_word (stimulus_forms version)) ∷ []

-- M4 where the table has a key that no stimulus of its kind has, and then the keys of that kind; nothing where the kind
-- isn't known
abbrev pub form_checks : Place → Members → Option StimulusForm → List Refusal
form_checks place ms None = []
form_checks place ms (Some form) =
    in_order (unless (has_only (key.Name ∷ key.Kind ∷ keys_of form.fields) ms) M4 place ∷ map (field_checks place ms) form.fields)

-- `name` and `kind`, and then what the kind asks
unfoldable pub stimulus_entry_checks : (version : ℕ) → Place → Members → List Refusal
stimulus_entry_checks version place ms =
    in_order (map (field_checks place ms) (stimulus_fields version) ++ form_checks place ms (word_if (stimulus_forms version) key.Kind ms) ∷ [])

-- what the keys of a stimulus mean
unfoldable pub stimulus_meaning : (version : ℕ) → Members → StimulusDef
stimulus_meaning version ms = record {
  name = text_at key.Name ms;
  kind = (word_at (stimulus_forms version) periodic_form key.Kind ms).meaning ms;
}

-- ---- tasks and their runnables

-- the keys of a runnable, and what they mean
abbrev pub runnable_fields : List Field
runnable_fields =
    required key.Name a_name
    ∷ required key.Least a_time
    ∷ required key.Greatest a_time
    ∷ optional key.Whole a_boolean
    ∷ optional key.Reads (names MOST_ACCESSES)
    ∷ optional key.Writes (names MOST_ACCESSES)
    ∷ []

unfoldable pub runnable_meaning : Members → RunnableDef
runnable_meaning ms = record {
  name = text_at key.Name ms;
  least = number_at key.Least ms;
  greatest = number_at key.Greatest ms;
  whole = is_set key.Whole ms;
  reads = names_at key.Reads ms;
  writes = names_at key.Writes ms;
}

-- the runnables of a task
abbrev pub runnables : Check
runnables = an_array MOST_RUNNABLES at_sub (a_table_of runnable_fields)

-- the kinds of access, by their words
abbrev pub access_words : List (List ℕ × AccessKind)
access_words = (codes "explicit", Explicit) ∷ (codes "implicit", Implicit) ∷ (codes "timed", Timed) ∷ []

-- the keys of a task, and what they mean
abbrev pub task_fields : List Field
task_fields =
    required key.Name a_name
    ∷ required key.Core a_name
    ∷ required key.Stimulus a_name
    ∷ required key.Priority (a_number 0 MOST_PRIORITY)
    ∷ required key.Access (a_word access_words)
    ∷ optional key.Deadline a_time
    ∷ optional key.Runnable runnables
    ∷ []

unfoldable pub task_meaning : Members → TaskDef
task_meaning ms = record {
  name = text_at key.Name ms;
  core = text_at key.Core ms;
  stimulus = text_at key.Stimulus ms;
  priority = number_at key.Priority ms;
  access = word_at access_words Explicit key.Access ms;
  deadline = number_if key.Deadline ms;
  runnables = tables_at runnable_meaning key.Runnable ms;
}

-- ---- chains and requirements

-- the keys of a chain, and what they mean
abbrev pub chain_fields : List Field
chain_fields =
    required key.Name a_name
    ∷ optional key.Runnables (names MOST_STEPS)
    ∷ optional key.Labels (names MOST_HOPS)
    ∷ []

unfoldable pub chain_meaning : Members → ChainDef
chain_meaning ms = record {
  name = text_at key.Name ms;
  runnables = names_at key.Runnables ms;
  labels = names_at key.Labels ms;
}

-- the kinds of requirement that version 3 adds, by their words
abbrev pub later_words : (version : ℕ) → List (List ℕ × RequirementKind)
later_words version = if nat_le 3 version then (codes "delay", Delay) ∷ [] else []

-- the kinds of requirement of a version, by their words
abbrev pub requirement_kind_words : (version : ℕ) → List (List ℕ × RequirementKind)
requirement_kind_words version =
    (codes "reaction", Length Reaction) ∷ (codes "age", Length Age) ∷ (codes "reduced", Length Reduced) ∷ later_words version

-- the keys of a requirement, and what they mean
abbrev pub requirement_fields : (version : ℕ) → List Field
requirement_fields version =
    required key.Name a_name
    ∷ required key.Chain a_name
    ∷ required key.Kind (a_word (requirement_kind_words version))
    ∷ required key.Most (a_number 0 MOST_REQUIRED)
    ∷ []

unfoldable pub requirement_meaning : (version : ℕ) → Members → RequirementDef
requirement_meaning version ms = record {
  name = text_at key.Name ms;
  chain = text_at key.Chain ms;
  kind = word_at (requirement_kind_words version) (Length Reaction) key.Kind ms;
  most = number_at key.Most ms;
}
