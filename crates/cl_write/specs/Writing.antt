-- The document that is written of a model, of the least version from 2 on that can say it. Keys whose value is the default
-- are left out: an offset and a jitter of 0, `whole` where it is false, a deadline that isn't given, empty lists and empty
-- sections.
use Rattle.std.specs.Prelude.{ℕ, Bool, if◌then◌else◌, List, [], ◌∷◌, Some, codes}
use Rattle.std.specs.List.{list_any}
use Rattle.toml.specs.Data.{string, Members}
use Rattle.cl_model.specs.declared.{chain.{ChainDef.ChainDef, RequirementDef.RequirementDef}, model.{CoreDef.CoreDef, LabelDef.LabelDef, SystemModel.SystemModel}, stimulus.{StimulusDef.StimulusDef, StimulusKind.{StimulusKind, TheVariants.{Periodic, Sporadic, Burst}}}}
use Rattle.cl_model.specs.{declared.task.{RunnableDef.RunnableDef, TaskDef.TaskDef}, Kinds.{access_word, requirement_word, is_delay}}
use Rattle.cl_model.specs.declared.place.Key.TheVariants as key
use Rattle.cl_write.specs.Entries.{Entry, number, number_data_if, unless_zero, when_true, names_data, tables, members_with}

-- ---- the version

-- whether a requirement of the model is on a delay
abbrev pub has_delay : SystemModel → Bool
has_delay model = list_any (λ requirement. is_delay requirement.kind) model.requirements

-- the least version from 2 on that can say the model: 3 where a requirement is on a delay
abbrev pub version_for : SystemModel → ℕ
version_for model = if has_delay model then 3 else 2

-- ---- tables

abbrev pub core_table_entries : CoreDef → List Entry
core_table_entries core = (key.Name, Some (string core.name)) ∷ []

abbrev pub label_entries : LabelDef → List Entry
label_entries label = (key.Name, Some (string label.name)) ∷ []

-- the kind of a stimulus and its numbers
abbrev pub kind_entries : StimulusKind → List Entry
kind_entries (Periodic period offset jitter) =
    (key.Kind, Some (string (codes "periodic")))
    ∷ (key.Period, Some (number period))
    ∷ (key.Offset, unless_zero offset)
    ∷ (key.Jitter, unless_zero jitter)
    ∷ []
kind_entries (Sporadic least greatest) =
    (key.Kind, Some (string (codes "sporadic")))
    ∷ (key.Least, Some (number least))
    ∷ (key.Greatest, Some (number greatest))
    ∷ []
kind_entries (Burst period offset count distance) =
    (key.Kind, Some (string (codes "burst")))
    ∷ (key.Period, Some (number period))
    ∷ (key.Offset, unless_zero offset)
    ∷ (key.Count, Some (number count))
    ∷ (key.Distance, Some (number distance))
    ∷ []

abbrev pub stimulus_entries : StimulusDef → List Entry
stimulus_entries stimulus = (key.Name, Some (string stimulus.name)) ∷ kind_entries stimulus.kind

abbrev pub runnable_entries : RunnableDef → List Entry
runnable_entries runnable =
    (key.Name, Some (string runnable.name))
    ∷ (key.Least, Some (number runnable.least))
    ∷ (key.Greatest, Some (number runnable.greatest))
    ∷ (key.Whole, when_true runnable.whole)
    ∷ (key.Reads, names_data runnable.reads)
    ∷ (key.Writes, names_data runnable.writes)
    ∷ []

abbrev pub task_entries : TaskDef → List Entry
task_entries task =
    (key.Name, Some (string task.name))
    ∷ (key.Core, Some (string task.core))
    ∷ (key.Stimulus, Some (string task.stimulus))
    ∷ (key.Priority, Some (number task.priority))
    ∷ (key.Access, Some (string (access_word task.access)))
    ∷ (key.Deadline, number_data_if task.deadline)
    ∷ (key.Runnable, tables runnable_entries task.runnables)
    ∷ []

abbrev pub chain_entries : ChainDef → List Entry
chain_entries chain =
    (key.Name, Some (string chain.name))
    ∷ (key.Runnables, names_data chain.runnables)
    ∷ (key.Labels, names_data chain.labels)
    ∷ []

abbrev pub requirement_entries : RequirementDef → List Entry
requirement_entries requirement =
    (key.Name, Some (string requirement.name))
    ∷ (key.Chain, Some (string requirement.chain))
    ∷ (key.Kind, Some (string (requirement_word requirement.kind)))
    ∷ (key.Most, Some (number requirement.most))
    ∷ []

-- ---- the whole document

abbrev pub model_entries : SystemModel → List Entry
model_entries model =
    (key.Format, Some (string (codes "chainlat")))
    ∷ (key.Version, Some (number (version_for model)))
    ∷ (key.Core, tables core_table_entries model.cores)
    ∷ (key.Stimulus, tables stimulus_entries model.stimuli)
    ∷ (key.Label, tables label_entries model.labels)
    ∷ (key.Task, tables task_entries model.tasks)
    ∷ (key.Chain, tables chain_entries model.chains)
    ∷ (key.Requirement, tables requirement_entries model.requirements)
    ∷ []

-- the document that is written of a model
unfoldable pub document : SystemModel → Members
document model = members_with (model_entries model)
