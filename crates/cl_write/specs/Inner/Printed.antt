-- What is printed of a model: its lines, with keys in alphabetic order, and each entry of a section under a header.
use Rattle.std.specs.Prelude.{ℕ, List, [], ◌∷◌, ◌++◌, codes, flat_map}
use Rattle.std.specs.List.{concat}
use Rattle.cl_model.specs.declared.{chain.{ChainDef.ChainDef, RequirementDef.RequirementDef}, model.{CoreDef.CoreDef, LabelDef.LabelDef, SystemModel.SystemModel}, stimulus.{StimulusDef.StimulusDef, StimulusKind.{StimulusKind, TheVariants.{Periodic, Sporadic, Burst}}}}
use Rattle.cl_model.specs.{declared.task.{RunnableDef.RunnableDef, TaskDef.TaskDef}, Kinds.{access_word, requirement_word}}
use Rattle.cl_model.specs.declared.place.Key.TheVariants as key
use Rattle.cl_write.specs.{Writing.version_for, Inner.Lines.{word_line, number_line, number_line_if, line_unless_zero, line_when_true, words_line_if}}

-- ---- lines of a table

abbrev pub core_lines : CoreDef → List (List ℕ)
core_lines core = word_line key.Name core.name ∷ []

abbrev pub lines_of_label : LabelDef → List (List ℕ)
lines_of_label label = word_line key.Name label.name ∷ []

-- of a stimulus of this name and kind
abbrev pub lines_of_kind : List ℕ → StimulusKind → List (List ℕ)
lines_of_kind name (Periodic period offset jitter) =
    line_unless_zero key.Jitter jitter
    ∷ word_line key.Kind (codes "periodic")
    ∷ word_line key.Name name
    ∷ line_unless_zero key.Offset offset
    ∷ number_line key.Period period
    ∷ []
lines_of_kind name (Sporadic least greatest) =
    number_line key.Greatest greatest
    ∷ word_line key.Kind (codes "sporadic")
    ∷ number_line key.Least least
    ∷ word_line key.Name name
    ∷ []
lines_of_kind name (Burst period offset count distance) =
    number_line key.Count count
    ∷ number_line key.Distance distance
    ∷ word_line key.Kind (codes "burst")
    ∷ word_line key.Name name
    ∷ line_unless_zero key.Offset offset
    ∷ number_line key.Period period
    ∷ []

abbrev pub lines_of_runnable : RunnableDef → List (List ℕ)
lines_of_runnable runnable =
    number_line key.Greatest runnable.greatest
    ∷ number_line key.Least runnable.least
    ∷ word_line key.Name runnable.name
    ∷ words_line_if key.Reads runnable.reads
    ∷ line_when_true key.Whole runnable.whole
    ∷ words_line_if key.Writes runnable.writes
    ∷ []

abbrev pub lines_of_task : TaskDef → List (List ℕ)
lines_of_task task =
    word_line key.Access (access_word task.access)
    ∷ word_line key.Core task.core
    ∷ number_line_if key.Deadline task.deadline
    ∷ word_line key.Name task.name
    ∷ number_line key.Priority task.priority
    ∷ word_line key.Stimulus task.stimulus
    ∷ []

abbrev pub lines_of_chain : ChainDef → List (List ℕ)
lines_of_chain chain =
    words_line_if key.Labels chain.labels
    ∷ word_line key.Name chain.name
    ∷ words_line_if key.Runnables chain.runnables
    ∷ []

abbrev pub lines_of_requirement : RequirementDef → List (List ℕ)
lines_of_requirement requirement =
    word_line key.Chain requirement.chain
    ∷ word_line key.Kind (requirement_word requirement.kind)
    ∷ number_line key.Most requirement.most
    ∷ word_line key.Name requirement.name
    ∷ []

-- ---- entries of a section

abbrev pub core_text : CoreDef → List ℕ
core_text core = codes "\n[[core]]\n" ++ concat (core_lines core)

abbrev pub label_text : LabelDef → List ℕ
label_text label = codes "\n[[label]]\n" ++ concat (lines_of_label label)

abbrev pub stimulus_text : StimulusDef → List ℕ
stimulus_text stimulus = codes "\n[[stimulus]]\n" ++ concat (lines_of_kind stimulus.name stimulus.kind)

abbrev pub runnable_text : RunnableDef → List ℕ
runnable_text runnable = codes "\n[[task.runnable]]\n" ++ concat (lines_of_runnable runnable)

abbrev pub task_text : TaskDef → List ℕ
task_text task = codes "\n[[task]]\n" ++ (concat (lines_of_task task) ++ flat_map runnable_text task.runnables)

abbrev pub chain_text : ChainDef → List ℕ
chain_text chain = codes "\n[[chain]]\n" ++ concat (lines_of_chain chain)

abbrev pub requirement_text : RequirementDef → List ℕ
requirement_text requirement = codes "\n[[requirement]]\n" ++ concat (lines_of_requirement requirement)

-- ---- the whole document

abbrev pub lines_of_model : SystemModel → List (List ℕ)
lines_of_model model = word_line key.Format (codes "chainlat") ∷ number_line key.Version (version_for model) ∷ []

abbrev pub model_sections : SystemModel → List (List ℕ)
model_sections model =
    flat_map chain_text model.chains
    ∷ flat_map core_text model.cores
    ∷ flat_map label_text model.labels
    ∷ flat_map requirement_text model.requirements
    ∷ flat_map stimulus_text model.stimuli
    ∷ flat_map task_text model.tasks
    ∷ []

unfoldable pub model_text : SystemModel → List ℕ
model_text model = concat (lines_of_model model) ++ concat (model_sections model)
