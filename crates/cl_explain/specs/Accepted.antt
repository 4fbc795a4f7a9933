-- What an engineer should know of a model that is accepted.
use Rattle.std.specs.Prelude.{ℕ, ◌*◌, Bool, true, false, cond, not, ◌&&◌, nat_lt, List, [], ◌∷◌, ◌++◌, length, filter, codes, decimal}
use Rattle.std.specs.List.{flat_map, list_any, range_with_len}
use Rattle.cl_text.specs.Line.{line}
use Rattle.cl_model.specs.{declared.{model.{SystemModel.SystemModel, LabelDef.LabelDef}, stimulus.{StimulusDef.StimulusDef, StimulusKind.{StimulusKind, TheVariants.{Periodic, Sporadic, Burst}}}, task.{RunnableDef.RunnableDef, TaskDef.TaskDef}}, Named.{same_name, has_name, all_runnables}}
use Rattle.cl_model.specs.{ByNumber.{core_at, task_at, stimulus_of}, Timing.least_distance}
use Rattle.cl_runs.specs.SystemOf.{system_of}
use Rattle.cl_bound.specs.Answers.{is_late, answer_at}
use Rattle.cl_tight.specs.TightAnswers.{tight_answers_of}
use Rattle.cl_explain.specs.{declared.labels.LabelUse.{LabelUse, TheVariants.{Input, Output, Unused}}, Loads.{sure_load, MILLION}}

-- ---- labels

abbrev pub is_read : SystemModel → LabelDef → Bool
is_read model label = list_any (λ (runnable : RunnableDef). has_name label.name runnable.reads) (all_runnables model.tasks)

abbrev pub is_written : SystemModel → LabelDef → Bool
is_written model label = list_any (λ (runnable : RunnableDef). has_name label.name runnable.writes) (all_runnables model.tasks)

abbrev pub use_word : LabelUse → List ℕ
use_word Input = codes "input "
use_word Output = codes "output "
use_word Unused = codes "unused "

-- an input is read and not written, an output is written and not read, and what is unused is neither
abbrev pub is_used_so : LabelUse → (read written : Bool) → Bool
is_used_so Input read written = read && not written
is_used_so Output read written = not read && written
is_used_so Unused read written = not read && not written

-- a line for each label that is used so
abbrev pub label_line : LabelUse → SystemModel → LabelDef → List ℕ
label_line way model label = cond (is_used_so way (is_read model label) (is_written model label)) (line (use_word way ++ label.name)) []

abbrev pub label_lines : LabelUse → SystemModel → List ℕ
label_lines way model = flat_map (label_line way model) model.labels

abbrev pub all_label_lines : SystemModel → List ℕ
all_label_lines model = label_lines Input model ++ label_lines Output model ++ label_lines Unused model

-- ---- cores and tasks

-- a core whose tasks take more than all of its time, for sure
abbrev pub overloaded_line : SystemModel → (core : ℕ) → List ℕ
overloaded_line model core =
    cond (nat_lt MILLION (sure_load (system_of model) core)) (line (codes "overloaded " ++ (core_at model core).name)) []

-- a task that is late by phases
abbrev pub late_task_line : SystemModel → (task : ℕ) → List ℕ
late_task_line model task = cond (is_late (answer_at (tight_answers_of (system_of model)) task)) (line (codes "late " ++ (task_at model task).name)) []

-- ---- stimuli

abbrev pub is_of_sporadic_kind : StimulusKind → Bool
is_of_sporadic_kind (Periodic period offset jitter) = false
is_of_sporadic_kind (Sporadic least greatest) = true
is_of_sporadic_kind (Burst period offset count distance) = false

abbrev pub names_stimulus : StimulusDef → TaskDef → Bool
names_stimulus stimulus task = same_name task.stimulus stimulus.name

unfoldable pub apart_line : StimulusDef → (first other : TaskDef) → List ℕ
apart_line stimulus first other = line (codes "apart " ++ stimulus.name ++ codes " " ++ first.name ++ codes " " ++ other.name)

-- the first of them with each further one: their jobs don't arrive together
abbrev pub apart_from : StimulusDef → List TaskDef → List ℕ
apart_from stimulus [] = []
apart_from stimulus (first ∷ others) = flat_map (apart_line stimulus first) others

abbrev pub apart_lines : SystemModel → StimulusDef → List ℕ
apart_lines model stimulus = cond (is_of_sporadic_kind stimulus.kind) (apart_from stimulus (filter (names_stimulus stimulus) model.tasks)) []

-- ---- runnables

-- a time is more than half of a distance
abbrev pub is_more_than_half : (greatest distance : ℕ) → Bool
is_more_than_half greatest distance = nat_lt distance (2 * greatest)

unfoldable pub time_words : (distance : ℕ) → RunnableDef → List ℕ
time_words distance runnable = codes "time " ++ runnable.name ++ codes " " ++ decimal runnable.greatest ++ codes " of " ++ decimal distance

-- a runnable that takes more than half of the least distance of its task
abbrev pub time_line : (distance : ℕ) → RunnableDef → List ℕ
time_line distance runnable = cond (is_more_than_half runnable.greatest distance) (line (time_words distance runnable)) []

abbrev pub time_lines_of : SystemModel → (task : ℕ) → List ℕ
time_lines_of model task = flat_map (time_line (least_distance (stimulus_of model task))) (task_at model task).runnables

abbrev pub time_lines : SystemModel → List ℕ
time_lines model = flat_map (time_lines_of model) (range_with_len 0 (length model.tasks))

-- ---- all of it

-- what `check` says of a model that is accepted: first what matters most
unfoldable pub accepted_text : SystemModel → List ℕ
accepted_text model =
    line (codes "chainlat check 2") ++ line (codes "accepted")
    ++ flat_map (overloaded_line model) (range_with_len 0 (length model.cores))
    ++ flat_map (late_task_line model) (range_with_len 0 (length model.tasks))
    ++ flat_map (apart_lines model) model.stimuli
    ++ time_lines model
    ++ all_label_lines model
