-- What a number is measured against, where a model that was read is refused for it: another number of the model, with its name.
use Rattle.std.specs.Prelude.{ℕ, ◌-◌, ◌*◌, ◌/◌, Bool, ◌&&◌, nat_le, nat_lt, if◌then◌else◌, List, [], ◌++◌, length, Option, codes, decimal}
use Rattle.std.specs.List.{find}
use Rattle.std.specs.Option.{option_map, option_map_or}
use Rattle.cl_text.specs.Line.{line}
use Rattle.cl_model.specs.declared.{limits.TheConstants.MOST_DISTANCES, place.Place.Place, refusal.{Code.Code, Refusal.Refusal}, chain.ChainDef.ChainDef, stimulus.{StimulusDef.StimulusDef, StimulusKind.{StimulusKind, TheVariants.{Periodic, Sporadic, Burst}}}, task.RunnableDef.RunnableDef}
use Rattle.cl_model.specs.{declared.{task.TaskDef.TaskDef, model.SystemModel.SystemModel}, Named.{same_name, is_some_and}, Timing.{least_distance, greatest_jitter, deadline_under}, ValidTasks.spans_too_many}
use Rattle.cl_model.specs.declared.refusal.Code.TheVariants as code
use Rattle.cl_advice.specs.{declared.measured.Said.Said, With.{item_if, task_of_place, runnable_of_place}}
use Rattle.cl_advice.specs.declared.measured.Said.TheVariants as said

-- what is said of something, and nothing where it isn't there
abbrev pub said_if : {X : Type 0} → (X → List ℕ) → Option X → List ℕ
said_if said x = option_map_or said x []

-- ---- stimuli

-- M27: the period of a stimulus that has an offset
abbrev pub below_period_line : (period : ℕ) (name : List ℕ) → List ℕ
below_period_line period name = line (codes "wanted a whole number below " ++ decimal period ++ codes ", the period of " ++ name)

abbrev pub offset_line : StimulusDef → StimulusKind → List ℕ
offset_line stimulus (Periodic period offset jitter) = below_period_line period stimulus.name
offset_line stimulus (Sporadic least greatest) = []
offset_line stimulus (Burst period offset count distance) = below_period_line period stimulus.name

-- M28: the least distance
abbrev pub greatest_distance_line : StimulusKind → List ℕ
greatest_distance_line (Sporadic least greatest) = line (codes "wanted at least " ++ decimal least ++ codes ", the least distance")
greatest_distance_line _ = []

-- M47: how many jobs of this distance fit the period; where that is no burst, the distance of which two fit; and where none is, a period
abbrev pub fitting_text : (period distance : ℕ) → List ℕ
fitting_text period distance =
    if nat_le 2 (period / distance) then codes "a count of at most " ++ decimal (period / distance) ++ codes ", with this distance"
    else if nat_le 2 period then codes "a distance of at most " ++ decimal (period / 2) ++ codes ", for a count of 2"
    else codes "a period of 2 or more"

abbrev pub burst_line : StimulusKind → List ℕ
burst_line (Burst period offset count distance) = line (codes "wanted " ++ fitting_text period distance)
burst_line _ = []

-- ---- tasks

-- the first stimulus of a name, and what is said of the kind of that of a task
abbrev pub stimulus_with : SystemModel → List ℕ → Option StimulusDef
stimulus_with model name = find (λ (stimulus : StimulusDef). same_name name stimulus.name) model.stimuli

abbrev pub kind_for : SystemModel → TaskDef → Option StimulusKind
kind_for model task = option_map (λ (stimulus : StimulusDef). stimulus.kind) (stimulus_with model task.stimulus)

abbrev pub said_by_kind : SystemModel → (TaskDef → StimulusKind → List ℕ) → TaskDef → List ℕ
said_by_kind model said task = said_if (said task) (kind_for model task)

-- M32: the least distance of the stimulus
unfoldable pub deadline_line : TaskDef → StimulusKind → List ℕ
deadline_line task kind = line (codes "wanted at most " ++ decimal (least_distance kind) ++ codes ", the least distance of " ++ task.stimulus)

-- M33: the jitter of the stimulus, and the deadline of the task
unfoldable pub found_jitter_line : TaskDef → StimulusKind → List ℕ
found_jitter_line task kind = line (codes "found " ++ decimal (greatest_jitter kind))

unfoldable pub jitter_line : TaskDef → StimulusKind → List ℕ
jitter_line task kind = line (codes "wanted a jitter below " ++ decimal (deadline_under kind task) ++ codes ", the deadline of " ++ task.name)

-- M42: whether the deadline of a task of this kind of stimulus spans too many distances of another task, which has a higher priority
-- on its core
abbrev pub spans : SystemModel → TaskDef → StimulusKind → (above : TaskDef) → Bool
spans model task kind above =
    same_name task.core above.core
    && (nat_lt task.priority above.priority && is_some_and (kind_for model above) (spans_too_many (deadline_under kind task)))

-- the distances of the first such task that a deadline may span
unfoldable pub span_line : TaskDef → StimulusKind → List ℕ
span_line above kind =
    line (codes "wanted at most " ++ decimal (MOST_DISTANCES * least_distance kind - greatest_jitter kind)
    ++ codes ", 1000000 times the least distance of " ++ above.name ++ codes " less its jitter")

abbrev pub spanned_line : SystemModel → TaskDef → StimulusKind → List ℕ
spanned_line model task kind = said_if (said_by_kind model span_line) (find (spans model task kind) model.tasks)

-- ---- runnables and chains

-- M36: the least time
abbrev pub greatest_time_line : RunnableDef → List ℕ
greatest_time_line runnable = line (codes "wanted at least " ++ decimal runnable.least ++ codes ", the least time")

-- M43: how many runnables and labels there are
abbrev pub lengths_line : ChainDef → List ℕ
lengths_line chain =
    line (codes "wanted one label fewer than runnables: " ++ decimal (length chain.runnables) ++ codes " runnables, " ++ decimal (length chain.labels)
    ++ codes " labels")

-- ---- by the code

-- what is said of a stimulus
abbrev pub stimulus_line : Code → StimulusDef → List ℕ
stimulus_line code.M27 stimulus = offset_line stimulus stimulus.kind
stimulus_line code.M28 stimulus = greatest_distance_line stimulus.kind
stimulus_line code.M47 stimulus = burst_line stimulus.kind
stimulus_line _ stimulus = []

-- what is said of a task and the kind of its stimulus
abbrev pub task_limit_line : SystemModel → Said → TaskDef → StimulusKind → List ℕ
task_limit_line model said.Deadline = deadline_line
task_limit_line model said.Jitter = jitter_line
task_limit_line model said.FoundJitter = found_jitter_line
task_limit_line model said.Span = spanned_line model

-- of the stimulus, of the task, at a place
abbrev pub line_of_stimulus : SystemModel → Place → Code → List ℕ
line_of_stimulus model place code = said_if (stimulus_line code) (item_if model.stimuli place.item)

abbrev pub line_of_task : SystemModel → Place → Said → List ℕ
line_of_task model place said = said_if (said_by_kind model (task_limit_line model said)) (task_of_place model place)

-- the line of what is wanted of a number, by the code of a refusal
abbrev pub measured_by : SystemModel → Place → Code → List ℕ
measured_by model place code.M27 = line_of_stimulus model place code.M27
measured_by model place code.M28 = line_of_stimulus model place code.M28
measured_by model place code.M32 = line_of_task model place said.Deadline
measured_by model place code.M33 = line_of_task model place said.Jitter
measured_by model place code.M36 = said_if greatest_time_line (runnable_of_place model place)
measured_by model place code.M42 = line_of_task model place said.Span
measured_by model place code.M43 = said_if lengths_line (item_if model.chains place.item)
measured_by model place code.M47 = line_of_stimulus model place code.M47
measured_by model place _ = []

-- nothing where there is no model
abbrev pub measured_line : Option SystemModel → Refusal → List ℕ
measured_line model refusal = said_if (λ (model : SystemModel). measured_by model refusal.place refusal.code) model

-- the jitter that was found
abbrev pub jitter_found : Option SystemModel → Place → List ℕ
jitter_found model place = said_if (λ (model : SystemModel). line_of_task model place said.FoundJitter) model
