-- Changes of a model, of what stands there under a number. Times are in ticks.
use Rattle.std.specs.Prelude.{ℕ, Bool, Option, List, [], ◌∷◌, ◌++◌, slice_index_or, slice_set, remove}
use Rattle.cl_model.specs.declared.{model.SystemModel.SystemModel, stimulus.{StimulusKind.{StimulusKind, TheVariants.{Periodic, Sporadic, Burst}}, StimulusDef.StimulusDef}, task.{AccessKind.AccessKind, RunnableDef.RunnableDef, TaskDef.TaskDef}, changes.TaskPriority.TaskPriority}
use Rattle.cl_model.specs.{declared.{chain.{ChainDef.ChainDef, RequirementDef.RequirementDef}, group.Step.Step}, ByNumber.{no_stimulus, task_at, runnable_at}}

-- ---- runnables

-- the runnable at a place of a task is this one
abbrev pub with_runnable : SystemModel → Step → RunnableDef → SystemModel
with_runnable model step runnable =
    let task = task_at model step.task in
    record model { tasks = slice_set model.tasks step.task (record task { runnables = slice_set task.runnables step.place runnable }) }

-- its execution times
abbrev pub with_range : SystemModel → Step → (least greatest : ℕ) → SystemModel
with_range model step least greatest = with_runnable model step (record (runnable_at model step) { least = least; greatest = greatest })

-- whether it runs to its end without a break
abbrev pub with_whole : SystemModel → Step → Bool → SystemModel
with_whole model step whole = with_runnable model step (record (runnable_at model step) { whole = whole })

-- ---- stimuli

-- stands for a stimulus past the last one
unfoldable pub no_stimulus_def : StimulusDef
no_stimulus_def = record { name = []; kind = no_stimulus }

-- the stimulus of that number
abbrev pub stimulus_at : SystemModel → (s : ℕ) → StimulusDef
stimulus_at model s = slice_index_or model.stimuli s no_stimulus_def

-- the kind of stimulus s is changed
abbrev pub with_kind : SystemModel → (s : ℕ) → (StimulusKind → StimulusKind) → SystemModel
with_kind model s change =
    let stimulus = stimulus_at model s in
    record model { stimuli = slice_set model.stimuli s (record stimulus { kind = change stimulus.kind }) }

-- a periodic kind with this period: any other stays
abbrev pub with_period : (period : ℕ) → StimulusKind → StimulusKind
with_period period (Periodic _ offset jitter) = Periodic period offset jitter
with_period period kind = kind

-- a periodic kind or a burst with this offset: a sporadic one stays
abbrev pub with_offset : (offset : ℕ) → StimulusKind → StimulusKind
with_offset offset (Periodic period _ jitter) = Periodic period offset jitter
with_offset offset (Burst period _ count distance) = Burst period offset count distance
with_offset offset kind = kind

-- a periodic kind with this jitter: any other stays
abbrev pub with_jitter : (jitter : ℕ) → StimulusKind → StimulusKind
with_jitter jitter (Periodic period offset _) = Periodic period offset jitter
with_jitter jitter kind = kind

-- a sporadic kind with these distances: any other stays
abbrev pub with_distances : (least greatest : ℕ) → StimulusKind → StimulusKind
with_distances least greatest (Sporadic _ _) = Sporadic least greatest
with_distances least greatest kind = kind

-- a burst with these numbers, which keeps its offset: any other kind stays
abbrev pub with_burst : (period count distance : ℕ) → StimulusKind → StimulusKind
with_burst period count distance (Burst _ offset _ _) = Burst period offset count distance
with_burst period count distance kind = kind

-- ---- tasks

-- task i is this one
abbrev pub with_task : SystemModel → (i : ℕ) → TaskDef → SystemModel
with_task model i task = record model { tasks = slice_set model.tasks i task }

-- its deadline
abbrev pub with_deadline : SystemModel → (i : ℕ) → Option ℕ → SystemModel
with_deadline model i deadline = with_task model i (record (task_at model i) { deadline = deadline })

-- its priority
abbrev pub with_priority : SystemModel → (i : ℕ) → (priority : ℕ) → SystemModel
with_priority model i priority = with_task model i (record (task_at model i) { priority = priority })

-- the priorities of a list, one after the other
abbrev pub with_priorities : SystemModel → List TaskPriority → SystemModel
with_priorities model [] = model
with_priorities model (it ∷ others) = with_priorities (with_priority model it.task it.priority) others

-- its core and its priority
abbrev pub with_place : SystemModel → (i : ℕ) → (core : List ℕ) → (priority : ℕ) → SystemModel
with_place model i core priority = with_task model i (record (task_at model i) { core = core; priority = priority })

-- its kind of access
abbrev pub with_access : SystemModel → (i : ℕ) → AccessKind → SystemModel
with_access model i access = with_task model i (record (task_at model i) { access = access })

-- one more task behind the others
abbrev pub with_new_task : SystemModel → TaskDef → SystemModel
with_new_task model task = record model { tasks = model.tasks ++ task ∷ [] }

-- without task i
abbrev pub without_task : SystemModel → (i : ℕ) → SystemModel
without_task model i = record model { tasks = remove model.tasks i }

-- ---- chains

-- one more chain behind the others
abbrev pub with_new_chain : SystemModel → ChainDef → SystemModel
with_new_chain model chain = record model { chains = model.chains ++ chain ∷ [] }

-- without chain c
abbrev pub without_chain : SystemModel → (c : ℕ) → SystemModel
without_chain model c = record model { chains = remove model.chains c }

-- ---- requirements

-- requirement r is this one
abbrev pub with_requirement : SystemModel → (r : ℕ) → RequirementDef → SystemModel
with_requirement model r requirement = record model { requirements = slice_set model.requirements r requirement }

-- one more requirement behind the others
abbrev pub with_new_requirement : SystemModel → RequirementDef → SystemModel
with_new_requirement model requirement = record model { requirements = model.requirements ++ requirement ∷ [] }

-- without requirement r
abbrev pub without_requirement : SystemModel → (r : ℕ) → SystemModel
without_requirement model r = record model { requirements = remove model.requirements r }
