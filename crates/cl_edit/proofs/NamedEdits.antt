-- Edits whose names are of the name grammar keep the names of a model so.
use Rattle.std.proofs.Common.{◌≡◌, ℕ, List, [], ◌∷◌, ◌++◌, map, subst, get_or, set}
use Rattle.std.specs.Prelude.{Option, Some, None, unwrap_or, All, remove, Ok}
use Rattle.std.proofs.lemmas.List.Elements.{All-nil, All-cons, All-append}
use Rattle.cl_model.specs.declared.{model.SystemModel.SystemModel, stimulus.{StimulusDef.StimulusDef, StimulusKind.StimulusKind}, task.{RunnableDef.RunnableDef, TaskDef.TaskDef}, chain.{ChainDef.ChainDef, RequirementDef.RequirementDef}, changes.TaskPriority.TaskPriority}
use Rattle.cl_model.specs.{AreNamed.{IsRunnableNamed, IsTaskNamed, IsChainNamed, IsRequirementNamed, AreNamed}, ByNumber.{stimulus_number, requirement_named, no_task, no_runnable}, Groups.step_named, Name.IsName, Changes.{no_stimulus_def, with_period, with_offset, with_jitter}}
use Rattle.cl_model.specs.Changes.{with_distances, with_burst, with_priority, with_priorities}
use Rattle.cl_edit.specs.{declared.edit.Edit.{Edit, TheVariants.{Range, Whole, Period, Offset, Jitter, Distances, Burst, Deadline, Swap, Priorities, Move, Kind, AddTask, DropTask, AddChain, DropChain, Requirement, DropRequirement, Report, Tighten, Verify}}, Changing.with_change}
use Rattle.cl_edit.specs.{Changing.{change_of, task_number, chain_number, by_number, exchanged, requirement_change}, Edited.{with_edit, edited}, Reading.IsEditNamed}
use Rattle.cl_edit.proofs.{EditedValid.made_is, RangeFacts.{changed_all, removed_all}}

-- ---- sections

-- other tasks, chains and requirements
other_tasks : (model : SystemModel) (tasks : List TaskDef) → All IsTaskNamed tasks → AreNamed model → AreNamed (record model { tasks = tasks })
other_tasks model tasks all h = record { cores = h.cores; stimuli = h.stimuli; labels = h.labels; tasks = all; chains = h.chains; requirements = h.requirements }

other_chains : (model : SystemModel) (chains : List ChainDef) → All IsChainNamed chains → AreNamed model → AreNamed (record model { chains = chains })
other_chains model chains all h = record { cores = h.cores; stimuli = h.stimuli; labels = h.labels; tasks = h.tasks; chains = all; requirements = h.requirements }

other_requirements : (model : SystemModel) (requirements : List RequirementDef) → All IsRequirementNamed requirements → AreNamed model → AreNamed (record model { requirements = requirements })
other_requirements model requirements all h = record { cores = h.cores; stimuli = h.stimuli; labels = h.labels; tasks = h.tasks; chains = h.chains; requirements = all }

-- a stimulus of another kind
other_kind : (model : SystemModel) (s : ℕ) (f : StimulusKind → StimulusKind) → AreNamed model
    → AreNamed (record model { stimuli = set model.stimuli s (record (get_or model.stimuli s no_stimulus_def) { kind = f (get_or model.stimuli s no_stimulus_def).kind }) })
other_kind model s f h = record {
  cores = h.cores;
  stimuli = changed_all (λ (stimulus : StimulusDef). IsName stimulus.name) (λ stimulus. record stimulus { kind = f stimulus.kind }) (λ stimulus k. k) model.stimuli s no_stimulus_def h.stimuli;
  labels = h.labels;
  tasks = h.tasks;
  chains = h.chains;
  requirements = h.requirements;
}

-- a task that is changed and keeps its names
other_task : (model : SystemModel) (i : ℕ) (f : TaskDef → TaskDef) → ((t : TaskDef) → IsTaskNamed t → IsTaskNamed (f t)) → AreNamed model
    → AreNamed (record model { tasks = set model.tasks i (f (get_or model.tasks i no_task)) })
other_task model i f keep h =
    other_tasks model (set model.tasks i (f (get_or model.tasks i no_task))) (changed_all IsTaskNamed f keep model.tasks i no_task h.tasks) h

other_runnable : (p : ℕ) (f : RunnableDef → RunnableDef) → ((r : RunnableDef) → IsRunnableNamed r → IsRunnableNamed (f r)) → (t : TaskDef) → IsTaskNamed t
    → IsTaskNamed (record t { runnables = set t.runnables p (f (get_or t.runnables p no_runnable)) })
other_runnable p f keep t h = record {
  name = h.name;
  core = h.core;
  stimulus = h.stimulus;
  runnables = changed_all IsRunnableNamed f keep t.runnables p no_runnable h.runnables;
}

-- tasks of other priorities
other_priorities : (model : SystemModel) (priorities : List TaskPriority) → AreNamed model → AreNamed (with_priorities model priorities)
other_priorities model [] h = h
other_priorities model (it ∷ priorities) h =
    other_priorities (with_priority model it.task it.priority) priorities
    (other_task model it.task (λ t. record t { priority = it.priority }) (λ t k. record { name = k.name; core = k.core; stimulus = k.stimulus; runnables = k.runnables }) h)

-- a requirement that is set
other_requirement : (model : SystemModel) (requirement : RequirementDef) (place : Option ℕ) → IsRequirementNamed requirement → AreNamed model → AreNamed (with_change model (requirement_change place requirement))
other_requirement model requirement (Some r) good h =
    other_requirements model (set model.requirements r requirement) (changed_all IsRequirementNamed (λ _. requirement) (λ _ _. good) model.requirements r requirement h.requirements) h
other_requirement model requirement None good h = other_requirements model (model.requirements ++ requirement ∷ [])
    (All-append IsRequirementNamed model.requirements (requirement ∷ []) h.requirements (All-cons IsRequirementNamed requirement [] good (All-nil IsRequirementNamed))) h

-- ---- edits

edits_keep_names : (model : SystemModel) (edit : Edit) → AreNamed model → IsEditNamed edit → AreNamed (with_edit model edit)
unfolding with_edit change_of
edits_keep_names model (Range runnable least greatest) h good =
    other_task model (step_named model runnable).task _ (other_runnable (step_named model runnable).place (λ r. record r { least = least; greatest = greatest })
    (λ r k. record { name = k.name; reads = k.reads; writes = k.writes })) h
edits_keep_names model (Whole runnable whole) h good =
    other_task model (step_named model runnable).task _ (other_runnable (step_named model runnable).place (λ r. record r { whole = whole })
    (λ r k. record { name = k.name; reads = k.reads; writes = k.writes })) h
edits_keep_names model (Period stimulus period) h good = other_kind model (stimulus_number model stimulus) (with_period period) h
edits_keep_names model (Offset stimulus offset) h good = other_kind model (stimulus_number model stimulus) (with_offset offset) h
edits_keep_names model (Jitter stimulus jitter) h good = other_kind model (stimulus_number model stimulus) (with_jitter jitter) h
edits_keep_names model (Distances stimulus least greatest) h good = other_kind model (stimulus_number model stimulus) (with_distances least greatest) h
edits_keep_names model (Burst stimulus period count distance) h good = other_kind model (stimulus_number model stimulus) (with_burst period count distance) h
edits_keep_names model (Deadline task deadline) h good =
    other_task model (task_number model task) (λ t. record t { deadline = deadline })
    (λ t k. record { name = k.name; core = k.core; stimulus = k.stimulus; runnables = k.runnables }) h
edits_keep_names model (Swap one other) h good = other_priorities model (exchanged model (task_number model one) (task_number model other)) h
edits_keep_names model (Priorities priorities) h good = other_priorities model (map (by_number model) priorities) h
edits_keep_names model (Move task core priority) h good =
    other_task model (task_number model task) (λ t. record t { core = core; priority = priority })
    (λ t k. record { name = k.name; core = good.1; stimulus = k.stimulus; runnables = k.runnables }) h
edits_keep_names model (Kind task access) h good =
    other_task model (task_number model task) (λ t. record t { access = access })
    (λ t k. record { name = k.name; core = k.core; stimulus = k.stimulus; runnables = k.runnables }) h
edits_keep_names model (AddTask task) h good = other_tasks model (model.tasks ++ task ∷ [])
    (All-append IsTaskNamed model.tasks (task ∷ []) h.tasks (All-cons IsTaskNamed task [] good (All-nil IsTaskNamed))) h
edits_keep_names model (DropTask task) h good = other_tasks model (remove model.tasks (task_number model task)) (removed_all IsTaskNamed model.tasks (task_number model task) h.tasks) h
edits_keep_names model (AddChain chain) h good = other_chains model (model.chains ++ chain ∷ [])
    (All-append IsChainNamed model.chains (chain ∷ []) h.chains (All-cons IsChainNamed chain [] good (All-nil IsChainNamed))) h
edits_keep_names model (DropChain chain) h good = other_chains model (remove model.chains (chain_number model chain)) (removed_all IsChainNamed model.chains (chain_number model chain) h.chains) h
edits_keep_names model (Requirement requirement) h good = other_requirement model requirement (requirement_named model requirement.name) good h
edits_keep_names model (DropRequirement requirement) h good =
    let r = unwrap_or (requirement_named model requirement) 0 in
    other_requirements model (remove model.requirements r) (removed_all IsRequirementNamed model.requirements r h.requirements) h
edits_keep_names model Report h good = h
edits_keep_names model Tighten h good = h
edits_keep_names model Verify h good = h

pub edited_named : (model : SystemModel) (edit : Edit) (changed : SystemModel) → AreNamed model → IsEditNamed edit → edited model edit ≡ Ok changed → AreNamed changed
edited_named model edit changed named good is = subst AreNamed (made_is model edit changed is) (edits_keep_names model edit named good)
