-- Edits in range keep a model in range.
use Rattle.std.proofs.Common.{◌≡◌, ℕ, zero, suc, ◌<◌, ◌≤◌, ◌||◌, List, [], ◌∷◌, ◌++◌, length, map, refl, sym, ap, ◌∙◌, subst, arith, get_or, set}
use Rattle.std.specs.Prelude.{Option, Some, None, unwrap_or, All, nat_lt, remove}
use Rattle.std.proofs.lemmas.List.{length-set, length-append}
use Rattle.std.proofs.lemmas.List.Elements.{All-nil, All-cons, All-tail, All-append, All-map}
use Rattle.std.proofs.lemmas.Bool.Decides.{nat_tests}
use Rattle.cl_model.specs.declared.{limits.TheConstants.{MOST_TICKS, MOST_PRIORITY, MOST_STIMULI, MOST_TASKS, MOST_RUNNABLES, MOST_CHAINS, MOST_REQUIRED, MOST_REQUIREMENTS}, refusal.Code.TheVariants.M10, place.Place.Place, model.SystemModel.SystemModel, stimulus.StimulusKind.StimulusKind}
use Rattle.cl_model.specs.{declared.{stimulus.StimulusDef.StimulusDef, task.{RunnableDef.RunnableDef, TaskDef.TaskDef}, chain.{ChainDef.ChainDef, RequirementDef.RequirementDef}, changes.TaskPriority.TaskPriority}, ByNumber.{stimulus_number, requirement_named, no_task, no_runnable}}
use Rattle.cl_model.specs.{Groups.step_named, Named.{has_name, requirement_names}, Place.section_place, Ranges.{IsTime, IsBurstCount, IsKindInRange, IsRunnableInRange, IsTaskInRange, IsChainInRange, IsInRange}, Refusals.unless, Changes.{no_stimulus_def, with_period, with_offset}}
use Rattle.cl_model.specs.Changes.{with_jitter, with_distances, with_burst, with_priority, with_priorities}
use Rattle.cl_model.specs.declared.place.Part.TheVariants as part
use Rattle.cl_model.specs.declared.stimulus.StimulusKind.TheVariants as pattern
use Rattle.cl_edit.specs.{declared.edit.Edit.{Edit, TheVariants.{Range, Whole, Period, Offset, Jitter, Distances, Burst, Deadline, Swap, Priorities, Move, Kind, AddTask, DropTask, AddChain, DropChain, Requirement, DropRequirement, Report, Tighten, Verify}}, Ranges.IsEditInRange}
use Rattle.cl_edit.specs.{Changing.{with_change, change_of, task_number, chain_number, by_number, requirement_change}, Edited.{edit_checks, with_edit}}
use Rattle.cl_edit.proofs.FoundFacts.{missing_unknown}

-- ---- lists

-- what holds of each item holds after one is changed in a way that keeps it
pub changed_all : {X : Type 0} (P : X → Type 0) (f : X → X) → ((x : X) → P x → P (f x)) → (xs : List X) (i : ℕ) (d : X) → All P xs → All P (set xs i (f (get_or xs i d)))
changed_all P f keep [] i d h = h
changed_all P f keep (x ∷ xs) zero d h = All-cons P (f x) xs (keep x (h zero x (omega arith))) (All-tail P x xs h)
changed_all P f keep (x ∷ xs) (suc i) d h = All-cons P x (set xs i (f (get_or xs i d))) (h zero x (omega arith)) (changed_all P f keep xs i d (All-tail P x xs h))

pub removed_all : {X : Type 0} (P : X → Type 0) (xs : List X) (i : ℕ) → All P xs → All P (remove xs i)
removed_all P [] zero h = h
removed_all P [] (suc i) h = h
removed_all P (x ∷ xs) zero h = All-tail P x xs h
removed_all P (x ∷ xs) (suc i) h = All-cons P x (remove xs i) (h zero x (omega arith)) (removed_all P xs i (All-tail P x xs h))

removed_length : {X : Type 0} (xs : List X) (i : ℕ) → length (remove xs i) ≤ length xs
removed_length [] zero = omega arith
removed_length [] (suc i) = omega arith
removed_length (x ∷ xs) zero = omega arith
removed_length (x ∷ xs) (suc i) = let rest : length (remove xs i) ≤ length xs = removed_length xs i in omega arith

-- there is room where M10 passes
room : (n most : ℕ) (place : Place) → unless (nat_lt n most) M10 place ≡ [] → n < most
room n most place e = grind (arith, nat_tests)

-- what a requirement asks is in range
abbrev IsRequirementInRange : RequirementDef → Type 0
IsRequirementInRange requirement = requirement.most ≤ MOST_REQUIRED

-- ---- sections

-- other tasks
tasks_in_range : (model : SystemModel) (tasks : List TaskDef) → length tasks ≤ MOST_TASKS → All IsTaskInRange tasks → IsInRange model → IsInRange (record model { tasks = tasks })
tasks_in_range model tasks count all h = record {
  counts = record { cores = h.counts.cores; stimuli = h.counts.stimuli; labels = h.counts.labels; tasks = count; chains = h.counts.chains; requirements = h.counts.requirements };
  stimuli = h.stimuli;
  tasks = all;
  chains = h.chains;
  requirements = h.requirements;
}

stimuli_in_range : (model : SystemModel) (i : ℕ) (f : StimulusKind → StimulusKind) → ((k : StimulusKind) → IsKindInRange k → IsKindInRange (f k)) → IsInRange model
    → IsInRange (record model { stimuli = set model.stimuli i (record (get_or model.stimuli i no_stimulus_def) { kind = f (get_or model.stimuli i no_stimulus_def).kind }) })
stimuli_in_range model i f keep h =
    let stimuli : List StimulusDef = set model.stimuli i (record (get_or model.stimuli i no_stimulus_def) { kind = f (get_or model.stimuli i no_stimulus_def).kind }) in
    let same : length stimuli ≡ length model.stimuli = length-set model.stimuli i (record (get_or model.stimuli i no_stimulus_def) { kind = f (get_or model.stimuli i no_stimulus_def).kind }) in
    record {
      counts = record { cores = h.counts.cores; stimuli = subst (λ n. n ≤ MOST_STIMULI) (sym same) h.counts.stimuli; labels = h.counts.labels; tasks = h.counts.tasks; chains = h.counts.chains; requirements = h.counts.requirements };
      stimuli = changed_all (λ (s : StimulusDef). IsKindInRange s.kind) (λ s. record s { kind = f s.kind }) (λ s k. keep s.kind k) model.stimuli i no_stimulus_def h.stimuli;
      tasks = h.tasks;
      chains = h.chains;
      requirements = h.requirements;
    }

chains_in_range : (model : SystemModel) (chains : List ChainDef) → length chains ≤ MOST_CHAINS → All IsChainInRange chains → IsInRange model → IsInRange (record model { chains = chains })
chains_in_range model chains count all h = record {
  counts = record { cores = h.counts.cores; stimuli = h.counts.stimuli; labels = h.counts.labels; tasks = h.counts.tasks; chains = count; requirements = h.counts.requirements };
  stimuli = h.stimuli;
  tasks = h.tasks;
  chains = all;
  requirements = h.requirements;
}

requirements_in_range : (model : SystemModel) (requirements : List RequirementDef) → length requirements ≤ MOST_REQUIREMENTS → All IsRequirementInRange requirements → IsInRange model
    → IsInRange (record model { requirements = requirements })
requirements_in_range model requirements count all h = record {
  counts = record { cores = h.counts.cores; stimuli = h.counts.stimuli; labels = h.counts.labels; tasks = h.counts.tasks; chains = h.counts.chains; requirements = count };
  stimuli = h.stimuli;
  tasks = h.tasks;
  chains = h.chains;
  requirements = all;
}

-- one task changed in a way that keeps it in range
task_in_range : (model : SystemModel) (i : ℕ) (f : TaskDef → TaskDef) → ((t : TaskDef) → IsTaskInRange t → IsTaskInRange (f t)) → IsInRange model
    → IsInRange (record model { tasks = set model.tasks i (f (get_or model.tasks i no_task)) })
task_in_range model i f keep h =
    tasks_in_range model (set model.tasks i (f (get_or model.tasks i no_task)))
    (subst (λ n. n ≤ MOST_TASKS) (sym (length-set model.tasks i (f (get_or model.tasks i no_task)))) h.counts.tasks)
    (changed_all IsTaskInRange f keep model.tasks i no_task h.tasks) h

-- one runnable of a task changed in a way that keeps it in range
runnable_in_range : (p : ℕ) (f : RunnableDef → RunnableDef) → ((r : RunnableDef) → IsRunnableInRange r → IsRunnableInRange (f r)) → (t : TaskDef) → IsTaskInRange t
    → IsTaskInRange (record t { runnables = set t.runnables p (f (get_or t.runnables p no_runnable)) })
runnable_in_range p f keep t h = record {
  priority = h.priority;
  deadline = h.deadline;
  count = subst (λ n. n ≤ MOST_RUNNABLES) (sym (length-set t.runnables p (f (get_or t.runnables p no_runnable)))) h.count;
  runnables = changed_all IsRunnableInRange f keep t.runnables p no_runnable h.runnables;
}

with_priority_in_range : (priority : ℕ) → priority ≤ MOST_PRIORITY → (t : TaskDef) → IsTaskInRange t → IsTaskInRange (record t { priority = priority })
with_priority_in_range priority high t h = record { priority = high; deadline = h.deadline; count = h.count; runnables = h.runnables }

-- the priority of a task is in range, of one past the last too
priority_in_range : (tasks : List TaskDef) (i : ℕ) → All IsTaskInRange tasks → (get_or tasks i no_task).priority ≤ MOST_PRIORITY
unfolding no_task
priority_in_range [] i h = omega arith
priority_in_range (t ∷ tasks) zero h = (h zero t (omega arith)).priority
priority_in_range (t ∷ tasks) (suc i) h = priority_in_range tasks i (All-tail IsTaskInRange t tasks h)

-- tasks with other priorities
abbrev IsRankInRange : TaskPriority → Type 0
IsRankInRange it = it.priority ≤ MOST_PRIORITY

priorities_in_range : (model : SystemModel) (priorities : List TaskPriority) → All IsRankInRange priorities → IsInRange model → IsInRange (with_priorities model priorities)
priorities_in_range model [] each h = h
priorities_in_range model (it ∷ priorities) each h =
    priorities_in_range (with_priority model it.task it.priority) priorities (All-tail IsRankInRange it priorities each)
    (task_in_range model it.task (λ t. record t { priority = it.priority }) (with_priority_in_range it.priority (each zero it (omega arith))) h)

-- ---- requirements

-- a requirement that is set
requirement_in_range : (model : SystemModel) (requirement : RequirementDef) (place : Option ℕ) → requirement_named model requirement.name ≡ place → IsInRange model → IsRequirementInRange requirement
    → edit_checks model (Requirement requirement) ≡ [] → IsInRange (with_change model (requirement_change place requirement))
unfolding edit_checks
requirement_in_range model requirement (Some r) is h good e =
    requirements_in_range model (set model.requirements r requirement) (subst (λ n. n ≤ MOST_REQUIREMENTS) (sym (length-set model.requirements r requirement)) h.counts.requirements)
    (changed_all IsRequirementInRange (λ _. requirement) (λ _ _. good) model.requirements r requirement h.requirements) h
requirement_in_range model requirement None is h good e =
    let name = has_name requirement.name (requirement_names model) in
    let space : length model.requirements < MOST_REQUIREMENTS =
    room (length model.requirements) MOST_REQUIREMENTS (section_place part.Requirement)
    (ap (λ b. unless (b || nat_lt (length model.requirements) MOST_REQUIREMENTS) M10 (section_place part.Requirement)) (sym (missing_unknown requirement.name (requirement_names model) is)) ∙ e) in
    requirements_in_range model (model.requirements ++ requirement ∷ []) (omega (arith, length-append model.requirements (requirement ∷ [])))
    (All-append IsRequirementInRange model.requirements (requirement ∷ []) h.requirements (All-cons IsRequirementInRange requirement [] good (All-nil IsRequirementInRange))) h

-- ---- kinds

period_kept : (period : ℕ) → IsTime period → (k : StimulusKind) → IsKindInRange k → IsKindInRange (with_period period k)
period_kept period good (pattern.Periodic _ offset jitter) h = (good, h.1, h.2)
period_kept period good (pattern.Sporadic least greatest) h = h
period_kept period good (pattern.Burst _ offset count distance) h = h

offset_kept : (offset : ℕ) → offset ≤ MOST_TICKS → (k : StimulusKind) → IsKindInRange k → IsKindInRange (with_offset offset k)
offset_kept offset good (pattern.Periodic period _ jitter) h = (h.0, good, h.2)
offset_kept offset good (pattern.Sporadic least greatest) h = h
offset_kept offset good (pattern.Burst period _ count distance) h = (h.0, good, h.2, h.3)

jitter_kept : (jitter : ℕ) → jitter ≤ MOST_TICKS → (k : StimulusKind) → IsKindInRange k → IsKindInRange (with_jitter jitter k)
jitter_kept jitter good (pattern.Periodic period offset _) h = (h.0, h.1, good)
jitter_kept jitter good (pattern.Sporadic least greatest) h = h
jitter_kept jitter good (pattern.Burst period offset count distance) h = h

distances_kept : (least greatest : ℕ) → IsTime least → IsTime greatest → (k : StimulusKind) → IsKindInRange k → IsKindInRange (with_distances least greatest k)
distances_kept least greatest good great (pattern.Periodic period offset jitter) h = h
distances_kept least greatest good great (pattern.Sporadic _ _) h = (good, great)
distances_kept least greatest good great (pattern.Burst period offset count distance) h = h

burst_kept : (period count distance : ℕ) → IsTime period → IsBurstCount count → IsTime distance → (k : StimulusKind) → IsKindInRange k → IsKindInRange (with_burst period count distance k)
burst_kept period count distance p n d (pattern.Periodic _ offset jitter) h = h
burst_kept period count distance p n d (pattern.Sporadic least greatest) h = h
burst_kept period count distance p n d (pattern.Burst _ offset _ _) h = (p, h.1, n, d)

-- ---- edits

-- an edit in range that passes the first checks keeps a model in range
pub edits_keep_range : (model : SystemModel) (edit : Edit) → IsInRange model → IsEditInRange edit → edit_checks model edit ≡ [] → IsInRange (with_edit model edit)
unfolding with_edit change_of edit_checks
edits_keep_range model (Range runnable least greatest) h good e =
    task_in_range model (step_named model runnable).task _ (runnable_in_range (step_named model runnable).place (λ r. record r { least = least; greatest = greatest })
    (λ r k. record { least = good.0; greatest = good.1; reads = k.reads; writes = k.writes })) h
edits_keep_range model (Whole runnable whole) h good e =
    task_in_range model (step_named model runnable).task _ (runnable_in_range (step_named model runnable).place (λ r. record r { whole = whole })
    (λ r k. record { least = k.least; greatest = k.greatest; reads = k.reads; writes = k.writes })) h
edits_keep_range model (Period stimulus period) h good e = stimuli_in_range model (stimulus_number model stimulus) (with_period period) (period_kept period good) h
edits_keep_range model (Offset stimulus offset) h good e = stimuli_in_range model (stimulus_number model stimulus) (with_offset offset) (offset_kept offset good) h
edits_keep_range model (Jitter stimulus jitter) h good e = stimuli_in_range model (stimulus_number model stimulus) (with_jitter jitter) (jitter_kept jitter good) h
edits_keep_range model (Distances stimulus least greatest) h good e = stimuli_in_range model (stimulus_number model stimulus) (with_distances least greatest) (distances_kept least greatest good.0 good.1) h
edits_keep_range model (Burst stimulus period count distance) h good e = stimuli_in_range model (stimulus_number model stimulus) (with_burst period count distance) (burst_kept period count distance good.0 good.1 good.2) h
edits_keep_range model (Deadline task deadline) h good e =
    task_in_range model (task_number model task) (λ t. record t { deadline = deadline }) (λ t k. record { priority = k.priority; deadline = good; count = k.count; runnables = k.runnables }) h
edits_keep_range model (Swap one other) h good e =
    let i : ℕ = task_number model one in
    let j : ℕ = task_number model other in
    let mine : TaskPriority = record { task = i; priority = (get_or model.tasks j no_task).priority } in
    let its : TaskPriority = record { task = j; priority = (get_or model.tasks i no_task).priority } in
    priorities_in_range model (mine ∷ its ∷ [])
    (All-cons IsRankInRange mine (its ∷ []) (priority_in_range model.tasks j h.tasks) (All-cons IsRankInRange its [] (priority_in_range model.tasks i h.tasks) (All-nil IsRankInRange))) h
edits_keep_range model (Priorities priorities) h good e =
    priorities_in_range model (map (by_number model) priorities) (All-map IsRankInRange (by_number model) priorities good.each) h
edits_keep_range model (Move task core priority) h good e =
    task_in_range model (task_number model task) (λ t. record t { core = core; priority = priority }) (λ t k. record { priority = good; deadline = k.deadline; count = k.count; runnables = k.runnables }) h
edits_keep_range model (Kind task access) h good e =
    task_in_range model (task_number model task) (λ t. record t { access = access }) (λ t k. record { priority = k.priority; deadline = k.deadline; count = k.count; runnables = k.runnables }) h
edits_keep_range model (AddTask task) h good e =
    let space : length model.tasks < MOST_TASKS = room (length model.tasks) MOST_TASKS (section_place part.Task) e in
    tasks_in_range model (model.tasks ++ task ∷ []) (omega (arith, length-append model.tasks (task ∷ []))) (All-append IsTaskInRange model.tasks (task ∷ []) h.tasks (All-cons IsTaskInRange task [] good (All-nil IsTaskInRange))) h
edits_keep_range model (DropTask task) h good e =
    let fewer : length (remove model.tasks (task_number model task)) ≤ length model.tasks = removed_length model.tasks (task_number model task) in
    let few : length model.tasks ≤ MOST_TASKS = h.counts.tasks in
    tasks_in_range model (remove model.tasks (task_number model task)) (omega arith) (removed_all IsTaskInRange model.tasks (task_number model task) h.tasks) h
edits_keep_range model (AddChain chain) h good e =
    let space : length model.chains < MOST_CHAINS = room (length model.chains) MOST_CHAINS (section_place part.Chain) e in
    chains_in_range model (model.chains ++ chain ∷ []) (omega (arith, length-append model.chains (chain ∷ []))) (All-append IsChainInRange model.chains (chain ∷ []) h.chains (All-cons IsChainInRange chain [] good (All-nil IsChainInRange))) h
edits_keep_range model (DropChain chain) h good e =
    let fewer : length (remove model.chains (chain_number model chain)) ≤ length model.chains = removed_length model.chains (chain_number model chain) in
    let few : length model.chains ≤ MOST_CHAINS = h.counts.chains in
    chains_in_range model (remove model.chains (chain_number model chain)) (omega arith) (removed_all IsChainInRange model.chains (chain_number model chain) h.chains) h
edits_keep_range model (Requirement requirement) h good e = requirement_in_range model requirement (requirement_named model requirement.name) refl h good e
edits_keep_range model (DropRequirement requirement) h good e =
    let r : ℕ = unwrap_or (requirement_named model requirement) 0 in
    let fewer : length (remove model.requirements r) ≤ length model.requirements = removed_length model.requirements r in
    let few : length model.requirements ≤ MOST_REQUIREMENTS = h.counts.requirements in
    requirements_in_range model (remove model.requirements r) (omega arith) (removed_all IsRequirementInRange model.requirements r h.requirements) h
edits_keep_range model Report h good e = h
edits_keep_range model Tighten h good e = h
edits_keep_range model Verify h good e = h
