-- What a change of a model keeps of what stands beside it: all that rests on what tasks name alone.
use Rattle.std.proofs.Common.{◌≡◌, ℕ, zero, suc, ◌+◌, ◌-◌, ◌<◌, ◌≤◌, cond, ◌==◌, List, [], ◌∷◌, ◌++◌, length, get_or, set, map, refl, sym, subst, ap, ◌∙◌, arith, nat_lt}
use Rattle.std.specs.Prelude.{Bool, Option, unwrap_or, sum_by}
use Rattle.std.specs.List.{range_with_len}
use Rattle.std.proofs.lemmas.List.{length-map, get_or-map, get_or_default, get_or-set_same, length-set, map-append, map-set}
use Rattle.std.proofs.lemmas.List.Sums.{sum_by-set}
use Rattle.std.proofs.lemmas.Simd.{map-map}
use Rattle.std.proofs.Math.Seq.{map-set_same}
use Rattle.cl_model.specs.declared.{changes.TaskPriority.TaskPriority, chain.ChainDef.ChainDef, group.Step.Step, groups.StepTable.StepTable, look_ups.{LookUps.LookUps, SectionNames.SectionNames}, model.{CoreDef.CoreDef, SystemModel.SystemModel}, stimulus.StimulusDef.StimulusDef}
use Rattle.cl_model.specs.{declared.{stimulus.StimulusKind.StimulusKind, task.{AccessKind.AccessKind, RunnableDef.RunnableDef, TaskDef.TaskDef}, valid_model.ValidModel.TheInside.Inside}, ByNumber.{no_task, task_at, no_runnable, runnable_at, core_number, stimulus_number, core_of}}
use Rattle.cl_model.specs.{ByNumber.{greatest_time, tasks_of_core_below, tasks_of_core}, Changes.{with_task, with_runnable, with_range, with_whole, with_kind, stimulus_at, no_stimulus_def, with_deadline, with_priority, with_priorities, with_access}, Groups.{step_from, step_named, groups}}
use Rattle.cl_model.specs.{Groups.{groups_of, IsStepOf}, Ranges.IsTaskInRange, Named.{index_of, core_names, stimulus_names, task_names, requirement_names, runnable_names, all_runnables}, Inner.{LookUps.{AreNamesOf, AreLookUpsOf, HasItsLookUps}, StepTable.{steps_in, steps_from}}}
use Rattle.cl_model.specs.{Inner.StepTable.AreStepsOf, Validity.IsValid}
use Rattle.cl_model.proofs.{CoreTasks.below_more, ListFacts.maps_agree}

-- ---- the names of the runnables of each task, and what rests on them

abbrev pub names_in : TaskDef → List (List ℕ)
names_in task = runnable_names task.runnables

-- the names of lists, one after the other
abbrev joined : List (List (List ℕ)) → List (List ℕ)
joined [] = []
joined (names ∷ lists) = names ++ joined lists

-- the step of name n, counted over lists of names
abbrev step_in_lists : (i : ℕ) → List (List (List ℕ)) → (n : ℕ) → Step
step_in_lists i [] n = record { task = i; place = n }
step_in_lists i (names ∷ lists) n = cond (nat_lt n (length names)) (record { task = i; place = n }) (step_in_lists (i + 1) lists (n - length names))

abbrev steps_in_lists : (i : ℕ) → List (List (List ℕ)) → List Step
steps_in_lists i [] = []
steps_in_lists i (names ∷ lists) = steps_in i (length names) ++ steps_in_lists (i + 1) lists

long : (task : TaskDef) → length (names_in task) ≡ length task.runnables
long task = length-map task.runnables (λ runnable. runnable.name)

names_joined : (tasks : List TaskDef) → runnable_names (all_runnables tasks) ≡ joined (map names_in tasks)
names_joined [] = refl
names_joined (task ∷ tasks) = map-append (λ runnable. runnable.name) task.runnables (all_runnables tasks) ∙ ap (λ names. names_in task ++ names) (names_joined tasks)

step_by_lists : (i : ℕ) (tasks : List TaskDef) (n : ℕ) → step_from i tasks n ≡ step_in_lists i (map names_in tasks) n
step_by_lists i [] n = refl
step_by_lists i (task ∷ tasks) n =
    ap (λ step. cond (nat_lt n (length task.runnables)) (record { task = i; place = n }) step) (step_by_lists (i + 1) tasks (n - length task.runnables))
    ∙ ap (λ k. cond (nat_lt n k) (record { task = i; place = n }) (step_in_lists (i + 1) (map names_in tasks) (n - k))) (sym (long task))

steps_by_lists : (i : ℕ) (tasks : List TaskDef) → steps_from i tasks ≡ steps_in_lists i (map names_in tasks)
steps_by_lists i [] = refl
steps_by_lists i (task ∷ tasks) =
    ap (λ steps. steps_in i (length task.runnables) ++ steps) (steps_by_lists (i + 1) tasks)
    ∙ ap (λ k. steps_in i k ++ steps_in_lists (i + 1) (map names_in tasks)) (sym (long task))

-- the number of a name: 0 where there is none
abbrev number_in : (names : List (List ℕ)) → List ℕ → ℕ
number_in names name = unwrap_or (index_of name names) 0

-- what rests on the names of the runnables of each task
module _ (old new : SystemModel) (runnables : map names_in new.tasks ≡ map names_in old.tasks) where
  same_names : runnable_names (all_runnables new.tasks) ≡ runnable_names (all_runnables old.tasks)
  same_names = names_joined new.tasks ∙ ap joined runnables ∙ sym (names_joined old.tasks)

  same_steps : steps_from 0 new.tasks ≡ steps_from 0 old.tasks
  same_steps = steps_by_lists 0 new.tasks ∙ ap (steps_in_lists 0) runnables ∙ sym (steps_by_lists 0 old.tasks)

  pub same_step : (name : List ℕ) → step_named new name ≡ step_named old name
  same_step name =
      ap (λ names. step_from 0 new.tasks (unwrap_or (index_of name names) 0)) same_names
      ∙ step_by_lists 0 new.tasks (number_in (runnable_names (all_runnables old.tasks)) name)
      ∙ ap (λ lists. step_in_lists 0 lists (number_in (runnable_names (all_runnables old.tasks)) name)) runnables
      ∙ sym (step_by_lists 0 old.tasks (number_in (runnable_names (all_runnables old.tasks)) name))

  same_groups : (chain : ChainDef) → groups_of new chain ≡ groups_of old chain
  unfolding groups_of
  same_groups chain = ap groups (maps_agree (step_named new) (step_named old) same_step chain.runnables)

  -- the tables of steps and of groups stay
  pub steps_stay : (table : StepTable) → AreStepsOf old.tasks table → AreStepsOf new.tasks table
  steps_stay table are = record { names = are.names ∙ sym same_names; steps = are.steps ∙ sym same_steps }

  pub groups_stay : new.chains ≡ old.chains → map (groups_of old) old.chains ≡ map (groups_of new) new.chains
  groups_stay chains = sym (maps_agree (groups_of new) (groups_of old) same_groups new.chains ∙ ap (map (groups_of old)) chains)

-- ---- a change that keeps what tasks name

pub record IsNamingKept (old new : SystemModel) : Type 0 where
  pub cores : new.cores ≡ old.cores
  pub chains : new.chains ≡ old.chains
  pub requirements : requirement_names new ≡ requirement_names old
  pub stimuli : stimulus_names new ≡ stimulus_names old
  pub name : task_names new ≡ task_names old
  pub core : map (λ (task : TaskDef). task.core) new.tasks ≡ map (λ (task : TaskDef). task.core) old.tasks
  pub stimulus : map (λ (task : TaskDef). task.stimulus) new.tasks ≡ map (λ (task : TaskDef). task.stimulus) old.tasks
  pub runnables : map names_in new.tasks ≡ map names_in old.tasks

module _ (old new : SystemModel) (kept : IsNamingKept old new) where
  same_cores : core_names new ≡ core_names old
  same_cores = ap (map (λ (core : CoreDef). core.name)) kept.cores

  core_numbers : map (core_number new) new.tasks ≡ map (core_number old) old.tasks
  core_numbers =
      sym (map-map (number_in (core_names new)) (λ (task : TaskDef). task.core) new.tasks) ∙ ap (map (number_in (core_names new))) kept.core
      ∙ ap (λ names. map (number_in names) (map (λ (task : TaskDef). task.core) old.tasks)) same_cores ∙ map-map (number_in (core_names old)) (λ (task : TaskDef). task.core) old.tasks

  stimulus_numbers : map (λ (task : TaskDef). stimulus_number new task.stimulus) new.tasks ≡ map (λ (task : TaskDef). stimulus_number old task.stimulus) old.tasks
  stimulus_numbers =
      sym (map-map (number_in (stimulus_names new)) (λ (task : TaskDef). task.stimulus) new.tasks) ∙ ap (map (number_in (stimulus_names new))) kept.stimulus
      ∙ ap (λ names. map (number_in names) (map (λ (task : TaskDef). task.stimulus) old.tasks)) kept.stimuli ∙ map-map (number_in (stimulus_names old)) (λ (task : TaskDef). task.stimulus) old.tasks

  same_count : length new.tasks ≡ length old.tasks
  same_count =
      sym (length-map new.tasks (λ (task : TaskDef). task.name)) ∙ ap length kept.name ∙ length-map old.tasks (λ (task : TaskDef). task.name)

  same_core_of : (i : ℕ) → i < length new.tasks → core_of new i ≡ core_of old i
  same_core_of i lt =
      sym (get_or-map (core_number new) new.tasks i no_task 0 lt) ∙ ap (λ numbers. get_or numbers i 0) core_numbers
      ∙ get_or-map (core_number old) old.tasks i no_task 0 (omega (arith, lt, same_count))

  same_below : (core n : ℕ) → n ≤ length new.tasks → tasks_of_core_below new n core ≡ tasks_of_core_below old n core
  same_below core zero le = refl
  same_below core (suc n) le =
      let more : suc n ≡ n + 1 = omega arith in
      ap (λ k. tasks_of_core_below new k core) more ∙ below_more new n core
      ∙ ap (λ tasks. tasks ++ cond (core_of new n == core) (n ∷ []) []) (same_below core n (omega arith))
      ∙ ap (λ k. tasks_of_core_below old n core ++ cond (k == core) (n ∷ []) []) (same_core_of n (omega arith))
      ∙ sym (ap (λ k. tasks_of_core_below old k core) more ∙ below_more old n core)

  same_tasks_of_core : (core : ℕ) → tasks_of_core new core ≡ tasks_of_core old core
  same_tasks_of_core core = same_below core (length new.tasks) (omega arith) ∙ ap (λ n. tasks_of_core_below old n core) same_count

  on_cores : map (tasks_of_core new) (range_with_len 0 (length new.cores)) ≡ map (tasks_of_core old) (range_with_len 0 (length old.cores))
  on_cores =
      maps_agree (tasks_of_core new) (tasks_of_core old) same_tasks_of_core (range_with_len 0 (length new.cores))
      ∙ ap (λ cores. map (tasks_of_core old) (range_with_len 0 (length cores))) kept.cores

  -- the names of the sections stay
  pub names_stay : (names : SectionNames) → AreNamesOf old names → AreNamesOf new names
  names_stay names are =
      record {
        cores = are.cores ∙ sym same_cores;
        stimuli = are.stimuli ∙ sym kept.stimuli;
        tasks = are.tasks ∙ sym kept.name;
        chains = are.chains ∙ sym (ap (map (λ (chain : ChainDef). chain.name)) kept.chains);
        requirements = are.requirements ∙ sym kept.requirements;
      }

  -- what is kept beside the model stays, but for the execution times
  pub look_ups_kept : (look_ups : LookUps) → AreLookUpsOf old look_ups → (mended : LookUps) → mended.tasks.times.items ≡ map greatest_time new.tasks
      → mended.names ≡ look_ups.names → mended.tasks.cores ≡ look_ups.tasks.cores → mended.tasks.stimuli ≡ look_ups.tasks.stimuli → mended.tasks.on_cores ≡ look_ups.tasks.on_cores
      → mended.steps ≡ look_ups.steps → mended.groups ≡ look_ups.groups → AreLookUpsOf new mended
  look_ups_kept look_ups are mended times names cores stimuli lists steps groups =
      record {
        names = subst (AreNamesOf new) (sym names) (names_stay look_ups.names are.names);
        tasks = record {
          cores = ap (λ kept. kept.items) cores ∙ are.tasks.cores ∙ sym core_numbers;
          stimuli = ap (λ kept. kept.items) stimuli ∙ are.tasks.stimuli ∙ sym stimulus_numbers;
          times = times;
          on_cores = ap (λ kept. kept.items) lists ∙ are.tasks.on_cores ∙ sym on_cores;
        };
        steps = subst (AreStepsOf new.tasks) (sym steps) (steps_stay old new kept.runnables look_ups.steps are.steps);
        groups = ap (λ kept. kept.items) groups ∙ are.groups ∙ groups_stay old new kept.runnables kept.chains;
      }

-- ---- the changes that do

-- another task at a place, which names what the one before it names
pub task_keeps : (model : SystemModel) (i : ℕ) (task : TaskDef) → task.name ≡ (task_at model i).name → task.core ≡ (task_at model i).core → task.stimulus ≡ (task_at model i).stimulus
    → names_in task ≡ names_in (task_at model i) → IsNamingKept model (with_task model i task)
task_keeps model i task name core stimulus runnables =
    record {
      cores = refl;
      chains = refl;
      requirements = refl;
      stimuli = refl;
      name = map-set_same (λ (t : TaskDef). t.name) model.tasks i task no_task name;
      core = map-set_same (λ (t : TaskDef). t.core) model.tasks i task no_task core;
      stimulus = map-set_same (λ (t : TaskDef). t.stimulus) model.tasks i task no_task stimulus;
      runnables = map-set_same names_in model.tasks i task no_task runnables;
    }

-- and runs as long
pub times_kept : (model : SystemModel) (i : ℕ) (task : TaskDef) → greatest_time task ≡ greatest_time (task_at model i) → map greatest_time (with_task model i task).tasks ≡ map greatest_time model.tasks
times_kept model i task same = map-set_same greatest_time model.tasks i task no_task same

-- or has another time
pub times_mended : (model : SystemModel) (i : ℕ) (task : TaskDef) (times : List ℕ) → times ≡ map greatest_time model.tasks → set times i (greatest_time task) ≡ map greatest_time (with_task model i task).tasks
times_mended model i task times are = ap (λ ts. set ts i (greatest_time task)) are ∙ sym (map-set greatest_time model.tasks i task)

-- another runnable at a place of a task, of the same name
pub runnable_keeps : (model : SystemModel) (step : Step) (runnable : RunnableDef) → runnable.name ≡ (runnable_at model step).name → IsNamingKept model (with_runnable model step runnable)
runnable_keeps model step runnable name =
    let task = task_at model step.task in
    task_keeps model step.task (record task { runnables = set task.runnables step.place runnable }) refl refl refl
    (map-set_same (λ (r : RunnableDef). r.name) task.runnables step.place runnable no_runnable name)

-- another kind of a stimulus
pub kind_keeps : (model : SystemModel) (s : ℕ) (change : StimulusKind → StimulusKind) → IsNamingKept model (with_kind model s change)
kind_keeps model s change =
    record {
      cores = refl;
      chains = refl;
      requirements = refl;
      stimuli = map-set_same (λ (stimulus : StimulusDef). stimulus.name) model.stimuli s (record (stimulus_at model s) { kind = change (stimulus_at model s).kind }) no_stimulus_def refl;
      name = refl;
      core = refl;
      stimulus = refl;
      runnables = refl;
    }

-- ---- valid models

-- what stands beside a valid model stands beside one that names the same and runs as long
pub stands_beside : (old : Inside) → HasItsLookUps old → (new : SystemModel) → IsNamingKept old.model new → IsValid new → map greatest_time new.tasks ≡ map greatest_time old.model.tasks
    → HasItsLookUps (record { model = new; look_ups = old.look_ups })
stands_beside old has new kept valid same =
    record {
      valid = valid;
      look_ups = look_ups_kept old.model new kept old.look_ups has.look_ups old.look_ups (has.look_ups.tasks.times ∙ sym same) refl refl refl refl refl refl;
    }

-- a runnable of another kind runs as long
pub whole_stands : (old : Inside) → HasItsLookUps old → (step : Step) (whole : Bool) → IsStepOf old.model step → IsValid (with_whole old.model step whole)
    → HasItsLookUps (record { model = with_whole old.model step whole; look_ups = old.look_ups })
whole_stands old has step whole stands valid =
    let task = task_at old.model step.task in
    let before = runnable_at old.model step in
    let runnable : RunnableDef = record before { whole = whole } in
    let sums : sum_by (λ (r : RunnableDef). r.greatest) (set task.runnables step.place runnable) + before.greatest ≡ sum_by (λ (r : RunnableDef). r.greatest) task.runnables + before.greatest
    = sum_by-set (λ (r : RunnableDef). r.greatest) task.runnables step.place runnable no_runnable stands.place in
    let same : greatest_time (record task { runnables = set task.runnables step.place runnable }) ≡ greatest_time task = omega (arith, sums) in
    stands_beside old has (with_whole old.model step whole) (runnable_keeps old.model step runnable refl) valid
    (times_kept old.model step.task (record task { runnables = set task.runnables step.place runnable }) same)

-- another deadline, another kind of access
pub deadline_stands : (old : Inside) → HasItsLookUps old → (i : ℕ) (deadline : Option ℕ) → IsValid (with_deadline old.model i deadline) → HasItsLookUps (record { model = with_deadline old.model i deadline; look_ups = old.look_ups })
deadline_stands old has i deadline valid =
    let task : TaskDef = record (task_at old.model i) { deadline = deadline } in
    stands_beside old has (with_task old.model i task) (task_keeps old.model i task refl refl refl refl) valid (times_kept old.model i task refl)

pub access_stands : (old : Inside) → HasItsLookUps old → (i : ℕ) (access : AccessKind) → IsValid (with_access old.model i access) → HasItsLookUps (record { model = with_access old.model i access; look_ups = old.look_ups })
access_stands old has i access valid =
    let task : TaskDef = record (task_at old.model i) { access = access } in
    stands_beside old has (with_task old.model i task) (task_keeps old.model i task refl refl refl refl) valid (times_kept old.model i task refl)

-- other priorities
priority_keeps : (model : SystemModel) (i priority : ℕ) → IsNamingKept model (with_priority model i priority)
priority_keeps model i priority = task_keeps model i (record (task_at model i) { priority = priority }) refl refl refl refl

priority_times : (model : SystemModel) (i priority : ℕ) → map greatest_time (with_priority model i priority).tasks ≡ map greatest_time model.tasks
priority_times model i priority = times_kept model i (record (task_at model i) { priority = priority }) refl

both_kept : (one other third : SystemModel) → IsNamingKept one other → IsNamingKept other third → IsNamingKept one third
both_kept one other third first second =
    record {
      cores = second.cores ∙ first.cores;
      chains = second.chains ∙ first.chains;
      requirements = second.requirements ∙ first.requirements;
      stimuli = second.stimuli ∙ first.stimuli;
      name = second.name ∙ first.name;
      core = second.core ∙ first.core;
      stimulus = second.stimulus ∙ first.stimulus;
      runnables = second.runnables ∙ first.runnables;
    }

priorities_keep : (model : SystemModel) (priorities : List TaskPriority) → IsNamingKept model (with_priorities model priorities)
priorities_keep model [] = record { cores = refl; chains = refl; requirements = refl; stimuli = refl; name = refl; core = refl; stimulus = refl; runnables = refl }
priorities_keep model (it ∷ others) =
    let next = with_priority model it.task it.priority in
    both_kept model next (with_priorities next others) (priority_keeps model it.task it.priority) (priorities_keep next others)

priorities_times : (model : SystemModel) (priorities : List TaskPriority) → map greatest_time (with_priorities model priorities).tasks ≡ map greatest_time model.tasks
priorities_times model [] = refl
priorities_times model (it ∷ others) = priorities_times (with_priority model it.task it.priority) others ∙ priority_times model it.task it.priority

pub priorities_stand : (old : Inside) → HasItsLookUps old → (priorities : List TaskPriority) → IsValid (with_priorities old.model priorities)
    → HasItsLookUps (record { model = with_priorities old.model priorities; look_ups = old.look_ups })
priorities_stand old has priorities valid = stands_beside old has (with_priorities old.model priorities) (priorities_keep old.model priorities) valid (priorities_times old.model priorities)

-- another kind of a stimulus
pub kind_stands : (old : Inside) → HasItsLookUps old → (s : ℕ) (kind : StimulusKind) → IsValid (with_kind old.model s (λ _. kind)) → HasItsLookUps (record { model = with_kind old.model s (λ _. kind); look_ups = old.look_ups })
kind_stands old has s kind valid = stands_beside old has (with_kind old.model s (λ _. kind)) (kind_keeps old.model s (λ _. kind)) valid refl

-- other execution times, of which the greatest of the task is mended
pub range_stands : (old : Inside) → HasItsLookUps old → (step : Step) (least greatest : ℕ) → IsValid (with_range old.model step least greatest)
    → (mended : LookUps) → mended.tasks.times.items ≡ set old.look_ups.tasks.times.items step.task (greatest_time (task_at (with_range old.model step least greatest) step.task))
    → step.task < length old.model.tasks → mended.names ≡ old.look_ups.names → mended.tasks.cores ≡ old.look_ups.tasks.cores → mended.tasks.stimuli ≡ old.look_ups.tasks.stimuli
    → mended.tasks.on_cores ≡ old.look_ups.tasks.on_cores → mended.steps ≡ old.look_ups.steps → mended.groups ≡ old.look_ups.groups
    → HasItsLookUps (record { model = with_range old.model step least greatest; look_ups = mended })
range_stands old has step least greatest valid mended times within names cores stimuli lists steps groups =
    let model = old.model in
    let task = task_at model step.task in
    let runnable : RunnableDef = record (runnable_at model step) { least = least; greatest = greatest } in
    let changed : TaskDef = record task { runnables = set task.runnables step.place runnable } in
    let new = with_range model step least greatest in
    let here : task_at new step.task ≡ changed = get_or-set_same model.tasks step.task changed no_task within in
    record {
      valid = valid;
      look_ups =
          look_ups_kept model new (runnable_keeps model step runnable refl) old.look_ups has.look_ups mended
          (times ∙ ap (λ t. set old.look_ups.tasks.times.items step.task (greatest_time t)) here
          ∙ times_mended model step.task changed old.look_ups.tasks.times.items has.look_ups.tasks.times)
          names cores stimuli lists steps groups;
    }

-- the task whose runnable has other execution times
pub changed_task : (model : SystemModel) (step : Step) (least greatest : ℕ) (given : SystemModel) (tasks : List TaskDef) (task : TaskDef) → IsValid (with_range model step least greatest) → step.task < length model.tasks
    → given ≡ with_range model step least greatest → tasks ≡ given.tasks → task ≡ get_or tasks step.task task → (task ≡ task_at (with_range model step least greatest) step.task) × IsTaskInRange task
changed_task model step least greatest given tasks task valid within given_is tasks_are at =
    let new = with_range model step least greatest in
    let lt : step.task < length new.tasks = omega (arith, within, count) in
    let same : task ≡ get_or new.tasks step.task task = at ∙ ap (λ ts. get_or ts step.task task) (tasks_are ∙ ap (λ (m : SystemModel). m.tasks) given_is) in
    (same ∙ get_or_default new.tasks step.task task no_task lt, subst IsTaskInRange (sym same) (valid.in_range.tasks step.task task lt))
  where
    count : length (with_range model step least greatest).tasks ≡ length model.tasks
    count = length-set model.tasks step.task _
