-- A bare model: each greatest execution time is brought down to the least one. Where two models are the same when bare,
-- they differ in greatest times alone: if one is valid, all that is left to check of the other are the times.
use Rattle.std.proofs.Common.{◌≡◌, ℕ, ◌<◌, ◌≤◌, List, [], ◌∷◌, ◌++◌, length, get_or, map, refl, ap, ◌∙◌, arith}
use Rattle.std.specs.Prelude.{All}
use Rattle.std.specs.List.{list_any}
use Rattle.std.proofs.lemmas.Bool.{le-ltb}
use Rattle.std.proofs.lemmas.Simd.{map-map}
use Rattle.cl_model.specs.{declared.{model.SystemModel.SystemModel, refusal.{Code.TheVariants.{M36, M42}, Refusal.Refusal}, task.{RunnableDef.RunnableDef, TaskDef.TaskDef}}, ByNumber.{no_task, no_runnable}, Named.{kind_named, tasks_on}, NamedAlike.{named_runnable, named_task}}
use Rattle.cl_model.specs.{NamedAlike.AreNamedAlike, Place.{entry_of, at_key, at_sub}, Ranges.IsInRange, Refusals.{when, each}, ValidNames.stimulus_checks, ValidTasks.{task_key, late_check, release_check, times_check, is_outpaced_by, deadline_check, deadline_checks}, Validity.refusals_of}
use Rattle.cl_model.specs.Validity.{IsValid}
use Rattle.cl_model.specs.declared.place.Part.TheVariants as part
use Rattle.cl_model.specs.declared.place.Key.TheVariants as key
use Rattle.cl_model.proofs.{ChecksLeft.{placed, on_core_same, outpaced_same, times_checks, timing_check, task_passes, deadline_none, times_left_of}, EachFacts.each_nothing, NamedAlike.{at_same, length_same, maps_through}, NoRefusals.none_in_order, PassedChecks.stimuli_pass}

abbrev pub bare_runnable : RunnableDef → RunnableDef
bare_runnable runnable = record runnable { greatest = runnable.least }

abbrev pub bare_task : TaskDef → TaskDef
bare_task task = record task { runnables = map bare_runnable task.runnables }

unfoldable pub bare_model : SystemModel → SystemModel
bare_model model = record model { tasks = map bare_task model.tasks }

-- the times of a runnable are in order
abbrev pub IsOrdered : RunnableDef → Type 0
IsOrdered runnable = runnable.least ≤ runnable.greatest

-- so are those of all of a task
abbrev pub AreOrdered : TaskDef → Type 0
AreOrdered task = All IsOrdered task.runnables

-- a bare task has its names and labels
named_bare : (task : TaskDef) → named_task (bare_task task) ≡ named_task task
named_bare task = ap (λ (runnables : List RunnableDef). record (named_task task) { runnables = runnables }) (map-map named_runnable bare_runnable task.runnables)

-- times in order are refused nothing
times_pass : (i : ℕ) (task : TaskDef) → AreOrdered task → times_checks i task ≡ []
times_pass i task ordered =
    each_nothing (λ p runnable. times_check (at_sub p (entry_of part.Task i)) runnable) task.runnables no_runnable
    (λ p lt.
    let runnable = get_or task.runnables p no_runnable in
    ap (λ b. when b M36 (at_key key.Greatest (at_sub p (entry_of part.Task i)))) (le-ltb runnable.greatest runnable.least (ordered p no_runnable lt)))

-- ---- a valid model with tasks that differ from its own in greatest times alone

module _ (model : SystemModel) (valid : IsValid model) (tasks : List TaskDef) (same : map bare_task tasks ≡ map bare_task model.tasks) (ordered : All AreOrdered tasks) where
  abbrev other : SystemModel
  other = record model { tasks = tasks }

  alike : AreNamedAlike model other
  alike = record {
    cores = refl;
    stimuli = refl;
    labels = refl;
    tasks = maps_through named_task bare_task named_task named_bare tasks model.tasks same;
    chains = refl;
    requirements = refl;
  }

  stand : map placed tasks ≡ map placed model.tasks
  stand = maps_through placed bare_task placed (λ task. refl) tasks model.tasks same

  known : (k : ℕ) → k < length tasks → k < length model.tasks
  known k lt = omega (arith, lt, length_same bare_task tasks model.tasks same)

  own_same : (k : ℕ) → k < length tasks → bare_task (get_or tasks k no_task) ≡ bare_task (get_or model.tasks k no_task)
  own_same k lt = at_same bare_task tasks model.tasks k no_task same lt

  timing_passes : (k : ℕ) → k < length tasks → timing_check other k (get_or tasks k no_task) ≡ []
  timing_passes k lt =
      let task = get_or tasks k no_task in
      let passes = task_passes model valid k (known k lt) in
      none_in_order (late_check (kind_named model task.stimulus) k task ∷ release_check (kind_named model task.stimulus) k task ∷ times_checks k task ∷ []) (
        ap (λ (t : TaskDef). late_check (kind_named model t.stimulus) k t) (own_same k lt) ∙ passes.late,
        (
          ap (λ (t : TaskDef). release_check (kind_named model t.stimulus) k t) (own_same k lt) ∙ passes.release,
          (times_pass k task (ordered k no_task lt), tt),
        ),
      )

  deadline_passes : (k : ℕ) → k < length tasks → deadline_check other k (get_or tasks k no_task) ≡ []
  deadline_passes k lt =
      let task = get_or tasks k no_task in
      ap (λ b. when b M42 (task_key k key.Deadline))
      (outpaced_same other task (tasks_on task.core tasks) (tasks_on task.core model.tasks) (on_core_same task.core tasks model.tasks stand))
      ∙ ap (λ (t : TaskDef). when (list_any (is_outpaced_by model t) (tasks_on t.core model.tasks)) M42 (task_key k key.Deadline)) (own_same k lt)
      ∙ deadline_none model valid k (known k lt)

  accepted : refusals_of other ≡ []
  unfolding stimulus_checks
  accepted =
      times_left_of model other valid alike stand
      ∙ ap (λ (stimuli : List Refusal). stimuli ++ (each (timing_check other) tasks ++ deadline_checks other)) (stimuli_pass model valid)
      ∙ ap (λ (times : List Refusal). times ++ deadline_checks other) (each_nothing (timing_check other) tasks no_task timing_passes)
      ∙ each_nothing (deadline_check other) tasks no_task deadline_passes

-- a model that differs from a valid one in its greatest times alone is valid where it is in range and its times are in order
pub valid_but_times : (model other : SystemModel) → bare_model other ≡ bare_model model → All AreOrdered other.tasks → IsValid model → IsInRange other → IsValid other
unfolding bare_model
valid_but_times model other alike ordered valid in_range =
    let tasks : map bare_task other.tasks ≡ map bare_task model.tasks = ap (λ (m : SystemModel). m.tasks) alike in
    let is : other ≡ record model { tasks = other.tasks } = ap (λ (m : SystemModel). record m { tasks = other.tasks }) alike in
    record { in_range = in_range; accepted = ap refusals_of is ∙ accepted model valid other.tasks tasks ordered }
