-- What is left to check of other priorities of tasks, and of another place of a task.
use Rattle.std.proofs.Common.{◌≡◌, ℕ, ◌<◌, Bool, List, [], ◌∷◌, ◌++◌, length, map, take, get_or, refl, sym, ap, ◌∙◌, arith}
use Rattle.std.specs.Prelude.{Option, filter}
use Rattle.std.proofs.lemmas.List.{append-nil}
use Rattle.cl_model.specs.{declared.{changes.TaskPriority.TaskPriority, model.SystemModel.SystemModel, refusal.Refusal.Refusal, stimulus.StimulusKind.StimulusKind, task.TaskDef.TaskDef}, ByNumber.{no_task, task_at}, Changes.{with_priorities, with_place}, Named.{same_name, core_names}}
use Rattle.cl_model.specs.{Named.{kind_named, tasks_on}, Refusals.{in_order, each}, ValidNames.stimulus_checks, ValidTasks.{core_check, priority_check, late_check, release_check, room_check, deadline_checks}, Validity.{IsValid, refusals_of}, NamedAlike.{named_task, AreNamedAlike}}
use Rattle.cl_edit.specs.{FewChecks.{priority_refusals, place_refusals, move_refusals}, declared.pairs.PairFault.TheVariants.{Clash, Outpaced}, Inner.Pairs.{pair_check, pair_checks}}
use Rattle.cl_model.proofs.{EachFacts.each_alike, NamedAlike.{at_same, length_same, take_same, tasks_long}, PassedChecks.stimuli_pass, ChecksLeft.{times_checks, rest_check, refusals_left, task_passes, filter-map}}
use Rattle.cl_edit.proofs.{SetPriorities.{only_tasks, unranked_same, ranked_long, priorities_alike}, TaskSetters.map_set_same}

-- a task without its priority
abbrev unranked : TaskDef → TaskDef
unranked task = record task { priority = 0 }

only_priority : (core priority late release room times : List Refusal) → core ≡ [] → late ≡ [] → release ≡ [] → room ≡ [] → times ≡ [] → in_order (core ∷ priority ∷ late ∷ release ∷ room ∷ times ∷ []) ≡ priority
only_priority core priority late release room times nc nl nr nm nt = rw (nc, nl, nr, nm, nt) (append-nil priority)

on_core_unranked : (core : List ℕ) (xs ys : List TaskDef) → map unranked xs ≡ map unranked ys → length (tasks_on core xs) ≡ length (tasks_on core ys)
on_core_unranked core xs ys same =
    let test : TaskDef → Bool = λ (t : TaskDef). same_name core t.core in
    length_same unranked (tasks_on core xs) (tasks_on core ys) (sym (filter-map unranked test xs) ∙ ap (filter test) same ∙ filter-map unranked test ys)

module _ (model : SystemModel) (valid : IsValid model) (priorities : List TaskPriority) where
  abbrev ranked : SystemModel
  ranked = with_priorities model priorities

  one_left : (k : ℕ) → k < length ranked.tasks → rest_check ranked k (get_or ranked.tasks k no_task) ≡ pair_check Clash ranked k (get_or ranked.tasks k no_task)
  one_left k lt =
      let known : k < length model.tasks = omega (arith, lt, ranked_long model priorities) in
      let task = get_or ranked.tasks k no_task in
      let before = get_or model.tasks k no_task in
      let all : map unranked ranked.tasks ≡ map unranked model.tasks = unranked_same unranked (λ t p. refl) model priorities in
      let same : unranked task ≡ unranked before = at_same unranked ranked.tasks model.tasks k no_task all lt in
      let passes = task_passes model valid k known in
      let kinds : TaskDef → Option StimulusKind = λ t. kind_named ranked t.stimulus in
      only_priority (core_check (core_names ranked) k task) (priority_check (tasks_on task.core (take k ranked.tasks)) k task) (late_check (kinds task) k task)
      (release_check (kinds task) k task) (room_check (length (tasks_on task.core (take k ranked.tasks))) k) (times_checks k task)
      (ap (λ names. core_check names k task) (ap core_names (only_tasks model priorities)) ∙ ap (core_check (core_names model) k) same ∙ passes.core)
      (ap (λ (m : SystemModel). late_check (kind_named m task.stimulus) k task) (only_tasks model priorities) ∙ ap (λ (t : TaskDef). late_check (kind_named model t.stimulus) k t) same ∙ passes.late)
      (ap (λ (m : SystemModel). release_check (kind_named m task.stimulus) k task) (only_tasks model priorities) ∙ ap (λ (t : TaskDef). release_check (kind_named model t.stimulus) k t) same ∙ passes.release)
      (ap (λ (t : TaskDef). room_check (length (tasks_on t.core (take k ranked.tasks))) k) same
      ∙ ap (λ n. room_check n k) (on_core_unranked before.core (take k ranked.tasks) (take k model.tasks) (take_same unranked k ranked.tasks model.tasks all)) ∙ passes.room)
      (ap (times_checks k) same ∙ passes.times)

  stimuli_stay : stimulus_checks ranked ≡ stimulus_checks model
  unfolding stimulus_checks
  stimuli_stay = ap stimulus_checks (only_tasks model priorities)

  -- the priorities of each core, and deadlines against tasks above
  pub priorities_need_few : refusals_of ranked ≡ pair_checks Clash ranked ++ pair_checks Outpaced ranked
  priorities_need_few =
      refusals_left model ranked valid (priorities_alike model priorities)
      ∙ ap (λ stimuli. stimuli ++ (each (rest_check ranked) ranked.tasks ++ deadline_checks ranked)) (stimuli_stay ∙ stimuli_pass model valid)
      ∙ ap (λ tasks. tasks ++ deadline_checks ranked) (each_alike (rest_check ranked) (pair_check Clash ranked) ranked.tasks ranked.tasks no_task no_task refl one_left)

  pub priorities_need_these : refusals_of ranked ≡ priority_refusals model priorities
  priorities_need_these = priorities_need_few ∙ ap (λ deadlines. pair_checks Clash ranked ++ deadlines) (sym (append-nil (deadline_checks ranked)))

-- ---- another core and priority

-- a task without its core and its priority
abbrev unplaced : TaskDef → TaskDef
unplaced task = record task { core = []; priority = 0 }

place_only : (core priority late release room times : List Refusal) → late ≡ [] → release ≡ [] → times ≡ [] → in_order (core ∷ priority ∷ late ∷ release ∷ room ∷ times ∷ []) ≡ in_order (core ∷ priority ∷ room ∷ [])
place_only core priority late release room times nl nr nt = rw (nl, nr, nt) refl

module _ (model : SystemModel) (valid : IsValid model) (i : ℕ) (core : List ℕ) (priority : ℕ) where
  move_same : {Y : Type 0} (f : TaskDef → Y) → f (record (task_at model i) { core = core; priority = priority }) ≡ f (task_at model i) → map f (with_place model i core priority).tasks ≡ map f model.tasks
  move_same f same = map_set_same f model.tasks i (record (task_at model i) { core = core; priority = priority }) no_task same

  move_alike : AreNamedAlike model (with_place model i core priority)
  move_alike = record { cores = refl; stimuli = refl; labels = refl; tasks = move_same named_task refl; chains = refl; requirements = refl }

  one_place : (k : ℕ) → k < length (with_place model i core priority).tasks
      → rest_check (with_place model i core priority) k (get_or (with_place model i core priority).tasks k no_task) ≡ place_refusals (with_place model i core priority) k (get_or (with_place model i core priority).tasks k no_task)
  one_place k lt =
      let new : SystemModel = with_place model i core priority in
      let task = get_or new.tasks k no_task in
      let before = get_or model.tasks k no_task in
      let same : unplaced task ≡ unplaced before = at_same unplaced new.tasks model.tasks k no_task (move_same unplaced refl) lt in
      let passes = task_passes model valid k (omega (arith, lt, tasks_long model new move_alike)) in
      place_only (core_check (core_names model) k task) (priority_check (tasks_on task.core (take k new.tasks)) k task) (late_check (kind_named model task.stimulus) k task)
      (release_check (kind_named model task.stimulus) k task) (room_check (length (tasks_on task.core (take k new.tasks))) k) (times_checks k task)
      (ap (λ (t : TaskDef). late_check (kind_named model t.stimulus) k t) same ∙ passes.late)
      (ap (λ (t : TaskDef). release_check (kind_named model t.stimulus) k t) same ∙ passes.release)
      (ap (times_checks k) same ∙ passes.times)

  -- where each task stands, and deadlines against tasks above
  pub move_needs_few : refusals_of (with_place model i core priority) ≡ move_refusals model i core priority
  unfolding stimulus_checks
  move_needs_few =
      let new : SystemModel = with_place model i core priority in
      refusals_left model new valid move_alike
      ∙ ap (λ stimuli. stimuli ++ (each (rest_check new) new.tasks ++ deadline_checks new)) (stimuli_pass model valid)
      ∙ ap (λ tasks. tasks ++ deadline_checks new) (each_alike (rest_check new) (place_refusals new) new.tasks new.tasks no_task no_task refl one_place)
      ∙ ap (λ deadlines. each (place_refusals new) new.tasks ++ deadlines) (sym (append-nil (deadline_checks new)))
