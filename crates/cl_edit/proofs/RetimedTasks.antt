-- The tasks after a change of when they run.
use Rattle.std.proofs.Common.{◌≡◌, ℕ, ◌<◌, Bool, true, false, cond, length, map, get_or, refl, sym, ap, ◌∙◌, arith}
use Rattle.std.specs.Prelude.{Option, Some, is_some, unwrap_or, ◌==◌}
use Rattle.std.proofs.lemmas.Bool.{cond_both}
use Rattle.std.proofs.lemmas.List.{length-set}
use Rattle.cl_model.specs.{declared.{model.{CoreDef.CoreDef, SystemModel.SystemModel}, stimulus.StimulusKind.StimulusKind, task.TaskDef.TaskDef}, ByNumber.{no_stimulus, no_task, no_core, task_at, core_at, core_of}, Changes.with_priorities, Named.{has_name, index_of, core_names}}
use Rattle.cl_model.specs.{Named.kind_named, Timing.least_distance, Validity.IsValid}
use Rattle.cl_model.proofs.{NamePlaces.{own_entry, found_stands, stands_known}, NamesApart.cores_apart, NamesKnown.core_known, NamedAlike.at_same}
use Rattle.cl_edit.specs.{declared.pace.{Retiming.Retiming, Pace.Pace}, Inner.Paces.{with_retiming, IsRetimingOf, is_touched, priority_after, kind_after, given_after, core_after, pace_after, pace_of}}
use Rattle.cl_edit.specs.declared.pace.Retiming.TheVariants as change
use Rattle.cl_edit.proofs.{ChangedTasks.{set_at, kind_known, kind_after_change}, RefusedTasks.IsKnown, SetPriorities.{only_tasks, unranked_same, ranked_long, unset_stays, priority_at}, TaskSetters.map_set_same}

-- ---- the tasks after a change

of_cond : {X Y : Type 0} (f : X → Y) (b : Bool) (x y : X) → f (cond b x y) ≡ cond b (f x) (f y)
of_cond f true x y = refl
of_cond f false x y = refl

pub tasks_kept : (model : SystemModel) (c : Retiming) → length (with_retiming model c).tasks ≡ length model.tasks
tasks_kept model (change.Deadline task deadline) = length-set model.tasks task (record (task_at model task) { deadline = deadline })
tasks_kept model (change.Kind stimulus kind) = refl
tasks_kept model (change.Priorities set after) = ranked_long model set.now
tasks_kept model (change.Move task core priority) = length-set model.tasks task (record (task_at model task) { core = (core_at model core).name; priority = priority })

module _ (model : SystemModel) (valid : IsValid model) (k : ℕ) (known : k < length model.tasks) where
  within : (c : Retiming) → k < length (with_retiming model c).tasks
  within c = omega (arith, known, tasks_kept model c)

  -- a part of a task that a change leaves
  part_same : {Y : Type 0} (f : TaskDef → Y) (c : Retiming) → map f (with_retiming model c).tasks ≡ map f model.tasks → f (task_at (with_retiming model c) k) ≡ f (task_at model k)
  part_same f c same = at_same f (with_retiming model c).tasks model.tasks k no_task same (within c)

  priority_is : (c : Retiming) → IsRetimingOf model c → (task_at (with_retiming model c) k).priority ≡ priority_after model c k
  priority_is (change.Deadline task deadline) is =
      part_same (λ (t : TaskDef). t.priority) (change.Deadline task deadline) (map_set_same (λ (t : TaskDef). t.priority) model.tasks task (record (task_at model task) { deadline = deadline }) no_task refl)
  priority_is (change.Kind stimulus kind) is = refl
  priority_is (change.Priorities set after) is =
      sym (ap (λ l. get_or l k 0) is.1 ∙ priority_at (with_priorities model set.now) k (within (change.Priorities set after)))
  priority_is (change.Move task core priority) is =
      let moved : TaskDef = record (task_at model task) { core = (core_at model core).name; priority = priority } in
      ap (λ (t : TaskDef). t.priority) (set_at model.tasks task k moved no_task is.0) ∙ of_cond (λ (t : TaskDef). t.priority) (k == task) moved (task_at model k)

  stimulus_same : (c : Retiming) → (task_at (with_retiming model c) k).stimulus ≡ (task_at model k).stimulus
  stimulus_same (change.Deadline task deadline) =
      part_same (λ (t : TaskDef). t.stimulus) (change.Deadline task deadline) (map_set_same (λ (t : TaskDef). t.stimulus) model.tasks task (record (task_at model task) { deadline = deadline }) no_task refl)
  stimulus_same (change.Kind stimulus kind) = refl
  stimulus_same (change.Priorities set after) =
      part_same (λ (t : TaskDef). t.stimulus) (change.Priorities set after) (unranked_same (λ (t : TaskDef). t.stimulus) (λ t p. refl) model set.now)
  stimulus_same (change.Move task core priority) =
      part_same (λ (t : TaskDef). t.stimulus) (change.Move task core priority) (map_set_same (λ (t : TaskDef). t.stimulus) model.tasks task (record (task_at model task) { core = (core_at model core).name; priority = priority }) no_task refl)

  -- the kind of its stimulus is known after the change too
  pub kind_is : (c : Retiming) → IsRetimingOf model c → kind_named (with_retiming model c) (task_at (with_retiming model c) k).stimulus ≡ Some (kind_after model c k)
  kind_is (change.Deadline task deadline) is = ap (kind_named model) (stimulus_same (change.Deadline task deadline)) ∙ kind_known model valid k known
  kind_is (change.Kind stimulus kind) is = kind_after_change model valid k known stimulus kind is
  kind_is (change.Priorities set after) is =
      ap (λ (m : SystemModel). kind_named m (task_at (with_priorities model set.now) k).stimulus) (only_tasks model set.now)
      ∙ ap (kind_named model) (stimulus_same (change.Priorities set after)) ∙ kind_known model valid k known
  kind_is (change.Move task core priority) is = ap (kind_named model) (stimulus_same (change.Move task core priority)) ∙ kind_known model valid k known

  pub given_is : (c : Retiming) → IsRetimingOf model c → (task_at (with_retiming model c) k).deadline ≡ given_after model c k
  given_is (change.Deadline task deadline) is =
      let set_task : TaskDef = record (task_at model task) { deadline = deadline } in
      ap (λ (t : TaskDef). t.deadline) (set_at model.tasks task k set_task no_task is) ∙ of_cond (λ (t : TaskDef). t.deadline) (k == task) set_task (task_at model k)
  given_is (change.Kind stimulus kind) is = refl
  given_is (change.Priorities set after) is =
      part_same (λ (t : TaskDef). t.deadline) (change.Priorities set after) (unranked_same (λ (t : TaskDef). t.deadline) (λ t p. refl) model set.now)
  given_is (change.Move task core priority) is =
      part_same (λ (t : TaskDef). t.deadline) (change.Move task core priority) (map_set_same (λ (t : TaskDef). t.deadline) model.tasks task (record (task_at model task) { core = (core_at model core).name; priority = priority }) no_task refl)

  pub pace_is : (c : Retiming) → IsRetimingOf model c → pace_of (with_retiming model c) k ≡ pace_after model c k
  pace_is c is = paces (task_at (with_retiming model c) k).priority (priority_after model c k) (task_at (with_retiming model c) k).deadline (given_after model c k) _ (kind_after model c k)
      (priority_is c is) (given_is c is) (ap (λ o. unwrap_or o no_stimulus) (kind_is c is))
    where
      paces : (p p' : ℕ) (g g' : Option ℕ) (q q' : StimulusKind) → p ≡ p' → g ≡ g' → q ≡ q'
          → (let pace : Pace = record { priority = p; deadline = unwrap_or g (least_distance q); kind = q } in pace) ≡ record { priority = p'; deadline = unwrap_or g' (least_distance q'); kind = q' }
      paces p p' g g' q q' e f h = rw (e, f, h) refl

  core_number_is : (core : ℕ) → core < length model.cores → index_of (core_at model core).name (core_names model) ≡ Some core
  core_number_is core lt = own_entry (λ (x : CoreDef). x.name) model.cores (cores_apart model valid) core no_core lt

  core_named : (c : Retiming) → IsRetimingOf model c → unwrap_or (index_of (task_at (with_retiming model c) k).core (core_names model)) 0 ≡ core_after model c k
  core_named (change.Deadline task deadline) is =
      ap (λ name. unwrap_or (index_of name (core_names model)) 0)
      (part_same (λ (t : TaskDef). t.core) (change.Deadline task deadline) (map_set_same (λ (t : TaskDef). t.core) model.tasks task (record (task_at model task) { deadline = deadline }) no_task refl))
  core_named (change.Kind stimulus kind) is = refl
  core_named (change.Priorities set after) is =
      ap (λ name. unwrap_or (index_of name (core_names model)) 0)
      (part_same (λ (t : TaskDef). t.core) (change.Priorities set after) (unranked_same (λ (t : TaskDef). t.core) (λ t p. refl) model set.now))
  core_named (change.Move task core priority) is =
      let moved : TaskDef = record (task_at model task) { core = (core_at model core).name; priority = priority } in
      ap (λ (t : TaskDef). unwrap_or (index_of t.core (core_names model)) 0) (set_at model.tasks task k moved no_task is.0)
      ∙ of_cond (λ (t : TaskDef). unwrap_or (index_of t.core (core_names model)) 0) (k == task) moved (task_at model k)
      ∙ ap (λ o. cond (k == task) (unwrap_or o 0) (core_of model k)) (core_number_is core is.1)

  pub core_is : (c : Retiming) → IsRetimingOf model c → core_of (with_retiming model c) k ≡ core_after model c k
  core_is (change.Deadline task deadline) is = core_named (change.Deadline task deadline) is
  core_is (change.Kind stimulus kind) is = refl
  core_is (change.Priorities set after) is =
      ap (λ (m : SystemModel). unwrap_or (index_of (task_at (with_priorities model set.now) k).core (core_names m)) 0) (only_tasks model set.now) ∙ core_named (change.Priorities set after) is
  core_is (change.Move task core priority) is = core_named (change.Move task core priority) is

  core_there : (c : Retiming) → IsRetimingOf model c → has_name (task_at (with_retiming model c) k).core (core_names model) ≡ true
  core_there (change.Deadline task deadline) is =
      ap (λ name. has_name name (core_names model))
      (part_same (λ (t : TaskDef). t.core) (change.Deadline task deadline) (map_set_same (λ (t : TaskDef). t.core) model.tasks task (record (task_at model task) { deadline = deadline }) no_task refl))
      ∙ core_known model valid k no_task known
  core_there (change.Kind stimulus kind) is = core_known model valid k no_task known
  core_there (change.Priorities set after) is =
      ap (λ name. has_name name (core_names model))
      (part_same (λ (t : TaskDef). t.core) (change.Priorities set after) (unranked_same (λ (t : TaskDef). t.core) (λ t p. refl) model set.now))
      ∙ core_known model valid k no_task known
  core_there (change.Move task core priority) is =
      let moved : TaskDef = record (task_at model task) { core = (core_at model core).name; priority = priority } in
      let target : has_name (core_at model core).name (core_names model) ≡ true
      = stands_known (core_at model core).name (core_names model) (found_stands (core_at model core).name (core_names model) core (core_number_is core is.1)) in
      ap (λ (t : TaskDef). has_name t.core (core_names model)) (set_at model.tasks task k moved no_task is.0)
      ∙ cond_both (k == task) moved (task_at model k) (λ (t : TaskDef). has_name t.core (core_names model) ≡ true) (λ _. target) (λ _. core_known model valid k no_task known)

  pub core_there_after : (c : Retiming) → IsRetimingOf model c → has_name (task_at (with_retiming model c) k).core (core_names (with_retiming model c)) ≡ true
  core_there_after (change.Deadline task deadline) is = core_there (change.Deadline task deadline) is
  core_there_after (change.Kind stimulus kind) is = core_there (change.Kind stimulus kind) is
  core_there_after (change.Priorities set after) is =
      ap (λ (m : SystemModel). has_name (task_at (with_priorities model set.now) k).core (core_names m)) (only_tasks model set.now) ∙ core_there (change.Priorities set after) is
  core_there_after (change.Move task core priority) is = core_there (change.Move task core priority) is

  -- a task that a change doesn't touch
  pub pace_stays : (c : Retiming) → IsRetimingOf model c → is_touched model c k ≡ false → pace_after model c k ≡ pace_of model k
  pace_stays (change.Deadline task deadline) is untouched = rw untouched refl
  pace_stays (change.Kind stimulus kind) is untouched = rw untouched refl
  pace_stays (change.Priorities set after) is untouched =
      let own : get_or after.now k 0 ≡ (task_at model k).priority
      = sym (priority_is (change.Priorities set after) is) ∙ ap (λ (t : TaskDef). t.priority) (unset_stays model set.now k untouched) in
      rw own refl
  pace_stays (change.Move task core priority) is untouched = rw untouched refl

  pub core_stays : (c : Retiming) → is_touched model c k ≡ false → core_after model c k ≡ core_of model k
  core_stays (change.Deadline task deadline) untouched = refl
  core_stays (change.Kind stimulus kind) untouched = refl
  core_stays (change.Priorities set after) untouched = refl
  core_stays (change.Move task core priority) untouched = rw untouched refl

pub change_known : (model : SystemModel) → IsValid model → (c : Retiming) → IsRetimingOf model c → IsKnown (with_retiming model c)
change_known model valid c is = record {
  cores = λ k lt. core_there_after model valid k (omega (arith, lt, tasks_kept model c)) c is;
  stimuli = λ k lt. ap is_some (kind_is model valid k (omega (arith, lt, tasks_kept model c)) c is);
}
