-- What stands beside a valid model with one more task.
use Rattle.std.proofs.Common.{◌≡◌, ℕ, suc, ◌+◌, ◌-◌, ◌<◌, true, false, cond, nat_lt, List, [], ◌∷◌, ◌++◌, length, get_or, set, take, map, refl, sym, subst, ap, ◌∙◌, arith}
use Rattle.std.specs.Prelude.{All, Option, Some, None, unwrap_or, ◌==◌}
use Rattle.std.specs.List.{range_with_len}
use Rattle.std.proofs.lemmas.List.{length-map, get_or-map, map-append, length-append, length_push, get_or_append_left, take-append-le, take_all}
use Rattle.std.proofs.lemmas.Bool.{ltb-false}
use Rattle.std.proofs.lemmas.List.FromFn.{length-map-range_with_len}
use Rattle.cl_model.specs.declared.{group.Step.Step, groups.StepTable.StepTable, look_ups.{LookUps.LookUps, TaskTables.TaskTables}, model.{CoreDef.CoreDef, SystemModel.SystemModel}, task.{RunnableDef.RunnableDef, TaskDef.TaskDef}, valid_model.ValidModel.TheInside.Inside}
use Rattle.cl_model.specs.{ByNumber.{no_task, no_chain, core_number, core_of, stimulus_number, greatest_time, tasks_of_core_below, tasks_of_core}, Changes.with_new_task, Groups.{step_from, step_named, groups, groups_of, groups_at}, Inner.LookUps.{AreNamesOf, AreTaskTablesOf, AreLookUpsOf}}
use Rattle.cl_model.specs.{Inner.{LookUps.{HasItsLookUps, RowAdded, TaskAdded}, StepTable.{steps_from, AreStepsOf, StepsAdded}}, Named.{has_name, index_of, core_names, stimulus_names, task_names, runnable_names, all_runnables}, NameSets.{names_with, AreDistinctNames, AreNew}}
use Rattle.cl_model.specs.{Ranges.IsTaskInRange, Validity.IsValid}
use Rattle.cl_model.proofs.{ChangedChains.{last_at, last_is_added}, CoreTasks.lists_more, ListFacts.maps_agree, MovedTasks.filter_range, NamePlaces.{place_within, known_named, found_below, own_place}, NamesApart.{tasks_apart, runnables_pass}, NamesKnown.{core_known, stimulus_unnumbered}}
use Rattle.cl_model.proofs.{NamesKnown.steps_known, RunnableNames.{runnable_names_more, runnables_are_new, runnables_apart}, StepFacts.steps_of_more}

-- ---- lists with one more item

-- two maps that agree on each item of a list
pub maps_agree_on : {X Y : Type 0} (f g : X → Y) (xs : List X) → All (λ x. f x ≡ g x) xs → map f xs ≡ map g xs
maps_agree_on f g [] same = refl
maps_agree_on f g (x ∷ xs) same = ap (λ y. y ∷ map f xs) (same 0 x (omega arith)) ∙ ap (λ ys. g x ∷ ys) (maps_agree_on f g xs (λ k d lt. same (suc k) d (omega arith)))

-- the first tasks have the runnables that they had
step_stays : (tasks : List TaskDef) (task : TaskDef) (i n : ℕ) → n < length (all_runnables tasks) → step_from i (tasks ++ task ∷ []) n ≡ step_from i tasks n
step_stays [] task i n lt = absurd (omega arith)
step_stays (first ∷ tasks) task i n lt =
    let here : Step = record { task = i; place = n } in
    elim (nat_lt n (length first.runnables)) as (λ b. nat_lt n (length first.runnables) ≡ b
    → cond b here (step_from (i + 1) (tasks ++ task ∷ []) (n - length first.runnables)) ≡ cond b here (step_from (i + 1) tasks (n - length first.runnables))) [
      | true ↦ λ e. refl
      | false ↦ λ e.
          let past = ltb-false n (length first.runnables) e in
          step_stays tasks task (i + 1) (n - length first.runnables) (omega (arith, past, lt, length-append first.runnables (all_runnables tasks)))
    ] refl

module _ (model : SystemModel) (task : TaskDef) (valid : IsValid (with_new_task model task)) where
  abbrev changed : SystemModel
  changed = with_new_task model task

  abbrev count : ℕ
  count = length model.tasks

  others : take count changed.tasks ≡ model.tasks
  others = take-append-le count model.tasks (task ∷ []) (omega arith) ∙ take_all count model.tasks (omega arith)

  one_more : length changed.tasks ≡ count + 1
  one_more = omega (arith, length_push model.tasks task)

  is_last : count < length changed.tasks
  is_last = omega (arith, one_more)

  all_of_them : take (count + 1) changed.tasks ≡ changed.tasks
  all_of_them = take_all (count + 1) changed.tasks (omega (arith, one_more))

  at_end : (d : TaskDef) → get_or changed.tasks count d ≡ task
  at_end d = last_at model.tasks task d

  pub is_in_range : IsTaskInRange task
  is_in_range = subst IsTaskInRange (at_end no_task) (valid.in_range.tasks count no_task is_last)

  pub its_core_known : has_name task.core (core_names model) ≡ true
  its_core_known = ap (λ (t : TaskDef). has_name t.core (core_names model)) (sym (at_end no_task)) ∙ core_known changed valid count no_task is_last

  -- ---- its runnables

  pub its_names_new : AreNew (runnable_names (all_runnables model.tasks)) (runnable_names task.runnables)
  its_names_new =
      subst (λ (t : TaskDef). AreNew (runnable_names (all_runnables model.tasks)) (runnable_names t.runnables)) (at_end no_task)
      (subst (λ tasks. AreNew (runnable_names (all_runnables tasks)) (runnable_names (get_or changed.tasks count no_task).runnables)) others
      (runnables_are_new changed.tasks (runnables_pass changed valid) count no_task is_last))

  all_names : runnable_names (all_runnables changed.tasks) ≡ runnable_names (all_runnables model.tasks) ++ runnable_names task.runnables
  all_names =
      sym (runnable_names_more changed.tasks count task task.runnables (runnable_names (all_runnables model.tasks)) _ is_last (sym (at_end task)) refl
      (ap (λ tasks. runnable_names (all_runnables tasks)) (sym others)) refl
      ∙ ap (λ tasks. runnable_names (all_runnables tasks)) all_of_them)

  steps_added : (old new : StepTable) → AreStepsOf model.tasks old → StepsAdded count task old new → AreStepsOf changed.tasks new
  steps_added old new are is =
      record {
        names = is.names ∙ ap (λ names. names ++ runnable_names task.runnables) are.names ∙ sym all_names;
        steps =
            steps_of_more changed.tasks count task old.steps.items new.steps.items is_last (sym (at_end task)) (are.steps ∙ ap (steps_from 0) (sym others)) is.steps
            ∙ ap (steps_from 0) all_of_them;
      }

  -- ---- the steps that chains name

  -- a name that was known is found where it was
  same_place : (name : List ℕ) → has_name name (runnable_names (all_runnables model.tasks)) ≡ true
      → index_of name (runnable_names (all_runnables changed.tasks)) ≡ Some (unwrap_or (index_of name (runnable_names (all_runnables model.tasks))) 0)
  same_place name known =
      let names = runnable_names (all_runnables model.tasks) in
      let more = runnable_names task.runnables in
      let k = unwrap_or (index_of name names) 0 in
      let within : unwrap_or (index_of name (runnable_names (all_runnables model.tasks))) 0 < length (runnable_names (all_runnables model.tasks)) = place_within name names known in
      let here : get_or (names ++ more) k [] ≡ name = get_or_append_left names more [] k within ∙ known_named name names known in
      ap (index_of name) all_names ∙ ap (λ n. index_of n (names ++ more)) (sym here)
      ∙ own_place (names ++ more) (subst AreDistinctNames all_names (runnables_apart changed valid)) k (omega (arith, within, length-append names more))

  same_step : (name : List ℕ) → has_name name (runnable_names (all_runnables model.tasks)) ≡ true → step_named changed name ≡ step_named model name
  same_step name known =
      let names = runnable_names (all_runnables model.tasks) in
      let within = place_within name names known in
      ap (λ o. step_from 0 changed.tasks (unwrap_or o 0)) (same_place name known)
      ∙ step_stays model.tasks task 0 (unwrap_or (index_of name names) 0) (omega (arith, within, length-map (all_runnables model.tasks) (λ (r : RunnableDef). r.name)))

  same_groups : IsValid model → map (groups_of changed) model.chains ≡ map (groups_of model) model.chains
  unfolding groups_of
  same_groups old_valid =
      maps_agree_on (groups_of changed) (groups_of model) model.chains
      (λ c d within.
      let chain = get_or model.chains c d in
      ap groups (maps_agree_on (step_named changed) (step_named model) chain.runnables (λ k e k_lt. same_step (get_or chain.runnables k e) (steps_known model old_valid c d within k e k_lt))))

  -- the groups of one chain
  pub groups_kept : IsValid model → (chain : ℕ) → chain < length model.chains → groups_at changed chain ≡ groups_at model chain
  groups_kept old_valid chain within =
      sym (get_or-map (groups_of changed) model.chains chain no_chain [] within)
      ∙ ap (λ all. get_or all chain []) (same_groups old_valid)
      ∙ get_or-map (groups_of model) model.chains chain no_chain [] within

  -- ---- the tables of tasks

  core_of_other : (i : ℕ) → i < count → core_of changed i ≡ core_of model i
  core_of_other i lt = ap (core_number model) (get_or_append_left model.tasks (task ∷ []) no_task i lt)

  below_same : (k : ℕ) → tasks_of_core_below changed count k ≡ tasks_of_core model k
  below_same k = filter_range (λ i. core_of changed i == k) (λ i. core_of model i == k) 0 count (λ i from to. ap (λ c. c == k) (core_of_other i (omega arith)))

  module _ (core stimulus : ℕ) (its_core : Some core ≡ index_of task.core (core_names model)) (its_stimulus : Some stimulus ≡ index_of task.stimulus (stimulus_names model)) where
    core_is : core ≡ core_number model task
    core_is = ap (λ o. unwrap_or o 0) its_core

    stimulus_is : stimulus ≡ stimulus_number model task.stimulus
    stimulus_is = ap (λ o. unwrap_or o 0) its_stimulus

    core_below : core < length model.cores
    core_below = omega (arith, found_below task.core (core_names model) core (sym its_core), length-map model.cores (λ (c : CoreDef). c.name))

    row_added : (old new : TaskTables) → AreTaskTablesOf model old → RowAdded core stimulus (greatest_time task) old new → AreTaskTablesOf changed new
    row_added old new are is =
        let kept : length old.cores.items ≡ length model.tasks = ap length are.cores ∙ length-map model.tasks (core_number model) in
        record {
          cores =
              is.cores ∙ ap (λ numbers. numbers ++ core ∷ []) are.cores ∙ ap (λ c. map (core_number model) model.tasks ++ c ∷ []) core_is
              ∙ sym (map-append (core_number changed) model.tasks (task ∷ []));
          stimuli =
              is.stimuli ∙ ap (λ numbers. numbers ++ stimulus ∷ []) are.stimuli
              ∙ ap (λ s. map (λ (t : TaskDef). stimulus_number model t.stimulus) model.tasks ++ s ∷ []) stimulus_is
              ∙ sym (map-append (λ (t : TaskDef). stimulus_number changed t.stimulus) model.tasks (task ∷ []));
          times = is.times ∙ ap (λ times. times ++ greatest_time task ∷ []) are.times ∙ sym (map-append greatest_time model.tasks (task ∷ []));
          on_cores =
              lists_more changed (length model.cores) count core old.on_cores.items new.on_cores.items core_below
              (core_is ∙ ap (core_number model) (sym (at_end no_task)))
              (are.on_cores ∙ maps_agree (tasks_of_core model) (tasks_of_core_below changed count) (λ k. sym (below_same k)) (range_with_len 0 (length model.cores)))
              (is.on_cores ∙ ap (λ n. set old.on_cores.items core (get_or old.on_cores.items core [] ++ n ∷ [])) kept)
              ∙ ap (λ n. map (tasks_of_core_below changed n) (range_with_len 0 (length model.cores))) (sym one_more);
        }

    added : IsValid model → (old new : LookUps) → AreLookUpsOf model old → TaskAdded task core stimulus old new → AreLookUpsOf changed new
    added old_valid old new are is =
        let name_of : TaskDef → List ℕ = λ t. t.name in
        let joined : task_names changed ≡ task_names model ++ task.name ∷ [] = map-append name_of model.tasks (task ∷ []) in
        let kept : length old.tasks.cores.items ≡ length model.tasks = ap length are.tasks.cores ∙ length-map model.tasks (core_number model) in
        record {
          names = subst (AreNamesOf changed) (sym is.names) (record {
            cores = are.names.cores;
            stimuli = are.names.stimuli;
            tasks = ap (names_with task.name) are.names.tasks ∙ last_is_added (task_names model) task.name (subst AreDistinctNames joined (tasks_apart changed valid)) ∙ sym joined;
            chains = are.names.chains;
            requirements = are.names.requirements;
          });
          tasks = row_added old.tasks new.tasks are.tasks is.tasks;
          steps = steps_added old.steps new.steps are.steps (subst (λ n. StepsAdded n task old.steps new.steps) kept is.steps);
          groups = ap (λ kept. kept.items) is.groups ∙ are.groups ∙ sym (same_groups old_valid);
        }

-- ---- valid models

module _ (old : Inside) (has : HasItsLookUps old) (task : TaskDef) (valid : IsValid (with_new_task old.model task)) where
  -- its core and its stimulus are known
  pub core_found : has_name task.core (core_names old.model) ≡ true
  core_found = its_core_known old.model task valid

  pub stimulus_found : (number : Option ℕ) → number ≡ index_of task.stimulus old.look_ups.names.stimuli → number ≡ None → ⊥
  stimulus_found number is none =
      stimulus_unnumbered (with_new_task old.model task) valid (with_new_task old.model task).tasks (length old.model.tasks) task old.look_ups.names.stimuli number refl
      (is_last old.model task valid) (sym (at_end old.model task valid task)) has.look_ups.names.stimuli is none

  -- what is asked of a task that is added
  pub in_range : IsTaskInRange task
  in_range = is_in_range old.model task valid

  pub names_new : AreNew old.look_ups.steps.names (runnable_names task.runnables)
  names_new = rw has.look_ups.steps.names (its_names_new old.model task valid)

  pub core_kept : (core : ℕ) → Some core ≡ index_of task.core old.look_ups.names.cores → core < length old.look_ups.tasks.on_cores.items
  core_kept core found =
      omega (
        arith,
        found_below task.core (core_names old.model) core (sym (found ∙ ap (index_of task.core) has.look_ups.names.cores)),
        length-map old.model.cores (λ (c : CoreDef). c.name),
        ap length has.look_ups.tasks.on_cores,
        length-map-range_with_len (tasks_of_core old.model) 0 (length old.model.cores),
      )

  -- the tables of the model with the task
  pub task_added : (core stimulus : ℕ) → Some core ≡ index_of task.core old.look_ups.names.cores → Some stimulus ≡ index_of task.stimulus old.look_ups.names.stimuli
      → (new : LookUps) → TaskAdded task core stimulus old.look_ups new → HasItsLookUps (record { model = with_new_task old.model task; look_ups = new })
  task_added core stimulus its_core its_stimulus new is =
      record {
        valid = valid;
        look_ups =
            added old.model task valid core stimulus (its_core ∙ ap (index_of task.core) has.look_ups.names.cores) (its_stimulus ∙ ap (index_of task.stimulus) has.look_ups.names.stimuli)
            has.valid old.look_ups new has.look_ups is;
      }
