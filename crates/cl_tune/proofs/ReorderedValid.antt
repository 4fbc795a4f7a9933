-- A valid model with the best priorities on all its cores is valid: on each core they are in range and differ,
-- deadlines span few least distances, and no other check looks at priorities.
use Rattle.std.proofs.Common.{◌≡◌, ℕ, suc, ◌<◌, inl, inr, Bool, true, false, ◌||◌, nat_lt, Option, Some, None, List, [], ◌∷◌, ◌++◌, length, get_or, take, map, refl, sym, ap, ◌∙◌, arith}
use Rattle.std.specs.Prelude.{◌==◌, filter, slice_index, unwrap_or}
use Rattle.std.specs.List.{list_any, range_with_len}
use Rattle.std.specs.Cmp.Lexicographic.{bytes_decides}
use Rattle.std.proofs.lemmas.Bool.{eqb-true, ltb-true, false_from_ne_true, and_left, and_right, cases_Bool, cond_both}
use Rattle.std.proofs.lemmas.List.{length-map, get_or-take, length-take-le}
use Rattle.std.proofs.lemmas.List.Elements.{All-map}
use Rattle.std.proofs.lemmas.Simd.{map-map}
use Rattle.cl_model.specs.{declared.{model.SystemModel.SystemModel, refusal.{Code.TheVariants.{M31, M42}, Refusal.Refusal}, stimulus.StimulusKind.StimulusKind, task.TaskDef.TaskDef}, Named.{same_name, index_of, is_some_and, core_names, kind_named, tasks_on}, ByNumber.no_task}
use Rattle.cl_model.specs.{ByNumber.{no_stimulus, task_at, core_of, deadline_of}, NamedAlike.{named_task, AreNamedAlike}, Ranges.{IsTaskInRange, IsInRange}, Refusals.{when, each}, Timing.deadline_under, ValidNames.stimulus_checks, ValidTasks.{task_key, core_check, priority_check}}
use Rattle.cl_model.specs.{ValidTasks.{late_check, release_check, room_check, spans_too_many, is_outpaced_by, deadline_check, deadline_checks}, Validity.{refusals_of, IsValid}}
use Rattle.cl_model.specs.declared.place.Key.TheVariants as key
use Rattle.cl_model.proofs.{ChecksLeft.{times_checks, rest_check, refusals_left, task_passes}, EachFacts.each_nothing, NamedAlike.{take_same, maps_through}, NoRefusals.none_in_order, PassedChecks.stimuli_pass}
use Rattle.cl_resp.proofs.Filters.{filter-map, by_number}
use Rattle.cl_tune.specs.{BestOrders.AreBestPriorities, Priorities.{task_with, with_all_priorities}}
use Rattle.cl_tune.proofs.{Members.has_place, NewPriorities.{count_made, task_made}, ReorderedPriorities.{distinct, in_range, spans_few}, UnderOrders.range_below}

-- ---- tests of tasks

-- none passes a test among those that pass another
none_among : {X : Type 0} (test among : X → Bool) (d : X) (xs : List X)
    → ((i : ℕ) → i < length xs → among (get_or xs i d) ≡ true → test (get_or xs i d) ≡ false) → list_any test (filter among xs) ≡ false
none_among test among d [] fails = refl
none_among test among d (x ∷ xs) fails =
    let rest = none_among test among d xs (λ i lt. fails (suc i) (omega (arith, lt))) in
    cond_both (among x) (x ∷ filter among xs) (filter among xs) (λ ys. list_any test ys ≡ false)
    (λ is. ap (λ b. b || list_any test (filter among xs)) (fails 0 (omega arith) is) ∙ rest)
    (λ other. rest)

none_passes : {X : Type 0} (value : Option X) (test : X → Bool) (d : X) → test (unwrap_or value d) ≡ false → is_some_and value test ≡ false
none_passes None test d fails = refl
none_passes (Some x) test d fails = fails

-- ---- lists of tasks that differ in priorities alone

abbrev bare : TaskDef → TaskDef
bare task = record task { priority = 0 }

bare_count : (core : List ℕ) (tasks : List TaskDef) → length (tasks_on core (map bare tasks)) ≡ length (tasks_on core tasks)
bare_count core tasks = ap length (filter-map (λ (task : TaskDef). same_name core task.core) bare tasks) ∙ length-map (tasks_on core tasks) bare

as_many : (core : List ℕ) (xs ys : List TaskDef) → map bare xs ≡ map bare ys → length (tasks_on core xs) ≡ length (tasks_on core ys)
as_many core xs ys alike = sym (bare_count core xs) ∙ ap (λ (tasks : List TaskDef). length (tasks_on core tasks)) alike ∙ bare_count core ys

module _ (model : SystemModel) (priorities : List ℕ) where
  abbrev given : ℕ → ℕ
  given = slice_index priorities

  abbrev made : SystemModel
  made = with_all_priorities model given

  all_alike : map bare made.tasks ≡ map bare model.tasks
  unfolding with_all_priorities
  all_alike =
      map-map bare (task_with model given) (range_with_len 0 (length model.tasks))
      ∙ sym (map-map bare (task_at model) (range_with_len 0 (length model.tasks)))
      ∙ ap (map bare) (by_number model.tasks no_task)

  named_alike : AreNamedAlike model made
  unfolding with_all_priorities
  named_alike = record {
    cores = refl;
    stimuli = refl;
    labels = refl;
    tasks = maps_through named_task bare named_task (λ task. refl) made.tasks model.tasks all_alike;
    chains = refl;
    requirements = refl;
  }

  stimuli_same : stimulus_checks made ≡ stimulus_checks model
  unfolding stimulus_checks with_all_priorities
  stimuli_same = refl

  module _ (valid : IsValid model) (best : AreBestPriorities model priorities) where
    -- ---- a task

    module _ (i : ℕ) (h : i < length model.tasks) where
      abbrev task : TaskDef
      task = task_at model i

      abbrev changed : TaskDef
      changed = task_with model given i

      core_same : (j : ℕ) → same_name task.core (task_at model j).core ≡ true → core_of model j ≡ core_of model i
      core_same j is = ap (λ name. unwrap_or (index_of name (core_names model)) 0) (sym ((bytes_decides task.core (task_at model j).core).0 is))

      none_alike : list_any (λ (other : TaskDef). other.priority == changed.priority) (tasks_on task.core (take i made.tasks)) ≡ false
      none_alike = none_among (λ (other : TaskDef). other.priority == changed.priority) (λ (other : TaskDef). same_name task.core other.core) no_task (take i made.tasks)
          (λ j lt on.
          let before : j < i = omega (arith, lt, length-take-le i made.tasks (omega (arith, h, count_made model given))) in
          let g : j < length model.tasks = omega (arith, before, h) in
          let at : get_or (take i made.tasks) j no_task ≡ task_with model given j = get_or-take i made.tasks j no_task before ∙ task_made model given j no_task g in
          let cores = core_same j (sym (ap (λ (other : TaskDef). same_name task.core other.core) at) ∙ on) in
          ap (λ (other : TaskDef). other.priority == changed.priority) at
          ∙ false_from_ne_true ((task_with model given j).priority == changed.priority)
          (λ same. absurd (omega (arith, before, distinct model valid priorities best j i g h cores (eqb-true _ _ same)))))

      same_room : length (tasks_on task.core (take i made.tasks)) ≡ length (tasks_on task.core (take i model.tasks))
      same_room = as_many task.core (take i made.tasks) (take i model.tasks) (take_same bare i made.tasks model.tasks all_alike)

      rest_passes : rest_check made i changed ≡ []
      unfolding with_all_priorities
      rest_passes =
          let passes = task_passes model valid i h in
          let kind = kind_named model task.stimulus in
          let earlier = tasks_on task.core (take i made.tasks) in
          none_in_order (core_check (core_names model) i task
          ∷ priority_check earlier i changed
          ∷ late_check kind i task
          ∷ release_check kind i task
          ∷ room_check (length earlier) i
          ∷ times_checks i task
          ∷ []) (
            passes.core,
            (
              ap (λ b. when b M31 (task_key i key.Priority)) none_alike,
              (passes.late, (passes.release, (ap (λ n. room_check n i) same_room ∙ passes.room, (passes.times, tt)))),
            ),
          )

      -- ---- its deadline

      not_outpaced : (j : ℕ) → j < length model.tasks → core_of model j ≡ core_of model i → is_outpaced_by made changed (task_with model given j) ≡ false
      unfolding with_all_priorities
      not_outpaced j g cores =
          let other = task_at model j in
          let spans : StimulusKind → Bool = λ kind. is_some_and (kind_named model other.stimulus) (spans_too_many (deadline_under kind task)) in
          let higher = nat_lt changed.priority (task_with model given j).priority in
          elim (cases_Bool higher) [
            | inl is ↦ and_right higher (is_some_and (kind_named model task.stimulus) spans)
                (none_passes (kind_named model task.stimulus) spans no_stimulus
                (none_passes (kind_named model other.stimulus) (spans_too_many (deadline_of model i)) no_stimulus
                (spans_few model valid priorities best i j h g cores (ltb-true _ _ is))))
            | inr lower ↦ and_left higher (is_some_and (kind_named model task.stimulus) spans) lower
          ]

      deadline_kept : deadline_check made i changed ≡ []
      deadline_kept = ap (λ b. when b M42 (task_key i key.Deadline))
          (none_among (is_outpaced_by made changed) (λ (other : TaskDef). same_name task.core other.core) no_task made.tasks
          (λ j lt on.
          let g : j < length model.tasks = omega (arith, lt, count_made model given) in
          let at = task_made model given j no_task g in
          ap (is_outpaced_by made changed) at
          ∙ not_outpaced j g (core_same j (sym (ap (λ (other : TaskDef). same_name task.core other.core) at) ∙ on))))

    -- ---- all tasks

    tasks_pass : each (rest_check made) made.tasks ≡ []
    tasks_pass = each_nothing (rest_check made) made.tasks no_task
        (λ i lt.
        let h : i < length model.tasks = omega (arith, lt, count_made model given) in
        ap (rest_check made i) (task_made model given i no_task h) ∙ rest_passes i h)

    deadlines_pass : deadline_checks made ≡ []
    deadlines_pass = each_nothing (deadline_check made) made.tasks no_task
        (λ i lt.
        let h : i < length model.tasks = omega (arith, lt, count_made model given) in
        ap (deadline_check made i) (task_made model given i no_task h) ∙ deadline_kept i h)

    all_pass : refusals_of made ≡ []
    all_pass =
        refusals_left model made valid named_alike
        ∙ ap (λ (stimuli : List Refusal). stimuli ++ (each (rest_check made) made.tasks ++ deadline_checks made)) (stimuli_same ∙ stimuli_pass model valid)
        ∙ ap (λ (tasks : List Refusal). tasks ++ deadline_checks made) tasks_pass
        ∙ deadlines_pass

    -- ---- ranges

    task_stays : (i : ℕ) → i < length model.tasks → IsTaskInRange (task_with model given i)
    task_stays i h =
        let task = valid.in_range.tasks i no_task h in
        record {
          priority = in_range model valid priorities best i h;
          deadline = task.deadline;
          count = task.count;
          runnables = task.runnables;
        }

    stays : IsInRange made
    unfolding with_all_priorities
    stays =
        let counts = valid.in_range.counts in
        record {
          counts = record {
            cores = counts.cores;
            stimuli = counts.stimuli;
            labels = counts.labels;
            tasks = omega (arith, counts.tasks, count_made model given);
            chains = counts.chains;
            requirements = counts.requirements;
          };
          stimuli = valid.in_range.stimuli;
          tasks = All-map IsTaskInRange (task_with model given) (range_with_len 0 (length model.tasks))
              (has_place (λ i. IsTaskInRange (task_with model given i)) (range_with_len 0 (length model.tasks))
              (λ i there. task_stays i (omega (arith, range_below 0 (length model.tasks) i there))));
          chains = valid.in_range.chains;
          requirements = valid.in_range.requirements;
        }

pub reordered_valid : (model : SystemModel) → IsValid model → (priorities : List ℕ) → AreBestPriorities model priorities → IsValid (with_all_priorities model (slice_index priorities))
reordered_valid model valid priorities best = record { in_range = stays model priorities valid best; accepted = all_pass model priorities valid best }
