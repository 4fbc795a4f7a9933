-- The system of a model has the model's tasks at their places, and that of a valid model is sound.
use Rattle.std.proofs.Common.{◌≡◌, ℕ, ◌<◌, ◌≤◌, length, map, refl, sym, ap, ◌∙◌, subst, arith}
use Rattle.std.specs.Prelude.{All}
use Rattle.std.proofs.lemmas.List.{get_or-map, length-map}
use Rattle.std.proofs.lemmas.List.Elements.{All-map}
use Rattle.cl_model.specs.{declared.{model.SystemModel.SystemModel, stimulus.StimulusKind.{StimulusKind, TheVariants.{Periodic, Sporadic, Burst}}}, ByNumber.{no_task, task_at, stimulus_of}, Ranges.IsKindInRange, Timing.IsKindOrdered, Validity.IsValid}
use Rattle.cl_runs.specs.{Pattern.IsPattern, TaskTiming.{TimeRange, Timing, timing_at, no_timing, IsSoundTask, IsSound}, SystemOf.{range_of, timing_of, system_of}}
use Rattle.cl_model.proofs.{CoreTasks.priorities_differ, NamesKnown.core_within, ValidTasks.{kind_in_range, kind_ordered, early_enough, released_before, has_runnable, runnables_in_range, times_ordered}}

-- a kind of stimulus whose numbers are in range and in order is a well-formed pattern
pub well_formed : (kind : StimulusKind) → IsKindInRange kind → IsKindOrdered kind → IsPattern kind
well_formed (Periodic period offset jitter) in_range ordered = in_range.0.0
well_formed (Sporadic least greatest) in_range ordered = (in_range.0.0, ordered)
well_formed (Burst period offset count distance) in_range ordered = (omega (arith, in_range.2.0), in_range.3.0, ordered.1)

-- ---- a task

module _ (model : SystemModel) (valid : IsValid model) (i : ℕ) (h : i < length model.tasks) where
  pattern_well : IsPattern (stimulus_of model i)
  pattern_well = well_formed (stimulus_of model i) (kind_in_range model valid i h) (kind_ordered model valid i h)

  ranges_sound : All (λ (range : TimeRange). (1 ≤ range.least) × (range.least ≤ range.greatest)) (map range_of (task_at model i).runnables)
  ranges_sound = All-map (λ (range : TimeRange). (1 ≤ range.least) × (range.least ≤ range.greatest)) range_of (task_at model i).runnables
      (λ p d lt. ((runnables_in_range model valid i h p d lt).least.0, times_ordered model valid i h p d lt))

  timing_sound : IsSoundTask (length model.cores) (timing_of model (task_at model i))
  timing_sound = record {
    on_core = core_within model valid i h;
    some_runnable = omega (arith, has_runnable model valid i h, length-map (task_at model i).runnables range_of);
    times = ranges_sound;
    pattern = pattern_well;
    above_jitter = released_before model valid i h;
    within_distance = early_enough model valid i h;
  }

-- ---- all tasks

module _ (model : SystemModel) where
  -- the system has the timing of each task at the task's place
  pub timing_is : (i : ℕ) → i < length model.tasks → timing_at (system_of model) i ≡ timing_of model (task_at model i)
  unfolding system_of
  timing_is i h = get_or-map (timing_of model) model.tasks i no_task no_timing h

  -- as many tasks as the model, and as many cores
  pub count_is : length (system_of model).tasks ≡ length model.tasks
  unfolding system_of
  count_is = length-map model.tasks (timing_of model)

  pub cores_are : (system_of model).cores ≡ length model.cores
  unfolding system_of
  cores_are = refl

-- a task has the range of each of its runnables
module _ (model : SystemModel) (i : ℕ) (h : i < length model.tasks) where
  pub ranges_are : (timing_at (system_of model) i).ranges ≡ map range_of (task_at model i).runnables
  ranges_are = ap (λ (t : Timing). t.ranges) (timing_is model i h)

  pub range_count_is : length (timing_at (system_of model) i).ranges ≡ length (task_at model i).runnables
  range_count_is = ap length ranges_are ∙ length-map (task_at model i).runnables range_of

module _ (model : SystemModel) (valid : IsValid model) where
  distinct : (i j : ℕ) → i < length model.tasks → j < length model.tasks
      → (timing_at (system_of model) i).core ≡ (timing_at (system_of model) j).core
      → (timing_at (system_of model) i).priority ≡ (timing_at (system_of model) j).priority → i ≡ j
  distinct i j hi hj cores priorities =
      let one = timing_is model i hi in
      let other = timing_is model j hj in
      priorities_differ model valid i j hi hj
      (sym (ap (λ (t : Timing). t.core) one) ∙ cores ∙ ap (λ (t : Timing). t.core) other)
      (sym (ap (λ (t : Timing). t.priority) one) ∙ priorities ∙ ap (λ (t : Timing). t.priority) other)

  pub system_sound : IsSound (system_of model)
  system_sound = record {
    tasks = λ i h.
        let lt : i < length model.tasks = omega (arith, h, count_is model) in
        subst (λ n. IsSoundTask n (timing_at (system_of model) i)) (sym (cores_are model))
        (subst (λ (t : Timing). IsSoundTask (length model.cores) t) (sym (timing_is model i lt)) (timing_sound model valid i lt));
    distinct = λ i j hi hj. distinct i j (omega (arith, hi, count_is model)) (omega (arith, hj, count_is model));
  }
