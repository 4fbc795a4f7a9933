-- What a grown model says of its chains and tasks: steps, groups and requirements are those of the model, and its system
-- differs from that at another percentage in greatest times alone.
use Rattle.std.proofs.Common.{◌≡◌, ℕ, ◌<◌, inl, inr, length, map, refl, sym, ap, ◌∙◌, arith}
use Rattle.std.specs.List.{range_with_len}
use Rattle.std.proofs.lemmas.Bool.{cases_lt}
use Rattle.std.proofs.lemmas.List.{get_or_past}
use Rattle.std.proofs.lemmas.Simd.{map-map}
use Rattle.cl_model.specs.{declared.{model.SystemModel.SystemModel, task.{RunnableDef.RunnableDef, TaskDef.TaskDef}}, ByNumber.{no_task, task_at}, Groups.groups_at}
use Rattle.cl_runs.specs.{SystemOf.{range_of, timing_of, system_of}, TaskTiming.{TimeRange, Timing, timing_at, no_timing}}
use Rattle.cl_runs.proofs.ModelSystem.{count_is, timing_is}
use Rattle.cl_lead.specs.LeastTimes.{least_of_each, HaveSameLeastTimes}
use Rattle.cl_tight.specs.LongerTimes.{DifferInGreatestTimes}
use Rattle.cl_scale.specs.Scaled.{scaled_runnable, scaled_task}
use Rattle.cl_scale.proofs.BareChains.{groups_alike}
use Rattle.cl_margin.specs.{declared.whose.Whose.Whose, Grown.{percent_of, grown_task, grown_by, grown}}
use Rattle.cl_margin.proofs.GrownValid.{count_grown, task_grown, grown_alike}

-- ---- a grown model

-- the timing of a task of it
abbrev pub grown_timing : SystemModel → Whose → (percent task : ℕ) → Timing
grown_timing model whose percent task = timing_of model (grown_task model (percent_of whose percent) task)

module _ (model : SystemModel) (whose : Whose) (percent : ℕ) where
  abbrev made : SystemModel
  made = grown model whose percent

  pub chains_grown : made.chains ≡ model.chains
  unfolding grown_by
  chains_grown = refl

  pub requirements_grown : made.requirements ≡ model.requirements
  unfolding grown_by
  requirements_grown = refl

  pub groups_grown : (c : ℕ) → groups_at made c ≡ groups_at model c
  groups_grown = groups_alike model made (grown_alike model whose percent)

  -- ---- its system

  timing_made : (task : TaskDef) → timing_of made task ≡ timing_of model task
  unfolding grown_by
  timing_made task = refl

  pub system_count : length (system_of made).tasks ≡ length model.tasks
  system_count = count_is made ∙ count_grown model whose percent

  pub timing_grown : (i : ℕ) → i < length model.tasks → timing_at (system_of made) i ≡ grown_timing model whose percent i
  timing_grown i h =
      timing_is made i (omega (arith, h, count_grown model whose percent))
      ∙ ap (λ (task : TaskDef). timing_of made task) (task_grown model whose percent i no_task h)
      ∙ timing_made (grown_task model (percent_of whose percent) i)

  pub timings_grown : (system_of made).tasks ≡ map (grown_timing model whose percent) (range_with_len 0 (length model.tasks))
  unfolding system_of grown_by
  timings_grown = map-map (timing_of made) (grown_task model (percent_of whose percent)) (range_with_len 0 (length model.tasks))

-- ---- the systems at two percentages

-- least times are those of the model
leasts_scaled : (model : SystemModel) (percent : ℕ) (task : TaskDef) → least_of_each (timing_of model (scaled_task percent task)) ≡ map (λ (r : RunnableDef). r.least) task.runnables
leasts_scaled model percent task =
    map-map (λ (range : TimeRange). range.least) range_of (map (scaled_runnable percent) task.runnables)
    ∙ map-map (λ (r : RunnableDef). r.least) (scaled_runnable percent) task.runnables

module _ (model : SystemModel) (whose : Whose) (one other : ℕ) where
  -- what each task of the model shares at both, all tasks of the systems do, also past the last one
  shared : {X : Type 0} (f : Timing → X) → ((i : ℕ) → f (grown_timing model whose one i) ≡ f (grown_timing model whose other i)) → (i : ℕ)
      → f (timing_at (system_of (grown model whose one)) i) ≡ f (timing_at (system_of (grown model whose other)) i)
  shared f same i = elim (cases_lt i (length model.tasks)) [
    | inl within ↦ ap f (timing_grown model whose one i within) ∙ same i ∙ sym (ap f (timing_grown model whose other i within))
    | inr past ↦ ap f (get_or_past (system_of (grown model whose one)).tasks i no_timing (omega (arith, past, system_count model whose one))
        ∙ sym (get_or_past (system_of (grown model whose other)).tasks i no_timing (omega (arith, past, system_count model whose other))))
  ]

  pub systems_alike : HaveSameLeastTimes (system_of (grown model whose one)) (system_of (grown model whose other))
  systems_alike = record {
    alike = record {
      count = system_count model whose one ∙ sym (system_count model whose other);
      cores = shared (λ (t : Timing). t.core) (λ i. refl);
      priorities = shared (λ (t : Timing). t.priority) (λ i. refl);
      deadlines = shared (λ (t : Timing). t.deadline) (λ i. refl);
      patterns = shared (λ (t : Timing). t.pattern) (λ i. refl);
      accesses = shared (λ (t : Timing). t.access) (λ i. refl);
    };
    least = shared least_of_each
        (λ i. leasts_scaled model (percent_of whose one i) (task_at model i) ∙ sym (leasts_scaled model (percent_of whose other i) (task_at model i)));
  }

  -- and the models differ in greatest times alone
  pub models_alike : DifferInGreatestTimes (grown model whose one) (grown model whose other)
  models_alike = record {
    tasks = systems_alike;
    chains = chains_grown model whose one ∙ sym (chains_grown model whose other);
    groups = λ chain. groups_grown model whose one chain ∙ sym (groups_grown model whose other chain);
    requirements = requirements_grown model whose one ∙ sym (requirements_grown model whose other);
  }
