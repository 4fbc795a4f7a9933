-- Loads of tasks and cores by the numbers of tasks.
use Rattle.std.proofs.Common.{◌≡◌, ℕ, ◌+◌, ◌*◌, ◌^◌, ◌<◌, ◌≤◌, Bool, true, false, cond, List, length, map, sym, ap, ◌∙◌, mul-le-mul, arith}
use Rattle.std.specs.Prelude.{◌==◌}
use Rattle.std.specs.List.{filter, sum_by, range_with_len}
use Rattle.std.proofs.lemmas.List.Folds.{fold-map}
use Rattle.std.proofs.lemmas.Simd.{map-map}
use Rattle.cl_model.specs.{declared.{limits.TheConstants.{MOST_TICKS, MOST_RUNNABLES, MOST_JOBS_OF_BURST}, model.SystemModel.SystemModel, task.TaskDef.TaskDef, stimulus.StimulusKind.{StimulusKind, TheVariants.{Periodic, Sporadic, Burst}}}, ByNumber.{no_task, task_at, stimulus_of, time_of}}
use Rattle.cl_model.specs.{ByNumber.tasks_of_core, Ranges.IsKindInRange, Validity.IsValid}
use Rattle.cl_model.proofs.ValidTasks.{kind_in_range, little_time}
use Rattle.cl_runs.specs.{TaskTiming.Timing, SystemOf.{timing_of, system_of}}
use Rattle.cl_resp.proofs.{Questions.time_is, Filters.{by_number, filter-map}}
use Rattle.cl_explain.specs.Loads.{jobs_of_round, ticks_of_round, load_of_round, load_up, load_down, core_load, sure_load, MILLION}

-- the load of a task, rounded up or down
abbrev pub load_by_number : SystemModel → (up : Bool) → (task : ℕ) → ℕ
load_by_number model up task = cond up (load_up (timing_of model (task_at model task))) (load_down (timing_of model (task_at model task)))

-- ---- numbers in range

pub few_jobs : (kind : StimulusKind) → IsKindInRange kind → jobs_of_round kind ≤ MOST_JOBS_OF_BURST
few_jobs (Periodic period offset jitter) in_range = omega arith
few_jobs (Sporadic least greatest) in_range = omega arith
few_jobs (Burst period offset count distance) in_range = in_range.2.1

pub some_ticks : (kind : StimulusKind) → IsKindInRange kind → 1 ≤ ticks_of_round kind
some_ticks (Periodic period offset jitter) in_range = in_range.0.0
some_ticks (Sporadic least greatest) in_range = in_range.0.0
some_ticks (Burst period offset count distance) in_range = in_range.0.0

pub product_small : (a b c d : ℕ) → a ≤ c → b ≤ d → a * b ≤ c * d
product_small a b c d ac bd = mul-le-mul ac bd

module _ (model : SystemModel) (valid : IsValid model) (task : ℕ) (h : task < length model.tasks) where
  -- the load of a round, of these numbers
  pub round_is : (jobs time : ℕ) → jobs ≡ jobs_of_round (stimulus_of model task) → time ≡ time_of model task
      → jobs * time * MILLION ≡ load_of_round (timing_of model (task_at model task))
  round_is jobs time a b =
      ap (λ n. n * time * MILLION) a ∙ ap (λ n. jobs_of_round (stimulus_of model task) * n * MILLION) (b ∙ sym (time_is model task))

  pub round_small : (jobs time : ℕ) → jobs ≡ jobs_of_round (stimulus_of model task) → time ≡ time_of model task
      → jobs * time * MILLION ≤ 2 ^ 100
  round_small jobs time a b =
      let few : jobs ≤ MOST_JOBS_OF_BURST = omega (arith, a, few_jobs (stimulus_of model task) (kind_in_range model valid task h)) in
      let little : time ≤ MOST_RUNNABLES * MOST_TICKS = omega (arith, b, little_time model valid task h) in
      omega (arith, product_small jobs time MOST_JOBS_OF_BURST (MOST_RUNNABLES * MOST_TICKS) few little)

-- ---- the load of a core

sum_mapped : {X Y : Type 0} (f : Y → ℕ) (g : X → Y) (xs : List X) → sum_by f (map g xs) ≡ sum_by (λ x. f (g x)) xs
sum_mapped f g xs = fold-map (λ (a : ℕ) y. a + f y) g 0 xs

module _ (model : SystemModel) where
  timings_passing : (test : Timing → Bool) → filter test (system_of model).tasks
      ≡ map (λ j. timing_of model (task_at model j)) (filter (λ j. test (timing_of model (task_at model j))) (range_with_len 0 (length model.tasks)))
  unfolding system_of
  timings_passing test =
      let all = range_with_len 0 (length model.tasks) in
      ap (λ (tasks : List TaskDef). filter test (map (timing_of model) tasks)) (sym (by_number model.tasks no_task))
      ∙ ap (filter test) (map-map (timing_of model) (task_at model) all)
      ∙ filter-map test (λ j. timing_of model (task_at model j)) all

  sum_is : (load : Timing → ℕ) (core : ℕ) → sum_by load (filter (λ (task : Timing). task.core == core) (system_of model).tasks)
      ≡ sum_by (λ j. load (timing_of model (task_at model j))) (tasks_of_core model core)
  sum_is load core =
      ap (sum_by load) (timings_passing (λ (task : Timing). task.core == core))
      ∙ sum_mapped load (λ j. timing_of model (task_at model j)) (tasks_of_core model core)

  -- the load of a core is the sum of those of its tasks
  pub core_is : (up : Bool) (core : ℕ) → sum_by (load_by_number model up) (tasks_of_core model core) ≡ cond up (core_load (system_of model) core) (sure_load (system_of model) core)
  unfolding core_load sure_load
  core_is true core = sym (sum_is load_up core)
  core_is false core = sym (sum_is load_down core)
