-- The tasks that count for a lead, as a valid model holds them.
use Rattle.std.proofs.Common.{◌≡◌, ℕ, zero, suc, ◌+◌, ◌*◌, ◌<◌, ◌≤◌, Bool, true, false, ◌&&◌, ◌==◌, cond, nat_lt, List, [], ◌∷◌, ◌++◌, length, get_or, take, map, refl, sym, ap, ◌∙◌, arith}
use Rattle.std.specs.Prelude.{sum_by, All}
use Rattle.std.proofs.lemmas.List.Elements.{All-get_or, All-weaker}
use Rattle.std.proofs.lemmas.List.Folds.{fold-map}
use Rattle.std.proofs.lemmas.List.Sums.{sum_by-le, sum_by_more, sum_by_push}
use Rattle.cl_model.specs.{declared.{limits.TheConstants.{MOST_TICKS, MOST_RUNNABLES}, model.SystemModel.SystemModel, stimulus.StimulusKind.{StimulusKind, TheVariants.Periodic}, task.RunnableDef.RunnableDef}, ByNumber.{no_task, task_at, core_of, stimulus_of, tasks_of_core}}
use Rattle.cl_model.specs.{Ranges.{IsRunnableInRange, IsTaskInRange as IsTaskDefInRange, IsKindInRange}, Timing.IsKindOrdered, Validity.IsValid}
use Rattle.cl_runs.specs.{TaskTiming.{TimeRange, Timing, timing_at}, SystemOf.{range_of, timing_of, system_of}, Priorities.is_above}
use Rattle.cl_runs.proofs.ModelSystem.{timing_is, count_is}
use Rattle.cl_comm.specs.Windows.{least_times}
use Rattle.cl_cycle.specs.Cycles.{is_one_of}
use Rattle.cl_lead.specs.{declared.sure.SureTask.SureTask, Leads.{surely_released, surely_taken, work_above}, Inner.Sure.{sure_time, time_of_other, is_sure, counted_time, IsSureTaskInRange}}
use Rattle.cl_lead.proofs.LeadTotals.{total, total_of_range}

-- ---- least times

-- the sum of the least times of runnables
abbrev pub least_sum : List RunnableDef → ℕ
least_sum runnables = sum_by (λ (runnable : RunnableDef). runnable.least) runnables

least_of_ranges : (runnables : List RunnableDef) → least_times (map range_of runnables) ≡ least_sum runnables
unfolding least_times
least_of_ranges runnables = fold-map (λ (a : ℕ) (range : TimeRange). a + range.least) range_of 0 runnables

pub least_time_is : (model : SystemModel) (i : ℕ) → i < length model.tasks → (runnables : List RunnableDef) → runnables ≡ (task_at model i).runnables
    → (time : ℕ) → time ≡ least_sum runnables → time ≡ least_times (timing_at (system_of model) i).ranges
least_time_is model i is runnables same time sum =
    sum ∙ ap least_sum same ∙ sym (least_of_ranges (task_at model i).runnables)
    ∙ ap (λ (task : Timing). least_times task.ranges) (sym (timing_is model i is))

few_ticks : (runnables : List RunnableDef) → All IsRunnableInRange runnables → length runnables ≤ MOST_RUNNABLES
    → least_sum runnables ≤ MOST_RUNNABLES * MOST_TICKS
few_ticks runnables in_range few = omega (
  arith,
  few,
  sum_by-le (λ (runnable : RunnableDef). runnable.least) MOST_TICKS runnables
      (All-weaker IsRunnableInRange (λ (runnable : RunnableDef). runnable.least ≤ MOST_TICKS) (λ runnable h. h.least.1) runnables in_range),
)

pub least_time_small : (model : SystemModel) → IsValid model → (i : ℕ) → i < length model.tasks → (runnables : List RunnableDef)
    → runnables ≡ (task_at model i).runnables → least_sum runnables ≤ MOST_RUNNABLES * MOST_TICKS
least_time_small model valid i is runnables same =
    let task = All-get_or IsTaskDefInRange model.tasks i no_task is valid.in_range.tasks in
    omega (arith, few_ticks (task_at model i).runnables task.runnables task.count, ap least_sum same)

-- ---- periodic tasks in range

pub periodic_in_range : (period offset jitter time : ℕ) → IsKindInRange (Periodic period offset jitter) → IsKindOrdered (Periodic period offset jitter)
    → time ≤ MOST_RUNNABLES * MOST_TICKS
    → IsSureTaskInRange (record { phase = record { period = period; offset = offset; count = 1; distance = period }; jitter = jitter; time = time })
periodic_in_range period offset jitter time in_range ordered small = record {
  phase = record {
    is_phase = record { some = omega arith; apart = in_range.0.0; fits = omega arith };
    offset = ordered;
    period = in_range.0.1;
    count = omega arith;
  };
  jitter = in_range.2;
  time = small;
}

-- ---- all of them

-- two totals whose parts are alike
total_same : (p q : ℕ → Bool) (f g : ℕ → ℕ) (n : ℕ) → ((j : ℕ) → j < n → cond (p j) (f j) 0 ≡ cond (q j) (g j) 0) → total p f n ≡ total q g n
total_same p q f g zero same = refl
total_same p q f g (suc n) same = omega (arith, same n (omega arith), total_same p q f g n (λ j below. same j (omega (arith, below))))

-- of one that stands above, what is surely taken is what is counted
one_same : (core higher sure : Bool) (kind : StimulusKind) (from width least : ℕ)
    → cond core (cond (higher && sure) (surely_released true kind from width * least) 0) 0
    ≡ cond (core && higher) (surely_released sure kind from width * least) 0
one_same true true true kind from width least = refl
one_same true true false kind from width least = omega arith
one_same true false true kind from width least = refl
one_same true false false kind from width least = refl
one_same false higher sure kind from width least = refl

module _ (model : SystemModel) (task : ℕ) (is : task < length model.tasks) (in_phase : List ℕ) (counts : ℕ → Bool)
    (same : (other : ℕ) → is_one_of in_phase other ≡ counts other) where
  same_parts : (from width j : ℕ) → j < length model.tasks
      → cond (core_of model j == core_of model task) (counted_time model task in_phase from width j) 0
      ≡ cond (is_above (timing_at (system_of model) task) (timing_at (system_of model) j)) (surely_taken (system_of model) counts from width j) 0
  same_parts from width j below =
      one_same (core_of model j == core_of model task) (nat_lt (task_at model task).priority (task_at model j).priority) (is_one_of in_phase j)
      (stimulus_of model j) from width (least_times (timing_at (system_of model) j).ranges)
      ∙ ap (λ b. cond ((core_of model j == core_of model task) && nat_lt (task_at model task).priority (task_at model j).priority)
      (surely_released b (stimulus_of model j) from width * least_times (timing_at (system_of model) j).ranges) 0) (same j)
      ∙ ap (λ (other : Timing). cond (is_above (timing_of model (task_at model task)) other)
      (surely_released (counts j) other.pattern from width * least_times (timing_at (system_of model) j).ranges) 0) (sym (timing_is model j below))
      ∙ ap (λ (own : Timing). cond (is_above own (timing_at (system_of model) j)) (surely_taken (system_of model) counts from width j) 0)
      (sym (timing_is model task is))

  -- what is counted of the tasks of the core is the work above
  pub work_is : (from width : ℕ)
      → sum_by (counted_time model task in_phase from width) (tasks_of_core model (core_of model task)) ≡ work_above (system_of model) counts task from width
  unfolding work_above
  work_is from width =
      sym (total_of_range (λ j. core_of model j == core_of model task) (counted_time model task in_phase from width) (length model.tasks))
      ∙ total_same (λ j. core_of model j == core_of model task) (λ j. is_above (timing_at (system_of model) task) (timing_at (system_of model) j))
      (counted_time model task in_phase from width) (surely_taken (system_of model) counts from width) (length model.tasks) (same_parts from width)
      ∙ ap (total (λ j. is_above (timing_at (system_of model) task) (timing_at (system_of model) j)) (surely_taken (system_of model) counts from width))
      (sym (count_is model))
      ∙ total_of_range (λ j. is_above (timing_at (system_of model) task) (timing_at (system_of model) j)) (surely_taken (system_of model) counts from width)
      (length (system_of model).tasks)

-- ---- one after the other

module _ (model : SystemModel) (task : ℕ) (in_phase others : List ℕ) (i : ℕ) (within : i < length others) (items : List SureTask) (from width : ℕ)
    (so_far : sum_by (sure_time from width) items ≡ sum_by (counted_time model task in_phase from width) (take i others)) where
  more : sum_by (counted_time model task in_phase from width) (take (i + 1) others)
      ≡ sum_by (counted_time model task in_phase from width) (take i others) + counted_time model task in_phase from width (get_or others i 0)
  more = sum_by_more (counted_time model task in_phase from width) others i 0 within

  counted : is_sure model task in_phase (get_or others i 0) ≡ true
      → counted_time model task in_phase from width (get_or others i 0) ≡ time_of_other model from width (get_or others i 0)
  counted passes = ap (λ b. cond b (time_of_other model from width (get_or others i 0)) 0) passes

  -- one that is sure counts
  pub one_more : (sure : SureTask) → is_sure model task in_phase (get_or others i 0) ≡ true
      → sure_time from width sure ≡ time_of_other model from width (get_or others i 0)
      → sum_by (sure_time from width) (items ++ sure ∷ []) ≡ sum_by (counted_time model task in_phase from width) (take (i + 1) others)
  one_more sure passes same = omega (arith, so_far, more, counted passes, same, sum_by_push (sure_time from width) items sure)

  -- one that isn't periodic doesn't
  pub none_more : is_sure model task in_phase (get_or others i 0) ≡ true → 0 ≡ time_of_other model from width (get_or others i 0)
      → sum_by (sure_time from width) items ≡ sum_by (counted_time model task in_phase from width) (take (i + 1) others)
  none_more passes same = omega (arith, so_far, more, counted passes, same)

  -- nor does one that isn't sure
  pub not_more : is_sure model task in_phase (get_or others i 0) ≡ false
      → sum_by (sure_time from width) items ≡ sum_by (counted_time model task in_phase from width) (take (i + 1) others)
  not_more fails = omega (arith, so_far, more, ap (λ b. cond b (time_of_other model from width (get_or others i 0)) 0) fails)
