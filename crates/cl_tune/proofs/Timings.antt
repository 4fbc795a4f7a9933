-- The timing of a task of a valid model by its number, and what it takes of its core.
use Rattle.std.proofs.Common.{◌≡◌, ℕ, ◌+◌, ◌-◌, ◌<◌, ◌≤◌, Bool, true, false, cond, length, get_or, ap, ◌∙◌, arith}
use Rattle.std.proofs.lemmas.List.Folds.{fold-map}
use Rattle.cl_model.specs.{declared.{limits.TheConstants.MOST_TICKS, model.SystemModel.SystemModel}, ByNumber.{task_at, core_of, stimulus_of, deadline_of, time_of}, Validity.IsValid, Holds.{runnable_hold, task_hold}}
use Rattle.cl_model.proofs.{ValidTasks.runnables_in_range, Greatest.{greatest_within, greatest_mapped}}
use Rattle.cl_runs.specs.{TaskTiming.{TimeRange, Timing, timing_at}, SystemOf.{range_of, system_of}, ExecutionTimes.greatest_execution}
use Rattle.cl_runs.proofs.ModelSystem.{timing_is}
use Rattle.cl_stim.specs.AnyStimulus.{as_stimulus}
use Rattle.cl_resp.specs.{declared.question.Above.Above, Question.{hold_of, longest_hold, taken_by}}

-- how long a runnable of a task may hold its core, by number
abbrev pub hold_at : SystemModel → (task : ℕ) → ℕ
hold_at model task = task_hold (task_at model task)

-- what a task takes of its core, by number
abbrev pub taken_at : SystemModel → (task : ℕ) → Above
taken_at model task = record { stimulus = as_stimulus (stimulus_of model task); time = time_of model task }

module _ (model : SystemModel) (i : ℕ) (h : i < length model.tasks) where
  pub core_is : (timing_at (system_of model) i).core ≡ core_of model i
  core_is = ap (λ (t : Timing). t.core) (timing_is model i h)

  pub pattern_is : (timing_at (system_of model) i).pattern ≡ stimulus_of model i
  pattern_is = ap (λ (t : Timing). t.pattern) (timing_is model i h)

  pub deadline_is : (timing_at (system_of model) i).deadline ≡ deadline_of model i
  deadline_is = ap (λ (t : Timing). t.deadline) (timing_is model i h)

  pub time_is : greatest_execution (timing_at (system_of model) i) ≡ time_of model i
  unfolding greatest_execution
  time_is = ap greatest_execution (timing_is model i h) ∙ fold-map (λ (a : ℕ) (range : TimeRange). a + range.greatest) range_of 0 (task_at model i).runnables

  pub hold_is : longest_hold (timing_at (system_of model) i) ≡ hold_at model i
  unfolding longest_hold
  hold_is = ap longest_hold (timing_is model i h) ∙ greatest_mapped hold_of range_of (task_at model i).runnables

  pub taken_is : taken_by (timing_at (system_of model) i) ≡ taken_at model i
  taken_is =
      ap (λ (t : Timing). record { stimulus = as_stimulus t.pattern; time = greatest_execution (timing_at (system_of model) i) }) (timing_is model i h)
      ∙ ap (λ (time : ℕ). record { stimulus = as_stimulus (stimulus_of model i); time = time }) time_is

  -- no runnable in range holds its core for longer than the greatest time
  pub hold_few : IsValid model → hold_at model i ≤ MOST_TICKS
  hold_few valid = greatest_within runnable_hold (task_at model i).runnables MOST_TICKS
      (λ p d lt. part_few (get_or (task_at model i).runnables p d).whole (get_or (task_at model i).runnables p d).greatest
      (runnables_in_range model valid i h p d lt).greatest.1)
    where
      part_few : (whole : Bool) (greatest : ℕ) → greatest ≤ MOST_TICKS → cond whole (greatest - 1) 0 ≤ MOST_TICKS
      part_few true greatest few = omega (arith, few)
      part_few false greatest few = omega arith
