-- Smaller percentages: greatest times are no greater, so each task of the model, and what it waits for, takes no more.
use Rattle.std.proofs.Common.{◌≡◌, ℕ, suc, ◌+◌, ◌-◌, ◌*◌, ◌/◌, ◌<◌, ◌≤◌, inl, inr, Bool, true, false, cond, List, length, get_or, take, map, sym, ap, ◌∙◌, arith}
use Rattle.std.specs.Prelude.{◌==◌, All, filter, sum_by}
use Rattle.std.specs.List.{range_with_len, take-map}
use Rattle.std.proofs.lemmas.Bool.{cases_lt}
use Rattle.std.proofs.lemmas.List.{get_or_past}
use Rattle.std.proofs.lemmas.List.Elements.{All-filter, filter_passes}
use Rattle.std.proofs.lemmas.List.Folds.{fold-map}
use Rattle.std.proofs.lemmas.List.FromFn.{length-range_with_len, get_or-range_with_len}
use Rattle.std.proofs.lemmas.List.Sums.{sum_by-le-sum_by}
use Rattle.std.proofs.lemmas.Nat.{le-div}
use Rattle.std.proofs.Math.Nat.{mul-le-mul_left, div-mul-le_self}
use Rattle.cl_model.specs.{declared.{group.Group.Group, model.SystemModel.SystemModel, task.{RunnableDef.RunnableDef, TaskDef.TaskDef}}, ByNumber.task_at, Holds.greatest_by}
use Rattle.cl_model.proofs.Greatest.{greatest_mapped, greatest_within, greatest_least}
use Rattle.cl_runs.specs.{Priorities.{is_above, is_below}, SystemOf.{range_of, timing_of, system_of}, TaskTiming.{TimeRange, Timing, System, timing_at, no_timing}, ExecutionTimes.greatest_execution}
use Rattle.cl_resp.specs.{Clear.greatest_through, LesserTimes.TakesNoMore, Question.{hold_of, longest_hold, lower_block_of}}
use Rattle.cl_resp.proofs.Filters.{filter-map}
use Rattle.cl_tight.specs.LongerTimes.{IsNoLonger}
use Rattle.cl_scale.specs.Scaled.{scaled_time, scaled_runnable, scaled_task}
use Rattle.cl_margin.specs.{declared.whose.Whose.{Whose, TheVariants.{EveryTask, OneTask}}, Grown.{percent_of, grown_greatest, grown}}
use Rattle.cl_margin.proofs.GrownSystem.{grown_timing, system_count, timing_grown, timings_grown, systems_alike}

-- ---- times

quotient_rises : (m n : ℕ) → m ≤ n → m / 100 ≤ n / 100
quotient_rises m n le = le-div (m / 100) n 100 (omega arith) (omega (arith, le, div-mul-le_self m 100))

pub time_rises : (less more least greatest : ℕ) → less ≤ more → scaled_time less least greatest ≤ scaled_time more least greatest
time_rises less more least greatest le = omega (arith, quotient_rises (greatest * less) (greatest * more) (mul-le-mul_left greatest le))

either_rises : (b : Bool) (less more : ℕ) → less ≤ more → cond b less 100 ≤ cond b more 100
either_rises true less more le = le
either_rises false less more le = omega arith

pub percent_rises : (whose : Whose) (less more : ℕ) → less ≤ more → (task : ℕ) → percent_of whose less task ≤ percent_of whose more task
percent_rises EveryTask less more le task = le
percent_rises (OneTask one) less more le task = either_rises (task == one) less more le

hold_rises : (whole : Bool) (less more : ℕ) → less ≤ more → cond whole (less - 1) 0 ≤ cond whole (more - 1) 0
hold_rises true less more le = omega (arith, le)
hold_rises false less more le = omega arith

-- the greatest of a list rises with each element's number
greatest_rises : {X : Type 0} (f g : X → ℕ) (xs : List X) → All (λ x. f x ≤ g x) xs → greatest_by f xs ≤ greatest_by g xs
greatest_rises f g xs le = greatest_within f xs (greatest_by g xs)
    (λ k d lt. omega (arith, le k d lt, greatest_least g xs k d lt))

-- ---- a task of the model at a percentage

module _ (model : SystemModel) (task : TaskDef) where
  abbrev pub timed : (percent : ℕ) → Timing
  timed percent = timing_of model (scaled_task percent task)

  execution_is : (percent : ℕ) → greatest_execution (timed percent) ≡ sum_by (grown_greatest percent) task.runnables
  unfolding greatest_execution
  execution_is percent =
      fold-map (λ (a : ℕ) (range : TimeRange). a + range.greatest) range_of 0 (map (scaled_runnable percent) task.runnables)
      ∙ fold-map (λ (a : ℕ) (r : RunnableDef). a + r.greatest) (scaled_runnable percent) 0 task.runnables

  through_is : (percent place : ℕ) → greatest_through (timed percent) place ≡ sum_by (grown_greatest percent) (take (suc place) task.runnables)
  unfolding greatest_through
  through_is percent place =
      ap (sum_by (λ (range : TimeRange). range.greatest))
      (take-map range_of (suc place) (map (scaled_runnable percent) task.runnables)
      ∙ ap (map range_of) (take-map (scaled_runnable percent) (suc place) task.runnables))
      ∙ fold-map (λ (a : ℕ) (range : TimeRange). a + range.greatest) range_of 0 (map (scaled_runnable percent) (take (suc place) task.runnables))
      ∙ fold-map (λ (a : ℕ) (r : RunnableDef). a + r.greatest) (scaled_runnable percent) 0 (take (suc place) task.runnables)

  -- how long a runnable may hold its core then
  abbrev pub hold_at : (percent : ℕ) → RunnableDef → ℕ
  hold_at percent runnable = hold_of (range_of (scaled_runnable percent runnable))

  pub hold_is : (percent : ℕ) → longest_hold (timed percent) ≡ greatest_by (hold_at percent) task.runnables
  unfolding longest_hold
  hold_is percent =
      greatest_mapped hold_of range_of (map (scaled_runnable percent) task.runnables)
      ∙ greatest_mapped (λ (r : RunnableDef). hold_of (range_of r)) (scaled_runnable percent) task.runnables

  module _ (less more : ℕ) (le : less ≤ more) where
    pub execution_rises : greatest_execution (timed less) ≤ greatest_execution (timed more)
    execution_rises = omega (
      arith,
      execution_is less,
      execution_is more,
      sum_by-le-sum_by (grown_greatest less) (grown_greatest more) task.runnables (λ r. time_rises less more r.least r.greatest le),
    )

    through_rises : (place : ℕ) → greatest_through (timed less) place ≤ greatest_through (timed more) place
    through_rises place = omega (
      arith,
      through_is less place,
      through_is more place,
      sum_by-le-sum_by (grown_greatest less) (grown_greatest more) (take (suc place) task.runnables) (λ r. time_rises less more r.least r.greatest le),
    )

    pub longest_rises : longest_hold (timed less) ≤ longest_hold (timed more)
    longest_rises = omega (
      arith,
      hold_is less,
      hold_is more,
      greatest_rises (hold_at less) (hold_at more) task.runnables
          (λ k d lt. hold_rises (get_or task.runnables k d).whole (grown_greatest less (get_or task.runnables k d)) (grown_greatest more (get_or task.runnables k d))
          (time_rises less more (get_or task.runnables k d).least (get_or task.runnables k d).greatest le)),
    )

-- ---- what is asked for a task at two percentages

module _ (model : SystemModel) (whose : Whose) where
  abbrev numbers : List ℕ
  numbers = range_with_len 0 (length model.tasks)

  -- which tasks stand above and below a task is the same at each percentage
  abbrev pub above_it : (task other : ℕ) → Bool
  above_it task other = is_above (timing_of model (task_at model task)) (timing_of model (task_at model other))

  abbrev pub below_it : (task other : ℕ) → Bool
  below_it task other = is_below (timing_of model (task_at model task)) (timing_of model (task_at model other))

  module _ (task : ℕ) (h : task < length model.tasks) where
    block_is : (percent : ℕ) → lower_block_of (system_of (grown model whose percent)) (timing_at (system_of (grown model whose percent)) task)
        ≡ greatest_by (λ j. longest_hold (grown_timing model whose percent j)) (filter (below_it task) numbers)
    unfolding lower_block_of
    block_is percent =
        let tasks = (system_of (grown model whose percent)).tasks in
        let at : ℕ → Timing = grown_timing model whose percent in
        ap (λ (t : Timing). greatest_by longest_hold (filter (is_below t) tasks)) (timing_grown model whose percent task h)
        ∙ ap (λ (list : List Timing). greatest_by longest_hold (filter (is_below (at task)) list)) (timings_grown model whose percent)
        ∙ ap (greatest_by longest_hold) (filter-map (is_below (at task)) at numbers)
        ∙ greatest_mapped longest_hold at (filter (below_it task) numbers)

    module _ (one other : ℕ) where
      abbrev first : System
      first = system_of (grown model whose one)

      abbrev second : System
      second = system_of (grown model whose other)

      -- a task takes no more where it, those above it and the holds of those below it have grown no more
      pub takes_where : percent_of whose one task ≤ percent_of whose other task
          → ((j : ℕ) → j < length model.tasks → below_it task j ≡ true → longest_hold (grown_timing model whose one j) ≤ longest_hold (grown_timing model whose other j))
          → ((j : ℕ) → j < length model.tasks → above_it task j ≡ true → percent_of whose one j ≤ percent_of whose other j)
          → TakesNoMore first second task
      takes_where own below above = record {
        alike = (systems_alike model whose one other).alike;
        block = omega (
          arith,
          block_is one,
          block_is other,
          greatest_rises (λ j. longest_hold (grown_timing model whose one j)) (λ j. longest_hold (grown_timing model whose other j)) (filter (below_it task) numbers) holds_rise,
        );
        own = omega (
          arith,
          ap greatest_execution (timing_grown model whose one task h),
          ap greatest_execution (timing_grown model whose other task h),
          execution_rises model (task_at model task) (percent_of whose one task) (percent_of whose other task) own,
        );
        above = λ j is. elim (cases_lt j (length model.tasks)) [
          | inl within ↦
              let stands : above_it task j ≡ true =
              sym (ap (λ (t : Timing). is_above t (timing_at second j)) (timing_grown model whose other task h)
              ∙ ap (λ (t : Timing). is_above (grown_timing model whose other task) t) (timing_grown model whose other j within)) ∙ is in
              omega (
                arith,
                ap greatest_execution (timing_grown model whose one j within),
                ap greatest_execution (timing_grown model whose other j within),
                execution_rises model (task_at model j) (percent_of whose one j) (percent_of whose other j) (above j within stands),
              )
          | inr past ↦ omega (
            arith,
            ap greatest_execution (get_or_past first.tasks j no_timing (omega (arith, past, system_count model whose one))),
            ap greatest_execution (get_or_past second.tasks j no_timing (omega (arith, past, system_count model whose other))),
          )
        ];
      }
        where
          in_order : (k d : ℕ) → k < length numbers → below_it task (get_or numbers k d) ≡ true
              → longest_hold (grown_timing model whose one (get_or numbers k d)) ≤ longest_hold (grown_timing model whose other (get_or numbers k d))
          in_order k d lt is =
              let within : k < length model.tasks = omega (arith, lt, length-range_with_len 0 (length model.tasks)) in
              below (get_or numbers k d) (omega (arith, within, get_or-range_with_len 0 (length model.tasks) k d within)) is

          holds_rise : All (λ j. longest_hold (grown_timing model whose one j) ≤ longest_hold (grown_timing model whose other j)) (filter (below_it task) numbers)
          holds_rise k d lt =
              All-filter (below_it task) (λ j. below_it task j ≡ true → longest_hold (grown_timing model whose one j) ≤ longest_hold (grown_timing model whose other j))
              numbers in_order k d lt (filter_passes (below_it task) numbers k d lt)

      -- and so do its runnables up to each where it has
      pub through_where : percent_of whose one task ≤ percent_of whose other task → (place : ℕ)
          → greatest_through (timing_at first task) place ≤ greatest_through (timing_at second task) place
      through_where own place = omega (
        arith,
        ap (λ (t : Timing). greatest_through t place) (timing_grown model whose one task h),
        ap (λ (t : Timing). greatest_through t place) (timing_grown model whose other task h),
        through_rises model (task_at model task) (percent_of whose one task) (percent_of whose other task) own place,
      )

  -- so it is at a smaller percentage
  module _ (less more : ℕ) (le : less ≤ more) where
    pub task_below : (task : ℕ) → task < length model.tasks → TakesNoMore (system_of (grown model whose less)) (system_of (grown model whose more)) task
    task_below task h = takes_where task h less more (percent_rises whose less more le task)
        (λ j g is. longest_rises model (task_at model j) (percent_of whose less j) (percent_of whose more j) (percent_rises whose less more le j))
        (λ j g is. percent_rises whose less more le j)

    pub group_below : (group : Group) → group.task < length model.tasks → IsNoLonger (system_of (grown model whose less)) (system_of (grown model whose more)) group
    group_below group h = record {
      task = task_below group.task h;
      through = through_where group.task h less more (percent_rises whose less more le group.task) group.last;
    }
