-- What a window of a task holds, where its question asks enough: what blocks the task, its greatest execution time, and
-- the most that those above it can take.
use Rattle.std.proofs.Common.{ℕ, ◌+◌, ◌*◌, ◌<◌, ◌≤◌, length, ap, arith}
use Rattle.std.specs.Prelude.{sum_by, map, filter}
use Rattle.std.proofs.lemmas.List.Sums.{sum_by-le-sum_by}
use Rattle.std.proofs.lemmas.List.Folds.{fold-map}
use Rattle.cl_model.specs.{declared.stimulus.StimulusKind.StimulusKind, Timing.greatest_jitter}
use Rattle.cl_runs.specs.{TaskTiming.{Timing, System, timing_at, no_timing, IsSound}, Priorities.is_above, ExecutionTimes.greatest_execution}
use Rattle.cl_stim.specs.{AnyStimulus.{kind_of, as_stimulus}, Releases.most_releases}
use Rattle.cl_stim.proofs.StimulusKinds.{kind_of-as_stimulus}
use Rattle.cl_resp.specs.{declared.question.{Above.Above, Question.Question}, Question.{lower_block_of, taken_by, AsksEnough}, Response.{demand, IsWindow}}
use Rattle.cl_resp.proofs.{BusyWindowTotals.{total, total_of_list}, BusyWindowTicks.above}

-- the most ticks that task j takes of a window
abbrev pub most_taken : System → (width j : ℕ) → ℕ
most_taken system width j = most_releases (timing_at system j).pattern width * greatest_execution (timing_at system j)

-- a window of the task: it lies within the deadline, and holds a block that is no less than how long a task of lower
-- priority may hold the core, its greatest time and what those above can take
pub record HoldsDemand (system : System) (i block width : ℕ) : Type 0 where
  pub within : greatest_jitter (timing_at system i).pattern + width ≤ (timing_at system i).deadline
  pub blocked : lower_block_of system (timing_at system i) ≤ block
  pub enough : block + greatest_execution (timing_at system i) + total (above system i) (most_taken system width) (length system.tasks) ≤ width

-- what the tasks above take of a window is counted with their greatest times
above_counts : (system : System) (task : Timing) (width : ℕ)
    → sum_by (λ (other : Timing). most_releases other.pattern width * greatest_execution other) (filter (is_above task) system.tasks)
    ≤ sum_by (λ (above : Above). most_releases (kind_of above.stimulus) width * above.time) (map taken_by (filter (is_above task) system.tasks))
above_counts system task width = omega (
  arith,
  fold-map (λ (a : ℕ) (taken : Above). a + most_releases (kind_of taken.stimulus) width * taken.time) taken_by 0
      (filter (is_above task) system.tasks),
  sum_by-le-sum_by (λ (other : Timing). most_releases other.pattern width * greatest_execution other)
      (λ (other : Timing). most_releases (kind_of (as_stimulus other.pattern)) width * greatest_execution other)
      (filter (is_above task) system.tasks)
      (λ other. omega (arith, ap (λ (kind : StimulusKind). most_releases kind width * greatest_execution other) (kind_of-as_stimulus other.pattern))),
)

-- the demand counts the block, the greatest time, and each task above
pub demand_counts : (system : System) (task : Timing) (question : Question) → AsksEnough system task question → (width : ℕ)
    → question.block + greatest_execution task
    + sum_by (λ (other : Timing). most_releases other.pattern width * greatest_execution other) (filter (is_above task) system.tasks)
    ≤ demand question width
unfolding demand
demand_counts system task question asks width = omega (
  arith,
  asks.time,
  ap (sum_by (λ (above : Above). most_releases (kind_of above.stimulus) width * above.time)) asks.above,
  above_counts system task width,
)

-- the window of a question that asks enough of the task holds the demand
pub window_holds : (system : System) → IsSound system → (i : ℕ) → i < length system.tasks → (question : Question)
    → AsksEnough system (timing_at system i) question → (width : ℕ) → IsWindow question width → HoldsDemand system i question.block width
window_holds system sound i is question asks width window = record {
  within = omega (arith, window.within, asks.jitter, asks.deadline, (sound.tasks i is).above_jitter);
  blocked = asks.block;
  enough = omega (
    arith,
    window.enough,
    demand_counts system (timing_at system i) question asks width,
    total_of_list (is_above (timing_at system i)) (λ (other : Timing). most_releases other.pattern width * greatest_execution other) system.tasks no_timing,
  );
}
