-- What runs ahead of a runnable as the code holds it, and how its lead is raised. Times are in
-- ticks.
use Rattle.std.specs.Prelude.{◌≡◌, ℕ, suc, pos, ◌-ℤ◌, ◌+ℤ◌, ◌≤ℤ◌, ◌+◌, ◌-◌, ◌*◌, ◌<◌, ◌≤◌, ◌⊎◌, ◌&&◌, Bool, false, true, cond, nat_lt, List, sum_by, All, Option, Some, None}
use Rattle.cl_model.specs.{declared.{limits.TheConstants.{MOST_TICKS, MOST_RUNNABLES}, model.SystemModel.SystemModel}, ByNumber.{task_at, stimulus_of}}
use Rattle.cl_runs.specs.{SystemOf.system_of, TaskTiming.timing_at}
use Rattle.cl_stim.specs.{declared.phase.Phase.Phase, Phase.{IsPhaseInRange, arrives_at, last_arrival}}
use Rattle.cl_cycle.specs.{declared.cycle.TheConstants.MOST_IN_CYCLE, Counts.arrivals_from, Cycles.is_one_of}
use Rattle.cl_comm.specs.Windows.{least_times}
use Rattle.cl_lead.specs.{declared.sure.{SureTask.SureTask, SureWork.SureWork}, Ahead.{Ahead, MayStartAt}, Leads.surely_released}

-- how long the jobs of a task run at least that are surely released from a moment on, up to so many
-- ticks later
abbrev pub sure_time : (from width : ℕ) → SureTask → ℕ
sure_time from width above = arrivals_from above.phase (pos from) (suc width - above.jitter) * above.time

-- that of a task, if it is one
abbrev pub time_if : (from width : ℕ) → Option SureTask → ℕ
time_if from width (Some above) = sure_time from width above
time_if from width None = 0

-- how long the jobs of another task of the core run at least that are surely released so, if it
-- stands above and is in phase
abbrev pub time_of_other : SystemModel → (from width other : ℕ) → ℕ
time_of_other model from width other =
    surely_released true (stimulus_of model other) from width * least_times (timing_at (system_of model) other).ranges

abbrev pub is_sure : SystemModel → (task : ℕ) → (in_phase : List ℕ) → (other : ℕ) → Bool
is_sure model task in_phase other = nat_lt (task_at model task).priority (task_at model other).priority && is_one_of in_phase other

abbrev pub counted_time : SystemModel → (task : ℕ) → (in_phase : List ℕ) → (from width other : ℕ) → ℕ
counted_time model task in_phase from width other = cond (is_sure model task in_phase other) (time_of_other model from width other) 0

-- what runs ahead by these
abbrev pub ahead_in : SureWork → Ahead
ahead_in work = record {
  arrivals = work.arrivals;
  cycle = work.cycle;
  before = work.before;
  deadline = work.deadline;
  work = λ from width. sum_by (sure_time from width) work.above.items;
}

-- all moments lie at most so far from 0
abbrev pub LATEST_COUNTED : ℕ
LATEST_COUNTED = 20000 * MOST_TICKS

-- a task whose numbers are those of a valid model
pub record IsSureTaskInRange (above : SureTask) : Type 0 where
  pub phase : IsPhaseInRange above.phase
  pub jitter : above.jitter ≤ MOST_TICKS
  pub time : above.time ≤ MOST_RUNNABLES * MOST_TICKS

-- work whose numbers are
pub record IsWorkInRange (work : SureWork) : Type 0 where
  pub arrivals : IsPhaseInRange work.arrivals
  pub short : work.cycle ≤ MOST_IN_CYCLE * MOST_TICKS
  pub deadline : work.deadline ≤ MOST_TICKS
  pub above : All IsSureTaskInRange work.above.items

-- no job of a phase arrives after a moment and before another
abbrev pub NoneArrives : Phase → (after until : ℕ) → Type 0
NoneArrives phase after until = (between : ℕ) → after < between → between < until → arrives_at phase (pos between) ≡ false

-- from a moment on no more is counted than from the next: neither the job nor one of those above
-- arrives there
pub record IsQuiet (work : SureWork) (arrival moment : ℕ) : Type 0 where
  pub other : moment ≡ arrival → ⊥
  pub none : All (λ (above : SureTask). arrives_at above.phase (pos moment) ≡ false) work.above.items

-- the first moment from which on something is counted: the tick after the arrival before, or 0
pub record IsFirstCounted (work : SureWork) (arrival moment : ℕ) : Type 0 where
  pub by : moment ≤ arrival
  pub near : arrival ≤ moment + MOST_TICKS
  pub after : (last_arrival work.arrivals (pos arrival -ℤ pos 1) +ℤ pos 1) ≤ℤ pos moment
  pub first : (from : ℕ) → (last_arrival work.arrivals (pos arrival -ℤ pos 1) +ℤ pos 1) ≤ℤ pos from → moment ≤ from

-- after an arrival a runnable may start at none of the distances from one up to another
abbrev pub NoneMayStart : Ahead → (arrival from until : ℕ) → Type 0
NoneMayStart ahead arrival from until = (lead : ℕ) → from ≤ lead → lead < until → MayStartAt ahead arrival (arrival + lead) → ⊥

-- a distance is raised to another: it may start at none between, and at this one if it isn't raised
pub record IsRaised (ahead : Ahead) (arrival lead most raised : ℕ) : Type 0 where
  pub no_less : lead ≤ raised
  pub no_more : raised ≤ most
  pub none : NoneMayStart ahead arrival lead raised
  pub may : raised ≡ lead → MayStartAt ahead arrival (arrival + lead)

-- the least distance at which it may start after an arrival, if that is less than another; else the
-- other
pub record IsLeastLeadAfter (ahead : Ahead) (arrival most lead : ℕ) : Type 0 where
  pub no_less : ahead.before ≤ lead
  pub no_more : lead ≤ most
  pub none : NoneMayStart ahead arrival ahead.before lead
  pub may : (lead ≡ most) ⊎ MayStartAt ahead arrival (arrival + lead)
