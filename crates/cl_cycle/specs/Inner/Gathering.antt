-- How the tasks in phase above a task are gathered, period by period. Times are in ticks.
use Rattle.std.specs.Prelude.{◌≡◌, ℕ, ◌<◌, ◌≤◌, Bool, false, cond, nat_lt, List, All, Option, None, reverse}
use Rattle.cl_model.specs.{declared.{limits.TheConstants.MOST_TICKS, model.SystemModel.SystemModel}, ByNumber.{task_at, core_of, stimulus_of, tasks_of_core}}
use Rattle.cl_runs.specs.TaskTiming.{System}
use Rattle.cl_stim.specs.{declared.phase.Phase.Phase, Multiples.hyperperiod_of, Phase.{IsPhaseInRange, phase_of}}
use Rattle.cl_cycle.specs.{declared.cycle.Cycle.Cycle, Cycles.{phases_with, arrivals_together, is_of_period}}

-- the tasks on the core of a task
abbrev pub tasks_beside : SystemModel → (task : ℕ) → List ℕ
tasks_beside model task = tasks_of_core model (core_of model task)

-- whether another task has a higher priority
abbrev pub has_higher : SystemModel → (task other : ℕ) → Bool
has_higher model task other = nat_lt (task_at model task).priority (task_at model other).priority

-- the phase of another task of the same core, if it stands above and its arrivals are fixed
abbrev pub phase_above : SystemModel → (task other : ℕ) → Option Phase
phase_above model task other = cond (has_higher model task other) (phase_of (stimulus_of model other)) None

-- whether it has such a phase, of this period
abbrev pub is_above_with : SystemModel → (task period other : ℕ) → Bool
is_above_with model task period other = is_of_period period (phase_above model task other)

-- no such phase of these tasks has a period between two numbers
abbrev pub AreNoneBetween : SystemModel → (task after until : ℕ) → List ℕ → Type 0
AreNoneBetween model task after until others =
    All (λ other. (period : ℕ) → after < period → period < until → is_above_with model task period other ≡ false) others

-- no period of such a phase comes after one number and before another
pub record IsNextPeriod (model : SystemModel) (task after next : ℕ) : Type 0 where
  pub later : after < next
  pub few : next ≤ MOST_TICKS
  pub none_between : AreNoneBetween model task after next (tasks_beside model task)

-- phases come round together after so many ticks, and so many jobs arrive until then
pub record AreTogether (phases : List Phase) (ticks arrivals : ℕ) : Type 0 where
  pub ticks_are : ticks ≡ hyperperiod_of phases
  pub arrivals_are : arrivals ≡ arrivals_together phases
  pub in_range : All IsPhaseInRange phases

-- the tasks that are in phase so far, the last to join last, and how they come round with the task
pub record IsGathered (system : System) (task : ℕ) (so_far : List ℕ) (cycle : Cycle) : Type 0 where
  pub in_phase : cycle.in_phase.items ≡ reverse so_far
  pub together : AreTogether (phases_with system task so_far) cycle.ticks cycle.arrivals
