-- Which of the tasks above a task count by their phases, and the cycle after which these and the task itself come
-- round together. Times are in ticks.
use Rattle.std.specs.Prelude.{ℕ, ◌*◌, ◌==◌, Bool, false, not, nat_le, if◌then◌else◌, List, [], ◌∷◌, ◌++◌, map, filter, fold, flat_map, sum_by, Option, Some, None, option_to_list}
use Rattle.std.specs.List.{list_any, range_with_len}
use Rattle.cl_model.specs.declared.limits.TheConstants.{MOST_TICKS}
use Rattle.cl_runs.specs.{TaskTiming.{System, timing_at}, Priorities.tasks_above}
use Rattle.cl_stim.specs.{declared.phase.Phase.Phase, Multiples.hyperperiod_of, Phase.{phase_of, arrivals_in}, Releases.most_releases}
use Rattle.cl_cycle.specs.{declared.cycle.TheConstants.{MOST_IN_CYCLE, MOST_WORK}, Counts.arrivals_of}

-- ---- phases that come round together

-- the phases of other tasks and, if its arrivals are fixed, of the task itself
abbrev pub phases_with : System → (task : ℕ) → (others : List ℕ) → List Phase
phases_with system task others =
    map (λ other. arrivals_of (timing_at system other).pattern) others
    ++ option_to_list (phase_of (timing_at system task).pattern)

-- how many jobs arrive in the hyperperiod of these phases, all in all
abbrev pub arrivals_together : List Phase → ℕ
arrivals_together phases = sum_by (arrivals_in (hyperperiod_of phases)) phases

-- ---- in which order tasks are gone through

-- whether the arrivals of a task are fixed and have this period
abbrev pub is_of_period : (period : ℕ) → Option Phase → Bool
is_of_period period (Some phase) = phase.period == period
is_of_period period None = false

-- those of some tasks whose arrivals are fixed: by their periods, the least first, and as they stand where these are
-- alike
unfoldable pub by_period : System → (tasks : List ℕ) → List ℕ
by_period system tasks =
    flat_map (λ period. filter (λ task. is_of_period period (phase_of (timing_at system task).pattern)) tasks)
    (range_with_len 1 MOST_TICKS)

-- ---- which are in phase

-- those that are in phase with one more: it joins them if few jobs arrive until all of these, and the task itself, come
-- round together
unfoldable pub joined_by : System → (task : ℕ) → (so_far : List ℕ) → (other : ℕ) → List ℕ
joined_by system task so_far other =
    if nat_le (arrivals_together (phases_with system task (other ∷ so_far))) MOST_IN_CYCLE then other ∷ so_far else so_far

-- those of the tasks above that come round soon, the last to join first
abbrev pub gathered_above : System → (task : ℕ) → List ℕ
gathered_above system task = fold (joined_by system task) [] (by_period system (tasks_above system task))

-- whether a task is one of these
abbrev pub is_one_of : (tasks : List ℕ) → (task : ℕ) → Bool
is_one_of tasks task = list_any (λ one. one == task) tasks

-- the most jobs of the other tasks above that are released in as many ticks as the deadline
abbrev pub released_beside : System → (task : ℕ) → (in_phase : List ℕ) → ℕ
released_beside system task in_phase =
    sum_by (λ other. most_releases (timing_at system other).pattern (timing_at system task).deadline)
    (filter (λ other. not (is_one_of in_phase other)) (tasks_above system task))

-- how much work a response by phases may be: a cap on what a hostile file can ask
abbrev pub work_with : System → (task : ℕ) → (in_phase : List ℕ) → ℕ
work_with system task in_phase =
    arrivals_together (phases_with system task in_phase) * released_beside system task in_phase

-- the tasks above a task that are in phase: those that come round soon, or none where they would be too much work
unfoldable pub in_phase_above : System → (task : ℕ) → List ℕ
in_phase_above system task =
    let gathered = gathered_above system task in
    if nat_le (work_with system task gathered) MOST_WORK then gathered else []

-- the cycle of a task: after so many ticks those in phase, and the task itself if its arrivals are fixed, come round
unfoldable pub cycle_of : System → (task : ℕ) → ℕ
cycle_of system task = hyperperiod_of (phases_with system task (in_phase_above system task))
