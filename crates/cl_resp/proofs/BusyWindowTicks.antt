-- What a core runs in a tick while a task or one above it waits: one of these, or a held task of lower priority.
use Rattle.std.proofs.Common.{◌≡◌, ℕ, zero, suc, ◌+◌, ◌<◌, ◌≤◌, ◌⊎◌, inl, inr, Option, Some, None, Bool, true, length, refl, ap, ◌∙◌, arith}
use Rattle.std.proofs.lemmas.Bool.{cases_lt, and_parts, and_from, eqb-true, eq-eqb, ltb-true, lt-ltb}
use Rattle.cl_runs.specs.{TaskTiming.{System, timing_at, IsSound}, Run.{Run, jobs_of, entry_at, executed}, Legal.{released, IsHighestPending, IsNonePending, IsLegal, IsScheduled}, Moments.IsHeldAt, Priorities.is_above}
use Rattle.cl_runs.proofs.{Climbing.climb_mono, Executed.{executed_zero, executed_climbs, executed_grew, executed_more}, LegalFacts.{core_ticks, executed_released, running_pending}}
use Rattle.cl_resp.specs.Clear.{released_before}
use Rattle.cl_resp.proofs.{BusyWindowTotals.{total, total_rises, total_grows}, BusyWindowStart.HasLess, BusyWindowWork.released_is}

-- whether task j is above task i
abbrev pub above : System → ℕ → ℕ → Bool
above system i j = is_above (timing_at system i) (timing_at system j)

-- the ticks that task i and those above it have executed by t
abbrev pub executed_above : System → Run → ℕ → ℕ → ℕ
executed_above system run i t = total (above system i) (λ j. executed system run j t) (length system.tasks)

-- in tick t a task above task i runs
pub record RunsAbove (system : System) (run : Run) (i t : ℕ) : Type 0 where
  pub task : ℕ
  pub is_task : task < length system.tasks
  pub above : above system i task ≡ true
  pub runs : entry_at run (timing_at system i).core t ≡ Some task

-- in tick t task i runs, or one above it
abbrev pub RunsHere : System → Run → (i t : ℕ) → Type 0
RunsHere system run i t = RunsAbove system run i t ⊎ (entry_at run (timing_at system i).core t ≡ Some i)

-- in tick t a held task of lower priority than task i runs
pub record RunsLower (system : System) (run : Run) (i t : ℕ) : Type 0 where
  pub task : ℕ
  pub is_task : task < length system.tasks
  pub on_core : (timing_at system task).core ≡ (timing_at system i).core
  pub lower : (timing_at system task).priority < (timing_at system i).priority
  pub held : IsHeldAt system run task t

-- at t a task above task i has work left, or task i has
abbrev pub IsWaiting : System → Run → (i t : ℕ) → Type 0
IsWaiting system run i t = HasLess (above system i) (λ j. executed system run j t) (λ j. released_before (jobs_of run j) (suc t)) (length system.tasks)
    ⊎ (executed system run i t < released_before (jobs_of run i) (suc t))

-- a task above is on the same core, and its priority is higher
pub above_core : (system : System) (i j : ℕ) → above system i j ≡ true → (timing_at system j).core ≡ (timing_at system i).core
above_core system i j is = eqb-true _ _ (and_parts _ _ is).0

pub above_priority : (system : System) (i j : ℕ) → above system i j ≡ true → (timing_at system i).priority < (timing_at system j).priority
above_priority system i j is = ltb-true _ _ (and_parts _ _ is).1

above_from : (system : System) (i j : ℕ) → (timing_at system j).core ≡ (timing_at system i).core
    → (timing_at system i).priority < (timing_at system j).priority → above system i j ≡ true
above_from system i j core higher = and_from _ _ (eq-eqb _ _ core) (lt-ltb _ _ higher)

-- executed ticks never fall
pub executed_rises : (system : System) (run : Run) (j t : ℕ) → executed system run j t ≤ executed system run j (suc t)
executed_rises system run j t = climb_mono (executed system run j) (executed_climbs system run j) t (suc t) (omega arith)

module _ (system : System) (sound : IsSound system) (run : Run) (legal : IsLegal system run) where
  executed_next : (j : ℕ) → j < length system.tasks → (t : ℕ) → t < run.table.ticks
      → (executed system run j (suc t) ≡ executed system run j t) ⊎ (executed system run j (suc t) ≡ suc (executed system run j t))
      → executed system run j (suc t) ≤ released (jobs_of run j) t
  executed_next j is t h (inl same) = omega (arith, executed_released system sound run legal j is t (omega arith))
  executed_next j is t h (inr more) = omega (arith, running_pending system sound run legal j is t h (executed_grew system run j t more).1)

  -- no more is executed by a moment than is released before it
  pub executed_before : (j : ℕ) → j < length system.tasks → (t : ℕ) → t ≤ run.table.ticks
      → executed system run j t ≤ released_before (jobs_of run j) t
  executed_before j is zero h = omega (arith, executed_zero system run j)
  executed_before j is (suc t) h =
      omega (arith, executed_next j is t h (executed_climbs system run j t), released_is (jobs_of run j) t)

module _ (system : System) (sound : IsSound system) (run : Run) (legal : IsLegal system run) (i : ℕ) (is : i < length system.tasks) where
  -- a task of the core that runs is above, or task i, or of lower priority
  by_priority : (t m : ℕ) → m < length system.tasks → (timing_at system m).core ≡ (timing_at system i).core
      → entry_at run (timing_at system i).core t ≡ Some m
      → RunsHere system run i t ⊎ ((timing_at system m).priority < (timing_at system i).priority)
  by_priority t m is_m core runs = elim (cases_lt (timing_at system i).priority (timing_at system m).priority) [
    | inl higher ↦ inl (inl (record { task = m; is_task = is_m; above = above_from system i m core higher; runs = runs }))
    | inr no_higher ↦ elim (cases_lt (timing_at system m).priority (timing_at system i).priority) [
      | inl lower ↦ inr lower
      | inr no_lower ↦ inl (inr (runs ∙ ap Some (sound.distinct m i is_m is core (omega (arith, no_higher, no_lower)))))
    ]
  ]

  scheduled_held : (t m : ℕ) → m < length system.tasks → (timing_at system m).core ≡ (timing_at system i).core → IsHeldAt system run m t
      → entry_at run (timing_at system i).core t ≡ Some m → RunsHere system run i t ⊎ RunsLower system run i t
  scheduled_held t m is_m core held runs = elim (by_priority t m is_m core runs) [
    | inl here ↦ inl here
    | inr lower ↦ inr (record { task = m; is_task = is_m; on_core = core; lower = lower; held = held })
  ]

  -- where the pending task of highest priority runs, it isn't lower than one that waits
  scheduled_first : (t m : ℕ) → entry_at run (timing_at system i).core t ≡ Some m
      → IsHighestPending system run.table (λ j. executed system run j t) t (timing_at system i).core m
      → IsWaiting system run i t → (timing_at system i).priority ≤ (timing_at system m).priority
  scheduled_first t m runs first (inl less) = omega (
    arith,
    above_priority system i less.at less.passes,
    first.highest less.at less.below (above_core system i less.at less.passes) (omega (arith, less.less, released_is (jobs_of run less.at) t)),
  )
  scheduled_first t m runs first (inr itself) = first.highest i is refl (omega (arith, itself, released_is (jobs_of run i) t))

  -- a core doesn't idle where one waits
  scheduled_none : (t : ℕ) → IsNonePending system run.table (λ j. executed system run j t) t (timing_at system i).core → IsWaiting system run i t → ⊥
  scheduled_none t idle (inl less) =
      idle.none less.at less.below (above_core system i less.at less.passes) (omega (arith, less.less, released_is (jobs_of run less.at) t))
  scheduled_none t idle (inr itself) = idle.none i is refl (omega (arith, itself, released_is (jobs_of run i) t))

  scheduled_waiting : (t : ℕ) (e : Option ℕ) → entry_at run (timing_at system i).core t ≡ e
      → IsScheduled system run.table (λ j. executed system run j t) t (timing_at system i).core e
      → IsWaiting system run i t → RunsHere system run i t ⊎ RunsLower system run i t
  scheduled_waiting t None runs idle waits = absurd (scheduled_none t idle.1 waits)
  scheduled_waiting t (Some m) runs (inl first) waits = scheduled_held t m first.is_task first.on_core first.held runs
  scheduled_waiting t (Some m) runs (inr first) waits = elim (by_priority t m first.1.is_task first.1.on_core runs) [
    | inl here ↦ inl here
    | inr lower ↦ absurd (omega (arith, lower, scheduled_first t m runs first.1 waits))
  ]

  -- where one waits, task i or one above runs, or a held task of lower priority
  pub runs_waiting : (t : ℕ) → t < run.table.ticks → IsWaiting system run i t → RunsHere system run i t ⊎ RunsLower system run i t
  runs_waiting t h waits = scheduled_waiting t _ refl (legal.scheduled (timing_at system i).core t (sound.tasks i is).on_core h) waits

  -- where one above runs, the executed ticks of those above grow
  above_grows : (t : ℕ) → t < run.table.ticks → RunsAbove system run i t → executed_above system run i t < executed_above system run i (suc t)
  above_grows t h one =
      let core : (timing_at system one.task).core ≡ (timing_at system i).core = above_core system i one.task one.above in
      let more : executed system run one.task (suc t) ≡ suc (executed system run one.task t)
      = executed_more system run one.task t (omega (arith, h, core_ticks system sound run legal one.task one.is_task))
      (ap (λ (c : ℕ). entry_at run c t) core ∙ one.runs) in
      total_grows (above system i) (λ j. executed system run j t) (λ j. executed system run j (suc t)) (λ j. executed_rises system run j t)
      one.task one.above (omega (arith, more)) (length system.tasks) one.is_task

  -- where task i or one above runs, their ticks together grow
  pub grows_here : (t : ℕ) → t < run.table.ticks → RunsHere system run i t
      → executed system run i t + executed_above system run i t < executed system run i (suc t) + executed_above system run i (suc t)
  grows_here t h (inl one) = omega (arith, above_grows t h one, executed_rises system run i t)
  grows_here t h (inr itself) = omega (
    arith,
    executed_more system run i t (omega (arith, h, core_ticks system sound run legal i is)) itself,
    total_rises (above system i) (λ j. executed system run j t) (λ j. executed system run j (suc t)) (length system.tasks)
        (λ j _ _. executed_rises system run j t),
  )
