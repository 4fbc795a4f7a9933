-- Held tasks of lower priority run only at the beginning of a busy window: each began its whole runnable before the
-- window did, since within it such a task isn't the highest pending one, and no runnable holds its core for longer than
-- what blocks the task.
use Rattle.std.proofs.Common.{◌≡◌, ℕ, suc, ◌+◌, ◌<◌, ◌≤◌, inl, inr, true, ◌-◌, length, sym, ◌∙◌, arith}
use Rattle.std.specs.Prelude.{slice_index}
use Rattle.std.proofs.lemmas.Bool.{cases_lt, cond-true, and_from, eq-eqb, lt-ltb}
use Rattle.cl_runs.specs.{TaskTiming.{Timing, System, timing_at, no_timing, range_at, no_range, IsSound}, Table.{job_at, LiesIn}, Run.{Run, jobs_of, executed}, Held.IsHeldIn, Legal.{IsHighestPending, IsLegal}, Moments.{Starts, HasStartedBefore}, Priorities.is_below}
use Rattle.cl_runs.proofs.{Holding.{whole_finishes, start_pending}, LegalFacts.{place_of_task, job_times}, MomentFacts.has_started, StartsFinishes.finish_reached, ZippedLists.zip_at}
use Rattle.cl_resp.specs.Question.{hold_of, longest_hold, lower_block_of}
use Rattle.cl_resp.proofs.{BusyWindowTicks.{above_core, above_priority, RunsLower, IsWaiting}, BusyWindowWork.released_is}
use Rattle.cl_model.proofs.Greatest.{greatest_least, greatest_filtered}

-- a runnable that has begun holds its core no longer than the longest hold of its task
hold_within : (task : Timing) (place : ℕ) → place < length task.ranges → (range_at task place).whole ≡ true
    → (range_at task place).greatest ≤ suc (longest_hold task)
unfolding longest_hold
hold_within task place h whole = omega (
  arith,
  greatest_least hold_of task.ranges place no_range h,
  cond-true (range_at task place).whole ((range_at task place).greatest - 1) 0 whole,
)

-- a task of lower priority on its core holds it no longer than the longest such task
block_within : (system : System) (task : Timing) (other : ℕ) → other < length system.tasks → (timing_at system other).core ≡ task.core
    → (timing_at system other).priority < task.priority → longest_hold (timing_at system other) ≤ lower_block_of system task
unfolding lower_block_of
block_within system task other is core lower =
    greatest_filtered longest_hold (is_below task) system.tasks other no_timing is (and_from _ _ (eq-eqb _ _ core) (lt-ltb _ _ lower))

-- a held task began its runnable no longer ago than it may hold its core
held_since : (system : System) (sound : IsSound system) (run : Run) (legal : IsLegal system run) (m k p t : ℕ) → t ≤ run.table.ticks
    → IsHeldIn (timing_at system m) (jobs_of run m) k p (executed system run m t)
    → (begun : HasStartedBefore system run m k p t) × (t ≤ begun.start + longest_hold (timing_at system m))
held_since system sound run legal m k p t h inside =
    let is : m < length system.tasks = place_of_task system m p inside.is_runnable in
    let time = zip_at LiesIn (timing_at system m).ranges (job_at (jobs_of run m) k).times
    (job_times system sound run legal m is k inside.in_table) no_range 0 p inside.is_runnable in
    let begun = has_started system sound run legal m k p t inside.in_table inside.is_runnable inside.begun in (
      begun,
      elim (cases_lt t (begun.start + slice_index (job_at (jobs_of run m) k).times p)) [
        | inl within ↦ omega (arith, within, time.1, hold_within (timing_at system m) p inside.is_runnable inside.is_whole)
        | inr after ↦
            let finishes = whole_finishes system sound run legal m k p begun.start begun.starts inside.is_whole (omega (arith, after, h)) in
            absurd (omega (arith, inside.unfinished, finish_reached system run m k p _ t finishes after))
      ],
    )

module _ (system : System) (sound : IsSound system) (run : Run) (legal : IsLegal system run) (i : ℕ) (is : i < length system.tasks) where
  -- no runnable of a task of lower priority begins where one waits
  begins_elsewhere : (m k p u : ℕ) → m < length system.tasks → (timing_at system m).core ≡ (timing_at system i).core
      → (timing_at system m).priority < (timing_at system i).priority → Starts system run m k p u → IsWaiting system run i u → ⊥
  begins_elsewhere m k p u is_m core lower starts waits =
      let first : IsHighestPending system run.table (λ j. executed system run j u) u (timing_at system m).core m
      = start_pending system sound run legal m k p u starts in
      elim waits [
        | inl less ↦ omega (
          arith,
          lower,
          above_priority system i less.at less.passes,
          first.highest less.at less.below (above_core system i less.at less.passes ∙ sym core) (omega (arith, less.less, released_is (jobs_of run less.at) u)),
        )
        | inr itself ↦ omega (arith, lower, first.highest i is (sym core) (omega (arith, itself, released_is (jobs_of run i) u)))
      ]

  -- so a held one runs only until so long after s, where one waits from s on
  pub held_early : (s t : ℕ) → t ≤ run.table.ticks → RunsLower system run i t → ((u : ℕ) → s ≤ u → u < t → IsWaiting system run i u)
      → t < s + lower_block_of system (timing_at system i)
  held_early s t h one waits =
      let (begun, within) = held_since system sound run legal one.task one.held.job one.held.place t h one.held.inside in
      elim (cases_lt begun.start s) [
        | inl earlier ↦ omega (arith, earlier, within, block_within system (timing_at system i) one.task one.is_task one.on_core one.lower)
        | inr later ↦ absurd (begins_elsewhere one.task one.held.job one.held.place begun.start one.is_task one.on_core one.lower begun.starts
            (waits begun.start later begun.before))
      ]
