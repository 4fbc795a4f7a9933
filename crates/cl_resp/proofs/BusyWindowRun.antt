-- Of a window of a run that begins at a clear moment before the release of a job, with no earlier
-- work of its task left: until the job is done, at a clear moment, it or a task above waits, and so
-- the window, but for what a task below holds at its beginning, goes to their work. So where it
-- holds all that is released in it, the job is done by its end, and each of its runnables for which
-- it holds that much.
use Rattle.std.proofs.Common.{◌≡◌, ℕ, zero, suc, ◌+◌, ◌-◌, ◌<◌, ◌≤◌, ◌⊎◌, inl, inr, length, ap, sym, subst, arith}
use Rattle.std.specs.Prelude.{sum}
use Rattle.std.proofs.Math.Numerals.{add-one}
use Rattle.std.proofs.lemmas.Bool.{cases_lt, cases_eq}
use Rattle.std.proofs.lemmas.List.Sums.{sum_by_more}
use Rattle.cl_runs.specs.{TaskTiming.{System, timing_at, IsSound}, declared.job.Job.Job, Table.{job_at, no_job}, Run.{Run, jobs_of, executed}, Legal.{IsHighestPending, IsLegal}, Work.{work_before, work_through}, Moments.Starts, ExecutionTimes.greatest_execution}
use Rattle.cl_runs.proofs.{Climbing.climb_mono, Executed.executed_climbs, Holding.start_pending, LegalFacts.{job_times, job_places, time_positive, executed_total}, MomentFacts.has_started, RunArrivals.releases_in_order, StartsFinishes.finishes_by, Work.{through_job, before_job}}
use Rattle.cl_runs.proofs.Work.{before_past}
use Rattle.cl_resp.specs.{Question.lower_block_of, Clear.{released_before, work_of_first, IsClear, greatest_through, time_released, released_above, needed, FinishesBy, IsDoneBy}}
use Rattle.cl_resp.proofs.{BusyWindowTotals.{total, total_within, total_rises, total_reached, total_of_range}, BusyWindowStart.{some_or_none, IsLastClear, busy, grows_by_width}, BusyWindowWork.{released_is, before_rises, work_added, first_released, first_alone, job_within, place_within}}
use Rattle.cl_resp.proofs.{BusyWindowTicks.{above, above_core, above_priority, executed_above, executed_before, executed_rises, IsWaiting, runs_waiting, grows_here}, BusyWindowHeld.held_early}

-- s is the last clear moment up to r
abbrev pub IsLastClearTo : System → Run → (i r s : ℕ) → Type 0
IsLastClearTo system run i r s = IsLastClear (above system i) (executed system run) (λ j. released_before (jobs_of run j)) (length system.tasks) r s

module _ (system : System) (sound : IsSound system) (run : Run) (legal : IsLegal system run) (i : ℕ) (is : i < length system.tasks) where
  -- the work of the tasks above that is released before a moment
  abbrev work_above : ℕ → ℕ
  work_above t = total (above system i) (λ j. released_before (jobs_of run j) t) (length system.tasks)

  -- from a clear moment on it is at most what they release there
  above_bounded : (s width : ℕ) → IsClear system run i s → work_above (s + width) ≤ executed_above system run i s + released_above system run i s width
  unfolding released_above
  above_bounded s width clear = omega (
    arith,
    total_of_range (above system i) (time_released system run s width) (length system.tasks),
    total_within (above system i) (λ j. executed system run j s) (λ j. released_before (jobs_of run j) (s + width))
        (time_released system run s width) (length system.tasks)
        (λ j is_j passes. omega (arith, clear j is_j passes, work_added (timing_at system j) s width (jobs_of run j) (legal.lawful.jobs j is_j).times)),
  )

  -- they execute no more than that
  above_before : (t : ℕ) → t ≤ run.table.ticks → executed_above system run i t ≤ work_above t
  above_before t h = total_rises (above system i) (λ j. executed system run j t) (λ j. released_before (jobs_of run j) t) (length system.tasks)
      (λ j is_j _. executed_before system sound run legal j is_j t h)

  -- and no fewer by a later moment
  above_further : (s t : ℕ) → s ≤ t → executed_above system run i s ≤ executed_above system run i t
  above_further s t h = total_rises (above system i) (λ j. executed system run j s) (λ j. executed system run j t) (length system.tasks)
      (λ j _ _. climb_mono (executed system run j) (executed_climbs system run j) s t h)

  executed_further : (s t : ℕ) → s ≤ t → executed system run i s ≤ executed system run i t
  executed_further s t h = climb_mono (executed system run i) (executed_climbs system run i) s t h

  -- ---- the work of a job

  -- a job takes no more than the greatest time of its task
  job_bounded : (k : ℕ) → k < length (jobs_of run i) → work_of_first run i (suc k) ≤ work_of_first run i k + greatest_execution (timing_at system i)
  job_bounded k below = omega (
    arith,
    rw add-one at (sum_by_more (λ (job : Job). sum job.times) (jobs_of run i) k no_job below),
    job_within (timing_at system i) (job_at (jobs_of run i) k) (job_times system sound run legal i is k below),
  )

  -- and some
  job_some : (k : ℕ) → k < length (jobs_of run i) → work_of_first run i k < work_of_first run i (suc k)
  job_some k below =
      let place : 0 < length (timing_at system i).ranges = (sound.tasks i is).some_runnable in
      omega (
        arith,
        time_positive system sound run legal i is k 0 below place,
        before_job (jobs_of run i) k 0,
        through_job (jobs_of run i) k 0 below (omega (arith, place, job_places system sound run legal i is k below)),
      )

  -- a job that isn't done has work left from its release on
  work_left : (k t : ℕ) → k < length (jobs_of run i) → executed system run i t < work_of_first run i (suc k)
      → (job_at (jobs_of run i) k).release ≤ t → executed system run i t < released_before (jobs_of run i) (suc t)
  work_left k t below unfinished late = omega (
    arith,
    unfinished,
    first_released (jobs_of run i) (suc k) t
        (λ l l_below. omega (arith, late, releases_in_order system sound run legal i is l k (omega arith) below)),
  )

  -- and one that is done was released before
  released_when_done : (k t : ℕ) → k < length (jobs_of run i) → t ≤ run.table.ticks → work_of_first run i (suc k) ≤ executed system run i t
      → (job_at (jobs_of run i) k).release < t
  released_when_done k t below h done = elim (cases_lt (job_at (jobs_of run i) k).release t) [
    | inl before ↦ before
    | inr later ↦ absurd (omega (
      arith,
      done,
      job_some k below,
      executed_before system sound run legal i is t h,
      first_alone (jobs_of run i) k t (λ l after l_below. omega (arith, later, releases_in_order system sound run legal i is k l after l_below)),
    ))
  ]

  -- ---- where a runnable starts

  -- nothing above is pending, so the moment is clear
  start_clear : (k p t : ℕ) → Starts system run i k p t → IsClear system run i t
  start_clear k p t starts j is_j passes =
      let first : IsHighestPending system run.table (λ m. executed system run m t) t (timing_at system i).core i
      = start_pending system sound run legal i k p t starts in
      elim (cases_lt (executed system run j t) (released_before (jobs_of run j) t)) [
        | inl less ↦ absurd (omega (
          arith,
          above_priority system i j passes,
          first.highest j is_j (above_core system i j passes) (omega (arith, less, before_rises (jobs_of run j) t, released_is (jobs_of run j) t)),
        ))
        | inr none ↦ none
      ]

  first_before : (n : ℕ) → work_before (jobs_of run i) n 0 ≡ work_of_first run i n
  unfolding work_before
  first_before n = omega arith

  -- where more is executed than the first jobs take, there is a next one
  is_next : (n t : ℕ) → work_of_first run i n < executed system run i t → n < length (jobs_of run i)
  is_next n t more = elim (cases_lt n (length (jobs_of run i))) [
    | inl below ↦ below
    | inr past ↦ absurd (omega (
      arith,
      more,
      executed_total system sound run legal i is t,
      before_past (jobs_of run i) n 0 past,
      first_before n,
    ))
  ]

  -- and it started at a clear moment at which those were done
  done_before_next : (k t : ℕ) → k < length (jobs_of run i) → t ≤ run.table.ticks → work_of_first run i (suc k) < executed system run i t
      → IsDoneBy system run i k t
  done_before_next k t below h more =
      let begun = has_started system sound run legal i (suc k) 0 t (is_next (suc k) t more) (sound.tasks i is).some_runnable
      (omega (arith, more, first_before (suc k))) in
      let done : work_of_first run i (suc k) ≤ executed system run i begun.start = omega (arith, begun.starts.reached, first_before (suc k)) in
      record {
        at = begun.start;
        after = released_when_done k begun.start below (omega (arith, begun.before, h)) done;
        by = omega (arith, begun.before);
        clear = start_clear (suc k) 0 begun.start begun.starts;
        done = done;
      }

  -- ---- a window in which something waits

  module _ (s width : ℕ) (h : s + width ≤ run.table.ticks) (waits : (t : ℕ) → s ≤ t → t < s + width → IsWaiting system run i t) where
    abbrev block : ℕ
    block = lower_block_of system (timing_at system i)

    -- from the longest hold of a task below on, each tick runs the task or one above
    tick_runs : (t : ℕ) → s + block ≤ t → t < s + width
        → executed system run i t + executed_above system run i t < executed system run i (suc t) + executed_above system run i (suc t)
    tick_runs t since until = elim (runs_waiting system sound run legal i is t (omega arith) (waits t (omega (arith, since)) until)) [
      | inl here ↦ grows_here system sound run legal i is t (omega arith) here
      | inr lower ↦ absurd (omega (
        arith,
        since,
        held_early system sound run legal i is s t (omega arith) lower (λ u after before. waits u after (omega (arith, before, until))),
      ))
    ]

    -- and what they execute grows by the width without that hold
    window_grows : block ≤ width
        → executed system run i (s + block) + executed_above system run i (s + block) + (width - block)
        ≤ executed system run i (s + width) + executed_above system run i (s + width)
    window_grows room =
        let end : s + block + (width - block) ≡ s + width = omega (arith, room) in
        omega (
          arith,
          grows_by_width (λ t. executed system run i t + executed_above system run i t) (s + block) (width - block)
              (λ t since until. tick_runs t since (omega (arith, until, end))),
          ap (λ t. executed system run i t + executed_above system run i t) end,
        )

    window_used : block ≤ width
        → executed system run i s + executed_above system run i s + width
        ≤ executed system run i (s + width) + executed_above system run i (s + width) + block
    window_used room = omega (
      arith,
      room,
      executed_further s (s + block) (omega arith),
      above_further s (s + block) (omega arith),
      window_grows room,
    )

    module _ (own : ℕ) (enough : needed system run i own s width ≤ width) where
      -- those above execute the more, the less of it is the task's own
      above_executed : executed system run i (s + width) ≤ executed system run i s + own
          → executed_above system run i s + released_above system run i s width ≤ executed_above system run i (s + width)
      unfolding needed
      above_executed few = omega (arith, enough, few, window_used (omega (arith, enough)))

      -- from a clear moment on, the task executes all that the window holds of its own
      own_executed : IsClear system run i s → executed system run i s + own ≤ executed system run i (s + width)
      unfolding needed
      own_executed clear = omega (
        arith,
        enough,
        above_before (s + width) h,
        above_bounded s width clear,
        window_used (omega (arith, enough)),
      )

  -- ---- a window of a job

  module _ (k s width : ℕ) (below : k < length (jobs_of run i)) (from : IsLastClearTo system run i (job_at (jobs_of run i) k).release s)
      (h : s + width ≤ run.table.ticks) (earlier : work_of_first run i k ≤ executed system run i s) where
    -- up to the release one above waits
    waits_early : (t : ℕ) → s ≤ t → t < (job_at (jobs_of run i) k).release → IsWaiting system run i t
    waits_early t since early = inl (busy (above system i) (executed system run) (λ j. released_before (jobs_of run j)) (length system.tasks)
        (job_at (jobs_of run i) k).release s from (executed_rises system run) t since early)

    -- where the job isn't done by the end, something waits at each moment
    waits_undone : executed system run i (s + width) < work_of_first run i (suc k) → (t : ℕ) → s ≤ t → t < s + width → IsWaiting system run i t
    waits_undone undone t since until = elim (cases_lt t (job_at (jobs_of run i) k).release) [
      | inl early ↦ waits_early t since early
      | inr late ↦ inr (work_left k t below (omega (arith, undone, executed_further t (s + width) (omega arith))) late)
    ]

    -- each runnable for which the window holds enough is executed by its end
    place_reached : (p : ℕ) → p < length (timing_at system i).ranges
        → needed system run i (greatest_through (timing_at system i) p) s width ≤ width
        → work_through (jobs_of run i) k p ≤ executed system run i (s + width)
    place_reached p place enough =
        let there : p < length (job_at (jobs_of run i) k).times = omega (arith, place, job_places system sound run legal i is k below) in
        let whole = through_job (jobs_of run i) k p below there in
        let most = place_within (timing_at system i) (jobs_of run i) k p (job_times system sound run legal i is k below) there in
        elim (cases_lt (executed system run i (s + width)) (work_through (jobs_of run i) k p)) [
          | inl undone ↦ absurd (omega (
            arith,
            undone,
            most,
            earlier,
            own_executed s width h (waits_undone (omega (arith, undone, whole))) (greatest_through (timing_at system i) p) enough from.clear,
          ))
          | inr reached ↦ reached
        ]

    -- and finishes
    pub place_finishes : (p : ℕ) → p < length (timing_at system i).ranges
        → needed system run i (greatest_through (timing_at system i) p) s width ≤ width
        → FinishesBy system run i k p (s + width)
    place_finishes p place enough =
        let (t, by, finishes) = finishes_by system run i k p (s + width) below place h (place_reached p place enough) in
        record { finish = t; by = by; finishes = finishes }

    -- each moment of the window is a clear one at which the job is done, or something waits
    done_or_waits : (t : ℕ) → s ≤ t → t ≤ s + width → IsDoneBy system run i k (s + width) ⊎ IsWaiting system run i t
    done_or_waits t since until = elim (cases_lt t (job_at (jobs_of run i) k).release) [
      | inl early ↦ inr (waits_early t since early)
      | inr late ↦ elim (cases_lt (executed system run i t) (work_of_first run i (suc k))) [
        | inl unfinished ↦ inr (inr (work_left k t below unfinished late))
        | inr done ↦ elim (some_or_none (above system i) (λ j. executed system run j t) (λ j. released_before (jobs_of run j) t) (length system.tasks)) [
          | inl less ↦ inr (inl (record {
            at = less.at;
            below = less.below;
            passes = less.passes;
            less = omega (arith, less.less, before_rises (jobs_of run less.at) t);
          }))
          | inr none ↦ inl (record {
            at = t;
            after = released_when_done k t below (omega (arith, until, h)) done;
            by = until;
            clear = none;
            done = done;
          })
        ]
      ]
    ]

    -- so there is such a moment, or in each of them something waits
    done_or_busy : (d : ℕ) → d ≤ width → IsDoneBy system run i k (s + width) ⊎ ((t : ℕ) → s ≤ t → t < s + d → IsWaiting system run i t)
    done_or_busy zero within = inr (λ t since until. absurd (omega arith))
    done_or_busy (suc d) within = elim (done_or_busy d (omega arith)) [
      | inl done ↦ inl done
      | inr waits ↦ elim (done_or_waits (s + d) (omega arith) (omega arith)) [
        | inl done ↦ inl done
        | inr last ↦ inr (λ t since until. elim (cases_eq t (s + d)) [
          | inl same ↦ subst (λ (u : ℕ). IsWaiting system run i u) (sym same) last
          | inr other ↦ waits t since (omega arith)
        ])
      ]
    ]

    module _ (enough : needed system run i (greatest_execution (timing_at system i)) s width ≤ width) where
      -- where something waits in each of them, the job is done at the end of the window; and that
      -- is clear, or the next job has begun at a clear moment before
      done_at_end : ((t : ℕ) → s ≤ t → t < s + width → IsWaiting system run i t) → IsDoneBy system run i k (s + width)
      done_at_end waits =
          let done : work_of_first run i (suc k) ≤ executed system run i (s + width) = omega (
            arith,
            earlier,
            job_bounded k below,
            own_executed s width h waits (greatest_execution (timing_at system i)) enough from.clear,
          ) in
          elim (cases_lt (work_of_first run i (suc k)) (executed system run i (s + width))) [
            | inl more ↦ done_before_next k (s + width) below h more
            | inr alone ↦ record {
              at = s + width;
              after = released_when_done k (s + width) below h done;
              by = omega arith;
              clear = total_reached (above system i) (λ j. executed system run j (s + width)) (λ j. released_before (jobs_of run j) (s + width))
                  (length system.tasks) (λ j is_j _. executed_before system sound run legal j is_j (s + width) h)
                  (omega (
                    arith,
                    above_bounded s width from.clear,
                    above_executed s width h waits (greatest_execution (timing_at system i)) enough (omega (arith, alone, earlier, job_bounded k below)),
                  ));
              done = done;
            }
          ]

      -- there is such a moment
      pub job_done : IsDoneBy system run i k (s + width)
      job_done = elim (done_or_busy width (omega arith)) [
        | inl done ↦ done
        | inr waits ↦ done_at_end waits
      ]
