-- The latest write of a group whose task has a response by phases: it is no later than the end of the window by that
-- response, and in every legal run each job has written by it.
use Rattle.std.proofs.Common.{◌≡◌, ℕ, suc, ◌+◌, ◌<◌, ◌≤◌, Option, Some, List, [], ◌∷◌, length, drop, refl, sym, ap, ◌∙◌, subst, arith}
use Rattle.std.specs.Prelude.{sum_by, unwrap_or, All}
use Rattle.std.proofs.lemmas.List.Elements.{All-head, All-tail, All-drop}
use Rattle.std.proofs.lemmas.List.Sums.{sum_by-cons}
use Rattle.cl_model.specs.declared.{group.Group.Group, task.AccessKind.{AccessKind, TheVariants.{Explicit, Implicit, Timed}}}
use Rattle.cl_runs.specs.{TaskTiming.{TimeRange, Timing, System, timing_at, IsSound}, Table.job_at, Run.{Run, jobs_of}, Legal.IsLegal, Moments.{WritesBy, Writes}}
use Rattle.cl_comm.specs.{declared.spot.Spot.Spot, Windows.{least_times, spot_at, window_of, window_at}}
use Rattle.cl_hop.specs.{Hops.group_timing, Timings.IsGroupOfTask}
use Rattle.cl_hop.proofs.KeptWindows.{timely_keeps}
use Rattle.cl_resp.specs.{ByPhase.{response_through, IsSettledByPhase}, Clear.greatest_behind}
use Rattle.cl_resp.proofs.{LeastParts.{settled_timely, settled_through}, LeastBehind.part_leaves_room}
use Rattle.cl_tight.specs.TightTimings.{part_response, write_by}

-- ---- it is within the window

abbrev IsOrdered : TimeRange → Type 0
IsOrdered range = (1 ≤ range.least) × (range.least ≤ range.greatest)

-- runnables take no longer at least than at most
least_by_greatest : (ranges : List TimeRange) → All IsOrdered ranges → least_times ranges ≤ sum_by (λ (range : TimeRange). range.greatest) ranges
unfolding least_times
least_by_greatest [] ordered = omega arith
least_by_greatest (range ∷ ranges) ordered = omega (
  arith,
  (All-head IsOrdered range ranges ordered).1,
  least_by_greatest ranges (All-tail IsOrdered range ranges ordered),
  sum_by-cons (λ (r : TimeRange). r.least) range ranges,
  sum_by-cons (λ (r : TimeRange). r.greatest) range ranges,
)

-- by any kind of access, where the response of the part leaves room for the least times behind it
ends_within : (access : AccessKind) (spot : Spot) (part response : ℕ) → part + spot.after ≤ response
    → write_by access part response spot.deadline ≤ (window_of access spot response).whi
ends_within Explicit spot part response room = omega (arith, room)
ends_within Implicit spot part response room = omega arith
ends_within Timed spot part response room = omega arith

module _ (system : System) (sound : IsSound system) (responses : ℕ → ℕ) (group : Group) (is : IsGroupOfTask system group)
    (settled : IsSettledByPhase system group.task (responses group.task)) where
  abbrev timing : Timing
  timing = timing_at system group.task

  abbrev response : ℕ
  response = responses group.task

  abbrev part : ℕ
  part = part_response system group.task group.last

  -- the part has a response
  part_found : response_through system group.task group.last ≡ Some part
  part_found =
      let (through, found, room) = part_leaves_room system sound group.task response settled group.last is.is_runnable in
      found ∙ ap Some (sym (ap (λ (o : Option ℕ). unwrap_or o 0) found))

  -- which leaves room for the least times behind it
  part_room : part + (spot_at timing group.last).after ≤ response
  unfolding spot_at greatest_behind
  part_room =
      let (through, found, room) = part_leaves_room system sound group.task response settled group.last is.is_runnable in
      let same : part ≡ through = ap (λ (o : Option ℕ). unwrap_or o 0) found in
      let behind = drop (suc group.last) timing.ranges in
      omega (arith, same, room, least_by_greatest behind (All-drop IsOrdered (suc group.last) timing.ranges (sound.tasks group.task is.is_task).times))

  pub write_within : write_by timing.access part response timing.deadline ≤ (window_at timing group.last response).whi
  unfolding spot_at
  write_within = ends_within timing.access (spot_at timing group.last) part response part_room

  -- ---- it is kept

  module _ (run : Run) (legal : IsLegal system run) where
    -- a job has written so long after its arrival, where the run lasts until then
    abbrev HasWrittenBy : (write job : ℕ) → Type 0
    HasWrittenBy write job = (job_at (jobs_of run group.task) job).arrival + write ≤ run.table.ticks
        → (tick : ℕ) × Writes system run group.task job group.last tick × (tick ≤ (job_at (jobs_of run group.task) job).arrival + write)

    -- of explicit access as the part has finished
    with_part : timing.access ≡ Explicit → (job : ℕ) → job < length (jobs_of run group.task) → HasWrittenBy part job
    with_part explicit job known lasts =
        let through = settled_through system sound group.task response settled group.last part is.is_runnable part_found in
        let done = (through run legal).each job known lasts in (
          done.finish,
          record {
            in_table = done.finishes.in_table;
            is_runnable = done.finishes.is_runnable;
            moment = subst (λ (access : AccessKind). WritesBy access system run group.task job group.last done.finish) (sym explicit)
                done.finishes;
          },
          done.by,
        )

    -- else at the end of the window
    with_window : (write : ℕ) → (window_at timing group.last response).whi ≡ write → (job : ℕ) → job < length (jobs_of run group.task)
        → HasWrittenBy write job
    unfolding group_timing
    with_window write same job known lasts =
        let keeps = (timely_keeps system sound responses group is (settled_timely system sound group.task response settled)).always run legal in
        let (tick, writes, by) = keeps.writes job known (omega (arith, lasts, same)) in
        (tick, writes, omega (arith, by, same))

    -- the end of the window by a kind of access
    abbrev end : AccessKind → ℕ
    end access = (window_of access (spot_at timing group.last) response).whi

    written : (access : AccessKind) → timing.access ≡ access → (job : ℕ) → job < length (jobs_of run group.task)
        → HasWrittenBy (write_by access part response timing.deadline) job
    unfolding spot_at
    written Explicit of_access = with_part of_access
    written Implicit of_access = with_window response (ap end of_access)
    written Timed of_access = with_window timing.deadline (ap end of_access)

    pub written_by : (job : ℕ) → job < length (jobs_of run group.task)
        → (job_at (jobs_of run group.task) job).arrival + write_by timing.access part response timing.deadline ≤ run.table.ticks
        → (tick : ℕ) × Writes system run group.task job group.last tick
        × (tick ≤ (job_at (jobs_of run group.task) job).arrival + write_by timing.access part response timing.deadline)
    written_by = written timing.access refl
