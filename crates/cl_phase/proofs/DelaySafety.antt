-- The tight bound on the delay is at least each delay of every legal run.
use Rattle.std.proofs.Common.{◌≡◌, ℕ, ℤ, pos, zero, suc, ◌+◌, ◌-◌, ◌<◌, ◌≤◌, List, [], ◌∷◌, length, refl, ap, ◌∙◌, subst, sym, arith}
use Rattle.std.specs.Prelude.{slice_index, ◌+ℤ◌, ◌-ℤ◌, ◌≤ℤ◌, All}
use Rattle.std.proofs.lemmas.Int.{ints}
use Rattle.cl_model.specs.{declared.group.Group.Group, Groups.group_at}
use Rattle.cl_runs.specs.{TaskTiming.{System, timing_at, IsSound}, Table.job_at, Run.{Run, jobs_of}, Legal.IsLegal, Chains.{JobChain, chain_length, last_group, last_job}, RunChains.run_moments, Delays.IsDelayChain}
use Rattle.cl_stim.proofs.RunPhases.{run_arrives}
use Rattle.cl_hop.specs.{declared.group_timing.GroupTiming.GroupTiming, Timings.IsGroupOfTask}
use Rattle.cl_hop.proofs.{AlongChains.last_timing, LaterRuns.writes_in_time, LagBounds.forward_lag, ChainBounds.AreAlwaysKept}
use Rattle.cl_phase.specs.{declared.{pace.Pace.{Pace, TheVariants.{Kept, Free}}, stop.Stop.Stop}, Pace.{IsPace, previous, next, AreNeighbours}, Walks.{pace_at, lag_at, last_place, arrival_at_first}, TightBounds.{stops_of, slowest, delay_from, span_of, last_write, bounds_from}}
use Rattle.cl_phase.specs.TightBounds.{tight_bounds}
use Rattle.cl_phase.proofs.{Stepped.IsStepped, PatternPaces.IsPaceOf, Walking.{AreLinkedJobs, last_by_walk, first_from_walk}, WalkStarts.{AreStops, IsArrivalAt, after_arrives}, RunWalks.{arrival_in, lag_between, AreStopsOf, follows}, StopFacts.{stop_pace, stop_is_pace}}
use Rattle.cl_phase.proofs.{StopsOfGroups.have_stops, DelaySteps.{next_rises, arrival_neighbours, next_of_previous}, DelayWalks.delay_bounded}

-- ---- walks cover jobs

-- where walks come to the last job or later, and back before the first, they last at least as long as from the first's
-- arrival
module _ (stops : List Stop) (stepped : (place : ℕ) → place < length stops → IsStepped (pace_at stops place)) (is_pace : IsPace (pace_at stops 0))
    (before after : ℕ → ℤ) (jobs : AreLinkedJobs stops before after) (first : before 0 ≡ previous (pace_at stops 0) (after 0))
    (arrives : IsArrivalAt (pace_at stops 0) (after 0)) (place : ℕ) (is : place < length stops) where
  some : 0 < length stops
  some = omega (arith, is)

  takes_no_later : next (pace_at stops 0) (arrival_at_first stops place (after place)) ≤ℤ after 0
  takes_no_later =
      let rises = next_rises (pace_at stops 0) (stepped 0 some) (arrival_at_first stops place (after place)) (previous (pace_at stops 0) (after 0))
      (omega (arith, ints, first_from_walk stops stepped before after jobs place is, first)) in
      omega (arith, ints, rises, next_of_previous (pace_at stops 0) is_pace (stepped 0 some) (after 0) arrives)

  delay_covers : (write : ℕ) → ((after (last_place stops) -ℤ after 0) +ℤ pos write) ≤ℤ delay_from stops write place (after place)
  delay_covers write = omega (arith, ints, last_by_walk stops stepped before after jobs place is, takes_no_later)

-- ---- jobs of a run

-- a job arrives where walks from its group may start
job_arrives_at : (system : System) (sound : IsSound system) (run : Run) (legal : IsLegal system run) (task : ℕ) (is : task < length system.tasks)
    → (pace : Pace) → IsPaceOf (timing_at system task).pattern pace → (job : ℕ) → job < length (jobs_of run task)
    → IsArrivalAt pace (pos (job_at (jobs_of run task) job).arrival)
job_arrives_at system sound run legal task is (Kept phase) has job below = run_arrives system sound run legal task is phase has job below
job_arrives_at system sound run legal task is (Free greatest) same job below = tt

-- a delay is at most a number that is at least from the arrival of the first job to the write of the last
within_delay : (from to first last last_there write write_there most : ℕ) → from ≡ first → last ≡ last_there → write ≡ write_there → to ≤ last + write
    → ((pos last_there -ℤ pos first) +ℤ pos write_there) ≤ℤ pos most → to - from ≤ most
within_delay from to first last last_there write write_there most begins same writes ends covers = omega (arith, ints, begins, same, writes, ends, covers)

pub last_write_is : (timing : Group → GroupTiming) (groups : List Group) → 0 < length groups
    → last_write timing groups ≡ (timing (last_group groups)).write
last_write_is timing [] some = absurd (omega (arith, some))
last_write_is timing (first ∷ later) some =
    let place : length later ≡ length (first ∷ later) - 1 = omega arith in
    ap (λ (t : GroupTiming). t.write) (last_timing timing first later ∙ ap (λ n. timing (group_at (first ∷ later) n)) place)

module _ (system : System) (sound : IsSound system) (timing : Group → GroupTiming) (groups : List Group) (keep : AreAlwaysKept system timing groups)
    (stops : List Stop) (of : AreStopsOf system timing groups stops)
    (pace_of_first : IsPaceOf (timing_at system (group_at groups 0).task).pattern (pace_at stops 0))
    (is_pace : IsPace (pace_at stops 0)) (place : ℕ) (are : AreStops stops place)
    (run : Run) (legal : IsLegal system run) (chain : JobChain) (complete : IsDelayChain system run groups chain) where
  abbrev after : ℕ → ℤ
  after other = pos (arrival_in run groups other (slice_index chain.jobs other))

  -- of the first group, the arrival before its job's, which may be that of no job
  before : ℕ → ℤ
  before zero = previous (pace_at stops 0) (after 0)
  before (suc other) = pos (arrival_in run groups (suc other) (slice_index chain.jobs (suc other) - 1))

  in_table : (other : ℕ) → other < length groups → slice_index chain.jobs other < length (jobs_of run (group_at groups other).task)
  unfolding run_moments
  in_table other h = (complete.written other h).writes.in_table

  first_arrives : IsArrivalAt (pace_at stops 0) (after 0)
  first_arrives = job_arrives_at system sound run legal (group_at groups 0).task (keep 0 complete.some_group).is_group.is_task
      (pace_at stops 0) pace_of_first (slice_index chain.jobs 0) (in_table 0 complete.some_group)

  neighbours_at : (other : ℕ) → other < length groups → AreNeighbours (pace_at stops other) (before other) (after other)
  unfolding before
  neighbours_at zero h = arrival_neighbours (pace_at stops 0) (after 0) first_arrives
  neighbours_at (suc other) h =
      let job = slice_index chain.jobs (suc other) in
      let next_is : suc (job - 1) ≡ job = omega (arith, complete.not_first other h) in
      let at : ℕ → ℤ = λ n. pos (arrival_in run groups (suc other) n) in
      subst (λ n. AreNeighbours (pace_at stops (suc other)) (at (job - 1)) (at n)) next_is
      (of.neighbours run legal (suc other) (job - 1) h
      (subst (λ n. n < length (jobs_of run (group_at groups (suc other)).task)) (sym next_is) (in_table (suc other) h)))

  linked_at : (other : ℕ) → suc other < length groups → (before (suc other) +ℤ pos 1) ≤ℤ (after other +ℤ lag_at stops other)
  unfolding before
  linked_at other h =
      let here : other < length groups = omega (arith, h) in
      follows (pos (arrival_in run groups (suc other) (slice_index chain.jobs (suc other) - 1))) (after other) (lag_between timing groups other)
      (lag_at stops other) (of.lags other h)
      (forward_lag system sound (group_at groups other) (group_at groups (suc other)) (timing (group_at groups other))
      (timing (group_at groups (suc other))) (keep other here) (keep (suc other) h) run legal
      (slice_index chain.jobs other) (slice_index chain.jobs (suc other))
      (complete.not_first other h) (complete.linked other h))

  linked_jobs : AreLinkedJobs stops before after
  linked_jobs = record {
    neighbours = λ other h. neighbours_at other (omega (arith, h, of.as_many));
    linked = λ other h. linked_at other (omega (arith, h, of.as_many));
  }

  delay_safe : chain_length chain ≤ (bounds_from stops (span_of timing groups) (last_write timing groups) place).delay
  unfolding run_moments before
  delay_safe =
      let write = last_write timing groups in
      let covers = delay_covers stops are.stepped is_pace before after linked_jobs refl first_arrives place are.is_place write in
      let bounded = delay_bounded stops place are (span_of timing groups) write (after place)
      (after_arrives (pace_at stops place) (before place) (after place) (linked_jobs.neighbours place are.is_place)) in
      let last : length chain.jobs - 1 ≡ last_place stops = omega (arith, complete.one_a_group, of.as_many) in
      let group : length groups - 1 ≡ last_place stops = omega (arith, of.as_many) in
      within_delay chain.from chain.to (arrival_in run groups 0 (slice_index chain.jobs 0)) (arrival_in run groups (length groups - 1) (last_job chain)) _
      (timing (last_group groups)).write write _ complete.from
      (ap (λ n. arrival_in run groups n (last_job chain)) group ∙ ap (λ n. arrival_in run groups (last_place stops) (slice_index chain.jobs n)) last)
      (sym (last_write_is timing groups complete.some_group))
      (writes_in_time system sound run legal (last_group groups) (timing (last_group groups))
      (keep (length groups - 1) (omega (arith, complete.some_group)))
      (last_job chain) chain.to complete.to)
      (omega (arith, ints, covers, bounded))

-- ---- of groups of a system

pub delays_within : (system : System) → IsSound system → (timing : Group → GroupTiming) (groups : List Group) → All (IsGroupOfTask system) groups
    → AreAlwaysKept system timing groups → (run : Run) → IsLegal system run → (chain : JobChain) → IsDelayChain system run groups chain
    → chain_length chain ≤ (tight_bounds system timing groups).delay
unfolding tight_bounds
delays_within system sound timing groups all keep run legal chain complete =
    let have = have_stops system sound timing groups all complete.some_group in
    delay_safe system sound timing groups keep (stops_of system timing groups) have.of
    (stop_pace system timing groups [] 0 complete.some_group) (stop_is_pace system timing sound groups all [] 0 complete.some_group)
    (slowest (stops_of system timing groups)) have.are run legal chain complete
