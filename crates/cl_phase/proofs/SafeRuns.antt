-- The bounds by walks are at least the lengths of all complete chains of every legal run.
use Rattle.std.proofs.Common.{◌≡◌, ℕ, ℤ, pos, suc, ◌+◌, ◌-◌, ◌<◌, ◌≤◌, List, length, ap, ◌∙◌, subst, arith}
use Rattle.std.specs.Prelude.{slice_index, ◌+ℤ◌, ◌-ℤ◌, ◌≤ℤ◌}
use Rattle.std.proofs.lemmas.Int.{ints}
use Rattle.cl_model.specs.{declared.group.Group.Group, Groups.group_at}
use Rattle.cl_runs.specs.{TaskTiming.{System, IsSound}, Run.{Run, jobs_of}, Legal.IsLegal, Moments.{Reads, Writes}, Chains.{JobChain, chain_length, first_group, last_group, first_job, last_job, IsForwardChain, IsAgeChain, IsReducedChain, AreBackwardLinks}, Delays.IsDelayChain}
use Rattle.cl_runs.specs.RunChains.{run_moments}
use Rattle.cl_runs.proofs.ChainsKept.{run_age_kept, run_reduced_kept}
use Rattle.cl_hop.specs.{declared.group_timing.GroupTiming.GroupTiming, Promises.AreAtLeast}
use Rattle.cl_hop.proofs.{LaterRuns.writes_in_time, LagBounds.{forward_lag, backward_lag}, ChainBounds.AreAlwaysKept}
use Rattle.cl_phase.specs.{declared.stop.Stop.Stop, Walks.last_place, TightBounds.{span_of, bounds_from}}
use Rattle.cl_phase.proofs.{WalkStarts.AreStops, NextJobs.{HasNextJobs, next_jobs}, RunWalks.{arrival_in, AreStopsOf, AreMissedJobs, span_is, reaction_covers, age_covers, reduced_covers_jobs}}

-- a length is at most a number that bounds its end from its beginning, by the arrivals of the jobs that write and read
within_walks : (from to first last last_there write read most : ℕ) (span : ℤ) → span ≡ (pos write -ℤ pos read) → last ≡ last_there
    → first + read ≤ from → to ≤ last + write → ((pos last_there -ℤ pos first) +ℤ span) ≤ℤ pos most → to - from ≤ most
within_walks from to first last last_there write read most span is same reads writes covers = omega (arith, ints, is, same, reads, writes, covers)

module _ (system : System) (sound : IsSound system) (timing : Group → GroupTiming) (groups : List Group) (some : 0 < length groups)
    (keep : AreAlwaysKept system timing groups) (run : Run) (legal : IsLegal system run) where
  -- the first group reads and the last writes as their windows say
  first_reads : (job tick : ℕ) → Reads system run (first_group groups).task job (first_group groups).first tick
      → arrival_in run groups 0 job + (timing (first_group groups)).read ≤ tick
  first_reads = ((keep 0 some).always run legal).reads

  last_writes : (job tick : ℕ) → Writes system run (last_group groups).task job (last_group groups).last tick
      → tick ≤ arrival_in run groups (length groups - 1) job + (timing (last_group groups)).write
  last_writes = writes_in_time system sound run legal (last_group groups) (timing (last_group groups)) (keep (length groups - 1) (omega (arith, some)))

-- the job before each of a forward chain is one that is missed
module _ (system : System) (sound : IsSound system) (timing : Group → GroupTiming) (groups : List Group) (keep : AreAlwaysKept system timing groups)
    (run : Run) (legal : IsLegal system run) (chain : JobChain) (complete : IsForwardChain (run_moments system run) groups chain) where
  abbrev job_before : ℕ → ℕ
  job_before place = slice_index chain.jobs place - 1

  next_is : (place : ℕ) → place < length groups → slice_index chain.jobs place ≡ suc (job_before place)
  next_is place h = omega (arith, complete.not_first place h)

  pub forward_missed : AreMissedJobs timing groups run job_before
  unfolding run_moments
  forward_missed = record {
    in_table = λ place h. subst (λ n. n < length (jobs_of run (group_at groups place).task)) (next_is place h) (complete.written place h).writes.in_table;
    missed = λ place h.
        let here : place < length groups = omega (arith, h) in
        let late = forward_lag system sound (group_at groups place) (group_at groups (suc place)) (timing (group_at groups place))
        (timing (group_at groups (suc place))) (keep place here) (keep (suc place) h) run legal (slice_index chain.jobs place) (slice_index chain.jobs (suc place)) (complete.not_first (suc place) h) (complete.linked place h) in
        omega (arith, ints, late, ap (λ n. pos (arrival_in run groups place n)) (next_is place here));
  }

-- each job of a backward chain is one that the next one misses, in a run in which the next ones have written
module _ (system : System) (sound : IsSound system) (timing : Group → GroupTiming) (groups : List Group) (keep : AreAlwaysKept system timing groups)
    (run : Run) (jobs : List ℕ) (next : HasNextJobs system run groups jobs) (links : AreBackwardLinks (run_moments system next.longer) groups jobs) where
  pub backward_missed : AreMissedJobs timing groups next.longer (slice_index jobs)
  backward_missed = record {
    in_table = next.in_table;
    missed = λ place h.
        let here : place < length groups = omega (arith, h) in
        let late = backward_lag system sound (group_at groups place) (group_at groups (suc place)) (timing (group_at groups place))
        (timing (group_at groups (suc place))) (keep place here) (keep (suc place) h) next.longer next.legal (slice_index jobs place) (slice_index jobs (suc place)) (links.linked place h) (next.written place here) in
        let one : slice_index jobs place + 1 ≡ suc (slice_index jobs place) = omega arith in
        omega (arith, ints, late, ap (λ n. pos (arrival_in next.longer groups place n)) one);
  }

-- the last job of a chain, by the last of its stops
last_at : (run : Run) (groups : List Group) (stops : List Stop) (jobs : List ℕ) (job : ℕ → ℕ) (number : ℕ) → length stops ≡ length groups
    → number ≡ job (length groups - 1)
    → arrival_in run groups (length groups - 1) number ≡ arrival_in run groups (last_place stops) (job (last_place stops))
last_at run groups stops jobs job number same is =
    let place : length groups - 1 ≡ last_place stops = omega (arith, same) in
    ap (arrival_in run groups (length groups - 1)) is ∙ ap (λ n. arrival_in run groups n (job n)) place

module _ (system : System) (sound : IsSound system) (timing : Group → GroupTiming) (groups : List Group) (keep : AreAlwaysKept system timing groups)
    (stops : List Stop) (of : AreStopsOf system timing groups stops) (place : ℕ) (are : AreStops stops place)
    (write : ℕ) (run : Run) (legal : IsLegal system run) where
  reaction_safe : (chain : JobChain) → IsForwardChain (run_moments system run) groups chain
      → chain_length chain ≤ (bounds_from stops (span_of timing groups) write place).reaction
  unfolding run_moments
  reaction_safe chain complete =
      let job = job_before system sound timing groups keep run legal chain complete in
      let last : length chain.jobs - 1 ≡ length groups - 1 = omega (arith, complete.one_a_group) in
      let number : last_job chain ≡ suc (job (length groups - 1))
      = ap (slice_index chain.jobs) last ∙ next_is system sound timing groups keep run legal chain complete (length groups - 1) (omega (arith, complete.some_group)) in
      within_walks chain.from chain.to (arrival_in run groups 0 (job 0)) (arrival_in run groups (length groups - 1) (last_job chain)) _ _ _ _
      (span_of timing groups) (span_is timing groups complete.some_group)
      (last_at run groups stops chain.jobs (λ n. suc (job n)) (last_job chain) of.as_many number)
      (first_reads system sound timing groups complete.some_group keep run legal (job 0) chain.from complete.from)
      (last_writes system sound timing groups complete.some_group keep run legal (last_job chain) chain.to complete.to)
      (reaction_covers system timing groups stops of place are (span_of timing groups) write run legal job
      (forward_missed system sound timing groups keep run legal chain complete))

  age_safe : (chain : JobChain) → IsAgeChain (run_moments system run) groups chain
      → chain_length chain ≤ (bounds_from stops (span_of timing groups) write place).age
  unfolding run_moments
  age_safe chain complete =
      let next = next_jobs system sound timing groups keep run legal chain.jobs complete.links in
      let there : IsAgeChain (run_moments system next.longer) groups chain
      = run_age_kept system sound run next.longer legal next.legal next.goes_on groups chain complete in
      let some = complete.links.some_group in
      let last : length chain.jobs - 1 ≡ length groups - 1 = omega (arith, complete.links.one_a_group) in
      let number : last_job chain + 1 ≡ suc (slice_index chain.jobs (length groups - 1)) = omega (arith, ap (slice_index chain.jobs) last) in
      within_walks chain.from chain.to (arrival_in next.longer groups 0 (first_job chain))
      (arrival_in next.longer groups (length groups - 1) (last_job chain + 1)) _ _ _ _
      (span_of timing groups) (span_is timing groups some)
      (last_at next.longer groups stops chain.jobs (λ n. suc (slice_index chain.jobs n)) (last_job chain + 1) of.as_many number)
      (first_reads system sound timing groups some keep next.longer next.legal (first_job chain) chain.from there.from)
      (last_writes system sound timing groups some keep next.longer next.legal (last_job chain + 1) chain.to there.to)
      (age_covers system timing groups stops of place are (span_of timing groups) write next.longer next.legal (slice_index chain.jobs)
      (backward_missed system sound timing groups keep run chain.jobs next there.links))

  reduced_safe : (chain : JobChain) → IsReducedChain (run_moments system run) groups chain
      → chain_length chain ≤ (bounds_from stops (span_of timing groups) write place).reduced
  unfolding run_moments
  reduced_safe chain complete =
      let next = next_jobs system sound timing groups keep run legal chain.jobs complete.links in
      let there : IsReducedChain (run_moments system next.longer) groups chain
      = run_reduced_kept system sound run next.longer legal next.legal next.goes_on groups chain complete in
      let some = complete.links.some_group in
      let last : length chain.jobs - 1 ≡ length groups - 1 = omega (arith, complete.links.one_a_group) in
      within_walks chain.from chain.to (arrival_in next.longer groups 0 (first_job chain))
      (arrival_in next.longer groups (length groups - 1) (last_job chain)) _ _ _ _
      (span_of timing groups) (span_is timing groups some)
      (last_at next.longer groups stops chain.jobs (slice_index chain.jobs) (last_job chain) of.as_many (ap (slice_index chain.jobs) last))
      (first_reads system sound timing groups some keep next.longer next.legal (first_job chain) chain.from there.from)
      (last_writes system sound timing groups some keep next.longer next.legal (last_job chain) chain.to there.to)
      (reduced_covers_jobs system timing groups stops of place are (span_of timing groups) write next.longer next.legal (slice_index chain.jobs)
      (backward_missed system sound timing groups keep run chain.jobs next there.links))

  pub bounds_at_least : ((chain : JobChain) → IsDelayChain system run groups chain → chain_length chain ≤ (bounds_from stops (span_of timing groups) write place).delay)
      → AreAtLeast system groups (bounds_from stops (span_of timing groups) write place) run
  bounds_at_least delay_safe = record { reaction = reaction_safe; age = age_safe; reduced = reduced_safe; delay = delay_safe }
