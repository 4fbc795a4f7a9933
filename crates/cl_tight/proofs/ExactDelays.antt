-- A complete forward chain whose first job reads at its arrival takes an event on: its delay is its reaction less the period
-- of its first task.
use Rattle.std.proofs.Common.{◌≡◌, ℕ, suc, ◌+◌, ◌-◌, ◌<◌, List, length, refl, ap, subst, arith}
use Rattle.cl_model.specs.{declared.{group.Group.Group, task.AccessKind.AccessKind}, Timing.greatest_distance}
use Rattle.cl_runs.specs.{TaskTiming.{System, IsSound}, Table.job_at, Run.{Run, jobs_of}, Legal.IsLegal, Moments.{ReadsBy, Reads, Writes}, Chains.{JobChain, chain_length, IsForwardChain, first_group, first_job}, RunChains.run_moments, Delays.IsDelayChain}
use Rattle.cl_runs.proofs.RunArrivals.{arrivals_apart, next_within}
use Rattle.cl_exact.proofs.RunMoments.{IsIdealTask, task_period}

module _ (system : System) (run : Run) (groups : List Group) (chain : JobChain) (is : IsForwardChain (run_moments system run) groups chain) where
  abbrev task : ℕ
  task = (first_group groups).task

  -- the same jobs, from the arrival of the first
  abbrev pub taken : JobChain
  taken = record { from = (job_at (jobs_of run task) (first_job chain)).arrival; to = chain.to; jobs = chain.jobs }

  pub takes_on : IsDelayChain system run groups taken
  takes_on = record {
    some_group = is.some_group;
    one_a_group = is.one_a_group;
    not_first = λ i within. is.not_first (suc i) within;
    written = is.written;
    linked = is.linked;
    from = refl;
    to = is.to;
  }

  module _ (sound : IsSound system) (legal : IsLegal system run) (ideal : IsIdealTask system task) where
    read_is : chain.from ≡ (job_at (jobs_of run task) (first_job chain - 1)).arrival
    unfolding run_moments
    read_is =
        let reads : Reads system run task (first_job chain - 1) (first_group groups).first chain.from = is.from in
        subst (λ (a : AccessKind). ReadsBy a system run task (first_job chain - 1) (first_group groups).first chain.from) ideal.timed reads.moment

    in_table : first_job chain < length (jobs_of run task)
    unfolding run_moments
    in_table =
        let written = is.written 0 is.some_group in
        let writes : Writes system run task (first_job chain) (first_group groups).last written.write = written.writes in
        writes.in_table

    -- the first job arrives a period behind the read
    arrives : (job_at (jobs_of run task) (first_job chain)).arrival ≡ chain.from + task_period system task
    arrives =
        let some = is.not_first 0 is.some_group in
        let job : ℕ = first_job chain - 1 in
        let next : suc job ≡ first_job chain = omega (arith, some) in
        let same = ap (λ n. (job_at (jobs_of run task) n).arrival) next in
        let apart = arrivals_apart system sound run legal task ideal.timely.is_task job (first_job chain) (omega (arith, some)) in_table in
        let soon = next_within system sound run legal task ideal.timely.is_task job (omega (arith, next, in_table)) in
        omega (arith, read_is, same, apart, soon, ap greatest_distance ideal.periodic)

    pub shorter_by_a_period : (delay : ℕ) → chain_length chain ≡ delay + task_period system task → chain_length taken ≡ delay
    shorter_by_a_period delay long = omega (arith, arrives, long)
