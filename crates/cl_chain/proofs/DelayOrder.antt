-- In a legal run a chain that takes an event on ends after its event arrives.
use Rattle.std.proofs.Common.{◌≡◌, ℕ, zero, suc, ◌-◌, ◌<◌, ◌≤◌, List, length, subst, arith}
use Rattle.std.specs.Prelude.{slice_index}
use Rattle.cl_model.specs.{declared.{group.Step.Step, task.AccessKind.{AccessKind, TheVariants.{Explicit, Implicit, Timed}}}, Groups.{groups, group_at}}
use Rattle.cl_runs.specs.{TaskTiming.{System, timing_at, IsSound}, Table.job_at, Run.{Run, jobs_of}, Legal.IsLegal, Moments.{Starts, ReadsBy, Writes}, MomentOrder.AreInOrder, Chains.{JobChain, last_group, first_job}, RunChains.run_moments, Delays.IsDelayChain}
use Rattle.cl_runs.proofs.{Work.places_rise, LegalFacts.place_of_task, RunArrivals.released_late, JobProgress.starts_late, MomentFacts.has_read, OrderedMoments.{run_in_order, run_has_read}}

module _ (system : System) (sound : IsSound system) (run : Run) (legal : IsLegal system run) where
  -- ---- one job

  module _ (i : ℕ) (is : i < length system.tasks) where
    starts_after_arrival : (k p t : ℕ) → Starts system run i k p t → (job_at (jobs_of run i) k).arrival ≤ t
    starts_after_arrival k p t starts = omega (
      arith,
      starts_late system sound run legal i is k p t starts,
      released_late system sound run legal i is k starts.in_table,
      places_rise (jobs_of run i) k 0 p (omega arith),
    )

    reads_after_arrival : (a : AccessKind) (k p t : ℕ) → ReadsBy a system run i k p t → (job_at (jobs_of run i) k).arrival ≤ t
    reads_after_arrival Explicit k p t starts = starts_after_arrival k p t starts
    reads_after_arrival Implicit k p t starts = starts_after_arrival k 0 t starts
    reads_after_arrival Timed k p t arrives = omega (arith, arrives)

  writes_after_arrival : (i k p t : ℕ) → Writes system run i k p t → (job_at (jobs_of run i) k).arrival < t
  writes_after_arrival i k p t writes =
      let (read, before, reads) = has_read system sound run legal i k p p t (omega arith) writes in
      let arrives = reads_after_arrival i (place_of_task system i p writes.is_runnable) (timing_at system i).access k p read reads.moment in
      omega (arith, before, arrives)

  -- ---- a chain

  module _ (steps : List Step) (chain : JobChain) (delay : IsDelayChain system run (groups steps) chain) where
    order : AreInOrder (run_moments system run) (groups steps)
    order = run_in_order system sound run legal (groups steps)

    -- each of its writes comes after the arrival
    written_after : (i write : ℕ) → i < length (groups steps) → (run_moments system run).writes (group_at (groups steps) i) (slice_index chain.jobs i) write
        → chain.from < write
    unfolding run_moments
    written_after zero write h writes =
        let after = writes_after_arrival (group_at (groups steps) 0).task (first_job chain) (group_at (groups steps) 0).last write writes in
        omega (arith, after, delay.from)
    written_after (suc i) write h writes =
        let link = delay.linked i h in
        let (read, before, reads) = run_has_read system sound run legal steps (suc i) (slice_index chain.jobs (suc i)) write h writes in
        omega (
          arith,
          before,
          link.after,
          order.unique.reads (suc i) (slice_index chain.jobs (suc i)) read link.read h reads link.reads,
          written_after i link.write (omega (arith, h)) link.writes,
        )

    pub run_delay_ordered : chain.from < chain.to
    run_delay_ordered =
        let last : length chain.jobs - 1 ≡ length (groups steps) - 1 = omega (arith, delay.one_a_group) in
        written_after (length (groups steps) - 1) chain.to (omega (arith, delay.some_group))
        (subst (λ i. (run_moments system run).writes (last_group (groups steps)) (slice_index chain.jobs i) chain.to) last delay.to)
