-- When the first group of a chain reads: before its next job arrives, where it always writes by its deadline, and at the
-- arrival of its job, where it is timed.
use Rattle.std.proofs.Common.{◌≡◌, ℕ, ◌-◌, ◌≤◌, true, [], ◌∷◌, sym, ◌∙◌, arith}
use Rattle.std.proofs.lemmas.Bool.{true≢false}
use Rattle.std.proofs.lemmas.List.Elements.{All-cons, All-nil}
use Rattle.cl_model.specs.{declared.{chain.LengthKind.TheVariants.Reaction, group.Group.Group, task.AccessKind.{AccessKind, TheVariants.{Explicit, Implicit, Timed}}}, Kinds.is_timed}
use Rattle.cl_runs.specs.{TaskTiming.{System, timing_at, IsSound}, Table.job_at, Run.{Run, jobs_of}, Moments.{ReadsBy, Reads, Writes}, Chains.first_job, RunChains.run_moments}
use Rattle.cl_runs.proofs.MomentFacts.{has_read}
use Rattle.cl_hop.specs.{declared.group_timing.GroupTiming.GroupTiming, Timings.AlwaysKeeps}
use Rattle.cl_hop.proofs.LaterRuns.{writes_in_time}
use Rattle.cl_phase.specs.{CompleteChains.{HasChainOfKind, HasCompleteChains}, EarlyReads.ReadsBeforeNext}
use Rattle.cl_phase.proofs.ChainsComplete.{has_complete_chains}

-- a timed job reads at its arrival
reads_at_arrival : (access : AccessKind) → is_timed access ≡ true → (system : System) (run : Run) (task job place tick : ℕ)
    → ReadsBy access system run task job place tick → tick ≡ (job_at (jobs_of run task) job).arrival
reads_at_arrival Explicit is system run task job place tick reads = absurd (true≢false (sym is))
reads_at_arrival Implicit is system run task job place tick reads = absurd (true≢false (sym is))
reads_at_arrival Timed is system run task job place tick reads = reads

module _ (system : System) (sound : IsSound system) (group : Group) (timing : GroupTiming) (keeps : AlwaysKeeps system group timing) where
  -- some legal run has jobs of the group that read and write
  has : HasCompleteChains system (group ∷ [])
  has = has_complete_chains system sound (λ g. timing) (group ∷ []) (omega arith)
      (All-cons (λ (g : Group). AlwaysKeeps system g timing) group [] keeps (All-nil (λ (g : Group). AlwaysKeeps system g timing)))

  one : HasChainOfKind system has.run (group ∷ []) Reaction
  one = has.each Reaction

  pub timed_reads_at_once : timing.is_timed ≡ true → timing.read ≡ 0
  unfolding run_moments
  timed_reads_at_once timed =
      let job = first_job one.chain - 1 in
      let reads : Reads system has.run group.task job group.first one.chain.from = one.complete.from in
      let at = reads_at_arrival (timing_at system group.task).access (sym keeps.of_group.is_timed ∙ timed) system has.run group.task
      job group.first one.chain.from reads.moment in
      omega (arith, at, (keeps.always has.run has.legal).reads job one.chain.from reads)

  pub reads_before_next : timing.write ≤ (timing_at system group.task).deadline → ReadsBeforeNext system group timing
  unfolding run_moments
  reads_before_next by_deadline =
      let job = first_job one.chain in
      let written = one.complete.written 0 (omega arith) in
      let writes : Writes system has.run group.task job group.last written.write = written.writes in
      let (read, before, reads) =
      has_read system sound has.run has.legal group.task job group.first group.last written.write keeps.is_group.ordered writes in
      omega (
        arith,
        by_deadline,
        (sound.tasks group.task keeps.is_group.is_task).within_distance,
        before,
        (keeps.always has.run has.legal).reads job read reads,
        writes_in_time system sound has.run has.legal group timing keeps job written.write writes,
      )

pub writers_by_deadline_read_first : (system : System) → IsSound system → (group : Group) (timing : GroupTiming) → AlwaysKeeps system group timing
    → timing.write ≤ (timing_at system group.task).deadline → ReadsBeforeNext system group timing
writers_by_deadline_read_first system sound group timing keeps by_deadline = reads_before_next system sound group timing keeps by_deadline
