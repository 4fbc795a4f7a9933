-- Groups whose timings always hold have a delay of 1 tick or more in some legal run, so their tight bound on it is 1 tick or more.
use Rattle.std.proofs.Common.{◌≡◌, ℕ, zero, suc, ◌-◌, ◌<◌, ◌≤◌, List, length, refl, subst, arith}
use Rattle.std.specs.Prelude.{slice_index, All}
use Rattle.cl_model.specs.{declared.{chain.LengthKind.TheVariants.Reaction, group.Group.Group}, Groups.{no_group, group_at}}
use Rattle.cl_runs.specs.{TaskTiming.{System, IsSound}, Table.job_at, Run.{Run, jobs_of}, Legal.IsLegal, Chains.{Moments, JobChain, chain_length, first_group, last_group, first_job, IsForwardChain}, MomentOrder.{AreInOrder, HaveReadBeforeWriting}, RunChains.run_moments}
use Rattle.cl_runs.specs.Delays.{IsDelayChain}
use Rattle.cl_runs.proofs.OrderedMoments.{run_in_order}
use Rattle.cl_hop.specs.{Timings.AlwaysKeeps, declared.group_timing.GroupTiming.GroupTiming}
use Rattle.cl_hop.proofs.ChainBounds.{AreAlwaysKept}
use Rattle.cl_phase.specs.TightBounds.{tight_bounds}
use Rattle.cl_phase.proofs.{ChainsComplete.has_complete_chains, KeptInTime.kept_read_first, DelaySafety.delays_within}

module _ (system : System) (sound : IsSound system) (timing : Group → GroupTiming) (groups : List Group) (keep : AreAlwaysKept system timing groups)
    (run : Run) (legal : IsLegal system run) (chain : JobChain) (complete : IsForwardChain (run_moments system run) groups chain) where
  abbrev moments : Moments
  moments = run_moments system run

  -- a complete forward chain is one from the arrival of its first job
  from_arrival : JobChain
  from_arrival = record { from = (job_at (jobs_of run (first_group groups).task) (first_job chain)).arrival; to = chain.to; jobs = chain.jobs }

  takes_event : IsDelayChain system run groups from_arrival
  unfolding from_arrival
  takes_event = record {
    some_group = complete.some_group;
    one_a_group = complete.one_a_group;
    not_first = λ i h. complete.not_first (suc i) h;
    written = complete.written;
    linked = complete.linked;
    from = refl;
    to = complete.to;
  }

  order : AreInOrder moments groups
  order = run_in_order system sound run legal groups

  read_first : HaveReadBeforeWriting moments groups
  read_first = kept_read_first system sound run legal timing groups keep

  -- all its writes come after that
  written_after : (i write : ℕ) → i < length groups → moments.writes (group_at groups i) (slice_index chain.jobs i) write → from_arrival.from < write
  unfolding from_arrival run_moments
  written_after zero write h writes =
      let (read, earlier, reads) = read_first 0 (first_job chain) write h writes in
      omega (arith, earlier, ((keep 0 h).always run legal).reads (first_job chain) read reads)
  written_after (suc i) write h writes =
      let link = complete.linked i h in
      let (read, earlier, reads) = read_first (suc i) (slice_index chain.jobs (suc i)) write h writes in
      omega (
        arith,
        earlier,
        link.after,
        order.unique.reads (suc i) (slice_index chain.jobs (suc i)) read link.read h reads link.reads,
        written_after i link.write (omega (arith, h)) link.writes,
      )

  delay_lasts : 1 ≤ chain_length from_arrival
  unfolding from_arrival
  delay_lasts =
      let last : length chain.jobs - 1 ≡ length groups - 1 = omega (arith, complete.one_a_group) in
      let after = written_after (length groups - 1) chain.to (omega (arith, complete.some_group))
      (subst (λ i. moments.writes (last_group groups) (slice_index chain.jobs i) chain.to) last complete.to) in
      omega (arith, after)

pub delay_takes_time : (system : System) → IsSound system → (timing : Group → GroupTiming) (groups : List Group) → 0 < length groups
    → All (λ (group : Group). AlwaysKeeps system group (timing group)) groups → 1 ≤ (tight_bounds system timing groups).delay
delay_takes_time system sound timing groups some all =
    let keep : AreAlwaysKept system timing groups = λ place h. all place no_group h in
    let has = has_complete_chains system sound timing groups some all in
    let one = has.each Reaction in
    omega (
      arith,
      delay_lasts system sound timing groups keep has.run has.legal one.chain one.complete,
      delays_within system sound timing groups (λ place d h. (all place d h).is_group) keep has.run has.legal
          (from_arrival system sound timing groups keep has.run has.legal one.chain one.complete)
          (takes_event system sound timing groups keep has.run has.legal one.chain one.complete),
    )
